-- `settle::channel` meets its contract. Assumes nothing.
use mathlib.Core.Path.{ap, ◌∙◌}
use Rattle.std.proofs.lemmas.Result.{err_from_is_err_and}
use Rattle.radio_end_state.specs.declared.channel.Channel.{Channel}
use Rattle.radio_end_state.specs.Channel.{channel_differs}
use Rattle.quantity.specs.Limits.{CHANNEL-IDS}
use Rattle.radio_end_telling.proofs.Settling.{settle_change, channel_quiet, channel_wrote, channel_refused}
use Rattle.radio_end_telling.proofs.settle.channel.Goals as goal

pub returns-then-not-differs : goal.returns-then-not-differs
returns-then-not-differs c = channel_quiet _ _ _ c.requires _ _ (c.differs.ensures ∙ ap (λ (b : Channel). channel_differs b c.args.after) c.load-before.ensures) (c.if-not-differs.true) _ c.save.ensures

pub write-requires : goal.write-requires
write-requires c = settle_change _ _ _ c.requires _ c.context-context.ensures

pub returns-in_err-size : goal.returns-in_err-size
returns-in_err-size c = let p = err_from_is_err_and c.from_residual.result c.from_residual.ensures.1 in rw (p.1, p.2) (channel_refused _ _ _ c.requires _ _ (c.differs.ensures ∙ ap (λ (b : Channel). channel_differs b c.args.after) c.load-before.ensures) (c.if-not-differs.false) CHANNEL-IDS _ c.context-context.ensures _ _ c.write.ensures _ c.in_err-size.was)

pub returns : goal.returns
returns c = channel_wrote _ _ _ c.requires _ _ (c.differs.ensures ∙ ap (λ (b : Channel). channel_differs b c.args.after) c.load-before.ensures) (c.if-not-differs.false) CHANNEL-IDS _ c.context-context.ensures _ _ c.write.ensures _ c.in_ok-size.was _ c.save-2.ensures
