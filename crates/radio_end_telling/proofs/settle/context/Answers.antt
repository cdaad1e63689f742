-- `settle::context` meets its contract. Assumes nothing.
use Rattle.std.proofs.lemmas.Result.{err_from_is_err_and}
use Rattle.quantity.specs.Limits.{CHANNEL-IDS}
use Rattle.radio_end_telling.proofs.Settling.{past_change, context_quiet, context_wrote, context_refused}
use Rattle.radio_end_telling.proofs.settle.context.Goals as goal

pub returns-then-same_context : goal.returns-then-same_context
returns-then-same_context c = context_quiet _ _ _ _ c.context-before.ensures _ c.same_context.ensures c.if-same_context.true _ c.save_context.ensures

pub write-requires : goal.write-requires
write-requires c = past_change _ _ _ _ c.requires.words_value c.requires.after_value c.count-count.ensures c.no_channel.ensures

pub returns-in_err-size : goal.returns-in_err-size
returns-in_err-size c = let p = err_from_is_err_and c.from_residual.result c.from_residual.ensures.1 in rw (p.1, p.2) (context_refused _ _ _ _ c.context-before.ensures _ c.same_context.ensures c.if-same_context.false CHANNEL-IDS _ c.count-count.ensures _ c.no_channel.ensures _ _ c.write.ensures _ c.in_err-size.was)

pub returns : goal.returns
returns c = context_wrote _ _ _ _ c.context-before.ensures _ c.same_context.ensures c.if-same_context.false CHANNEL-IDS _ c.count-count.ensures _ c.no_channel.ensures _ _ c.write.ensures _ c.in_ok-size.was _ c.save_context-2.ensures
