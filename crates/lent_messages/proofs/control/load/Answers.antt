-- `control::load` meets its contract. Assumes nothing.
use Rattle.quantity.specs.Limits.{CHANNEL-IDS}
use Rattle.std.proofs.Common.{rules, None}
use Rattle.lent_messages.specs.Stated.{datalink_of}
use Rattle.lent_messages.specs.Words.{channel_start, status_at, sequence_at, window_at, control_of}
use Rattle.lent_messages.proofs.Ranges.{made_table}
use Rattle.lent_messages.proofs.control.load.Goals as goal

pub returns : goal.returns
unfolding control_of datalink_of
returns c =
    let statuses = made_table (λ id. status_at c.args.words.now (channel_start id)) None _ (λ i a q k. search rules) CHANNEL-IDS c.from_fn.result c.from_fn.ensures.items in
    let sequences = made_table (λ id. sequence_at c.args.words.now (channel_start id)) None _ (λ i a q k. search rules) CHANNEL-IDS c.from_fn-2.result c.from_fn-2.ensures.items in
    let windows = made_table (λ id. window_at c.args.words.now (channel_start id)) None _ (λ i a q k. search rules) CHANNEL-IDS c.from_fn-3.result c.from_fn-3.ensures.items in
    rw (c.one_of.ensures, c.instance_of.ensures, c.context_of.ensures, statuses, sequences, windows)
