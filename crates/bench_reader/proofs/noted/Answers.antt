-- `noted` meets its contract: what is noted, folded. Assumes nothing.
use Rattle.std.proofs.Common.{sym, ap, ◌∙◌, rules}
use Rattle.bench_reader.specs.Digests.{window_part}
use Rattle.bench_reader.proofs.Tables.{noted_reading, noted_fault, noted_accepted, noted_beyond}
use Rattle.bench_reader.proofs.noted.Goals as goal

pub returns-then-not-is_accepted : goal.returns-then-not-is_accepted
returns-then-not-is_accepted c = noted_fault _ (noted_reading _ _ _ c.requires c.note-noted.ensures) (sym c.is_accepted.ensures ∙ c.if-not-is_accepted.true) c.fault.ensures

pub returns-then-i-ge-CHANNEL_IDS : goal.returns-then-i-ge-CHANNEL_IDS
returns-then-i-ge-CHANNEL_IDS c = noted_beyond _ (noted_reading _ _ _ c.requires c.note-noted.ensures) (sym c.is_accepted.ensures ∙ c.if-not-is_accepted.false) (search rules) (search rules) c.if-i-ge-CHANNEL_IDS.true c.noted_sum.ensures

pub returns : goal.returns
returns c = noted_accepted _ (noted_reading _ _ _ c.requires c.note-noted.ensures) (sym c.is_accepted.ensures ∙ c.if-not-is_accepted.false) c.status_code-reported.ensures (c.window-edge.ensures ∙ ap window_part c.window.ensures) c.noted_sum-2.ensures
