-- `digest::control_sum` meets its contract, part by part. Assumes nothing.
-- what is stated of the whole
use Rattle.std.proofs.Common.{◌≡◌, ℕ, ◌≤◌, List, [], ◌∷◌, length, get_or, arith, rules, None}
use lib.ListN.{get_or-eq_default}
use Rattle.facts.proofs.Lists.{length_mapped}
use Rattle.quantity.specs.Limits.{CHANNEL-IDS}
use Rattle.meaning.proofs.Tables.{Full}
use Rattle.bench_reader.specs.Digests.{datalink_part, instance_part, instance_length, context_part, context_length, mixed_all, control_sum}
use Rattle.bench_reader.proofs.digest.control_sum.Goals as goal

-- a table has no place for the channel

beyond : {A : Type 0} (cells : List A) (absent : A) {channel : ℕ} → length cells ≡ CHANNEL-IDS → CHANNEL-IDS ≤ channel → get_or cells channel absent ≡ absent
beyond cells absent full far = get_or-eq_default cells absent (omega arith)

pub returns-then-i-ge-CHANNEL_IDS : goal.returns-then-i-ge-CHANNEL_IDS
unfolding control_sum
returns-then-i-ge-CHANNEL_IDS c =
    let m = c.args.message in
    let far = c.if-i-ge-CHANNEL_IDS.true in
    rw (c.mix-then-i-ge-CHANNEL_IDS-3.ensures, c.mix-then-i-ge-CHANNEL_IDS-2.ensures, c.mix-then-i-ge-CHANNEL_IDS.ensures, (let the_whole_is : let m = c.args.message in c.mix-whole.result ≡ mixed_all 0 (datalink_part m.datalink ∷ instance_part m.instance ∷ instance_length m.instance ∷ context_part m.context ∷ context_length m.context ∷ []) = rw (c.mix-whole.ensures, c.context_length.ensures, c.mix-3.ensures, c.context.ensures, c.mix-2.ensures, c.instance_length.ensures, c.mix-begun.ensures, c.instance.ensures, c.mix.ensures, c.datalink.ensures) in the_whole_is), beyond m.statuses None ((let the_full : let m = c.args.message in Full m.statuses m.sequences m.windows = record { statuses_full = search (length_mapped, rules); sequences_full = search (length_mapped, rules); windows_full = search (length_mapped, rules) } in the_full)).statuses_full far, beyond m.sequences None ((let the_full : let m = c.args.message in Full m.statuses m.sequences m.windows = record { statuses_full = search (length_mapped, rules); sequences_full = search (length_mapped, rules); windows_full = search (length_mapped, rules) } in the_full)).sequences_full far, beyond m.windows None ((let the_full : let m = c.args.message in Full m.statuses m.sequences m.windows = record { statuses_full = search (length_mapped, rules); sequences_full = search (length_mapped, rules); windows_full = search (length_mapped, rules) } in the_full)).windows_full far)

pub returns : goal.returns
unfolding control_sum
returns c =
    let m = c.args.message in
    let whole_is : c.mix-whole.result ≡ mixed_all 0 (datalink_part m.datalink ∷ instance_part m.instance ∷ instance_length m.instance ∷ context_part m.context ∷ context_length m.context ∷ []) =
    rw (c.mix-whole.ensures, c.context_length.ensures, c.mix-3.ensures, c.context.ensures, c.mix-2.ensures, c.instance_length.ensures, c.mix-begun.ensures, c.instance.ensures, c.mix.ensures, c.datalink.ensures) in
    rw (c.mix-6.ensures, c.window.ensures, c.mix-5.ensures, c.sequence.ensures, c.mix-4.ensures, c.byte.ensures, whole_is)
