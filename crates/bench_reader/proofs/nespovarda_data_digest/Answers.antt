-- `nespovarda_data_digest` meets its contract: what is read, folded, and the packet behind it. Assumes nothing.
use Rattle.std.proofs.Common.{◌≡◌, ℕ, Bool, true, false, cond, List, sym, refl, ◌∙◌, arith}
use Rattle.facts.proofs.Lists.{rest_part}
use Rattle.facts.proofs.Tests.{clash}
use Rattle.reader.proofs.Carried.{carried_reading_lem, carried_within}
use Rattle.reader.specs.Readings.{Verdict, DataReading, packet_of, read_data}
use Rattle.bench_reader.specs.Digests.{end_of, is_accepted, fault_of, data_digest, packet_digest}
use Rattle.bench_reader.proofs.nespovarda_data_digest.Goals as goal

refused-digest : (handed : Bool) (reading : DataReading) (packet : List ℕ) → is_accepted reading.verdict ≡ false
    → fault_of reading.verdict ≡ cond handed (packet_digest reading packet) (data_digest reading)
refused-digest true reading packet e = rw e refl
refused-digest false reading packet e = rw e refl

accepted_is : (verdict : Verdict) → is_accepted verdict ≡ true → verdict ≡ Verdict.Accepted
accepted_is Verdict.Accepted e = refl
accepted_is Verdict.OtherPlane e = clash e
accepted_is (Verdict.Refused refusal) e = clash e

pub returns-then-not-is_accepted : goal.returns-then-not-is_accepted
returns-then-not-is_accepted c =
    let args = c.args in
    rw (← (let the_same : let args = c.args in c.read_with_packet-carried.result.reading ≡ read_data (end_of args.radio) (record { 0 = args.id }) args.datagram.now = rw (← c.end_of.ensures) (carried_reading_lem _ _ _ c.read_with_packet-carried.ensures.value) in the_same)) (c.fault.ensures ∙ refused-digest args.handed c.read_with_packet-carried.result.reading (packet_of args.datagram.now) (sym c.is_accepted.ensures ∙ c.if-not-is_accepted.true))

pub returns-then-not-handed : goal.returns-then-not-handed
returns-then-not-handed c = rw (c.if-not-handed.true, ← (let the_same : let args = c.args in c.read_with_packet-carried.result.reading ≡ read_data (end_of args.radio) (record { 0 = args.id }) args.datagram.now = rw (← c.end_of.ensures) (carried_reading_lem _ _ _ c.read_with_packet-carried.ensures.value) in the_same), sym c.is_accepted.ensures ∙ c.if-not-is_accepted.false) c.data_sum-sum.ensures

pub slice_bounds-packet_sum-count : goal.slice_bounds-packet_sum-count
slice_bounds-packet_sum-count c = omega (arith, carried_within _ _ _ c.read_with_packet-carried.ensures.value)

pub slice_bounds-packet_sum-start : goal.slice_bounds-packet_sum-start
slice_bounds-packet_sum-start c = carried_within _ _ _ c.read_with_packet-carried.ensures.value

pub returns : goal.returns
returns c =
    let accepted : is_accepted c.read_with_packet-carried.result.reading.verdict ≡ true = sym c.is_accepted.ensures ∙ c.if-not-is_accepted.false in
    rw (c.if-not-handed.false, ← (let the_same : let args = c.args in c.read_with_packet-carried.result.reading ≡ read_data (end_of args.radio) (record { 0 = args.id }) args.datagram.now = rw (← c.end_of.ensures) (carried_reading_lem _ _ _ c.read_with_packet-carried.ensures.value) in the_same), accepted)
    (c.packet_sum.ensures ∙ rw (rest_part, c.read_with_packet-carried.ensures.packet (accepted_is _ accepted), c.data_sum-sum.ensures))
