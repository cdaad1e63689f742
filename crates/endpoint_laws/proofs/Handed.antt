-- What Next hands over, read back field by field; "the answers otherwise .. leave the output's bytes as they stood". Assumes nothing.
use Rattle.std.specs.Prelude.{Option, Result, Ok}
use Rattle.quantity.specs.declared.count.FlowSequence.{FlowSequence}
use Rattle.quantity.specs.declared.refusal.Refusal.{Refusal}
use Prim.Native.Nat.{ℕ}
use mathlib.Core.Bool.{true}
use mathlib.Core.List.{List, ◌∷◌}
use mathlib.Core.Path.{◌≡◌, refl, sym}
use lib.ListN.{length, take, drop}
use lib.Seq.{drop_at}
use Rattle.facts.proofs.Tests.{clash}
use Rattle.quantity.specs.declared.count.ByteCount.{ByteCount}
use Rattle.wire.specs.Options.{over}
use Rattle.meaning.specs.declared.message.End.TheVariants as ends
use Rattle.reader.specs.Readings.{Verdict, read_data}
use Rattle.store.specs.Packets.{Packet}
use Rattle.flow.specs.declared.Flow.{Flow}
use Rattle.flow.specs.Counting.{may_go, sequence_on, carried_by}
use Rattle.ips_channel_rules.specs.Rules.{next, Tried, nothing_waiting, not_operational, window_shut, sent, Answer, refused, answered, Terms, AfterCall, counted_on, message_of, message_bytes}
use Rattle.ips_channel_rules.specs.Machine.{machine}
use Rattle.ips_channel_rules.specs.Exactly.{Asked, asked_early, asked_nothing, asked_not_operational, asked_shut, asked_no_room, asked_sent}
use Rattle.ips_channel_rules.proofs.Exact as rules
use Rattle.ips_channel.specs.declared.state.Channel.{Channel}
use Rattle.ips_channel.specs.Channel.{condition_of}
use Rattle.ips_channel_calls.specs.declared.asking.NextAnswer.{NextAnswer}
use Rattle.ips_channel_calls.specs.Calls.{asked}
use Rattle.ips_state.specs.Memory.{World, index_in, channel_in}
use Rattle.ips_run.specs.Calling.{terms_in, condition_in, WorldResult, calling, Judged, outside, unknown, served}
use Rattle.ips_run.specs.Run.{on}
use Rattle.ips_run.proofs.Exact.{judged}
use Rattle.ips_calls.specs.Replies.{of_channel}
use Rattle.ips_calls.specs.Calls.{Performed}
use Rattle.ips_calls.specs.ReadBack.{ReadBack}
use Rattle.ips_calls.proofs.Counted.{reads_back}
use Rattle.endpoint_laws.specs.Given.{Configured, not_due_in}
use Rattle.endpoint_laws.specs.Handed.{SequenceRead, read_none, read_sum, HandedOver}
use Rattle.endpoint_laws.proofs.Given.{found_named}

-- the Flow Sequence of a packet that fits
carries : (c : Channel) (id n : ℕ) (flow : Flow) → c.flow ≡ flow → may_go flow c.sequence (record { 0 = n }) ≡ true
    → SequenceRead c id n (counted_on id (carried_by flow (sequence_on flow c.sequence (record { 0 = n }))))
carries c id n Flow.Free e may = read_none e
carries c id n Flow.NoWindow e may = clash may
carries c id n (Flow.InForce window) e may = read_sum e

-- the packet and the Flow Sequence that the rules answer
record FirstGoes (w : World) (id time : ℕ) (packet : List ℕ) (sequence : Option FlowSequence) : Type 0 where
  index : ℕ
  named : Configured w id index
  first : Packet
  behind : List Packet
  waits : not_due_in w index time ≡ first ∷ behind
  packet_is : packet ≡ first.bytes
  sequence_is : SequenceRead (channel_in w index) id (length first.bytes) (counted_on id sequence)

module _ (w : World) (id time : ℕ) (out : List ℕ) where
  module _ (packet : List ℕ) (sequence : Option FlowSequence) where
    first_goes : (index : ℕ) → Configured w id index → (r : AfterCall machine Tried) → Asked machine (terms_in w index) time (length out) (condition_in w index) r
        → r.answer ≡ answered (sent packet sequence) → FirstGoes w id time packet sequence
    unfolding condition_of
    first_goes index n _ (asked_early t) e = clash (cc)
    first_goes index n _ (asked_nothing t l) e = clash (cc)
    first_goes index n _ (asked_not_operational t l o) e = clash (cc)
    first_goes index n _ (asked_shut t l o f) e = clash (cc)
    first_goes index n _ (asked_no_room t l o f r) e = clash (cc)
    first_goes index n _ (asked_sent {p} {ps} t l o f r) e =
        let c = channel_in w index in
        let bytes : p.bytes ≡ packet = cc in
        let carried : carried_by c.flow (sequence_on c.flow c.sequence (record { 0 = length p.bytes })) ≡ sequence = cc in
        record {
          index = index;
          named = n;
          first = p;
          behind = ps;
          waits = l;
          packet_is = sym bytes;
          sequence_is = rw (← carried) (carries c id (length p.bytes) c.flow refl f);
        }

    first_judged : {r : WorldResult Tried} → Judged id (next time out) w r → r.answer ≡ answered (sent packet sequence) → FirstGoes w id time packet sequence
    first_judged (outside f) e = clash (cc)
    first_judged (unknown f g) e = clash (cc)
    first_judged (served f g) e =
        first_goes (index_in w id) (found_named w id f g) _ (rules.asked machine (terms_in w (index_in w id)) time (length out) (condition_in w (index_in w id))) e

  abbrev k : Terms
  k = terms_in w (index_in w id)

  module _ (out' : List ℕ) (w' : World) where
    read_over : (count : ByteCount) (packet : List ℕ) (sequence : Option FlowSequence) → FirstGoes w id time packet sequence → ReadBack k id packet sequence (Ok (NextAnswer.Sent count)) out'
        → out' ≡ over (message_bytes k sequence packet) out → length (message_bytes k sequence packet) ≡ count.0 → HandedOver w id time count out out'
    read_over count packet sequence f back bytes long =
        let size : back.size ≡ count.0 = cc back.counted in
        let read : read_data ends.Ips w.state.datalink.id (take count.0 out') ≡ record { verdict = Verdict.Accepted; message = message_of k sequence } = rw (← size) back.accepted in
        record {
          index = f.index;
          named = f.named;
          first = f.first;
          behind = f.behind;
          waits = f.waits;
          accepted = rw read;
          datalink = rw read;
          sequence = rw (read, back.named) f.sequence_is;
          channel = rw (read, back.named);
          no_expiration_lem = rw read;
          packet = rw (← size, back.carries) f.packet_is;
          rest = rw (bytes, ← long) (drop_at (message_bytes k sequence packet) (drop (length (message_bytes k sequence packet)) out) (length (message_bytes k sequence packet)) refl);
        }

    -- WHAT NEXT HANDS OVER
    pub handed_over_lem : (count : ByteCount) → Performed (on id (next time out)) w (of_channel (asked (Ok (NextAnswer.Sent count)) out')) w' → HandedOver w id time count out out'
    handed_over_lem count h = go (calling id (next time out) w).answer refl
      where
        go : (a : Answer Tried) → (calling id (next time out) w).answer ≡ a → HandedOver w id time count out out'
        go (refused number) e = clash (cc (rw e at h.reply_is))
        go (answered nothing_waiting) e = clash (cc (rw e at h.reply_is))
        go (answered not_operational) e = clash (cc (rw e at h.reply_is))
        go (answered window_shut) e = clash (cc (rw e at h.reply_is))
        go (answered (sent packet sequence)) e =
            let message = message_bytes k sequence packet in
            let counted : ◌≡◌ {A = Result NextAnswer Refusal} (Ok (NextAnswer.Sent count)) (Ok (NextAnswer.Sent (record { 0 = length message }))) = cc (rw e at h.reply_is) in
            let bytes : out' ≡ over message out = cc (rw e at h.reply_is) in
            read_over count packet sequence (first_judged packet sequence (judged id (next time out) w) e) (reads_back w id time out packet sequence e (Ok (NextAnswer.Sent count)) out' w' h) bytes (cc counted)

    -- "The answers otherwise .. leave the output's bytes as they stood.", and refusals do
    pub nothing_over : (answer : Result NextAnswer Refusal) → ((count : ByteCount) → answer ≡ Ok (NextAnswer.Sent count) → ⊥) → Performed (on id (next time out)) w (of_channel (asked answer out')) w' → out' ≡ out
    nothing_over answer not h = go (calling id (next time out) w).answer refl
      where
        go : (a : Answer Tried) → (calling id (next time out) w).answer ≡ a → out' ≡ out
        go (refused number) e = cc (rw e at h.reply_is)
        go (answered nothing_waiting) e = cc (rw e at h.reply_is)
        go (answered not_operational) e = cc (rw e at h.reply_is)
        go (answered window_shut) e = cc (rw e at h.reply_is)
        go (answered (sent packet sequence)) e =
            let counted : answer ≡ Ok (NextAnswer.Sent (record { 0 = length (message_bytes k sequence packet) })) = cc (rw e at h.reply_is) in
            absurd (not _ counted)
