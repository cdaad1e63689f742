-- A query states the count of each flow-controlled channel, whatever was called before, and is read back so; what Next hands over is read back as that packet, that
-- channel and that Flow Sequence. Assumes nothing.
use Rattle.meaning.specs.declared.message.Window.{Window}
use Rattle.std.specs.Prelude.{Option, Some, None, Result, Ok}
use Rattle.quantity.specs.declared.refusal.Refusal.{Refusal}
use Prim.Native.Nat.{ℕ, zero, suc, ◌<◌, ◌≤◌, ◌^◌}
use mathlib.Core.Bool.{Bool, true, false, cond, ◌&&◌, ◌||◌, and-eq-true_iff}
use mathlib.Core.List.{List, [], ◌∷◌}
use mathlib.Core.Path.{◌≡◌, refl, sym, ap, ◌∙◌}
use native.Mathlib.Omega.{arith}
use borrow.Author.Tests.{ltb-false}
use lib.ListN.{length, take, drop, get_or, replicate, length-replicate, get_or-replicate}
use lib.Seq.{take_at}
use lib.Dec.{eqb, ltb}
use Rattle.facts.proofs.Tests.{clash}
use Rattle.quantity.specs.declared.count.FlowSequence.{FlowSequence}
use Rattle.quantity.specs.declared.count.ByteCount.{ByteCount}
use Rattle.quantity.specs.Limits.{CHANNEL-IDS, RESERVED-CHANNEL, LONGEST-PACKET, LONGEST-DATAGRAM}
use Rattle.quantity.specs.Window.{sequence_at}
use Rattle.wire.specs.Options.{over}
use Rattle.meaning.specs.declared.message.End.TheVariants as ends
use Rattle.reader.specs.Readings.{Verdict, read_control, read_data, packet_of}
use Rattle.read_control.specs.Message.{control_accepted}
use Rattle.writable.specs.Allowed.{control_allowed}
use Rattle.writer.specs.Written as writer
use Rattle.writer.specs.Written.{no_room_of, control_written}
use Rattle.roundtrip.specs.Values.{SequenceWord, WindowWord, ControlValue, DataValue}
use Rattle.roundtrip.proofs.Data.{data_round, packet_round}
use Rattle.roundtrip.proofs.Returned.{control_returned}
use Rattle.store.specs.Packets.{alive}
use Rattle.store.proofs.Entries.{within_limits}
use Rattle.store.proofs.Held.{Fit, fit_first}
use Rattle.flow.specs.declared.Flow.{Flow}
use Rattle.flow.specs.Counting.{sequence_on, carried_by}
use Rattle.ips_channel_rules.specs.Rules.{next, Tried, sent, answered, Terms, Condition, AfterCall, grown, final, message_of, message_bytes}
use Rattle.ips_channel_rules.specs.Machine.{machine}
use Rattle.ips_channel_rules.specs.Simple.{simple}
use Rattle.ips_channel_rules.specs.Exactly.{Asked, asked_early, asked_nothing, asked_not_operational, asked_shut, asked_no_room, asked_sent}
use Rattle.ips_channel_rules.proofs.Exact as rules
use Rattle.ips_channel.specs.declared.state.Channel.{Channel}
use Rattle.ips_channel.specs.Channel.{condition_of}
use Rattle.ips_channel_calls.specs.declared.asking.NextAnswer.{NextAnswer}
use Rattle.ips_channel_calls.specs.Calls.{asked, Ready}
use Rattle.ips_channel_calls.proofs.Leaving.{ready_alive}
use Rattle.ips_channel_calls.proofs.Message.{carrier_allowed}
use Rattle.ips_state.specs.State.{Configuration, State, channel_at, no_channel, start_at}
use Rattle.ips_state.specs.Limits.{state_fits, configuration_taken}
use Rattle.ips_state.specs.Memory.{memory_fits, store_at, World, world_fits, index_in, channel_in, store_in}
use Rattle.ips_state.proofs.Places.{found, channel_fitting_at, store_length}
use Rattle.ips_query.specs.Query.{sequence_for, sequences_of, query_of}
use Rattle.ips_query.proofs.Queries.{query_place, query_allowed, sequences_length, sequence_controlled, sequence_plain}
use Rattle.ips_run.specs.Calling.{terms_in, condition_in, result_in, WorldResult, calling, Judged, outside, unknown, served}
use Rattle.ips_run.specs.Run.{Call, on, query}
use Rattle.ips_run.specs.Demand.{BytesIn, id_at, reached, ruled, seen, simply_at}
use Rattle.ips_run.proofs.Exact.{judged}
use Rattle.ips_run.proofs.Whole.{whole_holds, reached_fits}
use Rattle.ips_calls.specs.Query.{stated_for}
use Rattle.ips_calls.specs.Replies.{of_channel, of_query}
use Rattle.ips_calls.specs.Calls.{lending, Performed}
use Rattle.ips_calls.specs.ReadBack.{ReadBack, SequenceWords}
use Rattle.ips_calls.proofs.Querying.{query_gives}

-- ---- the query
stated_is : (s : State) (id : ℕ) → id < CHANNEL-IDS → stated_for s id ≡ sequence_for id s.channels
unfolding query_of
stated_is s id h = query_place s.channels id h

channel_sequence : (c : Channel) (store : List ℕ) → (condition_of c store).counting.sequence ≡ c.sequence
unfolding condition_of
channel_sequence c store = refl

module _ (k : Configuration) (fits : configuration_taken k ≡ true) (index : ℕ) (inside : index < length k.starts)
    (cs : List Call) (bytes : BytesIn cs) where
  abbrev s : State
  s = (reached k cs).state

  within : index < length s.channels
  within = omega (arith, (reached_fits k fits cs bytes).order.counted)

  id_is : (channel_at s index).setting.id ≡ id_at k index
  id_is = ap (λ (x : Terms). x.id) ((reached_fits k fits cs bytes).terms index inside)

  controlled_is : (channel_at s index).setting.controlled ≡ (start_at k index).setting.controlled
  controlled_is = ap (λ (x : Terms). x.controlled) ((reached_fits k fits cs bytes).terms index inside)

  stated_at : stated_for s (id_at k index) ≡ sequence_for (channel_at s index).setting.id s.channels
  stated_at =
      let order = (reached_fits k fits cs bytes).order in
      rw (← id_is) (stated_is s (channel_at s index).setting.id (channel_fitting_at s order.state_fits_lem index within).unreserved)

  -- the count of the simple channel, in its low 32 bits
  pub query_counts : (start_at k index).first.0 < 2 ^ 32 → (start_at k index).setting.controlled ≡ true
      → stated_for s (id_at k index) ≡ Some (sequence_at (final simple (ruled k index) (seen k index cs) (simply_at k index)).counting.count)
  query_counts small controlled =
      let order = (reached_fits k fits cs bytes).order in
      let store = store_at s index (reached k cs).memory in
      stated_at ∙ sequence_controlled s order.state_fits_lem index within (controlled_is ∙ controlled)
      ∙ ap Some (sym (channel_sequence (channel_at s index) store) ∙ (whole_holds k fits index inside small cs bytes).sequence)

  pub query_plain : (start_at k index).setting.controlled ≡ false → stated_for s (id_at k index) ≡ None
  query_plain plain =
      let order = (reached_fits k fits cs bytes).order in
      stated_at ∙ sequence_plain s order.state_fits_lem index within (controlled_is ∙ plain)

-- ---- the message of a query
-- what holds of each place of a list, and of an absent one
each_place : {C : Type 0} (P : C → Type 0) (absent : C) → P absent → (cells : List C) → ((n : ℕ) → n < length cells → P (get_or cells n absent)) → (n : ℕ) → P (get_or cells n absent)
each_place P absent p [] h n = p
each_place P absent p (cell ∷ cells) h zero = h 0 (omega arith)
each_place P absent p (cell ∷ cells) h (suc n) = each_place P absent p cells (λ m inside. h (suc m) (omega arith)) n

sequence_word : (id : ℕ) (cs : List Channel) → ((n : ℕ) → n < length cs → (get_or cs n no_channel).sequence.0 < 2 ^ 32) → SequenceWord (sequence_for id cs)
unfolding sequence_for
sequence_word id [] h = tt
sequence_word id (c ∷ cs) h = go (c.setting.controlled && eqb c.setting.id id) (sequence_word id cs (λ m inside. h (suc m) (omega arith)))
  where
    go : (b : Bool) → SequenceWord (sequence_for id cs) → SequenceWord (cond b (Some c.sequence) (sequence_for id cs))
    go true more = h 0 (omega arith)
    go false more = more

module _ (s : State) (words : SequenceWords s) where
  words_at_lem : (n : ℕ) → n < length s.channels → (get_or s.channels n no_channel).sequence.0 < 2 ^ 32
  unfolding channel_at
  words_at_lem n inside = words n inside

  query_value : ControlValue (query_of s)
  unfolding query_of
  query_value = record {
    statuses_long = length-replicate {A = Option ℕ} CHANNEL-IDS None;
    sequences_long = sequences_length s.channels;
    windows_long = length-replicate {A = Option Window} CHANNEL-IDS None;
    sequence_words = each_place (λ (cell : Option FlowSequence). SequenceWord cell) None tt (sequences_of s.channels) (λ n inside.
        let place : n < CHANNEL-IDS = omega (arith, sequences_length s.channels) in
        rw (query_place s.channels n place) (sequence_word n s.channels words_at_lem));
    window_words = each_place (λ (cell : Option Window). WindowWord cell) None tt (replicate CHANNEL-IDS None) (λ n inside.
        rw (get_or-replicate {A = Option Window} CHANNEL-IDS n None None (omega (arith, length-replicate {A = Option Window} CHANNEL-IDS None))) tt);
  }

  -- what a query wrote is read back with the query's meaning, by a reader configured with the state's Datalink ID
  module _ (memory out : List ℕ) (r : Result ByteCount Refusal) (out' : List ℕ) (w' : World) (h : Performed (query out) (lending s memory) (of_query r out') w') where
    query_outcome : state_fits s ≡ true → writer.Outcome (control_allowed ends.Ips (query_of s)) (control_written (query_of s)) out r out'
    query_outcome f = rw (query_allowed s) (record { answers = rw f at (query_gives h).0; bytes_are = rw f at (query_gives h).1 })

    pub query_reads_back : (count : ByteCount) → r ≡ Ok count → read_control ends.Ips s.datalink.id (take count.0 out') ≡ control_accepted (query_of s)
    unfolding query_of
    query_reads_back count wrote = go (state_fits s) refl
      where
        go : (fits : Bool) → state_fits s ≡ fits → read_control ends.Ips s.datalink.id (take count.0 out') ≡ control_accepted (query_of s)
        go false f = let refused = rw f at (query_gives h).0 in clash (cc)
        go true f = control_returned ends.Ips (query_of s) query_value out r out' (query_outcome f) s.datalink.id count refl wrote

-- the sequences of every state reached are such words
pub reached_words : (k : Configuration) → configuration_taken k ≡ true → ((index : ℕ) → index < length k.starts → (start_at k index).first.0 < 2 ^ 32)
    → (cs : List Call) → BytesIn cs → SequenceWords (reached k cs).state
reached_words k fits small cs bytes index there =
    let inside : index < length k.starts = omega (arith, (reached_fits k fits cs bytes).order.counted) in
    let w = reached k cs in
    rw (← (channel_sequence (channel_at w.state index) (store_at w.state index w.memory)), (whole_holds k fits index inside (small index inside) cs bytes).sequence) (omega arith)

-- ---- the message that Next hands over
-- what is sent goes on an unreserved channel, is a packet and a message of lengths within the limits, and carries a Flow Sequence of 32 bits, if any
record Goes (k : Terms) (sequence : Option FlowSequence) (packet : List ℕ) : Type 0 where
  unreserved : k.id < RESERVED-CHANNEL
  packet_short : length packet ≤ LONGEST-PACKET
  message_short : length (message_bytes k sequence packet) ≤ LONGEST-DATAGRAM
  word : SequenceWord sequence

-- "Sending under a window adds n to the sequence modulo 2^32, and the message carries the sum."
carried_word : (flow : Flow) (sequence : FlowSequence) (bytes : ByteCount) → SequenceWord (carried_by flow (sequence_on flow sequence bytes))
carried_word Flow.Free sequence bytes = tt
carried_word Flow.NoWindow sequence bytes = tt
carried_word (Flow.InForce window) sequence bytes = omega arith

room_short : (size room : ℕ) → no_room_of size room ≡ false → size ≤ LONGEST-DATAGRAM
room_short size room e = go (ltb room size) e
  where
    go : (b : Bool) → (b || ltb LONGEST-DATAGRAM size) ≡ false → size ≤ LONGEST-DATAGRAM
    go true h = clash (sym h)
    go false h = ltb-false LONGEST-DATAGRAM size h

module _ (k : Terms) (size : ℕ) (unreserved : k.id < RESERVED-CHANNEL) (time room : ℕ) (st : Condition machine) (fits : Fit size (alive time st.keeping))
    (packet : List ℕ) (sequence : Option FlowSequence) where
  goes : (r : AfterCall machine Tried) → Asked machine k time room st r → r.answer ≡ answered (sent packet sequence) → Goes k sequence packet
  goes _ (asked_early t) e = clash (cc)
  goes _ (asked_nothing t w) e = clash (cc)
  goes _ (asked_not_operational t w o) e = clash (cc)
  goes _ (asked_shut t w o f) e = clash (cc)
  goes _ (asked_no_room t w o f r) e = clash (cc)
  goes _ (asked_sent {p} {ps} t w o f r) e =
      let same : p.bytes ≡ packet = cc in
      let carried : machine.carried (grown machine p.bytes st) ≡ sequence = cc in
      let first : Fit size (p ∷ ps) = rw w at fits in
      record {
        unreserved = unreserved;
        packet_short = rw (← same) (within_limits (length p.bytes) (fit_first size p ps first)).1;
        message_short = rw (← same, ← carried) (room_short _ room r);
        word = rw (← carried) (carried_word st.counting.flow st.counting.sequence (record { 0 = length p.bytes }));
      }

module _ (w : World) (id time : ℕ) (out : List ℕ) (packet : List ℕ) (sequence : Option FlowSequence) where
  abbrev terms : Terms
  terms = terms_in w (index_in w id)

  goes_at : world_fits w ≡ true → (index : ℕ) → index < length w.state.channels → (result_in (next time out) w index).answer ≡ answered (sent packet sequence) → Goes (terms_in w index) sequence packet
  unfolding condition_of
  goes_at fits index inside e =
      let c = channel_in w index in
      let parts = (and-eq-true_iff (state_fits w.state) (memory_fits w.state w.memory)).0 fits in
      let fitting = channel_fitting_at w.state parts.0 index inside in
      let ready : Ready c (store_in w index) = record {
        id = fitting.unreserved;
        well = fitting.well_formed_lem;
        size = store_length w.state index w.memory parts.1 inside;
      } in
      goes (terms_in w index) c.setting.size.0 fitting.unreserved time (length out) (condition_in w index) (ready_alive c (store_in w index) ready time) packet sequence
      _ (rules.asked machine (terms_in w index) time (length out) (condition_in w index)) e

  sent_goes : {r : WorldResult Tried} → Judged id (next time out) w r → r.answer ≡ answered (sent packet sequence) → Goes terms sequence packet × (terms.id ≡ id)
  sent_goes (outside f) e = clash (cc)
  sent_goes (unknown f g) e = clash (cc)
  sent_goes (served f g) e = let there = found w.state id g in (goes_at f (index_in w id) there.0 e, there.1)

sent_value : (k : Terms) (sequence : Option FlowSequence) → SequenceWord sequence → DataValue (message_of k sequence)
sent_value k None word = record { sequence_word = tt; expiration_word = tt }
sent_value k (Some n) word = record { sequence_word = word; expiration_word = tt }

message_read : (k : Terms) (sequence : Option FlowSequence) (packet : List ℕ) → Goes k sequence packet → (message : List ℕ) → message ≡ message_bytes k sequence packet
    → (read_data ends.Ips k.datalink message ≡ record { verdict = Verdict.Accepted; message = message_of k sequence }) × (packet_of message ≡ packet)
unfolding message_bytes
message_read k sequence packet goes message is =
    let value = sent_value k sequence goes.word in
    let allowed = carrier_allowed k sequence (length packet) goes.unreserved goes.packet_short in (
      rw is (data_round ends.Ips k.datalink (message_of k sequence) packet value allowed refl goes.message_short),
      rw is (packet_round ends.Ips (message_of k sequence) packet value allowed),
    )

-- what Next hands over on the channel of an ID, whatever the state and the memory
pub reads_back : (w : World) (id time : ℕ) (out packet : List ℕ) (sequence : Option FlowSequence) → (calling id (next time out) w).answer ≡ answered (sent packet sequence)
    → (answer : Result NextAnswer Refusal) (out' : List ℕ) (w' : World) → Performed (on id (next time out)) w (of_channel (asked answer out')) w' → ReadBack (terms_in w (index_in w id)) id packet sequence answer out'
reads_back w id time out packet sequence given answer out' w' h =
    let k = terms_in w (index_in w id) in
    let own = sent_goes w id time out packet sequence (judged id (next time out) w) given in
    let message = message_bytes k sequence packet in
    let counted : answer ≡ Ok (NextAnswer.Sent (record { 0 = length message })) = cc (rw given at h.reply_is) in
    let bytes : out' ≡ over message out = cc (rw given at h.reply_is) in
    let here : take (length message) out' ≡ message = rw bytes (take_at message (drop (length message) out) (length message) refl) in
    let read = message_read k sequence packet own.0 (take (length message) out') here in
    record { named = own.1; size = length message; counted = counted; accepted = read.0; carries = read.1 }
