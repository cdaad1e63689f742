-- A data message that may be written, once written, is read back as itself, with its packet. Assumes nothing.
use Rattle.std.specs.Prelude.{Option, Some, None}
use Rattle.quantity.specs.declared.count.FlowSequence.{FlowSequence}
use Prim.Native.Nat.{ℕ, ◌≤◌, ◌<◌, ◌^◌}
use mathlib.Core.Path.{◌≡◌, refl, ap, ◌∙◌}
use mathlib.Core.List.{List}
use mathlib.Core.Bool.{true, false, not, and-eq-true_iff, false≢true}
use native.Mathlib.Omega.{arith}
use borrow.Author.Tests.{eq-eqb, eqb-true, ltb-true}
use lib.ListN.{length}
use lib.Dec.{ltb, eqb, lit≤}
use Rattle.quantity.specs.declared.count.DatalinkId.{DatalinkId}
use Rattle.quantity.specs.Limits.{RESERVED-CHANNEL, LONGEST-DATAGRAM}
use Rattle.wire.specs.Options.{Options, done, option, WholeOptions}
use Rattle.wire.proofs.Numbers.{length_bytes, there_and_back}
use Rattle.meaning.specs.declared.message.End.{End}
use Rattle.meaning.specs.declared.message.Plane.TheVariants as planes
use Rattle.meaning.specs.declared.message.Data.{Data}
use Rattle.meaning.specs.Kinds.{among, length_listed, value_listed, may_hold, CHANNEL-IDENTIFIER, EXPIRATION-TIME, FLOW-SEQUENCE, PACKET-DATA}
use Rattle.read_option.specs.Stated.{data_stated}
use Rattle.read_rules.specs.declared.answer.Verdict.{Verdict}
use Rattle.read_rules.specs.Judging.{judge}
use Rattle.read_rules.specs.Sorts.{finish_of}
use Rattle.read_data.specs.declared.DataReading.{DataReading}
use Rattle.read_data.specs.Message.{Gathered, pairs, blank_data, data_unstated, data_state, data_accepted, data_sort}
use Rattle.read_data.specs.Packet.{packet_in}
use Rattle.reader.specs.Readings.{read_data, packet_of}
use Rattle.writable.specs.Allowed.{may, datalink_allowed, counted_allowed, channel_allowed, expiration_allowed, data_allowed}
use Rattle.write_option.specs.Parts.{datalink_then, counted_then, channel_then, expiration_then}
use Rattle.writer.specs.Written.{data_options, data_written, DATA-HEADER}
use Rattle.roundtrip.specs.Values.{CountedWord, ExpirationWord, DataValue}
use Rattle.roundtrip.proofs.Adding.{Reads, Adds, adds_none, adds_option, adds_both, adds_datalink, reads_option, split_written, read_back}

packet_may_stand : (end : End) → among PACKET-DATA (may_hold planes.Data end) ≡ true
packet_may_stand End.Ips = refl
packet_may_stand End.Radio = refl

-- what is stated before Packet Data, and with it
abbrev reading : Data → Gathered
reading m = record { message = m; packet = false }

abbrev whole : Data → Gathered
whole m = record { message = m; packet = true }

-- a message with another part of one kind
abbrev with_datalink : Data → Option DatalinkId → Data
with_datalink m d = record { datalink = d; sequence = m.sequence; channel = m.channel; expiration = m.expiration }

abbrev with_counted : Data → Option (ℕ × FlowSequence) → Data
with_counted m q = record { datalink = m.datalink; sequence = q; channel = m.channel; expiration = m.expiration }

abbrev with_channel : Data → Option ℕ → Data
with_channel m c = record { datalink = m.datalink; sequence = m.sequence; channel = c; expiration = m.expiration }

abbrev with_expiration : Data → Option ℕ → Data
with_expiration m t = record { datalink = m.datalink; sequence = m.sequence; channel = m.channel; expiration = t }

module _ (end : End) (id : DatalinkId) (m : Data) where
  adds_counted : (q : Option (ℕ × FlowSequence)) (c : Option ℕ) → counted_allowed end q c ≡ true → channel_allowed end c ≡ true → CountedWord q
      → Adds (data_sort end id) 1 (counted_then q) (reading (with_counted m None)) (reading (with_counted m q))
  unfolding length_listed value_listed data_unstated data_state
  adds_counted None c e f w = adds_none (data_sort end id) 1 (reading (with_counted m None))
  adds_counted (Some (n, s)) None e f w = absurd (false≢true e)
  adds_counted (Some (n, s)) (Some k) e f w =
      let sequence = (and-eq-true_iff (may planes.Data end FLOW-SEQUENCE) (eqb n k)).0 e in
      let channel = (and-eq-true_iff (may planes.Data end CHANNEL-IDENTIFIER) (ltb k RESERVED-CHANNEL)).0 f in
      let l = length_bytes 4 s.0 in
      adds_option (data_sort end id)
      (record {
        opened = refl;
        is_known = refl;
        may_stand = sequence.0;
        length_listed_lem = rw l;
        value_listed_lem = rw (eqb-true n k sequence.1) channel.1;
        is_free = refl;
        states = rw (there_and_back 4 s.0 w);
      })
      (omega arith) refl

  adds_channel : (c : Option ℕ) → channel_allowed end c ≡ true → Adds (data_sort end id) 1 (channel_then c) (reading (with_channel m None)) (reading (with_channel m c))
  unfolding length_listed value_listed data_unstated data_state
  adds_channel None e = adds_none (data_sort end id) 1 (reading (with_channel m None))
  adds_channel (Some k) e =
      let parts = (and-eq-true_iff (may planes.Data end CHANNEL-IDENTIFIER) (ltb k RESERVED-CHANNEL)).0 e in
      adds_option (data_sort end id)
      (record { opened = refl; is_known = refl; may_stand = parts.0; length_listed_lem = refl; value_listed_lem = parts.1; is_free = refl; states = refl })
      (lit≤ tt) refl

  adds_expiration : (t : Option ℕ) → expiration_allowed end t ≡ true → ExpirationWord t
      → Adds (data_sort end id) 1 (expiration_then t) (reading (with_expiration m None)) (reading (with_expiration m t))
  unfolding length_listed value_listed data_unstated data_state
  adds_expiration None e w = adds_none (data_sort end id) 1 (reading (with_expiration m None))
  adds_expiration (Some t) e w =
      let parts = (and-eq-true_iff (may planes.Data end EXPIRATION-TIME) (not (eqb t 0))).0 e in
      let l = length_bytes 4 t in
      let b = there_and_back 4 t w in
      adds_option (data_sort end id)
      (record { opened = refl; is_known = refl; may_stand = parts.0; length_listed_lem = rw l; value_listed_lem = rw b parts.1; is_free = refl; states = rw b })
      (omega arith) refl

  reads_packet : (packet : List ℕ) (answer : DataReading) → ((place : ℕ) → finish_of (data_sort end id) place (whole m) ≡ answer)
      → Reads (data_sort end id) (option PACKET-DATA packet done) (reading m) answer
  unfolding judge length_listed value_listed data_unstated data_state
  reads_packet packet answer k =
      reads_option (data_sort end id)
      (record { opened = refl; is_known = refl; may_stand = packet_may_stand end; length_listed_lem = refl; value_listed_lem = refl; is_free = refl; states = refl })
      done answer k

pairs_allowed : (end : End) (q : Option (ℕ × FlowSequence)) (c : Option ℕ) → counted_allowed end q c ≡ true → pairs q c ≡ true
pairs_allowed end None c e = refl
pairs_allowed end (Some (n, s)) None e = e
pairs_allowed end (Some (n, s)) (Some k) e = ((and-eq-true_iff (may planes.Data end FLOW-SEQUENCE) (eqb n k)).0 e).1

-- what a test on the whole message says of its parts
record Parts (end : End) (m : Data) (n : ℕ) : Type 0 where
  counted : counted_allowed end m.sequence m.channel ≡ true
  channel : channel_allowed end m.channel ≡ true
  expiration : expiration_allowed end m.expiration ≡ true
  packet : n < 2 ^ 16

parts_allowed : (end : End) (m : Data) (n : ℕ) → data_allowed end m n ≡ true → Parts end m n
unfolding data_allowed
parts_allowed end m n e =
    let a = ((and-eq-true_iff (datalink_allowed m.datalink) _).0 e).1 in
    let b = (and-eq-true_iff (counted_allowed end m.sequence m.channel) _).0 a in
    let c = (and-eq-true_iff (channel_allowed end m.channel) _).0 b.1 in
    let d = (and-eq-true_iff (expiration_allowed end m.expiration) (ltb n (2 ^ 16))).0 c.1 in
    record { counted = b.0; channel = c.0; expiration = d.0; packet = ltb-true n (2 ^ 16) d.1 }

-- the options of a message before its packet
abbrev data_then : Data → Options → Options
data_then m more = datalink_then m.datalink (counted_then m.sequence (channel_then m.channel (expiration_then m.expiration more)))

-- nothing stated, and then part after part
abbrev no_expiration : Data → Data
no_expiration m = with_expiration m None

abbrev no_channel : Data → Data
no_channel m = with_channel (no_expiration m) None

abbrev no_counted : Data → Data
no_counted m = with_counted (no_channel m) None

module _ (end : End) (id : DatalinkId) (m : Data) (packet : List ℕ) (value : DataValue m) (allowed : data_allowed end m (length packet) ≡ true) where
  adds_data : Adds (data_sort end id) 4 (data_then m) (data_sort end id).blank (reading m)
  unfolding blank_data data_stated data_unstated data_state
  adds_data =
      let S = data_sort end id in
      let parts = parts_allowed end m (length packet) allowed in
      adds_both S (adds_datalink S (λ d. reading (with_datalink (no_counted m) d)) refl (λ content. refl) (λ content. refl) m.datalink)
      (adds_both S (adds_counted end id (no_channel m) m.sequence m.channel parts.counted parts.channel value.sequence_word)
      (adds_both S (adds_channel end id (no_expiration m) m.channel parts.channel)
      (adds_expiration end id m m.expiration parts.expiration value.expiration_word)))

  -- 9, 10 and 11 find nothing
  finishes : m.datalink ≡ Some id → (place : ℕ) → finish_of (data_sort end id) place (whole m) ≡ data_accepted (whole m)
  unfolding finish_of data_unstated
  finishes d place =
      rw (d, pairs_allowed end m.sequence m.channel (parts_allowed end m (length packet) allowed).counted, eq-eqb id.0 id.0 refl)

packet_whole : (end : End) (m : Data) (packet : List ℕ) → data_allowed end m (length packet) ≡ true → WholeOptions (option PACKET-DATA packet done)
unfolding WholeOptions
packet_whole end m packet allowed = ((parts_allowed end m (length packet) allowed).packet, tt)

-- every option that is written is whole
pub data_whole : (end : End) (m : Data) (packet : List ℕ) → DataValue m → data_allowed end m (length packet) ≡ true → WholeOptions (data_options m packet)
unfolding data_options
data_whole end m packet value allowed = (adds_data end (record { 0 = 0 }) m packet value allowed).whole (option PACKET-DATA packet done) (packet_whole end m packet allowed)

pub data_round : (end : End) (id : DatalinkId) (m : Data) (packet : List ℕ) → DataValue m → data_allowed end m (length packet) ≡ true → m.datalink ≡ Some id
    → length (data_written m packet) ≤ LONGEST-DATAGRAM → read_data end id (data_written m packet) ≡ record { verdict = Verdict.Accepted; message = m }
unfolding read_data data_written data_options data_accepted
data_round end id m packet value allowed d short =
    read_back (data_sort end id) (adds_data end id m packet value allowed) (option PACKET-DATA packet done) (packet_whole end m packet allowed) DATA-HEADER refl refl short
    (data_accepted (whole m)) (reads_packet end id m packet (data_accepted (whole m)) (finishes end id m packet value allowed d))

-- "handed back as that stretch of the caller's own datagram"
pub packet_round : (end : End) (m : Data) (packet : List ℕ) → DataValue m → data_allowed end m (length packet) ≡ true → packet_of (data_written m packet) ≡ packet
unfolding packet_of packet_in data_written data_options
packet_round end m packet value allowed =
    let id : DatalinkId = record { 0 = 0 } in
    let a = adds_data end id m packet value allowed in
    ap packet_in (split_written (data_sort end id) a (option PACKET-DATA packet done) (packet_whole end m packet allowed)) ∙ a.no_packet (option PACKET-DATA packet done)
