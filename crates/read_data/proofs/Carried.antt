-- Where the carried packet stands, turn by turn of the search and of the reading, over plain values. Assumes nothing.
use Rattle.std.specs.Prelude.{Option, Some, None}
use Prim.Native.Nat.{ℕ, ◌+◌, ◌-◌, ◌≤◌, ◌<◌}
use mathlib.Core.Path.{◌≡◌, refl, sym, ◌∙◌}
use mathlib.Core.Bool.{Bool, true, false, cond}
use mathlib.Core.List.{List, []}
use native.Mathlib.Omega.{arith}
use native.Mathlib.Nat.{add-sub_cancel_left}
use borrow.Author.Tests.{eq-eqb, ne_eqb, eqb-true, eqb-false}
use lib.Dec.{eqb}
use lib.ListN.{length, take, drop, length-drop}
use lib.Seq.{drop-drop, take_all}
use Rattle.facts.proofs.Lists.{rest_part}
use Rattle.facts.proofs.Tests.{clash}
use Rattle.quantity.specs.declared.count.DatalinkId.{DatalinkId}
use Rattle.wire.specs.Options.{frame_of, split}
use Rattle.wire.proofs.Options.{split_end, split_cut, split_whole}
use Rattle.meaning.specs.declared.message.End.{End}
use Rattle.meaning.specs.Kinds.{PACKET-DATA}
use Rattle.read_rules.specs.declared.answer.Verdict.{Verdict}
use Rattle.read_rules.specs.Sorts.{finish_of}
use Rattle.read_rules.proofs.Turn.{reaches}
use Rattle.read_data.specs.declared.DataReading.{DataReading}
use Rattle.read_data.specs.declared.CarriedReading.{CarriedReading}
use Rattle.read_data.specs.Message.{Gathered, data_unstated, data_refused, data_other, data_sort}
use Rattle.read_data.specs.Packet.{packet_in, packet_of, start_with, carried_reading, uncarried_of, Carries}

-- packet: what the datagram carries; at: an option's first byte
module _ {packet : List ℕ} (s : List ℕ) (at : ℕ) (inv : packet ≡ packet_in (split (drop at s))) where
  pub none_left : length s ≤ at → [] ≡ packet
  unfolding packet_in
  none_left h = let e : length (drop at s) ≡ 0 = rw length-drop (omega arith) in sym (inv ∙ rw (split_end (drop at s) e))

  pub cut_off_lem : at < length s → None ≡ frame_of (take (length s - at) (drop at s)) → [] ≡ packet
  unfolding packet_in
  cut_off_lem h e = sym (inv ∙ rw (split_cut (drop at s) (rw length-drop (omega arith)) (rw rest_part at (sym e))))

-- a turn of the search that finds a whole option, of a type and n bytes of content
pub record Turned (packet s : List ℕ) (at kind n : ℕ) : Type 0 where
  pub so_far : packet ≡ packet_in (split (drop at s))
  pub frame : Some (kind, n) ≡ frame_of (take (length s - at) (drop at s))

module _ {packet s : List ℕ} {at kind n : ℕ} (t : Turned packet s at kind n) where
  pub inside : at + 3 + n ≤ length s
  inside = reaches s at kind n t.frame

  pub here : kind ≡ PACKET-DATA → take (at + 3 + n - (at + 3)) (drop (at + 3) s) ≡ packet
  unfolding packet_in
  here e = sym (t.so_far ∙ rw (split_whole (drop at s) kind n (rw rest_part at (sym t.frame)), eq-eqb kind PACKET-DATA e, drop-drop, add-sub_cancel_left))

  pub further : (kind ≡ PACKET-DATA → ⊥) → packet ≡ packet_in (split (drop (at + 3 + n) s))
  unfolding packet_in
  further e =
      let a : at + (3 + n) ≡ at + 3 + n = omega arith in
      t.so_far ∙ rw (split_whole (drop at s) kind n (rw rest_part at (sym t.frame)), ne_eqb kind PACKET-DATA e, drop-drop, drop-drop, a)

-- ---- as the reader keeps it: found, from a start up to here; or still ahead

pub record Seen (s : List ℕ) (at : ℕ) (packet : Bool) (start : ℕ) : Type 0 where
  pub bytes : packet_of s ≡ cond packet (take (at - start) (drop start s)) (packet_in (split (drop at s)))
  pub within : start ≤ length s

pub seen_first : (s : List ℕ) → Seen s 1 false 0
unfolding packet_of
seen_first s = record { bytes = refl; within = omega arith }

-- a turn of the reader in which the packet is still ahead, and a whole option stands
module _ {s : List ℕ} {at start kind n : ℕ} {packet : Bool} (seen : Seen s at packet start) (ahead : packet ≡ false)
    (frame : Some (kind, n) ≡ frame_of (take (length s - at) (drop at s))) where
  turn : Turned (packet_of s) s at kind n
  turn = record { so_far = seen.bytes ∙ rw ahead refl; frame = frame }

  pub seen_on : eqb kind PACKET-DATA ≡ false → Seen s (at + 3 + n) packet start
  seen_on e = record { bytes = further turn (eqb-false _ _ e) ∙ rw ahead refl; within = seen.within }

  pub seen_here : eqb kind PACKET-DATA ≡ true → Seen s (at + 3 + n) true (at + 3)
  seen_here e = record { bytes = sym (here turn (eqb-true _ _ e)); within = omega (arith, inside turn) }

-- ---- the answers

-- a reading with the packet is right
abbrev pub Right : CarriedReading → DataReading → List ℕ → Type 0
Right r whole s = (r ≡ carried_reading whole s) × Carries r s

-- it begins within the datagram
pub start_within : (reading : DataReading) (s : List ℕ) → (carried_reading reading s).start ≤ length s
unfolding carried_reading
start_within reading s = go reading.verdict
  where
    go : (v : Verdict) → start_with v (length s - length (packet_of s)) (length s) ≤ length s
    go Verdict.Accepted = omega arith
    go Verdict.OtherPlane = omega arith
    go (Verdict.Refused r) = omega arith

-- at its end, if the message isn't accepted
pub start_none : (reading : DataReading) (s : List ℕ) → (reading.verdict ≡ Verdict.Accepted → ⊥) → (carried_reading reading s).start ≡ length s
unfolding carried_reading
start_none reading s unaccepted = go reading.verdict unaccepted
  where
    go : (v : Verdict) → (v ≡ Verdict.Accepted → ⊥) → start_with v (length s - length (packet_of s)) (length s) ≡ length s
    go Verdict.Accepted h = absurd (h refl)
    go Verdict.OtherPlane h = refl
    go (Verdict.Refused r) h = refl

-- what is refused isn't accepted
pub refused_unaccepted : (number place : ℕ) → (data_refused number place).verdict ≡ Verdict.Accepted → ⊥
unfolding data_refused
refused_unaccepted number place e = clash (cc)

-- nor is a message of the other plane
pub other_unaccepted : data_other.verdict ≡ Verdict.Accepted → ⊥
unfolding data_other
other_unaccepted e = clash (cc)

-- what isn't accepted carries nothing
pub none_right : {r : CarriedReading} {whole reading : DataReading} (s : List ℕ) → (reading.verdict ≡ Verdict.Accepted → ⊥) → r ≡ uncarried_of reading (length s) → whole ≡ reading → Right r whole s
unfolding uncarried_of carried_reading
none_right {r} {whole} {reading} s unaccepted u e = (u ∙ rw (e, start_none reading s unaccepted) refl, λ a. absurd (unaccepted (sym (rw u refl) ∙ a)))

-- an accepted message has a packet
has_packet : (end : End) (id : DatalinkId) (n : ℕ) (g : Gathered) → (finish_of (data_sort end id) n g).verdict ≡ Verdict.Accepted → g.packet ≡ true
unfolding finish_of data_unstated data_refused
has_packet end id n g e = go g.message.datalink refl g.packet refl
  where
    go : (d : Option DatalinkId) → g.message.datalink ≡ d → (p : Bool) → g.packet ≡ p → p ≡ true
    go d q true r = refl
    go None q false r = clash (cc)
    go (Some v) q false r = clash (cc)

module _ {s : List ℕ} {at start : ℕ} {packet : Bool} (seen : Seen s at packet start) (all : length s ≤ at) where
  rest_is : packet ≡ true → packet_of s ≡ drop start s
  rest_is e = seen.bytes ∙ rw e (take_all (at - start) (drop start s) (rw length-drop (omega arith)))

  start_is : packet ≡ true → start ≡ length s - length (packet_of s)
  start_is e = let w = seen.within in rw (rest_is e, length-drop) (omega (arith, w))

  -- behind the last option
  pub finished_right : {r : CarriedReading} {whole last : DataReading} (end : End) (id : DatalinkId) (g : Gathered) → g.packet ≡ packet
      → r ≡ record { reading = last; start = start_with last.verdict start (length s) } → last ≡ finish_of (data_sort end id) at g → whole ≡ finish_of (data_sort end id) at g → Right r whole s
  unfolding carried_reading
  finished_right {r} {whole} {last} end id g p u f e =
      let same : whole ≡ last = e ∙ sym f in
      let found : last.verdict ≡ Verdict.Accepted → packet ≡ true = λ a. sym p ∙ has_packet end id at g (rw (← f) a) in (
        u ∙ rw (same, go last.verdict (λ a. start_is (found a))),
        λ a.
            let b : last.verdict ≡ Verdict.Accepted = sym (rw u refl) ∙ a in
            let c : r.start ≡ start = rw (u, b) refl in
            rw c (sym (rest_is (found b))),
      )
    where
      go : (v : Verdict) → (v ≡ Verdict.Accepted → start ≡ length s - length (packet_of s)) → start_with v start (length s) ≡ start_with v (length s - length (packet_of s)) (length s)
      go Verdict.Accepted h = h refl
      go Verdict.OtherPlane h = refl
      go (Verdict.Refused r) h = refl
