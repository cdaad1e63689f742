-- How an item is added to what a data message states. Assumes nothing.
use Rattle.std.specs.Prelude.{Option, Some, Result, Ok, Err}
use Prim.Native.Nat.{ℕ, ◌+◌, ◌-◌, ◌≤◌, ◌<◌}
use mathlib.Core.Path.{◌≡◌, refl, sym, subst, ◌∙◌}
use mathlib.Core.List.{List}
use mathlib.Core.Bool.{Bool, true, false, cond, not}
use borrow.Author.Tests.{eqb-true}
use lib.Dec.{eqb}
use lib.ListN.{length, take, drop}
use Rattle.quantity.specs.declared.count.DatalinkId.{DatalinkId}
use Rattle.quantity.specs.declared.count.FlowSequence.{FlowSequence}
use Rattle.facts.proofs.Tests.{clash}
use Rattle.quantity.specs.Refusals.{LENGTH, VALUE, UNLISTED, REPEATED, BEHIND-PACKET}
use Rattle.wire.specs.Options.{frame_of, split}
use Rattle.meaning.specs.declared.message.End.{End}
use Rattle.meaning.specs.declared.message.End.TheVariants.{Ips, Radio}
use Rattle.meaning.specs.declared.message.Plane.TheVariants.{Data}
use Rattle.meaning.specs.Kinds.{among, known, length_listed, value_listed, may_hold, PACKET-DATA}
use Rattle.meaning.proofs.Amongst.{amongst}
use Rattle.read_option.specs.declared.answer.Item.{Item}
use Rattle.read_option.specs.Items.{item_of, stated_of, answer_of, number_of}
use Rattle.read_rules.specs.Judging.{Step, next, stop, judge}
use Rattle.read_rules.specs.Sorts.{unstated_datalink, rules_of}
use Rattle.read_rules.proofs.Taking.{Seats, Adding, Framed, Parting, content_at, room_of, behind, faulty, parting}
use Rattle.read_data.specs.Message.{Gathered, unstated_counted, unstated_channel, unstated_expiration, data_unstated, data_state, data_sort, data_refused}
use Rattle.read_data.specs.declared.DataReading.{DataReading}

-- what the code keeps of a message, each part in a variable of its own
abbrev pub gathered : Option DatalinkId → Option (ℕ × FlowSequence) → Option ℕ → Option ℕ → Bool → Gathered
gathered datalink sequence channel expiration packet =
    record { message = record { datalink = datalink; sequence = sequence; channel = channel; expiration = expiration }; packet = packet }

-- a seat taken, if it is free
abbrev pub seat : Bool → Gathered → Step Gathered
seat free g = cond free (next g) (stop REPEATED)

-- the items of control messages add nothing: number 6 refuses them before
abbrev pub add : Item → Gathered → Step Gathered
add (Item.Datalink d) g = let m = g.message in seat (unstated_datalink m.datalink) (gathered (Some d) m.sequence m.channel m.expiration g.packet)
add (Item.Sequence n s) g = let m = g.message in seat (unstated_counted m.sequence) (gathered m.datalink (Some (n, s)) m.channel m.expiration g.packet)
add (Item.Channel n) g = let m = g.message in seat (unstated_channel m.channel) (gathered m.datalink m.sequence (Some n) m.expiration g.packet)
add (Item.Expiration t) g = let m = g.message in seat (unstated_expiration m.expiration) (gathered m.datalink m.sequence m.channel (Some t) g.packet)
add Item.Packet g = seat (not g.packet) (record { message = g.message; packet = true })
add Item.Skipped g = next g
add (Item.Instance v n) g = next g
add (Item.Context b n) g = next g
add (Item.Status n s) g = next g
add (Item.Window n w) g = next g

-- what a radio data message may hold, an IPS data message may
held : (end : End) (kind : ℕ) → among kind (may_hold Data end) ≡ true → among kind (may_hold Data Ips) ≡ true
held Ips kind e = e
held Radio kind e = amongst (λ k. among k (may_hold Data Ips) ≡ true) (may_hold Data Radio) (refl, (refl, (refl, tt))) kind e

pub adding : (end : End) (id : DatalinkId) → Adding (data_sort end id) add
unfolding item_of data_unstated data_state
adding end id = record {
  skips = λ g. refl;
  seats = λ g kind e. amongst (Seats (data_sort end id) add g) (may_hold Data Ips)
      ((λ content. refl), ((λ content. refl), ((λ content. refl), ((λ content. refl), ((λ content. refl), tt))))) kind (held end kind e);
}

-- the variants of `Item` that take no seat: an unknown option's, and those of a control message
pub record Seatless (item : Item) : Type 0 where
  pub no_datalink : (d : DatalinkId) → item ≡ Item.Datalink d → ⊥
  pub no_sequence : (n : ℕ) (s : FlowSequence) → item ≡ Item.Sequence n s → ⊥
  pub no_channel : (n : ℕ) → item ≡ Item.Channel n → ⊥
  pub no_expiration : (t : ℕ) → item ≡ Item.Expiration t → ⊥
  pub no_packet_item : item ≡ Item.Packet → ⊥

pub passed_over : (item : Item) (g : Gathered) → Seatless item → add item g ≡ next g
passed_over Item.Skipped g h = refl
passed_over (Item.Instance v n) g h = refl
passed_over (Item.Context b n) g h = refl
passed_over (Item.Status n s) g h = refl
passed_over (Item.Window n w) g h = refl
passed_over (Item.Datalink d) g h = absurd (h.no_datalink d refl)
passed_over (Item.Sequence n s) g h = absurd (h.no_sequence n s refl)
passed_over (Item.Channel n) g h = absurd (h.no_channel n refl)
passed_over (Item.Expiration t) g h = absurd (h.no_expiration t refl)
passed_over Item.Packet g h = absurd (h.no_packet_item refl)

-- ---- which option holds the packet

abbrev pub is_packet : Item → Bool
is_packet Item.Packet = true
is_packet Item.Skipped = false
is_packet (Item.Datalink d) = false
is_packet (Item.Instance v n) = false
is_packet (Item.Context b n) = false
is_packet (Item.Status n s) = false
is_packet (Item.Sequence n s) = false
is_packet (Item.Window n w) = false
is_packet (Item.Channel n) = false
is_packet (Item.Expiration t) = false

pub no_packet : (item : Item) → Seatless item → is_packet item ≡ false
no_packet Item.Skipped h = refl
no_packet (Item.Instance v n) h = refl
no_packet (Item.Context b n) h = refl
no_packet (Item.Status n s) h = refl
no_packet (Item.Window n w) h = refl
no_packet (Item.Datalink d) h = refl
no_packet (Item.Sequence n s) h = refl
no_packet (Item.Channel n) h = refl
no_packet (Item.Expiration t) h = refl
no_packet Item.Packet h = absurd (h.no_packet_item refl)

item_told : (end : End) (kind : ℕ) (content : List ℕ) → among kind (may_hold Data end) ≡ true → is_packet (item_of kind content) ≡ eqb kind PACKET-DATA
unfolding item_of
item_told end kind content e = amongst (λ k. is_packet (item_of k content) ≡ eqb k PACKET-DATA) (may_hold Data Ips) (refl, (refl, (refl, (refl, (refl, tt))))) kind (held end kind e)

unknown_told : (kind : ℕ) → among kind known ≡ false → false ≡ eqb kind PACKET-DATA
unknown_told kind e = go (eqb kind PACKET-DATA) refl
  where
    go : (b : Bool) → eqb kind PACKET-DATA ≡ b → false ≡ b
    go false p = refl
    go true p = let q : true ≡ false = rw (eqb-true kind PACKET-DATA p) at e in clash (sym q)

abbrev Told : Bool → Result Item ℕ → Type 0
Told b (Ok item) = is_packet item ≡ b
Told b (Err number) = Unit {0}

answer_told : (end : End) (kind : ℕ) (content : List ℕ) → Told (eqb kind PACKET-DATA) (answer_of Data end kind content)
unfolding answer_of stated_of
answer_told end kind content =
    go (among kind known) refl (among kind (may_hold Data end)) refl (length_listed kind (length content)) (value_listed kind content)
  where
    go : (is_known : Bool) → among kind known ≡ is_known → (allowed : Bool) → among kind (may_hold Data end) ≡ allowed → (long meant : Bool)
        → Told (eqb kind PACKET-DATA) (cond is_known (cond allowed (cond long (cond meant (Ok (item_of kind content)) (Err VALUE)) (Err LENGTH)) (Err UNLISTED)) (Ok Item.Skipped))
    go false e allowed a long meant = unknown_told kind e
    go true e false a long meant = tt
    go true e true a false meant = tt
    go true e true a true false = tt
    go true e true a true true = item_told end kind content a

pub packet_told : (end : End) (kind : ℕ) (content : List ℕ) (item : Item) → Ok item ≡ answer_of Data end kind content → is_packet item ≡ eqb kind PACKET-DATA
packet_told end kind content item e = subst (Told (eqb kind PACKET-DATA)) (sym e) (answer_told end kind content)

-- ---- a turn of the loop over the options

-- what reading all the options gives
abbrev pub whole_of : End → DatalinkId → List ℕ → DataReading
whole_of end id s = judge (rules_of (data_sort end id)) (split (drop 1 s)) 1 (data_sort end id).blank

-- at a place that is reached within the datagram, a whole option of a type and n bytes of content stands
module _ (end : End) (id : DatalinkId) (s : List ℕ) (at kind n : ℕ) (g : Gathered)
    (inv : whole_of end id s ≡ judge (rules_of (data_sort end id)) (split (drop at s)) at g) (inside : at < length s)
    {frame : Option (ℕ × ℕ)} (first : frame ≡ frame_of (take (length s - at) (drop at s))) (there : frame ≡ Some (kind, n)) where
  framed : Framed (data_sort end id) (whole_of end id s) s at g kind n
  framed = record { inv = inv; frame = sym there ∙ first; inside = inside }

  pub room : at + 3 + n ≤ length s
  room = room_of framed

  pub behind_packet : g.packet ≡ true → whole_of end id s ≡ data_refused BEHIND-PACKET at
  behind_packet shut = behind framed (adding end id) shut

  -- and is answered, with the packet still ahead
  module _ (ahead : g.packet ≡ false) {answer : Result Item ℕ} (a : answer ≡ answer_of Data end kind (content_at s at n)) where
    pub refusing : {number : ℕ} → answer ≡ Err number → whole_of end id s ≡ data_refused (number_of answer) at
    refusing e = rw e (faulty framed (adding end id) ahead (sym e ∙ a))

    pub parted : (item : Item) → answer ≡ Ok item → Parting (data_sort end id) add (whole_of end id s) s at g n item
    parted item e = parting framed (adding end id) {item = item} ahead (sym e ∙ a)

    -- whether the option holds the packet
    pub told_by : (item : Item) → answer ≡ Ok item → eqb kind PACKET-DATA ≡ is_packet item
    told_by item e = sym (packet_told end kind (content_at s at n) item (sym e ∙ a))
