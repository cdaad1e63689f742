-- A control message as its reader reads it: the seats of what options state, the tests on the whole, and a turn of the loop. Assumes nothing.
use Rattle.std.specs.Prelude.{Option, Some, None, Result, Ok, Err}
use Prim.Native.Nat.{ℕ, ◌+◌, ◌-◌, ◌≤◌, ◌<◌}
use mathlib.Core.Path.{◌≡◌, refl, sym, ◌∙◌}
use mathlib.Core.List.{List}
use mathlib.Core.Bool.{Bool, true, false, cond}
use native.Mathlib.Omega.{arith}
use lib.ListN.{length, get_or, set, take, drop}
use Rattle.quantity.specs.declared.count.DatalinkId.{DatalinkId}
use Rattle.quantity.specs.declared.count.LinkInstanceId.{LinkInstanceId}
use Rattle.quantity.specs.declared.count.FlowSequence.{FlowSequence}
use Rattle.meaning.specs.declared.message.ContextBytes.{ContextBytes}
use Rattle.quantity.specs.Refusals.{REPEATED, MISSING, OTHER-DATALINK}
use Rattle.wire.specs.Options.{frame_of, split}
use Rattle.meaning.specs.declared.message.End.{End}
use Rattle.meaning.specs.declared.message.Plane.{Plane}
use Rattle.meaning.specs.declared.message.Window.{Window}
use Rattle.meaning.specs.declared.message.Control.{Control}
use Rattle.meaning.specs.Kinds.{among, may_hold, must_hold, CHANNEL-STATUS}
use Rattle.meaning.proofs.Amongst.{amongst}
use Rattle.read_option.specs.declared.answer.Item.{Item}
use Rattle.read_option.specs.Items.{item_of, answer_of, InTable, Placed, number_of}
use Rattle.read_rules.specs.Judging.{Step, next, stop, judge}
use Rattle.read_rules.specs.Sorts.{finish_of, rules_of, unstated_datalink, is_ours}
use Rattle.read_rules.proofs.Taking.{Seats, Adding, Framed, content_at, room_of, faulty, parting}
use Rattle.read_control.specs.declared.ControlReading.{ControlReading}
use Rattle.read_control.specs.Message.{unstated_instance, unstated_context, unstated_status, unstated_sequence, unstated_window, blank_control, control_unstated, control_state, control_sort, control_accepted, control_refused}

-- whether nothing is stated yet where an item belongs
abbrev pub seat_unstated : Item → Control → Bool
seat_unstated Item.Skipped m = true
seat_unstated (Item.Datalink d) m = unstated_datalink m.datalink
seat_unstated (Item.Instance v n) m = unstated_instance m.instance
seat_unstated (Item.Context b n) m = unstated_context m.context
seat_unstated (Item.Status channel s) m = unstated_status (get_or m.statuses channel None)
seat_unstated (Item.Sequence channel s) m = unstated_sequence (get_or m.sequences channel None)
seat_unstated (Item.Window channel w) m = unstated_window (get_or m.windows channel None)
seat_unstated (Item.Channel channel) m = true
seat_unstated (Item.Expiration t) m = true
seat_unstated Item.Packet m = true

-- a message with an item in its seat; what only a data message states has none
abbrev pub seated : Item → Control → Control
seated Item.Skipped m = m
seated (Item.Datalink d) m = record { datalink = Some d; instance = m.instance; context = m.context; statuses = m.statuses; sequences = m.sequences; windows = m.windows }
seated (Item.Instance v n) m = record { datalink = m.datalink; instance = Some (v, n); context = m.context; statuses = m.statuses; sequences = m.sequences; windows = m.windows }
seated (Item.Context b n) m = record { datalink = m.datalink; instance = m.instance; context = Some (b, n); statuses = m.statuses; sequences = m.sequences; windows = m.windows }
seated (Item.Status channel s) m = record { datalink = m.datalink; instance = m.instance; context = m.context; statuses = set m.statuses channel (Some s); sequences = m.sequences; windows = m.windows }
seated (Item.Sequence channel s) m = record { datalink = m.datalink; instance = m.instance; context = m.context; statuses = m.statuses; sequences = set m.sequences channel (Some s); windows = m.windows }
seated (Item.Window channel w) m = record { datalink = m.datalink; instance = m.instance; context = m.context; statuses = m.statuses; sequences = m.sequences; windows = set m.windows channel w }
seated (Item.Channel channel) m = m
seated (Item.Expiration t) m = m
seated Item.Packet m = m

abbrev pub add : Item → Control → Step Control
add item m = cond (seat_unstated item m) (next (seated item m)) (stop REPEATED)

-- an option that a control message may hold goes to the seat of its item
seats : (e end : End) (id : DatalinkId) (m : Control) (kind : ℕ) → among kind (may_hold Plane.Control e) ≡ true → Seats (control_sort end id) add m kind
unfolding control_unstated control_state item_of
seats End.Ips end id m = amongst (Seats (control_sort end id) add m) (may_hold Plane.Control End.Ips) ((λ content. refl), ((λ content. refl), tt))
seats End.Radio end id m =
    amongst (Seats (control_sort end id) add m) (may_hold Plane.Control End.Radio)
    ((λ content. refl), ((λ content. refl), ((λ content. refl), ((λ content. refl), ((λ content. refl), tt)))))

pub adding : (end : End) (id : DatalinkId) → Adding (control_sort end id) add
adding end id = record { skips = λ m. refl; seats = seats end end id }

twice : {A : Type 0} (b c : Bool) (x y : A) → cond (cond b true (cond c true false)) x y ≡ cond b x (cond c x y)
twice true c x y = refl
twice false true x y = refl
twice false false x y = refl

-- 9 by the Channel Status of channel 0
abbrev pub lacking : End → Control → Bool
lacking end m = cond (among CHANNEL-STATUS (must_hold Plane.Control end)) (unstated_status (get_or m.statuses 0 None)) false

-- the tests on the whole as the reader makes them: 9 by the Datalink Identifier, 9 by that status, then 11
abbrev pub by_tests : {A : Type 0} → (missing lacks ours : Bool) → A → A → A → A
by_tests missing lacks ours nine none eleven = cond missing nine (cond lacks nine (cond ours none eleven))

finish_is : (end : End) (id : DatalinkId) (place : ℕ) (m : Control) → finish_of (control_sort end id) place m
    ≡ by_tests (unstated_datalink m.datalink) (lacking end m) (is_ours id m.datalink) (control_refused MISSING place) (control_accepted m) (control_refused OTHER-DATALINK place)
unfolding finish_of control_unstated
finish_is End.Ips id place m = twice (unstated_datalink m.datalink) false _ _
finish_is End.Radio id place m = twice (unstated_datalink m.datalink) (unstated_status (get_or m.statuses 0 None)) _ _

-- the number of their refusal, or 0, tells the answer
module _ (end : End) (id : DatalinkId) (place : ℕ) (m : Control) {number : ℕ}
    (f : number ≡ by_tests (unstated_datalink m.datalink) (lacking end m) (is_ours id m.datalink) MISSING 0 OTHER-DATALINK) where
  pub refuses_whole : (number ≡ 0 → ⊥) → control_refused number place ≡ finish_of (control_sort end id) place m
  refuses_whole some = rw finish_is (go (unstated_datalink m.datalink) (lacking end m) (is_ours id m.datalink) f)
    where
      go : (a b d : Bool) → number ≡ by_tests a b d MISSING 0 OTHER-DATALINK
          → control_refused number place ≡ by_tests a b d (control_refused MISSING place) (control_accepted m) (control_refused OTHER-DATALINK place)
      go true b d e = rw e
      go false true d e = rw e
      go false false true e = absurd (some e)
      go false false false e = rw e

  pub accepts_whole : number ≡ 0 → control_accepted m ≡ finish_of (control_sort end id) place m
  accepts_whole none = rw finish_is (go (unstated_datalink m.datalink) (lacking end m) (is_ours id m.datalink) f)
    where
      go : (a b d : Bool) → number ≡ by_tests a b d MISSING 0 OTHER-DATALINK
          → control_accepted m ≡ by_tests a b d (control_refused MISSING place) (control_accepted m) (control_refused OTHER-DATALINK place)
      go true b d e = absurd (omega arith)
      go false true d e = absurd (omega arith)
      go false false true e = refl
      go false false false e = absurd (omega arith)

-- ---- a turn of the loop over the options

-- what reading all the options gives
abbrev pub whole_of : End → DatalinkId → List ℕ → ControlReading
whole_of end id s = judge (rules_of (control_sort end id)) (split (drop 1 s)) 1 blank_control

-- at a place, with so much stated, the rest decides the whole
abbrev pub Reached : End → DatalinkId → List ℕ → ℕ → Control → Type 0
Reached end id s at m = whole_of end id s ≡ judge (rules_of (control_sort end id)) (split (drop at s)) at m

-- the option at a place states an item: what an arm of the turn cites
pub record Stating (end : End) (id : DatalinkId) (s : List ℕ) (at n : ℕ) (m : Control) (item : Item) : Type 0 where
  pub in_table : InTable item
  pub less : length s - (at + 3 + n) < length s - at
  pub taken : seat_unstated item m ≡ true → Reached end id s (at + 3 + n) (seated item m)
  pub repeated : seat_unstated item m ≡ false → control_refused REPEATED at ≡ whole_of end id s

-- how a turn comes to an item: at a place that is reached within the datagram, a whole option of a type and n bytes of content stands, and is answered
module _ (end : End) (id : DatalinkId) (s : List ℕ) (at kind n : ℕ) (m : Control) (inv : Reached end id s at m) (inside : at < length s)
    {frame : Option (ℕ × ℕ)} (first : frame ≡ frame_of (take (length s - at) (drop at s))) (there : frame ≡ Some (kind, n)) where
  framed : Framed (control_sort end id) (whole_of end id s) s at m kind n
  framed = record { inv = inv; frame = sym there ∙ first; inside = inside }

  pub room : at + 3 + n ≤ length s
  room = room_of framed

  module _ {answer : Result Item ℕ} (a : answer ≡ answer_of Plane.Control end kind (content_at s at n)) where
    pub refusing : {number : ℕ} → answer ≡ Err number → control_refused (number_of answer) at ≡ whole_of end id s
    refusing e = rw e (sym (faulty framed (adding end id) refl (sym e ∙ a)))

    pub stating : Placed answer → (item : Item) → answer ≡ Ok item → Stating end id s at n m item
    stating p item e =
        let parts = parting framed (adding end id) {item = item} refl (sym e ∙ a) in
        record {
          in_table = rw e at p;
          less = parts.less;
          taken = λ t. parts.goes_on (rw t);
          repeated = λ t. sym (parts.refuses (rw t));
        }

module _ {end : End} {id : DatalinkId} {s : List ℕ} {at n : ℕ} {m : Control} where
  -- the variants of `Item` that take no seat: an unknown option's, and those of a data message
  pub passing : (item : Item) → ((d : DatalinkId) → item ≡ Item.Datalink d → ⊥) → ((v : LinkInstanceId) (k : ℕ) → item ≡ Item.Instance v k → ⊥)
      → ((b : ContextBytes) (k : ℕ) → item ≡ Item.Context b k → ⊥) → ((channel v : ℕ) → item ≡ Item.Status channel v → ⊥)
      → ((channel : ℕ) (v : FlowSequence) → item ≡ Item.Sequence channel v → ⊥) → ((channel : ℕ) (v : Option Window) → item ≡ Item.Window channel v → ⊥)
      → Stating end id s at n m item → Reached end id s (at + 3 + n) m
  passing Item.Skipped d i b v q w x = x.taken refl
  passing (Item.Datalink a) d i b v q w x = absurd (d a refl)
  passing (Item.Instance a k) d i b v q w x = absurd (i a k refl)
  passing (Item.Context a k) d i b v q w x = absurd (b a k refl)
  passing (Item.Status channel a) d i b v q w x = absurd (v channel a refl)
  passing (Item.Sequence channel a) d i b v q w x = absurd (q channel a refl)
  passing (Item.Window channel a) d i b v q w x = absurd (w channel a refl)
  passing (Item.Channel channel) d i b v q w x = x.taken refl
  passing (Item.Expiration t) d i b v q w x = x.taken refl
  passing Item.Packet d i b v q w x = x.taken refl

  -- a Flow Window where one stands, with the field or without
  pub window_repeated : {channel : ℕ} {v : Option Window} → Stating end id s at n m (Item.Window channel v)
      → ((get_or m.windows channel None) ≡ None → ⊥) → control_refused REPEATED at ≡ whole_of end id s
  window_repeated {channel} x h = x.repeated (there (get_or m.windows channel None) h)
    where
      there : (w : Option Window) → (w ≡ None → ⊥) → unstated_window w ≡ false
      there None k = absurd (k refl)
      there (Some Window.Empty) k = refl
      there (Some (Window.Given v)) k = refl
