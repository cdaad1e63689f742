-- The uniform step of specs/Sorts as the code takes it: an option's answer first, then what its item adds, for any sort of message. Assumes nothing.
use Rattle.std.specs.Prelude.{Some, Result, Ok, Err}
use Prim.Native.Nat.{ℕ, ◌+◌, ◌-◌, ◌≤◌, ◌<◌}
use mathlib.Core.Path.{◌≡◌, refl, sym, ◌∙◌}
use mathlib.Core.List.{List}
use mathlib.Core.Bool.{Bool, true, false, cond}
use native.Mathlib.Omega.{arith}
use lib.ListN.{length, take, drop}
use lib.Dec.{eqb}
use Rattle.quantity.specs.Refusals.{LENGTH, VALUE, UNLISTED, REPEATED, BEHIND-PACKET}
use Rattle.wire.specs.Options.{frame_of, split}
use Rattle.meaning.specs.Kinds.{among, known, length_listed, value_listed, may_hold}
use Rattle.read_option.specs.declared.answer.Item.{Item}
use Rattle.read_option.specs.Items.{item_of, stated_of, answer_of}
use Rattle.read_rules.specs.Judging.{Step, next, stop, judge}
use Rattle.read_rules.specs.Sorts.{Sort, fault_of, channel_of, step_of, rules_of}
use Rattle.read_rules.proofs.Turn.{fits, again, stops}

-- an option of a type goes to its seat, if that is free
abbrev pub Seats : {A B : Type 0} → Sort A B → (Item → A → Step A) → A → ℕ → Type 0
Seats S add m kind =
    (content : List ℕ)
    → add (item_of kind content) m
    ≡ cond (S.unstated kind (channel_of S.plane kind content) m) (next (S.state kind (channel_of S.plane kind content) content m)) (stop REPEATED)

-- how a sort of message adds an item to what is stated: a skipped option adds nothing, one that it may hold goes to its seat
pub record Adding {A B : Type 0} (S : Sort A B) (add : Item → A → Step A) : Type 0 where
  pub skips : (m : A) → add Item.Skipped m ≡ next m
  pub seats : (m : A) (kind : ℕ) → among kind (may_hold S.plane S.end) ≡ true → Seats S add m kind

-- an option's answer taken in
abbrev pub take_in : {A : Type 0} → (Item → A → Step A) → Result Item ℕ → A → Step A
take_in add (Ok item) m = add item m
take_in add (Err number) m = stop number

module _ {A B : Type 0} {S : Sort A B} {add : Item → A → Step A} (adding : Adding S add) where
  -- the step is the answer taken in
  pub step_is : (kind : ℕ) (content : List ℕ) (m : A)
      → step_of S kind content m ≡ cond (S.closed m) (stop BEHIND-PACKET) (take_in add (answer_of S.plane S.end kind content) m)
  unfolding step_of fault_of answer_of stated_of
  step_is kind content m =
      go (S.closed m) (among kind known) (among kind (may_hold S.plane S.end)) (length_listed kind (length content)) (value_listed kind content) (λ e. sym (adding.seats m kind e content))
    where
      go : {seat : Step A} (closed is_known allowed long meant : Bool) → (allowed ≡ true → seat ≡ add (item_of kind content) m)
          → let fault = cond is_known (cond allowed (cond long (cond meant 0 VALUE) LENGTH) UNLISTED) 0 in
          cond closed (stop BEHIND-PACKET) (cond (eqb fault 0) (cond is_known seat (next m)) (stop fault))
          ≡ cond closed (stop BEHIND-PACKET)
          (take_in add (cond is_known (cond allowed (cond long (cond meant (Ok (item_of kind content)) (Err VALUE)) (Err LENGTH)) (Err UNLISTED)) (Ok Item.Skipped)) m)
      go true is_known allowed long meant seated = refl
      go false false allowed long meant seated = sym (adding.skips m)
      go false true false long meant seated = refl
      go false true true false meant seated = refl
      go false true true true false seated = refl
      go false true true true true seated = seated refl

-- the content of the option at a place, as the code takes it: from behind the frame up to the next option
abbrev pub content_at : List ℕ → ℕ → ℕ → List ℕ
content_at s at n = take (at + 3 + n - (at + 3)) (drop (at + 3) s)

-- whole: what reading the datagram gives; at: where an option stands whole, of a type and n bytes of content; m: what the ones before it state
pub record Framed {A B : Type 0} (S : Sort A B) (whole : B) (s : List ℕ) (at : ℕ) (m : A) (kind n : ℕ) : Type 0 where
  pub inv : whole ≡ judge (rules_of S) (split (drop at s)) at m
  pub frame : Some (kind, n) ≡ frame_of (take (length s - at) (drop at s))
  pub inside : at < length s

-- where the arms of a reader's loop part: how the reading goes on, by what the option's item adds
pub record Parting {A B : Type 0} (S : Sort A B) (add : Item → A → Step A) (whole : B) (s : List ℕ) (at : ℕ) (m : A) (n : ℕ) (item : Item) : Type 0 where
  pub less : length s - (at + 3 + n) < length s - at
  pub goes_on : {m' : A} → add item m ≡ next m' → whole ≡ judge (rules_of S) (split (drop (at + 3 + n) s)) (at + 3 + n) m'
  pub refuses : {number : ℕ} → add item m ≡ stop number → whole ≡ S.refuse number at

module _ {A B : Type 0} {S : Sort A B} {whole : B} {s : List ℕ} {at : ℕ} {m : A} {kind n : ℕ} (f : Framed S whole s at m kind n) where
  pub room_of : at + 3 + n ≤ length s
  room_of = fits (rules_of S) s at m f.inv kind n f.frame f.inside

  stopped : (number : ℕ) → step_of S kind (content_at s at n) m ≡ stop number → whole ≡ S.refuse number at
  stopped = stops (rules_of S) s at m f.inv kind n f.frame f.inside

  module _ {add : Item → A → Step A} (adding : Adding S add) where
    pub behind : S.closed m ≡ true → whole ≡ S.refuse BEHIND-PACKET at
    behind shut = stopped _ (step_is adding kind _ m ∙ rw shut)

    pub faulty : {number : ℕ} → S.closed m ≡ false → Err number ≡ answer_of S.plane S.end kind (content_at s at n) → whole ≡ S.refuse number at
    faulty unshut e = stopped _ (step_is adding kind _ m ∙ rw (unshut, ← e))

    pub parting : {item : Item} → S.closed m ≡ false → Ok item ≡ answer_of S.plane S.end kind (content_at s at n) → Parting S add whole s at m n item
    parting {item} unshut e =
        let step : step_of S kind (content_at s at n) m ≡ add item m = step_is adding kind _ m ∙ rw (unshut, ← e) in
        record {
          less = omega (arith, room_of);
          goes_on = λ a. again (rules_of S) s at m f.inv kind n f.frame f.inside _ (step ∙ a);
          refuses = λ a. stopped _ (step ∙ a);
        }
