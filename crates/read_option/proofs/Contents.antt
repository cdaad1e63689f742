-- What the tests of an option tell: of its length, and of the channel that it names. Assumes nothing.
use Rattle.std.specs.Prelude.{Result, Ok, Err}
use Prim.Native.Nat.{ℕ, ◌≤◌, ◌<◌}
use mathlib.Core.Path.{◌≡◌, refl, sym}
use mathlib.Core.List.{List, [], ◌∷◌}
use mathlib.Core.Bool.{Bool, true, false, cond, and-eq-true_iff}
use native.Mathlib.Omega.{arith}
use borrow.Author.Tests.{ltb-true, leb-true}
use lib.Dec.{ltb, leb}
use lib.ListN.{length, get_or}
use Rattle.facts.proofs.Tests.{clash}
use Rattle.quantity.specs.Limits.{RESERVED-CHANNEL, CHANNEL-IDS, SHORTEST-NAME, LONGEST-NAME}
use Rattle.quantity.specs.Refusals.{LENGTH, VALUE, UNLISTED}
use Rattle.meaning.specs.declared.message.End.{End}
use Rattle.meaning.specs.declared.message.Plane.{Plane}
use Rattle.meaning.specs.Kinds.{among, known, may_hold, length_listed, value_listed, DATALINK-IDENTIFIER, LINK-INSTANCE, DATALINK-CONTEXT, CHANNEL-STATUS, FLOW-WINDOW, PACKET-DATA, CHANNEL-IDENTIFIER, EXPIRATION-TIME, FLOW-SEQUENCE}
use Rattle.meaning.proofs.Amongst.{amongst}
use Rattle.read_option.specs.declared.answer.Item.{Item}
use Rattle.read_option.specs.Items.{item_of, stated_of, answer_of, InTable, Placed}

-- "1 to 8"
pub instance_fits : (n : ℕ) → length_listed LINK-INSTANCE n ≡ true → n ≤ LONGEST-NAME
unfolding length_listed
instance_fits n e = leb-true n LONGEST-NAME ((and-eq-true_iff (leb SHORTEST-NAME n) (leb n LONGEST-NAME)).0 e).1

-- "1 or 5"
pub window_there : (n : ℕ) → length_listed FLOW-WINDOW n ≡ true → 1 ≤ n
unfolding length_listed
window_there n e = amongst (λ k. 1 ≤ k) (1 ∷ (5 ∷ [])) (omega arith, (omega arith, tt)) n e

pub window_five : (n : ℕ) → length_listed FLOW-WINDOW n ≡ true → (n ≡ 1 → ⊥) → n ≡ 5
unfolding length_listed
window_five n e = amongst (λ k. (k ≡ 1 → ⊥) → k ≡ 5) (1 ∷ (5 ∷ [])) ((λ f. absurd (f refl)), ((λ f. refl), tt)) n e

-- the channel of an option whose value is listed is one of a table's places
in_table : (kind : ℕ) (content : List ℕ) → among kind known ≡ true → value_listed kind content ≡ true → InTable (item_of kind content)
unfolding value_listed item_of
in_table kind content k =
    let below : ltb (get_or content 0 0) RESERVED-CHANNEL ≡ true → get_or content 0 0 < CHANNEL-IDS = ltb-true (get_or content 0 0) RESERVED-CHANNEL in
    amongst (λ n. value_listed n content ≡ true → InTable (item_of n content)) known
    ((λ v. tt), ((λ v. tt), ((λ v. tt), (below, (below, ((λ v. tt), (below, ((λ v. tt), (below, tt))))))))) kind k

placed : (plane : Plane) (end : End) (kind : ℕ) (content : List ℕ) → Placed (answer_of plane end kind content)
unfolding answer_of stated_of
placed plane end kind content =
    go (among kind known) refl (among kind (may_hold plane end)) (length_listed kind (length content)) (value_listed kind content) refl
  where
    go : (b : Bool) → among kind known ≡ b → (d e f : Bool) → value_listed kind content ≡ f
        → Placed (cond b (cond d (cond e (cond f (Ok (item_of kind content)) (Err VALUE)) (Err LENGTH)) (Err UNLISTED)) (Ok Item.Skipped))
    go false p d e f q = tt
    go true p false e f q = tt
    go true p true false f q = tt
    go true p true true false q = tt
    go true p true true true q = in_table kind content p q

-- what a message may hold is known
held_known : (plane : Plane) (end : End) (kind : ℕ) → among kind (may_hold plane end) ≡ true → among kind known ≡ true
held_known Plane.Control End.Ips = amongst (λ k. among k known ≡ true) (may_hold Plane.Control End.Ips) (refl, (refl, tt))
held_known Plane.Control End.Radio = amongst (λ k. among k known ≡ true) (may_hold Plane.Control End.Radio) (refl, (refl, (refl, (refl, (refl, tt)))))
held_known Plane.Data End.Ips = amongst (λ k. among k known ≡ true) (may_hold Plane.Data End.Ips) (refl, (refl, (refl, (refl, (refl, tt)))))
held_known Plane.Data End.Radio = amongst (λ k. among k known ≡ true) (may_hold Plane.Data End.Radio) (refl, (refl, (refl, tt)))

module _ (plane : Plane) (end : End) (kind : ℕ) (content : List ℕ) {r : Result Item ℕ} where
  -- the answer to an option that the message may hold
  pub answer_listed : among kind (may_hold plane end) ≡ true → r ≡ stated_of kind content → (r ≡ answer_of plane end kind content) × Placed r
  unfolding answer_of
  answer_listed held e =
      let value : r ≡ answer_of plane end kind content = rw (held_known plane end kind held, held) e in
      (value, rw value (placed plane end kind content))

  -- and to any other
  pub answer_unlisted : among kind (may_hold plane end) ≡ false → r ≡ cond (among kind known) (Err UNLISTED) (Ok Item.Skipped)
      → (r ≡ answer_of plane end kind content) × Placed r
  unfolding answer_of
  answer_unlisted unheld e =
      let value : r ≡ answer_of plane end kind content = rw unheld e in
      (value, rw value (placed plane end kind content))

-- the last arm of a `match` on a type whose other arms have some keys: Flow Sequence
abbrev pub Left : List ℕ → ℕ → Type 0
Left keys kind = among kind keys ≡ false → kind ≡ FLOW-SEQUENCE

abbrev pub control_keys : List ℕ
control_keys = DATALINK-IDENTIFIER ∷ (LINK-INSTANCE ∷ (DATALINK-CONTEXT ∷ (CHANNEL-STATUS ∷ (FLOW-WINDOW ∷ []))))

abbrev pub data_keys : List ℕ
data_keys = DATALINK-IDENTIFIER ∷ (PACKET-DATA ∷ (CHANNEL-IDENTIFIER ∷ (EXPIRATION-TIME ∷ [])))

key : {A : Type 0} → true ≡ false → A
key e = clash (sym e)

pub control_left : (end : End) (kind : ℕ) → among kind (may_hold Plane.Control end) ≡ true → Left control_keys kind
control_left End.Ips = amongst (Left control_keys) (may_hold Plane.Control End.Ips) (key, ((λ e. refl), tt))
control_left End.Radio = amongst (Left control_keys) (may_hold Plane.Control End.Radio) (key, (key, (key, (key, (key, tt)))))

pub data_left : (end : End) (kind : ℕ) → among kind (may_hold Plane.Data end) ≡ true → Left data_keys kind
data_left End.Ips = amongst (Left data_keys) (may_hold Plane.Data End.Ips) (key, (key, (key, (key, ((λ e. refl), tt)))))
data_left End.Radio = amongst (Left data_keys) (may_hold Plane.Data End.Radio) (key, (key, (key, tt)))
