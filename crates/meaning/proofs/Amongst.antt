-- What it means to be among some numbers. Assumes nothing.
use Prim.Native.Nat.{ℕ}
use mathlib.Core.Path.{◌≡◌, refl, sym}
use mathlib.Core.Logic.{⊎_elim}
use mathlib.Core.List.{List, [], ◌∷◌}
use mathlib.Core.Bool.{Bool, true, false, cond}
use borrow.Author.Tests.{eqb-true, eq-eqb}
use lib.Dec.{eqb}
use types.Run.{OneOf}
use Rattle.facts.proofs.Tests.{clash}
use Rattle.meaning.specs.Kinds.{among}

abbrev pub Each : (ℕ → Type 0) → List ℕ → Type 0
Each P [] = Unit {0}
Each P (x ∷ xs) = P x × Each P xs

-- what holds of each holds of one that is among them
pub amongst : (P : ℕ → Type 0) (xs : List ℕ) → Each P xs → (n : ℕ) → among n xs ≡ true → P n
amongst P [] h n e = clash e
amongst P (x ∷ xs) h n e = go (amongst P xs h.1 n) (eqb n x) refl e
  where
    go : (among n xs ≡ true → P n) → (b : Bool) → eqb n x ≡ b → cond b true (among n xs) ≡ true → P n
    go later true p q = rw (eqb-true n x p) h.0
    go later false p q = later q

-- one that isn't among the keys of a `match`'s arm is none of them
pub no_key : {A : Type 0} (keys : List ℕ) (n : ℕ) → among n keys ≡ false → OneOf keys n → A
no_key [] n e h = absurd h
no_key (k ∷ []) n e h = clash (sym (rw (eq-eqb n k h) at e))
no_key (k ∷ (j ∷ keys)) n e h = ⊎_elim (λ q. clash (sym (rw (eq-eqb n k q) at e))) (no_key (j ∷ keys) n (later (eqb n k) e)) h
  where
    later : (b : Bool) → cond b true (among n (j ∷ keys)) ≡ false → among n (j ∷ keys) ≡ false
    later true q = clash (sym q)
    later false q = q
