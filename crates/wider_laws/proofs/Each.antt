-- What holds of each element of a list. Assumes nothing.
use Prim.Native.Nat.{ℕ, zero, suc, ◌<◌}
use mathlib.Core.List.{List, [], ◌∷◌, ◌++◌, map, tail}
use native.Mathlib.Omega.{arith}
use lib.ListN.{length, get_or, set}
use Rattle.store.specs.Packets.{lasting}
use Rattle.store.proofs.Lasting.{lasting_ind}
use Rattle.wider_laws.specs.Earlier.{Each}

pub each_all : {A : Type 0} {P Q : A → Type 0} → ((x : A) → P x → Q x) → (xs : List A) → Each P xs → Each Q xs
each_all f [] h = h
each_all f (x ∷ xs) h = (f x h.0, each_all f xs h.1)

pub each_every : {A : Type 0} {P : A → Type 0} → ((x : A) → P x) → (xs : List A) → Each P xs
each_every f [] = tt
each_every f (x ∷ xs) = (f x, each_every f xs)

module _ {A : Type 0} (P : A → Type 0) where
  pub each_at : (xs : List A) (i : ℕ) (d : A) → i < length xs → Each P xs → P (get_or xs i d)
  each_at [] i d inside h = absurd (omega arith)
  each_at (x ∷ xs) zero d inside h = h.0
  each_at (x ∷ xs) (suc i) d inside h = each_at xs i d (omega arith) h.1

  pub each_set : (xs : List A) (i : ℕ) (y : A) → P y → Each P xs → Each P (set xs i y)
  each_set [] i y new h = h
  each_set (x ∷ xs) zero y new h = (new, h.1)
  each_set (x ∷ xs) (suc i) y new h = (h.0, each_set xs i y new h.1)

  pub each_join : (xs : List A) (y : A) → Each P xs → P y → Each P (xs ++ (y ∷ []))
  each_join [] y h new = (new, tt)
  each_join (x ∷ xs) y h new = (h.0, each_join xs y h.1 new)

  pub each_tail : (xs : List A) → Each P xs → Each P (tail xs)
  each_tail [] h = h
  each_tail (x ∷ xs) h = h.1

  pub each_lasting : (expiry : A → ℕ) (time : ℕ) (xs : List A) → Each P xs → Each P (lasting expiry time xs)
  each_lasting expiry = lasting_ind expiry (λ ys xs. Each P xs → Each P ys) (λ h. h) (λ x ys xs f h. (h.0, f h.1)) (λ x ys xs f h. f h.1)

  pub each_map : {B : Type 0} (f : B → A) (xs : List B) → Each (λ x. P (f x)) xs → Each P (map f xs)
  each_map f [] h = h
  each_map f (x ∷ xs) h = (h.0, each_map f xs h.1)
