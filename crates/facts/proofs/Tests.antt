-- What tests tell, beyond the kit's `borrow.Author.Tests` and `mathlib.Core.Bool`. Assumes nothing.
use Prim.Native.Nat.{ℕ, ◌≤◌, ◌<◌}
use mathlib.Core.Path.{◌≡◌, refl}
use mathlib.Core.Bool.{Bool, true, false, ◌||◌, false≢true}
use borrow.Author.Tests.{leb-true, leb-false}
use lib.Dec.{T, leb}

-- true is not false; `clash (cc)` where the facts in scope can't stand together
pub clash {ℓ} : {A : Type ℓ} → false ≡ true → A
clash e = absurd (false≢true e)

pub neither : (a b : Bool) → (a || b) ≡ false → (a ≡ false) × (b ≡ false)
neither true b e = clash (cc)
neither false b e = (refl, e)

pub is_true : (t : Bool) → T t → t ≡ true
is_true true h = refl
is_true false h = absurd h

-- a test on two numbers, with what it tells in each case
pub by_le {ℓ} : {X : Type ℓ} (a b : ℕ) → (a ≤ b → X) → (b < a → X) → X
by_le {X = X} a b f g = go (leb a b) refl
  where
    go : (t : Bool) → leb a b ≡ t → X
    go true e = f (leb-true a b e)
    go false e = g (leb-false a b e)
