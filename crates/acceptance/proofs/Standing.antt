-- What is looked up for a type and a channel is what stands in the message, wherever it stands. Assumes nothing.
use Rattle.std.specs.Prelude.{Some}
use Prim.Native.Nat.{ℕ, ◌+◌, ◌≤◌}
use mathlib.Core.Path.{◌≡◌, refl, sym}
use mathlib.Core.Logic.{◌↔◌, ◌⊎◌, inl, inr}
use mathlib.Core.List.{List}
use mathlib.Core.Bool.{Bool, true, false, cond}
use native.Mathlib.Omega.{arith}
use Rattle.quantity.specs.declared.count.DatalinkId.{DatalinkId}
use Rattle.wire.specs.Options.{Options, done, cut, option}
use Rattle.meaning.specs.declared.message.End.{End}
use Rattle.meaning.specs.declared.message.Plane.{Plane}
use Rattle.acceptance.specs.Account.{one, speaks, count, the, Stands, table_of, Accepts}
use Rattle.acceptance.proofs.Seats.{taken_free}

module _ (plane : Plane) (end : End) (k n : ℕ) (content : List ℕ) where
  the_stands : (f : Options) → the plane end k n f ≡ Some content → Stands plane end k n content f
  unfolding the Stands
  the_stands done e = taken_free (sym e)
  the_stands (cut rest) e = taken_free (sym e)
  the_stands (option kind other f) e = go (the_stands f) (speaks plane end k n kind other) refl e
    where
      go : (the plane end k n f ≡ Some content → Stands plane end k n content f) → (b : Bool) → speaks plane end k n kind other ≡ b
          → cond b (Some other) (the plane end k n f) ≡ Some content → ((speaks plane end k n kind other ≡ true) × (other ≡ content)) ⊎ Stands plane end k n content f
      go later true p q = inl (p, cc)
      go later false p q = inr (later q)

  counted : (f : Options) → Stands plane end k n content f → 1 ≤ count plane end k n f
  unfolding count Stands
  counted done x = absurd x
  counted (cut rest) x = absurd x
  counted (option kind other f) (inl x) = rw x.0 (omega arith)
  counted (option kind other f) (inr x) = let h = counted f x in omega arith

  stands_the : (f : Options) → count plane end k n f ≤ 1 → Stands plane end k n content f → the plane end k n f ≡ Some content
  unfolding the Stands count
  stands_the done h x = absurd x
  stands_the (cut rest) h x = absurd x
  stands_the (option kind other f) h (inl x) = rw (x.0, x.1)
  stands_the (option kind other f) h (inr x) = go (λ q. stands_the f q x) (speaks plane end k n kind other) (counted f x) h
    where
      go : (count plane end k n f ≤ 1 → the plane end k n f ≡ Some content) → (b : Bool) → 1 ≤ count plane end k n f → one b + count plane end k n f ≤ 1
          → cond b (Some other) (the plane end k n f) ≡ Some content
      go later true p q = absurd (omega arith)
      go later false p q = later (omega arith)

-- What the table of an accepted message says of a type and a channel is what stands in it.
pub table_stands : (plane : Plane) (end : End) (id : DatalinkId) (s : List ℕ) (f : Options) → Accepts plane end id s f
    → (kind channel : ℕ) (content : List ℕ) → table_of plane end f kind channel ≡ Some content ↔ Stands plane end kind channel content f
table_stands plane end id s f a kind channel content =
    (the_stands plane end kind channel content f, stands_the plane end kind channel content f (a.once kind channel))
