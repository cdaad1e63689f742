-- Tests on numbers, taken apart. Assumes nothing.
use Rattle.std.proofs.Common.{◌≡◌, ℕ, ◌+◌, ◌-◌, ◌≤◌, leb, pos, sym, ◌∙◌, arith, le-ltb, lt-ltb, le-leb}
use lib.IntN.{sub_ℕ}
use lib.Signed.{le_z}
use borrow.Author.Tests.{lt-leb}
use Rattle.facts.proofs.Tests.{by_le}

-- two tests that tell the same
pub leb_same : (a b x y : ℕ) → (a ≤ b → x ≤ y) → (x ≤ y → a ≤ b) → leb a b ≡ leb x y
leb_same a b x y f g =
    by_le a b (λ h. le-leb a b h ∙ sym (le-leb x y (f h))) (λ h. lt-leb a b h ∙ sym (by_le x y (λ k. absurd (omega (arith, g k))) (λ k. lt-leb x y k)))

-- a ≤ x - y, of natural numbers
pub le_z_sub : (a x y : ℕ) → le_z (pos a) (sub_ℕ x y) ≡ leb (a + y) x
le_z_sub a x y =
    by_le y x
    (λ h. rw (le-ltb x y h) (leb_same a (x - y) (a + y) x (λ j. omega arith) (λ j. omega arith)))
    (λ h. rw (lt-ltb x y h) (sym (lt-leb (a + y) x (omega arith))))
