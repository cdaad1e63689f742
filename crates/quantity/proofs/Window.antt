-- The laws of the number that a window stands for. Assumes nothing.
use Rattle.std.proofs.Common.{◌≡◌, ℕ, suc, ◌+◌, ◌-◌, ◌%◌, ◌^◌, ◌<◌, ◌≤◌, Bool, true, false, ◌&&◌, T, List, [], ◌∷◌, ℤ, pos, negsuc, sym, refl, ap, ◌∙◌, subst, arith, le→leb, leb→le, le-ltb, lt-ltb, leb-true}
use lib.IntN.{sub_ℕ}
use lib.Signed.{le_z}
use borrow.Author.Tests.{lt-leb}
use Rattle.facts.proofs.Tests.{by_le, is_true}
use Rattle.quantity.specs.declared.count.FlowSequence.{FlowSequence}
use Rattle.quantity.specs.declared.count.FlowWindow.{FlowWindow}
use Rattle.quantity.specs.declared.count.ByteCount.{ByteCount}
use Rattle.quantity.specs.Distance.{ahead_of, distance_of, fits_of, advance_of}
use Rattle.quantity.specs.Window.{sequence_at, Stands, standing_at, sequence_after, count_after, each_fits}
use Rattle.quantity.proofs.Tests.{leb_same, le_z_sub}
use Rattle.quantity.proofs.Distance.{fits_ahead, fits_behind}

-- the facts in natural numbers, of a number below zero
module _ {c k : ℕ} {w : FlowWindow} where
  below : Stands c w (negsuc k) → (c + suc k ≤ 2 ^ 31) × ((2 ^ 32 - 1) - k % 2 ^ 32 ≡ w.0 % 2 ^ 32)
  below h = (leb-true (c + suc k) (2 ^ 31) (sym (le_z_sub c (2 ^ 31) (suc k)) ∙ is_true _ h.least.le), h.bits)

-- "the one number": there is one only
pub stands_one : (c : ℕ) (w : FlowWindow) (y z : ℤ) → Stands c w y → Stands c w z → y ≡ z
stands_one c w (pos a) (pos b) p q = ap pos (omega (arith, leb→le))
stands_one c w (pos a) (negsuc b) p q = absurd (omega (arith, leb→le, below q))
stands_one c w (negsuc a) (pos b) p q = absurd (omega (arith, leb→le, below p))
stands_one c w (negsuc a) (negsuc b) p q = ap negsuc (omega (arith, below p, below q))

-- and `standing_at` is it
pub standing_stands : (c : ℕ) (w : FlowWindow) → Stands c w (standing_at c w)
unfolding standing_at distance_of
standing_stands c w = by_le (2 ^ 31) m behind ahead
  where
    m : ℕ
    m = ahead_of (sequence_at c) w

    ahead : m < 2 ^ 31 → Stands c w (standing_at c w)
    ahead h = rw (lt-ltb m (2 ^ 31) h) (record { least = record { le = omega (arith, le→leb) }; most = record { lt = omega (arith, le→leb) }; bits = omega arith })

    -- the count less what the window is behind
    back : (b : ℕ) → 0 < b → b ≤ 2 ^ 31 → (b + w.0) % 2 ^ 32 ≡ c % 2 ^ 32 → Stands c w (sub_ℕ c b)
    back b p q e =
        by_le b c
        (λ i. rw (le-ltb c b i) (record { least = record { le = omega (arith, le→leb) }; most = record { lt = omega (arith, le→leb) }; bits = omega arith }))
        (λ i. rw (lt-ltb c b i) (record { least = record { le = subst T (sym (le_z_sub c (2 ^ 31) (suc (b - suc c)))) (omega (arith, le→leb)) }; most = record { lt = tt }; bits = omega arith }))

    behind : 2 ^ 31 ≤ m → Stands c w (standing_at c w)
    behind h = rw (le-ltb m (2 ^ 31) h, lt-ltb m (2 ^ 32) (omega arith)) (back (suc (2 ^ 32 - suc m)) (omega arith) (omega arith) (omega arith))

-- `fits` on words of 32 bits is `count + n ≤ number`
pub fits_is : (c : ℕ) (w : FlowWindow) (n : ByteCount) (z : ℤ) → Stands c w z → fits_of (sequence_at c) w n ≡ le_z (pos (c + n.0)) z
fits_is c w n (pos k) h =
    by_le c k
    (λ i. fits_ahead _ w (k - c) (omega (arith, leb→le)) n (omega (arith, leb→le)) ∙ leb_same n.0 (k - c) (c + n.0) k (λ j. omega arith) (λ j. omega arith))
    (λ i. fits_behind _ w ((2 ^ 32 + k) - c) (omega (arith, leb→le)) n (omega (arith, leb→le)) (omega arith) ∙ sym (lt-leb (c + n.0) k (omega arith)))
fits_is c w n (negsuc k) h = fits_behind _ w (2 ^ 32 - (c + suc k)) (omega (arith, below h)) n (omega (arith, below h)) (omega arith)

-- the window goes on standing for its number as the count grows up to it
pub stands_on : (c : ℕ) (w : FlowWindow) (n : ByteCount) (z : ℤ) → Stands c w z → T (le_z (pos (c + n.0)) z) → Stands (c + n.0) w z
stands_on c w n (pos k) h f = record { least = record { le = omega (arith, leb→le, le→leb) }; most = record { lt = omega (arith, leb→le, le→leb) }; bits = h.bits }
stands_on c w n (negsuc k) h f = absurd f

-- "The count that never wraps starts as the configured first sequence"
pub sequence_start : (s : FlowSequence) → s.0 < 2 ^ 32 → sequence_at s.0 ≡ s
sequence_start s h = ap {B = FlowSequence} (λ (k : ℕ). record { 0 = k }) (omega arith)

-- the sequence of the count's sum
pub advance_is : (c : ℕ) (n : ByteCount) → advance_of (sequence_at c) n ≡ sequence_at (c + n.0)
advance_is c n = ap {B = FlowSequence} (λ (k : ℕ). record { 0 = k }) (omega arith)

-- ---- after any sends since

and_left : (a b : Bool) → T (a && b) → T a
and_left true b h = tt
and_left false b h = h

and_right : (a b : Bool) → T (a && b) → T b
and_right true b h = h
and_right false b h = absurd h

pub sequence_after_lem : (c : ℕ) (ns : List ByteCount) → sequence_after (sequence_at c) ns ≡ sequence_at (count_after c ns)
sequence_after_lem c [] = refl
sequence_after_lem c (n ∷ ns) = rw (advance_is c n) (sequence_after_lem (c + n.0) ns)

pub stands_after : (c : ℕ) (w : FlowWindow) (z : ℤ) (ns : List ByteCount) → Stands c w z → T (each_fits (sequence_at c) w ns) → Stands (count_after c ns) w z
stands_after c w z [] h f = h
stands_after c w z (n ∷ ns) h f =
    let one : T (le_z (pos (c + n.0)) z) = rw (fits_is c w n z h) at (and_left (fits_of (sequence_at c) w n) (each_fits (advance_of (sequence_at c) n) w ns) f) in
    let rest : T (each_fits (sequence_at (c + n.0)) w ns) = rw (advance_is c n) at (and_right (fits_of (sequence_at c) w n) (each_fits (advance_of (sequence_at c) n) w ns) f) in
    stands_after (c + n.0) w z ns (stands_on c w n z h one) rest

-- `fits` agrees with `count + n ≤ number` after any sends since the window stood for its number
pub fits_after : (c : ℕ) (w : FlowWindow) (z : ℤ) (ns : List ByteCount) (n : ByteCount) → Stands c w z → T (each_fits (sequence_at c) w ns)
    → fits_of (sequence_after (sequence_at c) ns) w n ≡ le_z (pos (count_after c ns + n.0)) z
fits_after c w z ns n h f = rw (sequence_after_lem c ns) (fits_is (count_after c ns) w n z (stands_after c w z ns h f))
