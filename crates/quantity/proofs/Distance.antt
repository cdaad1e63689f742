-- The laws of the distance. Assumes nothing.
use Rattle.std.proofs.Common.{◌≡◌, ℕ, zero, suc, ◌^◌, ◌<◌, ◌≤◌, false, leb, ℤ, pos, negsuc, ◌-ℤ◌, sym, refl, ap, ◌∙◌, arith, le→leb, leb→le, le-ltb, lt-ltb}
use lib.IntN.{sub_ℕ}
use Rattle.facts.proofs.Tests.{by_le}
use Rattle.quantity.specs.declared.count.FlowSequence.{FlowSequence}
use Rattle.quantity.specs.declared.count.FlowWindow.{FlowWindow}
use Rattle.quantity.specs.declared.count.ByteCount.{ByteCount}
use Rattle.quantity.specs.Distance.{low_of, IsDistance, ahead_of, distance_of, fits_of}

-- ---- from a word r that is known to be the wrapped difference
module _ (s : FlowSequence) (w : FlowWindow) (r : ℕ) (e : r ≡ ahead_of s w) where
  pub distance_ahead : r < 2 ^ 31 → distance_of s w ≡ pos r
  unfolding distance_of
  distance_ahead h = rw (← e, lt-ltb r (2 ^ 31) h)

  pub distance_behind : 2 ^ 31 ≤ r → distance_of s w ≡ pos r -ℤ pos (2 ^ 32)
  unfolding distance_of
  distance_behind h = rw (← e, le-ltb r (2 ^ 31) h)

  pub fits_ahead : (n : ByteCount) → r < 2 ^ 31 → fits_of s w n ≡ leb n.0 r
  unfolding fits_of
  fits_ahead n h = rw (distance_ahead h)

  pub fits_behind : (n : ByteCount) → 2 ^ 31 ≤ r → r < 2 ^ 32 → fits_of s w n ≡ false
  unfolding fits_of
  fits_behind n h k = rw (distance_behind h, lt-ltb r (2 ^ 32) k)

-- ---- the distance is the number that document 01 says, and there is one only
pub distance_one : (s : FlowSequence) (w : FlowWindow) (d e : ℤ) → IsDistance s w d → IsDistance s w e → d ≡ e
distance_one s w (pos a) (pos b) p q = ap pos (omega (arith, leb→le))
distance_one s w (pos a) (negsuc b) p q = absurd (omega (arith, leb→le))
distance_one s w (negsuc a) (pos b) p q = absurd (omega (arith, leb→le))
distance_one s w (negsuc a) (negsuc b) p q = ap negsuc (omega (arith, leb→le))

-- the difference of two natural numbers, by which is the larger
sub_is : (a b : ℕ) → pos a -ℤ pos b ≡ sub_ℕ a b
sub_is a zero = rw (le-ltb a 0 (omega arith)) (ap pos (omega arith))
sub_is a (suc b) = refl

pub distance_is : (s : FlowSequence) (w : FlowWindow) → s.0 < 2 ^ 32 → w.0 < 2 ^ 32 → IsDistance s w (distance_of s w)
unfolding distance_of
distance_is s w hs hw = by_le (2 ^ 31) (ahead_of s w) behind ahead
  where
    low_sub : low_of (pos w.0 -ℤ pos s.0) ≡ ahead_of s w
    low_sub = rw (sub_is w.0 s.0) (by_le s.0 w.0 (λ h. rw (le-ltb w.0 s.0 h) (omega arith)) (λ h. rw (lt-ltb w.0 s.0 h) (omega arith)))

    ahead : ahead_of s w < 2 ^ 31 → IsDistance s w (distance_of s w)
    ahead h = rw (lt-ltb (ahead_of s w) (2 ^ 31) h) (record { least = record { le = tt }; most = record { lt = omega (arith, le→leb) }; same = sym (low_sub ∙ omega arith) })

    behind : 2 ^ 31 ≤ ahead_of s w → IsDistance s w (distance_of s w)
    behind h =
        rw (le-ltb (ahead_of s w) (2 ^ 31) h, lt-ltb (ahead_of s w) (2 ^ 32) (omega arith))
        (record { least = record { le = omega (arith, le→leb) }; most = record { lt = tt }; same = sym (low_sub ∙ omega arith) })
