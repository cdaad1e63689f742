-- The test of a data message says what the papers say. Assumes nothing.
use Rattle.std.proofs.Common.{◌≡◌, ℕ, zero, suc, ◌+◌, ◌-◌, ◌%◌, ◌^◌, ◌<◌, true, eqb, pos, ◌-ℤ◌, ◌≤ℤ◌, sym, refl, ap, ◌∙◌, arith, le-ltb, lt-ltb, eq-eqb, eqb-true, Option, Some, None}
use mathlib.Core.Bool.{and-eq-true_iff}
use lib.IntN.{sub_ℕ}
use lib.Signed.{le_z}
use Rattle.facts.proofs.Tests.{clash, is_true, by_le}
use Rattle.quantity.specs.declared.count.FlowSequence.{FlowSequence}
use Rattle.quantity.specs.declared.count.FlowWindow.{FlowWindow}
use Rattle.quantity.specs.declared.count.ByteCount.{ByteCount}
use Rattle.quantity.specs.Distance.{low_of, distance_of, fits_of, advance_of}
use Rattle.conduct_rules.specs.declared.Flow.{Flow}
use Rattle.conduct_rules.specs.Rules.{Base, carried_last, own_less, Obeys, free, within, less_of, base_for, obeys_within, obeys_of}

-- ---- its own less its bytes

-- the difference of two natural numbers, by which is the larger
sub_is : (a b : ℕ) → pos a -ℤ pos b ≡ sub_ℕ a b
sub_is a zero = rw (le-ltb a 0 (omega arith)) (ap pos (omega arith))
sub_is a (suc b) = refl

pub less_is : (own : FlowSequence) (bytes : ByteCount) → (less_of own bytes).0 ≡ low_of (pos own.0 -ℤ pos bytes.0)
less_is own bytes =
    rw (sub_is own.0 bytes.0)
    (by_le bytes.0 own.0 (λ h. rw (le-ltb own.0 bytes.0 h) (omega arith)) (λ h. rw (lt-ltb own.0 bytes.0 h) (omega arith)))

base_is : (last : Option FlowSequence) (own : FlowSequence) (bytes : ByteCount) → Base last own bytes (base_for last own bytes)
base_is None own bytes = own_less (less_is own bytes)
base_is (Some base) own bytes = carried_last

base_one : {last : Option FlowSequence} {own base : FlowSequence} {bytes : ByteCount} → Base last own bytes base → base ≡ base_for last own bytes
base_one carried_last = refl
base_one {own = own} {bytes = bytes} (own_less e) = ap {B = FlowSequence} (λ (n : ℕ). record { 0 = n }) (e ∙ sym (less_is own bytes))

-- ---- under a window

module _ (window : FlowWindow) (base : FlowSequence) (bytes : ByteCount) (own : FlowSequence) where
  within_is : obeys_within window base bytes own ≡ true → (own.0 ≡ (base.0 + bytes.0) % 2 ^ 32) × (pos bytes.0 ≤ℤ distance_of base window)
  unfolding obeys_within fits_of
  within_is e =
      let both = (and-eq-true_iff (eqb own.0 (advance_of base bytes).0) (fits_of base window bytes)).0 e in
      (eqb-true own.0 (advance_of base bytes).0 both.0, record { le = rw both.1 tt })

  is_within : own.0 ≡ (base.0 + bytes.0) % 2 ^ 32 → pos bytes.0 ≤ℤ distance_of base window → obeys_within window base bytes own ≡ true
  unfolding obeys_within fits_of
  is_within e h = (and-eq-true_iff (eqb own.0 (advance_of base bytes).0) (fits_of base window bytes)).1 (eq-eqb own.0 (advance_of base bytes).0 e, is_true (le_z (pos bytes.0) (distance_of base window)) h.le)

-- ---- the test passes exactly where the message obeys

pub obeys_is : (flow : Flow) (last : Option FlowSequence) (bytes : ByteCount) (carried : Option FlowSequence) → obeys_of flow last bytes carried ≡ true → Obeys flow last bytes carried
obeys_is Flow.Unseen last bytes carried e = clash e
obeys_is Flow.Free last bytes None e = free
obeys_is Flow.Free last bytes (Some own) e = clash e
obeys_is Flow.NoWindow last bytes carried e = clash e
obeys_is (Flow.InForce window) last bytes None e = clash e
obeys_is (Flow.InForce window) last bytes (Some own) e =
    let k = within_is window (base_for last own bytes) bytes own e in within (base_is last own bytes) k.0 k.1

pub is_obeyed : {flow : Flow} {last : Option FlowSequence} {bytes : ByteCount} {carried : Option FlowSequence} → Obeys flow last bytes carried → obeys_of flow last bytes carried ≡ true
is_obeyed free = refl
is_obeyed (within {window} {last} {bytes} {own} {base} k e h) = rw (← (base_one k)) (is_within window base bytes own e h)

-- ---- a window counts modulo 2^32; a sequence that obeys is a number of 32 bits

pub window_alike : (number : ℕ) (last : Option FlowSequence) (bytes : ByteCount) (carried : Option FlowSequence)
    → obeys_of (Flow.InForce (record { 0 = number % 2 ^ 32 })) last bytes carried ≡ obeys_of (Flow.InForce (record { 0 = number })) last bytes carried
unfolding obeys_within fits_of distance_of
window_alike number last bytes None = refl
window_alike number last bytes (Some own) =
    let base : ℕ = (base_for last own bytes).0 in
    let same : (number % 2 ^ 32 + (2 ^ 32 - base)) % 2 ^ 32 ≡ (number + (2 ^ 32 - base)) % 2 ^ 32 = omega arith in
    rw same refl

pub obeyed_narrow : (flow : Flow) (last : Option FlowSequence) (bytes : ByteCount) (own : FlowSequence) → obeys_of flow last bytes (Some own) ≡ true → own.0 < 2 ^ 32
obeyed_narrow Flow.Unseen last bytes own e = clash e
obeyed_narrow Flow.Free last bytes own e = clash e
obeyed_narrow Flow.NoWindow last bytes own e = clash e
obeyed_narrow (Flow.InForce window) last bytes own e =
    let k = (within_is window (base_for last own bytes) bytes own e).0 in omega arith
