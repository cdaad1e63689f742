-- The three flow states case by case, for the code's parts and for the simple ones; what a Flow Window option makes of them; what fresh is. Assumes nothing.
use Rattle.std.specs.Prelude.{Option, None}
use Prim.Native.Nat.{ℕ, suc, ◌+◌, ◌-◌, ◌%◌, ◌^◌, ◌≤◌, ◌<◌}
use mathlib.Core.Bool.{true, false}
use mathlib.Core.List.{[]}
use mathlib.Core.Logic.{◌↔◌}
use mathlib.Core.Path.{◌≡◌, refl, ap}
use native.Mathlib.Omega.{arith}
use lib.IntN.{ℤ, pos, negsuc}
use lib.Signed.{◌≤ℤ◌, le_z}
use borrow.Author.Tests.{lt-ltb, le-ltb}
use Rattle.facts.proofs.Tests.{is_true, by_le}
use Rattle.quantity.specs.declared.count.FlowSequence.{FlowSequence}
use Rattle.quantity.specs.declared.count.FlowWindow.{FlowWindow}
use Rattle.quantity.specs.Distance.{ahead_of, distance_of, fits_of}
use Rattle.quantity.specs.Window.{sequence_at, standing_at}
use Rattle.meaning.specs.declared.message.Window.{Window}
use Rattle.flow.specs.declared.Flow.{Flow}
use Rattle.ips_channel_rules.specs.Rules.{Terms, ChannelParts, Condition, radio_at}
use Rattle.ips_channel_rules.specs.Machine.{machine, fresh_machine}
use Rattle.ips_channel_rules.specs.Simple.{simple, Limit, free, none, up_to, fresh_simple}
use Rattle.ips_channel_rules.specs.FlowCases.{IsFree, IsShut, IsUnder, DistanceFrom, NumberFor, MakesFlow, absent_frees, empty_shuts, given_in_force, MakesLimit, absent_unlimits, empty_closes, given_limits, heard_as}

-- ---- free, and no window

-- "if .. the channel is free"; "A free channel's sequence stands still."
pub free_words : (sequence : FlowSequence) → IsFree machine (record { flow = Flow.Free; sequence = sequence })
free_words sequence = record { goes = λ n. refl; counted = λ n. refl; carried = refl }

pub free_simple : (count : ℕ) → IsFree simple (record { count = count; limit = free })
free_simple count = record { goes = λ n. refl; counted = λ n. refl; carried = refl }

-- with no window nothing goes
pub shut_words : (sequence : FlowSequence) → IsShut machine (record { flow = Flow.NoWindow; sequence = sequence })
shut_words sequence = record { stays = λ n. refl }

pub shut_simple : (count : ℕ) → IsShut simple (record { count = count; limit = none })
shut_simple count = record { stays = λ n. refl }

-- ---- under a number, and under a window

-- a test of two whole numbers, as the order that it decides
test_is : (a b : ℤ) → (le_z a b ≡ true) ↔ (a ≤ℤ b)
test_is a b = (λ e. record { le = rw e tt }, λ h. is_true _ h.le)

-- a packet of n bytes goes exactly when count + n is at most the number; the count "grows by n where the sequence does", and the message carries its low 32 bits
pub under_simple : (count n : ℕ) (number : ℤ)
    → IsUnder simple (record { count = count; limit = up_to number }) n (pos (count + n) ≤ℤ number) (record { count = count + n; limit = up_to number }) ((count + n) % 4294967296)
under_simple count n number = record { goes = test_is _ _; counted = refl; carried = refl }

-- "the one number": there is always one, and one only
pub distance_exists : (sequence window : ℕ) → (d : ℤ) × DistanceFrom sequence window d
distance_exists s w = by_le 2147483648 m (λ h. (negsuc (4294967295 - m), (omega arith, omega arith))) (λ h. (pos m, (h, omega arith)))
  where
    m : ℕ
    m = (w + (4294967296 - s % 4294967296)) % 4294967296

pub distance_unique : (sequence window : ℕ) (d e : ℤ) → DistanceFrom sequence window d → DistanceFrom sequence window e → d ≡ e
distance_unique s w (pos a) (pos b) p q = ap pos (omega arith)
distance_unique s w (pos a) (negsuc b) p q = absurd (omega arith)
distance_unique s w (negsuc a) (pos b) p q = absurd (omega arith)
distance_unique s w (negsuc a) (negsuc b) p q = ap negsuc (omega arith)

-- and the distance of the code is it
pub distance_words : (sequence : FlowSequence) (window : FlowWindow) (d : ℤ) → sequence.0 < 4294967296 → DistanceFrom sequence.0 window.0 d → distance_of sequence window ≡ d
unfolding distance_of
distance_words s w (pos a) below h = rw (lt-ltb (ahead_of s w) (2 ^ 31) (omega arith)) (ap pos (omega arith))
distance_words s w (negsuc a) below h =
    rw (le-ltb (ahead_of s w) (2 ^ 31) (omega arith), lt-ltb (ahead_of s w) (2 ^ 32) (omega arith)) (ap negsuc (omega arith))

-- "A packet of n bytes fits when n is at most the distance."; "Sending under a window adds n to the sequence modulo 2^32, and the message carries the sum."
pub under_words : (sequence : FlowSequence) (window : FlowWindow) (n : ℕ) (d : ℤ) → sequence.0 < 4294967296 → DistanceFrom sequence.0 window.0 d
    → IsUnder machine (record { flow = Flow.InForce window; sequence = sequence }) n (pos n ≤ℤ d)
    (record { flow = Flow.InForce window; sequence = record { 0 = (sequence.0 + n) % 4294967296 } }) ((sequence.0 + n) % 4294967296)
unfolding fits_of
under_words s w n d below h = record { goes = rw (distance_words s w d below h) (test_is _ _); counted = refl; carried = refl }

-- ---- the number that a window stands for: there is always one, and one only
pub number_exists : (count window : ℕ) → (z : ℤ) × NumberFor count window z
number_exists c w =
    by_le 2147483648 m
    (λ h. by_le (4294967296 - m) c (λ i. (pos ((c + m) - 4294967296), (omega arith, omega arith, omega arith))) (λ i. (negsuc (4294967295 - (m + c)), (omega arith, omega arith))))
    (λ h. (pos (c + m), (omega arith, omega arith, omega arith)))
  where
    m : ℕ
    m = (w + (4294967296 - c % 4294967296)) % 4294967296

pub number_unique : (count window : ℕ) (y z : ℤ) → NumberFor count window y → NumberFor count window z → y ≡ z
number_unique c w (pos a) (pos b) p q = ap pos (omega arith)
number_unique c w (pos a) (negsuc b) p q = absurd (omega arith)
number_unique c w (negsuc a) (pos b) p q = absurd (omega arith)
number_unique c w (negsuc a) (negsuc b) p q = ap negsuc (omega arith)

-- and the simple channel's is it
pub number_simple : (count : ℕ) (window : FlowWindow) (z : ℤ) → NumberFor count window.0 z → standing_at count window ≡ z
unfolding standing_at distance_of
number_simple c w z h = by_le 2147483648 m (behind z h) (ahead z h)
  where
    m : ℕ
    m = ahead_of (sequence_at c) w

    -- how far the window is behind the count
    b : ℕ
    b = suc (4294967296 - suc m)

    ahead : (z : ℤ) → NumberFor c w.0 z → m < 2147483648 → standing_at c w ≡ z
    ahead (pos a) h i = rw (lt-ltb m 2147483648 i) (ap pos (omega arith))
    ahead (negsuc a) h i = absurd (omega arith)

    behind : (z : ℤ) → NumberFor c w.0 z → 2147483648 ≤ m → standing_at c w ≡ z
    behind (pos a) h i = rw (le-ltb m 2147483648 i, lt-ltb m 4294967296 (omega arith), le-ltb c b (omega arith)) (ap pos (omega arith))
    behind (negsuc a) h i =
        let low : c % 4294967296 ≡ c = omega arith in
        let turns : (m + (c + (a + 1))) % 4294967296 ≡ 0 = omega arith in
        let far : m + (c + (a + 1)) ≡ 4294967296 = omega arith in
        rw (le-ltb m 2147483648 i, lt-ltb m 4294967296 (omega arith), lt-ltb c b (omega arith)) (ap negsuc (omega arith))

-- ---- what a radio control message makes of it

module _ (k : Terms) (controlled : k.controlled ≡ true) (status : Option ℕ) where
  pub heard_words_lem : (window : Option Window) (flow : Flow) → MakesFlow window flow
      → (st : Condition machine) → radio_at machine k status window st ≡ heard_as machine status (record { flow = flow; sequence = st.counting.sequence }) st
  unfolding radio_at
  heard_words_lem _ _ absent_frees st = rw controlled
  heard_words_lem _ _ empty_shuts st = rw controlled
  heard_words_lem _ _ given_in_force st = rw controlled

  pub heard_simple : (st : Condition simple) (window : Option Window) (limit : Limit) → MakesLimit st.counting.count window limit
      → radio_at simple k status window st ≡ heard_as simple status (record { count = st.counting.count; limit = limit }) st
  unfolding radio_at
  heard_simple st _ _ absent_unlimits = rw controlled
  heard_simple st _ _ empty_closes = rw controlled
  heard_simple st _ _ (given_limits {window = w} {number = z} h) = rw (controlled, number_simple st.counting.count w z h)

-- "Plain channels are always free.": of a plain one it makes nothing else
pub heard_plain : (P : ChannelParts) (k : Terms) → k.controlled ≡ false → (status : Option ℕ) (window : Option Window) (st : Condition P)
    → radio_at P k status window st ≡ heard_as P status st.counting st
unfolding radio_at
heard_plain P k plain status window st = rw plain

-- ---- "fresh: not reported", "Plain channels are always free. Fresh flow-controlled channels have no window.", "Latest time .. 0 when fresh"

pub fresh_words_lem : (first : FlowSequence)
    → (fresh_machine true first ≡ record { counting = record { flow = Flow.NoWindow; sequence = first }; keeping = []; status = None; latest = 0 })
    × (fresh_machine false first ≡ record { counting = record { flow = Flow.Free; sequence = first }; keeping = []; status = None; latest = 0 })
fresh_words_lem first = (refl, refl)

-- "The count that never wraps starts as the configured first sequence"
pub fresh_simple_lem : (first : FlowSequence)
    → (fresh_simple true first ≡ record { counting = record { count = first.0; limit = none }; keeping = []; status = None; latest = 0 })
    × (fresh_simple false first ≡ record { counting = record { count = first.0; limit = free }; keeping = []; status = None; latest = 0 })
fresh_simple_lem first = (refl, refl)
