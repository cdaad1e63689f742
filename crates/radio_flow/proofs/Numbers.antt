-- The highest sequence and the window in numbers that never wrap. Assumes nothing.
use Rattle.std.specs.Prelude.{Some, None}
use Prim.Native.Nat.{ℕ, ◌+◌, ◌%◌, ◌^◌, ◌≤◌, ◌<◌, max}
use mathlib.Core.Path.{◌≡◌, refl, sym, ap, ◌∙◌}
use mathlib.Core.List.Memᴰ
use mathlib.Core.List.{List, [], ◌∷◌, Memᴰ}
use mathlib.Core.Logic.{◌⊎◌, inl, inr, ⊎_elim}
use native.Mathlib.Omega.{arith}
use lib.IntN.{ℤ, pos, negsuc}
use lib.Signed.{le_z, ◌≤ℤ◌}
use lib.Dec.{le→leb}
use borrow.Author.Tests.{le-leb, lt-leb}
use Rattle.facts.proofs.Tests.{by_le}
use Rattle.quantity.specs.declared.count.FlowSequence.{FlowSequence}
use Rattle.quantity.specs.declared.count.ByteCount.{ByteCount}
use Rattle.quantity.specs.Distance.{distance_of, fits_of}
use Rattle.quantity.specs.Window.{sequence_at, Stands}
use Rattle.quantity.proofs.Distance.{distance_ahead}
use Rattle.quantity.proofs.Window.{standing_stands, fits_is, sequence_start}
use Rattle.radio_flow.specs.Granting.{place_of, is_ahead, later_of, heard_of, allowance_of, window_from}
use Rattle.radio_flow.specs.Numbers.{heard_all, number_of, larger, number_after, numbers_heard, AllowanceIs}

-- ---- one sequence more
ahead_is : (h : ℕ) (s : FlowSequence) (z : ℤ) → Stands h (place_of s) z → is_ahead (sequence_at h) s ≡ le_z (pos (h + 1)) z
unfolding is_ahead fits_of
ahead_is h s z st = fits_is h (place_of s) (record { 0 = 1 }) z st

later_is : (h : ℕ) (s : FlowSequence) (z : ℤ) → s.0 < 2 ^ 32 → Stands h (place_of s) z → later_of (sequence_at h) s ≡ Some (sequence_at (larger h z))
later_is h s (pos k) small st =
    by_le (h + 1) k
    (λ (l : h + 1 ≤ k).
    let new : s.0 ≡ max h k % 2 ^ 32 = omega (arith, st.bits) in
    rw (ahead_is h s (pos k) st, le-leb (h + 1) k l) (ap (λ (n : ℕ). Some (record { 0 = n })) new))
    (λ (l : k < h + 1).
    let old : h % 2 ^ 32 ≡ max h k % 2 ^ 32 = omega arith in
    rw (ahead_is h s (pos k) st, lt-leb (h + 1) k l) (ap (λ (n : ℕ). Some (record { 0 = n })) old))
later_is h s (negsuc k) small st = rw (ahead_is h s (negsuc k) st)

-- the word that is kept is the low 32 bits of the larger number
pub heard_number : (h : ℕ) (s : FlowSequence) → s.0 < 2 ^ 32 → heard_of (Some (sequence_at h)) s ≡ Some (sequence_at (larger h (number_of h s)))
heard_number h s small = later_is h s (number_of h s) small (standing_stands h (place_of s))

-- ---- any sequences
all_numbers : (h : ℕ) (ss : List FlowSequence) → ((s : FlowSequence) → Memᴰ s ss → s.0 < 2 ^ 32)
    → heard_all (Some (sequence_at h)) ss ≡ Some (sequence_at (number_after h ss))
all_numbers h [] small = refl
all_numbers h (s ∷ ss) small =
    rw (heard_number h s (small s (Memᴰ.head refl))) (all_numbers (larger h (number_of h s)) ss (λ t m. small t (Memᴰ.tail m)))

-- THE HIGHEST NUMBER starts at the first word; the kept word is its low 32 bits
pub highest_number : (first : FlowSequence) (ss : List FlowSequence) → first.0 < 2 ^ 32 → ((s : FlowSequence) → Memᴰ s ss → s.0 < 2 ^ 32)
    → heard_all None (first ∷ ss) ≡ Some (sequence_at (number_after first.0 ss))
highest_number first ss small each =
    ap (λ (s : FlowSequence). heard_all (Some s) ss) (sym (sequence_start first small)) ∙ all_numbers first.0 ss each

larger_least : (h : ℕ) (z : ℤ) → h ≤ larger h z
larger_least h (pos k) = omega arith
larger_least h (negsuc k) = omega arith

-- it never falls
pub never_falls : (h : ℕ) (ss : List FlowSequence) → h ≤ number_after h ss
never_falls h [] = omega arith
never_falls h (s ∷ ss) = omega (arith, larger_least h (number_of h s), never_falls (larger h (number_of h s)) ss)

larger_most : (h n : ℕ) (z : ℤ) → larger h z ≤ n → z ≤ℤ pos n
larger_most h n (pos k) l = record { le = omega (arith, le→leb) }
larger_most h n (negsuc k) l = record { le = tt }

-- it is the largest of those heard since: none is above it
pub none_above : (h : ℕ) (ss : List FlowSequence) (z : ℤ) → Memᴰ z (numbers_heard h ss) → z ≤ℤ pos (number_after h ss)
none_above h [] z m = absurd (Memᴰ.not-nil m)
none_above h (s ∷ ss) z m =
    ⊎_elim
    (λ (e : z ≡ number_of h s). rw e (larger_most h (number_after h (s ∷ ss)) (number_of h s) (never_falls (larger h (number_of h s)) ss)))
    (λ (r : Memᴰ z (numbers_heard (larger h (number_of h s)) ss)). none_above (larger h (number_of h s)) ss z r)
    (Memᴰ.cases_cons m)

larger_one : (h : ℕ) (z : ℤ) → (larger h z ≡ h) ⊎ (pos (larger h z) ≡ z)
larger_one h (pos k) =
    by_le k h (λ (l : k ≤ h). inl (omega arith)) (λ (l : h < k). let e : max h k ≡ k = omega arith in inr (ap pos e))
larger_one h (negsuc k) = inl refl

-- and it is the first, or one of them
pub one_of_them : (h : ℕ) (ss : List FlowSequence) → (number_after h ss ≡ h) ⊎ Memᴰ (pos (number_after h ss)) (numbers_heard h ss)
one_of_them h [] = inl refl
one_of_them h (s ∷ ss) =
    ⊎_elim
    (λ (e : number_after (larger h (number_of h s)) ss ≡ larger h (number_of h s)).
    ⊎_elim (λ (f : larger h (number_of h s) ≡ h). inl (e ∙ f)) (λ (f : pos (larger h (number_of h s)) ≡ number_of h s). inr (Memᴰ.head (ap pos e ∙ f))) (larger_one h (number_of h s)))
    (λ (m : Memᴰ (pos (number_after (larger h (number_of h s)) ss)) (numbers_heard (larger h (number_of h s)) ss)). inr (Memᴰ.tail m))
    (one_of_them (larger h (number_of h s)) ss)

-- ---- the window
pub allowance_is : (w t q : ByteCount) → AllowanceIs w.0 t.0 q.0 (allowance_of w t q).0
unfolding allowance_of
allowance_is w t q = record { shut = λ h. omega arith; between = λ h k. omega arith; cut = λ h. omega arith; most = omega arith }

-- seen from the highest number, the window stands for that number plus the allowance
pub window_stands : (n : ℕ) (a : ByteCount) → a.0 ≤ 2147483647 → Stands n (window_from (sequence_at n) a) (pos (n + a.0))
window_stands n a h = record { least = record { le = omega (arith, le→leb) }; most = record { lt = omega (arith, le→leb) }; bits = omega arith }

-- and the distance from the highest to the window is the allowance
pub window_distance : (s : FlowSequence) (a : ByteCount) → s.0 < 2 ^ 32 → a.0 ≤ 2147483647 → distance_of s (window_from s a) ≡ pos a.0
window_distance s a small h = distance_ahead s (window_from s a) a.0 (omega arith) (omega arith)
