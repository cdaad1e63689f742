-- What a turn of a reader's loop does to `judge`, over plain values, for any sort of message. Assumes nothing.
use Rattle.std.specs.Prelude.{Some, None}
use Prim.Native.Nat.{ℕ, ◌+◌, ◌-◌, ◌≤◌, ◌<◌}
use mathlib.Core.Path.{◌≡◌, sym, ◌∙◌}
use mathlib.Core.List.{List}
use native.Mathlib.Omega.{arith}
use native.Mathlib.Nat.{add-sub_cancel_left}
use lib.ListN.{length, take, drop, length-drop}
use lib.Seq.{drop-drop, length-take-le}
use Rattle.facts.proofs.Lists.{rest_part}
use Rattle.quantity.specs.Refusals.{CUT}
use Rattle.wire.specs.Options.{frame_of, split}
use Rattle.wire.proofs.Options.{frame_tells, split_end, split_cut, split_whole}
use Rattle.read_rules.specs.Judging.{next, stop, Rules, judge}

-- a whole option at a place, of n bytes of content, ends within the datagram
pub reaches : (s : List ℕ) (at kind n : ℕ) → Some (kind, n) ≡ frame_of (take (length s - at) (drop at s)) → at + 3 + n ≤ length s
reaches s at kind n w = let f = (frame_tells (drop at s) kind n (rw rest_part at (sym w))).inside in omega (arith, rw length-drop at f)

-- whole: what reading the datagram gives; at: an option's first byte; m: what is stated so far
module _ {A B : Type 0} (R : Rules A B) {whole : B} (s : List ℕ) (at : ℕ) (m : A) (inv : whole ≡ judge R (split (drop at s)) at m) where
  pub ends : length s ≤ at → whole ≡ R.finish at m
  unfolding judge
  ends h = let e : length (drop at s) ≡ 0 = rw length-drop (omega arith) in inv ∙ rw (split_end (drop at s) e)

  pub cuts : at < length s → None ≡ frame_of (take (length s - at) (drop at s)) → whole ≡ R.refuse CUT at
  unfolding judge
  cuts h e = inv ∙ rw (split_cut (drop at s) (rw length-drop (omega arith)) (rw rest_part at (sym e)))

  -- a whole option of a type and n bytes of content
  module _ (kind n : ℕ) (w : Some (kind, n) ≡ frame_of (take (length s - at) (drop at s))) (h : at < length s) where
    pub fits : at + 3 + n ≤ length s
    fits = reaches s at kind n w

    pub again : (m' : A) → R.step kind (take (at + 3 + n - (at + 3)) (drop (at + 3) s)) m ≡ next m'
        → whole ≡ judge R (split (drop (at + 3 + n) s)) (at + 3 + n) m'
    unfolding judge
    again m' a =
        let b = fits in
        let l : length (take n (drop (at + 3) s)) ≡ n = length-take-le n (drop (at + 3) s) (rw length-drop (omega arith)) in
        let e : at + (3 + n) ≡ at + 3 + n = omega arith in
        inv ∙ rw (split_whole (drop at s) kind n (rw rest_part at (sym w)), drop-drop, drop-drop, l, e, rw add-sub_cancel_left at a)

    pub stops : (number : ℕ) → R.step kind (take (at + 3 + n - (at + 3)) (drop (at + 3) s)) m ≡ stop number → whole ≡ R.refuse number at
    unfolding judge
    stops number a = inv ∙ rw (split_whole (drop at s) kind n (rw rest_part at (sym w)), drop-drop, drop-drop, rw add-sub_cancel_left at a)
