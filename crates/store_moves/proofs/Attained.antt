-- So few moves are enough: each packet that stays, moved down byte by byte to where it belongs, and not at all where it stands there. Assumes nothing.
use mathlib.Core.Bool.{Bool, true, false, cond}
use mathlib.Core.Path.{◌≡◌, refl, ◌∙◌}
use mathlib.Core.List.{List, [], ◌∷◌, ◌++◌, append_assoc, append-nil}
use Prim.Native.Nat.{ℕ, zero, suc, ◌+◌, ◌<◌, ◌≤◌}
use native.Mathlib.Nat.{add_assoc, add-zero, zero-add}
use native.Mathlib.Numerals.{add-one}
use native.Mathlib.Omega.{arith}
use borrow.Author.Tests.{eqb-true, eqb-false, eq-eqb, ne_eqb}
use lib.Dec.{eqb}
use lib.ListN.{length, take, drop, length-append}
use lib.Seq.{drop-drop}
use Rattle.store.specs.Moves.{Stretch, staying, displaced}
use Rattle.store.specs.Parts.{pasted}
use Rattle.store.proofs.Bytes.{moved_none, moved_more, moved_home, moved_length, moved_take, moved_drop}
use Rattle.store_moves.specs.Moving.{Move, moving, remaining, span, Filled, none, more, Brings}

moving_then : (ms ns : List Move) (store : List ℕ) → moving (ms ++ ns) store ≡ moving ns (moving ms store)
unfolding moving
moving_then [] ns store = refl
moving_then (m ∷ ms) ns store = moving_then ms ns _

-- so many bytes from one place to another, the first first
down : (from to n : ℕ) → List Move
down from to zero = []
down from to (suc n) = down from to n ++ (record { from = from + n; to = to + n } ∷ [])

down_length : (from to n : ℕ) → length (down from to n) ≡ n
unfolding down
down_length from to zero = refl
down_length from to (suc n) = rw (length-append, down_length from to n) (omega arith)

down_pasted : (from to n : ℕ) (store : List ℕ) → to ≤ from → from + n ≤ length store → moving (down from to n) store ≡ pasted store to (drop from store) n
unfolding down moving
down_pasted from to zero store h k = moved_none store from to
down_pasted from to (suc n) store h k =
    rw (moving_then (down from to n) (record { from = from + n; to = to + n } ∷ []) store)
    (moved_more (moving (down from to n) store) store from to n (down_pasted from to n store h (omega arith)) h (omega arith) ∙ rw (add-one n))

-- one packet, and all of them
brought : (from to n : ℕ) → List Move
brought from to n = cond (eqb to from) [] (down from to n)

brought_pasted : (from to n : ℕ) (store : List ℕ) → to ≤ from → from + n ≤ length store → moving (brought from to n) store ≡ pasted store to (drop from store) n
unfolding brought moving
brought_pasted from to n store h k = each (eqb to from) refl
  where
    each : (b : Bool) → eqb to from ≡ b → moving (cond b [] (down from to n)) store ≡ pasted store to (drop from store) n
    each true e = rw (eqb-true to from e) (moved_home store from n)
    each false e = down_pasted from to n store h k

enough : (from to : ℕ) → List Stretch → List Move
enough from to [] = []
enough from to (x ∷ xs) = cond x.stays (brought from to x.length ++ enough (from + x.length) (to + x.length) xs) (enough (from + x.length) to xs)

abbrev Goes : List Stretch → (from to : ℕ) → List ℕ → Type 0
Goes xs from to store = take (to + staying xs) (moving (enough from to xs) store) ≡ take to store ++ remaining xs (drop from store)

module _ (x : Stretch) (xs : List Stretch) (from to : ℕ) (store : List ℕ) (h : to ≤ from) where
  goes_stays : x.stays ≡ true → from + x.length ≤ length store → ((s : List ℕ) → length s ≡ length store → Goes xs (from + x.length) (to + x.length) s) → Goes (x ∷ xs) from to store
  unfolding enough staying remaining
  goes_stays e k on =
      let n = x.length in
      let s = pasted store to (drop from store) n in
      rw (
        e,
        moving_then (brought from to n) (enough (from + n) (to + n) xs) store,
        brought_pasted from to n store h k,
        ← (add_assoc to n (staying xs)),
        on s (moved_length store from to n h k),
        moved_take store from to n h k,
        moved_drop store from to n h k,
        append_assoc,
        drop-drop,
      )

  goes_leaves : x.stays ≡ false → Goes xs (from + x.length) to store → Goes (x ∷ xs) from to store
  unfolding enough staying remaining
  goes_leaves e on = rw (e, drop-drop) on

enough_brings : (xs : List Stretch) (from to : ℕ) (store : List ℕ) → to ≤ from → from + span xs ≤ length store → Goes xs from to store
unfolding enough moving staying span remaining
enough_brings [] from to store h k = rw (add-zero, append-nil)
enough_brings (x ∷ xs) from to store h k =
    each x.stays refl (λ s l. enough_brings xs (from + x.length) (to + x.length) s (omega arith) (omega arith))
    (enough_brings xs (from + x.length) to store (omega arith) (omega arith))
  where
    each : (b : Bool) → x.stays ≡ b → ((s : List ℕ) → length s ≡ length store → Goes xs (from + x.length) (to + x.length) s) → Goes xs (from + x.length) to store
        → Goes (x ∷ xs) from to store
    each true e stay leave = goes_stays x xs from to store h e (omega arith) stay
    each false e stay leave = goes_leaves x xs from to store h e leave

-- ---- how many they are
abbrev Counts : List Stretch → (from to : ℕ) → Type 0
Counts xs from to = length (enough from to xs) ≡ cond (eqb to from) (displaced xs) (staying xs)

module _ (x : Stretch) (xs : List Stretch) (from to : ℕ) where
  counts_stays : x.stays ≡ true → Counts xs (from + x.length) (to + x.length) → Counts (x ∷ xs) from to
  unfolding enough brought displaced staying
  counts_stays e on = each (eqb to from) refl
    where
      each : (b : Bool) → eqb to from ≡ b → Counts (x ∷ xs) from to
      each true f =
          let all : length (enough (from + x.length) (to + x.length) xs) ≡ displaced xs =
          rw (eq-eqb (to + x.length) (from + x.length) (omega (arith, eqb-true to from f))) at on in
          rw (e, f) all
      each false f =
          let all : length (enough (from + x.length) (to + x.length) xs) ≡ staying xs =
          rw (ne_eqb (to + x.length) (from + x.length) (λ q. eqb-false to from f (omega arith))) at on in
          rw (e, f, length-append, down_length from to x.length, all)

  counts_leaves : x.stays ≡ false → 0 < x.length → to ≤ from → Counts xs (from + x.length) to → Counts (x ∷ xs) from to
  unfolding enough displaced staying
  counts_leaves e n h on =
      let all : length (enough (from + x.length) to xs) ≡ staying xs = rw (ne_eqb to (from + x.length) (λ q. omega arith)) at on in
      rw (e, all) (each (eqb to from))
    where
      each : (b : Bool) → staying xs ≡ cond b (staying xs) (staying xs)
      each true = refl
      each false = refl

enough_counts : (xs : List Stretch) (from to : ℕ) → Filled xs → to ≤ from → Counts xs from to
unfolding enough displaced staying
enough_counts _ from to none h = each (eqb to from)
  where
    each : (b : Bool) → ◌≡◌ {A = ℕ} 0 (cond b 0 0)
    each true = refl
    each false = refl
enough_counts _ from to (more {x} {xs} n f) h =
    each x.stays refl (enough_counts xs (from + x.length) (to + x.length) f (omega arith)) (enough_counts xs (from + x.length) to f (omega arith))
  where
    each : (b : Bool) → x.stays ≡ b → Counts xs (from + x.length) (to + x.length) → Counts xs (from + x.length) to → Counts (x ∷ xs) from to
    each true e stay leave = counts_stays x xs from to e stay
    each false e stay leave = counts_leaves x xs from to e n h leave

-- moves that bring the packets that stay to the store's start, as few as can be
pub record Fewest (size : ℕ) (xs : List Stretch) : Type 0 where
  pub moves : List Move
  pub brings : Brings size xs moves
  pub few : length moves ≡ displaced xs

pub fewest : (size : ℕ) (xs : List Stretch) → Filled xs → span xs ≤ size → Fewest size xs
fewest size xs f h = record {
  moves = enough 0 0 xs;
  brings = record { filled = f; room = h; start = λ store l bytes. rw zero-add at (enough_brings xs 0 0 store (omega arith) (omega arith)) };
  few = enough_counts xs 0 0 f (omega arith);
}
