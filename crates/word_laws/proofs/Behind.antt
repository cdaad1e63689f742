-- Words behind the waiting packets may hold anything: the state that the words stand for is the same. Assumes nothing.
use Prim.Native.Nat.{ℕ, zero, suc, ◌+◌, ◌*◌, ◌-◌, ◌≤◌, ◌<◌}
use mathlib.Core.Bool.{cond}
use mathlib.Core.List.{List}
use mathlib.Core.Logic.{⊎_elim}
use mathlib.Core.Path.{◌≡◌, refl, ap}
use native.Mathlib.Omega.{arith}
use borrow.Author.Tests.{le-ltb}
use lib.Dec.{ltb}
use lib.ListN.{drop, set, get_or, length-set}
use lib.Seq.{get_or-set_other, take-set-lt, take-set-le, drop-set-lt, drop-set-add}
use Rattle.facts.specs.Tables.{tabulate}
use Rattle.facts.proofs.Tests.{by_le}
use Rattle.quantity.specs.Limits.{MOST-WAITING}
use Rattle.store.specs.Waiting.{no_entry}
use Rattle.ips_state.proofs.Channels.{same_or_not}
use Rattle.ips_state.proofs.Places.{apart}
use Rattle.ips_words.specs.Words.{FIXED, ENTRY, EXPIRY, SLOT, slot, slot_start, entry_at, entries_in, queue_in, channel_in, state_of, spelled, all_spelled, head_spelled, readable, state_in}
use Rattle.ips_words.proofs.Whole.{slot_word}

-- ---- one channel's words, with one changed behind what waits
module _ (w : List ℕ) (k j x : ℕ) (few : get_or w 9 0 ≤ k) (two : j < 2) where
  abbrev changed : List ℕ
  changed = set w (10 + 2 * k + j) x

  stands : (n : ℕ) → (n < 10 + 2 * k) → get_or changed n 0 ≡ get_or w n 0
  stands n h = get_or-set_other w (10 + 2 * k + j) n x 0 (λ e. omega arith)

  same_entry : (n : ℕ) → cond (ltb n (get_or w 9 0)) (entry_at changed n) no_entry ≡ cond (ltb n (get_or w 9 0)) (entry_at w n) no_entry
  same_entry n =
      by_le (get_or w 9 0) n (λ (o : get_or w 9 0 ≤ n). rw (le-ltb n (get_or w 9 0) o))
      (λ (o : n < get_or w 9 0). rw (stands (FIXED + ENTRY * n) (omega arith), stands (FIXED + ENTRY * n + EXPIRY) (omega arith)))

  same_channel : channel_in changed ≡ channel_in w
  unfolding channel_in queue_in entries_in
  same_channel =
      rw (stands 0 (omega arith), stands 1 (omega arith), stands 2 (omega arith), stands 3 (omega arith), stands 4 (omega arith), stands 5 (omega arith), stands 6 (omega arith), stands 7 (omega arith), stands 8 (omega arith), stands 9 (omega arith), ap (tabulate MOST-WAITING) (λ i n. same_entry n i))

  same_spelled : spelled changed ≡ spelled w
  unfolding spelled
  same_spelled =
      rw (stands 1 (omega arith), stands 3 (omega arith), stands 4 (omega arith), stands 5 (omega arith), stands 6 (omega arith), stands 7 (omega arith))

-- ---- all the words, with that one changed
module _ (words : List ℕ) (i k j x : ℕ) (behind : get_or words (14 + 74 * i + 9) 0 ≤ k) (inside : k < 32) (two : j < 2) where
  abbrev changed_words : List ℕ
  changed_words = set words (14 + 74 * i + 10 + 2 * k + j) x

  slot_here : slot changed_words i ≡ set (slot words i) (10 + 2 * k + j) x
  unfolding slot
  slot_here =
      let at : 14 + 74 * i + 10 + 2 * k + j ≡ slot_start i + (10 + 2 * k + j) = omega arith in
      rw (at, drop-set-add (slot_start i) words (10 + 2 * k + j) x, take-set-lt SLOT (drop (slot_start i) words) (10 + 2 * k + j) x (omega arith))

  slot_other : (other : ℕ) → (other ≡ i → ⊥) → slot changed_words other ≡ slot words other
  unfolding slot
  slot_other other f =
      ⊎_elim
      (λ (h : other < i).
      let at : 14 + 74 * i + 10 + 2 * k + j ≡ slot_start other + (74 * (i - other) + (10 + 2 * k + j)) = omega arith in
      rw (at, drop-set-add (slot_start other) words (74 * (i - other) + (10 + 2 * k + j)) x, take-set-le SLOT (drop (slot_start other) words) (74 * (i - other) + (10 + 2 * k + j)) x (omega arith)))
      (λ (h : i < other). rw (drop-set-lt (slot_start other) words (14 + 74 * i + 10 + 2 * k + j) x (omega arith))) (apart other i f)

  few_here : get_or (slot words i) 9 0 ≤ k
  few_here = rw (slot_word words i 9 (omega arith)) behind

  slot_says : (other : ℕ) → (channel_in (slot changed_words other) ≡ channel_in (slot words other)) × (spelled (slot changed_words other) ≡ spelled (slot words other))
  slot_says other =
      ⊎_elim (λ (e : other ≡ i). (rw (e, slot_here) (same_channel (slot words i) k j x few_here two), rw (e, slot_here) (same_spelled (slot words i) k j x few_here two)))
      (λ (f : other ≡ i → ⊥). (rw (slot_other other f), rw (slot_other other f))) (same_or_not other i)

  all_same : (n : ℕ) → all_spelled changed_words n ≡ all_spelled words n
  unfolding all_spelled
  all_same zero = refl
  all_same (suc n) = rw (all_same n, (slot_says n).1)

  head_same : (n : ℕ) → n < 14 → get_or changed_words n 0 ≡ get_or words n 0
  head_same n h = get_or-set_other words (14 + 74 * i + 10 + 2 * k + j) n x 0 (λ e. omega arith)

  same_readable : readable changed_words ≡ readable words
  unfolding readable head_spelled
  same_readable =
      rw (length-set words (14 + 74 * i + 10 + 2 * k + j) x, head_same 0 (omega arith), head_same 1 (omega arith), head_same 2 (omega arith), head_same 5 (omega arith), head_same 13 (omega arith), all_same (get_or words 1 0))

  same_state : state_of changed_words ≡ state_of words
  unfolding state_of
  same_state =
      rw (head_same 0 (omega arith), head_same 1 (omega arith), head_same 2 (omega arith), head_same 3 (omega arith), head_same 4 (omega arith), head_same 5 (omega arith), head_same 6 (omega arith), head_same 7 (omega arith), head_same 8 (omega arith), head_same 9 (omega arith), head_same 10 (omega arith), head_same 11 (omega arith), head_same 12 (omega arith), head_same 13 (omega arith), ap (tabulate (get_or words 1 0)) (λ at n. (slot_says n).0 at))

  -- THE LAW: with any number in such a word they stand for the same state, words that say nothing among them
  pub behind_free : state_in changed_words ≡ state_in words
  unfolding state_in
  behind_free = rw (same_readable, same_state)
