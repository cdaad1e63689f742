-- The waiting packets in a channel's words: read one by one, written one by one, and what is written reads back. Assumes nothing.
use Prim.Native.Nat.{ℕ, zero, suc, ◌+◌, ◌*◌, ◌-◌, ◌≤◌, ◌<◌}
use mathlib.Core.Bool.{cond}
use mathlib.Core.List.{List, [], ◌∷◌, ◌++◌, map, append_assoc, append-nil}
use mathlib.Core.Logic.{⊎_elim}
use mathlib.Core.Path.{◌≡◌, refl, sym, ap, ◌∙◌}
use native.Mathlib.Nat.{eq-or-lt_of_le}
use native.Mathlib.Numerals.{add-one}
use native.Mathlib.Omega.{arith}
use borrow.Author.Tests.{eq-eqb, ne_eqb, lt-ltb, le-ltb}
use lib.Dec.{eqb, ltb}
use lib.ListN.{length, take, set, get_or, replicate, length-set, length-append, length-replicate, length-map, get_or-eq_default}
use lib.ListN as ListN
use lib.Seq.{get_or-append-add, take-suc-set, take-suc, take_all, ext_get_or}
use Rattle.facts.specs.Tables.{tabulate}
use Rattle.facts.proofs.Tables.{length_tabulate, get_d_tabulate, set_tabulate, tabulate_same}
use Rattle.facts.proofs.Tests.{by_le}
use Rattle.quantity.specs.Limits.{MOST-WAITING}
use Rattle.store.specs.declared.queue.Entry.{Entry}
use Rattle.store.specs.declared.queue.Queue.{Queue}
use Rattle.store.specs.Packets.{Packet}
use Rattle.store.specs.Waiting.{no_entry, entry_of, queue_of, listed}
use Rattle.ips_words.specs.Words.{FIXED, ENTRY, EXPIRY, SLOT, WAITING, word, entry_at, entries_in, queue_in, entry_words, Tidy}

-- ---- the entries that the words say
module _ (w : List ℕ) (count : ℕ) where
  pub entries_length : length (entries_in w count) ≡ MOST-WAITING
  unfolding entries_in
  entries_length = length_tabulate MOST-WAITING (λ k. cond (ltb k count) (entry_at w k) no_entry)

  entries_at : (k : ℕ) → k < MOST-WAITING → get_or (entries_in w count) k no_entry ≡ cond (ltb k count) (entry_at w k) no_entry
  unfolding entries_in
  entries_at k h = get_d_tabulate MOST-WAITING (λ k. cond (ltb k count) (entry_at w k) no_entry) k no_entry h

  pub entries_waiting : (k : ℕ) → k < MOST-WAITING → k < count → get_or (entries_in w count) k no_entry ≡ entry_at w k
  entries_waiting k h l = entries_at k h ∙ rw (lt-ltb k count l)

  pub entries_behind : (k : ℕ) → count ≤ k → get_or (entries_in w count) k no_entry ≡ no_entry
  entries_behind k h =
      by_le MOST-WAITING k (λ (o : MOST-WAITING ≤ k). get_or-eq_default (entries_in w count) no_entry (omega (arith, entries_length)))
      (λ (o : k < MOST-WAITING). entries_at k o ∙ rw (le-ltb k count h))

-- ---- one entry more is read
pub record Loading (w : List ℕ) (left : Queue) (at : ℕ) : Type 0 where
  pub places : length left.entries ≡ MOST-WAITING
  pub so_far : left.entries ≡ entries_in w at

nothing_in : (w : List ℕ) → (queue_of []).entries ≡ entries_in w 0
unfolding queue_of listed entries_in
nothing_in w = sym (ap (tabulate MOST-WAITING) (λ i k. none k i) ∙ tabulate_same no_entry refl)
  where
    none : (k : ℕ) → cond (ltb k 0) (entry_at w k) no_entry ≡ no_entry
    none k = rw (le-ltb k 0 (omega arith))

pub load_start : (w : List ℕ) (q : Queue) → q ≡ queue_of [] → Loading w q 0
load_start w q e =
    let so_far : q.entries ≡ entries_in w 0 = ap (λ (q : Queue). q.entries) e ∙ nothing_in w in
    record { places = ap (λ (es : List Entry). length es) so_far ∙ entries_length w 0; so_far = so_far }

more_in : (w : List ℕ) (at : ℕ) → set (entries_in w at) at (entry_at w at) ≡ entries_in w (at + 1)
unfolding entries_in
more_in w at =
    set_tabulate MOST-WAITING (λ k. cond (ltb k at) (entry_at w k) no_entry) (λ k. cond (ltb k (at + 1)) (entry_at w k) no_entry) at (entry_at w at) each
  where
    each : (k : ℕ) → cond (eqb k at) (entry_at w at) (cond (ltb k at) (entry_at w k) no_entry) ≡ cond (ltb k (at + 1)) (entry_at w k) no_entry
    each k =
        by_le (at + 1) k (λ (h : at + 1 ≤ k). rw (ne_eqb k at (λ (e : k ≡ at). omega arith), le-ltb k at (omega arith), le-ltb k (at + 1) h))
        (λ (h : k < at + 1).
        ⊎_elim (λ (e : k ≡ at). rw (eq-eqb k at e, lt-ltb k (at + 1) h, e)) (λ (l : k < at). rw (ne_eqb k at (λ (e : k ≡ at). omega arith), lt-ltb k at l, lt-ltb k (at + 1) h)) (eq-or-lt_of_le (omega arith)))

pub load_more : (w : List ℕ) (left : Queue) (at length : ℕ) → Loading w left at → length ≡ word w (FIXED + ENTRY * at)
    → Loading w (record { entries = set left.entries at (record { length = record { 0 = length }; expiry = word w (FIXED + ENTRY * at + EXPIRY) }); count = left.count }) (at + 1)
load_more w left at length l e = record { places = length-set left.entries at _ ∙ l.places; so_far = rw (e, l.so_far) (more_in w at) }

pub load_end : (w : List ℕ) (count : ℕ) (left : Queue) (at : ℕ) → Loading w left at → at ≡ count → count ≡ word w WAITING
    → record { entries = left.entries; count = count } ≡ queue_in w
unfolding queue_in
load_end w count left at l h e =
    let all : at ≡ word w WAITING = omega arith in
    rw (l.so_far, all, e)

-- ---- one entry more is written
entry_words_join : (xs ys : List Entry) → entry_words (xs ++ ys) ≡ entry_words xs ++ entry_words ys
unfolding entry_words
entry_words_join [] ys = refl
entry_words_join (x ∷ xs) ys = rw (entry_words_join xs ys)

pub entry_words_length : (es : List Entry) → length (entry_words es) ≡ ENTRY * length es
unfolding entry_words
entry_words_length [] = refl
entry_words_length (e ∷ es) = rw (entry_words_length es) (omega arith)

pub record Saving (w₀ : List ℕ) (es : List Entry) (w : List ℕ) (at : ℕ) : Type 0 where
  pub long : length w ≡ SLOT
  pub so_far : take (FIXED + ENTRY * at) w ≡ take FIXED w₀ ++ entry_words (take at es)

pub save_start : (w : List ℕ) (es : List Entry) → length w ≡ SLOT → Saving w es w 0
unfolding entry_words
save_start w es l = record { long = l; so_far = sym (append-nil (take FIXED w)) }

two : (l : List ℕ) (i a b : ℕ) → i + 1 < length l → take (i + 2) (set (set l i a) (i + 1) b) ≡ take i l ++ (a ∷ b ∷ [])
two l i a b h =
    let s : i + 2 ≡ suc (i + 1) = omega arith in
    rw (s, take-suc-set (set l i a) (i + 1) b (simp length-set h), add-one i, take-suc-set l i a (omega arith), append_assoc)

pub save_more : (w₀ : List ℕ) (es : List Entry) (w : List ℕ) (at length : ℕ) → ListN.length es ≡ MOST-WAITING → Saving w₀ es w at → at < MOST-WAITING
    → length ≡ (get_or es at no_entry).length.0
    → Saving w₀ es (set (set w (FIXED + ENTRY * at) length) (FIXED + ENTRY * at + EXPIRY) (get_or es at no_entry).expiry) (at + 1)
unfolding entry_words
save_more w₀ es w at length l s h e =
    let next : FIXED + ENTRY * (at + 1) ≡ FIXED + ENTRY * at + 2 = omega arith in
    record {
      long = simp length-set s.long;
      so_far = rw (next, two w (FIXED + ENTRY * at) _ _ (omega (arith, s.long)), s.so_far, add-one at, take-suc es at no_entry (omega arith), entry_words_join (take at es) (get_or es at no_entry ∷ []), append_assoc, e);
    }

pub save_end : (w₀ : List ℕ) (es : List Entry) (w : List ℕ) (at : ℕ) → length es ≡ MOST-WAITING → Saving w₀ es w at → at ≡ MOST-WAITING → w ≡ take FIXED w₀ ++ entry_words es
save_end w₀ es w at l s all =
    let whole : take (FIXED + ENTRY * at) w ≡ w = take_all (FIXED + ENTRY * at) w (omega (arith, s.long)) in
    sym whole ∙ s.so_far ∙ rw (all, take_all MOST-WAITING es (omega arith))

-- ---- what is written reads back
entry_back : (es : List Entry) (k : ℕ) → k < length es → (get_or (entry_words es) (ENTRY * k) 0 ≡ (get_or es k no_entry).length.0) × (get_or (entry_words es) (ENTRY * k + EXPIRY) 0 ≡ (get_or es k no_entry).expiry)
unfolding entry_words
entry_back [] k h = absurd (omega arith)
entry_back (e ∷ es) zero h = (refl, refl)
entry_back (e ∷ es) (suc k) h =
    let two : ENTRY * suc k ≡ suc (suc (ENTRY * k)) = omega arith in
    let more : suc (suc (ENTRY * k)) + EXPIRY ≡ suc (suc (ENTRY * k + EXPIRY)) = omega arith in
    let rest = entry_back es k (omega arith) in
    (rw two rest.0, rw (two, more) rest.1)

pub tidy_back : (fixed : List ℕ) (q : Queue) → length fixed ≡ FIXED → Tidy q → entries_in (fixed ++ entry_words q.entries) q.count ≡ q.entries
tidy_back fixed q l t = ext_get_or no_entry (entries_in w q.count) q.entries (entries_length w q.count ∙ sym t.places) each
  where
    w : List ℕ
    w = fixed ++ entry_words q.entries

    one : (k : ℕ) → k < length q.entries → entry_at w k ≡ get_or q.entries k no_entry
    one k h =
        let b = entry_back q.entries k h in
        let first : FIXED + ENTRY * k ≡ length fixed + ENTRY * k = omega arith in
        let second : FIXED + ENTRY * k + EXPIRY ≡ length fixed + (ENTRY * k + EXPIRY) = omega arith in
        rw (second, get_or-append-add fixed (entry_words q.entries) (ENTRY * k + EXPIRY) 0, b.1, first, get_or-append-add fixed (entry_words q.entries) (ENTRY * k) 0, b.0)

    each : (k : ℕ) → k < length (entries_in w q.count) → get_or (entries_in w q.count) k no_entry ≡ get_or q.entries k no_entry
    each k h =
        let inside : k < MOST-WAITING = omega (arith, entries_length w q.count) in
        entries_at w q.count k inside
        ∙ by_le q.count k (λ (o : q.count ≤ k). rw (le-ltb k q.count o, t.behind k o)) (λ (o : k < q.count). rw (lt-ltb k q.count o) (one k (omega (arith, t.places))))

-- ---- queues as the calls leave them
zeros : (n k : ℕ) → get_or (replicate n no_entry) k no_entry ≡ no_entry
zeros zero k = refl
zeros (suc n) zero = refl
zeros (suc n) (suc k) = zeros n k

pub tidy_listed : (es : List Entry) → length es ≤ MOST-WAITING → Tidy (listed es)
unfolding listed
tidy_listed es h = record { places = simp (length-append, length-replicate) (omega arith); behind = behind }
  where
    behind : (k : ℕ) → length es ≤ k → get_or (es ++ replicate (MOST-WAITING - length es) no_entry) k no_entry ≡ no_entry
    behind k o =
        let place : k ≡ length es + (k - length es) = omega arith in
        rw place (get_or-append-add es (replicate (MOST-WAITING - length es) no_entry) (k - length es) no_entry ∙ zeros (MOST-WAITING - length es) (k - length es))

pub tidy_of_lem : (ps : List Packet) → length ps ≤ MOST-WAITING → Tidy (queue_of ps)
unfolding queue_of
tidy_of_lem ps h = tidy_listed (map entry_of ps) (simp length-map h)
