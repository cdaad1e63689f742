-- Channels in words: one sought by its ID, and each ID at its first place. Assumes nothing.
use Prim.Native.Nat.{ℕ, suc, ◌+◌, ◌*◌, ◌≤◌, ◌<◌}
use mathlib.Core.Bool.{true, false}
use mathlib.Core.List.{List}
use mathlib.Core.Logic.{⊎_elim}
use mathlib.Core.Path.{◌≡◌, sym, ap, ◌∙◌}
use native.Mathlib.Nat.{eq-or-lt_of_le}
use native.Mathlib.Numerals.{add-one}
use native.Mathlib.Omega.{arith}
use borrow.Author.Tests.{eq-eqb, ne_eqb}
use lib.Dec.{ltb}
use lib.ListN.{length, drop, get_or, drop_of_length-le}
use lib.Seq.{drop-cons}
use Rattle.facts.proofs.Tables.{length_tabulate, get_d_tabulate}
use Rattle.radio_end_state.specs.Limits.{up_to, index_of, has_id, stands_first, ids_fit}
use Rattle.radio_end_state.proofs.UpTo.{up_to_by, up_to_out}
use Rattle.radio_end_words.specs.Rows.{numbers}

pub numbers_length : (head slot : ℕ) (words : List ℕ) (count : ℕ) → length (numbers head slot words count) ≡ count
unfolding numbers
numbers_length head slot words count = length_tabulate count (λ index. get_or words (head + slot * index) 0)

pub number_at : (head slot : ℕ) (words : List ℕ) (count i : ℕ) → i < count → get_or (numbers head slot words count) i 0 ≡ get_or words (head + slot * i) 0
unfolding numbers
number_at head slot words count i h = get_d_tabulate count (λ index. get_or words (head + slot * index) 0) i 0 h

-- ---- an ID sought among those of the channels: it stands behind those passed
pub record Seeking (ids : List ℕ) (id at : ℕ) : Type 0 where
  pub so_far : index_of id ids ≡ at + index_of id (drop at ids)

module _ (head slot : ℕ) (words : List ℕ) (count : ℕ) where
  abbrev ids : List ℕ
  ids = numbers head slot words count

  module _ (id at : ℕ) (s : Seeking ids id at) where
    pub seek_found : at < count → get_or words (head + slot * at) 0 ≡ id → at ≡ index_of id ids
    unfolding index_of
    seek_found h e =
        let none : index_of id (drop at ids) ≡ 0 = rw (drop-cons ids at 0 (omega (arith, numbers_length head slot words count)), eq-eqb _ _ (number_at head slot words count at h ∙ e)) in
        omega (arith, s.so_far)

    pub seek_on : at < count → (get_or words (head + slot * at) 0 ≡ id → ⊥) → Seeking ids id (at + 1)
    unfolding index_of
    seek_on h e =
        let other : get_or ids at 0 ≡ id → ⊥ = λ p. e (sym (number_at head slot words count at h) ∙ p) in
        let one : index_of id (drop at ids) ≡ suc (index_of id (drop (suc at) ids)) = rw (drop-cons ids at 0 (omega (arith, numbers_length head slot words count)), ne_eqb _ _ other) in
        record { so_far = rw (add-one at) (omega (arith, s.so_far)) }

    pub seek_end : at ≤ count → count ≤ at → count ≡ index_of id ids
    unfolding index_of
    seek_end most h =
        let none : index_of id (drop at ids) ≡ 0 = rw (drop_of_length-le ids {i = at} (omega (arith, numbers_length head slot words count))) in
        omega (arith, s.so_far)

  -- ---- each ID at its first place
  module _ (at : ℕ) (below : (i : ℕ) → i < at → stands_first ids i ≡ true) where
    module _ (h : at < count) (n : ℕ) (is : n ≡ index_of (get_or words (head + slot * at) 0) ids) where
      stands : index_of (get_or ids at 0) ids ≡ n
      stands = ap (λ (k : ℕ). index_of k ids) (number_at head slot words count at h) ∙ sym is

      pub first_twice : (n ≡ at → ⊥) → false ≡ ids_fit ids
      unfolding ids_fit
      first_twice e = rw (up_to_out (stands_first ids) (length ids) at (omega (arith, numbers_length head slot words count)) (ne_eqb _ at (λ p. e (sym stands ∙ p))))

      pub first_on : n ≡ at → (i : ℕ) → i < at + 1 → stands_first ids i ≡ true
      first_on e i less = ⊎_elim (λ (last : i ≡ at). rw last (eq-eqb _ at (stands ∙ e))) (λ (lower : i < at). below i lower) (eq-or-lt_of_le (omega arith))

    pub first_end : count ≤ at → (n : ℕ) → n ≡ index_of 0 ids → ltb n count ≡ ids_fit ids
    unfolding ids_fit has_id
    first_end whole n is =
        let each : up_to (stands_first ids) (length ids) ≡ true = up_to_by (stands_first ids) (length ids) (λ i h. below i (omega (arith, numbers_length head slot words count))) in
        rw (each, numbers_length head slot words count, is)
