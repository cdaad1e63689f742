-- Keywords, values, and the way along a line. Assumes nothing.
use Rattle.std.specs.Prelude.{Option, Some, None}
use mathlib.Core.Bool.{Bool, true, false, cond, and-false}
use mathlib.Core.Path.{◌≡◌, refl, sym, ap, ◌∙◌}
use mathlib.Core.List.{List, [], ◌∷◌, ◌++◌, append_assoc, append-nil}
use native.Mathlib.Decide.{dec_le}
use Rattle.facts.proofs.Lists.{rest_part}
use Rattle.octets.specs.Bytes.{index_of}
use Prim.Native.Nat.{ℕ, zero, suc, ◌+◌, ◌-◌, ◌*◌, ◌/◌, ◌%◌, ◌≤◌, ◌<◌}
use native.Mathlib.Numerals.{add-one}
use native.Mathlib.Omega.{arith}
use borrow.Author.Tests.{eq-eqb, ne_eqb, lt-ltb, le-ltb, leb-true, leb-false}
use lib.Dec.{eqb, leb}
use lib.ListN.{length, take, drop, get_or, set, drop_of_length-le, length-append, length-drop, length-set, take-append-drop}
use lib.Seq.{drop-drop, take_at, drop_at, take-suc-set, drop-set-lt, length-take-le, get_or-take, drop-length, take-length}
use Rattle.text.specs.Words.{word_of, beyond_of}
use Rattle.text.specs.Numbers.{parse_of}
use Rattle.text.specs.Strings.{hexed_of, pairs_of, unhexed, readable_of}
use Rattle.text.specs.Laying.{laid}
use Rattle.text.proofs.Hexadecimal.{unhex_inside, unhex_bytes, unhex_bad, unhex_long, pairs_most}
use Rattle.text.specs.Words.{tail_of}
use borrow.Rule.Slice.PartMut.{put_mid, mid_of}
use Rattle.text.proofs.Reading.{next}
use Rattle.text.proofs.Writing.{laid_in}
use Rattle.line_rows.specs.declared.row.Cursor.{Cursor}
use Rattle.line_rows.specs.Rows.{NUMBER, BYTES, LIST, OPTIONAL, spells_of, choice_of, length_said, value_of, bytes_of, behind_of, Said, stopped, on_number, said_more, item_of, items_of, list_of, last_number, item_or_list_of, left_out_of, row_of, read_by, good_by, over, ReadsRow}
use Rattle.line_rows.specs.Cursors.{bytes_got, length_laid, ValueSaid, StartsAt, stopped_at, Inside, said_at, Advances}

-- ---- keywords
pub record SpellsSoFar (word : List ℕ) (key left i : ℕ) : Type 0 where
  pub within : i ≤ length word
  pub same : spells_of (drop i word) left ≡ spells_of word key

module _ {word : List ℕ} {key left i : ℕ} (k : SpellsSoFar word key left i) where
  pub spells_short : i < length word → left ≡ 0 → false ≡ spells_of word key
  unfolding spells_of
  spells_short h e = rw (next word i h, eq-eqb left 0 e) at k.same

  pub spells_other : i < length word → (left ≡ 0 → ⊥) → (get_or word i 0 ≡ left % 256 → ⊥) → false ≡ spells_of word key
  unfolding spells_of
  spells_other h e f = rw (next word i h, ne_eqb left 0 e, ne_eqb (get_or word i 0) (left % 256) f) at k.same

  pub spells_on : i < length word → (left ≡ 0 → ⊥) → get_or word i 0 ≡ left % 256 → SpellsSoFar word key (left / 256) (i + 1)
  unfolding spells_of
  spells_on h e f = record { within = omega arith; same = rw (next word i h, ne_eqb left 0 e, eq-eqb (get_or word i 0) (left % 256) f) at k.same }

  pub spells_end : length word ≤ i → eqb left 0 ≡ spells_of word key
  unfolding spells_of
  spells_end h = rw (drop_of_length-le word {i = i} h) at k.same

-- ---- items left out
module _ (skip a b : ℕ) where
  pub left_out_on : 0 < skip → skip - 1 ≡ left_out_of skip a b
  unfolding left_out_of
  left_out_on h = rw (lt-ltb 0 skip h)

  pub left_out_many : skip ≤ 0 → a ≡ LIST → b ≡ left_out_of skip a b
  unfolding left_out_of
  left_out_many h e = rw (le-ltb 0 skip h, eq-eqb a LIST e)

  pub left_out_none : skip ≤ 0 → (a ≡ LIST → ⊥) → 0 ≡ left_out_of skip a b
  unfolding left_out_of
  left_out_none h e = rw (le-ltb 0 skip h, ne_eqb a LIST e)

-- ---- the last number
module _ (numbers : List ℕ) (count : ℕ) where
  pub last_none : count ≡ 0 → 0 ≡ last_number (take count numbers)
  unfolding last_number
  last_none e = rw e

  pub last_some : 0 < count → count ≤ length numbers → get_or numbers (count - 1) 0 ≡ last_number (take count numbers)
  unfolding last_number
  last_some h g =
      let more : count ≡ suc (count - 1) = omega arith in
      rw (length-take-le count numbers g) (sym (ap (λ (k : ℕ). get_or (0 ∷ take count numbers) k 0) more ∙ get_or-take count numbers (count - 1) 0 (omega arith)))

-- ---- what a word says
got_none : (a : ℕ) (word : List ℕ) (r : Option ℕ) → (a ≡ BYTES → ⊥) → bytes_got a word r ≡ []
unfolding bytes_of
got_none a word None h = refl
got_none a word (Some v) h = rw (ne_eqb a BYTES h)

laid_none : (a : ℕ) (word : List ℕ) (r : Option ℕ) → (a ≡ BYTES → ⊥) → on_number 0 (length_laid a) r ≡ length (bytes_got a word r)
unfolding length_laid bytes_of
laid_none a word None h = refl
laid_none a word (Some v) h = rw (ne_eqb a BYTES h)

module _ (a b : ℕ) (lent word : List ℕ) where
  -- a word that is no byte string lays nothing
  plain : {r : Option ℕ} → (a ≡ BYTES → ⊥) → r ≡ value_of a b (length lent) word → ValueSaid a b lent word r lent
  plain {r} h e = record {
    answer = e;
    fits = rw (got_none a word r h) (omega arith);
    bytes = rw (got_none a word r h);
    counted = laid_none a word r h;
  }

  pub value_number : {r : Option ℕ} → a ≡ NUMBER → r ≡ parse_of b word → ValueSaid a b lent word r lent
  unfolding value_of
  value_number e f = plain (omega arith) (rw (eq-eqb a NUMBER e) f)

  pub value_there : {t : Bool} → a ≡ OPTIONAL → t ≡ spells_of word b → t ≡ true → ValueSaid a b lent word (Some 1) lent
  unfolding value_of
  value_there e f g = plain (omega arith) (rw (ne_eqb a NUMBER (omega arith), ne_eqb a BYTES (omega arith), eq-eqb a OPTIONAL e, ← f, g))

  pub value_not_there : {t : Bool} → a ≡ OPTIONAL → t ≡ spells_of word b → t ≡ false → ValueSaid a b lent word (Some 0) lent
  unfolding value_of
  value_not_there e f g = plain (omega arith) (rw (ne_eqb a NUMBER (omega arith), ne_eqb a BYTES (omega arith), eq-eqb a OPTIONAL e, ← f, g))

  pub value_choice : {r : Option ℕ} → (a ≡ NUMBER → ⊥) → (a ≡ BYTES → ⊥) → (a ≡ OPTIONAL → ⊥) → r ≡ choice_of a b word → ValueSaid a b lent word r lent
  unfolding value_of
  value_choice x y z f = plain y (rw (ne_eqb a NUMBER x, ne_eqb a BYTES y, ne_eqb a OPTIONAL z) f)

-- ---- byte strings
module _ (out word : List ℕ) where
  hexed_none : hexed_of (length out) word ≡ None → unhexed out word ≡ out
  unfolding hexed_of
  hexed_none e = go (readable_of word) (leb (length word / 2) (length out)) refl refl e
    where
      go : (t u : Bool) → readable_of word ≡ t → leb (length word / 2) (length out) ≡ u → cond t (cond u (Some (length word / 2)) None) None ≡ None
          → unhexed out word ≡ out
      go true true r q p = let z : ◌≡◌ {A = ℕ} 0 1 = cc in absurd (omega arith)
      go true false r q p = sym (unhex_long word out r (leb-false (length word / 2) (length out) q)).1
      go false u r q p = sym (unhex_bad word out r).1

  hexed_some : {n : ℕ} → hexed_of (length out) word ≡ Some n → (unhexed out word ≡ over (pairs_of word) out) × (length (pairs_of word) ≤ length out)
  unfolding hexed_of unhexed
  hexed_some {n} e = go (readable_of word) (leb (length word / 2) (length out)) refl e
    where
      go : (t u : Bool) → leb (length word / 2) (length out) ≡ u → cond t (cond u (Some (length word / 2)) None) None ≡ Some n
          → (cond t (laid out 0 (pairs_of word)) out ≡ over (pairs_of word) out) × (length (pairs_of word) ≤ length out)
      go true true q p =
          let room : 0 + length (pairs_of word) ≤ length out = omega (arith, leb-true (length word / 2) (length out) q, pairs_most word) in
          let z : 0 + length (pairs_of word) ≡ length (pairs_of word) = omega arith in
          (laid_in out 0 (pairs_of word) room ∙ ap (λ (k : ℕ). pairs_of word ++ drop k out) z, omega arith)
      go true false q p = let z : ◌≡◌ {A = ℕ} 0 1 = cc in absurd (omega arith)
      go false u q p = let z : ◌≡◌ {A = ℕ} 0 1 = cc in absurd (omega arith)

  hexed_count : {n : ℕ} → hexed_of (length out) word ≡ Some n → n ≡ length (pairs_of word)
  hexed_count {n} e =
      let whole = hexed_some e in
      let size : length (unhexed out word) ≡ length out = ap length whole.0 ∙ simp (length-append, length-drop) (omega (arith, whole.1)) in
      sym (length-take-le n (unhexed out word) (omega (arith, size, unhex_inside (length out) word e))) ∙ ap length (unhex_bytes out word e)

module _ (a b : ℕ) (lent word : List ℕ) {h : Option ℕ} {lent' : List ℕ} (e : a ≡ BYTES) (f : h ≡ hexed_of (length lent) word) (g : lent' ≡ unhexed lent word) where
  value_is : value_of a b (length lent) word ≡ length_said h
  unfolding value_of
  value_is = rw (ne_eqb a NUMBER (omega arith), eq-eqb a BYTES e, f)

  pub value_no_bytes : h ≡ None → ValueSaid a b lent word None lent'
  value_no_bytes k = record {
    answer = sym (value_is ∙ ap length_said k);
    fits = omega arith;
    bytes = g ∙ hexed_none lent word (sym f ∙ k);
    counted = refl;
  }

  pub value_bytes : {n : ℕ} → h ≡ Some n → ValueSaid a b lent word (Some n) lent'
  unfolding bytes_of length_laid
  value_bytes k = let whole = hexed_some lent word (sym f ∙ k) in
      let got : bytes_of a word ≡ pairs_of word = rw (eq-eqb a BYTES e) in
      record {
        answer = sym (value_is ∙ ap length_said k);
        fits = rw got whole.1;
        bytes = rw got (g ∙ whole.0);
        counted = rw (got, eq-eqb a BYTES e) (hexed_count lent word (sym f ∙ k));
      }

-- ---- how many bytes
pub laid_bytes : (a value : ℕ) → a ≡ BYTES → value ≡ length_laid a value
unfolding length_laid
laid_bytes a value e = rw (eq-eqb a BYTES e)

pub laid_nothing : (a value : ℕ) → (a ≡ BYTES → ⊥) → 0 ≡ length_laid a value
unfolding length_laid
laid_nothing a value e = rw (ne_eqb a BYTES e)

-- ---- where the rest starts
module _ (line : List ℕ) (at : ℕ) (h : at ≤ length line) {left : List ℕ} (e : left ≡ beyond_of (mid_of at (length line - at) line)) where
  beyond_is : left ≡ beyond_of (drop at line)
  beyond_is = e ∙ ap beyond_of (rest_part at line)

  beyond_at : (k : ℕ) → left ≡ drop k line → drop (length line - length left) line ≡ left
  beyond_at k q = elim (dec_le k (length line)) [
    | yes g ↦ let n : length line - length left ≡ k = omega (arith, simp length-drop at (ap length q)) in rw n (sym q)
    | no g ↦
        let none : length left ≡ 0 = omega (arith, simp length-drop at (ap length q)) in
        let all : length line - length left ≡ length line = omega arith in
        rw (all, drop-length line) (nothing left none)
  ]
    where
      nothing : (l : List ℕ) → length l ≡ 0 → ◌≡◌ {A = List ℕ} [] l
      nothing [] z = refl
      nothing (x ∷ l) z = absurd (omega arith)

  beyond_place : left ≡ drop (at + 1 + index_of 32 (drop 1 (drop at line))) line
  unfolding tail_of
  beyond_place =
      let sum : at + (1 + index_of 32 (drop 1 (drop at line))) ≡ at + 1 + index_of 32 (drop 1 (drop at line)) = omega arith in
      beyond_is ∙ drop-drop (index_of 32 (drop 1 (drop at line))) 1 (drop at line) ∙ drop-drop (1 + index_of 32 (drop 1 (drop at line))) at line
      ∙ ap (λ (k : ℕ). drop k line) sum

  pub past_short : length left ≤ length line
  past_short = rw beyond_place (simp length-drop (omega arith))

  pub past_from : StartsAt line (length line - length left) (beyond_of (drop at line))
  past_from = record { within = omega arith; starts = beyond_at (at + 1 + index_of 32 (drop 1 (drop at line))) beyond_place ∙ beyond_is }

module _ {line : List ℕ} (at a value : ℕ) {r : ℕ} where
  pub behind_word : (a ≡ OPTIONAL → ⊥) → StartsAt line r (beyond_of (drop at line)) → StartsAt line r (behind_of a value (drop at line))
  unfolding behind_of
  behind_word h k = rw (ne_eqb a OPTIONAL h) k

  pub behind_there : (value ≡ 0 → ⊥) → StartsAt line r (beyond_of (drop at line)) → StartsAt line r (behind_of a value (drop at line))
  unfolding behind_of
  behind_there h k = rw (ne_eqb value 0 h, and-false) k

pub behind_not_there : {line : List ℕ} (at a value : ℕ) → at ≤ length line → a ≡ OPTIONAL → value ≡ 0 → StartsAt line at (behind_of a value (drop at line))
unfolding behind_of
behind_not_there at a value w e f = record { within = w; starts = rw (eq-eqb a OPTIONAL e, eq-eqb value 0 f) }

-- ---- one word, from what was said
module _ (places size a b : ℕ) (s : Said) where
  pub item_idle : s.good ≡ false → item_of places size a b s ≡ s
  unfolding item_of
  item_idle e = rw e

  module _ (g : s.good ≡ true) where
    pub item_full : places ≤ length s.numbers → item_of places size a b s ≡ stopped s
    unfolding item_of
    item_full h = rw (g, le-ltb (length s.numbers) places h)

    module _ (h : length s.numbers < places) where
      pub item_bad : value_of a b (size - length s.bytes) (word_of s.rest) ≡ None → item_of places size a b s ≡ stopped s
      unfolding item_of
      item_bad e = rw (g, lt-ltb (length s.numbers) places h, e)

      pub item_value : {v : ℕ} → value_of a b (size - length s.bytes) (word_of s.rest) ≡ Some v → item_of places size a b s ≡ said_more a s v
      unfolding item_of
      item_value e = rw (g, lt-ltb (length s.numbers) places h, e)

said_same : {g : Bool} {r r' n n' b b' : List ℕ} → r ≡ r' → n ≡ n' → b ≡ b' → ◌≡◌ {A = Said} (record { good = g; rest = r; numbers = n; bytes = b }) (record { good = g; rest = r'; numbers = n'; bytes = b' })
said_same e f g = rw (e, f, g)

-- ---- bytes laid behind a cursor
module _ (bytes : List ℕ) (m : ℕ) (got : List ℕ) (h : m + length got ≤ length bytes) where
  abbrev wrote : List ℕ
  wrote = put_mid m (length bytes - m) bytes (got ++ drop (length got) (mid_of m (length bytes - m) bytes))

  front : length (take m bytes ++ got) ≡ m + length got
  front = simp length-append (omega (arith, length-take-le m bytes (omega arith)))

  wrote_is : wrote ≡ (take m bytes ++ got) ++ drop (m + length got) bytes
  wrote_is =
      let none : drop (length bytes - m) (drop m bytes) ≡ [] = drop_of_length-le (drop m bytes) {i = length bytes - m} (simp length-drop (omega arith)) in
      rw (rest_part m bytes, none, append-nil, drop-drop (length got) m bytes) (sym (append_assoc (take m bytes) got (drop (m + length got) bytes)))

  wrote_take : take (m + length got) wrote ≡ take m bytes ++ got
  wrote_take = rw wrote_is (take_at (take m bytes ++ got) (drop (m + length got) bytes) (m + length got) front)

  wrote_drop : drop (m + length got) wrote ≡ drop (m + length got) bytes
  wrote_drop = rw wrote_is (drop_at (take m bytes ++ got) (drop (m + length got) bytes) (m + length got) front)

  wrote_length : length wrote ≡ length bytes
  wrote_length = ap length wrote_is ∙ simp (length-append, length-drop) (omega (arith, length-take-le m bytes (omega arith)))

-- ---- the way along a line
pub advance_none : {line numbers bytes : List ℕ} {s : Cursor} → Inside line s numbers bytes → Advances line s numbers bytes (said_at line s numbers bytes) s numbers bytes
advance_none k = record {
  stands = k;
  said = refl;
  size_numbers = refl;
  size_bytes = refl;
  more_numbers = omega arith;
  more_bytes = omega arith;
  other_numbers = refl;
  other_bytes = refl;
}

pub advance_as : {line numbers bytes numbers' bytes' : List ℕ} {s r : Cursor} {u v : Said} → Advances line s numbers bytes u r numbers' bytes' → u ≡ v → Advances line s numbers bytes v r numbers' bytes'
advance_as k e = rw e at k

drop_as : {m n : ℕ} (x y : List ℕ) → m ≤ n → drop m x ≡ drop m y → drop n x ≡ drop n y
drop_as {m} {n} x y h e =
    let sum : m + (n - m) ≡ n = omega arith in
    ap (λ (k : ℕ). drop k x) (sym sum) ∙ sym (drop-drop (n - m) m x) ∙ ap (drop (n - m)) e ∙ drop-drop (n - m) m y ∙ ap (λ (k : ℕ). drop k y) sum

pub advance_on : {line numbers bytes numbers' bytes' numbers'' bytes'' : List ℕ} {s r t : Cursor} {u v : Said} → Advances line s numbers bytes u r numbers' bytes' → Advances line r numbers' bytes' v t numbers'' bytes''
    → Advances line s numbers bytes v t numbers'' bytes''
advance_on {numbers = numbers} {bytes = bytes} {numbers' = numbers'} {bytes' = bytes'} k l = record {
  stands = l.stands;
  said = l.said;
  size_numbers = l.size_numbers ∙ k.size_numbers;
  size_bytes = l.size_bytes ∙ k.size_bytes;
  more_numbers = omega (arith, k.more_numbers, l.more_numbers);
  more_bytes = omega (arith, k.more_bytes, l.more_bytes);
  other_numbers = l.other_numbers ∙ drop_as numbers' numbers l.more_numbers k.other_numbers;
  other_bytes = l.other_bytes ∙ drop_as bytes' bytes l.more_bytes k.other_bytes;
}

-- ---- one word
module _ (line : List ℕ) (s : Cursor) (numbers bytes : List ℕ) (k : Inside line s numbers bytes) (a b : ℕ) where
  abbrev whole : Said
  whole = item_of (length numbers) (length bytes) a b (said_at line s numbers bytes)

  pub advance_idle : s.good ≡ false → Advances line s numbers bytes whole s numbers bytes
  advance_idle e = advance_as (advance_none k) (sym (item_idle (length numbers) (length bytes) a b (said_at line s numbers bytes) e))

  module _ (g : s.good ≡ true) where
    said_numbers : length (take s.numbers numbers) ≡ s.numbers
    said_numbers = length-take-le s.numbers numbers k.numbers_inside

    pub advance_full : {r : Cursor} → length numbers ≤ s.numbers → r ≡ stopped_at s → Advances line s numbers bytes whole r numbers bytes
    advance_full h e = rw e (record {
      stands = record { at_inside = k.at_inside; numbers_inside = k.numbers_inside; bytes_inside = k.bytes_inside };
      said = sym (item_full (length numbers) (length bytes) a b (said_at line s numbers bytes) g (omega (arith, said_numbers)));
      size_numbers = refl;
      size_bytes = refl;
      more_numbers = omega arith;
      more_bytes = omega arith;
      other_numbers = refl;
      other_bytes = refl;
    })

    module _ (h : s.numbers < length numbers) {word : List ℕ} (w : word ≡ word_of (mid_of s.at (length line - s.at) line)) {r : Option ℕ} {lent : List ℕ} (v : ValueSaid a b (mid_of s.bytes (length bytes - s.bytes) bytes) word r lent) where
      word_is : word ≡ word_of (drop s.at line)
      word_is = w ∙ ap word_of (rest_part s.at line)

      lent_size : length (mid_of s.bytes (length bytes - s.bytes) bytes) ≡ length bytes - s.bytes
      lent_size = ap length (rest_part s.bytes bytes) ∙ length-drop s.bytes bytes

      room_is : length (mid_of s.bytes (length bytes - s.bytes) bytes) ≡ length bytes - length (take s.bytes bytes)
      room_is = lent_size ∙ ap (λ (n : ℕ). length bytes - n) (sym (length-take-le s.bytes bytes k.bytes_inside))

      value_as : value_of a b (length bytes - length (take s.bytes bytes)) (word_of (drop s.at line)) ≡ r
      value_as = rw (← room_is, ← word_is) (sym v.answer)

      got_fits : s.bytes + length (bytes_got a word r) ≤ length bytes
      got_fits = omega (arith, lent_size, v.fits, k.bytes_inside)

      abbrev after : List ℕ
      after = put_mid s.bytes (length bytes - s.bytes) bytes lent

      after_is : after ≡ wrote bytes s.bytes (bytes_got a word r) got_fits
      after_is = ap (put_mid s.bytes (length bytes - s.bytes) bytes) v.bytes

      after_take : take (s.bytes + length (bytes_got a word r)) after ≡ take s.bytes bytes ++ bytes_got a word r
      after_take = rw after_is (wrote_take bytes s.bytes (bytes_got a word r) got_fits)

      after_drop : drop (s.bytes + length (bytes_got a word r)) after ≡ drop (s.bytes + length (bytes_got a word r)) bytes
      after_drop = rw after_is (wrote_drop bytes s.bytes (bytes_got a word r) got_fits)

      after_size : length after ≡ length bytes
      after_size = rw after_is (wrote_length bytes s.bytes (bytes_got a word r) got_fits)

      pub advance_bad : {t : Cursor} → r ≡ None → t ≡ stopped_at s → Advances line s numbers bytes whole t numbers after
      advance_bad e f =
          let none : bytes_got a word r ≡ [] = ap (bytes_got a word) e in
          let z : s.bytes + length (bytes_got a word r) ≡ s.bytes = rw none (omega arith) in
          let front : take s.bytes after ≡ take s.bytes bytes = ap (λ (n : ℕ). take n after) (sym z) ∙ after_take ∙ ap (λ (l : List ℕ). take s.bytes bytes ++ l) none ∙ append-nil (take s.bytes bytes) in
          rw f (record {
            stands = record { at_inside = k.at_inside; numbers_inside = k.numbers_inside; bytes_inside = omega (arith, after_size, k.bytes_inside) };
            said = said_same refl refl front ∙ sym (item_bad (length numbers) (length bytes) a b (said_at line s numbers bytes) g (omega (arith, said_numbers)) (value_as ∙ e));
            size_numbers = refl;
            size_bytes = after_size;
            more_numbers = omega arith;
            more_bytes = omega arith;
            other_numbers = refl;
            other_bytes = rw z at after_drop;
          })

      pub got_counted : {n : ℕ} → r ≡ Some n → length_laid a n ≡ length (bytes_got a word r)
      got_counted e = ap (on_number 0 (length_laid a)) (sym e) ∙ v.counted

      pub advance_value : {n l at : ℕ} → r ≡ Some n → l ≡ length_laid a n → StartsAt line at (behind_of a n (drop s.at line))
          → Advances line s numbers bytes whole (record { good = true; at = at; numbers = s.numbers + 1; bytes = s.bytes + l }) (set numbers s.numbers n) after
      advance_value {n} {l} {at} e f p =
          let count : l ≡ length (bytes_got a word r) = f ∙ got_counted e in
          let size : s.bytes + l ≡ s.bytes + length (bytes_got a word r) = ap (λ (m : ℕ). s.bytes + m) count in
          let got : bytes_got a word r ≡ bytes_of a (word_of (drop s.at line)) = ap (bytes_got a word) e ∙ ap (bytes_of a) word_is in
          let taken : take (s.numbers + 1) (set numbers s.numbers n) ≡ take s.numbers numbers ++ (n ∷ []) = rw (add-one s.numbers) (take-suc-set numbers s.numbers n h) in
          let front : take (s.bytes + l) after ≡ take s.bytes bytes ++ bytes_of a (word_of (drop s.at line)) = ap (λ (m : ℕ). take m after) size ∙ after_take ∙ ap (λ (x : List ℕ). take s.bytes bytes ++ x) got in
          record {
            stands = record { at_inside = p.within; numbers_inside = omega (arith, length-set numbers s.numbers n); bytes_inside = omega (arith, after_size, size, got_fits) };
            said = said_same p.starts taken front ∙ sym (item_value (length numbers) (length bytes) a b (said_at line s numbers bytes) g (omega (arith, said_numbers)) (value_as ∙ e));
            size_numbers = length-set numbers s.numbers n;
            size_bytes = after_size;
            more_numbers = omega arith;
            more_bytes = omega arith;
            other_numbers = drop-set-lt (s.numbers + 1) numbers s.numbers n (omega arith);
            other_bytes = ap (λ (m : ℕ). drop m after) size ∙ after_drop ∙ ap (λ (m : ℕ). drop m bytes) (sym size);
          }
      -- ---- two items of a row

pub two : (row : List ℕ) → 2 ≤ length row → row ≡ get_or row 0 0 ∷ (get_or row 1 0 ∷ mid_of 2 (length row - 2) row)
two [] h = absurd (omega arith)
two (a ∷ []) h = absurd (omega arith)
two (a ∷ (b ∷ row)) h =
    let left : length (a ∷ (b ∷ row)) - 2 ≡ length row = omega arith in
    ap (λ (l : List ℕ). a ∷ (b ∷ l)) (sym (take-length row) ∙ ap (λ (n : ℕ). take n row) (sym left))

items_few : (places size : ℕ) (row : List ℕ) (s : Said) → length row < 2 → items_of places size row s ≡ s
unfolding items_of
items_few places size [] s h = refl
items_few places size (a ∷ []) s h = refl
items_few places size (a ∷ (b ∷ row)) s h = absurd (omega arith)

row_few : (places size skip : ℕ) (row : List ℕ) (s : Said) → length row < 2 → row_of places size skip row s ≡ s
unfolding row_of
row_few places size skip [] s h = refl
row_few places size skip (a ∷ []) s h = refl
row_few places size skip (a ∷ (b ∷ row)) s h = absurd (omega arith)

-- ---- the words of a row
-- what is left of the row says the rest of the whole
pub record ItemsSoFar (line row : List ℕ) (s : Cursor) (numbers bytes left : List ℕ) (r : Cursor) (numbers' bytes' : List ℕ) : Type 0 where
  pub goes : Advances line s numbers bytes (said_at line r numbers' bytes') r numbers' bytes'
  pub same : items_of (length numbers) (length bytes) left (said_at line r numbers' bytes') ≡ items_of (length numbers) (length bytes) row (said_at line s numbers bytes)

pub items_none : {line row : List ℕ} {s : Cursor} {numbers bytes : List ℕ} → Inside line s numbers bytes → ItemsSoFar line row s numbers bytes row s numbers bytes
items_none k = record { goes = advance_none k; same = refl }

module _ {line row : List ℕ} {s : Cursor} {numbers bytes left : List ℕ} {r : Cursor} {numbers' bytes' : List ℕ} (k : ItemsSoFar line row s numbers bytes left r numbers' bytes') where
  pub items_on : {t : Cursor} {numbers'' bytes'' : List ℕ} → 2 ≤ length left
      → Advances line r numbers' bytes' (item_of (length numbers') (length bytes') (get_or left 0 0) (get_or left 1 0) (said_at line r numbers' bytes')) t numbers'' bytes''
      → ItemsSoFar line row s numbers bytes (mid_of 2 (length left - 2) left) t numbers'' bytes''
  unfolding items_of
  items_on h l = record {
    goes = advance_as (advance_on k.goes l) (sym l.said);
    same = rw (l.said, k.goes.size_numbers, k.goes.size_bytes) (rw (two left h) at k.same);
  }

  pub items_end : length left < 2 → Advances line s numbers bytes (items_of (length numbers) (length bytes) row (said_at line s numbers bytes)) r numbers' bytes'
  items_end h = advance_as k.goes (sym (items_few (length numbers) (length bytes) left (said_at line r numbers' bytes') h) ∙ k.same)

-- ---- behind a bad word nothing is read
module _ (places size : ℕ) where
  items_idle : (row : List ℕ) (s : Said) → s.good ≡ false → items_of places size row s ≡ s
  unfolding items_of
  items_idle [] s e = refl
  items_idle (a ∷ []) s e = refl
  items_idle (a ∷ (b ∷ row)) s e = rw (item_idle places size a b s e) (items_idle row s e)

  list_idle : (n : ℕ) (row : List ℕ) (s : Said) → s.good ≡ false → list_of places size n row s ≡ s
  unfolding list_of
  list_idle zero row s e = refl
  list_idle (suc n) row s e = rw (items_idle row s e) (list_idle n row s e)

pub list_stopped : (line row numbers bytes : List ℕ) (count : ℕ) {s : Cursor} → Inside line s numbers bytes → s.good ≡ false
    → Advances line s numbers bytes (list_of (length numbers) (length bytes) count row (said_at line s numbers bytes)) s numbers bytes
list_stopped line row numbers bytes count {s} k e = advance_as (advance_none k) (sym (list_idle (length numbers) (length bytes) count row (said_at line s numbers bytes) e))

-- ---- a list: n times
pub record ListSoFar (line : List ℕ) (count : ℕ) (row : List ℕ) (s : Cursor) (numbers bytes : List ℕ) (i : ℕ) (r : Cursor) (numbers' bytes' : List ℕ) : Type 0 where
  pub within : i ≤ count
  pub goes : Advances line s numbers bytes (said_at line r numbers' bytes') r numbers' bytes'
  pub same : list_of (length numbers) (length bytes) (count - i) row (said_at line r numbers' bytes') ≡ list_of (length numbers) (length bytes) count row (said_at line s numbers bytes)

module _ {line : List ℕ} {count : ℕ} {row : List ℕ} {s : Cursor} {numbers bytes : List ℕ} {i : ℕ} {r : Cursor} {numbers' bytes' : List ℕ} (k : ListSoFar line count row s numbers bytes i r numbers' bytes') where
  pub list_on : {t : Cursor} {numbers'' bytes'' : List ℕ} → i < count
      → Advances line r numbers' bytes' (items_of (length numbers') (length bytes') row (said_at line r numbers' bytes')) t numbers'' bytes''
      → ListSoFar line count row s numbers bytes (i + 1) t numbers'' bytes''
  unfolding list_of
  list_on h l = let one : count - i ≡ suc (count - (i + 1)) = omega arith in record {
    within = omega arith;
    goes = advance_as (advance_on k.goes l) (sym l.said);
    same = rw (l.said, k.goes.size_numbers, k.goes.size_bytes) (rw one at k.same);
  }

  pub list_end : count ≤ i → Advances line s numbers bytes (list_of (length numbers) (length bytes) count row (said_at line s numbers bytes)) r numbers' bytes'
  unfolding list_of
  list_end h = let z : count - i ≡ 0 = omega arith in advance_as k.goes (rw z at k.same)

-- ---- one item
module _ (line : List ℕ) (skip a b : ℕ) (row : List ℕ) (s : Cursor) (numbers bytes : List ℕ) where
  abbrev stepped : Said
  stepped = item_or_list_of (length numbers) (length bytes) skip a b row (said_at line s numbers bytes)

  pub part_over : 0 < skip → Inside line s numbers bytes → Advances line s numbers bytes stepped s numbers bytes
  unfolding item_or_list_of
  part_over h k = advance_as (advance_none k) (rw (lt-ltb 0 skip h))

  pub part_many : {count : ℕ} {group : List ℕ} {r : Cursor} {numbers' bytes' : List ℕ} → skip ≤ 0 → a ≡ LIST → count ≡ last_number (take s.numbers numbers) → group ≡ take (b * 2) row
      → Advances line s numbers bytes (list_of (length numbers) (length bytes) count group (said_at line s numbers bytes)) r numbers' bytes' → Advances line s numbers bytes stepped r numbers' bytes'
  unfolding item_or_list_of
  part_many h e f g k = advance_as k (rw (le-ltb 0 skip h, eq-eqb a LIST e, f, g))

  pub part_one : {r : Cursor} {numbers' bytes' : List ℕ} → skip ≤ 0 → (a ≡ LIST → ⊥)
      → Advances line s numbers bytes (item_of (length numbers) (length bytes) a b (said_at line s numbers bytes)) r numbers' bytes' → Advances line s numbers bytes stepped r numbers' bytes'
  unfolding item_or_list_of
  part_one h e k = advance_as k (rw (le-ltb 0 skip h, ne_eqb a LIST e))

-- ---- all items
-- what is left of the row, with its first items left out, says the rest of the whole
pub record RowSoFar (line row : List ℕ) (s : Cursor) (numbers bytes : List ℕ) (skip : ℕ) (left : List ℕ) (r : Cursor) (numbers' bytes' : List ℕ) : Type 0 where
  pub goes : Advances line s numbers bytes (said_at line r numbers' bytes') r numbers' bytes'
  pub same : row_of (length numbers) (length bytes) skip left (said_at line r numbers' bytes') ≡ row_of (length numbers) (length bytes) 0 row (said_at line s numbers bytes)

abbrev pub at_start : Cursor
at_start = record { good = true; at = 0; numbers = 0; bytes = 0 }

module _ {line row : List ℕ} {s : Cursor} {numbers bytes : List ℕ} {skip : ℕ} {left : List ℕ} {r : Cursor} {numbers' bytes' : List ℕ} (k : RowSoFar line row s numbers bytes skip left r numbers' bytes') where
  pub row_on : {t : Cursor} {numbers'' bytes'' : List ℕ} {skip' : ℕ} → 2 ≤ length left
      → Advances line r numbers' bytes' (item_or_list_of (length numbers') (length bytes') skip (get_or left 0 0) (get_or left 1 0) (mid_of 2 (length left - 2) left) (said_at line r numbers' bytes')) t numbers'' bytes''
      → skip' ≡ left_out_of skip (get_or left 0 0) (get_or left 1 0)
      → RowSoFar line row s numbers bytes skip' (mid_of 2 (length left - 2) left) t numbers'' bytes''
  unfolding row_of
  row_on h l e = record {
    goes = advance_as (advance_on k.goes l) (sym l.said);
    same = rw (l.said, k.goes.size_numbers, k.goes.size_bytes, e) (rw (two left h) at k.same);
  }

  pub row_end : length left < 2 → Advances line s numbers bytes (row_of (length numbers) (length bytes) 0 row (said_at line s numbers bytes)) r numbers' bytes'
  row_end h = advance_as k.goes (sym (row_few (length numbers) (length bytes) skip left (said_at line r numbers' bytes') h) ∙ k.same)

-- ---- the whole line
over_is : (old new said : List ℕ) (n : ℕ) → n ≤ length new → take n new ≡ said → drop n new ≡ drop n old → (n ≡ length said) × (new ≡ over said old)
over_is old new said n h e f =
    let count : n ≡ length said = sym (length-take-le n new h) ∙ ap length e in
    (count, sym (take-append-drop n new) ∙ ap (λ (l : List ℕ). l ++ drop n new) e ∙ ap (λ (l : List ℕ). said ++ l) (f ∙ ap (λ (m : ℕ). drop m old) count))

pub ended_is : (line : List ℕ) (at : ℕ) (good : Bool) → at ≤ length line → cond (eqb at (length line)) good false ≡ cond (eqb (length (drop at line)) 0) good false
ended_is line at good h =
    let left : length (drop at line) ≡ length line - at = length-drop at line in
    elim (dec_le (length line) at) [
      | yes g ↦ rw (eq-eqb at (length line) (omega arith), eq-eqb (length (drop at line)) 0 (omega (arith, left)))
      | no g ↦ rw (ne_eqb at (length line) (omega arith), ne_eqb (length (drop at line)) 0 (omega (arith, left)))
    ]

pub reads_all : {line row numbers bytes : List ℕ} {r : Cursor} {numbers' bytes' : List ℕ} {good : Bool}
    → Advances line at_start numbers bytes (row_of (length numbers) (length bytes) 0 row (said_at line at_start numbers bytes)) r numbers' bytes' → good ≡ cond (eqb r.at (length line)) r.good false
    → ReadsRow row line numbers bytes (record { good = good; bytes = r.bytes }) numbers' bytes'
unfolding read_by good_by
reads_all {line} {row} {numbers} {bytes} {r} {numbers'} {bytes'} k e =
    let all = row_of (length numbers) (length bytes) 0 row (said_at line at_start numbers bytes) in
    let first = over_is numbers numbers' all.numbers r.numbers k.stands.numbers_inside (ap (λ (x : Said). x.numbers) k.said) k.other_numbers in
    let second = over_is bytes bytes' all.bytes r.bytes k.stands.bytes_inside (ap (λ (x : Said). x.bytes) k.said) k.other_bytes in
    record {
      answer = e ∙ ended_is line r.at r.good k.stands.at_inside ∙ ap (λ (x : Said). cond (eqb (length x.rest) 0) x.good false) k.said;
      count = second.0;
      numbers = first.1;
      bytes = second.1;
    }
