-- What a line says by a row of items, two numbers for each item. docs/SESSION.md: "A line is words with one space between two .. Numbers are decimal without
-- needless zeros in front; byte strings are lowercase hexadecimal, two digits a byte, and `-` is the empty one."
use Rattle.std.specs.Prelude.{◌≡◌, Bool, true, false, cond, ◌&&◌, List, [], ◌∷◌, ◌++◌, ℕ, zero, suc, ◌+◌, ◌-◌, ◌*◌, ◌/◌, ◌%◌, eqb, ltb, length, take, drop, get_or, Option, Some, None}
use Rattle.text.specs.Words.{word_of, beyond_of}
use Rattle.text.specs.Numbers.{parse_of}
use Rattle.text.specs.Strings.{hexed_of, pairs_of}
use Rattle.line_rows.specs.declared.row.RowRead.{RowRead}

-- ---- the kinds of item; any other is a choice of two keywords, the first said by 0 and the second by 1

-- NUMBER most: a number up to `most`, which it says
abbrev pub NUMBER : ℕ
NUMBER = 0

-- BYTES 0: a byte string, which says its length
abbrev pub BYTES : ℕ
BYTES = 1

-- LIST n: the next n items, as often as the number before says
abbrev pub LIST : ℕ
LIST = 2

-- OPTIONAL key: the keyword, which says 1, or no word, which says 0; LIST n behind it is what stands only behind the keyword
abbrev pub OPTIONAL : ℕ
OPTIONAL = 3

-- ---- one word

-- the key of a keyword of up to 8 bytes
abbrev pub key_text : List ℕ → ℕ
key_text [] = 0
key_text (byte ∷ word) = byte + 256 * key_text word

-- a word is a keyword, whose first byte has the lowest place of the key
unfoldable pub spells_of : List ℕ → ℕ → Bool
spells_of [] key = eqb key 0
spells_of (byte ∷ word) key = cond (eqb key 0) false (cond (eqb byte (key % 256)) (spells_of word (key / 256)) false)

-- one of two keywords; a keyword that must stand there is `key key`
unfoldable pub choice_of : ℕ → ℕ → List ℕ → Option ℕ
choice_of first second word = cond (spells_of word first) (Some 0) (cond (spells_of word second) (Some 1) None)

abbrev pub length_said : Option ℕ → Option ℕ
length_said None = None
length_said (Some n) = Some n

-- the number that a word says as an item `a b`, with room for n bytes
unfoldable pub value_of : ℕ → ℕ → ℕ → List ℕ → Option ℕ
value_of a b room word =
    cond (eqb a NUMBER) (parse_of b word)
    (cond (eqb a BYTES) (length_said (hexed_of room word))
    (cond (eqb a OPTIONAL) (Some (cond (spells_of word b) 1 0))
    (choice_of a b word)))

-- the bytes that it says
unfoldable pub bytes_of : ℕ → List ℕ → List ℕ
bytes_of a word = cond (eqb a BYTES) (pairs_of word) []

-- what stands behind it; a keyword that may be missing and is takes no word
unfoldable pub behind_of : ℕ → ℕ → List ℕ → List ℕ
behind_of a value rest = cond (eqb a OPTIONAL && eqb value 0) rest (beyond_of rest)

-- ---- a line, as far as it is read: whether it was well said, what is left of it, what it said
pub record Said : Type 0 where
  pub good : Bool
  pub rest : List ℕ
  pub numbers : List ℕ
  pub bytes : List ℕ

abbrev pub stopped : Said → Said
stopped s = record { good = false; rest = s.rest; numbers = s.numbers; bytes = s.bytes }

abbrev pub on_number : {A : Type 0} → A → (ℕ → A) → Option ℕ → A
on_number none f None = none
on_number none f (Some n) = f n

abbrev pub said_more : ℕ → Said → ℕ → Said
said_more a s v =
    record { good = true; rest = behind_of a v s.rest; numbers = s.numbers ++ (v ∷ []); bytes = s.bytes ++ bytes_of a (word_of s.rest) }

-- one item more, with room for `places` numbers and `size` bytes in all
unfoldable pub item_of : ℕ → ℕ → ℕ → ℕ → Said → Said
item_of places size a b s =
    cond s.good
    (cond (ltb (length s.numbers) places) (on_number (stopped s) (said_more a s) (value_of a b (size - length s.bytes) (word_of s.rest))) (stopped s))
    s

-- ---- a row

-- the number said last; 0 before the first
unfoldable pub last_number : List ℕ → ℕ
last_number numbers = get_or (0 ∷ numbers) (length numbers) 0

-- how many items are left out from here on, since a list has read them
unfoldable pub left_out_of : ℕ → ℕ → ℕ → ℕ
left_out_of skip a b = cond (ltb 0 skip) (skip - 1) (cond (eqb a LIST) b 0)

module _ (places size : ℕ) where
  -- items without a list among them
  unfoldable pub items_of : List ℕ → Said → Said
  items_of [] s = s
  items_of (a ∷ []) s = s
  items_of (a ∷ (b ∷ row)) s = items_of row (item_of places size a b s)

  -- the same items n times
  unfoldable pub list_of : ℕ → List ℕ → Said → Said
  list_of zero row s = s
  list_of (suc n) row s = list_of n row (items_of row s)

  -- one item or list, with what stands behind it in the row
  unfoldable pub item_or_list_of : ℕ → ℕ → ℕ → List ℕ → Said → Said
  item_or_list_of skip a b row s = cond (ltb 0 skip) s (cond (eqb a LIST) (list_of (last_number s.numbers) (take (b * 2) row) s) (item_of places size a b s))

  -- a row, whose first items are left out
  unfoldable pub row_of : ℕ → List ℕ → Said → Said
  row_of skip [] s = s
  row_of skip (a ∷ []) s = s
  row_of skip (a ∷ (b ∷ row)) s = row_of (left_out_of skip a b) row (item_or_list_of skip a b row s)

  -- all that a rest of a line says by a row
  unfoldable pub read_by : List ℕ → List ℕ → Said
  read_by row rest = row_of 0 row (record { good = true; rest = rest; numbers = []; bytes = [] })

  -- whether all of it was well said and nothing stands behind
  unfoldable pub good_by : List ℕ → List ℕ → Bool
  good_by row rest = cond (eqb (length (read_by row rest).rest) 0) (read_by row rest).good false

-- what was said at the start of a lent slice; behind that it is as it was
abbrev pub over : List ℕ → List ℕ → List ℕ
over said lent = said ++ drop (length said) lent

-- a line behind its first word, read by a row
pub record ReadsRow (row rest lent room : List ℕ) (r : RowRead) (lent' room' : List ℕ) : Type 0 where
  pub answer : r.good ≡ good_by (length lent) (length room) row rest
  pub count : r.bytes ≡ length (read_by (length lent) (length room) row rest).bytes
  pub numbers : lent' ≡ over (read_by (length lent) (length room) row rest).numbers lent
  pub bytes : room' ≡ over (read_by (length lent) (length room) row rest).bytes room
