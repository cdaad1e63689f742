-- A program's commands as one table: for each command the key of its first word, the number of its row's items, and the row.
use Rattle.std.specs.Prelude.{◌≡◌, Bool, false, cond, List, [], ◌∷◌, ℕ, ◌-◌, ◌*◌, ◌/◌, ltb, length, take, drop, get_or}
use Rattle.text.specs.Words.{head_of, tail_of}
use Rattle.line_rows.specs.declared.table.Told.{Told}
use Rattle.line_rows.specs.Rows.{spells_of, Said, read_by, good_by, over}

-- "It may be 140,000 bytes long": a longer line is read as an empty one, which is no command
abbrev pub LONGEST-LINE : ℕ
LONGEST-LINE = 140000

unfoldable pub shortened : List ℕ → List ℕ
shortened line = cond (ltb LONGEST-LINE (length line)) [] line

-- a command of a table
abbrev pub command : ℕ → List ℕ → List ℕ
command key row = key ∷ (length row / 2 ∷ row)

-- a command stands here, behind the last n items of the one before, and a word names it
unfoldable pub named_of : ℕ → List ℕ → ℕ → Bool
named_of skip name key = cond (ltb 0 skip) false (spells_of name key)

-- how many items stand before the next command
unfoldable pub items_left : ℕ → ℕ → ℕ
items_left skip count = cond (ltb 0 skip) (skip - 1) count

-- a table from the command on that a word names; empty where it names none
unfoldable pub command_of : ℕ → List ℕ → List ℕ → List ℕ
command_of skip name [] = []
command_of skip name (key ∷ []) = []
command_of skip name (key ∷ (count ∷ table)) = cond (named_of skip name key) (key ∷ (count ∷ table)) (command_of (items_left skip count) name table)

-- the key and the row of a table's first command; 0 and no item where there is none
unfoldable pub key_of : List ℕ → ℕ
key_of table = get_or table 0 0

unfoldable pub items_behind : List ℕ → List ℕ
items_behind table = take (get_or table 1 0 * 2) (drop 2 table)

-- the row of a line's first word
abbrev pub row_for : List ℕ → List ℕ → List ℕ
row_for table line = items_behind (command_of 0 (head_of line) table)

module _ (places size : ℕ) (table line : List ℕ) where
  -- what a line says by a table, with room for n numbers and for bytes
  unfoldable pub said_in : Said
  said_in = read_by places size (row_for table line) (tail_of line)

  -- the key of the command that it is; 0 for a line that is none
  unfoldable pub key_in : ℕ
  key_in = cond (good_by places size (row_for table line) (tail_of line)) (key_of (command_of 0 (head_of line) table)) 0

-- a line read by a table
pub record Reads (table line lent room : List ℕ) (r : Told) (lent' room' : List ℕ) : Type 0 where
  pub key : r.key ≡ key_in (length lent) (length room) table line
  pub count : r.bytes ≡ length (said_in (length lent) (length room) table line).bytes
  pub numbers : lent' ≡ over (said_in (length lent) (length room) table line).numbers lent
  pub bytes : room' ≡ over (said_in (length lent) (length room) table line).bytes room
