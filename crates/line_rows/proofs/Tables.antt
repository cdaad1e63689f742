-- The command of a table that a word names. Assumes nothing.
use mathlib.Core.Bool.{Bool, true, false}
use mathlib.Core.Path.{◌≡◌, refl, sym, ap, ◌∙◌}
use mathlib.Core.List.{List, [], ◌∷◌}
use Prim.Native.Nat.{ℕ, ◌-◌, ◌*◌, ◌≤◌, ◌<◌}
use native.Mathlib.Omega.{arith}
use borrow.Author.Tests.{lt-ltb, le-ltb}
use borrow.Rule.Slice.PartMut.{mid_of}
use lib.ListN.{length, take, drop, get_or, drop_of_length-le}
use lib.Seq.{take_all}
use Rattle.facts.proofs.Lists.{rest_part}
use Rattle.text.specs.Words.{head_of, tail_of}
use Rattle.line_rows.specs.declared.row.RowRead.{RowRead}
use Rattle.line_rows.specs.Rows.{spells_of, ReadsRow}
use Rattle.line_rows.specs.Tables.{named_of, items_left, command_of, key_of, items_behind, said_in, key_in, Reads}
use Rattle.line_rows.proofs.Laws.{two}

-- ---- whether a command is named, and where the next one stands
module _ (skip key : ℕ) (name : List ℕ) where
  pub named_not : 0 < skip → false ≡ named_of skip name key
  unfolding named_of
  named_not h = rw (lt-ltb 0 skip h)

  pub named_here : {t : Bool} → skip ≤ 0 → t ≡ spells_of name key → t ≡ named_of skip name key
  unfolding named_of
  named_here h e = rw (le-ltb 0 skip h) e

module _ (skip count : ℕ) where
  pub left_one : 0 < skip → skip - 1 ≡ items_left skip count
  unfolding items_left
  left_one h = rw (lt-ltb 0 skip h)

  pub left_all : skip ≤ 0 → count ≡ items_left skip count
  unfolding items_left
  left_all h = rw (le-ltb 0 skip h)

-- ---- the search
command_few : (skip : ℕ) (name table : List ℕ) → length table < 2 → command_of skip name table ≡ []
unfolding command_of
command_few skip name [] h = refl
command_few skip name (key ∷ []) h = refl
command_few skip name (key ∷ (count ∷ table)) h = absurd (omega arith)

-- what is left of a table, with its first items left out, gives the same command as the whole
module _ (name table left : List ℕ) (skip : ℕ) (k : command_of skip name left ≡ command_of 0 name table) where
  pub seek_found : {t : Bool} → 2 ≤ length left → t ≡ named_of skip name (get_or left 0 0) → t ≡ true → left ≡ command_of 0 name table
  unfolding command_of
  seek_found h e f = two left h ∙ rw (two left h, sym e ∙ f) at k

  pub seek_on : {t : Bool} {skip' : ℕ} → 2 ≤ length left → t ≡ named_of skip name (get_or left 0 0) → t ≡ false → skip' ≡ items_left skip (get_or left 1 0)
      → command_of skip' name (mid_of 2 (length left - 2) left) ≡ command_of 0 name table
  unfolding command_of
  seek_on h e f g = rw g (rw (two left h, sym e ∙ f) at k)

  pub seek_end : length left < 2 → [] ≡ command_of 0 name table
  seek_end h = sym (command_few skip name left h) ∙ k

-- ---- the row of the first command
pub items_none : (table : List ℕ) → length table < 2 → [] ≡ items_behind table
unfolding items_behind
items_none table h =
    let short : length table ≤ 2 = omega arith in
    let none : drop 2 table ≡ [] = drop_of_length-le table {i = 2} short in
    rw none (sym (take_all (get_or table 1 0 * 2) [] (omega arith)))

pub items_some : (table : List ℕ) {items : List ℕ} → items ≡ take (get_or table 1 0 * 2) (mid_of 2 (length table - 2) table) → items ≡ items_behind table
unfolding items_behind
items_some table e = e ∙ rw (rest_part 2 table)

-- ---- a line
module _ (line table : List ℕ) {lent room command name row rest : List ℕ} {said : RowRead} {lent' room' : List ℕ}
    (n : name ≡ head_of line) (f : command ≡ command_of 0 name table) (e : row ≡ items_behind command) (g : rest ≡ tail_of line) (k : ReadsRow row rest lent room said lent' room') where
  row_is : row ≡ items_behind (command_of 0 (head_of line) table)
  row_is = e ∙ ap items_behind f ∙ ap (λ (w : List ℕ). items_behind (command_of 0 w table)) n

  as_row : ReadsRow (items_behind (command_of 0 (head_of line) table)) (tail_of line) lent room said lent' room'
  as_row = rw (row_is, g) at k

  pub reads_good : {key : ℕ} → said.good ≡ true → key ≡ key_of command → Reads table line lent room (record { key = key; bytes = said.bytes }) lent' room'
  unfolding said_in key_in
  reads_good h l = record {
    key = rw (sym as_row.answer ∙ h, ← n, ← f) l;
    count = as_row.count;
    numbers = as_row.numbers;
    bytes = as_row.bytes;
  }

  pub reads_bad : said.good ≡ false → Reads table line lent room (record { key = 0; bytes = said.bytes }) lent' room'
  unfolding said_in key_in
  reads_bad h = record { key = rw (sym as_row.answer ∙ h); count = as_row.count; numbers = as_row.numbers; bytes = as_row.bytes }
