-- A line read by the table: its numbers are within their bounds, and ask for what the line does. Assumes nothing.
use mathlib.Core.Path.{◌≡◌, refl, sym, subst}
use mathlib.Core.List.{List, []}
use Prim.Native.Nat.{ℕ}
use native.Mathlib.Decide.{dec_le}
use native.Mathlib.Omega.{arith}
use lib.ListN.{length, get_or, replicate, length-replicate, get_or-replicate, get_or-eq_default}
use Rattle.line_rows.specs.declared.table.Told.{Told}
use Rattle.line_rows.specs.Rows.{over}
use Rattle.line_rows.specs.Tables.{shortened, items_behind, Reads}
use Rattle.line_rows.specs.Places.{keyed_of, row_of_key, written_out, Within}
use Rattle.line_rows.proofs.Places.{reads_within, reads_numbers}
use Rattle.session_read.specs.declared.asked.Asked.{Asked}
use Rattle.session_read.specs.declared.start.StartWords.{StartWords}
use Rattle.session_read.specs.Lines.{PLACES, CONFIGURATION-WORDS, COMMANDS, asked_by, start_by, words_by, numbers_in, said_by, key_by, asked_of, start_of, words_of, Asks, Bounded}

-- numbers that are all 0 before a line is read
abbrev blank : List ℕ
blank = replicate PLACES 0

blank_at : (i : ℕ) → get_or blank i 0 ≡ 0
blank_at i = elim (dec_le PLACES i) [
  | yes h ↦ let size : length blank ≡ PLACES = length-replicate {A = ℕ} PLACES 0 in get_or-eq_default blank 0 {n = i} (omega arith)
  | no h ↦ get_or-replicate PLACES i 0 0 (omega arith)
]

no_command : row_of_key 0 COMMANDS ≡ []
unfolding row_of_key keyed_of items_behind
no_command = refl

module _ (line : List ℕ) {given lent : List ℕ} {told : Told} {numbers lent' : List ℕ} (e : given ≡ shortened line) (k : Reads COMMANDS given blank lent told numbers lent') where
  read_as_lem : Reads COMMANDS (shortened line) blank lent told numbers lent'
  read_as_lem = rw e at k

  said_as_lem : numbers_in numbers ≡ numbers_in (said_by (length lent) line).numbers
  said_as_lem = reads_numbers read_as_lem refl blank_at

  pub read_bounded : Bounded told.key numbers
  read_bounded = record { within = subst (λ (n : ℕ → ℕ). Within (written_out 0 0 (row_of_key told.key COMMANDS) n) n) (sym said_as_lem) (reads_within read_as_lem refl no_command) }

  module _ {words' : List ℕ} {asked : Asked} {start : StartWords} where
    pub read_asks : asked ≡ asked_by told.key (numbers_in numbers) → start ≡ start_by told.key (numbers_in numbers) → words' ≡ over (words_by told.key (numbers_in numbers)) (replicate CONFIGURATION-WORDS 0)
        → Asks lent line (record { asked = asked; bytes = told.bytes; start = start }) words' lent'
    unfolding asked_of start_of words_of
    read_asks f g h =
        let key : told.key ≡ key_by (length lent) line = read_as_lem.key in
        record {
          asked = rw (said_as_lem, key) at f;
          count = read_as_lem.count;
          start = rw (said_as_lem, key) at g;
          words = rw (said_as_lem, key) at h;
          bytes = read_as_lem.bytes;
        }
