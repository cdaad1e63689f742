-- The bounds of a command's numbers, read off its row. Assumes nothing.
use mathlib.Core.Bool.{true}
use mathlib.Core.Path.{◌≡◌}
use mathlib.Core.List.{List}
use Prim.Native.Nat.{ℕ, ◌≤◌}
use lib.ListN.{get_or}
use Rattle.line_rows.specs.Places.{row_of_key, is_number}
use Rattle.line_rows.proofs.Places.{within_number}
use Rattle.station_read.specs.Lines.{COMMANDS, numbers_in, Bounded}

-- a number with no list before it in the row
pub below : (key place : ℕ) {most : ℕ} {numbers : List ℕ} → is_number place most (row_of_key key COMMANDS) ≡ true → Bounded key numbers → get_or numbers place 0 ≤ most
below key place {most} {numbers} e k = within_number place most (row_of_key key COMMANDS) (numbers_in numbers) e k.within
