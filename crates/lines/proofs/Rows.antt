-- What stands next at the end of an input, and the lines of one, in literal bytes, each computed. Assumes nothing.
use mathlib.Core.Path.{◌≡◌, refl}
use mathlib.Core.Bool.{Bool, true, false}
use mathlib.Core.List.{List, [], ◌∷◌}
use Prim.Native.Nat.{ℕ}
use Rattle.octets.specs.Bytes.{index_of, index_after, slice}
use Rattle.lines.specs.declared.Input.{Input}
use Rattle.lines.specs.declared.Found.{Found}
use Rattle.lines.specs.declared.Found.TheVariants.{End, Line, Over, Failed}
use Rattle.lines.specs.Unread.{tidy_of, line_of, last_of, found_of, next_of}
use Rattle.lines.specs.Reports.{lines_of, ended_of}

-- every argument has the answer that is said
abbrev pub Answers : {A B : Type 0} → (A → B) → List (A × B) → Type 0
Answers f [] = Unit {0}
Answers f (row ∷ rows) = (f row.0 ≡ row.1) × Answers f rows

-- nothing more comes: a read failed, or the input has ended
abbrev pub unread : Bool → ℕ → ℕ → Input
unread failed at have = record { at = at; have = have; over = false; ended = true; failed = failed }

-- and the start of the line was dropped
abbrev pub lost : Bool → ℕ → ℕ → Input
lost failed at have = record { at = at; have = have; over = true; ended = true; failed = failed }

-- "1", a newline and "2"; where a read failed, "2" is no line, and neither is one whose start was dropped
abbrev pub unfinished : List (Input × Found)
unfinished =
    (unread true 0 3, Line 0 1 (unread true 2 3))
    ∷ (unread true 2 3, Failed)
    ∷ (lost true 0 3, Over (unread true 2 3))
    ∷ (lost true 2 3, Failed)
    ∷ (unread false 0 3, Line 0 1 (unread false 2 3))
    ∷ (unread false 2 3, Line 2 3 (unread false 3 3))
    ∷ (unread false 3 3, End)
    ∷ (lost false 2 3, Over (unread false 3 3))
    ∷ []

-- "1" and a newline, the last byte that was read
abbrev pub finished : List (Input × Found)
finished =
    (unread true 0 2, Line 0 1 (unread true 2 2))
    ∷ (unread true 2 2, Failed)
    ∷ (unread false 0 2, Line 0 1 (unread false 2 2))
    ∷ (unread false 2 2, End)
    ∷ []

pub failed_next : Answers (next_of (49 ∷ 10 ∷ 50 ∷ [])) unfinished × Answers (next_of (49 ∷ 10 ∷ [])) finished
unfolding tidy_of line_of last_of found_of next_of index_of index_after slice
failed_next = ((refl, (refl, (refl, (refl, (refl, (refl, (refl, (refl, tt)))))))), (refl, (refl, (refl, (refl, tt)))))

-- the lines that ended, and all lines: they differ in what stands behind the last newline
pub ended_lines : Answers ended_of (
    ([], [])
    ∷ (49 ∷ [], [])
    ∷ (49 ∷ 10 ∷ [], (49 ∷ []) ∷ [])
    ∷ (10 ∷ 49 ∷ 50 ∷ 10 ∷ 51 ∷ [], [] ∷ (49 ∷ 50 ∷ []) ∷ [])
    ∷ [])
unfolding ended_of
ended_lines = (refl, (refl, (refl, (refl, tt))))

pub all_lines : Answers lines_of (
    ([], [])
    ∷ (49 ∷ [], (49 ∷ []) ∷ [])
    ∷ (49 ∷ 10 ∷ [], (49 ∷ []) ∷ [])
    ∷ (10 ∷ 49 ∷ 50 ∷ 10 ∷ 51 ∷ [], [] ∷ (49 ∷ 50 ∷ []) ∷ (51 ∷ []) ∷ [])
    ∷ [])
unfolding lines_of
all_lines = (refl, (refl, (refl, (refl, tt))))
