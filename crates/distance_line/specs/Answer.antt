-- Document 01, "Counting": "lines of sequence and window in decimal (0 to 4294967295, no needless leading zero, one space)", and
-- "for each line sequence, window and distance, or `bad`".
use Rattle.std.specs.Prelude.{cond, List, [], ◌∷◌, ◌++◌, ℕ, ◌*◌, ltb, length, Option, Some, None}
use Rattle.quantity.specs.declared.count.FlowSequence.{FlowSequence}
use Rattle.quantity.specs.declared.count.FlowWindow.{FlowWindow}
use Rattle.quantity.specs.Distance.{distance_of}
use Rattle.text.specs.Laying.{decimal_text, signed_text}
use Rattle.text.specs.Numbers.{parse_of}
use Rattle.text.specs.Words.{head_of, tail_of, word_of, beyond_of}

-- the largest number of 32 bits
abbrev pub MOST : ℕ
MOST = 4294967295

-- the longest part of a row: ten digits, and a space or a sign
abbrev pub PART : ℕ
PART = 11

-- the longest row
abbrev pub ROW : ℕ
ROW = 3 * PART

-- what two words and what stands behind them stand for
unfoldable pub pair_of : Option ℕ → Option ℕ → List ℕ → Option (FlowSequence × FlowWindow)
pair_of None window rest = None
pair_of (Some sequence) None rest = None
pair_of (Some sequence) (Some window) rest =
    cond (ltb 0 (length rest)) None (Some (record { 0 = sequence }, record { 0 = window }))

-- what a line stands for
unfoldable pub read_of : List ℕ → Option (FlowSequence × FlowWindow)
read_of line = pair_of (parse_of MOST (head_of line)) (parse_of MOST (word_of (tail_of line))) (beyond_of (tail_of line))

-- a number and a space
unfoldable pub spaced : ℕ → List ℕ
spaced n = decimal_text n ++ (32 ∷ [])

-- sequence, window and distance
unfoldable pub row_of : FlowSequence → FlowWindow → List ℕ
row_of sequence window = spaced sequence.0 ++ spaced window.0 ++ signed_text (distance_of sequence window)

-- the letters of `bad`
abbrev pub bad : List ℕ
bad = 98 ∷ (97 ∷ (100 ∷ []))

-- `bad`, or the row
abbrev pub text_of : Option (FlowSequence × FlowWindow) → List ℕ
text_of None = bad
text_of (Some (sequence, window)) = row_of sequence window

-- the answer to a line
unfoldable pub answer_of : List ℕ → List ℕ
answer_of line = text_of (read_of line)
