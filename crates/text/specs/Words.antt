-- The words of a line.
use Rattle.std.specs.Prelude.{List, ℕ, take, drop}
use Rattle.octets.specs.Bytes.{index_of}

-- a line up to its first space
unfoldable pub head_of : List ℕ → List ℕ
head_of line = take (index_of 32 line) line

-- a line from its first space on
unfoldable pub tail_of : List ℕ → List ℕ
tail_of line = drop (index_of 32 line) line

-- the next word of a rest that starts with a space
abbrev pub word_of : List ℕ → List ℕ
word_of rest = head_of (drop 1 rest)

-- the rest behind that word
abbrev pub beyond_of : List ℕ → List ℕ
beyond_of rest = tail_of (drop 1 rest)
