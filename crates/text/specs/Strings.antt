-- Byte strings as text.
use Rattle.std.specs.Prelude.{Bool, false, cond, List, [], ◌∷◌, ◌++◌, ℕ, ◌*◌, ◌/◌, leb, eqb, length, take, drop, Option, Some, None}
use Rattle.io.specs.Digits.{last_digits}
use Rattle.text.specs.Laying.{laid}
use Rattle.text.specs.Numbers.{follow_of, by_size}

-- the byte that a pair of hexadecimal digits stands for
abbrev pub byte_of : List ℕ → Option ℕ
byte_of pair = follow_of 16 255 0 pair

-- the pair by its index in a word
unfoldable pub pair_at : List ℕ → ℕ → Option ℕ
pair_at word i = byte_of (take 2 (drop (i * 2) word))

-- a byte before others, or none of them
abbrev pub before : Option ℕ → List ℕ → List ℕ
before None bytes = []
before (Some byte) bytes = byte ∷ bytes

-- the bytes that pairs stand for, up to the first pair that stands for none
unfoldable pub pairs_of : List ℕ → List ℕ
pairs_of [] = []
pairs_of (a ∷ []) = []
pairs_of (a ∷ (b ∷ word)) = before (byte_of (a ∷ (b ∷ []))) (pairs_of word)

-- whether a word stands for a byte string: `-` (45) does, and pairs that all stand for a byte
unfoldable pub readable_of : List ℕ → Bool
readable_of word = by_size false (λ a. eqb a 45) (eqb (length (pairs_of word) * 2) (length word)) word

-- the answer: how many bytes, where the word stands for some that have room in an output of n
unfoldable pub hexed_of : ℕ → List ℕ → Option ℕ
hexed_of size word =
    cond (readable_of word) (cond (leb (length word / 2) size) (Some (length word / 2)) None) None

-- the output: the bytes at its start, where the word stands for some that have room
unfoldable pub unhexed : List ℕ → List ℕ → List ℕ
unhexed out word = cond (readable_of word) (laid out 0 (pairs_of word)) out

-- bytes as pairs of digits
unfoldable pub pairs_text : List ℕ → List ℕ
pairs_text [] = []
pairs_text (byte ∷ bytes) = last_digits 16 2 byte ++ pairs_text bytes

-- a byte string as text: `-` (45) is the empty one
unfoldable pub bytes_text : List ℕ → List ℕ
bytes_text [] = 45 ∷ []
bytes_text (byte ∷ bytes) = pairs_text (byte ∷ bytes)
