-- Source document 000, sections 3.1 and 3.2: a message's body is "a sequence of one or more CIRI options"; an option is an 8-bit Type, a 16-bit
-- Length, which "denotes the length in octets of the Option Data field (not including Type and Length)", and the Option Data.
use Rattle.std.specs.Prelude.{ℕ, zero, suc, ◌+◌, ◌-◌, ◌<◌, ◌^◌, ◌≡◌, List, [], ◌∷◌, ◌++◌, cond, length, get_or, take, drop, ltb, eqb, Option, Some, None}
use Rattle.wire.specs.Numbers.{big_endian, bytes_of}

-- the bytes of one option
unfoldable pub option_bytes : ℕ → List ℕ → List ℕ
option_bytes kind content = kind ∷ (bytes_of 2 (length content) ++ content)

-- the Length of the first option of a rest
abbrev pub length_at : List ℕ → ℕ
length_at rest = big_endian (take 2 (drop 1 rest))

-- the first option of a rest: cut off where "an option runs past the end, or its frame does", else its type and length
unfoldable pub frame_of : List ℕ → Option (ℕ × ℕ)
frame_of rest = cond (ltb (length rest) 3) None (cond (ltb (length rest - 3) (length_at rest)) None (Some (get_or rest 0 0, length_at rest)))

-- a body: nothing left; bytes that are no whole option; or an option's type and content, and what stands behind it
pub data Options : Type 0 where
  done : Options
  cut : List ℕ → Options
  option : (kind : ℕ) (content : List ℕ) → Options → Options

-- the bytes of a body
unfoldable pub bytes : Options → List ℕ
bytes done = []
bytes (cut rest) = rest
bytes (option kind content more) = option_bytes kind content ++ bytes more

-- what the first option of a rest makes of it, the rest behind it being cut by `f`
abbrev pub split_first : Option (ℕ × ℕ) → List ℕ → (List ℕ → Options) → Options
split_first None rest f = cut rest
split_first (Some (kind, size)) rest f = option kind (take size (drop 3 rest)) (f (drop (3 + size) rest))

-- the first argument is a bound on the number of options, which each have three bytes at least
unfoldable pub split_with : ℕ → List ℕ → Options
split_with zero rest = done
split_with (suc k) rest = cond (eqb (length rest) 0) done (split_first (frame_of rest) rest (split_with k))

-- a body, option by option
unfoldable pub split : List ℕ → Options
split rest = split_with (length rest) rest

-- every option is whole, and its length fits 16 bits
unfoldable pub WholeOptions : Options → Type 0
WholeOptions done = Unit {0}
WholeOptions (cut rest) = ⊥
WholeOptions (option kind content more) = (length content < 2 ^ 16) × WholeOptions more

-- `text` laid over the first bytes of an output; what stands behind them stays
abbrev pub over : List ℕ → List ℕ → List ℕ
over text out = text ++ drop (length text) out

-- a writer's outcome: its bytes over the first of the output, and their count as the answer
pub record Laid (text entry exit : List ℕ) (count : ℕ) : Type 0 where
  pub count_is : count ≡ length text
  pub bytes_are : exit ≡ over text entry
