-- What digits stand for.
use Rattle.std.specs.Prelude.{Bool, true, false, not, cond, ◌&&◌, List, [], ◌∷◌, ℕ, ◌+◌, ◌-◌, ◌*◌, ltb, leb, eqb, get_or, Option, Some, None}

-- a byte from one to another
abbrev pub within : ℕ → ℕ → ℕ → Bool
within from to byte = leb from byte && leb byte to

-- the digit that a byte stands for, `0` to `9` and `a` to `f`, or 16
unfoldable pub digit_of : ℕ → ℕ
digit_of byte = cond (within 48 57 byte) (byte - 48) (cond (within 97 102 byte) (byte - 97 + 10) 16)

-- a number with one digit more in a base, up to a bound
unfoldable pub step_of : ℕ → ℕ → ℕ → ℕ → Option ℕ
step_of base most value byte =
    cond (ltb (digit_of byte) base && leb (value * base + digit_of byte) most) (Some (value * base + digit_of byte)) None

-- a number that was read, handed on
abbrev pub and_then : Option ℕ → (ℕ → Option ℕ) → Option ℕ
and_then None f = None
and_then (Some value) f = f value

-- a number with digits more in a base, up to a bound
unfoldable pub follow_of : ℕ → ℕ → ℕ → List ℕ → Option ℕ
follow_of base most value [] = Some value
follow_of base most value (byte ∷ digits) = and_then (step_of base most value byte) (λ longer. follow_of base most longer digits)

-- by the size of a word: empty, one byte, more
unfoldable pub by_size : {A : Type 0} → A → (ℕ → A) → A → List ℕ → A
by_size none one more [] = none
by_size none one more (a ∷ []) = one a
by_size none one more (a ∷ (b ∷ word)) = more

-- whether a word isn't empty and has no needless leading zero
unfoldable pub plain_of : List ℕ → Bool
plain_of word = by_size false (λ a. true) (not (eqb (get_or word 0 0) 48)) word

-- the number up to a bound that a word stands for in decimal
unfoldable pub parse_of : ℕ → List ℕ → Option ℕ
parse_of most word = cond (plain_of word) (follow_of 10 most 0 word) None
