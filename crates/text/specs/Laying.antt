-- Texts laid into an output.
use Rattle.std.specs.Prelude.{◌≡◌, cond, List, [], ◌∷◌, ◌++◌, ℕ, zero, suc, ◌+◌, ◌/◌, ◌%◌, ◌≤◌, ltb, leb, ℤ, nat_abs, length, take, drop}
use Rattle.std.specs.Int.Signed.{non_neg}
use Rattle.io.specs.Digits.{hex_digit_ascii}

-- an output with a text laid at a cursor, where the text has room
unfoldable pub laid : List ℕ → ℕ → List ℕ → List ℕ
laid out at text = cond (leb (at + length text) (length out)) (take at out ++ text ++ drop (at + length text) out) out

-- the cursor behind a text of n bytes, where it has room in an output of m
unfoldable pub behind : ℕ → ℕ → ℕ → ℕ
behind size at n = cond (leb (at + n) size) (at + n) at

-- a text is laid at a cursor, and the cursor behind it is given
pub record Lays (out : List ℕ) (at : ℕ) (text : List ℕ) (r : ℕ) (out' : List ℕ) : Type 0 where
  pub cursor : r ≡ behind (length out) at (length text)
  pub bytes : out' ≡ laid out at text

-- a text has room at the start of an output and stands there, and the rest is as it was
pub record Wrote (out : List ℕ) (text : List ℕ) (r : ℕ) (out' : List ℕ) : Type 0 where
  pub room : length text ≤ length out
  pub count : r ≡ length text
  pub bytes : out' ≡ text ++ drop (length text) out

-- the last decimal digits of a number, at most n and no needless leading zero
unfoldable pub last_digits_lem : ℕ → ℕ → List ℕ
last_digits_lem zero n = []
last_digits_lem (suc k) n = cond (ltb n 10) [] (last_digits_lem k (n / 10)) ++ (hex_digit_ascii (n % 10) ∷ [])

-- a number in decimal; one of 64 bits has at most 20 digits
unfoldable pub decimal_text : ℕ → List ℕ
decimal_text n = last_digits_lem 20 n

-- a whole number in decimal: its size, behind `-` (45) where it is negative
unfoldable pub signed_text : ℤ → List ℕ
signed_text z = cond (non_neg z) (decimal_text (nat_abs z)) (45 ∷ decimal_text (nat_abs z))
