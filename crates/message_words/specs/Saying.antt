-- Texts laid one behind another.
use Rattle.std.specs.Prelude.{◌≡◌, List, [], ◌∷◌, ℕ, length}
use Rattle.text.specs.Laying.{laid, behind}

-- an output with texts laid from a cursor on, each where it has room
unfoldable pub said : List ℕ → ℕ → List (List ℕ) → List ℕ
said out at [] = out
said out at (text ∷ texts) = said (laid out at text) (behind (length out) at (length text)) texts

-- the cursor behind them
unfoldable pub cursor_of : List ℕ → ℕ → List (List ℕ) → ℕ
cursor_of out at [] = at
cursor_of out at (text ∷ texts) = cursor_of (laid out at text) (behind (length out) at (length text)) texts

pub record Says (out : List ℕ) (at : ℕ) (texts : List (List ℕ)) (r : ℕ) (out' : List ℕ) : Type 0 where
  pub cursor : r ≡ cursor_of out at texts
  pub bytes : out' ≡ said out at texts
