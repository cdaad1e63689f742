-- Numbers of a line as words.
use Rattle.std.specs.Prelude.{List, ℕ, ◌+◌}
use Rattle.facts.specs.Tables.{tabulate}

-- so many numbers from a place on
unfoldable pub said_from : (ℕ → ℕ) → (from count : ℕ) → List ℕ
said_from n from count = tabulate count (λ place. n (from + place))
