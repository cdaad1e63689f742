-- The words of a configuration: the numbers of the channels laid behind the head. Assumes nothing.
use mathlib.Core.Bool.{Bool, true, false, cond}
use mathlib.Core.Path.{◌≡◌, refl}
use mathlib.Core.List.{List, [], ◌∷◌, ◌++◌}
use Prim.Native.Nat.{ℕ, ◌+◌, ◌*◌, ◌≤◌, ◌<◌}
use native.Mathlib.Omega.{arith}
use lib.Dec.{eqb}
use lib.ListN.{drop}
use lib.Seq.{paste}
use Rattle.line_rows.specs.Rows.{over}
use Rattle.ips_words_start.specs.Start.{CONFIGURATION-HEAD, CONFIGURATION-SLOT}
use Rattle.session_read.specs.Lines.{PLACES, StartFits}
use Rattle.session_read.specs.Start.{SAID-ID, SAID-COUNT, SAID-CHANNELS, memory_place, behind_keyword, pace_place, codes_place, hello_of, limit_of, codes_of, head_said, channels_said, configuration_from}
use Rattle.session_read.proofs.Laying.{laid_after}

-- a keyword and its numbers take no more places than that
behind_most : (n : ℕ → ℕ) (keyword numbers : ℕ) → behind_keyword n keyword numbers ≤ keyword + 1 + numbers
unfolding behind_keyword
behind_most n keyword numbers = go (eqb (n keyword) 1)
  where
    go : (t : Bool) → cond t (keyword + 1 + numbers) (keyword + 1) ≤ keyword + 1 + numbers
    go true = omega arith
    go false = omega arith

-- HELLO and LIMIT are within the numbers of a line, and MASK is behind them
pub pace_fits : {n : ℕ → ℕ} → StartFits n → pace_place n + 5 ≤ PLACES
unfolding pace_place
pace_fits {n} f = omega (arith, f.few, behind_most n (memory_place n) 1)

pub codes_fit : {n : ℕ → ℕ} → StartFits n → codes_place n + 1 < PLACES
unfolding codes_place
codes_fit {n} f = omega (arith, pace_fits f, behind_most n (pace_place n) 2)

-- ---- head and channels, one behind the other
pub configured : (n : ℕ → ℕ) (words : List ℕ) {headed words' : List ℕ} {hello limit codes : ℕ} → hello ≡ hello_of n → limit ≡ limit_of n → codes ≡ codes_of n
    → headed ≡ (n SAID-ID ∷ n SAID-COUNT ∷ hello ∷ limit ∷ codes ∷ []) ++ drop CONFIGURATION-HEAD words → words' ≡ paste headed CONFIGURATION-HEAD (channels_said n) (CONFIGURATION-SLOT * n SAID-COUNT)
    → words' ≡ over (configuration_from n) words
unfolding configuration_from
configured n words {headed} e f m g h = let head : headed ≡ over (head_said n) words = rw (e, f, m) at g in laid_after n (head_said n) words SAID-CHANNELS (CONFIGURATION-SLOT * n SAID-COUNT) refl head h
