-- Tables over the Channel IDs, and fields of a message, as they are filled from contents. Assumes nothing.
use Rattle.std.specs.Prelude.{Option, Some, None}
use Prim.Native.Nat.{ℕ, ◌<◌}
use mathlib.Core.Path.{◌≡◌, refl, ap, ◌∙◌}
use mathlib.Core.List.{List}
use mathlib.Core.Bool.{Bool, true, false, cond}
use lib.Dec.{eqb}
use lib.ListN.{get_or, set}
use Rattle.facts.specs.Tables.{tabulate}
use Rattle.facts.proofs.Tables.{get_d_tabulate, set_tabulate}
use Rattle.acceptance.proofs.Seats.{vacant}

-- a test that holds of what no content states, and of no other
pub vacant_is : (test : Option (List ℕ) → Bool) → test None ≡ true → ((content : List ℕ) → test (Some content) ≡ false) → (x : Option (List ℕ)) → test x ≡ vacant x
vacant_is test e h None = e
vacant_is test e h (Some content) = h content

module _ {A : Type 0} where
  -- a test of one place
  pub row_is : (test : A → Bool) (from : Option (List ℕ) → A) → test (from None) ≡ true → ((content : List ℕ) → test (from (Some content)) ≡ false)
      → (size : ℕ) (row : ℕ → Option (List ℕ)) (i : ℕ) (default : A) → i < size → test (get_or (tabulate size (λ n. from (row n))) i default) ≡ vacant (row i)
  row_is test from e h size row i default l = ap test (get_d_tabulate size (λ n. from (row n)) i default l) ∙ vacant_is (λ x. test (from x)) e h (row i)

  -- a content more at one place
  pub set_row : (size : ℕ) (from : Option (List ℕ) → A) (row : ℕ → Option (List ℕ)) (i : ℕ) (content : List ℕ)
      → set (tabulate size (λ n. from (row n))) i (from (Some content)) ≡ tabulate size (λ n. from (cond (eqb n i) (Some content) (row n)))
  set_row size from row i content = set_tabulate size (λ n. from (row n)) (λ n. from (cond (eqb n i) (Some content) (row n))) i (from (Some content)) (λ k. each (eqb k i) k)
    where
      each : (b : Bool) (k : ℕ) → cond b (from (Some content)) (from (row k)) ≡ from (cond b (Some content) (row k))
      each true k = refl
      each false k = refl
