-- The laws of tables. Assumes nothing.
use Prim.Native.Nat.{ℕ, zero, suc, ◌<◌}
use mathlib.Core.Path.{◌≡◌, refl, sym, ap, ap₂, ◌∙◌}
use mathlib.Core.List.{List, [], ◌∷◌}
use mathlib.Core.Bool.{Bool, true, cond, ◌&&◌, and-eq-true_iff}
use native.Mathlib.Omega.{arith}
use lib.Dec.{eqb, eqb-zero-suc, eqb-suc-zero, eqb-suc-suc}
use lib.ListN.{length, get_or, set, replicate}
use Rattle.facts.specs.Tables.{tabulate}

module _ {A : Type 0} where
  pub length_tabulate : (size : ℕ) (f : ℕ → A) → length (tabulate size f) ≡ size
  unfolding tabulate
  length_tabulate zero f = refl
  length_tabulate (suc size) f = ap suc (length_tabulate size (λ n. f (suc n)))

  pub get_d_tabulate : (size : ℕ) (f : ℕ → A) (i : ℕ) (default : A) → i < size → get_or (tabulate size f) i default ≡ f i
  unfolding tabulate
  get_d_tabulate zero f i default h = absurd (omega arith)
  get_d_tabulate (suc size) f zero default h = refl
  get_d_tabulate (suc size) f (suc i) default h = get_d_tabulate size (λ k. f (suc k)) i default (omega arith)

  -- one place set: the function changed there
  pub set_tabulate : (size : ℕ) (f g : ℕ → A) (i : ℕ) (v : A) → ((k : ℕ) → cond (eqb k i) v (f k) ≡ g k) → set (tabulate size f) i v ≡ tabulate size g
  unfolding tabulate
  set_tabulate zero f g i v h = refl
  set_tabulate (suc size) f g zero v h =
      ap₂ (λ (x : A) (xs : List A). x ∷ xs) (h 0) (ap (tabulate size) (λ i k. (rw eqb-suc-zero at (h (suc k))) i))
  set_tabulate (suc size) f g (suc i) v h =
      ap₂ (λ (x : A) (xs : List A). x ∷ xs) (rw eqb-zero-suc at (h 0))
      (set_tabulate size (λ k. f (suc k)) (λ k. g (suc k)) i v (λ k. rw eqb-suc-suc at (h (suc k))))

  tabulate_one : (n : ℕ) (cell : A) → tabulate n (λ place. cell) ≡ replicate n cell
  unfolding tabulate
  tabulate_one zero cell = refl
  tabulate_one (suc n) cell = ap (λ cells. cell ∷ cells) (tabulate_one n cell)

  -- a table that says nothing; the number of its places stays a variable, so that no check writes them out
  pub tabulate_same : {n k : ℕ} (cell : A) → n ≡ k → tabulate k (λ place. cell) ≡ replicate n cell
  tabulate_same {n} cell e = ap (λ (k : ℕ). tabulate k (λ place. cell)) (sym e) ∙ tabulate_one n cell

  -- what holds of each place of a table, and of an absent one
  pub each_tabulated : (P : A → Type 0) (absent : A) → P absent → (size : ℕ) (f : ℕ → A) → ((n : ℕ) → P (f n)) → (n : ℕ) → P (get_or (tabulate size f) n absent)
  unfolding tabulate
  each_tabulated P absent p zero f h n = p
  each_tabulated P absent p (suc size) f h zero = h 0
  each_tabulated P absent p (suc size) f h (suc n) = each_tabulated P absent p size (λ k. f (suc k)) (λ k. h (suc k)) n

  -- a test on a list that is one on each place
  module _ (all : List A → Bool) (one : A → Bool) where
    -- holds of each place, where an absent one passes it
    pub each_place : (absent : A) → ((cell : A) (cells : List A) → all (cell ∷ cells) ≡ one cell && all cells)
        → one absent ≡ true → (cells : List A) → all cells ≡ true → (n : ℕ) → one (get_or cells n absent) ≡ true
    each_place absent each passes [] e n = passes
    each_place absent each passes (cell ∷ cells) e zero = ((and-eq-true_iff (one cell) (all cells)).0 (rw (each cell cells) at e)).0
    each_place absent each passes (cell ∷ cells) e (suc n) =
        each_place absent each passes cells ((and-eq-true_iff (one cell) (all cells)).0 (rw (each cell cells) at e)).1 n

    -- holds of a table by its places
    pub all_places : all [] ≡ true → ((cell : A) (cells : List A) → all (cell ∷ cells) ≡ one cell && all cells)
        → (size : ℕ) (f : ℕ → A) → ((n : ℕ) → one (f n) ≡ true) → all (tabulate size f) ≡ true
    unfolding tabulate
    all_places empty each zero f h = empty
    all_places empty each (suc size) f h = each (f 0) (tabulate size (λ n. f (suc n))) ∙ rw (h 0) (all_places empty each size (λ n. f (suc n)) (λ n. h (suc n)))
