-- `all` over a range, said of the numbers in it; and an array made place by place. Assumes nothing.
use Prim.Native.Nat.{ℕ, zero, suc, ◌<◌, ◌≤◌, ◌+◌}
use mathlib.Core.Path.{◌≡◌, refl, sym, subst, ◌∙◌}
use mathlib.Core.Bool.{Bool, true, false}
use mathlib.Core.List.{List}
use mathlib.Core.Logic.{⊎_elim}
use native.Mathlib.Nat.{eq-or-lt_of_le}
use native.Mathlib.Omega.{arith}
use lib.ListN.{length, get_or}
use lib.Seq.{ext_get_or}
use denote.Param.Members.{Mut}
use Rattle.std.specs.declared.ops.Range.{Range}
use Rattle.std.specs.Array.{IsFromFnResult, IsFromFnResultFrom}
use Rattle.std.specs.Bool.{MatchBool}
use Rattle.std.specs.Fn.{Called}
use Rattle.std.specs.Iterator.{YieldsThen}
use Rattle.std.specs.List.{AllWithin, FoldsTo, HoldsAt, range_with_len}
use Rattle.std.specs.Option.{MatchOption}
use Rattle.std.specs.declared.option.Option.{Option}
use Rattle.std.proofs.iter.Yields.{nat_range_steps}
use Rattle.std.proofs.lemmas.Iterator.{YieldsList-from_range, cases_from_all}
use Rattle.std.proofs.lemmas.List.FromFn.{length-range_with_len, get_or-range_with_len}
use Rattle.facts.specs.Tables.{tabulate}
use Rattle.facts.proofs.Tables.{length_tabulate, get_d_tabulate}

module _ {F : Type 0} {g : Mut F (ℕ × Unit {0}) Bool} (test : ℕ → Bool) where
  -- what `all` answers over the numbers below n, by any other account of the test at each of them
  pub all_from_Range : {s : Range ℕ} (n : ℕ) (u : Range ℕ) (f : F) (r b : Bool)
      → (xs : List ℕ) × (o : Option ℕ) × (j : F) × YieldsThen nat_range_steps s xs o u × FoldsTo (λ p x q. Called g p (x, tt) true q) f xs j × MatchOption o (r ≡ true) (λ x. (r ≡ false) × ((h : F) × Called g j (x, tt) false h))
      → s ≡ record { start = 0; end = n } → ((x : ℕ) (a : Bool) (q : F) → Called g f (x, tt) a q → (q ≡ f) × (a ≡ test x))
      → (((k : ℕ) → k < n → test k ≡ true) → b ≡ true) → ((k : ℕ) → k < n → test k ≡ false → b ≡ false) → r ≡ b
  all_from_Range n u f r b ran over asks held failed = by r (cases_from_all u f r Yes No ran (YieldsList-from_range 0 n n over (omega arith)) (λ x q k. let h = asks x true q k in (h.0, sym h.1)) (λ x q k. sym (asks x false q k).1))
    where
      Yes : ℕ → Type 0
      Yes k = test k ≡ true

      No : ℕ → Type 0
      No k = test k ≡ false

      all : List ℕ
      all = range_with_len 0 n

      long : length all ≡ n
      long = length-range_with_len 0 n

      at : (k : ℕ) → k < n → get_or all k 0 ≡ k
      at k h = get_or-range_with_len 0 n k 0 h ∙ omega arith

      by : (a : Bool) → MatchBool a (AllWithin Yes all 0 (length all)) ((k : ℕ) × (k < length all) × HoldsAt No all k) → a ≡ b
      by true h = sym (held (λ k less. subst Yes (at k less) (h k 0 (omega arith) (omega (arith, long)))))
      by false h = sym (failed h.0 (omega (arith, long)) (subst No (at h.0 (omega (arith, long))) (h.2 0)))

-- ---- an array made place by place, by a closure that stays as it is
module _ {F A : Type 0} {g : Mut F (ℕ × Unit {0}) A} (f : ℕ → A) (absent : A) (h : F) (asks : (i : ℕ) (a : A) (q : F) → Called g h (i, tt) a q → (q ≡ h) × (a ≡ f i)) where
  made_each : (cells : List A) (n i : ℕ) (p : F) → p ≡ h → IsFromFnResultFrom g p cells i n → (k : ℕ) → i ≤ k → k < i + n → get_or cells k absent ≡ f k
  made_each cells zero i p same made k low less = absurd (omega arith)
  made_each cells (suc n) i p same made k low less =
      let asked = asks i made.1 made.0 (subst (λ c. Called g c (i, tt) made.1 made.0) same made.3) in
      ⊎_elim (λ (here : i ≡ k). rw (← here) (made.2.1 absent ∙ asked.1)) (λ (later : i < k). made_each cells n (i + 1) made.0 asked.0 made.4 k (omega arith) (omega arith)) (eq-or-lt_of_le low)

  pub made_table : (size : ℕ) (cells : List A) → IsFromFnResult g h cells size → cells ≡ tabulate size f
  made_table size cells made =
      ext_get_or absent cells (tabulate size f) (made.long ∙ sym (length_tabulate size f))
      (λ k less. let low : k < size = omega (arith, made.long) in made_each cells size 0 h refl made.each k (omega arith) (omega arith) ∙ sym (get_d_tabulate size f k absent low))
