-- 19, 24, and the offers otherwise: each answer of a handful exactly when it is given; refused, it leaves everything; and any two outcomes coincide. Assumes nothing.
use Rattle.std.specs.Prelude.{Result, Ok, Err}
use Prim.Native.Nat.{ℕ, ◌+◌}
use mathlib.Core.Bool.{Bool, true, false, cond, ◌&&◌}
use mathlib.Core.List.{List, [], ◌∷◌}
use mathlib.Core.Logic.{inl, inr}
use mathlib.Core.Path.{◌≡◌, refl, sym, ap, ◌∙◌}
use native.Mathlib.Omega.{arith}
use borrow.Author.Tests.{leb-false, eqb-false}
use lib.Dec.{eqb, leb}
use lib.ListN.{length, replicate}
use Rattle.facts.proofs.Tests.{clash}
use Rattle.quantity.specs.declared.refusal.Refusal.{Refusal}
use Rattle.ips_state.specs.Memory.{world_fits}
use Rattle.endpoint.specs.Lent.{Lent, world_in}
use Rattle.handful.specs.Handful.{Handful, sum_of, is_handful, stands_for, HandedIn}
use Rattle.handful.proofs.Turning.{Even, even}
use Rattle.handful_laws.specs.Plain.{summed, Faulty, more_than_32, expiries_differ, lengths_differ, answers_differ, sum_differs, Proper, HandedExactly}

sum_is : (lengths : List ℕ) → sum_of lengths ≡ summed lengths
unfolding sum_of
sum_is [] = refl
sum_is (n ∷ lengths) = ap (λ (rest : ℕ). n + rest) (sum_is lengths)

-- a test that is not passed fails at its first or behind it
failing : {X : Type 0} (a b : Bool) → (a ≡ false → X) → (b ≡ false → X) → (a && b) ≡ false → X
failing true b f g e = g e
failing false b f g e = f refl

module _ (h : Handful) (answers : ℕ) where
  pub refused_faulty : is_handful h answers ≡ false → Faulty h answers
  unfolding is_handful
  refused_faulty =
      failing (leb (length h.channels) 32) _ (λ e. more_than_32 (leb-false (length h.channels) 32 e))
      (failing (eqb (length h.expiries) (length h.channels)) _ (λ e. expiries_differ (eqb-false _ _ e))
      (failing (eqb (length h.lengths) (length h.channels)) _ (λ e. lengths_differ (eqb-false _ _ e))
      (failing (eqb answers (length h.channels)) _ (λ e. answers_differ (eqb-false _ _ e))
      (λ e. sum_differs (rw (sum_is h.lengths) at (eqb-false (sum_of h.lengths) (length h.packets) e))))))

  pub passed_proper : is_handful h answers ≡ true → Proper h answers
  passed_proper e =
      let v : Even h answers = even h answers e in
      record {
        few = v.few;
        expiries_count = v.expiries;
        lengths_count = v.lengths;
        answers_count = v.answers_too;
        whole = sym (sum_is h.lengths) ∙ v.sum;
      }

  pub proper_faultless : Proper h answers → Faulty h answers → ⊥
  proper_faultless p (more_than_32 f) = omega (arith, p.few)
  proper_faultless p (expiries_differ f) = f p.expiries_count
  proper_faultless p (lengths_differ f) = f p.lengths_count
  proper_faultless p (answers_differ f) = f p.answers_count
  proper_faultless p (sum_differs f) = f p.whole

-- the two refusals are two
apart : {X : Type 0} → ◌≡◌ {A = Result (Unit {0}) Refusal} (Err (record { number = 24; place = 0 })) (Err (record { number = 19; place = 0 })) → X
apart e =
    let same : ◌≡◌ {A = Refusal} (record { number = 24; place = 0 }) (record { number = 19; place = 0 }) = cc in
    let z : ◌≡◌ {A = ℕ} 24 19 = ap (λ (r : Refusal). r.number) same in
    absurd (omega arith)

-- ---- EACH ANSWER, exactly when
module _ {h : Handful} {l l' : Lent} {answers answers' : List ℕ} {x : Result (Unit {0}) Refusal} (handed : HandedIn h l answers x l' answers') where
  pub handful_exactly : HandedExactly h l (length answers) x
  handful_exactly = go (world_fits (world_in l)) refl (is_handful h (length answers)) refl handed.answer_is
    where
      go : (fits : Bool) → world_fits (world_in l) ≡ fits → (is : Bool) → is_handful h (length answers) ≡ is
          → x ≡ cond fits (cond is (Ok tt) (Err (record { number = 24; place = 0 }))) (Err (record { number = 19; place = 0 }))
          → HandedExactly h l (length answers) x
      go false f is g e = record {
        nineteen = (λ u. f, λ u. e);
        twenty_four = (λ u. apart (sym u ∙ e), λ u. clash (sym f ∙ u.0));
        otherwise = (λ u. clash (cc), λ u. clash (sym f ∙ u.0));
        no_other = inl e;
      }
      go true f false g e = record {
        nineteen = (λ u. apart (sym e ∙ u), λ u. clash (sym u ∙ f));
        twenty_four = (λ u. (f, refused_faulty h (length answers) g), λ u. e);
        otherwise = (λ u. clash (cc), λ u. absurd (u.1 (refused_faulty h (length answers) g)));
        no_other = inr (inl e);
      }
      go true f true g e = record {
        nineteen = (λ u. clash (cc), λ u. clash (sym u ∙ f));
        twenty_four = (λ u. clash (cc), λ u. absurd (proper_faultless h (length answers) (passed_proper h (length answers) g) u.1));
        otherwise = (λ u. (f, proper_faultless h (length answers) (passed_proper h (length answers) g)), λ u. e);
        no_other = inr (inr e);
      }

-- so an accepted one has no fault
pub offered_tested : {h : Handful} {l l' : Lent} {answers answers' : List ℕ} → HandedIn h l answers (Ok tt) l' answers'
    → (world_fits (world_in l) ≡ true) × (is_handful h (length answers) ≡ true)
offered_tested {h} {l} {answers = answers} handed = go (world_fits (world_in l)) refl (is_handful h (length answers)) refl
  where
    go : (fits : Bool) → world_fits (world_in l) ≡ fits → (is : Bool) → is_handful h (length answers) ≡ is → (world_fits (world_in l) ≡ true) × (is_handful h (length answers) ≡ true)
    go true f true g = (f, g)
    go true f false g = clash (cc (rw (f, g) at handed.answer_is))
    go false f is g = clash (cc (rw f at handed.answer_is))

-- and a refused one has not passed both tests
module _ {h : Handful} {l l' : Lent} {answers answers' : List ℕ} {refusal : Refusal} (handed : HandedIn h l answers (Err refusal) l' answers') where
  not_passed : (world_fits (world_in l) && is_handful h (length answers)) ≡ false
  not_passed = go (world_fits (world_in l)) refl (is_handful h (length answers)) refl
    where
      go : (fits : Bool) → world_fits (world_in l) ≡ fits → (is : Bool) → is_handful h (length answers) ≡ is → (fits && is) ≡ false
      go true f true g = clash (cc (rw (f, g) at handed.answer_is))
      go true f false g = refl
      go false f is g = refl

  -- so it stands for no offer
  pub refused_stands_none : stands_for h (length answers) (world_in l) ≡ []
  refused_stands_none = rw not_passed

  -- ---- "with nothing taken": it leaves every word, the memory and the lent answers
  pub handful_keeps : (l' ≡ l) × (answers' ≡ answers)
  handful_keeps = (handed.lent_is ∙ rw not_passed, handed.answers_are ∙ rw not_passed)

-- ---- any two outcomes coincide
pub handful_one : {h : Handful} {l l' l'' : Lent} {answers answers' answers'' : List ℕ} {x y : Result (Unit {0}) Refusal} → HandedIn h l answers x l' answers' → HandedIn h l answers y l'' answers''
    → (x ≡ y) × (l' ≡ l'') × (answers' ≡ answers'')
handful_one a b = (a.answer_is ∙ sym b.answer_is, a.lent_is ∙ sym b.lent_is, a.answers_are ∙ sym b.answers_are)

-- ---- the borders, computed: packets of no bytes, so and so many; a sum of 2^64, which no empty buffer has; and three packets of 5 bytes with lists of another count
abbrev some : ℕ → Handful
some n = record { channels = replicate n 0; expiries = replicate n 1; lengths = replicate n 0; packets = []; time = 0 }

pub border_rows : (is_handful (some 0) 0 ≡ true) × (is_handful (some 1) 1 ≡ true) × (is_handful (some 32) 32 ≡ true) × (is_handful (some 33) 33 ≡ false)
    × (is_handful (some 3) 2 ≡ false) × (is_handful (some 3) 4 ≡ false)
    × (is_handful (record { channels = 0 ∷ 0 ∷ []; expiries = 1 ∷ 1 ∷ []; lengths = 18446744073709551615 ∷ 1 ∷ []; packets = []; time = 0 }) 2 ≡ false)
unfolding is_handful sum_of
border_rows = (refl, refl, refl, refl, refl, refl, refl)

abbrev three : (expiries lengths : List ℕ) → Handful
three expiries lengths = record { channels = 7 ∷ 9 ∷ 7 ∷ []; expiries = expiries; lengths = lengths; packets = 96 ∷ 11 ∷ 96 ∷ 13 ∷ 14 ∷ []; time = 50 }

pub count_rows : (is_handful (three (100 ∷ 200 ∷ 300 ∷ []) (2 ∷ 0 ∷ 3 ∷ [])) 3 ≡ true)
    × (is_handful (three (100 ∷ 200 ∷ []) (2 ∷ 0 ∷ 3 ∷ [])) 3 ≡ false) × (is_handful (three (100 ∷ 200 ∷ 300 ∷ 400 ∷ []) (2 ∷ 0 ∷ 3 ∷ [])) 3 ≡ false)
    × (is_handful (three (100 ∷ 200 ∷ 300 ∷ []) (2 ∷ 3 ∷ [])) 3 ≡ false) × (is_handful (three (100 ∷ 200 ∷ 300 ∷ []) (2 ∷ 0 ∷ 3 ∷ 0 ∷ [])) 3 ≡ false)
    × (is_handful (three (100 ∷ 200 ∷ 300 ∷ []) (2 ∷ 0 ∷ 2 ∷ [])) 3 ≡ false) × (is_handful (three (100 ∷ 200 ∷ 300 ∷ []) (2 ∷ 1 ∷ 3 ∷ [])) 3 ≡ false)
unfolding is_handful sum_of
count_rows = (refl, refl, refl, refl, refl, refl, refl)
