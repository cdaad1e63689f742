-- The records of a file, one by one; the bound on their number shows in none of these laws. Assumes nothing.
use mathlib.Core.Path.{◌≡◌, refl, ap, ◌∙◌}
use mathlib.Core.Bool.{Bool, true, false, cond}
use mathlib.Core.List.{List, [], ◌∷◌, ◌++◌}
use Prim.Native.Nat.{ℕ, zero, suc, ◌+◌, ◌-◌, ◌≤◌, ◌<◌}
use native.Mathlib.Omega.{arith}
use borrow.Author.Tests.{lt-ltb, le-ltb, eq-eqb, ne_eqb, ltb-false}
use lib.Dec.{ltb, eqb}
use lib.ListN.{length, take, drop, length-take, length-drop, get_or-append}
use Rattle.quantity.specs.Refusals.{FILE-HEAD, RECORD}
use Rattle.records.specs.declared.Order.{Order}
use Rattle.records.specs.Heads.{pair_at, number_at, captured_in, original_in, order_of}
use Rattle.records.specs.Unread.{LONGEST}
use Rattle.records.specs.Files.{Report, kept, refused, First, none, broken, whole, first_of, report_first, records_with, records_of, report_by, reports_of}

-- ---- numbers don't look behind themselves

module _ (big : Bool) (n : ℕ) (bytes coming : List ℕ) where
  pub pair_front : n + 2 ≤ length bytes → pair_at big n (bytes ++ coming) ≡ pair_at big n bytes
  unfolding pair_at
  pair_front h = rw (get_or-append bytes coming 0 n (omega arith), get_or-append bytes coming 0 (n + 1) (omega arith))

pub number_front : (big : Bool) (n : ℕ) (bytes coming : List ℕ) → n + 4 ≤ length bytes → number_at big n (bytes ++ coming) ≡ number_at big n bytes
unfolding number_at
number_front big n bytes coming h = rw (pair_front big n bytes coming (omega arith), pair_front big (n + 2) bytes coming (omega arith))

-- ---- the first record

module _ (big : Bool) (bytes : List ℕ) where
  first_none : length bytes ≡ 0 → first_of big bytes ≡ none
  unfolding first_of
  first_none h = simp (eq-eqb (length bytes) 0 h)

  pub first_head : 0 < length bytes → length bytes < 16 → first_of big bytes ≡ broken
  unfolding first_of
  first_head o h = simp (ne_eqb (length bytes) 0 (λ e. omega arith), lt-ltb (length bytes) 16 h)

  pub first_long : 16 ≤ length bytes → LONGEST < captured_in big bytes → first_of big bytes ≡ broken
  unfolding first_of
  first_long h g = simp (ne_eqb (length bytes) 0 (λ e. omega arith), le-ltb (length bytes) 16 h, lt-ltb LONGEST (captured_in big bytes) g)

  pub first_cut : 16 ≤ length bytes → length bytes - 16 < captured_in big bytes → first_of big bytes ≡ broken
  unfolding first_of
  first_cut h g =
      simp (ne_eqb (length bytes) 0 (λ e. omega arith), le-ltb (length bytes) 16 h, lt-ltb (length bytes - 16) (captured_in big bytes) g)
      (go (ltb LONGEST (captured_in big bytes)))
    where
      go : (b : Bool) → cond b broken broken ≡ broken
      go true = refl
      go false = refl

  pub first_whole : 16 + captured_in big bytes ≤ length bytes → captured_in big bytes ≤ LONGEST → first_of big bytes ≡ whole (captured_in big bytes) (original_in big bytes)
  unfolding first_of
  first_whole h g =
      let a : 16 ≤ length bytes = omega arith in
      let b : captured_in big bytes ≤ length bytes - 16 = omega arith in
      simp (ne_eqb (length bytes) 0 (λ e. omega arith), le-ltb (length bytes) 16 a, le-ltb LONGEST (captured_in big bytes) g, le-ltb (length bytes - 16) (captured_in big bytes) b)

  -- a whole record lies within the bytes, and is not too long
  pub record Fits (captured : ℕ) : Type 0 where
    pub inside : 16 + captured ≤ length bytes
    pub short : captured ≤ LONGEST

  pub first_fits : (captured original : ℕ) → first_of big bytes ≡ whole captured original → Fits captured
  unfolding first_of
  first_fits captured original e =
      go (eqb (length bytes) 0) (ltb (length bytes) 16) refl (ltb LONGEST (captured_in big bytes)) refl (ltb (length bytes - 16) (captured_in big bytes)) refl e
    where
      go : (a b : Bool) → ltb (length bytes) 16 ≡ b → (c : Bool) → ltb LONGEST (captured_in big bytes) ≡ c → (d : Bool) → ltb (length bytes - 16) (captured_in big bytes) ≡ d
          → cond a none (cond b broken (cond c broken (cond d broken (whole (captured_in big bytes) (original_in big bytes))))) ≡ whole captured original → Fits captured
      go true b p c q d r e' = let z : ◌≡◌ {A = ℕ} 0 1 = cc in absurd (omega arith)
      go false true p c q d r e' = let z : ◌≡◌ {A = ℕ} 0 1 = cc in absurd (omega arith)
      go false false p true q d r e' = let z : ◌≡◌ {A = ℕ} 0 1 = cc in absurd (omega arith)
      go false false p false q true r e' = let z : ◌≡◌ {A = ℕ} 0 1 = cc in absurd (omega arith)
      go false false p false q false r e' =
          let n : captured_in big bytes ≡ captured = cc in
          let a = ltb-false (length bytes) 16 p in
          let b = ltb-false LONGEST (captured_in big bytes) q in
          let c = ltb-false (length bytes - 16) (captured_in big bytes) r in
          record { inside = omega arith; short = omega arith }

-- ---- all records

module _ (big : Bool) where
  -- two ways to report what is shorter that agree there
  same_first : (bytes : List ℕ) (f g : List ℕ → List Report) → ((rest : List ℕ) → length rest < length bytes → f rest ≡ g rest)
      → report_first (first_of big bytes) bytes f ≡ report_first (first_of big bytes) bytes g
  same_first bytes f g agree = go (first_of big bytes) refl
    where
      go : (first : First) → first_of big bytes ≡ first → report_first first bytes f ≡ report_first first bytes g
      go none e = refl
      go broken e = refl
      go (whole captured original) e =
          let k = (first_fits big bytes captured original e).inside in
          ap (λ (l : List Report). kept original (take captured (drop 16 bytes)) ∷ l) (agree (drop (16 + captured) bytes) (rw length-drop (omega arith)))

  -- a bound of the length or more changes nothing
  enough : (k j : ℕ) (bytes : List ℕ) → length bytes ≤ k → length bytes ≤ j → records_with k big bytes ≡ records_with j big bytes
  unfolding records_with
  enough zero zero bytes h g = refl
  enough zero (suc j) bytes h g = let e : length bytes ≡ 0 = omega arith in rw (first_none big bytes e)
  enough (suc k) zero bytes h g = let e : length bytes ≡ 0 = omega arith in rw (first_none big bytes e)
  enough (suc k) (suc j) bytes h g = same_first bytes (records_with k big) (records_with j big) (λ rest l. enough k j rest (omega arith) (omega arith))

  -- the unfolding, with no bound
  pub records_first : (bytes : List ℕ) → records_of big bytes ≡ report_first (first_of big bytes) bytes (records_of big)
  unfolding records_of records_with
  records_first bytes =
      enough (length bytes) (suc (length bytes)) bytes (omega arith) (omega arith)
      ∙ same_first bytes (records_with (length bytes) big) (records_of big) (λ rest l. enough (length bytes) (length rest) rest (omega arith) (omega arith))

  pub records_none : (bytes : List ℕ) → length bytes ≡ 0 → records_of big bytes ≡ []
  records_none bytes h = records_first bytes ∙ rw (first_none big bytes h)

  pub records_broken : (bytes : List ℕ) → first_of big bytes ≡ broken → records_of big bytes ≡ refused RECORD ∷ []
  records_broken bytes e = records_first bytes ∙ rw e

  pub records_whole : (bytes : List ℕ) (captured original : ℕ) → first_of big bytes ≡ whole captured original
      → records_of big bytes ≡ kept original (take captured (drop 16 bytes)) ∷ records_of big (drop (16 + captured) bytes)
  records_whole bytes captured original e = records_first bytes ∙ rw e

-- ---- no record is over 65,536 bytes

abbrev pub Short : List Report → Type 0
Short [] = Unit {0}
Short (kept original bytes ∷ reports) = (length bytes ≤ LONGEST) × Short reports
Short (refused number ∷ reports) = Short reports

with_short : (k : ℕ) (big : Bool) (bytes : List ℕ) → Short (records_with k big bytes)
unfolding records_with
with_short zero big bytes = tt
with_short (suc k) big bytes = go (with_short k big) (first_of big bytes) refl
  where
    go : ((rest : List ℕ) → Short (records_with k big rest)) → (first : First) → first_of big bytes ≡ first → Short (report_first first bytes (records_with k big))
    go f none e = tt
    go f broken e = tt
    go f (whole captured original) e = (simp length-take (omega (arith, (first_fits big bytes captured original e).short)), f (drop (16 + captured) bytes))

pub file_short : (file : List ℕ) → Short (reports_of file)
unfolding reports_of records_of
file_short file = go (ltb (length file) 24) (order_of (take 24 file))
  where
    rest : List ℕ
    rest = drop 24 file

    go : (b : Bool) (order : Order) → Short (cond b (refused FILE-HEAD ∷ []) (report_by order (drop 24 file)))
    go true order = tt
    go false Order.Bad = tt
    go false Order.Little = with_short (length rest) false rest
    go false Order.Big = with_short (length rest) true rest
