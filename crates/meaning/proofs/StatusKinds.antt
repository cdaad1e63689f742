-- What each status is, in plain numbers. Assumes nothing.
use Rattle.std.specs.Prelude.{Option, Some, None}
use Prim.Native.Nat.{ℕ, zero, suc, ◌+◌, ◌-◌, ◌^◌, ◌≤◌, ◌<◌}
use mathlib.Core.Bool.{Bool, true, false, not, ◌&&◌, false≢true, and-eq-true_iff, and-true, and-false, or-false}
use mathlib.Core.Logic.{◌↔◌}
use mathlib.Core.Path.{◌≡◌, refl, sym, ap, subst, ◌∙◌}
use native.Mathlib.Nat.{div-le_self}
use native.Mathlib.Omega.{arith}
use lib.Dec.{leb, eqb}
use borrow.Author.Tests.{leb-true, le-leb, lt-leb, eq-eqb, eqb-true, eqb-false, not-true}
use Rattle.facts.specs.Tables.{tabulate}
use Rattle.facts.proofs.Tests.{by_le}
use Rattle.meaning.specs.declared.status.StatusCodes.{StatusCodes}
use Rattle.meaning.specs.Statuses.{DEFAULT-CODES, bit_of, code_operational, operational, unknown}
use Rattle.meaning.specs.StatusKinds.{Reported, reported, MaySend, always, configured, NotKnown, unconfigured, operational_by_default, OneOfThree, zero_status, one_to_seven, made_operational, left_unknown, AllRight, settings}

-- ---- the sixteen under every setting, and those above
pub code_low : (codes : StatusCodes) (n : ℕ) → n < 8 → code_operational codes n ≡ leb 1 n
unfolding code_operational
code_low codes n h = rw (le-leb n 7 (omega arith), lt-leb 8 n h, and-true (leb 1 n), or-false (leb 1 n))

pub code_configured : (codes : StatusCodes) (place : ℕ) → place < 8 → code_operational codes (8 + place) ≡ eqb (bit_of codes place) 1
unfolding code_operational
code_configured codes place h =
    let back : 8 + place - 8 ≡ place = omega arith in
    rw (lt-leb (8 + place) 7 (omega arith), and-false (leb 1 (8 + place)), le-leb 8 (8 + place) (omega arith), le-leb (8 + place) 15 (omega arith), back)

pub code_high : (codes : StatusCodes) (n : ℕ) → 15 < n → code_operational codes n ≡ false
unfolding code_operational
code_high codes n h = rw (lt-leb n 7 (omega arith), and-false (leb 1 n), lt-leb n 15 h, and-false (leb 8 n))

-- 1 to 7, and of 8 to 15 those whose bit is 1; one that is not reported never
pub operational_exactly : (codes : StatusCodes) (status : Option ℕ) → (operational codes status ≡ true) ↔ MaySend codes.0 status
operational_exactly codes status = (only status, then status)
  where
    only : (s : Option ℕ) → operational codes s ≡ true → MaySend codes.0 s
    only None e = absurd (false≢true e)
    only (Some n) e =
        by_le n 7 (λ low. always (leb-true 1 n (sym (code_low codes n (omega arith)) ∙ e)) low)
        (λ above.
        by_le n 15
        (λ low.
        let same : 8 + (n - 8) ≡ n = omega arith in
        let bit : bit_of codes (n - 8) ≡ 1 = eqb-true _ _ (sym (code_configured codes (n - 8) (omega arith)) ∙ ap (code_operational codes) same ∙ e) in
        subst (λ (x : ℕ). MaySend codes.0 (Some x)) same (configured (omega arith) bit))
        (λ high. absurd (false≢true (sym (code_high codes n high) ∙ e))))

    then : (s : Option ℕ) → MaySend codes.0 s → operational codes s ≡ true
    then _ (always {status = n} h k) = code_low codes n (omega arith) ∙ le-leb 1 n h
    then _ (configured {place = n} h e) = code_configured codes n (omega arith) ∙ eq-eqb _ _ e

-- "the default is not": document 01's sentence
pub default_as_before : (status : Option ℕ) → operational DEFAULT-CODES status ≡ operational_by_default status
default_as_before None = refl
default_as_before (Some n) =
    by_le n 7 (λ low. code_low DEFAULT-CODES n (omega arith) ∙ rw (le-leb n 7 low) (sym (and-true (leb 1 n))))
    (λ above. by_le n 15 (λ low. none_configured low above) (λ high. code_high DEFAULT-CODES n high) ∙ rw (lt-leb n 7 above) (sym (and-false (leb 1 n))))
  where
    none_configured : n ≤ 15 → 7 < n → code_operational DEFAULT-CODES n ≡ false
    none_configured low above =
        let same : 8 + (n - 8) ≡ n = omega arith in
        let off : bit_of DEFAULT-CODES (n - 8) ≡ 0 = omega (arith, div-le_self 0 (2 ^ (n - 8))) in
        ap (code_operational DEFAULT-CODES) (sym same) ∙ code_configured DEFAULT-CODES (n - 8) (omega arith) ∙ rw off

-- ---- what is unknown
unknown_configured : (codes : StatusCodes) (place : ℕ) → place < 8 → unknown codes (Some (8 + place)) ≡ not (eqb (bit_of codes place) 1)
unknown_configured codes place h = rw (le-leb 8 (8 + place) (omega arith), le-leb (8 + place) 15 (omega arith), code_configured codes place h)

bit_off : (codes : StatusCodes) (place : ℕ) → eqb (bit_of codes place) 1 ≡ false → bit_of codes place ≡ 0
bit_off codes place e = by_le (bit_of codes place) 0 (λ low. omega arith) (λ above. absurd (eqb-false (bit_of codes place) 1 e (omega arith)))

module _ (codes : StatusCodes) where
  in_eight_to_fifteen : (n : ℕ) → unknown codes (Some n) ≡ true → (8 ≤ n) × ((n ≤ 15) × (code_operational codes n ≡ false))
  in_eight_to_fifteen n e =
      let least = (and-eq-true_iff (leb 8 n) (leb n 15 && not (code_operational codes n))).0 e in
      let most = (and-eq-true_iff (leb n 15) (not (code_operational codes n))).0 least.1 in
      (leb-true 8 n least.0, (leb-true n 15 most.0, not-true (code_operational codes n) most.1))

  -- of 8 to 15 those whose bit is 0, and no other
  pub unknown_exactly : (status : Option ℕ) → (unknown codes status ≡ true) ↔ NotKnown codes.0 status
  unknown_exactly status = (only status, then status)
    where
      only : (s : Option ℕ) → unknown codes s ≡ true → NotKnown codes.0 s
      only None e = absurd (false≢true e)
      only (Some n) e =
          let within = in_eight_to_fifteen n e in
          let least : 8 ≤ n = within.0 in
          let most : n ≤ 15 = within.1.0 in
          let same : 8 + (n - 8) ≡ n = omega arith in
          let off = bit_off codes (n - 8) (sym (code_configured codes (n - 8) (omega arith)) ∙ ap (code_operational codes) same ∙ within.1.1) in
          subst (λ (x : ℕ). NotKnown codes.0 (Some x)) same (unconfigured (omega arith) off)

      then : (s : Option ℕ) → NotKnown codes.0 s → unknown codes s ≡ true
      then _ (unconfigured {place = n} h e) = unknown_configured codes n (omega arith) ∙ rw e

  -- each of the sixteen is exactly one of 0, operational and unknown
  pub status_is_one : (status : ℕ) → status ≤ 15 → OneOfThree codes.0 status (operational codes (Some status)) (unknown codes (Some status))
  status_is_one status h = by_le status 7 (low status) above
    where
      low : (n : ℕ) → n ≤ 7 → OneOfThree codes.0 n (operational codes (Some n)) (unknown codes (Some n))
      low zero k = rw (code_low codes 0 (omega arith)) zero_status
      low (suc n) k =
          let some : 1 ≤ suc n = omega arith in
          rw (code_low codes (suc n) (omega arith), le-leb 1 (suc n) some, lt-leb 8 (suc n) (omega arith)) (one_to_seven some k)

      by_bit : (place : ℕ) → place < 8 → (t : Bool) → eqb (bit_of codes place) 1 ≡ t
          → OneOfThree codes.0 (8 + place) (operational codes (Some (8 + place))) (unknown codes (Some (8 + place)))
      by_bit place k true e =
          let most : place ≤ 7 = omega arith in
          rw (unknown_configured codes place k, code_configured codes place k, e) (made_operational most (eqb-true _ _ e))
      by_bit place k false e =
          let most : place ≤ 7 = omega arith in
          rw (unknown_configured codes place k, code_configured codes place k, e) (left_unknown most (bit_off codes place e))

      above : 7 < status → OneOfThree codes.0 status (operational codes (Some status)) (unknown codes (Some status))
      above k =
          let same : 8 + (status - 8) ≡ status = omega arith in
          subst (λ (n : ℕ). OneOfThree codes.0 n (operational codes (Some n)) (unknown codes (Some n))) same
          (by_bit (status - 8) (omega arith) (eqb (bit_of codes (status - 8)) 1) refl)

-- "8 to 15: unknown", all of them under the default, and no other
pub default_unknown : (status : Option ℕ) → (unknown DEFAULT-CODES status ≡ true) ↔ Reported 8 15 status
default_unknown status = (only status, then status)
  where
    only : (s : Option ℕ) → unknown DEFAULT-CODES s ≡ true → Reported 8 15 s
    only None e = absurd (false≢true e)
    only (Some n) e = let within = in_eight_to_fifteen DEFAULT-CODES n e in reported within.0 within.1.0

    then : (s : Option ℕ) → Reported 8 15 s → unknown DEFAULT-CODES s ≡ true
    then _ (reported {status = n} h k) = rw (le-leb 8 n h, le-leb n 15 k, default_as_before (Some n), lt-leb n 7 h, and-false (leb 1 n))

-- in literal numbers
pub settings_right : AllRight settings
unfolding code_operational tabulate
settings_right = search depth 20
