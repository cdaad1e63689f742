-- Each count of a capture is the smaller of 2^64 - 1 and what its records amount to; and how those amounts belong together. Assumes nothing.
use mathlib.Core.Path.{◌≡◌, refl, sym, ap, ◌∙◌}
use mathlib.Core.Bool.{Bool, true, false, cond}
use mathlib.Core.List.{List, [], ◌∷◌}
use Prim.Native.Nat.{ℕ, zero, suc, ◌+◌, ◌≤◌, ◌<◌, min}
use native.Mathlib.Omega.{arith}
use borrow.Author.Tests.{eq-eqb, ne_eqb, leb-true, leb-false}
use lib.Dec.{eqb, leb}
use lib.ListN.{length, get_or, replicate, length-replicate, get_or-replicate}
use Rattle.quantity.specs.declared.count.DatalinkId.{DatalinkId}
use Rattle.meaning.specs.declared.message.End.{End}
use Rattle.records.specs.Files.{Report, kept, reports_of, closed, Turns}
use Rattle.records.specs.Unread.{ROOM, start_of}
use Rattle.records.proofs.Whole.{every_record}
use Rattle.records.specs.Files as files
use Rattle.records.proofs.Files.{Short, file_short}
use Rattle.ethernet.specs.declared.Ports.{Ports}
use Rattle.census.specs.Adding.{MOST, plus, add_all}
use Rattle.census.specs.Outcomes.{refused, control, carried, astray, Outcome, skipped, message}
use Rattle.census.specs.Places.{PLACES, adds_of}
use Rattle.census.specs.Counts.{one, is_accepted, Count, all, skips, messages, refusals, packets, bytes, windows, place_of, amount_of, Counted, outcomes_of, having, total_of, refused_up_to, count_all}
use Rattle.census.proofs.Turns.{add_length}
use Rattle.census.proofs.Amounts.{amount_in, plus_plus, added, Fair, counted}
use Rattle.census.proofs.Readings.{outcome_fair, never_long}

-- ---- sums

abbrev AllFair : List Outcome → Type 0
AllFair [] = Unit {0}
AllFair (outcome ∷ outcomes) = Fair outcome × AllFair outcomes

module _ (f g : Outcome → ℕ) where
  total_same : ((outcome : Outcome) → Fair outcome → f outcome ≡ g outcome) → (outcomes : List Outcome) → AllFair outcomes → total_of f outcomes ≡ total_of g outcomes
  unfolding total_of
  total_same e [] k = refl
  total_same e (outcome ∷ outcomes) k = rw (e outcome k.0, total_same e outcomes k.1)

  total_both : (outcomes : List Outcome) → total_of (λ outcome. f outcome + g outcome) outcomes ≡ total_of f outcomes + total_of g outcomes
  unfolding total_of
  total_both [] = refl
  total_both (outcome ∷ outcomes) = rw (total_both outcomes) (omega arith)

-- of a property, the total is how many have it
pub how_many : (p : Outcome → Bool) (outcomes : List Outcome) → total_of (λ outcome. one (p outcome)) outcomes ≡ length (having p outcomes)
unfolding total_of
how_many p [] = refl
how_many p (outcome ∷ outcomes) = go (p outcome) (how_many p outcomes)
  where
    go : (b : Bool) → total_of (λ o. one (p o)) outcomes ≡ length (having p outcomes)
        → one b + total_of (λ o. one (p o)) outcomes ≡ length (cond b (outcome ∷ having p outcomes) (having p outcomes))
    go true e = rw e (omega arith)
    go false e = rw e (omega arith)

-- ---- the counts

tallied : (outcomes : List Outcome) (counts : List ℕ) (place : ℕ) → place < length counts → get_or counts place 0 ≤ MOST
    → get_or (count_all outcomes counts) place 0 ≡ plus (get_or counts place 0) (total_of (λ outcome. amount_in place (adds_of outcome)) outcomes)
unfolding count_all total_of
tallied [] counts place h m = omega arith
tallied (outcome ∷ outcomes) counts place h m =
    let step = added (adds_of outcome) counts place h m in
    tallied outcomes (add_all (adds_of outcome) counts) place (rw (add_length (adds_of outcome) counts) h) (rw step (omega arith))
    ∙ rw step (plus_plus (get_or counts place 0) (amount_in place (adds_of outcome)) (total_of (λ o. amount_in place (adds_of o)) outcomes))

place_inside : (count : Count) → Counted count → place_of count < PLACES
place_inside all k = omega arith
place_inside skips k = omega arith
place_inside (messages End.Ips) k = omega arith
place_inside (messages End.Radio) k = omega arith
place_inside (refusals number) k = omega arith
place_inside (packets channel) k = omega arith
place_inside (bytes channel) k = omega arith
place_inside (windows channel) k = omega arith

module _ (ports : Ports) (id : DatalinkId) where
  outcomes_fair : (reports : List Report) → AllFair (outcomes_of ports id reports)
  unfolding outcomes_of
  outcomes_fair [] = tt
  outcomes_fair (kept original frame ∷ reports) = (outcome_fair ports id original frame, outcomes_fair reports)
  outcomes_fair (files.refused number ∷ reports) = outcomes_fair reports

  -- "exact counts": of what is reported of a capture, from zeros on
  pub every_count : (reports : List Report) (count : Count) → Counted count
      → get_or (count_all (outcomes_of ports id reports) (replicate PLACES 0)) (place_of count) 0 ≡ min MOST (total_of (amount_of count) (outcomes_of ports id reports))
  every_count reports count k =
      let outcomes : List Outcome = outcomes_of ports id reports in
      let zeros : List ℕ = replicate PLACES 0 in
      let inside : place_of count < length zeros = rw (length-replicate {A = ℕ} PLACES 0) (place_inside count k) in
      let zero-there : get_or zeros (place_of count) 0 ≡ 0 = get_or-replicate {A = ℕ} PLACES (place_of count) 0 0 (place_inside count k) in
      tallied outcomes zeros (place_of count) inside (rw zero-there (omega arith))
      ∙ rw (zero-there, total_same (λ outcome. amount_in (place_of count) (adds_of outcome)) (amount_of count) (counted count k) outcomes (outcomes_fair reports)) (omega arith)

  -- ---- the same of a file that comes in whatever pieces, or whose reading fails, each record found being counted

  pub whole_count : {failed : Bool} (buffer file : List ℕ) (reports : List Report) → ROOM ≤ length buffer → Turns failed buffer start_of file reports → (count : Count) → Counted count
      → get_or (count_all (outcomes_of ports id reports) (replicate PLACES 0)) (place_of count) 0
      ≡ min MOST (total_of (amount_of count) (outcomes_of ports id (closed failed (reports_of file))))
  whole_count buffer file reports room turns count k =
      every_count reports count k
      ∙ ap (λ (r : List Report). min MOST (total_of (amount_of count) (outcomes_of ports id r))) (every_record buffer file reports room turns)

  -- ---- how the amounts belong together

  pub records_sum : (reports : List Report) → let outcomes = outcomes_of ports id reports in
      total_of (amount_of all) outcomes ≡ total_of (amount_of skips) outcomes + (total_of (amount_of (messages End.Ips)) outcomes + total_of (amount_of (messages End.Radio)) outcomes)
  records_sum reports =
      let outcomes : List Outcome = outcomes_of ports id reports in
      total_same (amount_of all) (λ o. amount_of skips o + (amount_of (messages End.Ips) o + amount_of (messages End.Radio) o)) each outcomes (outcomes_fair reports)
      ∙ total_both (amount_of skips) (λ o. amount_of (messages End.Ips) o + amount_of (messages End.Radio) o) outcomes
      ∙ ap (λ (n : ℕ). total_of (amount_of skips) outcomes + n) (total_both (amount_of (messages End.Ips)) (amount_of (messages End.Radio)) outcomes)
    where
      each : (outcome : Outcome) → Fair outcome → amount_of all outcome ≡ amount_of skips outcome + (amount_of (messages End.Ips) outcome + amount_of (messages End.Radio) outcome)
      each skipped f = refl
      each (message End.Ips reading) f = refl
      each (message End.Radio reading) f = refl

-- all refusals of a record up to a number
refused_in : ℕ → Outcome → ℕ
refused_in zero outcome = 0
refused_in (suc number) outcome = refused_in number outcome + amount_of (refusals (suc number)) outcome

refused_total : (number : ℕ) (outcomes : List Outcome) → refused_up_to number outcomes ≡ total_of (refused_in number) outcomes
unfolding refused_in total_of
refused_total zero outcomes = sym (zeros outcomes)
  where
    zeros : (l : List Outcome) → total_of (λ o. 0) l ≡ 0
    zeros [] = refl
    zeros (o ∷ l) = rw (zeros l)
refused_total (suc number) outcomes =
    rw (refused_total number outcomes) (sym (total_both (refused_in number) (amount_of (refusals (suc number))) outcomes))

-- a refusal is counted by its own number alone
module _ (end : End) (given : ℕ) where
  refused_below : (number : ℕ) → number < given → refused_in number (message end (refused given)) ≡ 0
  unfolding refused_in
  refused_below zero h = refl
  refused_below (suc number) h = rw (refused_below number (omega arith), ne_eqb given (suc number) (λ e. omega arith))

  refused_once : (number : ℕ) → 1 ≤ given → given ≤ number → refused_in number (message end (refused given)) ≡ 1
  unfolding refused_in
  refused_once zero l h = absurd (omega arith)
  refused_once (suc number) l h = go (refused_once number l) (leb given number) refl
    where
      go : (given ≤ number → refused_in number (message end (refused given)) ≡ 1) → (b : Bool) → leb given number ≡ b
          → refused_in number (message end (refused given)) + one (eqb given (suc number)) ≡ 1
      go f true e = let k = leb-true given number e in rw (f k, ne_eqb given (suc number) (λ q. omega arith))
      go f false e = let k = leb-false given number e in rw (refused_below number k, eq-eqb given (suc number) (omega arith))

refused_none : (number : ℕ) (outcome : Outcome) → ((n : ℕ) → amount_of (refusals n) outcome ≡ 0) → refused_in number outcome ≡ 0
unfolding refused_in
refused_none zero outcome e = refl
refused_none (suc number) outcome e = rw (refused_none number outcome e, e (suc number))

-- a message is accepted, or refused by one number
each_message : (outcome : Outcome) → Fair outcome
    → amount_of (messages End.Ips) outcome + amount_of (messages End.Radio) outcome ≡ one (is_accepted outcome) + refused_in 11 outcome
each_message skipped f = rw (refused_none 11 skipped (λ n. refl))
each_message (message End.Ips (refused given)) f = rw (refused_once End.Ips given 11 f.0 f.1)
each_message (message End.Radio (refused given)) f = rw (refused_once End.Radio given 11 f.0 f.1)
each_message (message End.Ips (control stated)) f = rw (refused_none 11 (message End.Ips (control stated)) (λ n. refl))
each_message (message End.Radio (control stated)) f = rw (refused_none 11 (message End.Radio (control stated)) (λ n. refl))
each_message (message End.Ips (carried channel size)) f = rw (refused_none 11 (message End.Ips (carried channel size)) (λ n. refl))
each_message (message End.Radio (carried channel size)) f = rw (refused_none 11 (message End.Radio (carried channel size)) (λ n. refl))
each_message (message end astray) f = absurd f

module _ (ports : Ports) (id : DatalinkId) where
  pub messages_sum : (reports : List Report) → let outcomes = outcomes_of ports id reports in
      total_of (amount_of (messages End.Ips)) outcomes + total_of (amount_of (messages End.Radio)) outcomes ≡ total_of (λ outcome. one (is_accepted outcome)) outcomes + refused_up_to 11 outcomes
  messages_sum reports =
      let outcomes : List Outcome = outcomes_of ports id reports in
      sym (total_both (amount_of (messages End.Ips)) (amount_of (messages End.Radio)) outcomes)
      ∙ total_same (λ o. amount_of (messages End.Ips) o + amount_of (messages End.Radio) o) (λ o. one (is_accepted o) + refused_in 11 o) each_message outcomes (outcomes_fair ports id reports)
      ∙ total_both (λ o. one (is_accepted o)) (refused_in 11) outcomes
      ∙ ap (λ (n : ℕ). total_of (λ outcome. one (is_accepted outcome)) outcomes + n) (sym (refused_total 11 outcomes))

  -- "Number 1 can't occur in such a record"
  first_never : (reports : List Report) → Short reports → total_of (amount_of (refusals 1)) (outcomes_of ports id reports) ≡ 0
  unfolding outcomes_of total_of
  first_never [] k = refl
  first_never (kept original frame ∷ reports) k = rw (never_long ports id original frame k.0, first_never reports k.1)
  first_never (files.refused number ∷ reports) k = first_never reports k

  pub number_one_never : (file : List ℕ) → total_of (amount_of (refusals 1)) (outcomes_of ports id (reports_of file)) ≡ 0
  number_one_never file = first_never (reports_of file) (file_short file)
