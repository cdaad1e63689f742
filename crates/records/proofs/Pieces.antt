-- A file that is read in pieces, one record after another: what a reader's turns and a program's leave, and that what was reported is so of a file. Assumes nothing.
use mathlib.Core.Path.{◌≡◌, refl, sym, ap, ◌∙◌}
use mathlib.Core.Bool.{Bool, true, false, true≢false}
use mathlib.Core.List.{List, [], ◌∷◌, ◌++◌, append_assoc, append-nil}
use mathlib.Core.Logic.{◌⊎◌, inl, inr}
use Prim.Native.Nat.{ℕ, suc, ◌+◌, ◌≤◌}
use native.Mathlib.Numerals.{add-one}
use lib.ListN.{length}
use Rattle.facts.proofs.Tests.{clash}
use Rattle.octets.specs.Bytes.{slice}
use Rattle.quantity.specs.Refusals.{RECORD}
use Rattle.lines.specs.Unread.{tidy_of, kept_of}
use Rattle.records.specs.declared.Input.{Input}
use Rattle.records.specs.declared.Came.{Came}
use Rattle.records.specs.declared.Found.TheVariants as found
use Rattle.records.specs.Unread.{start_of, behind_of, bytes_in, next_of, Refilled}
use Rattle.records.specs.Files.{Report, kept, refused, Turns, ends, refuses, opens, finds, more}
use Rattle.records.specs.Reading.{Passed, here, opened, filled, MOST-TURNS, Comes, ending, finding, refusing, tiring, Run, begun, on, Ran, to_end, to_refusal, on_and_on, ReadFile, TurnedOut, in_record, in_records}
use Rattle.records.proofs.Ways as next
use Rattle.records.proofs.Ways.{Next, next_cases, next_inside}

-- ---- a reader's loop: the turns made so far

pub record Passing (lent : List ℕ) (start : Input) (buffer : List ℕ) (input : Input) (made : ℕ) : Type 0 where
  pub passed : Passed lent start made buffer input
  pub size : length buffer ≡ length lent

pub passing_start : (lent : List ℕ) (start : Input) → Passing lent start lent start 0
passing_start lent start = record { passed = here; size = refl }

module _ {lent buffer : List ℕ} {start input : Input} {made : ℕ} (k : Passing lent start buffer input made) where
  pub passing_tired : made ≡ MOST-TURNS → Comes lent start (Came.Refused RECORD) buffer
  passing_tired all = let passed : Passed lent start MOST-TURNS buffer input = rw (← all) k.passed in tiring passed

  pub passing_head : {rest : Input} → next_of buffer input ≡ found.Head rest → Passing lent start buffer rest (made + 1)
  passing_head e = rw (add-one made) (record { passed = opened k.passed e; size = k.size })

  pub passing_fill : {buffer' : List ℕ} {r : Input} → next_of buffer input ≡ found.More → Refilled buffer input r buffer' → length buffer' ≡ length buffer
      → Passing lent start buffer' r (made + 1)
  passing_fill e f s = rw (add-one made) (record { passed = filled k.passed e f s; size = s ∙ k.size })

-- a record that comes lies within the buffer
comes_inside : {lent buffer : List ℕ} {start rest : Input} {from to original : ℕ} → Comes lent start (Came.Record from to original rest) buffer
    → (from ≤ to) × (to ≤ length buffer)
comes_inside {buffer = buffer} (finding {input = input} k e) = next_inside buffer input e

pub came_inside : {lent buffer : List ℕ} {input rest : Input} {came : Came} {from to original : ℕ} → Comes lent input came buffer → came ≡ Came.Record from to original rest
    → (from ≤ to) × (to ≤ length buffer)
came_inside {lent} {buffer} {input} {rest} {came} {from} {to} {original} c e =
    let here : Comes lent input (Came.Record from to original rest) buffer = rw (← e) c in
    comes_inside here

-- ---- a program's loop, whatever it makes of the records: `whole s reports` is what it comes to from a state on

module _ {S R : Type 0} (whole : S → List Report → R) where
  -- so many records came, and from here on it comes to what it is to come to
  pub record Going (lent : List ℕ) (s₀ : S) (made : ℕ) (buffer : List ℕ) (input : Input) (s : S) : Type 0 where
    pub reports : List Report
    pub run : Run lent made buffer input reports
    pub same : (more : List Report) → whole s₀ (reports ++ more) ≡ whole s more
    pub size : length buffer ≡ length lent

  -- what it has come to
  pub record Gone (lent : List ℕ) (s₀ : S) (end : R) : Type 0 where
    pub reports : List Report
    pub ran : Ran lent reports
    pub same : end ≡ whole s₀ reports

  pub going_start : (lent : List ℕ) (s : S) → Going lent s 0 lent start_of s
  going_start lent s = record { reports = []; run = begun; same = λ more. refl; size = refl }

  module _ {lent buffer : List ℕ} {s₀ s : S} {made : ℕ} {input : Input} (k : Going lent s₀ made buffer input s) where
    all_same : whole s₀ k.reports ≡ whole s []
    all_same = sym (ap (whole s₀) (append-nil k.reports)) ∙ k.same []

    pub going_on : {buffer' : List ℕ} {from to original : ℕ} {rest : Input} {s' : S} → Comes buffer input (Came.Record from to original rest) buffer' → length buffer' ≡ length buffer
        → ((more : List Report) → whole s (kept original (slice from to buffer') ∷ more) ≡ whole s' more) → Going lent s₀ (suc made) buffer' rest s'
    going_on {buffer'} {from} {to} {original} c e step =
        record {
          reports = k.reports ++ kept original (slice from to buffer') ∷ [];
          run = on k.run c;
          same = λ more. ap (whole s₀) (append_assoc k.reports (kept original (slice from to buffer') ∷ []) more)
              ∙ k.same (kept original (slice from to buffer') ∷ more) ∙ step more;
          size = e ∙ k.size;
        }

    pub going_end : {buffer' : List ℕ} → Comes buffer input Came.End buffer' → Gone lent s₀ (whole s [])
    going_end c = record { reports = k.reports; ran = to_end k.run c; same = sym all_same }

    pub going_refused : {buffer' : List ℕ} {number : ℕ} → Comes buffer input (Came.Refused number) buffer' → Gone lent s₀ (whole s (refused number ∷ []))
    going_refused {buffer'} {number} c =
        record { reports = k.reports ++ refused number ∷ []; ran = to_refusal k.run c; same = sym (k.same (refused number ∷ [])) }

    pub going_tired : made ≡ MOST-TURNS → Gone lent s₀ (whole s [])
    going_tired e =
        let run : Run lent MOST-TURNS buffer input k.reports = rw (← e) k.run in
        record { reports = k.reports; ran = on_and_on run; same = sym all_same }

-- ---- what was reported is so of a file

-- at the end of the input nothing comes, and whether a read failed is known
abbrev Done : Bool → Input → List ℕ → Type 0
Done failed input coming = input.unread.ended ≡ true → (input.unread.failed ≡ failed) × (coming ≡ [])

record Reads (failed : Bool) (lent : List ℕ) (start : Input) (reports : List Report) : Type 0 where
  coming : List ℕ
  turns : Turns failed lent start coming reports
  done : Done failed start coming

module _ (buffer : List ℕ) (input : Input) where
  -- by the ways to find what stands next, where it isn't the end
  by_ways : {A : Type 0} → (next_of buffer input ≡ found.End → ⊥)
      → (Next input.opened input.big input.unread (bytes_in buffer input) (next_of buffer input) → A) → A
  unfolding next_of
  by_ways {A} n g = go (tidy_of (length buffer) input.unread) refl
    where
      go : (t : Bool) → tidy_of (length buffer) input.unread ≡ t → A
      go true t = g (next_cases buffer input t)
      go false t = absurd (n (rw t))

  -- more is asked for only where the input isn't at its end
  more_comes : next_of buffer input ≡ found.More → input.unread.ended ≡ false
  more_comes e = by_ways (λ z. clash (cc)) go
    where
      go : Next input.opened input.big input.unread (bytes_in buffer input) (next_of buffer input) → input.unread.ended ≡ false
      go (next.waits g l p) = g
      go (next.nothing g h o l p) = clash (cc)
      go (next.fails g h o l p) = clash (cc)
      go (next.breaks number f p) = clash (cc)
      go (next.opens big l f p) = clash (cc)
      go (next.finds captured original o l f p) = clash (cc)

  -- what is handed on leaves whether more comes
  stays : {failed : Bool} (n : ℕ) (big : Bool) {rest : Input} {coming : List ℕ} → rest ≡ behind_of input.unread n big → Done failed rest coming → Done failed input coming
  stays n big left d z =
      let g = d (ap (λ (i : Input). i.unread.ended) left ∙ z) in
      (sym (ap (λ (i : Input). i.unread.failed) left) ∙ g.0, g.1)

  head_done : {failed : Bool} {rest : Input} {coming : List ℕ} → next_of buffer input ≡ found.Head rest → Done failed rest coming → Done failed input coming
  head_done {failed} {rest} {coming} e d = by_ways (λ z. clash (cc)) go
    where
      go : Next input.opened input.big input.unread (bytes_in buffer input) (next_of buffer input) → Done failed input coming
      go (next.opens big l f p) = let left : rest ≡ behind_of input.unread 24 big = cc in stays 24 big left d
      go (next.waits g l p) = clash (cc)
      go (next.nothing g h o l p) = clash (cc)
      go (next.fails g h o l p) = clash (cc)
      go (next.breaks number f p) = clash (cc)
      go (next.finds captured original o l f p) = clash (cc)

  record_done : {failed : Bool} {from to original : ℕ} {rest : Input} {coming : List ℕ} → next_of buffer input ≡ found.Record from to original rest
      → Done failed rest coming → Done failed input coming
  record_done {failed} {from} {to} {original} {rest} {coming} e d = by_ways (λ z. clash (cc)) go
    where
      go : Next input.opened input.big input.unread (bytes_in buffer input) (next_of buffer input) → Done failed input coming
      go (next.finds captured o q l f p) =
          let left : rest ≡ behind_of input.unread (16 + captured) input.big = cc in
          stays (16 + captured) input.big left d
      go (next.waits g l p) = clash (cc)
      go (next.nothing g h o l p) = clash (cc)
      go (next.fails g h o l p) = clash (cc)
      go (next.breaks number f p) = clash (cc)
      go (next.opens big l f p) = clash (cc)

module _ {failed : Bool} where
  passed_back : {lent : List ℕ} {start : Input} {buffer : List ℕ} {input : Input} {n : ℕ} {reports : List Report} → Passed lent start n buffer input → Reads failed buffer input reports
      → Reads failed lent start reports
  passed_back here r = r
  passed_back (opened {buffer = buffer} {input = input} k e) r =
      passed_back k (record { coming = r.coming; turns = opens e r.turns; done = head_done buffer input e r.done })
  passed_back (filled {buffer = buffer} {buffer' = buffer'} {input = input} {r = now'} k e f s) r =
      passed_back k
      (record {
        coming = slice (length (kept_of buffer input.unread)) now'.unread.have buffer' ++ r.coming;
        turns = more e f s refl r.done r.turns;
        done = λ z. absurd (true≢false (sym z ∙ more_comes buffer input e));
      })

  record_back : {lent buffer : List ℕ} {start rest : Input} {from to original : ℕ} {reports : List Report} → Comes lent start (Came.Record from to original rest) buffer
      → Reads failed buffer rest reports → Reads failed lent start (kept original (slice from to buffer) ∷ reports)
  record_back {buffer = buffer} (finding {input = input} k e) r =
      passed_back k (record { coming = r.coming; turns = finds e r.turns; done = record_done buffer input e r.done })

  run_back : {lent buffer : List ℕ} {n : ℕ} {input : Input} {reports : List Report} (later : List Report) → Run lent n buffer input reports → Reads failed buffer input later
      → Reads failed lent start_of (reports ++ later)
  run_back later begun r = r
  run_back later (on {from = from} {to = to} {original = original} {buffer' = buffer'} {reports = reports} k c) r =
      let back : Reads failed _ start_of (reports ++ kept original (slice from to buffer') ∷ later) =
      run_back (kept original (slice from to buffer') ∷ later) k (record_back c r) in
      rw (append_assoc reports (kept original (slice from to buffer') ∷ []) later) back

-- the reports of a program are those of a file that its turns read into the lent buffer, unless these ran out
pub ran_file : {lent : List ℕ} {reports : List Report} → Ran lent reports → ReadFile lent reports ⊎ TurnedOut lent
ran_file (to_end {reports = reports} k (ending {input = input} p e)) =
    let back = run_back [] k (passed_back p (record { coming = []; turns = ends e; done = λ z. (refl, refl) })) in
    inl (rw (← (append-nil reports)) (record { failed = input.unread.failed; file = back.coming; turns = back.turns }))
ran_file (to_refusal {number = number} k (refusing {input = input} p e)) =
    let back = run_back (refused number ∷ []) k (passed_back p (record { coming = []; turns = refuses e; done = λ z. (refl, refl) })) in
    inl (record { failed = input.unread.failed; file = back.coming; turns = back.turns })
ran_file (to_refusal k (tiring p)) = inr (in_record k p)
ran_file (on_and_on k) = inr (in_records k)
