-- The two loops over a capture in memory, by the laws of `records` on any such loop. Assumes nothing.
use mathlib.Core.Path.{◌≡◌, refl, ap, ◌∙◌}
use mathlib.Core.List.{List}
use Prim.Native.Nat.{ℕ, suc, ◌+◌, ◌-◌, ◌≤◌, ◌<◌}
use native.Mathlib.Omega.{arith}
use lib.ListN.{length, take, drop}
use Rattle.octets.specs.Bytes.{slice}
use Rattle.quantity.specs.declared.count.DatalinkId.{DatalinkId}
use Rattle.lines.proofs.Laws.{slice_is}
use Rattle.records.specs.declared.Input.{Input}
use Rattle.records.specs.declared.Came.{Came}
use Rattle.records.specs.Unread.{held_of}
use Rattle.records.specs.Files.{Report, reports_of}
use Rattle.records.specs.Endings.{refusal_in, refusal_of}
use Rattle.records.specs.Reading.{record_in}
use Rattle.records.proofs.Memory.{bytes_left, Walk, walk_start, walk_end, walk_refused, walk_record}
use Rattle.ethernet.specs.declared.Ports.{Ports}
use Rattle.census.specs.Adding.{add_all}
use Rattle.census.specs.Places.{adds_of}
use Rattle.census.specs.Outcomes as census
use Rattle.census.specs.Counts.{outcomes_of, count_all}
use Rattle.conduct.specs.Outcomes as conduct
use Rattle.conduct.specs.Words.{undecided, judged_by, judged_all}

module _ (ports : Ports) (id : DatalinkId) where
  -- what is counted of some reports, and the number by which they are refused
  abbrev pub counting : List ℕ → List Report → List ℕ × ℕ
  counting counts reports = (count_all (outcomes_of ports id reports) counts, refusal_in reports)

  -- what is judged of them, by the number of the next and the words so far
  abbrev pub judging : ℕ × List ℕ → List Report → List ℕ
  judging state reports = judged_all ports id state.0 reports state.1

  pub record Counting (file counts₀ : List ℕ) (input : Input) (counts : List ℕ) : Type 0 where
    pub walk : Walk counting file counts₀ input counts

  -- no more records are judged than bytes are read
  pub record Judging (file words₀ : List ℕ) (input : Input) (number : ℕ) (words : List ℕ) : Type 0 where
    pub walk : Walk judging file (1, words₀) input (suc number, words)
    pub counted : number + bytes_left input ≤ length file

module _ {ports : Ports} {id : DatalinkId} where
  pub counting_start : (file counts : List ℕ) → Counting ports id file counts (held_of (length file)) counts
  counting_start file counts = record { walk = walk_start (counting ports id) file counts }

  module _ {file counts₀ counts : List ℕ} {input : Input} (k : Counting ports id file counts₀ input counts) where
    pub counting_end : record_in file input ≡ Came.End → (0 ≡ refusal_of file) × (counts ≡ count_all (outcomes_of ports id (reports_of file)) counts₀)
    unfolding outcomes_of count_all
    counting_end e = let both = walk_end (counting ports id) k.walk e in (ap (λ (p : List ℕ × ℕ). p.1) both, ap (λ (p : List ℕ × ℕ). p.0) both)

    pub counting_refused : {number : ℕ} → record_in file input ≡ Came.Refused number → (number ≡ refusal_of file) × (counts ≡ count_all (outcomes_of ports id (reports_of file)) counts₀)
    unfolding outcomes_of count_all
    counting_refused e = let both = walk_refused (counting ports id) k.walk e in (ap (λ (p : List ℕ × ℕ). p.1) both, ap (λ (p : List ℕ × ℕ). p.0) both)

    module _ {from to original : ℕ} {rest : Input} (e : record_in file input ≡ Came.Record from to original rest) where
      pub counting_inside : (from ≤ to) × (to ≤ length file)
      counting_inside = (walk_record (counting ports id) k.walk e).inside

      pub counting_less : bytes_left rest < bytes_left input
      counting_less = (walk_record (counting ports id) k.walk e).less

      pub counting_on : {counts' : List ℕ} → counts' ≡ add_all (adds_of (census.outcome_of ports id original (take (to - from) (drop from file)))) counts
          → Counting ports id file counts₀ rest counts'
      unfolding outcomes_of count_all
      counting_on {counts'} w =
          let frame : slice from to file ≡ take (to - from) (drop from file) = slice_is from to file counting_inside.0 counting_inside.1 in
          record { walk = (walk_record (counting ports id) k.walk e).walk (λ reports. rw (w, frame) refl) }

  pub judging_start : (file words : List ℕ) → Judging ports id file words (held_of (length file)) 0 words
  judging_start file words = record { walk = walk_start (judging ports id) file (1, words); counted = omega arith }

  module _ {file words₀ words : List ℕ} {input : Input} {number : ℕ} (k : Judging ports id file words₀ input number words) where
    pub judging_end : record_in file input ≡ Came.End → words ≡ judged_all ports id 1 (reports_of file) words₀
    unfolding judged_all
    judging_end e = walk_end (judging ports id) k.walk e

    -- a refusal leaves the capture undecided
    pub judging_refused : {refusal : ℕ} {words' : List ℕ} → record_in file input ≡ Came.Refused refusal → words' ≡ undecided words → words' ≡ judged_all ports id 1 (reports_of file) words₀
    unfolding judged_all
    judging_refused e w = w ∙ walk_refused (judging ports id) k.walk e

    module _ {from to original : ℕ} {rest : Input} (e : record_in file input ≡ Came.Record from to original rest) where
      pub judging_inside : (from ≤ to) × (to ≤ length file)
      judging_inside = (walk_record (judging ports id) k.walk e).inside

      pub judging_less : bytes_left rest < bytes_left input
      judging_less = (walk_record (judging ports id) k.walk e).less

      pub judging_fits : number < length file
      judging_fits = omega (arith, judging_less, k.counted)

      pub judging_on : {number' : ℕ} {words' : List ℕ} → number' ≡ suc number
          → words' ≡ judged_by number' (conduct.outcome_of ports id original (take (to - from) (drop from file))) words
          → Judging ports id file words₀ rest number' words'
      unfolding judged_all
      judging_on {number'} {words'} n w =
          let frame : slice from to file ≡ take (to - from) (drop from file) = slice_is from to file judging_inside.0 judging_inside.1 in
          record {
            walk = (walk_record (judging ports id) k.walk e).walk (λ reports. rw (w, n, frame) refl);
            counted = omega (arith, n, judging_less, k.counted);
          }
