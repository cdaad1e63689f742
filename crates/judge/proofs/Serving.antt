-- A turn by what came, and what holds between two turns. Assumes nothing.
use mathlib.Core.Path.{◌≡◌, refl, ap, ◌∙◌}
use mathlib.Core.List.{List}
use Prim.Native.Nat.{ℕ, suc, ◌-◌}
use lib.ListN.{length, take, drop, replicate}
use Rattle.octets.specs.Bytes.{slice}
use Rattle.quantity.specs.declared.count.DatalinkId.{DatalinkId}
use Rattle.lines.proofs.Laws.{slice_is}
use Rattle.records.specs.declared.Input.{Input}
use Rattle.records.specs.declared.Came.{Came}
use Rattle.records.specs.Files.{Report}
use Rattle.records.specs.Reading.{MOST-TURNS, Comes}
use Rattle.records.proofs.Pieces.{came_inside, Going, Gone, going_on, going_end, going_refused, going_tired}
use Rattle.ethernet.specs.declared.Ports.{Ports}
use Rattle.conduct.specs.declared.verdict.Seen.{Seen}
use Rattle.conduct.specs.declared.verdict.Tally.{Tally}
use Rattle.conduct.specs.Outcomes.{outcome_of, seen_of, tallied_by, tallied_all}
use Rattle.conduct.specs.Words.{undecided, judged_by, judged_all}
use Rattle.judge.specs.declared.Left.{Left}
use Rattle.judge.specs.Serving.{TurnedTo, no_tally, Served, Judged}

module _ {ports : Ports} {id : DatalinkId} {number : ℕ} {lent buffer : List ℕ} {input : Input} {tally : Tally} {words : List ℕ} {came : Came}
    (c : Comes lent input came buffer) where
  pub turn_end : came ≡ Came.End → TurnedTo ports id number lent input tally words (record { came = came; tally = tally }) buffer words
  unfolding judged_all tallied_all
  turn_end e = record { comes = c; words_are = rw e; tally_is = rw e }

  pub turn_refused : {refusal : ℕ} {words' : List ℕ} → came ≡ Came.Refused refusal → words' ≡ undecided words
      → TurnedTo ports id number lent input tally words (record { came = came; tally = tally }) buffer words'
  unfolding judged_all tallied_all
  turn_refused e w = record { comes = c; words_are = rw e w; tally_is = rw e }

  module _ {from to original : ℕ} {rest : Input} (e : came ≡ Came.Record from to original rest) where
    pub turn_record : {words' : List ℕ} {seen : Seen} {tally' : Tally} → words' ≡ judged_by number (outcome_of ports id original (take (to - from) (drop from buffer))) words
        → seen ≡ seen_of ports id original (take (to - from) (drop from buffer)) → tally' ≡ tallied_by tally seen
        → TurnedTo ports id number lent input tally words (record { came = Came.Record from to original rest; tally = tally' }) buffer words'
    unfolding judged_all tallied_all
    turn_record w s t =
        let comes : Comes lent input (Came.Record from to original rest) buffer = rw (← e) c in
        let frame : slice from to buffer ≡ take (to - from) (drop from buffer) = slice_is from to buffer (came_inside c e).0 (came_inside c e).1 in
        record { comes = comes; words_are = rw frame w; tally_is = rw (frame, ← s) t }

-- what the turns come to, by the number of the next record, the words and the counts so far
abbrev pub Made : Type 0
Made = ℕ × List ℕ × Tally

module _ (ports : Ports) (id : DatalinkId) where
  abbrev pub judging : Made → List Report → List ℕ × Tally
  judging made reports = (judged_all ports id made.0 reports made.1, tallied_all ports id reports made.2)

  -- what holds between two turns, after so many of them
  abbrev pub Serving : (lent words₀ buffer words : List ℕ) → Input → Tally → (number : ℕ) → Type 0
  Serving lent words₀ buffer words input tally number = Going judging lent (1, words₀, no_tally) number buffer input (suc number, words, tally)

module _ {ports : Ports} {id : DatalinkId} where
  served : {lent words₀ words : List ℕ} {tally : Tally} → Gone (judging ports id) lent (1, words₀, no_tally) (words, tally) → Served ports id lent words₀ tally words
  served gone =
      record {
        reports = gone.reports;
        ran = gone.ran;
        words_are = ap (λ (p : List ℕ × Tally). p.0) gone.same;
        tally_is = ap (λ (p : List ℕ × Tally). p.1) gone.same;
      }

  module _ {lent words₀ buffer words : List ℕ} {input : Input} {tally : Tally} {number : ℕ} (k : Serving ports id lent words₀ buffer words input tally number) where
    pub serving_tired : number ≡ MOST-TURNS → Served ports id lent words₀ tally words
    unfolding judged_all tallied_all
    serving_tired e = served (going_tired (judging ports id) k e)

    module _ {number' : ℕ} {left : Left} {buffer' words' : List ℕ} (n : number' ≡ suc number) (t : TurnedTo ports id number' buffer input tally words left buffer' words') where
      pub serving_end : left.came ≡ Came.End → Served ports id lent words₀ left.tally words'
      unfolding judged_all tallied_all
      serving_end e =
          let comes : Comes buffer input Came.End buffer' = rw (← e) t.comes in
          let w : words' ≡ words = t.words_are ∙ rw e in
          let s : left.tally ≡ tally = t.tally_is ∙ rw e in
          rw (w, s) (served (going_end (judging ports id) k comes))

      pub serving_refused : {refusal : ℕ} → left.came ≡ Came.Refused refusal → Served ports id lent words₀ left.tally words'
      unfolding judged_all tallied_all
      serving_refused {refusal} e =
          let comes : Comes buffer input (Came.Refused refusal) buffer' = rw (← e) t.comes in
          let w : words' ≡ undecided words = t.words_are ∙ rw e in
          let s : left.tally ≡ tally = t.tally_is ∙ rw e in
          rw (w, s) (served (going_refused (judging ports id) k comes))

      pub serving_on : {from to original : ℕ} {rest : Input} → left.came ≡ Came.Record from to original rest → length buffer' ≡ length buffer
          → Serving ports id lent words₀ buffer' words' rest left.tally number'
      unfolding judged_all tallied_all
      serving_on {from} {to} {original} {rest} e b =
          let comes : Comes buffer input (Came.Record from to original rest) buffer' = rw (← e) t.comes in
          let w : words' ≡ judged_by number' (outcome_of ports id original (slice from to buffer')) words = t.words_are ∙ rw e in
          let c : left.tally ≡ tallied_by tally (seen_of ports id original (slice from to buffer')) = t.tally_is ∙ rw e in
          let on : Going (judging ports id) lent (1, words₀, no_tally) (suc number) buffer' rest (suc number', words', left.tally) =
          going_on (judging ports id) k comes b (λ more. rw (w, c, n) refl) in
          rw n (rw n at on)

  -- the turns from zeros on
  pub judged_by_lem : {lent words₀ words : List ℕ} {n : ℕ} {tally : Tally} → words₀ ≡ replicate n 0 → Served ports id lent words₀ tally words → Judged ports id lent n words
  judged_by_lem e k = record { reports = k.reports; ran = k.ran; words_are = rw (← e) k.words_are }
