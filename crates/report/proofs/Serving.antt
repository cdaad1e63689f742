-- A turn by what came, and what holds between two turns. Assumes nothing.
use mathlib.Core.Path.{◌≡◌, refl, ap, ◌∙◌}
use mathlib.Core.List.{List}
use Prim.Native.Nat.{ℕ, suc, ◌+◌, ◌-◌}
use native.Mathlib.Numerals.{add-one}
use lib.ListN.{length, take, drop}
use Rattle.octets.specs.Bytes.{slice}
use Rattle.quantity.specs.declared.count.DatalinkId.{DatalinkId}
use Rattle.lines.proofs.Laws.{slice_is}
use Rattle.records.specs.declared.Input.{Input}
use Rattle.records.specs.declared.Came.{Came}
use Rattle.records.specs.Files.{Report}
use Rattle.records.specs.Endings.{refusal_in}
use Rattle.records.specs.Reading.{MOST-TURNS, Comes}
use Rattle.records.proofs.Pieces.{came_inside, Going, Gone, going_on, going_end, going_refused, going_tired}
use Rattle.ethernet.specs.declared.Ports.{Ports}
use Rattle.census.specs.Adding.{add_all}
use Rattle.census.specs.Places.{adds_of}
use Rattle.census.specs.Outcomes.{outcome_of}
use Rattle.census.specs.Counts.{outcomes_of, count_all}
use Rattle.report.specs.Serving.{TurnedTo, Served}

module _ {ports : Ports} {id : DatalinkId} {lent buffer : List ℕ} {input : Input} {counts : List ℕ} {came : Came} (c : Comes lent input came buffer) where
  pub turn_end : came ≡ Came.End → TurnedTo ports id lent input counts came buffer counts
  unfolding outcomes_of count_all
  turn_end e = record { comes = c; counts_are = rw e }

  pub turn_refused : {refusal : ℕ} → came ≡ Came.Refused refusal → TurnedTo ports id lent input counts came buffer counts
  unfolding outcomes_of count_all
  turn_refused e = record { comes = c; counts_are = rw e }

  module _ {from to original : ℕ} {rest : Input} (e : came ≡ Came.Record from to original rest) where
    pub turn_record : {counts' : List ℕ} → counts' ≡ add_all (adds_of (outcome_of ports id original (take (to - from) (drop from buffer)))) counts
        → TurnedTo ports id lent input counts (Came.Record from to original rest) buffer counts'
    unfolding outcomes_of count_all
    turn_record w =
        let comes : Comes lent input (Came.Record from to original rest) buffer = rw (← e) c in
        let frame : slice from to buffer ≡ take (to - from) (drop from buffer) = slice_is from to buffer (came_inside c e).0 (came_inside c e).1 in
        record { comes = comes; counts_are = rw frame w }

module _ (ports : Ports) (id : DatalinkId) where
  -- what the turns come to
  abbrev pub counting : List ℕ → List Report → List ℕ × ℕ
  counting counts reports = (count_all (outcomes_of ports id reports) counts, refusal_in reports)

  -- what holds between two turns, after so many of them
  abbrev pub Serving : (lent counts₀ buffer counts : List ℕ) → Input → (number : ℕ) → Type 0
  Serving lent counts₀ buffer counts input number = Going counting lent counts₀ number buffer input counts

module _ {ports : Ports} {id : DatalinkId} where
  served : {lent counts₀ counts : List ℕ} {r : ℕ} → Gone (counting ports id) lent counts₀ (counts, r) → Served ports id lent counts₀ r counts
  served gone =
      record {
        reports = gone.reports;
        ran = gone.ran;
        refusal = ap (λ (p : List ℕ × ℕ). p.1) gone.same;
        counts_are = ap (λ (p : List ℕ × ℕ). p.0) gone.same;
      }

  module _ {lent counts₀ buffer counts : List ℕ} {input : Input} {number : ℕ} (k : Serving ports id lent counts₀ buffer counts input number) where
    pub serving_tired : number ≡ MOST-TURNS → Served ports id lent counts₀ 0 counts
    unfolding outcomes_of count_all
    serving_tired e = served (going_tired (counting ports id) k e)

    module _ {came : Came} {buffer' counts' : List ℕ} (t : TurnedTo ports id buffer input counts came buffer' counts') where
      pub serving_end : came ≡ Came.End → Served ports id lent counts₀ 0 counts'
      unfolding outcomes_of count_all
      serving_end e =
          let comes : Comes buffer input Came.End buffer' = rw (← e) t.comes in
          let w : counts' ≡ counts = t.counts_are ∙ rw e in
          rw w (served (going_end (counting ports id) k comes))

      pub serving_refused : {refusal : ℕ} → came ≡ Came.Refused refusal → Served ports id lent counts₀ refusal counts'
      unfolding outcomes_of count_all
      serving_refused {refusal} e =
          let comes : Comes buffer input (Came.Refused refusal) buffer' = rw (← e) t.comes in
          let w : counts' ≡ counts = t.counts_are ∙ rw e in
          rw w (served (going_refused (counting ports id) k comes))

      pub serving_on : {from to original : ℕ} {rest : Input} → came ≡ Came.Record from to original rest → length buffer' ≡ length buffer
          → Serving ports id lent counts₀ buffer' counts' rest (number + 1)
      unfolding outcomes_of count_all
      serving_on {from} {to} {original} {rest} e b =
          let comes : Comes buffer input (Came.Record from to original rest) buffer' = rw (← e) t.comes in
          let w : counts' ≡ add_all (adds_of (outcome_of ports id original (slice from to buffer'))) counts = t.counts_are ∙ rw e in
          let on : Going (counting ports id) lent counts₀ (suc number) buffer' rest counts' = going_on (counting ports id) k comes b (λ more. rw w refl) in
          rw (add-one number) on
