-- A file of which all is in memory, one record after another: what is left of it from an input on, and what the next record makes of that. Assumes nothing.
use mathlib.Core.Path.{◌≡◌, refl, sym, ap, ◌∙◌}
use mathlib.Core.Bool.{Bool, true, false, true≢false, cond}
use mathlib.Core.List.{List, [], ◌∷◌, ◌++◌, append-nil}
use Prim.Native.Nat.{ℕ, ◌+◌, ◌-◌, ◌≤◌, ◌<◌}
use native.Mathlib.Omega.{arith}
use lib.Dec.{ltb, eqb}
use lib.ListN.{length}
use lib.Seq.{take_all}
use Rattle.facts.proofs.Tests.{clash}
use Rattle.octets.specs.Bytes.{slice}
use Rattle.quantity.specs.Refusals.{RECORD}
use Rattle.lines.specs.Unread.{tidy_of}
use Rattle.lines.proofs.Laws.{tidy_is, unread_length}
use Rattle.records.specs.declared.Input.{Input}
use Rattle.records.specs.declared.Came.{Came}
use Rattle.records.specs.declared.Found.{Found}
use Rattle.records.specs.declared.Found.TheVariants as found
use Rattle.records.specs.Heads.{captured_in, original_in}
use Rattle.records.specs.Unread.{LONGEST, held_of, behind_of, short_of, record_found, bytes_in, next_of}
use Rattle.records.specs.Files.{Report, kept, refused, reports_of}
use Rattle.records.specs.Reading.{came_by, past_head, record_in}
use Rattle.records.proofs.Ways as next
use Rattle.records.proofs.Ways.{meant, Next, next_cases, next_inside}
use Rattle.records.proofs.Whole.{tidy_made, Sane, end_turn, refuse_turn, open_turn, find_turn}

-- what holds between two records: nothing is to be read any more
pub record Held (file : List ℕ) (input : Input) : Type 0 where
  pub sane : Sane false file input []
  pub ended : input.unread.ended ≡ true

-- what is still to be reported of the file
abbrev pub left_in : List ℕ → Input → List Report
left_in file input = meant input.opened input.big (bytes_in file input ++ [])

-- how many bytes are left
abbrev pub bytes_left : Input → ℕ
bytes_left input = input.unread.have - input.unread.at

pub data Standing (file : List ℕ) (input : Input) (came : Came) : Type 0 where
  at_end : came ≡ Came.End → left_in file input ≡ [] → Standing file input came
  at_refusal : (number : ℕ) → came ≡ Came.Refused number → left_in file input ≡ refused number ∷ [] → Standing file input came
  at_record : (from to original : ℕ) (rest : Input) → came ≡ Came.Record from to original rest
      → left_in file input ≡ kept original (slice from to file) ∷ left_in file rest → Held file rest → bytes_left rest < bytes_left input → (from ≤ to) × (to ≤ length file)
      → Standing file input came

-- behind the head there is none
headless : (file : List ℕ) (input : Input) {rest : Input} → input.opened ≡ true → tidy_of (length file) input.unread ≡ true → next_of file input ≡ found.Head rest → ⊥
unfolding next_of record_found
headless file input {rest} o t e =
    let bytes : List ℕ = bytes_in file input in
    let captured : ℕ = captured_in input.big bytes in
    let opened : next_of file input ≡ record_found bytes input.unread input.big = rw (t, o) in
    go (eqb (length bytes) 0) (ltb (length bytes) 16) (ltb LONGEST captured) (ltb (length bytes - 16) captured) input.unread.ended input.unread.failed
    (found.Record (input.unread.at + 16) (input.unread.at + 16 + captured) (original_in input.big bytes) (behind_of input.unread (16 + captured) input.big))
    (λ q. clash (cc)) (sym opened ∙ e)
  where
    go : (z a b d ended failed : Bool) (whole : Found) → (whole ≡ found.Head rest → ⊥)
        → cond z (cond ended (cond failed (found.Refused RECORD) found.End) found.More) (cond a (short_of ended RECORD) (cond b (found.Refused RECORD) (cond d (short_of ended RECORD) whole))) ≡ found.Head rest → ⊥
    go true a b d true true whole n q = clash (cc)
    go true a b d true false whole n q = clash (cc)
    go true a b d false failed whole n q = clash (cc)
    go false true b d true failed whole n q = clash (cc)
    go false true b d false failed whole n q = clash (cc)
    go false false true d ended failed whole n q = clash (cc)
    go false false false true true failed whole n q = clash (cc)
    go false false false true false failed whole n q = clash (cc)
    go false false false false ended failed whole n q = n q

module _ (file : List ℕ) (input : Input) (k : Held file input) where
  within : (input.unread.at ≤ input.unread.have) × (input.unread.have ≤ length file)
  within = tidy_is (length file) input.unread k.sane.tidy

  size : length (bytes_in file input) ≡ bytes_left input
  size = unread_length file input.unread k.sane.tidy

  -- what is handed on of what stands next, where that isn't the file's head
  plain : {came : Came} → ((rest : Input) → next_of file input ≡ found.Head rest → ⊥) → came ≡ came_by (next_of file input) → Standing file input came
  unfolding came_by
  plain {came} none e = go (next_cases file input k.sane.tidy)
    where
      go : Next input.opened input.big input.unread (bytes_in file input) (next_of file input) → Standing file input came
      go (next.nothing g h o l p) = at_end (e ∙ ap came_by p) (sym (end_turn k.sane p))
      go (next.breaks number f p) = at_refusal number (e ∙ ap came_by p) (sym (refuse_turn k.sane p))
      go (next.finds captured original o l f p) =
          let rest : Input = behind_of input.unread (16 + captured) input.big in
          let turn = find_turn k.sane p in
          at_record (input.unread.at + 16) (input.unread.at + 16 + captured) original rest (e ∙ ap came_by p) (sym (turn.right (left_in file rest) refl))
          (record { sane = turn.sane; ended = k.ended }) (omega (arith, size, within)) (next_inside file input p)
      go (next.waits g l p) = absurd (true≢false (sym k.ended ∙ g))
      go (next.fails g h o l p) = absurd (true≢false (sym h ∙ (k.sane.done g).0))
      go (next.opens big l f p) = absurd (none (behind_of input.unread 24 big) p)

-- what is left doesn't change by passing the head over
before : {file : List ℕ} {input rest : Input} {came : Came} → left_in file input ≡ left_in file rest → bytes_left rest ≤ bytes_left input → Standing file rest came → Standing file input came
before same h (at_end e f) = at_end e (same ∙ f)
before same h (at_refusal number e f) = at_refusal number e (same ∙ f)
before same h (at_record from to original rest e f k less inside) = at_record from to original rest e (same ∙ f) k (omega (arith, h, less)) inside

-- what the next record makes of what is left
pub standing : (file : List ℕ) (input : Input) → Held file input → Standing file input (record_in file input)
unfolding record_in
standing file input k = go (next_cases file input k.sane.tidy)
  where
    -- what isn't the head stands as it is
    other : (f : Found) → next_of file input ≡ f → past_head file f ≡ f → ((rest : Input) → f ≡ found.Head rest → ⊥) → Standing file input (record_in file input)
    other f p same none =
        plain file input k (λ rest q. none rest (sym p ∙ q)) (ap (λ (g : Found). came_by (past_head file g)) p ∙ ap came_by (same ∙ sym p))

    go : Next input.opened input.big input.unread (bytes_in file input) (next_of file input) → Standing file input (record_in file input)
    go (next.nothing g h o l p) = other found.End p refl (λ rest q. clash (cc))
    go (next.fails g h o l p) = other (found.Refused RECORD) p refl (λ rest q. clash (cc))
    go (next.waits g l p) = other found.More p refl (λ rest q. clash (cc))
    go (next.breaks number f p) = other (found.Refused number) p refl (λ rest q. clash (cc))
    go (next.finds captured original o l f p) = other _ p refl (λ rest q. clash (cc))
    go (next.opens big l f p) =
        let rest : Input = behind_of input.unread 24 big in
        let turn = open_turn k.sane p in
        let held : Held file rest = record { sane = turn.sane; ended = k.ended } in
        before (sym (turn.right (left_in file rest) refl)) (omega arith)
        (plain file rest held (λ next q. headless file rest refl turn.sane.tidy q) (ap (λ (g : Found). came_by (past_head file g)) p))

-- at the start all of the file is left
pub held_start : (file : List ℕ) → Held file (held_of (length file))
held_start file =
    record { sane = record { tidy = tidy_made (length file) (held_of (length file)).unread (omega arith) (omega arith); done = λ e. (refl, refl); entire = refl }; ended = refl }

pub left_start : (file : List ℕ) → left_in file (held_of (length file)) ≡ reports_of file
unfolding slice
left_start file = ap reports_of (append-nil _ ∙ take_all (length file) file (omega arith))

-- ---- a loop over the records, whatever it makes of them: `whole s reports` is what it comes to from a state on

module _ {S R : Type 0} (whole : S → List Report → R) where
  -- from here on it comes to what it is to come to
  pub record Walk (file : List ℕ) (s₀ : S) (input : Input) (s : S) : Type 0 where
    pub held : Held file input
    pub same : whole s (left_in file input) ≡ whole s₀ (reports_of file)

  pub walk_start : (file : List ℕ) (s : S) → Walk file s (held_of (length file)) s
  walk_start file s = record { held = held_start file; same = ap (whole s) (left_start file) }

  -- one more record
  pub record Further (file : List ℕ) (s₀ : S) (input : Input) (from to original : ℕ) (rest : Input) (s : S) : Type 0 where
    pub inside : (from ≤ to) × (to ≤ length file)
    pub less : bytes_left rest < bytes_left input
    pub walk : {s' : S} → ((reports : List Report) → whole s (kept original (slice from to file) ∷ reports) ≡ whole s' reports) → Walk file s₀ rest s'

  module _ {file : List ℕ} {s₀ : S} {input : Input} {s : S} (k : Walk file s₀ input s) where
    pub walk_end : record_in file input ≡ Came.End → whole s [] ≡ whole s₀ (reports_of file)
    walk_end e = go (standing file input k.held)
      where
        go : Standing file input (record_in file input) → whole s [] ≡ whole s₀ (reports_of file)
        go (at_end p f) = ap (whole s) (sym f) ∙ k.same
        go (at_refusal number p f) = clash (cc)
        go (at_record from to original rest p f h less inside) = clash (cc)

    pub walk_refused : {number : ℕ} → record_in file input ≡ Came.Refused number → whole s (refused number ∷ []) ≡ whole s₀ (reports_of file)
    walk_refused {number} e = go (standing file input k.held)
      where
        go : Standing file input (record_in file input) → whole s (refused number ∷ []) ≡ whole s₀ (reports_of file)
        go (at_refusal n p f) = let same : n ≡ number = cc in ap (whole s) (sym (f ∙ ap (λ (m : ℕ). refused m ∷ []) same)) ∙ k.same
        go (at_end p f) = clash (cc)
        go (at_record from to original rest p f h less inside) = clash (cc)

    pub walk_record : {from to original : ℕ} {rest : Input} → record_in file input ≡ Came.Record from to original rest → Further file s₀ input from to original rest s
    walk_record {from} {to} {original} {rest} e = go (standing file input k.held)
      where
        go : Standing file input (record_in file input) → Further file s₀ input from to original rest s
        go (at_record a b o r p f h less inside) =
            let start : a ≡ from = cc in
            let end : b ≡ to = cc in
            let there : o ≡ original = cc in
            let behind : r ≡ rest = cc in
            rw (← start, ← end, ← there, ← behind)
            (record { inside = inside; less = less; walk = λ step. record { held = h; same = sym (step (left_in file r)) ∙ ap (whole s) (sym f) ∙ k.same } })
        go (at_end p f) = clash (cc)
        go (at_refusal n p f) = clash (cc)
