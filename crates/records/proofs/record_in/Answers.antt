-- `record_in` meets its contract: only the file's head is passed over. Assumes nothing.
use mathlib.Core.Path.{◌≡◌, refl, sym, ap, ◌∙◌}
use mathlib.Core.List.{List}
use Prim.Native.Nat.{ℕ}
use Rattle.records.specs.declared.Found.{Found}
use Rattle.records.specs.declared.Found.TheVariants as found
use Rattle.records.specs.declared.Input.{Input}
use Rattle.records.specs.Reading.{came_by, past_head, record_in}
use Rattle.records.proofs.record_in.Goals as goal

no_head : (file : List ℕ) (f : Found) → ((rest : Input) → f ≡ found.Head rest → ⊥) → past_head file f ≡ f
no_head file found.More h = refl
no_head file found.End h = refl
no_head file (found.Head rest) h = absurd (h rest refl)
no_head file (found.Record from to original rest) h = refl
no_head file (found.Refused number) h = refl

pub returns-in-Head : goal.returns-in-Head
unfolding record_in
returns-in-Head c = c.handed.ensures ∙ rw (c.next-in-Head.ensures, ← c.next.ensures, c.in-Head.is)

pub returns-in_default : goal.returns-in_default
unfolding record_in
returns-in_default c = c.handed-in_default.ensures ∙ rw (← c.next.ensures) (ap came_by (sym (no_head c.args.capture.now c.next.result c.in_default.not-Head)))
