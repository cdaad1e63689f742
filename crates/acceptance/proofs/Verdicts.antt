-- Which verdicts a reader gives: it refuses by no number but 1 to 11, and a message of its own plane is never another's. Assumes nothing.
use Rattle.meaning.specs.declared.message.Plane.{Plane}
use Rattle.std.specs.Prelude.{Ok, Err}
use Prim.Native.Nat.{ℕ}
use mathlib.Core.Path.{◌≡◌}
use mathlib.Core.List.{List}
use lib.ListN.{drop}
use Rattle.facts.proofs.Tests.{clash}
use Rattle.quantity.specs.declared.count.DatalinkId.{DatalinkId}
use Rattle.quantity.specs.declared.refusal.Refusal.{Refusal}
use Rattle.wire.specs.Options.{Options, split}
use Rattle.meaning.specs.declared.message.End.{End}
use Rattle.read_option.specs.Stated.{Table, control_stated}
use Rattle.read_rules.specs.declared.answer.Verdict.{Verdict}
use Rattle.read_rules.specs.Judging.{judge}
use Rattle.read_rules.specs.Sorts.{Sort, rules_of}
use Rattle.read_control.specs.Message.{control_sort}
use Rattle.read_data.specs.Message.{data_sort}
use Rattle.reader.specs.Readings.{read_control, read_data, plane_of}
use Rattle.reader.proofs.Planes.{by_plane_lem}
use Rattle.acceptance.specs.Numbers.{OfReading}
use Rattle.acceptance.proofs.Cells.{Cells}
use Rattle.acceptance.proofs.Outcome.{judged_body}
use Rattle.acceptance.proofs.Control.{control_cells}
use Rattle.acceptance.proofs.Data.{gathered, data_cells}
use Rattle.acceptance.proofs.Places.{control_said, data_said_lem, plane_said}

module _ (end : End) (id : DatalinkId) (datagram : List ℕ) (refusal : Refusal) where
  -- "Reading: 1, 2, then the options one after another, .. 3, 8, 6, 4, 5, 7; then 9, 10, 11."
  pub control_numbers : (read_control end id datagram).verdict ≡ Verdict.Refused refusal → OfReading refusal.number
  control_numbers e = (control_said end id datagram refusal e).0

  pub data_numbers : (read_data end id datagram).verdict ≡ Verdict.Refused refusal → OfReading refusal.number
  data_numbers e = (data_said_lem end id datagram refusal e).0

-- the plane alone
pub plane_numbers : (datagram : List ℕ) (refusal : Refusal) → plane_of datagram ≡ Err refusal → OfReading refusal.number
plane_numbers datagram refusal e = (plane_said datagram refusal e).0

-- ---- a reader that is asked for a message of its own plane

own : {A B : Type 0} (S : Sort A B) (id : DatalinkId) (stated : Table → A) (C : Cells S id stated) (f : Options) → C.verdict (judge (rules_of S) f 1 S.blank) ≡ Verdict.OtherPlane → ⊥
own S id stated C f =
    judged_body S id stated C (λ verdict. verdict ≡ Verdict.OtherPlane → ⊥) f
    (record { accepted = λ w e. clash (cc); at_option = λ number place w e. clash (cc); at_end = λ number place w l p e. clash (cc) })

module _ (end : End) (id : DatalinkId) (datagram : List ℕ) where
  pub control_own : plane_of datagram ≡ Ok Plane.Control → (read_control end id datagram).verdict ≡ Verdict.OtherPlane → ⊥
  unfolding read_control control_cells
  control_own p =
      let S = control_sort end id in
      rw (← (by_plane_lem (rules_of S) datagram p)) (own S id control_stated (control_cells end id) (split (drop 1 datagram)))

  pub data_own : plane_of datagram ≡ Ok Plane.Data → (read_data end id datagram).verdict ≡ Verdict.OtherPlane → ⊥
  unfolding read_data data_cells
  data_own p =
      let S = data_sort end id in
      rw (← (by_plane_lem (rules_of S) datagram p)) (own S id gathered (data_cells end id) (split (drop 1 datagram)))
