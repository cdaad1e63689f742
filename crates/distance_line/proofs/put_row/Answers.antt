-- `put_row` meets its contract: the three texts stand one behind the other, and have room. Assumes nothing.
use mathlib.Core.Path.{ap, ◌∙◌}
use mir.Syntax.{w64}
use mir.ValLaws.{to_z-of_z}
use Rattle.text.specs.Laying.{signed_text}
use Rattle.text.proofs.Writing.{lays_as}
use native.Mathlib.Omega.{arith}
use Rattle.distance_line.proofs.Laws.{room_left, row_wrote}
use Rattle.distance_line.proofs.put_row.Goals as goal

pub put_spaced-second-requires : goal.put_spaced-second-requires
put_spaced-second-requires c = room_left c.requires (omega arith) c.put_spaced-first.ensures

pub returns : goal.returns
returns c =
    let distance = to_z-of_z w64 _ (record { sfits = c.distance.type_inv }) ∙ c.distance.ensures in
    let third = lays_as (ap signed_text distance) c.put_signed.ensures in
    row_wrote _ _ (omega arith) (omega arith) c.requires c.put_spaced-first.ensures c.put_spaced-second.ensures third
