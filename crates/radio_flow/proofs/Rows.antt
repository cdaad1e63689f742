-- The rules of one channel in literal numbers: computed, row by row. Assumes nothing.
use Rattle.std.specs.Prelude.{Option, Some, None}
use Rattle.quantity.specs.declared.count.FlowSequence.{FlowSequence}
use mathlib.Core.Path.{◌≡◌, refl}
use mathlib.Core.Bool.{true, false}
use mathlib.Core.List.{List, [], ◌∷◌}
use Rattle.quantity.specs.Distance.{distance_of}
use Rattle.meaning.specs.declared.message.Window.{Window}
use Rattle.radio_flow.specs.Granting.{is_ahead, hearing, allowance_of, window_of, queued_on}
use Rattle.radio_flow.specs.Rows.{HeardRow, heard_rows, WindowRow, window_rows}

-- what a flow-controlled channel keeps
abbrev pub Hears : List HeardRow → Type 0
Hears [] = Unit {0}
Hears (r ∷ rs) =
    (hearing true (Some (record { 0 = r.highest })) (Some (record { 0 = r.sequence })) ≡ Some (record { 0 = r.becomes })) × Hears rs

pub rows_heard : Hears heard_rows
unfolding hearing is_ahead distance_of
rows_heard = (refl, (refl, (refl, (refl, (refl, (refl, (refl, tt)))))))

abbrev pub Grants : List WindowRow → Type 0
Grants [] = Unit {0}
Grants (r ∷ rs) =
    (window_of true (Some (record { 0 = r.highest })) (allowance_of (record { 0 = r.watermark }) (record { 0 = r.throughput }) (record { 0 = r.queued }))
    ≡ Some (Window.Given (record { 0 = r.window })))
    × Grants rs

pub rows_granted : Grants window_rows
unfolding window_of allowance_of
rows_granted = (refl, (refl, (refl, (refl, (refl, (refl, (refl, (refl, tt))))))))

-- the first that is heard is the highest; a plain channel passes over it; until then the Flow Window has no field; a plain channel has none
pub first_heard : hearing true None (Some (record { 0 = 4294967295 })) ≡ Some (record { 0 = 4294967295 })
unfolding hearing
first_heard = refl

pub plain_passes : (highest : Option FlowSequence) (stated : Option FlowSequence) → hearing false highest stated ≡ highest
unfolding hearing
plain_passes highest stated = refl

pub none_heard_empty : window_of true None (record { 0 = 1500 }) ≡ Some Window.Empty
unfolding window_of
none_heard_empty = refl

pub plain_absent : window_of false (Some (record { 0 = 7 })) (record { 0 = 1500 }) ≡ None
unfolding window_of
plain_absent = refl

-- bytes queued are held at the largest number
pub held_at_largest : queued_on (record { 0 = 18446744073709551615 }) (record { 0 = 40 }) ≡ record { 0 = 18446744073709551615 }
unfolding queued_on
held_at_largest = refl

pub queued_adds : queued_on (record { 0 = 100 }) (record { 0 = 40 }) ≡ record { 0 = 140 }
unfolding queued_on
queued_adds = refl
