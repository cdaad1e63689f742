-- `each::offer_one` meets its contract. Assumes nothing.
use Rattle.endpoint.proofs.Calling.{performed_found, performed_refused}
use Rattle.handful.proofs.Offering.{one_finds, one_lost, one_moved, one_still}
use Rattle.handful.proofs.each.offer_one.Goals as goal

pub offer_at-requires : goal.offer_at-requires
offer_at-requires c = (one_finds _ c.requires _ _ c.locate.ensures _ c.in-Ok.is).located

pub returns-in-Ok : goal.returns-in-Ok
returns-in-Ok c = record { performed_in = performed_found _ _ _ (one_finds _ c.requires _ _ c.locate.ensures _ c.in-Ok.is) _ _ _ c.offer_at.ensures.performed_in_at; moved_value = one_moved _ c.requires _ _ _ c.locate.ensures _ c.in-Ok.is _ c.offer_at.ensures.moved_at }

pub returns-in-Err : goal.returns-in-Err
returns-in-Err c = record { performed_in = performed_refused _ _ _ (one_lost _ c.requires _ _ c.locate.ensures _ c.in-Err.is) _; moved_value = one_still _ c.requires _ _ _ c.locate.ensures _ c.in-Err.is }
