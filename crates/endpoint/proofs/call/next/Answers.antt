-- `call::next` meets its contract. Assumes nothing.
use mathlib.Core.Path.{sym, ◌∙◌}
use Rattle.endpoint.specs.Lent.{lent, world_in}
use Rattle.ips_words_survey.proofs.Finding.{Finds, place_found}
use Rattle.endpoint.proofs.Calling.{performed_found, performed_refused}
use Rattle.endpoint.proofs.call.next.Goals as goal

pub returns-in-Ok : goal.returns-in-Ok
returns-in-Ok c = performed_found _ _ _ ((let the_finds : Finds (world_in (lent c.args.words.now c.args.memory.now)) c.args.id c.in-Ok.found = place_found _ _ _ (sym c.find.ensures ∙ c.in-Ok.is) in the_finds)) _ _ _ c.next_at.ensures.performed_in_at

pub returns-in-Err : goal.returns-in-Err
returns-in-Err c = performed_refused _ _ _ (sym c.find.ensures ∙ c.in-Err.is) _

pub next_at-requires : goal.next_at-requires
next_at-requires c = ((let the_finds : Finds (world_in (lent c.args.words.now c.args.memory.now)) c.args.id c.in-Ok.found = place_found _ _ _ (sym c.find.ensures ∙ c.in-Ok.is) in the_finds)).located
