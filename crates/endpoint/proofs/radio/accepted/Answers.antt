-- `radio::accepted` meets its contract. Assumes nothing.
use Rattle.ips_words_query.proofs.Gathering.{said_head}
use Rattle.endpoint.proofs.Hearing.{heard_room, message_heard}
use Rattle.endpoint.proofs.radio.accepted.Goals as goal

pub move_pacer-requires : goal.move_pacer-requires
move_pacer-requires c = heard_room _ _ _ c.requires c.hear.ensures

pub context-kept-requires : goal.context-kept-requires
context-kept-requires c = (said_head _ c.requires).0

pub pacer-paced-requires : goal.pacer-paced-requires
pacer-paced-requires c = (said_head _ c.requires).0

pub returns-then-is_due : goal.returns-then-is_due
returns-then-is_due c = message_heard _ _ _ c.requires _ c.context-kept.ensures _ c.is_due.ensures _ (rw c.if-is_due.true) _ c.pacer-paced.ensures _ c.hear.ensures _ c.hear-2.ensures _ c.move_pacer.ensures

pub returns : goal.returns
returns c = message_heard _ _ _ c.requires _ c.context-kept.ensures _ c.is_due.ensures _ (rw c.if-is_due.false) _ c.pacer-paced.ensures _ c.hear.ensures _ c.hear-2.ensures _ c.move_pacer.ensures
