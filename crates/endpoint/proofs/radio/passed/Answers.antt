-- `radio::passed` meets its contract. Assumes nothing.
use Rattle.ips_words_query.proofs.Gathering.{said_head}
use Rattle.endpoint.proofs.Hearing.{data_passed}
use Rattle.endpoint.proofs.radio.passed.Goals as goal

pub returns : goal.returns
returns c = data_passed _ _ _ c.pacer-paced.ensures _ c.pass.ensures _ c.move_pacer.ensures

pub pacer-paced-requires : goal.pacer-paced-requires
pacer-paced-requires c = (said_head _ c.requires).0

pub move_pacer-requires : goal.move_pacer-requires
move_pacer-requires c = (said_head _ c.requires).0
