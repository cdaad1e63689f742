-- `slot::load` meets its contract. Assumes nothing.
use Rattle.ips_words.specs.Words.{channel_in}
use Rattle.ips_words.proofs.Slots.{spelled_facts}
use Rattle.ips_words.proofs.slot.load.Goals as goal

pub status_of-status-requires : goal.status_of-status-requires
status_of-status-requires c = (spelled_facts _ c.requires.says).status

pub flow_of-flow-requires : goal.flow_of-flow-requires
flow_of-flow-requires c = (spelled_facts _ c.requires.says).window

pub count-requires : goal.count-requires
count-requires c = (spelled_facts _ c.requires.says).sequence

pub returns : goal.returns
unfolding channel_in
returns c = rw (c.count.ensures, c.load-queue.ensures, c.flow_of-flow.ensures, c.status_of-status.ensures, c.narrow.ensures, c.byte.ensures)
