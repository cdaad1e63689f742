-- `state_line` meets its contract: a bad line, or a command on the state's own words. Assumes nothing.
use Rattle.station.proofs.Laws.{states_bad, states}
use Rattle.station.proofs.state_line.Goals as goal

pub returns-then-not-held : goal.returns-then-not-held
returns-then-not-held c = states_bad _ _ _ _ _ _ c.if-not-held.true c.bad_line.ensures

pub returns : goal.returns
returns c = let args = c.args in states args.held args.words.now args.command args.room args.bytes.now args.output.now c.if-not-held.false c.min-own.ensures c.min-size.ensures c.command_line.ensures
