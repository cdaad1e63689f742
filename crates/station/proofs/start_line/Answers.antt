-- `start_line` meets its contract: started on the first words, or refused. Assumes nothing.
use Rattle.station.proofs.Laws.{starts, starts_refused}
use Rattle.station.proofs.start_line.Goals as goal

pub returns-in-Ok : goal.returns-in-Ok
returns-in-Ok c = let args = c.args in starts args.held args.words.now args.channels args.numbers.now c.words_for.ensures c.min-own.ensures c.configuration-configuration.ensures c.start.ensures c.in-Ok.is c.started.ensures

pub returns-in-Err : goal.returns-in-Err
returns-in-Err c = let args = c.args in starts_refused args.held args.words.now args.channels args.numbers.now c.words_for.ensures c.min-own.ensures c.configuration-configuration.ensures c.start.ensures c.in-Err.is c.refused.ensures
