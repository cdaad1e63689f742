-- `line::read` meets its contract: the table reads the line. Assumes nothing.
use Rattle.station_read.proofs.Lines.{read_bounded, read_asks}
use Rattle.station_read.proofs.line.read.Goals as goal

pub asks-asked-requires : goal.asks-asked-requires
asks-asked-requires c = read_bounded c.args.line.now c.shortened.ensures c.read-told.ensures

pub returns : goal.returns
returns c = read_asks c.args.line.now c.shortened.ensures c.read-told.ensures c.asks-asked.ensures
