-- `answer_line` meets its contract: what was read of a line is what it asks for. Assumes nothing.
use mathlib.Core.Path.{refl}
use Rattle.station.proofs.Laws.{answers}
use Rattle.station.proofs.answer_line.Goals as goal

pub returns : goal.returns
returns c = answers c.read-said.ensures c.args.held c.args.words.now c.args.output.now refl c.asked_line.ensures
