-- `numbers::parse` meets its contract: a plain word is followed, any other is bad. Assumes nothing.
use Rattle.text.specs.Numbers.{parse_of}
use Rattle.text.proofs.numbers.parse.Goals as goal

pub returns-then-plain : goal.returns-then-plain
unfolding parse_of
returns-then-plain c = rw (← c.plain.ensures, c.if-plain.true) c.follow.ensures

pub returns : goal.returns
unfolding parse_of
returns c = rw (← c.plain.ensures, c.if-plain.false)
