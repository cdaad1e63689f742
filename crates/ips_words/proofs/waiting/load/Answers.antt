-- `waiting::load` meets its contract: the law of each turn is `Loading`'s. Assumes nothing.
use native.Mathlib.Omega.{arith}
use Rattle.ips_words.proofs.Entries.{load_start, load_more, load_end}
use Rattle.ips_words.proofs.waiting.load.Goals as goal

pub loop-at-init : goal.loop-at-init
loop-at-init c = load_start _ _ c.empty-left.ensures

pub loop-at-preserved : goal.loop-at-preserved
loop-at-preserved c = load_more _ _ _ _ c.loop-at.invariant c.narrow.ensures

pub returns : goal.returns
returns c = load_end _ _ _ _ c.loop-at.invariant (omega arith) c.narrow-count.ensures
