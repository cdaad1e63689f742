-- `waiting::save` meets its contract: the law of each turn is `Saving`'s. Assumes nothing.
use mathlib.Core.Path.{◌≡◌}
use native.Mathlib.Omega.{arith}
use borrow.Author.Rules.{rules}
use lib.ListN.{length}
use Rattle.facts.proofs.Lists.{length_mapped}
use Rattle.quantity.specs.Limits.{MOST-WAITING}
use Rattle.ips_words.proofs.Entries.{save_start, save_more}
use Rattle.ips_words.proofs.waiting.save.Goals as goal

pub loop-at-init : goal.loop-at-init
loop-at-init c = save_start _ _ c.requires

pub loop-at-preserved : goal.loop-at-preserved
loop-at-preserved c = save_more _ _ _ _ _ ((let the_places : length c.args.queue.entries ≡ MOST-WAITING = search (length_mapped, rules) in the_places)) c.loop-at.invariant (omega arith) c.wide.ensures
