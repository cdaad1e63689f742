-- `head::pacer` meets its contract. Assumes nothing.
use mathlib.Core.Path.{refl}
use Rattle.ips_words.specs.Words.{state_of}
use Rattle.ips_words.proofs.head.pacer.Goals as goal

pub returns : goal.returns
unfolding state_of
returns c = refl
