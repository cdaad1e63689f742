-- `head::move_pacer` meets its contract. Assumes nothing.
use mathlib.Core.Path.{refl}
use Rattle.ips_words.specs.Words.{put_pacer}
use Rattle.ips_words.proofs.head.move_pacer.Goals as goal

pub returns : goal.returns
unfolding put_pacer
returns c = refl
