-- `place::find` meets its contract. Assumes nothing.
use mathlib.Core.Path.{ap, ◌∙◌}
use Rattle.radio_end_state.specs.State.{State}
use Rattle.radio_end_state.specs.Limits.{ids, index_of}
use Rattle.radio_end_words.proofs.Placing.{fit_counted, fit_says}
use Rattle.radio_end_words.proofs.place.find.Goals as goal

pub index_of-requires : goal.index_of-requires
index_of-requires c = rw c.count.ensures (fit_counted _ c.requires)

pub returns : goal.returns
returns c = c.index_of.ensures ∙ ap (λ (s : State). index_of c.args.id (ids s.channels)) (fit_says _ c.requires)
