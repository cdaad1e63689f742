-- `head::save_context` meets its contract. Assumes nothing.
use native.Mathlib.Omega.{arith}
use lib.ListN.{length-set}
use Rattle.radio_end_words.proofs.Placing.{fit_length, context_saved}
use Rattle.radio_end_words.proofs.head.save_context.Goals as goal

pub bounds-words-5 : goal.bounds-words-5
bounds-words-5 c = omega (arith, fit_length _ c.requires)

pub bounds-words-6 : goal.bounds-words-6
bounds-words-6 c = simp length-set (omega (arith, fit_length _ c.requires))

pub bounds-words-7 : goal.bounds-words-7
bounds-words-7 c = simp length-set (omega (arith, fit_length _ c.requires))

pub returns : goal.returns
returns c = context_saved _ c.requires _ _ c.context-told.ensures
