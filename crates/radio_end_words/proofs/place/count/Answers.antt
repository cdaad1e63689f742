-- `place::count` meets its contract. Assumes nothing.
use mathlib.Core.Path.{sym}
use native.Mathlib.Omega.{arith}
use Rattle.radio_end_words.proofs.Placing.{fit_length, fit_count}
use Rattle.radio_end_words.proofs.place.count.Goals as goal

pub bounds-words-1 : goal.bounds-words-1
bounds-words-1 c = omega (arith, fit_length _ c.requires)

pub returns : goal.returns
returns c = sym (fit_count _ c.requires)
