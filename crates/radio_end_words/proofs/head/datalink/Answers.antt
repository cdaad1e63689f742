-- `head::datalink` meets its contract. Assumes nothing.
use mathlib.Core.Path.{ap}
use Prim.Native.Nat.{ℕ}
use native.Mathlib.Omega.{arith}
use Rattle.std.proofs.Common.{rules, ◌<◌}
use Rattle.radio_end_words.specs.Words.{DATALINK-WORD, word}
use Rattle.quantity.specs.declared.count.DatalinkId.{DatalinkId}
use Rattle.radio_end_words.proofs.Placing.{fit_length, fit_datalink, fit_byte}
use Rattle.radio_end_words.proofs.head.datalink.Goals as goal

pub bounds-words-0 : goal.bounds-words-0
bounds-words-0 c = omega (arith, fit_length _ c.requires)

pub overflow_cast-result : goal.overflow_cast-result
overflow_cast-result c = let low : word c.args.words.now DATALINK-WORD < 256 = fit_byte _ c.requires in search rules

pub returns : goal.returns
returns c = ap {B = DatalinkId} (λ (n : ℕ). record { 0 = n }) (fit_datalink _ c.requires)
