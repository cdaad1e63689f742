-- `strings::unhex` meets its contract: a word that stands for no byte string, one with no room, and any other. Assumes nothing.
use native.Mathlib.Omega.{arith}
use mathlib.Core.Path.{sym, ◌∙◌}
use mathlib.Core.Bool.{true, false}
use mathlib.Core.Path.{◌≡◌}
use Rattle.text.specs.Strings.{readable_of}
use Rattle.text.proofs.Hexadecimal.{unhex_bad, unhex_long, unhex_good}
use Rattle.text.proofs.strings.unhex.Goals as goal

pub returns-then-not-readable : goal.returns-then-not-readable
returns-then-not-readable c =
    let bad : readable_of c.args.word.now ≡ false = sym c.readable.ensures ∙ c.if-not-readable.true in
    let h = unhex_bad c.args.word.now c.args.out.now bad in
    record { value = h.0; out_after = h.1 }

pub returns-then-n-out : goal.returns-then-n-out
returns-then-n-out c =
    let good : readable_of c.args.word.now ≡ true = sym c.readable.ensures ∙ c.if-not-readable.false in
    let h = unhex_long c.args.word.now c.args.out.now good (omega arith) in
    record { value = h.0; out_after = h.1 }

pub returns : goal.returns
returns c =
    let good : readable_of c.args.word.now ≡ true = sym c.readable.ensures ∙ c.if-not-readable.false in
    let h = unhex_good c.args.word.now c.args.out.now c.unpair.new.out good (omega arith) c.unpair.ensures in
    record { value = h.0; out_after = h.1 }
