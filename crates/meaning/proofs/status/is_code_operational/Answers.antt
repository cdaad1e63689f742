-- `status::is_code_operational` meets its contract: 0 to 7, above 15, or by the bit. Assumes nothing.
use Prim.Native.Nat.{◌+◌, ◌-◌}
use mathlib.Core.Path.{◌≡◌, sym, ap, ◌∙◌}
use lib.Dec.{eqb}
use native.Mathlib.Omega.{arith}
use Rattle.meaning.specs.Statuses.{code_operational}
use Rattle.meaning.proofs.StatusKinds.{code_low, code_configured, code_high}
use Rattle.meaning.proofs.status.is_code_operational.Goals as goal

pub returns-then-code-le-LAST_OPERATIONAL : goal.returns-then-code-le-LAST_OPERATIONAL
returns-then-code-le-LAST_OPERATIONAL c = sym (code_low _ _ (omega (arith, c.if-code-le-LAST_OPERATIONAL.true)))

pub returns-then-code-gt-HIGHEST_STATUS : goal.returns-then-code-gt-HIGHEST_STATUS
returns-then-code-gt-HIGHEST_STATUS c = sym (code_high _ _ c.if-code-gt-HIGHEST_STATUS.true)

pub returns : goal.returns
returns c =
    let same : 8 + (c.args.code - 8) ≡ c.args.code = omega (arith, c.if-code-le-LAST_OPERATIONAL.false) in
    ap (λ x. eqb x 1) c.bit.ensures ∙ sym (code_configured _ _ (omega (arith, c.if-code-gt-HIGHEST_STATUS.false))) ∙ ap (code_operational _) same
