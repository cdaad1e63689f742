-- The Datalink ID of a message is the configured one, as it is tested and as the account says it. Assumes nothing.
use Rattle.std.specs.Prelude.{Option, Some, None}
use mathlib.Core.Path.{◌≡◌, refl}
use mathlib.Core.Logic.{◌↔◌}
use mathlib.Core.Bool.{true}
use borrow.Author.Tests.{eq-eqb, eqb-true}
use Rattle.facts.proofs.Tests.{clash}
use Rattle.quantity.specs.declared.count.DatalinkId.{DatalinkId}
use Rattle.read_rules.specs.Sorts.{is_ours}

pub ours : (id : DatalinkId) (x : Option DatalinkId) → x ≡ Some id ↔ is_ours id x ≡ true
ours id x = ((λ e. rw e (eq-eqb id.0 id.0 refl)), λ e. back x e)
  where
    back : (x : Option DatalinkId) → is_ours id x ≡ true → x ≡ Some id
    back None e = clash e
    back (Some d) e = λ i. Some (record { 0 = eqb-true d.0 id.0 e i })
