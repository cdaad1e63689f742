-- What the lists of document 01 have in common. Assumes nothing.
use Rattle.std.specs.Prelude.{Some}
use Prim.Native.Nat.{ℕ}
use mathlib.Core.Path.{◌≡◌, refl, sym, ◌∙◌}
use mathlib.Core.List.{List}
use mathlib.Core.Bool.{true, false}
use Rattle.facts.proofs.Tests.{clash}
use Rattle.meaning.specs.declared.message.End.{End}
use Rattle.meaning.specs.declared.message.End.TheVariants.{Ips, Radio}
use Rattle.meaning.specs.declared.message.Plane.{Plane}
use Rattle.meaning.specs.declared.message.Plane.TheVariants.{Control, Data}
use Rattle.meaning.specs.Kinds.{among, known, naming, may_hold, one_for_each, stands_last, must_hold}
use Rattle.meaning.proofs.Amongst.{Each, amongst}
use Rattle.acceptance.specs.Account.{Listed, speaks_for}

-- where there may be one for each channel, the content begins with a Channel ID
pub each_names : (plane : Plane) (kind : ℕ) → among kind (one_for_each plane) ≡ true → among kind naming ≡ true
each_names Control = amongst _ (one_for_each Control) (refl, (refl, (refl, tt)))
each_names Data = amongst _ (one_for_each Data) tt

-- what must stand may stand
pub must_may : (plane : Plane) (end : End) → Each (λ kind. among kind (may_hold plane end) ≡ true) (must_hold plane end)
must_may Control Ips = (refl, tt)
must_may Control Radio = (refl, (refl, tt))
must_may Data Ips = (refl, (refl, tt))
must_may Data Radio = (refl, (refl, tt))

-- what stands last speaks for no channel
pub last_speaks : (plane : Plane) (end : End) (content : List ℕ) (kind : ℕ) → among kind (stands_last plane) ≡ true → speaks_for plane end kind content ≡ Some 0
last_speaks Control end content = amongst _ (stands_last Control) tt
last_speaks Data Ips content = amongst _ (stands_last Data) (refl, tt)
last_speaks Data Radio content = amongst _ (stands_last Data) (refl, tt)

-- an unknown option has nothing to be refused for
pub unknown_listed : (plane : Plane) (end : End) (kind : ℕ) (content : List ℕ) → among kind known ≡ false → Listed plane end kind content
unknown_listed plane end kind content u = record { kind_listed = λ k. clash (sym u ∙ k); length_listed_lem = λ k. clash (sym u ∙ k); value_listed_lem = λ k. clash (sym u ∙ k) }
