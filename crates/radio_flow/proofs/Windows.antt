-- The test for a change of a window tells whether two are the same. Assumes nothing.
use Rattle.std.specs.Prelude.{Option, Some, None}
use Prim.Native.Nat.{ℕ}
use mathlib.Core.Path.{◌≡◌, refl, ap}
use mathlib.Core.Bool.{true}
use borrow.Author.Tests.{eqb-true, eq-eqb}
use Rattle.facts.proofs.Tests.{clash}
use Rattle.meaning.specs.declared.message.Window.{Window}
use Rattle.radio_flow.specs.Granting.{same_window}

pub same_window_lem : (a b : Option Window) → same_window a b ≡ true → a ≡ b
same_window_lem None None e = refl
same_window_lem None (Some Window.Empty) e = clash e
same_window_lem None (Some (Window.Given k)) e = clash e
same_window_lem (Some Window.Empty) None e = clash e
same_window_lem (Some Window.Empty) (Some Window.Empty) e = refl
same_window_lem (Some Window.Empty) (Some (Window.Given k)) e = clash e
same_window_lem (Some (Window.Given n)) None e = clash e
same_window_lem (Some (Window.Given n)) (Some Window.Empty) e = clash e
same_window_lem (Some (Window.Given n)) (Some (Window.Given k)) e = ap (λ (x : ℕ). Some (Window.Given (record { 0 = x }))) (eqb-true n.0 k.0 e)

pub window_same : (a : Option Window) → same_window a a ≡ true
window_same None = refl
window_same (Some Window.Empty) = refl
window_same (Some (Window.Given n)) = eq-eqb n.0 n.0 refl
