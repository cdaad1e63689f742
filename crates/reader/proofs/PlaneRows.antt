-- Promise: the plane of every datagram is one of the rows. Assumes nothing.
use Rattle.std.specs.Prelude.{Result, Ok, Err}
use Rattle.quantity.specs.declared.refusal.Refusal.{Refusal}
use Rattle.meaning.specs.declared.message.Plane.{Plane}
use Prim.Native.Nat.{ℕ, suc, ◌/◌, ◌%◌}
use mathlib.Core.Bool.{Bool, true, false, cond}
use mathlib.Core.List.{List, [], ◌∷◌}
use mathlib.Core.Path.{◌≡◌, refl}
use native.Mathlib.Omega.{arith}
use borrow.Author.Tests.{eqb-true, eqb-false, ne_eqb, ltb-true, ltb-false}
use lib.Dec.{eqb, ltb}
use lib.ListN.{length}
use Rattle.reader.specs.Readings.{plane_of}
use Rattle.reader.specs.PlaneRows.{PlaneRow, too_long, empty, other_version, control_plane, data_plane}

abbrev numbered : ℕ → Result Plane Refusal
numbered number = Err (record { number = number; place = 0 })

pub plane_row : (datagram : List ℕ) → PlaneRow datagram (plane_of datagram)
unfolding plane_of
plane_row [] = empty
plane_row (header ∷ body) =
    rw (ne_eqb (suc (length body)) 0 (λ e. omega arith))
    (go (ltb 65507 (suc (length body))) refl (eqb (header / 16) 1) refl (eqb (header / 8 % 2) 0) refl)
  where
    go : (long : Bool) → ltb 65507 (suc (length body)) ≡ long → (version : Bool) → eqb (header / 16) 1 ≡ version → (clear : Bool) → eqb (header / 8 % 2) 0 ≡ clear
        → PlaneRow (header ∷ body) (cond long (numbered 1) (cond version (cond clear (Ok Plane.Control) (Ok Plane.Data)) (numbered 2)))
    go true l version v clear c = too_long (ltb-true _ _ l)
    go false l false v clear c = other_version (ltb-false _ _ l) (eqb-false _ _ v)
    go false l true v true c = control_plane (ltb-false _ _ l) (eqb-true _ _ v) (eqb-true _ _ c)
    go false l true v false c = let n = eqb-false (header / 8 % 2) 0 c in data_plane {header = header} (ltb-false _ _ l) (eqb-true _ _ v) (omega arith)
