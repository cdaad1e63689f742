-- A reader by the plane of its datagram, for any sort of message; and what a caller who asks for the plane first knows. Assumes nothing.
use Rattle.std.specs.Prelude.{Result, Ok, Err}
use Rattle.meaning.specs.declared.message.Plane.{Plane}
use Prim.Native.Nat.{ℕ}
use mathlib.Core.Path.{◌≡◌, refl, sym, ◌∙◌}
use mathlib.Core.List.{List}
use mathlib.Core.Bool.{Bool, true, false, cond}
use native.Mathlib.Omega.{arith}
use borrow.Author.Tests.{eqb-true, eqb-false}
use lib.ListN.{length, get_or, drop}
use lib.Dec.{eqb, ltb}
use Rattle.quantity.specs.declared.count.DatalinkId.{DatalinkId}
use Rattle.quantity.specs.declared.refusal.Refusal.{Refusal}
use Rattle.quantity.specs.Limits.{LONGEST-DATAGRAM}
use Rattle.quantity.specs.Refusals.{LONG-DATAGRAM, HEADER}
use Rattle.wire.specs.Options.{split}
use Rattle.meaning.specs.declared.message.End.{End}
use Rattle.read_rules.specs.Judging.{Rules, judge}
use Rattle.read_rules.specs.Sorts.{rules_of}
use Rattle.read_control.specs.Message.{control_refused, control_other, control_sort}
use Rattle.read_data.specs.Message.{data_refused, data_other, data_sort}
use Rattle.reader.specs.Header.{CURRENT-VERSION, version_of, flag_of, flag, read_with}
use Rattle.reader.specs.Readings.{Verdict, read_control, read_data, plane_of}

module _ {A B : Type 0} (R : Rules A B) (s : List ℕ) where
  -- the options, if a Data Plane flag is that of the plane
  abbrev pub flagged : ℕ → B
  flagged n = cond (eqb n (flag R.plane)) (judge R (split (drop 1 s)) 1 R.blank) R.other

  abbrev pub by_plane : Result Plane Refusal → B
  by_plane (Ok Plane.Control) = flagged 0
  by_plane (Ok Plane.Data) = flagged 1
  by_plane (Err r) = R.refuse r.number r.place

  pub by_plane_lem : {p : Result Plane Refusal} → plane_of s ≡ p → by_plane p ≡ read_with R s
  unfolding read_with plane_of
  by_plane_lem e = sym (go (ltb LONGEST-DATAGRAM (length s)) (eqb (length s) 0) (eqb (version_of (get_or s 0 0)) CURRENT-VERSION) (eqb (flag_of (get_or s 0 0)) 0) refl ∙ rw e)
    where
      go : (long empty version clear : Bool) → eqb (flag_of (get_or s 0 0)) 0 ≡ clear
          → cond long (R.refuse LONG-DATAGRAM 0) (cond empty (R.refuse HEADER 0) (cond version (flagged (flag_of (get_or s 0 0))) (R.refuse HEADER 0)))
          ≡ by_plane (cond long (Err (record { number = LONG-DATAGRAM; place = 0 })) (cond empty (Err (record { number = HEADER; place = 0 })) (cond version (cond clear (Ok Plane.Control) (Ok Plane.Data)) (Err (record { number = HEADER; place = 0 })))))
      go true empty version clear q = refl
      go false true version clear q = refl
      go false false false clear q = refl
      go false false true true q = rw (eqb-true (flag_of (get_or s 0 0)) 0 q)
      go false false true false q = let n = eqb-false (flag_of (get_or s 0 0)) 0 q in let one : flag_of (get_or s 0 0) ≡ 1 = omega arith in rw one

-- ---- for a caller who goes by the plane first

-- what 1 or 2 refuses, each reader refuses by the same number and place
pub plane_refuses : (end : End) (id : DatalinkId) (s : List ℕ) {r : Refusal} → plane_of s ≡ Err r
    → (read_control end id s ≡ control_refused r.number r.place) × (read_data end id s ≡ data_refused r.number r.place)
unfolding read_control read_data
plane_refuses end id s e = (sym (by_plane_lem (rules_of (control_sort end id)) s e), sym (by_plane_lem (rules_of (data_sort end id)) s e))

-- a reader that is asked for a message of the other plane accepts nothing
pub data_of_control : (end : End) (id : DatalinkId) (s : List ℕ) → plane_of s ≡ Ok Plane.Control → (read_data end id s).verdict ≡ Verdict.OtherPlane
unfolding read_data data_other
data_of_control end id s p = rw (← (by_plane_lem (rules_of (data_sort end id)) s p)) refl

pub control_of_data : (end : End) (id : DatalinkId) (s : List ℕ) → plane_of s ≡ Ok Plane.Data → (read_control end id s).verdict ≡ Verdict.OtherPlane
unfolding read_control control_other
control_of_data end id s p = rw (← (by_plane_lem (rules_of (control_sort end id)) s p)) refl
