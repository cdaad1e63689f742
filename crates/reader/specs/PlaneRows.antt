-- Each case of the plane's answer with document 01's number and values: "1: datagram over 65,507 bytes"; "2: header cut short (the empty datagram too) or not allowed
-- by 3.1"; place "0 for all others". Section 3.1: a version of 4 bits, which is 1, the Data Plane flag, 3 unused bits.
use Rattle.quantity.specs.declared.refusal.Refusal.{Refusal}
use Rattle.meaning.specs.declared.message.Plane.{Plane}
use Rattle.std.specs.Prelude.{ℕ, ◌/◌, ◌%◌, ◌≤◌, ◌<◌, List, [], ◌∷◌, ◌≡◌, length, Result, Ok, Err}

pub data PlaneRow : List ℕ → Result Plane Refusal → Type 0 where
  too_long : {datagram : List ℕ} → 65507 < length datagram → PlaneRow datagram (Err (record { number = 1; place = 0 }))
  empty : PlaneRow [] (Err (record { number = 2; place = 0 }))
  other_version : {header : ℕ} {body : List ℕ} → length (header ∷ body) ≤ 65507 → (header / 16 ≡ 1 → ⊥) → PlaneRow (header ∷ body) (Err (record { number = 2; place = 0 }))
  control_plane : {header : ℕ} {body : List ℕ} → length (header ∷ body) ≤ 65507 → header / 16 ≡ 1 → header / 8 % 2 ≡ 0 → PlaneRow (header ∷ body) (Ok Plane.Control)
  data_plane : {header : ℕ} {body : List ℕ} → length (header ∷ body) ≤ 65507 → header / 16 ≡ 1 → header / 8 % 2 ≡ 1 → PlaneRow (header ∷ body) (Ok Plane.Data)
