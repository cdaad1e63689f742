-- A writer's outcome, from what its code learns on the way. Assumes nothing.
use Rattle.std.specs.Prelude.{Result, Ok, Err}
use Rattle.quantity.specs.declared.count.ByteCount.{ByteCount}
use Rattle.quantity.specs.declared.refusal.Refusal.{Refusal}
use Prim.Native.Nat.{ℕ, ◌≤◌}
use mathlib.Core.Path.{◌≡◌, refl, sym, ap, ◌∙◌}
use mathlib.Core.Bool.{Bool, true, false, not, ◌||◌}
use mathlib.Core.List.{List}
use native.Mathlib.Omega.{arith}
use borrow.Author.Tests.{not-true, not-false, ltb-false}
use lib.Dec.{ltb}
use lib.ListN.{length}
use Rattle.quantity.specs.Limits.{LONGEST-DATAGRAM}
use Rattle.quantity.specs.Refusals.{NO-ROOM, NOT-WRITABLE}
use Rattle.wire.specs.Options.{Laid}
use Rattle.writer.specs.Written.{no_room_of, Outcome}

pub outcome_refused : {allowed may : Bool} {message out : List ℕ} {a : Result ByteCount Refusal} → may ≡ allowed → not may ≡ true
    → a ≡ Err (record { number = NOT-WRITABLE; place = 0 }) → Outcome allowed message out a out
outcome_refused {may = may} e t a = let n = not-true may t in record { answers = a ∙ rw (← e, n); bytes_are = rw (← e, n) }

-- what the code knows where 18 is judged: the message may be written, and whether there is no room for it
pub record Judged (allowed : Bool) (message out : List ℕ) (full : Bool) : Type 0 where
  pub yes : allowed ≡ true
  pub room_is : no_room_of (length message) (length out) ≡ full

pub judged_by_lem : {allowed may full : Bool} {message out : List ℕ} {size : ℕ} → may ≡ allowed → not may ≡ false → size ≡ length message → full ≡ no_room_of size (length out)
    → Judged allowed message out full
judged_by_lem {may = may} {out = out} e t l f = record { yes = sym e ∙ not-false may t; room_is = sym (f ∙ ap (λ (n : ℕ). no_room_of n (length out)) l) }

module _ {allowed full : Bool} {message out : List ℕ} (j : Judged allowed message out full) where
  pub outcome_no_room : {a : Result ByteCount Refusal} → full ≡ true → a ≡ Err (record { number = NO-ROOM; place = 0 }) → Outcome allowed message out a out
  outcome_no_room k a = record { answers = a ∙ rw (j.yes, j.room_is, k); bytes_are = rw (j.yes, j.room_is, k) }

  pub outcome_wrote : {r : ℕ} {exit : List ℕ} → full ≡ false → Laid message out exit r → Outcome allowed message out (Ok (record { 0 = r })) exit
  outcome_wrote k laid = record { answers = rw (j.yes, j.room_is, k, laid.count_is); bytes_are = rw (j.yes, j.room_is, k) laid.bytes_are }

  pub room_enough : full ≡ false → length message ≤ length out
  room_enough k = go (ltb (length out) (length message)) refl (j.room_is ∙ k)
    where
      go : (b : Bool) → ltb (length out) (length message) ≡ b → (b || ltb LONGEST-DATAGRAM (length message)) ≡ false → length message ≤ length out
      go true p q = let z : ◌≡◌ {A = ℕ} 0 1 = cc in absurd (omega arith)
      go false p q = ltb-false (length out) (length message) p
