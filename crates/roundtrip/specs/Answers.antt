-- What a writer's outcome comes to: where each answer is given, and the bytes that it leaves.
use Rattle.std.specs.Prelude.{ℕ, ◌≤◌, ◌≡◌, List, Bool, true, false, ◌↔◌, length, Result, Ok, Err}
use Rattle.quantity.specs.declared.count.ByteCount.{ByteCount}
use Rattle.quantity.specs.declared.refusal.Refusal.{Refusal}
use Rattle.quantity.specs.Limits.{LONGEST-DATAGRAM}
use Rattle.wire.specs.Options.{over}

-- number 18, the other way round: neither is "the output .. shorter than it" nor is it "over 65,507 bytes"
pub record Room (message out : List ℕ) : Type 0 where
  pub in_output : length message ≤ length out
  pub in_datagram : length message ≤ LONGEST-DATAGRAM

-- a writer's refusal is at place 0
abbrev pub refused_by : ℕ → Result ByteCount Refusal
refused_by number = Err (record { number = number; place = 0 })

-- a message that was written: it was allowed, had room, was counted, and stands over the first bytes of the output
pub record Sent (allowed : Bool) (message out : List ℕ) (count : ByteCount) (out' : List ℕ) : Type 0 where
  pub is_allowed : allowed ≡ true
  pub room : Room message out
  pub count_is : count ≡ record { 0 = length message }
  pub bytes_are : out' ≡ over message out

pub record Exact (allowed : Bool) (message out : List ℕ) (answer : Result ByteCount Refusal) (out' : List ℕ) : Type 0 where
  -- an allowed meaning is never refused where there is room
  pub written : allowed ≡ true → Room message out → (answer ≡ Ok (record { 0 = length message })) × (out' ≡ over message out)
  pub sent : (count : ByteCount) → answer ≡ Ok count → Sent allowed message out count out'
  -- number 20 exactly where the meaning isn't allowed
  pub disallowed : (answer ≡ refused_by 20) ↔ (allowed ≡ false)
  -- number 18 exactly where it is allowed and there is no room
  pub no_room : (answer ≡ refused_by 18) ↔ ((allowed ≡ true) × (Room message out → ⊥))
  -- a refusal leaves every byte
  pub stays : (refusal : Refusal) → answer ≡ Err refusal → out' ≡ out
