-- Document 01's calls on a state: each leaves one reply and one world, every lent byte fixed.
use Rattle.std.specs.Prelude.{ℕ, List, ◌≡◌}
use Rattle.ips_state.specs.State.{State}
use Rattle.ips_state.specs.Memory.{World}
use Rattle.ips_run.specs.Run.{Call, after}
use Rattle.ips_calls.specs.Replies.{EndpointReply, reply_of}

-- a state, and the memory that is lent with it
abbrev pub lending : State → List ℕ → World
lending s memory = record { state = s; memory = memory }

-- A CALL AS IT SHOULD BE, on a state (the contract of the code, on words, is `PerformedIn` of `endpoint`)
pub record Performed (c : Call) (w : World) (x : EndpointReply) (w' : World) : Type 0 where
  pub reply_is : x ≡ reply_of c w
  pub world_is : w' ≡ after c w

-- a call that takes no memory leaves any
abbrev pub PerformedWithAny : Call → State → EndpointReply → State → Type 0
PerformedWithAny c s x s' = (memory : List ℕ) → Performed c (lending s memory) x (lending s' memory)
