-- Demand 3's "any sequence of calls" over states: each call takes the state and the lent memory as the one before left them, and is performed as it should be. The
-- code's own run is `RanIn` of `endpoint`.
use Rattle.std.specs.Prelude.{List, [], ◌∷◌}
use Rattle.ips_state.specs.Memory.{World}
use Rattle.ips_run.specs.Run.{Call, after}
use Rattle.ips_calls.specs.Replies.{EndpointReply, reply_of}
use Rattle.ips_calls.specs.Calls.{Performed}

-- from a world: the calls, the replies, and the world that was left
pub data Ran : World → List Call → List EndpointReply → World → Type 0 where
  over : {w : World} → Ran w [] [] w
  ran : {w w' last : World} {c : Call} {x : EndpointReply} {cs : List Call} {xs : List EndpointReply} → Performed c w x w' → Ran w' cs xs last → Ran w (c ∷ cs) (x ∷ xs) last

-- the replies by the definitions
abbrev pub replies_of : List Call → World → List EndpointReply
replies_of [] w = []
replies_of (c ∷ cs) w = reply_of c w ∷ replies_of cs (after c w)
