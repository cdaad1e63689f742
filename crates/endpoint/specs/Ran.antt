-- Demand 3's "any sequence of calls", as the code is called: each call takes the words and the lent memory as the one before left them, and gives what its own
-- contract says.
use Rattle.std.specs.Prelude.{List, [], ◌∷◌}
use Rattle.ips_run.specs.Run.{Call}
use Rattle.ips_calls.specs.Replies.{EndpointReply}
use Rattle.endpoint.specs.Lent.{Lent}
use Rattle.endpoint.specs.Calls.{PerformedIn}

-- from words and memory: the calls, the replies, and the words and the memory that were left
pub data RanIn : Lent → List Call → List EndpointReply → Lent → Type 0 where
  over : {l : Lent} → RanIn l [] [] l
  ran : {l l' last : Lent} {c : Call} {x : EndpointReply} {cs : List Call} {xs : List EndpointReply} → PerformedIn c l x l' → RanIn l' cs xs last → RanIn l (c ∷ cs) (x ∷ xs) last
