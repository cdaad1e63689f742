-- Demand 3, of calls that are each performed as they should be: "Each channel answers, sends and holds what a simple channel counting in numbers that never wrap would, starting at its
-- first sequence, seeing its own calls and its part of each accepted radio message." Document 02, §1: and each silence.
use Rattle.std.specs.Prelude.{ℕ, List, [], ◌∷◌, ◌++◌, map, ◌≡◌}
use Rattle.store.specs.Waiting.{Holds}
use Rattle.ips_channel_rules.specs.Rules.{history, final}
use Rattle.ips_channel_rules.specs.Simple.{simple, is_waiting, having}
use Rattle.ips_channel_rules.specs.Agreement.{Agrees}
use Rattle.ips_channel_calls.specs.ChannelRan.{replies_to}
use Rattle.ips_state.specs.State.{Configuration, start_at}
use Rattle.ips_state.specs.Memory.{World, channel_in, store_in}
use Rattle.ips_run.specs.Calling.{condition_in}
use Rattle.ips_run.specs.Run.{Call, on, radio, pace, query, if_own}
use Rattle.ips_run.specs.Demand.{id_at, ruled, seen, simply_at}
use Rattle.ips_run.specs.Settling.{ledger_at}
use Rattle.ips_calls.specs.Replies.{EndpointReply, of_channel}

-- ---- the replies to "its own calls"
abbrev pub if_to_own : ℕ → Call → EndpointReply → List EndpointReply
if_to_own own (on id c) x = if_own own id x
if_to_own own (radio time datagram) x = []
if_to_own own (pace time) x = []
if_to_own own (query out) x = []

abbrev pub own_replies : ℕ → List Call → List EndpointReply → List EndpointReply
own_replies own [] xs = []
own_replies own (c ∷ cs) [] = []
own_replies own (c ∷ cs) (x ∷ xs) = if_to_own own c x ++ own_replies own cs xs

-- ---- "answers, sends": its replies are those for the simple channel's history; "and holds": what it holds agrees, and queue and store have what waits, every byte
pub record ServedSimply (k : Configuration) (index : ℕ) (cs : List Call) (xs : List EndpointReply) (last : World) : Type 0 where
  pub replies : own_replies (id_at k index) cs xs ≡ map of_channel (replies_to (ruled k index) (history simple (ruled k index) (seen k index cs) (simply_at k index)))
  pub holds : Agrees (condition_in last index) (final simple (ruled k index) (seen k index cs) (simply_at k index))
  pub keeps : Holds (start_at k index).setting.size.0 (having is_waiting (ledger_at k index cs)) (channel_in last index).queue (store_in last index)
