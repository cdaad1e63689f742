-- Document 02, §14, as the code is called: both ends hold their states in lent words, and each call gives what its own contract says.
use Rattle.quantity.specs.declared.refusal.Refusal.{Refusal}
use Rattle.std.specs.Prelude.{ℕ, List, Result}
use Rattle.quantity.specs.declared.count.ByteCount.{ByteCount}
use Rattle.radio_end_state.specs.declared.answer.Answer.{Answer}
use Rattle.radio_end_state.specs.declared.channel.Channel.{Channel}
use Rattle.radio_end_state.specs.State as radio
use Rattle.radio_end_run.specs.Run as station
use Rattle.radio_end_words.specs.Words as words
use Rattle.radio_end.specs.Ran as far
use Rattle.ips_channel_rules.specs.Rules.{Terms}
use Rattle.ips_run.specs.Run.{Call, sees}
use Rattle.ips_calls.specs.Replies.{EndpointReply, handed_out}
use Rattle.endpoint.specs.Lent.{Lent, world_in}
use Rattle.endpoint.specs.Calls.{PerformedIn}
use Rattle.joined.specs.Net.{Heard}
use Rattle.joined_ends.specs.Ends.{written_by, Watched, Ends, MayAct, MayCall, acted, told, allowance_at, heard_in, heard_after}

-- what the endpoint holds, the words of the radio's end, and the watched channel's numbers beside them
pub record Lents : Type 0 where
  pub own : Lent
  pub far : List ℕ
  pub watched : Watched

-- the ends that they stand for
abbrev pub ends_in : Lents → Ends
ends_in x = record { world = world_in x.own; station = words.state_in x.far; watched = x.watched }

-- what is asked of a window that is written, by the datagrams written, the highest heard and how far the window lies above it: `bound_if` is the paper's; or nothing
abbrev pub Asking : Type 1
Asking = List (List ℕ) → Heard → ByteCount → Type 0

abbrev pub nothing_asked : Asking
nothing_asked datagrams heard allowance = Unit {0}

abbrev pub channel_in : (j : ℕ) → List ℕ → Channel
channel_in j left = radio.channel_at (words.state_in left) j

-- a call of the endpoint, by its reply and by the words and the memory that it left
abbrev pub after_acting : Terms → Call → EndpointReply → Lent → Lents → Lents
after_acting k c reply left x = record { own = left; far = x.far; watched = acted k (sees k.id c (world_in x.own)) (handed_out reply) x.watched }

module _ (k : Terms) (j : ℕ) where
  -- a call of the radio's end, by its answer and by the words and the output that it left
  abbrev pub after_calling : station.Call → Result Answer Refusal → (left out : List ℕ) → Lents → Lents
  after_calling c answer left out x = record { own = x.own; far = left; watched = told (heard_in k c (ends_in x)) (channel_in j left) (written_by answer out) x.watched }

  pub data Step (asked : Asking) : Lents → Lents → Type 0 where
    acts : (x : Lents) (c : Call) (reply : EndpointReply) (left : Lent) → MayAct c x.watched → PerformedIn c x.own reply left → Step asked x (after_acting k c reply left x)
    calls : (x : Lents) (c : station.Call) (answer : Result Answer Refusal) (left out : List ℕ) → MayCall k c x.watched → far.PerformedIn c x.far answer left out
        → asked (written_by answer out) (heard_after k c (ends_in x)) (allowance_at (channel_in j left)) → Step asked x (after_calling c answer left out x)
