-- One channel with its own store, as the code is called: any calls and radio messages, one after the other, each with whatever outcome its contract allows.
use Rattle.std.specs.Prelude.{ℕ, ◌≡◌, List, [], ◌∷◌, Option}
use Rattle.meaning.specs.declared.message.Window.{Window}
use Rattle.ips_channel_rules.specs.Rules.{ChannelCall, Event, call, radio, Happened, called, heard, Terms}
use Rattle.ips_channel.specs.declared.state.DatalinkSetting.{DatalinkSetting}
use Rattle.ips_channel.specs.declared.state.Channel.{Channel}
use Rattle.ips_channel.specs.Channel.{heard_of}
use Rattle.ips_channel_calls.specs.Calls.{Reply, reply_to, Serves}

-- from a channel and its store: what it saw, what its caller got, and the channel and the store that were left
pub data ChannelRan (datalink : DatalinkSetting) : Channel → List ℕ → List Event → List Reply → Channel → List ℕ → Type 0 where
  over : {c : Channel} {store : List ℕ} → ChannelRan datalink c store [] [] c store
  served : {c c' d : Channel} {store store' last : List ℕ} {es : List Event} {replies : List Reply} {x : ChannelCall} {reply : Reply}
      → Serves datalink x c store reply c' store' → ChannelRan datalink c' store' es replies d last → ChannelRan datalink c store (call x ∷ es) (reply ∷ replies) d last
  told : {c c' d : Channel} {store last : List ℕ} {es : List Event} {replies : List Reply} {status : Option ℕ} {window : Option Window} → c' ≡ heard_of c status window
      → ChannelRan datalink c' store es replies d last → ChannelRan datalink c store (radio status window ∷ es) replies d last

-- the replies to what happened by the rules; nobody gets one for a radio message
abbrev pub replies_to : Terms → List Happened → List Reply
replies_to k [] = []
replies_to k (called x answer ∷ rest) = reply_to k x answer ∷ replies_to k rest
replies_to k (heard status window ∷ rest) = replies_to k rest
