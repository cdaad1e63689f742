-- Document 01, "A channel's life": "Radio control message accepted", as document 02 §2 mends it.
use Rattle.quantity.specs.declared.count.LinkInstanceId.{LinkInstanceId}
use Rattle.meaning.specs.declared.message.ContextBytes.{ContextBytes}
use Rattle.std.specs.Prelude.{ℕ, Bool, true, false, not, ◌&&◌, map, get_or, eqb, Option, Some, None}
use Rattle.meaning.specs.declared.message.Window.{Window}
use Rattle.meaning.specs.declared.message.Control.{Control}
use Rattle.ips_channel.specs.declared.state.Channel.{Channel}
use Rattle.ips_channel.specs.Channel.{heard_of}
use Rattle.ips_state.specs.State.{State}

-- what the message states of a channel: nothing, where it doesn't name it
abbrev pub status_in : Control → ℕ → Option ℕ
status_in message id = (get_or message.statuses id None)

abbrev pub window_in : Control → ℕ → Option Window
window_in message id = (get_or message.windows id None)

-- "a configured channel that it names takes its Status; one that it doesn't name is not reported. For each flow-controlled channel: .."
unfoldable pub heard_from : Control → Channel → Channel
heard_from message c = heard_of c (status_in message c.setting.id) (window_in message c.setting.id)

-- "Link Instance is kept when given."
abbrev pub kept_instance : Option (LinkInstanceId × ℕ) → Option (LinkInstanceId × ℕ) → Option (LinkInstanceId × ℕ)
kept_instance before None = before
kept_instance before (Some (id, length)) = Some (id, length)

-- every configured channel hears it: "Unconfigured channels are skipped."
-- Document 02 §2: "a Context that follows an accepted control message without one is due even if equal to the older", so the message's own is kept, absent where it has none.
unfoldable pub heard_by : Control → State → State
heard_by message s =
    record {
      datalink = s.datalink;
      channels = map (heard_from message) s.channels;
      instance = kept_instance s.instance message.instance;
      context = message.context;
      pacer = s.pacer;
    }

-- Document 02, §1, a silence: "every channel becomes not reported and every flow-controlled one has no window. Packets stay waiting."
unfoldable pub silenced : Channel → Channel
silenced c = heard_of c None (Some Window.Empty)

unfoldable pub silenced_by : State → State
silenced_by s = record { datalink = s.datalink; channels = map silenced s.channels; instance = s.instance; context = s.context; pacer = s.pacer }

-- By the Context of the accepted control message just before. Document 01: "A mobility message is reported due when a Context comes that differs from the last Context
-- received (in length or bytes), or is the first."; document 02 §2: "also .. when the control message just before had no Context at all".
abbrev pub due_of : Option (ContextBytes × ℕ) → Option (ContextBytes × ℕ) → Bool
due_of before None = false
due_of None (Some (bytes, length)) = true
due_of (Some (before, long)) (Some (bytes, length)) = not (eqb bytes.0 before.0 && eqb length long)
