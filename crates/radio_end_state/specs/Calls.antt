-- Document 02, §3: each call as a function of the state and the output, its answer, the state and every byte of the output afterwards. A refusal leaves state and
-- output as they were.
use Rattle.quantity.specs.declared.count.LinkInstanceId.{LinkInstanceId}
use Rattle.quantity.specs.declared.count.FlowSequence.{FlowSequence}
use Rattle.meaning.specs.declared.message.ContextBytes.{ContextBytes}
use Rattle.meaning.specs.declared.message.Plane.{Plane}
use Rattle.std.specs.Prelude.{ℕ, Bool, true, false, cond, not, ◌||◌, List, map, length, get_or, leb, Option, Some, None, Result, Ok, Err}
use Rattle.quantity.specs.declared.count.ByteCount.{ByteCount}
use Rattle.quantity.specs.declared.refusal.Refusal.{Refusal}
use Rattle.quantity.specs.Limits.{CHANNEL-IDS, HIGHEST-STATUS}
use Rattle.quantity.specs.Refusals.{NO-CHANNEL, NO-ROOM, OUTSIDE-LIMITS, NOT-WRITABLE}
use Rattle.wire.specs.Options.{over}
use Rattle.meaning.specs.declared.message.End.TheVariants as ends
use Rattle.meaning.specs.declared.message.Control.{Control}
use Rattle.meaning.specs.declared.message.Data.{Data}
use Rattle.writable.specs.Allowed.{instance_allowed, context_allowed}
use Rattle.writer.specs.Written.{no_room_of}
use Rattle.reader.specs.Readings.{Verdict, ControlReading, DataReading, read_control, read_data, plane_of, packet_of}
use Rattle.radio_end_state.specs.declared.answer.Answer.{Answer}
use Rattle.radio_end_state.specs.declared.channel.Channel.{Channel}
use Rattle.radio_end_state.specs.Channel.{hearing_on, queueing, with_queued, with_status}
use Rattle.radio_end_state.specs.State.{State, channel_at, with_channel, with_channels, with_context, with_instance}
use Rattle.radio_end_state.specs.Limits.{up_to, state_fits, is_configured, index_in}
use Rattle.radio_end_state.specs.Message.{message_bytes, differs}

-- what a call comes to
pub record After : Type 0 where
  pub answer : Result Answer Refusal
  pub state : State
  pub output : List ℕ

abbrev pub refused_at : Refusal → State → List ℕ → After
refused_at refusal s out = record { answer = Err refusal; state = s; output = out }

abbrev pub refused_by : ℕ → State → List ℕ → After
refused_by number s out = refused_at (record { number = number; place = 0 }) s out

-- ---- "there is a message to write": the message of the state afterwards, or 18, and then the state is that before
unfoldable pub telling : (say : ByteCount → Result Answer Refusal) (before after : State) (out : List ℕ) → After
telling say before after out =
    cond (no_room_of (length (message_bytes after)) (length out)) (refused_by NO-ROOM before out)
    (record { answer = say (record { 0 = length (message_bytes after) }); state = after; output = over (message_bytes after) out })

abbrev pub quietly : State → List ℕ → After
quietly s out = record { answer = Ok Answer.Quiet; state = s; output = out }

-- a change is made, and the message written where a status, the Context or a window differs from before
unfoldable pub settling : (before after : State) (out : List ℕ) → After
settling before after out = cond (differs before after) (telling (λ n. Ok (Answer.Unasked n)) before after out) (quietly after out)

-- one channel becomes another
abbrev pub changing : State → ℕ → (Channel → Channel) → List ℕ → After
changing s index change out = settling s (with_channel s index (change (channel_at s index))) out

-- ---- 19 first
abbrev pub within : State → List ℕ → After → After
within s out call = cond (state_fits s) call (refused_by OUTSIDE-LIMITS s out)

-- 12
abbrev pub configured : State → ℕ → List ℕ → After → After
configured s id out call = cond (is_configured s id) call (refused_by NO-CHANNEL s out)

-- 20
abbrev pub writable : Bool → State → List ℕ → After → After
writable allowed s out call = cond allowed call (refused_by NOT-WRITABLE s out)

-- THE RADIO'S OWN SIDE tells: 19, 12, 20 for a value or length that can't be written, 18
unfoldable pub status_told : State → (id value : ℕ) → List ℕ → After
status_told s id value out =
    within s out (configured s id out (writable (leb value HIGHEST-STATUS) s out (changing s (index_in s id) (λ c. with_status c value) out)))

-- "Queued sets the number, it doesn't add."
unfoldable pub queued_told : State → (id : ℕ) (bytes : ByteCount) → List ℕ → After
queued_told s id bytes out = within s out (configured s id out (changing s (index_in s id) (λ c. with_queued c bytes) out))

unfoldable pub context_told : State → Option (ContextBytes × ℕ) → List ℕ → After
context_told s context out = within s out (writable (context_allowed ends.Radio context) s out (settling s (with_context s context) out))

-- "Link Instance: kept without a message"
unfoldable pub link_told : State → Option (LinkInstanceId × ℕ) → List ℕ → After
link_told s instance out = within s out (writable (instance_allowed ends.Radio instance) s out (quietly (with_instance s instance) out))

-- "Tell(output): the message as it stands, changes nothing: 19, 18."
unfoldable pub told : State → List ℕ → After
told s out = within s out (telling (λ n. Ok (Answer.Answered n)) s s out)

-- ---- HEAR: 19, then 1 to 11 as the reader of the IPS end, then 12, then 18

-- what a control message states of a Channel ID
unfoldable pub sequence_in : Control → ℕ → Option FlowSequence
sequence_in message id = (get_or message.sequences id None)

abbrev pub is_stated : Option FlowSequence → Bool
is_stated None = false
is_stated (Some sequence) = true

-- it names no channel that is lacking
abbrev pub names_own : State → Control → ℕ → Bool
names_own s message id = not (is_stated (sequence_in message id)) || is_configured s id

unfoldable pub lacks_none : State → Control → Bool
lacks_none s message = up_to (names_own s message) CHANNEL-IDS

-- every channel hears what is stated of its Channel ID
unfoldable pub hearing_all : State → Control → State
hearing_all s message = with_channels s (map (λ (c : Channel). hearing_on c (sequence_in message c.setting.id)) s.channels)

-- "A control message is always answered, with windows as they are after hearing"
unfoldable pub control_heard : State → Control → List ℕ → After
control_heard s message out =
    cond (lacks_none s message) (telling (λ n. Ok (Answer.Answered n)) s (hearing_all s message) out) (refused_by NO-CHANNEL s out)

-- "a data message without one names channel 0"
abbrev pub channel_named : Option ℕ → ℕ
channel_named None = 0
channel_named (Some id) = id

abbrev pub sequence_counted : Option (ℕ × FlowSequence) → Option FlowSequence
sequence_counted None = None
sequence_counted (Some (id, sequence)) = Some sequence

-- its Flow Sequence is heard and its packet queued
unfoldable pub data_on : Data → ByteCount → Channel → Channel
data_on message bytes c = queueing (hearing_on c (sequence_counted message.sequence)) bytes

unfoldable pub data_heard : State → Data → (bytes : ByteCount) → List ℕ → After
data_heard s message bytes out =
    configured s (channel_named message.channel) out (changing s (index_in s (channel_named message.channel)) (data_on message bytes) out)

-- by the reader's verdict; it is asked for a message of its own plane only
abbrev pub by_verdict : Verdict → State → List ℕ → After → After
by_verdict Verdict.Accepted s out accepted = accepted
by_verdict Verdict.OtherPlane s out accepted = quietly s out
by_verdict (Verdict.Refused refusal) s out accepted = refused_at refusal s out

abbrev pub by_plane : Result Plane Refusal → State → List ℕ → (control data' : After) → After
by_plane (Ok Plane.Control) s out control data' = control
by_plane (Ok Plane.Data) s out control data' = data'
by_plane (Err refusal) s out control data' = refused_at refusal s out

abbrev pub control_read : State → ControlReading → List ℕ → After
control_read s reading out = by_verdict reading.verdict s out (control_heard s reading.message out)

abbrev pub data_read : State → DataReading → (bytes : ByteCount) → List ℕ → After
data_read s reading bytes out = by_verdict reading.verdict s out (data_heard s reading.message bytes out)

unfoldable pub heard : State → (datagram out : List ℕ) → After
heard s datagram out =
    within s out
    (by_plane (plane_of datagram) s out (control_read s (read_control ends.Ips s.datalink datagram) out)
    (data_read s (read_data ends.Ips s.datalink datagram) (record { 0 = length (packet_of datagram) }) out))
