-- Document 02, §3, for any sequence of calls: what each comes to, and what one channel hears, is told and has queued by it.
use Rattle.quantity.specs.declared.count.LinkInstanceId.{LinkInstanceId}
use Rattle.quantity.specs.declared.refusal.Refusal.{Refusal}
use Rattle.meaning.specs.declared.message.ContextBytes.{ContextBytes}
use Rattle.meaning.specs.declared.message.Plane.{Plane}
use Rattle.std.specs.Prelude.{ℕ, Bool, true, false, cond, ◌&&◌, List, [], ◌∷◌, ◌++◌, eqb, length, Option, Some, None, Result, Ok, Err}
use Rattle.quantity.specs.declared.count.ByteCount.{ByteCount}
use Rattle.quantity.specs.declared.count.DatalinkId.{DatalinkId}
use Rattle.quantity.specs.declared.count.FlowSequence.{FlowSequence}
use Rattle.wire.specs.Numbers.{Octets}
use Rattle.meaning.specs.declared.message.End.TheVariants as ends
use Rattle.meaning.specs.declared.message.Control.{Control}
use Rattle.meaning.specs.declared.message.Data.{Data}
use Rattle.reader.specs.Readings.{Verdict, read_control, read_data, plane_of, packet_of}
use Rattle.radio_flow.specs.Granting.{queued_on}
use Rattle.radio_end_state.specs.declared.answer.Answer.{Answer}
use Rattle.radio_end_state.specs.State.{State}
use Rattle.radio_end_state.specs.Calls.{After, heard, status_told, queued_told, context_told, link_told, told, sequence_in, channel_named, sequence_counted}

-- ---- the calls: a datagram of the IPS end heard; a status, bytes queued, the Context and the Link Instance told; the message as it stands
pub data Call : Type 0 where
  hear : (datagram out : List ℕ) → Call
  status : (id value : ℕ) (out : List ℕ) → Call
  queued : (id : ℕ) (bytes : ByteCount) (out : List ℕ) → Call
  context : (told : Option (ContextBytes × ℕ)) (out : List ℕ) → Call
  link : (instance : Option (LinkInstanceId × ℕ)) → Call
  tell : (out : List ℕ) → Call

unfoldable pub after_call : Call → State → After
after_call (hear datagram out) s = heard s datagram out
after_call (status id value out) s = status_told s id value out
after_call (queued id bytes out) s = queued_told s id bytes out
after_call (context k out) s = context_told s k out
after_call (link instance) s = link_told s instance []
after_call (tell out) s = told s out

abbrev pub state_after : Call → State → State
state_after c s = (after_call c s).state

-- each call on the state that the one before left
abbrev pub states_after : List Call → State → State
states_after [] s = s
states_after (c ∷ cs) s = states_after cs (state_after c s)

-- what becomes of something call by call, each on the state that the one before left
abbrev pub through : {A : Type 0} → (Call → State → A → A) → List Call → State → A → A
through by [] s x = x
through by (c ∷ cs) s x = through by cs (state_after c s) (by c s x)

-- what each comes to: answer, state and output
abbrev pub answers_of : List Call → State → List After
answers_of [] s = []
answers_of (c ∷ cs) s = after_call c s ∷ answers_of cs (state_after c s)

-- "Any refusal leaves state and output as they were": whether a call is not refused
abbrev pub is_accepted : Result Answer Refusal → Bool
is_accepted (Ok (Answer.Answered bytes)) = true
is_accepted (Ok (Answer.Unasked bytes)) = true
is_accepted (Ok Answer.Quiet) = true
is_accepted (Err refusal) = false

abbrev pub accepted_by : Call → State → Bool
accepted_by c s = is_accepted (after_call c s).answer

-- ---- what a datagram of the IPS end is: refused, a control message, or a data message with a packet of so many bytes
pub data Received : Type 0 where
  dropped : Received
  stated : Control → Received
  carried : Data → (bytes : ByteCount) → Received

abbrev pub if_read : Verdict → Received → Received
if_read Verdict.Accepted received = received
if_read Verdict.OtherPlane received = dropped
if_read (Verdict.Refused refusal) received = dropped

abbrev pub on_plane : Result Plane Refusal → (control data' : Received) → Received
on_plane (Ok Plane.Control) control data' = control
on_plane (Ok Plane.Data) control data' = data'
on_plane (Err refusal) control data' = dropped

unfoldable pub received_in : DatalinkId → List ℕ → Received
received_in datalink datagram =
    on_plane (plane_of datagram) (if_read (read_control ends.Ips datalink datagram).verdict (stated (read_control ends.Ips datalink datagram).message))
    (if_read (read_data ends.Ips datalink datagram).verdict (carried (read_data ends.Ips datalink datagram).message (record { 0 = length (packet_of datagram) })))

-- ---- "Each Flow Sequence of a flow-controlled channel": what it states of a Channel ID, a data message of the channel that it names alone
abbrev pub stated_of : (id : ℕ) → Received → Option FlowSequence
stated_of id dropped = None
stated_of id (stated message) = sequence_in message id
stated_of id (carried message bytes) = cond (eqb (channel_named message.channel) id) (sequence_counted message.sequence) None

abbrev pub given : Option FlowSequence → List FlowSequence
given None = []
given (Some sequence) = sequence ∷ []

-- a Channel ID hears of a call what an accepted message states of it; of a refused call, 18 too, nothing
unfoldable pub heard_by : Call → State → (id : ℕ) → List FlowSequence
heard_by (hear datagram out) s id = cond (accepted_by (hear datagram out) s) (given (stated_of id (received_in s.datalink datagram))) []
heard_by (status own value out) s id = []
heard_by (queued own bytes out) s id = []
heard_by (context k out) s id = []
heard_by (link instance) s id = []
heard_by (tell out) s id = []

abbrev pub heard_through : List Call → State → (id : ℕ) → List FlowSequence
heard_through [] s id = []
heard_through (c ∷ cs) s id = heard_by c s id ++ heard_through cs (state_after c s) id

-- ---- "A data message's packet is queued: its length is added to the bytes queued on its channel."
abbrev pub packet_on : (id : ℕ) → Received → ByteCount → ByteCount
packet_on id dropped bytes = bytes
packet_on id (stated message) bytes = bytes
packet_on id (carried message size) bytes = cond (eqb (channel_named message.channel) id) (queued_on bytes size) bytes

-- the bytes queued on a Channel ID after a call: "Queued sets the number, it doesn't add."
unfoldable pub queued_by : Call → State → (id : ℕ) → ByteCount → ByteCount
queued_by (hear datagram out) s id bytes = cond (accepted_by (hear datagram out) s) (packet_on id (received_in s.datalink datagram) bytes) bytes
queued_by (status own value out) s id bytes = bytes
queued_by (queued own number out) s id bytes = cond (accepted_by (queued own number out) s && eqb own id) number bytes
queued_by (context k out) s id bytes = bytes
queued_by (link instance) s id bytes = bytes
queued_by (tell out) s id bytes = bytes

abbrev pub queued_through : List Call → State → (id : ℕ) → ByteCount → ByteCount
queued_through cs s id bytes = through (λ c t. queued_by c t id) cs s bytes

-- ---- the status of a Channel ID after a call: only `status` of it changes it
unfoldable pub status_by : Call → State → (id : ℕ) → ℕ → ℕ
status_by (hear datagram out) s id before = before
status_by (status own value out) s id before = cond (accepted_by (status own value out) s && eqb own id) value before
status_by (queued own bytes out) s id before = before
status_by (context k out) s id before = before
status_by (link instance) s id before = before
status_by (tell out) s id before = before

abbrev pub status_through : List Call → State → (id : ℕ) → ℕ → ℕ
status_through cs s id before = through (λ c t. status_by c t id) cs s before

-- ---- the Context and the Link Instance after a call: only `context` and `link` change them
unfoldable pub context_by : Call → State → Option (ContextBytes × ℕ) → Option (ContextBytes × ℕ)
context_by (hear datagram out) s before = before
context_by (status own value out) s before = before
context_by (queued own bytes out) s before = before
context_by (context k out) s before = cond (accepted_by (context k out) s) k before
context_by (link instance) s before = before
context_by (tell out) s before = before

unfoldable pub instance_by : Call → State → Option (LinkInstanceId × ℕ) → Option (LinkInstanceId × ℕ)
instance_by (hear datagram out) s before = before
instance_by (status own value out) s before = before
instance_by (queued own bytes out) s before = before
instance_by (context k out) s before = before
instance_by (link instance) s before = cond (accepted_by (link instance) s) instance before
instance_by (tell out) s before = before

-- ---- what is called: a datagram is made of bytes
abbrev pub bytes_in : Call → Type 0
bytes_in (hear datagram out) = Octets datagram
bytes_in (status id value out) = Unit {0}
bytes_in (queued id bytes out) = Unit {0}
bytes_in (context k out) = Unit {0}
bytes_in (link instance) = Unit {0}
bytes_in (tell out) = Unit {0}

abbrev pub BytesIn : List Call → Type 0
BytesIn [] = Unit {0}
BytesIn (c ∷ cs) = bytes_in c × BytesIn cs
