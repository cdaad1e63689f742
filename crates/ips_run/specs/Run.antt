-- Demand 3: "Take any sequence of calls from a fresh start, refused ones among them, each taking the state and the lent memory as the one before left them."
use Rattle.quantity.specs.declared.refusal.Refusal.{Refusal}
use Rattle.meaning.specs.declared.message.Plane.{Plane}
use Rattle.std.specs.Prelude.{ℕ, Bool, false, cond, not, ◌&&◌, ◌||◌, List, [], ◌∷◌, ◌++◌, map, replicate, eqb, Result, Ok, Err}
use Rattle.quantity.specs.declared.count.DatalinkId.{DatalinkId}
use Rattle.quantity.specs.Limits.{Limits, CURRENT-LIMITS}
use Rattle.meaning.specs.declared.message.End.TheVariants as ends
use Rattle.meaning.specs.declared.message.Control.{Control}
use Rattle.reader.specs.Readings.{Verdict, ControlReading, DataReading, read_control, read_data, plane_of}
use Rattle.ips_channel_rules.specs.Rules as rules
use Rattle.ips_channel_rules.specs.Rules.{ChannelCall, Event, Happened}
use Rattle.pacer.specs.declared.Pacer.{Pacer}
use Rattle.pacer.specs.Pacing.{is_earlier, is_silent, asked, heard_at, moved_to}
use Rattle.ips_state.specs.State.{Configuration, State, with_pacer, fresh_state}
use Rattle.ips_state.specs.Limits.{sizes, state_fits_under}
use Rattle.ips_state.specs.Memory.{World}
use Rattle.ips_radio.specs.Heard.{heard_by, silenced_by, status_in, window_in}
use Rattle.ips_run.specs.Calling.{calling_under, calling}

-- ---- the calls: on the channel of an ID, a radio message handed in at a time, the pacer asked at a time, a query
pub data Call : Type 0 where
  on : (id : ℕ) → ChannelCall → Call
  radio : (time : ℕ) (datagram : List ℕ) → Call
  pace : (time : ℕ) → Call
  query : (out : List ℕ) → Call

-- ---- what a datagram from the radio is: refused, an accepted data message, or an accepted control message
pub data Received : Type 0 where
  dropped : Received
  carried : Received
  stated : Control → Received

abbrev pub if_accepted : Verdict → Received → Received
if_accepted Verdict.Accepted received = received
if_accepted Verdict.OtherPlane received = dropped
if_accepted (Verdict.Refused refusal) received = dropped

abbrev pub by_plane : Result Plane Refusal → (control data' : Received) → Received
by_plane (Ok Plane.Control) control data' = control
by_plane (Ok Plane.Data) control data' = data'
by_plane (Err refusal) control data' = dropped

abbrev pub control_read : ControlReading → Received
control_read reading = if_accepted reading.verdict (stated reading.message)

abbrev pub data_read : DataReading → Received
data_read reading = if_accepted reading.verdict carried

unfoldable pub received_in : DatalinkId → List ℕ → Received
received_in datalink datagram = by_plane (plane_of datagram) (control_read (read_control ends.Radio datalink datagram)) (data_read (read_data ends.Radio datalink datagram))

-- the radio control message in it, if there is one
abbrev pub messages_in : Received → List Control
messages_in dropped = []
messages_in carried = []
messages_in (stated message) = message ∷ []

unfoldable pub accepted_in : DatalinkId → List ℕ → List Control
accepted_in datalink datagram = messages_in (received_in datalink datagram)

-- ---- a call that carries the pacer's time: 19, then "21, pacer time earlier than its latest, tested right after 19"
abbrev pub in_time_under : Limits → (time : ℕ) → State → Bool
in_time_under limits time s = state_fits_under limits s && not (is_earlier time s.pacer)

abbrev pub in_time : (time : ℕ) → State → Bool
in_time time s = in_time_under CURRENT-LIMITS time s

-- "A radio message handed in": 19, 21, then "as for reading"
unfoldable pub accepted_under : Limits → Call → World → List Control
accepted_under limits (on id c) w = []
accepted_under limits (radio time datagram) w = cond (in_time_under limits time w.state) (accepted_in w.state.datalink.id datagram) []
accepted_under limits (pace time) w = []
accepted_under limits (query out) w = []

abbrev pub accepted_by : Call → World → List Control
accepted_by c w = accepted_under CURRENT-LIMITS c w

-- a silence: the pacer is asked, and "no radio control message was accepted for a configured silence limit or longer"
unfoldable pub silent_under : Limits → Call → World → Bool
silent_under limits (on id c) w = false
silent_under limits (radio time datagram) w = false
silent_under limits (pace time) w = in_time_under limits time w.state && is_silent time w.state.pacer
silent_under limits (query out) w = false

abbrev pub silent_by : Call → World → Bool
silent_by c w = silent_under CURRENT-LIMITS c w

-- ---- what a call leaves

-- a radio message "once accepted .. moves that clock, a data message too, which changes nothing else"
abbrev pub pacer_after : (time : ℕ) → Received → Pacer → Pacer
pacer_after time dropped p = p
pacer_after time carried p = moved_to time p
pacer_after time (stated message) p = heard_at time p

abbrev pub received : (time : ℕ) → Received → State → State
received time dropped s = s
received time carried s = with_pacer s (moved_to time s.pacer)
received time (stated message) s = with_pacer (heard_by message s) (heard_at time s.pacer)

-- "asked, it reports a query due ..", and a silence if there is one
unfoldable pub paced_by : (time : ℕ) → State → State
paced_by time s = with_pacer (cond (is_silent time s.pacer) (silenced_by s) s) (asked time s.pacer)

abbrev pub with_state : World → State → World
with_state w s = record { state = s; memory = w.memory }

unfoldable pub after_under : Limits → Call → World → World
after_under limits (on id c) w = (calling_under limits id c w).world
after_under limits (radio time datagram) w =
    cond (in_time_under limits time w.state) (with_state w (received time (received_in w.state.datalink.id datagram) w.state)) w
after_under limits (pace time) w = cond (in_time_under limits time w.state) (with_state w (paced_by time w.state)) w
after_under limits (query out) w = w

abbrev pub after : Call → World → World
after c w = after_under CURRENT-LIMITS c w

abbrev pub after_all : List Call → World → World
after_all [] w = w
after_all (c ∷ cs) w = after_all cs (after c w)

-- "from a fresh start", which "fills each store with zeros"
unfoldable pub fresh_world : Configuration → World
fresh_world k = record { state = fresh_state k; memory = replicate (sizes (fresh_state k).channels) 0 }

-- the accepted radio control messages of some calls, in order
abbrev pub accepted_all : List Call → World → List Control
accepted_all [] w = []
accepted_all (c ∷ cs) w = accepted_by c w ++ accepted_all cs (after c w)

-- ---- "seeing its own calls and its part of each accepted radio message": what the channel of an ID sees of a call
abbrev pub if_own : {A : Type 0} → (own id : ℕ) → A → List A
if_own own id x = cond (eqb own id) (x ∷ []) []

abbrev pub part_of : ℕ → Control → Event
part_of own message = rules.radio (status_in message own) (window_in message own)

-- "a silence counts in the third demand as an event seen by all channels"
abbrev pub if_silent : {A : Type 0} → Bool → A → List A
if_silent silent x = cond silent (x ∷ []) []

abbrev pub sees : (own : ℕ) → Call → World → List Event
sees own (on id c) w = if_own own id (rules.call c)
sees own (radio time datagram) w = map (part_of own) (accepted_by (radio time datagram) w)
sees own (pace time) w = if_silent (silent_by (pace time) w) rules.silence
sees own (query out) w = []

abbrev pub sees_all : (own : ℕ) → List Call → World → List Event
sees_all own [] w = []
sees_all own (c ∷ cs) w = sees own c w ++ sees_all own cs (after c w)

-- whether any of some calls is a silence
abbrev pub silent_all : List Call → World → Bool
silent_all [] w = false
silent_all (c ∷ cs) w = silent_by c w || silent_all cs (after c w)

-- ---- what happens to it: what it sees, with the answer that is given
abbrev pub part_heard : ℕ → Control → Happened
part_heard own message = rules.heard (status_in message own) (window_in message own)

abbrev pub happens_to : (own : ℕ) → Call → World → List Happened
happens_to own (on id c) w = if_own own id (rules.called c (calling id c w).answer)
happens_to own (radio time datagram) w = map (part_heard own) (accepted_by (radio time datagram) w)
happens_to own (pace time) w = if_silent (silent_by (pace time) w) rules.silent
happens_to own (query out) w = []

abbrev pub happens_all : (own : ℕ) → List Call → World → List Happened
happens_all own [] w = []
happens_all own (c ∷ cs) w = happens_to own c w ++ happens_all own cs (after c w)
