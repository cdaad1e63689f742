-- What lasts over any run: "Latest time is each channel's own: 0 when fresh, then that of its last accepted Offer or Next."; "Radio control message accepted: .."; document 02, §1: a silence.
use Rattle.quantity.specs.declared.refusal.Refusal.{Refusal}
use Rattle.std.specs.Prelude.{ℕ, Bool, true, false, List, [], ◌∷◌, ◌++◌, map, get_or, Option, Some, None, Result, Ok, Err}
use Rattle.meaning.specs.declared.message.Window.{Window}
use Rattle.meaning.specs.declared.message.Control.{Control}
use Rattle.flow.specs.declared.Flow.{Flow}
use Rattle.ips_channel_rules.specs.Rules.{ChannelCall, offer, next, withdraw}
use Rattle.ips_channel_calls.specs.declared.asking.NextAnswer.{NextAnswer}
use Rattle.ips_channel_calls.specs.Calls.{Reply, offered, asked, withdrawn}
use Rattle.ips_state.specs.Memory.{World}
use Rattle.ips_run.specs.Run.{Call, on, radio, pace, query, accepted_by, silent_by, if_silent, after}
use Rattle.ips_run.specs.Kept.{last_or}
use Rattle.ips_calls.specs.Replies.{EndpointReply}
use Rattle.endpoint_laws.specs.Transcript.{of_all_own}

-- ---- the time of an Offer or a Next that was not refused
abbrev pub offer_time : Result (Unit {0}) Refusal → ℕ → List ℕ
offer_time (Ok tt) time = time ∷ []
offer_time (Err refusal) time = []

abbrev pub next_time : Result NextAnswer Refusal → ℕ → List ℕ
next_time (Ok (NextAnswer.Sent count)) time = time ∷ []
next_time (Ok NextAnswer.NothingWaiting) time = time ∷ []
next_time (Ok NextAnswer.NotOperational) time = time ∷ []
next_time (Ok NextAnswer.WindowShut) time = time ∷ []
next_time (Err refusal) time = []

abbrev pub time_from : ChannelCall → Reply → List ℕ
time_from (offer packet time) (offered answer) = offer_time answer time
time_from (offer packet time) (asked answer out) = []
time_from (offer packet time) (withdrawn answer) = []
time_from (next time out) (offered answer) = []
time_from (next time out) (asked answer out') = next_time answer time
time_from (next time out) (withdrawn answer) = []
time_from withdraw x = []

-- the last of them on the channel of an ID, by the answers of the run
abbrev pub last_time : ℕ → List Call → List EndpointReply → ℕ
last_time own cs xs = last_or 0 (of_all_own time_from own cs xs)

-- ---- what all channels are told: an accepted radio control message, or a silence
pub data News : Type 0 where
  message : Control → News
  silence : News

abbrev pub news_by : Call → World → List News
news_by (on id c) w = []
news_by (radio time datagram) w = map message (accepted_by (radio time datagram) w)
news_by (pace time) w = if_silent (silent_by (pace time) w) silence
news_by (query out) w = []

abbrev pub news_all : List Call → World → List News
news_all [] w = []
news_all (c ∷ cs) w = news_by c w ++ news_all cs (after c w)

-- ---- the status and the flow state of the channel of an ID, by these, in order

-- "a configured channel that it names takes its Status; one that it doesn't name is not reported"; at a silence "every channel becomes not reported"
abbrev pub status_given : ℕ → News → Option ℕ
status_given id (message m) = (get_or m.statuses id None)
status_given id silence = None

abbrev pub last_status : ℕ → List News → Option ℕ
last_status id news = last_or None (map (status_given id) news)

-- "no Flow Window option makes it free; one without a window leaves it with no window; one with a window puts that in force, smaller than before or not"
abbrev pub flow_for : Option Window → Flow
flow_for None = Flow.Free
flow_for (Some Window.Empty) = Flow.NoWindow
flow_for (Some (Window.Given window)) = Flow.InForce window

-- at a silence "every flow-controlled one has no window"
abbrev pub flow_given : ℕ → News → Flow
flow_given id (message m) = flow_for (get_or m.windows id None)
flow_given id silence = Flow.NoWindow

-- "Plain channels are always free. Fresh flow-controlled channels have no window."
abbrev pub last_flow : (controlled : Bool) → ℕ → List News → Flow
last_flow true id news = last_or Flow.NoWindow (map (flow_given id) news)
last_flow false id news = Flow.Free
