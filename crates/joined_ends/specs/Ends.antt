-- Document 02, §14: both ends joined, each with all its channels and all its calls. What one end hands over may arrive at the other any number of times, in any order,
-- or never, as long as it is young enough. One channel is watched: beside the ends stand its numbers that never wrap, which no end sees.
use Rattle.quantity.specs.declared.refusal.Refusal.{Refusal}
use Rattle.std.specs.Prelude.{ℕ, ◌+◌, ◌≤◌, ◌<◌, max, ◌≡◌, ◌⊎◌, length, take, Option, None, Result, Ok, Err}
use mathlib.Core.List.{List, [], ◌∷◌, ◌++◌, map, Memᴰ}
use Rattle.quantity.specs.declared.count.FlowSequence.{FlowSequence}
use Rattle.quantity.specs.declared.count.ByteCount.{ByteCount}
use Rattle.wire.specs.Numbers.{Octets}
use Rattle.radio_flow.specs.Granting.{allowance_of}
use Rattle.radio_end_state.specs.declared.answer.Answer.{Answer}
use Rattle.radio_end_state.specs.declared.channel.Setting.{Setting}
use Rattle.radio_end_state.specs.declared.channel.Channel.{Channel}
use Rattle.radio_end_state.specs.State as radio
use Rattle.radio_end_state.specs.Channel.{window_now}
use Rattle.radio_end_state.specs.Calls.{After}
use Rattle.radio_end_run.specs.Run as station
use Rattle.ips_channel_rules.specs.Rules.{next, sent, answered, Event, Terms, Condition, final}
use Rattle.ips_channel_rules.specs.Simple.{simple}
use Rattle.ips_state.specs.Memory.{World}
use Rattle.ips_run.specs.Calling.{calling}
use Rattle.ips_run.specs.Run.{Call, on, radio, pace, query, after, sees}
use Rattle.ips_calls.specs.Replies.{reply_of, handed_out}
use Rattle.joined.specs.Net.{Heard, unheard, after_hearing, reach_of, Bounded, Told, AGE, MOST-GRANTED}

-- ---- which datagrams the radio's end hands over, the answer to one or unasked: as many first bytes of the output as it answered (`handed_out` has the endpoint's)
abbrev pub written_by : Result Answer Refusal → (out : List ℕ) → List (List ℕ)
written_by (Ok (Answer.Answered bytes)) out = take bytes.0 out ∷ []
written_by (Ok (Answer.Unasked bytes)) out = take bytes.0 out ∷ []
written_by (Ok Answer.Quiet) out = []
written_by (Err refusal) out = []

abbrev pub written_in : After → List (List ℕ)
written_in r = written_by r.answer r.output

-- ---- "Messages may be lost, repeated or reordered": what was handed over stays here, each datagram with the watched channel's count at that moment; a radio message
-- with its Flow Window of that channel
pub record Sent : Type 0 where
  pub datagram : List ℕ
  pub at : ℕ

pub record Down : Type 0 where
  pub datagram : List ℕ
  pub told : Told

-- the numbers of the watched channel: its simple channel, the highest sequence heard, the highest number that any window granted so far reaches
pub record Watched : Type 0 where
  pub life : Condition simple
  pub heard : Heard
  pub top : ℕ
  pub ups : List Sent
  pub downs : List Down

abbrev pub count_of : Watched → ℕ
count_of x = x.life.counting.count

-- what a datagram states of the watched channel, as a radio's end of that Datalink ID receives it
abbrev pub stated_in : Terms → List ℕ → Option FlowSequence
stated_in k datagram = station.stated_of k.id (station.received_in k.datalink datagram)

-- "none arrives after 2^30 bytes or more were counted on its channel since it was sent": a datagram that arrives is one that was handed over, young enough on the
-- watched channel, and made of bytes
pub record UpArrives (k : Terms) (x : Watched) (datagram : List ℕ) : Type 0 where
  pub one : Sent
  pub there : Memᴰ one x.ups
  pub is : datagram ≡ one.datagram
  -- one that states nothing of the channel may be of any age on it
  pub young : (stated_in k datagram ≡ None) ⊎ (count_of x < one.at + AGE)
  pub octets : Octets datagram

pub record DownArrives (x : Watched) (datagram : List ℕ) : Type 0 where
  pub one : Down
  pub there : Memᴰ one x.downs
  pub is : datagram ≡ one.datagram
  pub young : count_of x < one.told.at + AGE
  pub octets : Octets datagram

-- any call of the endpoint; a radio message that it is handed is one of the radio's. "neither end restarts": no start is among the calls
abbrev pub MayAct : Call → Watched → Type 0
MayAct (on id c) x = Unit {0}
MayAct (radio time datagram) x = DownArrives x datagram
MayAct (pace time) x = Unit {0}
MayAct (query out) x = Unit {0}

-- any call of the radio's end; a datagram that it hears is one of the endpoint's
abbrev pub MayCall : Terms → station.Call → Watched → Type 0
MayCall k (station.hear datagram out) x = UpArrives k x datagram
MayCall k (station.status id value out) x = Unit {0}
MayCall k (station.queued id bytes out) x = Unit {0}
MayCall k (station.context value out) x = Unit {0}
MayCall k (station.link instance) x = Unit {0}
MayCall k (station.tell out) x = Unit {0}

-- ---- the endpoint acted: what the watched channel saw of it, and the datagrams that were handed over, which are as old as the count after it
abbrev pub sent_at : ℕ → List ℕ → Sent
sent_at count datagram = record { datagram = datagram; at = count }

abbrev pub acted : Terms → List Event → (datagrams : List (List ℕ)) → Watched → Watched
acted k seen datagrams x =
    record {
      life = final simple k seen x.life;
      heard = x.heard;
      top = x.top;
      ups = map (sent_at (final simple k seen x.life).counting.count) datagrams ++ x.ups;
      downs = x.downs;
    }

-- ---- the radio's end was called: what it heard on the watched channel, the channel that it left, and the datagrams that it wrote
abbrev pub heard_now : Heard → List FlowSequence → Heard
heard_now h [] = h
heard_now h (s ∷ ss) = heard_now (after_hearing h s) ss

abbrev pub allowance_at : Channel → ByteCount
allowance_at c = allowance_of c.setting.watermark c.setting.throughput c.queued

-- a window is granted where a message is written: one that a refused call would have written was never granted
abbrev pub top_with : List (List ℕ) → ℕ → ℕ → ℕ
top_with [] reach top = top
top_with (d ∷ ds) reach top = max top reach

-- "no window is granted more than 2^30 above the highest sequence then heard"
abbrev pub bound_if : List (List ℕ) → Heard → ByteCount → Type 0
bound_if [] h allowance = Unit {0}
bound_if (d ∷ ds) h allowance = Bounded MOST-GRANTED h allowance

-- a setting that keeps it whatever is queued (`modest_bound`)
abbrev pub Modest : Setting → Type 0
Modest s = s.watermark.0 + s.throughput.0 ≤ MOST-GRANTED

abbrev pub down_as : Told → List ℕ → Down
down_as t datagram = record { datagram = datagram; told = t }

abbrev pub telling_of : List FlowSequence → Channel → Watched → Told
telling_of sequences channel x = record { at = count_of x; window = window_now channel; reaches = reach_of (heard_now x.heard sequences) (allowance_at channel) }

abbrev pub told : List FlowSequence → Channel → (datagrams : List (List ℕ)) → Watched → Watched
told sequences channel datagrams x =
    record {
      life = x.life;
      heard = heard_now x.heard sequences;
      top = top_with datagrams (telling_of sequences channel x).reaches x.top;
      ups = x.ups;
      downs = map (down_as (telling_of sequences channel x)) datagrams ++ x.downs;
    }

-- ---- the ends
pub record Ends : Type 0 where
  pub world : World
  pub station : radio.State
  pub watched : Watched

-- the watched channel: as it is configured at the endpoint, and at an index of the radio's configuration
module _ (k : Terms) where
  abbrev pub life_after : Call → Ends → Condition simple
  life_after c x = final simple k (sees k.id c x.world) x.watched.life

  abbrev pub after_act : Call → Ends → Ends
  after_act c x =
      record { world = after c x.world; station = x.station; watched = acted k (sees k.id c x.world) (handed_out (reply_of c x.world)) x.watched }

  abbrev pub heard_in : station.Call → Ends → List FlowSequence
  heard_in c x = station.heard_by c x.station k.id

  abbrev pub heard_after : station.Call → Ends → Heard
  heard_after c x = heard_now x.watched.heard (heard_in c x)

abbrev pub channel_after : (j : ℕ) → station.Call → Ends → Channel
channel_after j c x = radio.channel_at (station.state_after c x.station) j

module _ (k : Terms) (j : ℕ) where
  abbrev pub after_call : station.Call → Ends → Ends
  after_call c x =
      record { world = x.world; station = station.state_after c x.station; watched = told (heard_in k c x) (channel_after j c x) (written_in (station.after_call c x.station)) x.watched }

  pub data Step : Ends → Ends → Type 0 where
    acts : (x : Ends) (c : Call) → MayAct c x.watched → Step x (after_act k c x)
    calls : (x : Ends) (c : station.Call) → MayCall k c x.watched → bound_if (written_in (station.after_call c x.station)) (heard_after k c x) (allowance_at (channel_after j c x)) → Step x (after_call c x)

-- "the endpoint never sends past the highest window the radio has ever granted": the packet that Next hands over lies with all its bytes at or below the highest number
-- granted, and each of them is counted
pub record NotPast (k : Terms) (time : ℕ) (out : List ℕ) (x : Ends) : Type 0 where
  pub packet : List ℕ
  pub carried : Option FlowSequence
  pub goes : (calling k.id (next time out) x.world).answer ≡ answered (sent packet carried)
  pub below : count_of x.watched + length packet ≤ x.watched.top
  pub counted : count_of (after_act k (on k.id (next time out)) x).watched ≡ count_of x.watched + length packet

-- nothing heard, nothing granted, nothing on its way
abbrev pub unwatched : Condition simple → Watched
unwatched life = record { life = life; heard = unheard; top = 0; ups = []; downs = [] }

-- a fresh start of both
abbrev pub start : World → radio.State → Condition simple → Ends
start w s life = record { world = w; station = s; watched = unwatched life }
