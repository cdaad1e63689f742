-- What a call on one channel and its store does, by the rules of a channel's life: the reply, the channel and every byte of the store.
use Rattle.std.specs.Prelude.{ℕ, ◌<◌, true, cond, List, ◌≡◌, eqb, length, Result, Ok, Err}
use Rattle.quantity.specs.declared.count.ByteCount.{ByteCount}
use Rattle.quantity.specs.declared.count.FlowSequence.{FlowSequence}
use Rattle.quantity.specs.declared.refusal.Refusal.{Refusal}
use Rattle.quantity.specs.Limits.{RESERVED-CHANNEL, LONGEST-PACKET}
use Rattle.wire.specs.Options.{over}
use Rattle.store.specs.Packets.{Packet}
use Rattle.store.specs.Moves.{Stretch, displaced, expiring, sending, withdrawing, unchanging}
use Rattle.store.specs.Waiting.{packets_of, store_of, well_formed}
use Rattle.ips_channel_rules.specs.Rules.{ChannelCall, offer, next, withdraw, Taken, taken, Tried, nothing_waiting, not_operational, window_shut, sent, Emptied, emptied, Says, Answer, refused, answered, unless_refused, Terms, longest_on, AfterCall, message_bytes, call_at}
use Rattle.ips_channel_rules.specs.Machine.{machine}
use Rattle.ips_channel.specs.declared.state.DatalinkSetting.{DatalinkSetting}
use Rattle.ips_channel.specs.declared.state.Channel.{Channel}
use Rattle.ips_channel.specs.Channel.{terms_under, terms_of, condition_of, with_condition}
use Rattle.ips_channel_calls.specs.declared.asking.NextAnswer.{NextAnswer}
use Rattle.ips_channel_calls.specs.declared.outcome.CallOutcome.{CallOutcome}

-- ---- each answer of the rules as the code gives it

-- place: "0 for all others"
abbrev pub refused_with : ℕ → Refusal
refused_with number = record { number = number; place = 0 }

abbrev pub offer_answer : Answer Taken → Result (Unit {0}) Refusal
offer_answer (refused number) = Err (refused_with number)
offer_answer (answered taken) = Ok tt

-- the same as a byte (document 02, §5): 0 where the packet is taken, else its number of refusal
abbrev pub number_of : Result (Unit {0}) Refusal → ℕ
number_of (Ok tt) = 0
number_of (Err refusal) = refusal.number

-- and the answer that such a byte says
unfoldable pub answer_of : ℕ → Result (Unit {0}) Refusal
answer_of number = cond (eqb number 0) (Ok tt) (Err (refused_with number))

abbrev pub next_answer : Terms → Answer Tried → Result NextAnswer Refusal
next_answer k (refused number) = Err (refused_with number)
next_answer k (answered nothing_waiting) = Ok NextAnswer.NothingWaiting
next_answer k (answered not_operational) = Ok NextAnswer.NotOperational
next_answer k (answered window_shut) = Ok NextAnswer.WindowShut
next_answer k (answered (sent packet sequence)) = Ok (NextAnswer.Sent (record { 0 = length (message_bytes k sequence packet) }))

abbrev pub withdraw_answer : Answer Emptied → Result (Unit {0}) Refusal
withdraw_answer (refused number) = Err (refused_with number)
withdraw_answer (answered emptied) = Ok tt

-- the message over the output's first bytes; all other answers "leave the output's bytes as they stood"
abbrev pub output_after : Terms → Answer Tried → List ℕ → List ℕ
output_after k (refused number) out = out
output_after k (answered nothing_waiting) out = out
output_after k (answered not_operational) out = out
output_after k (answered window_shut) out = out
output_after k (answered (sent packet sequence)) out = over (message_bytes k sequence packet) out

-- ---- what the caller gets: the answer, and of Next the output after it
pub data Reply : Type 0 where
  offered : Result (Unit {0}) Refusal → Reply
  asked : Result NextAnswer Refusal → (out : List ℕ) → Reply
  withdrawn : Result (Unit {0}) Refusal → Reply

abbrev pub reply_to : Terms → (call : ChannelCall) → Answer (Says call) → Reply
reply_to k (offer packet time) answer = offered (offer_answer answer)
reply_to k (next time out) answer = asked (next_answer k answer) (output_after k answer out)
reply_to k withdraw answer = withdrawn (withdraw_answer answer)

-- ---- what a result leaves of the channel and of its store; a refusal "changes no state and no lent byte"
unfoldable pub channel_after : {A : Type 0} → Channel → AfterCall machine A → Channel
channel_after c r = unless_refused r.answer c (with_condition c r.condition)

unfoldable pub store_after : {A : Type 0} → Channel → List ℕ → AfterCall machine A → List ℕ
store_after c store r = unless_refused r.answer store (store_of c.setting.size.0 r.condition.keeping)

-- ---- what the calls require and do: number 19 has been tested
pub record Ready (c : Channel) (store : List ℕ) : Type 0 where
  pub id : c.setting.id < RESERVED-CHANNEL
  pub well : well_formed c.queue c.setting.size.0 ≡ true
  pub size : length store ≡ c.setting.size.0

-- 14 is given above `longest` on every channel whose store has `size` bytes, under the limits in force
abbrev pub IsLongest : (size longest : ℕ) → Type 0
IsLongest size longest = (k : Terms) → k.longest ≡ LONGEST-PACKET → k.size ≡ size → longest_on k ≡ longest

-- by the rules
abbrev pub result_under : (longest : ℕ) → DatalinkSetting → (call : ChannelCall) → Channel → List ℕ → AfterCall machine (Says call)
result_under longest datalink call c store = call_at machine (terms_under longest datalink c.setting) call (condition_of c store)

abbrev pub result_of : DatalinkSetting → (call : ChannelCall) → Channel → List ℕ → AfterCall machine (Says call)
result_of datalink call c store = result_under LONGEST-PACKET datalink call c store

pub record Serves (datalink : DatalinkSetting) (call : ChannelCall) (c : Channel) (store : List ℕ) (reply : Reply) (c' : Channel) (store' : List ℕ) : Type 0 where
  pub reply_is : reply ≡ reply_to (terms_of datalink c.setting) call (result_of datalink call c store).answer
  pub channel_is : c' ≡ channel_after c (result_of datalink call c store)
  pub store_is : store' ≡ store_after c store (result_of datalink call c store)

-- a call that sends nothing comes to the same on every datalink
abbrev pub ServesAnywhere : ChannelCall → Channel → List ℕ → Reply → Channel → List ℕ → Type 0
ServesAnywhere call c store reply c' store' = (datalink : DatalinkSetting) → Serves datalink call c store reply c' store'

-- ---- how many bytes a call moves within the store

-- which of the packets that wait leave by a call that is so answered
abbrev pub leaving_by : (call : ChannelCall) → Answer (Says call) → List Packet → List Stretch
leaving_by (offer packet time) (refused number) ps = unchanging ps
leaving_by (offer packet time) (answered taken) ps = expiring time ps
leaving_by (next time out) (refused number) ps = unchanging ps
leaving_by (next time out) (answered nothing_waiting) ps = expiring time ps
leaving_by (next time out) (answered not_operational) ps = expiring time ps
leaving_by (next time out) (answered window_shut) ps = expiring time ps
leaving_by (next time out) (answered (sent packet sequence)) ps = sending time ps
leaving_by withdraw (refused number) ps = unchanging ps
leaving_by withdraw (answered emptied) ps = withdrawing ps

-- no more than has to move: `call_least` of `call_moves`, which says too that those packets leave
abbrev pub Moves : DatalinkSetting → ChannelCall → Channel → List ℕ → ByteCount → Type 0
Moves datalink call c store moved = moved ≡ record { 0 = displaced (leaving_by call (result_of datalink call c store).answer (packets_of c.queue store)) }

abbrev pub MovesAnywhere : ChannelCall → Channel → List ℕ → ByteCount → Type 0
MovesAnywhere call c store moved = (datalink : DatalinkSetting) → Moves datalink call c store moved

-- ---- what the functions behind Next leave
pub record LeftWith (c : Channel) (ps : List Packet) (sequence : FlowSequence) (time : ℕ) (c' : Channel) (store' : List ℕ) : Type 0 where
  pub channel_is : c' ≡ with_condition c (record { counting = record { flow = c.flow; sequence = sequence }; keeping = ps; status = c.status; latest = time })
  pub store_is : store' ≡ store_of c.setting.size.0 ps

-- with the answer, and the bytes moved where these packets leave
pub record AnsweredWith (c : Channel) (answer : Result NextAnswer Refusal) (ps : List Packet) (sequence : FlowSequence) (time : ℕ) (stretches : List Stretch) (r : CallOutcome NextAnswer) (store' : List ℕ) : Type 0 where
  pub answer_is : r.answer ≡ answer
  pub left : LeftWith c ps sequence time r.channel store'
  pub moved_is : r.moved ≡ record { 0 = displaced stretches }
