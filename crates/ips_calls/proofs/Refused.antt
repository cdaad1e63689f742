-- Promise: a refusal "gives its number and a place, changes no state and no lent byte". Assumes nothing.
use Rattle.std.specs.Prelude.{Result, Ok, Err}
use Rattle.quantity.specs.declared.count.ByteCount.{ByteCount}
use Rattle.meaning.specs.declared.message.Plane.{Plane}
use Prim.Native.Nat.{ℕ}
use mathlib.Core.Bool.{Bool, true, false, cond}
use mathlib.Core.List.{List}
use mathlib.Core.Path.{◌≡◌, refl, sym, ◌∙◌}
use lib.ListN.{length}
use Rattle.facts.proofs.Tests.{clash}
use Rattle.quantity.specs.declared.refusal.Refusal.{Refusal}
use Rattle.meaning.specs.declared.message.End.TheVariants as ends
use Rattle.reader.specs.Readings.{Verdict, read_control, read_data, plane_of}
use Rattle.writer.specs.Written.{no_room_of}
use Rattle.store.specs.Packets.{Packet}
use Rattle.ips_channel_rules.specs.Rules.{ChannelCall, offer, next, withdraw, Taken, taken, Tried, nothing_waiting, not_operational, window_shut, sent, Emptied, emptied, Answer, refused, answered, Terms}
use Rattle.ips_channel_calls.specs.declared.asking.NextAnswer.{NextAnswer}
use Rattle.ips_channel_calls.specs.Calls.{offer_answer, next_answer, withdraw_answer, output_after, Reply, offered, asked, withdrawn}
use Rattle.pacer.specs.declared.PaceAnswer.{PaceAnswer}
use Rattle.pacer.specs.Pacing.{is_earlier, is_due, is_silent, answer_of}
use Rattle.ips_state.specs.State.{Configuration, State}
use Rattle.ips_state.specs.Limits.{state_fits, waits_fit}
use Rattle.ips_state.specs.Memory.{World, index_in}
use Rattle.ips_run.specs.Calling.{terms_in, calling}
use Rattle.ips_run.specs.Run.{on, pace, query, after_under}
use Rattle.ips_run.proofs.Exact.{refused_world, pace_late}
use Rattle.ips_radio.specs.Heard.{due_of}
use Rattle.ips_radio.specs.declared.RadioAnswer.{RadioAnswer}
use Rattle.ips_calls.specs.Radio.{AfterRadio, by_verdict, heard_control, passed_on, handed_in_under, handed_in}
use Rattle.ips_calls.specs.Pace.{pace_answer_under, pace_answer}
use Rattle.ips_calls.specs.Query.{query_bytes}
use Rattle.ips_calls.specs.Replies.{of_channel, of_pace, of_query}
use Rattle.ips_calls.specs.Calls.{Performed}
use Rattle.ips_calls.specs.Start.{start_fits_of, Started}
use Rattle.ips_calls.proofs.Querying.{query_gives}

-- ---- the answers told: only a refusal of the rules is told as one
offer_told : (a : Answer Taken) (refusal : Refusal) → offer_answer a ≡ Err refusal → a ≡ refused refusal.number
offer_told (refused number) refusal e = let n : number ≡ refusal.number = cc in rw n
offer_told (answered taken) refusal e = clash (cc)

next_told : (k : Terms) (a : Answer Tried) (refusal : Refusal) → next_answer k a ≡ Err refusal → a ≡ refused refusal.number
next_told k (refused number) refusal e = let n : number ≡ refusal.number = cc in rw n
next_told k (answered nothing_waiting) refusal e = clash (cc)
next_told k (answered not_operational) refusal e = clash (cc)
next_told k (answered window_shut) refusal e = clash (cc)
next_told k (answered (sent packet sequence)) refusal e = clash (cc)

withdraw_told : (a : Answer Emptied) (refusal : Refusal) → withdraw_answer a ≡ Err refusal → a ≡ refused refusal.number
withdraw_told (refused number) refusal e = let n : number ≡ refusal.number = cc in rw n
withdraw_told (answered emptied) refusal e = clash (cc)

pub one_reply : {x y : Reply} → of_channel x ≡ of_channel y → x ≡ y
one_reply e = cc

module _ (w : World) (id : ℕ) (refusal : Refusal) (w' : World) where
  -- any call that the rules refuse
  refused_same : (c : ChannelCall) (x : Reply) → Performed (on id c) w (of_channel x) w' → (calling id c w).answer ≡ refused refusal.number → w' ≡ w
  unfolding after_under
  refused_same c x h e = h.world_is ∙ refused_world id c w refusal.number e

  pub offer_refused_same : (p : Packet) (time : ℕ) (answer : Result (Unit {0}) Refusal) → Performed (on id (offer p time)) w (of_channel (offered answer)) w' → answer ≡ Err refusal → w' ≡ w
  offer_refused_same p time answer h e =
      let is : offer_answer (calling id (offer p time) w).answer ≡ Err refusal = cc (one_reply h.reply_is) in
      refused_same (offer p time) (offered answer) h (offer_told _ refusal is)

  pub next_refused_same : (time : ℕ) (out out' : List ℕ) (answer : Result NextAnswer Refusal) → Performed (on id (next time out)) w (of_channel (asked answer out')) w' → answer ≡ Err refusal
      → (w' ≡ w) × (out' ≡ out)
  next_refused_same time out out' answer h e =
      let k = terms_in w (index_in w id) in
      let a = (calling id (next time out) w).answer in
      let is : next_answer k a ≡ Err refusal = cc (one_reply h.reply_is) in
      let told = next_told k a refusal is in
      let bytes : out' ≡ output_after k a out = cc (one_reply h.reply_is) in
      (refused_same (next time out) (asked answer out') h told, bytes ∙ rw told)

  pub withdraw_refused_same : (answer : Result (Unit {0}) Refusal) → Performed (on id withdraw) w (of_channel (withdrawn answer)) w' → answer ≡ Err refusal → w' ≡ w
  withdraw_refused_same answer h e =
      let is : withdraw_answer (calling id withdraw w).answer ≡ Err refusal = cc (one_reply h.reply_is) in
      refused_same withdraw (withdrawn answer) h (withdraw_told _ refusal is)

-- ---- a radio message
module _ (s : State) where
  control_same : (verdict : Verdict) (accepted : AfterRadio) (refusal : Refusal) → (accepted.answer ≡ Err refusal → ⊥)
      → (by_verdict verdict s accepted).answer ≡ Err refusal → (by_verdict verdict s accepted).state ≡ s
  control_same Verdict.Accepted accepted refusal other e = absurd (other e)
  control_same Verdict.OtherPlane accepted refusal other e = refl
  control_same (Verdict.Refused why) accepted refusal other e = refl

  pub not_refused : (due : Bool) (refusal : Refusal) → cond due (Ok RadioAnswer.Due) (Ok RadioAnswer.Accepted) ≡ Err refusal → ⊥
  not_refused true refusal e = clash (cc)
  not_refused false refusal e = clash (cc)

  module _ (time : ℕ) (datagram : List ℕ) where
    pub radio_refused_same : (refusal : Refusal) → (handed_in time s datagram).answer ≡ Err refusal → (handed_in time s datagram).state ≡ s
    unfolding handed_in_under
    radio_refused_same refusal e = go (state_fits s) refl (is_earlier time s.pacer) refl (plane_of datagram) refl
      where
        go : (fits : Bool) → state_fits s ≡ fits → (early : Bool) → is_earlier time s.pacer ≡ early → (plane : Result Plane Refusal) → plane_of datagram ≡ plane
            → (handed_in time s datagram).state ≡ s
        go false f early l plane p = rw f
        go true f true l plane p = rw (f, l)
        go true f false l (Ok Plane.Control) p =
            let reading = read_control ends.Radio s.datalink.id datagram in
            rw (f, l, p) (control_same reading.verdict (heard_control time reading.message s) refusal (not_refused (due_of s.context reading.message.context) refusal) (rw (f, l, p) at e))
        go true f false l (Ok Plane.Data) p =
            let reading = read_data ends.Radio s.datalink.id datagram in
            rw (f, l, p) (control_same reading.verdict (passed_on time s) refusal (λ other. clash (cc)) (rw (f, l, p) at e))
        go true f false l (Err why) p = rw (f, l, p)

-- ---- the pacer asked
pub answered_so : (due silent : Bool) (refusal : Refusal) → answer_of due silent ≡ Err refusal → ⊥
answered_so true true refusal e = clash (cc)
answered_so true false refusal e = clash (cc)
answered_so false true refusal e = clash (cc)
answered_so false false refusal e = clash (cc)

pub pace_refused_same : (w : World) (time : ℕ) (answer : Result PaceAnswer Refusal) (w' : World) (refusal : Refusal) → Performed (pace time) w (of_pace answer) w' → answer ≡ Err refusal
    → w' ≡ w
unfolding pace_answer_under
pace_refused_same w time answer w' refusal h e = go (state_fits w.state) refl (is_earlier time w.state.pacer) refl
  where
    answer_is : answer ≡ pace_answer time w.state
    answer_is = cc h.reply_is

    go : (fits : Bool) → state_fits w.state ≡ fits → (early : Bool) → is_earlier time w.state.pacer ≡ early → w' ≡ w
    go false f early l = h.world_is ∙ pace_late w time (rw f)
    go true f true l = h.world_is ∙ pace_late w time (rw (f, l))
    go true f false l =
        absurd (answered_so (is_due time w.state.pacer) (is_silent time w.state.pacer) refusal (sym (rw (f, l) at answer_is) ∙ e))

-- ---- a start, and a query
pub start_refused_same : (k : Configuration) (room : Bool) (w : World) (answer : Result (Unit {0}) Refusal) (w' : World) (refusal : Refusal) → Started k room w answer w'
    → answer ≡ Err refusal → w' ≡ w
start_refused_same k room w answer w' refusal h e = go (start_fits_of k room w.memory) refl (waits_fit k) refl
  where
    go : (fits : Bool) → start_fits_of k room w.memory ≡ fits → (waits : Bool) → waits_fit k ≡ waits → w' ≡ w
    go true f true l = let started : answer ≡ Ok tt = rw (f, l) at h.answer_is in clash (cc)
    go true f false l = h.world_is ∙ rw (f, l)
    go false f waits l = h.world_is ∙ rw f

pub query_refused_same : (w : World) (out : List ℕ) (r : Result ByteCount Refusal) (out' : List ℕ) (w' : World) (refusal : Refusal) → Performed (query out) w (of_query r out') w' → r ≡ Err refusal
    → (w' ≡ w) × (out' ≡ out)
unfolding after_under
query_refused_same w out r out' w' refusal h e = (h.world_is, go (state_fits w.state) refl (no_room_of (length (query_bytes w.state)) (length out)) refl)
  where
    go : (fits : Bool) → state_fits w.state ≡ fits → (full : Bool) → no_room_of (length (query_bytes w.state)) (length out) ≡ full → out' ≡ out
    go false f full l = (query_gives h).1 ∙ rw f
    go true f true l = (query_gives h).1 ∙ rw (f, l)
    go true f false l = clash (cc (rw (f, l) at (query_gives h).0))
