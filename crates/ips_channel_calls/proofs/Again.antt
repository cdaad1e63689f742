-- After each call the channel and its store are in the condition that the rules leave, and ready for the next call; any two outcomes of one contract coincide.
-- Assumes nothing.
use Rattle.std.specs.Prelude.{Option, Ok}
use Prim.Native.Nat.{ℕ, ◌+◌, ◌≤◌}
use mathlib.Core.Bool.{Bool, true, false, cond, ◌&&◌, and-eq-true_iff}
use mathlib.Core.Path.{◌≡◌, refl, sym, ◌∙◌}
use mathlib.Core.List.{List, []}
use borrow.Author.Tests.{le-leb}
use lib.Dec.{leb, eqb}
use lib.ListN.{length}
use Rattle.quantity.specs.declared.count.FlowSequence.{FlowSequence}
use Rattle.quantity.specs.Limits.{SHORTEST-PACKET, LONGEST-PACKET}
use Rattle.meaning.specs.declared.message.Window.{Window}
use Rattle.ipv6.specs.Ipv6.{is_ipv6, version_in, payload_length}
use Rattle.store.specs.Packets.{Packet, alive}
use Rattle.store.specs.Waiting.{packets_of, queue_of, store_of, Holds, within, cut}
use Rattle.store.proofs.Held.{Fit, packets_of_lem, waiting_of, holds_well, holds_length, fit_none, fit_tail, fit_join}
use Rattle.flow.specs.Counting.{flow_after}
use Rattle.ips_channel_rules.specs.Rules.{ChannelCall, offer, next, withdraw, Taken, Tried, Terms, Condition, AfterCall, radio_at}
use Rattle.ips_channel_rules.specs.Machine.{WordCounter, machine, fresh_machine}
use Rattle.ips_channel_rules.specs.Exactly.{Offered, offered_not_ipv6, offered_long, offered_early, offered_past, offered_full, offered_taken, Asked, asked_early, asked_nothing, asked_not_operational, asked_shut, asked_no_room, asked_sent}
use Rattle.ips_channel_rules.proofs.Exact.{offered, asked, withdraw_is}
use Rattle.ips_channel_rules.proofs.Limits.{machine_limited, short_both}
use Rattle.ips_channel.specs.declared.state.DatalinkSetting.{DatalinkSetting}
use Rattle.ips_channel.specs.declared.state.Setting.{Setting}
use Rattle.ips_channel.specs.declared.state.Channel.{Channel}
use Rattle.ips_channel.specs.Channel.{no_datalink, terms_of, condition_of, with_condition, heard_of, fresh_channel}
use Rattle.ips_channel_calls.specs.declared.outcome.CallOutcome.{CallOutcome}
use Rattle.ips_channel_calls.specs.declared.offering.WithdrawOutcome.{WithdrawOutcome}
use Rattle.ips_channel_calls.specs.declared.asking.NextAnswer.{NextAnswer}
use Rattle.ips_channel_calls.specs.Calls as replies
use Rattle.ips_channel_calls.specs.Calls.{Reply, channel_after, store_after, Ready, result_of, Serves, ServesAnywhere, Moves, MovesAnywhere}
use Rattle.ips_channel_calls.proofs.Leaving.{ready_alive}

-- what a call on a channel leaves: a condition of the rules, ready for the next call, configured as before
pub record Again (c : Channel) (st : Condition machine) (d : Channel) (store' : List ℕ) : Type 0 where
  pub condition : condition_of d store' ≡ st
  pub ready : Ready d store'
  pub setting : d.setting ≡ c.setting

-- the channel and the store that hold a condition are in it
pub condition_again : (c : Channel) (st : Condition machine) → condition_of (with_condition c st) (store_of c.setting.size.0 st.keeping) ≡ st
unfolding condition_of with_condition
condition_again c st = rw (packets_of_lem c.setting.size.0 st.keeping)

-- a plain channel's flow state stands still
heard_counting : (controlled : Bool) (window : Option Window) (x : WordCounter)
    → ◌≡◌ {A = WordCounter} (record { flow = cond controlled (flow_after window) x.flow; sequence = x.sequence }) (cond controlled (machine.hear window x) x)
heard_counting true window x = refl
heard_counting false window x = refl

pub heard_condition : (datalink : DatalinkSetting) (c : Channel) (store : List ℕ) (status : Option ℕ) (window : Option Window)
    → condition_of (heard_of c status window) store ≡ radio_at machine (terms_of datalink c.setting) status window (condition_of c store)
unfolding condition_of heard_of radio_at
heard_condition datalink c store status window = rw (heard_counting c.setting.controlled window (record { flow = c.flow; sequence = c.sequence }))

-- an offered packet that is neither 13 nor 14
offered_within : (p : Packet) → is_ipv6 p.bytes ≡ true → length p.bytes ≤ LONGEST-PACKET → within (length p.bytes) ≡ true
unfolding is_ipv6
offered_within p v l =
    let n = length p.bytes in
    rw ((and-eq-true_iff (leb SHORTEST-PACKET n) (eqb (version_in p.bytes) 6 && eqb n (SHORTEST-PACKET + payload_length p.bytes))).0 v).0 (le-leb n LONGEST-PACKET l)

module _ (c : Channel) (store : List ℕ) (ready : Ready c store) where
  unchanged : Again c (condition_of c store) c store
  unchanged = record { condition = refl; ready = ready; setting = refl }

  changed : (st : Condition machine) → Fit c.setting.size.0 st.keeping → Again c st (with_condition c st) (store_of c.setting.size.0 st.keeping)
  unfolding with_condition
  changed st f =
      let size = c.setting.size.0 in
      let h : Holds size st.keeping (queue_of st.keeping) (store_of size st.keeping) = record { queue_is = refl; store_is = refl } in
      record {
        condition = condition_again c st;
        ready = record {
          id = ready.id;
          well = holds_well size st.keeping (queue_of st.keeping) (store_of size st.keeping) h f;
          size = holds_length size st.keeping (queue_of st.keeping) (store_of size st.keeping) h f.room;
        };
        setting = refl;
      }

  alive_fit : (time : ℕ) → Fit c.setting.size.0 (alive time (condition_of c store).keeping)
  unfolding condition_of
  alive_fit time = ready_alive c store ready time

  -- what a result leaves
  Left : {A : Type 0} → AfterCall machine A → Type 0
  Left r = Again c r.condition (channel_after c r) (store_after c store r)

  module _ (k : Terms) (longest : k.longest ≡ LONGEST-PACKET) (sized : k.size ≡ c.setting.size.0) where
    by_offer : {p : Packet} {time : ℕ} (r : AfterCall machine Taken) → Offered machine k p time (condition_of c store) r → Left r
    unfolding Left channel_after store_after
    by_offer _ (offered_not_ipv6 v) = unchanged
    by_offer _ (offered_long v l) = unchanged
    by_offer _ (offered_early v l t) = unchanged
    by_offer _ (offered_past v l t x) = unchanged
    by_offer _ (offered_full v l t x f) = unchanged
    by_offer {p} {time} _ (offered_taken v l t x f) =
        changed _ (fit_join c.setting.size.0 (alive time (condition_of c store).keeping) p (alive_fit time) (offered_within p v (rw longest at (short_both machine machine_limited k _ l).0)) (rw sized at f))

    by_next : {time room : ℕ} (r : AfterCall machine Tried) → Asked machine k time room (condition_of c store) r → Left r
    unfolding Left channel_after store_after
    by_next _ (asked_early t) = unchanged
    by_next {time} _ (asked_nothing t w) = changed _ (alive_fit time)
    by_next {time} _ (asked_not_operational t w o) = changed _ (alive_fit time)
    by_next {time} _ (asked_shut t w o f) = changed _ (alive_fit time)
    by_next _ (asked_no_room t w o f r) = unchanged
    by_next {time} _ (asked_sent t w o f r) = changed _ (fit_tail c.setting.size.0 (alive time (condition_of c store).keeping) (alive_fit time))

  module _ (datalink : DatalinkSetting) where
    -- after any call, refused ones among them
    pub after : (call : ChannelCall) → let r = result_of datalink call c store in Again c r.condition (channel_after c r) (store_after c store r)
    unfolding Left channel_after store_after
    after (offer p time) = by_offer (terms_of datalink c.setting) refl refl _ (offered machine (terms_of datalink c.setting) p time (condition_of c store))
    after (next time out) = by_next (terms_of datalink c.setting) refl refl _ (asked machine (terms_of datalink c.setting) time (length out) (condition_of c store))
    after withdraw = rw (withdraw_is machine (terms_of datalink c.setting) (condition_of c store)) (changed _ (fit_none c.setting.size.0))

    pub after_call : {call : ChannelCall} {reply : Reply} {c' : Channel} {store' : List ℕ} → Serves datalink call c store reply c' store'
        → Again c (result_of datalink call c store).condition c' store'
    after_call {call} s = rw (s.channel_is, s.store_is) (after call)

    pub after_hear_lem : (status : Option ℕ) (window : Option Window) (r : Channel) → r ≡ heard_of c status window
        → Again c (radio_at machine (terms_of datalink c.setting) status window (condition_of c store)) r store
    unfolding heard_of
    after_hear_lem status window r e =
        rw e (record { condition = heard_condition datalink c store status window; ready = record { id = ready.id; well = ready.well; size = ready.size }; setting = refl })

-- ---- a fresh start: nothing waits, whatever stands in the store
pub fresh_condition : (setting : Setting) (first : FlowSequence) (store : List ℕ) → condition_of (fresh_channel setting first) store ≡ fresh_machine setting.controlled first
unfolding condition_of fresh_channel packets_of cut
fresh_condition setting first store = rw (waiting_of [])

-- ---- any two outcomes coincide
pub serves_one : {datalink : DatalinkSetting} {call : ChannelCall} {c : Channel} {store : List ℕ} {reply reply' : Reply} {d d' : Channel} {s s' : List ℕ}
    → Serves datalink call c store reply d s → Serves datalink call c store reply' d' s' → (reply ≡ reply') × (d ≡ d') × (s ≡ s')
serves_one h k = (h.reply_is ∙ sym k.reply_is, h.channel_is ∙ sym k.channel_is, h.store_is ∙ sym k.store_is)

-- and so do the results of Offer, of Withdraw and of Next, as the code has them
module _ {call : ChannelCall} {c : Channel} {store s s' : List ℕ} where
  pub offers_one : (r r' : CallOutcome (Unit {0})) → ServesAnywhere call c store (replies.offered r.answer) r.channel s
      → ServesAnywhere call c store (replies.offered r'.answer) r'.channel s' → MovesAnywhere call c store r.moved → MovesAnywhere call c store r'.moved
      → (r ≡ r') × (s ≡ s')
  offers_one r r' h k m n =
      let one = serves_one (h no_datalink) (k no_datalink) in
      let said = one.0 in
      let answers : r.answer ≡ r'.answer = cc in
      let moves : r.moved ≡ r'.moved = m no_datalink ∙ sym (n no_datalink) in
      let same : record { answer = r.answer; channel = r.channel; moved = r.moved } ≡ r' = rw (answers, one.1, moves) in
      (same, one.2)

  pub withdraws_one : (r r' : WithdrawOutcome) → ServesAnywhere call c store (replies.withdrawn (Ok tt)) r.channel s
      → ServesAnywhere call c store (replies.withdrawn (Ok tt)) r'.channel s' → MovesAnywhere call c store r.moved → MovesAnywhere call c store r'.moved
      → (r ≡ r') × (s ≡ s')
  withdraws_one r r' h k m n =
      let one = serves_one (h no_datalink) (k no_datalink) in
      let moves : r.moved ≡ r'.moved = m no_datalink ∙ sym (n no_datalink) in
      let same : record { channel = r.channel; moved = r.moved } ≡ r' = rw (one.1, moves) in
      (same, one.2)

  pub asks_one : {datalink : DatalinkSetting} {out out' : List ℕ} (r r' : CallOutcome NextAnswer) → Serves datalink call c store (replies.asked r.answer out) r.channel s
      → Serves datalink call c store (replies.asked r'.answer out') r'.channel s' → Moves datalink call c store r.moved → Moves datalink call c store r'.moved
      → (r ≡ r') × (s ≡ s') × (out ≡ out')
  asks_one r r' h k m n =
      let one = serves_one h k in
      let said = one.0 in
      let answers : r.answer ≡ r'.answer = cc in
      let moves : r.moved ≡ r'.moved = m ∙ sym n in
      let same : record { answer = r.answer; channel = r.channel; moved = r.moved } ≡ r' = rw (answers, one.1, moves) in
      (same, one.2, (cc))
