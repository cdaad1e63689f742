-- A channel that a call leaves reads back from its words: 32 places with zeros behind what waits, and no number wider than its word. Assumes nothing.
use Prim.Native.Nat.{ℕ, ◌^◌, ◌≤◌, ◌<◌}
use mathlib.Core.List.{List}
use mathlib.Core.Path.{◌≡◌, refl}
use native.Mathlib.Omega.{arith}
use lib.ListN.{length}
use Rattle.quantity.specs.declared.count.FlowSequence.{FlowSequence}
use Rattle.quantity.specs.declared.count.ByteCount.{ByteCount}
use Rattle.quantity.specs.Limits.{MOST-WAITING}
use Rattle.store.specs.Waiting.{queue_of, store_of}
use Rattle.store.proofs.Held.{holds_count, well_sound}
use Rattle.flow.specs.declared.Flow.{Flow}
use Rattle.flow.specs.Counting.{sequence_on}
use Rattle.ips_channel_rules.specs.Rules as rules
use Rattle.ips_channel_rules.specs.Rules.{ChannelCall, Says, Answer, refused, answered, unless_refused, Event, Happened, Terms, Condition, AfterCall}
use Rattle.ips_channel_rules.specs.Machine.{machine}
use Rattle.ips_channel_rules.specs.Account.{is_call}
use Rattle.ips_channel_rules.proofs.Leaves.{Leaves, stays, joins, looks, sends, clears, hears, leaves}
use Rattle.ips_channel.specs.declared.state.DatalinkSetting.{DatalinkSetting}
use Rattle.ips_channel.specs.declared.state.Channel.{Channel}
use Rattle.ips_channel.specs.Channel.{terms_of, condition_of, with_condition}
use Rattle.ips_channel_calls.specs.Calls.{channel_after, store_after, Ready, result_of}
use Rattle.ips_channel_calls.proofs.Again as calls
use Rattle.ips_channel_calls.proofs.Again.{Again}
use Rattle.ips_words.specs.Words.{status_value, flow_window, Narrow}
use Rattle.ips_words.proofs.Slots.{with_narrow}

-- ---- a condition with no number wider than its word
record Slim (st : Condition machine) : Type 0 where
  status : status_value st.status < 256
  window : flow_window st.counting.flow < 2 ^ 32
  sequence : st.counting.sequence.0 < 2 ^ 32

-- "Sending under a window adds n to the sequence modulo 2^32"
counted_slim : (flow : Flow) (sequence : FlowSequence) (bytes : ByteCount) → sequence.0 < 2 ^ 32 → (sequence_on flow sequence bytes).0 < 2 ^ 32
counted_slim Flow.Free sequence bytes h = h
counted_slim Flow.NoWindow sequence bytes h = h
counted_slim (Flow.InForce window) sequence bytes h = omega arith

slim_step : (k : Terms) {e : Event} {st : Condition machine} {h : Happened} {st' : Condition machine} → Leaves machine k e st h st' → is_call e → Slim st → Slim st'
slim_step k stays q s = s
slim_step k (joins t x) q s = record { status = s.status; window = s.window; sequence = s.sequence }
slim_step k (looks n t) q s = record { status = s.status; window = s.window; sequence = s.sequence }
slim_step k (sends {st} {p} t w f) q s =
    record { status = s.status; window = s.window; sequence = counted_slim st.counting.flow st.counting.sequence (record { 0 = length p.bytes }) s.sequence }
slim_step k clears q s = record { status = s.status; window = s.window; sequence = s.sequence }
slim_step k hears q s = absurd q

slim_of : (c : Channel) (store : List ℕ) → Narrow c → Slim (condition_of c store)
unfolding condition_of
slim_of c store n = record { status = n.status; window = n.window; sequence = n.sequence }

-- ---- what a call leaves, refused ones among them
module _ (datalink : DatalinkSetting) (call : ChannelCall) (c : Channel) (store : List ℕ) (ready : Ready c store) (narrow : Narrow c) where
  abbrev r : AfterCall machine (Says call)
  r = result_of datalink call c store

  slim : Slim r.condition
  slim = slim_step (terms_of datalink c.setting) (leaves machine (terms_of datalink c.setting) (rules.call call) (condition_of c store)) tt (slim_of c store narrow)

  again : Again c r.condition (channel_after c r) (store_after c store r)
  again = calls.after c store ready datalink call

  few : {says : Says call} → r.answer ≡ answered says → length r.condition.keeping ≤ MOST-WAITING
  unfolding channel_after store_after with_condition
  few e =
      let ps = r.condition.keeping in
      let size = c.setting.size.0 in
      let left : Ready (with_condition c r.condition) (store_of size ps) = rw e at again.ready in
      omega (arith, (well_sound (queue_of ps) size left.well (store_of size ps) left.size).few, holds_count size ps (queue_of ps) (store_of size ps) (record { queue_is = refl; store_is = refl }))

  pub left_narrow : Narrow (channel_after c r)
  unfolding channel_after
  left_narrow = by r.answer refl
    where
      by : (a : Answer (Says call)) → r.answer ≡ a → Narrow (unless_refused a c (with_condition c r.condition))
      by (refused number) e = narrow
      by (answered says) e = with_narrow c r.condition (few e) slim.status slim.window slim.sequence
