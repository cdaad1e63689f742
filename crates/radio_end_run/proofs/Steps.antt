-- One call: what it leaves of a channel, and of the rest. Assumes nothing.
use Rattle.std.specs.Prelude.{Option, Some, None}
use Rattle.quantity.specs.declared.count.LinkInstanceId.{LinkInstanceId}
use Rattle.quantity.specs.declared.count.FlowSequence.{FlowSequence}
use Rattle.meaning.specs.declared.message.ContextBytes.{ContextBytes}
use Prim.Native.Nat.{ℕ, ◌<◌}
use mathlib.Core.Bool.{Bool, true, false, cond}
use mathlib.Core.List.{[]}
use mathlib.Core.Path.{◌≡◌, refl, sym, ap, ◌∙◌}
use lib.Dec.{eqb}
use lib.ListN.{length}
use Rattle.facts.proofs.Tests.{clash}
use Rattle.quantity.specs.declared.count.ByteCount.{ByteCount}
use Rattle.meaning.specs.declared.message.Data.{Data}
use Rattle.radio_flow.specs.Granting.{hearing, queued_on}
use Rattle.radio_flow.specs.Numbers.{heard_all}
use Rattle.radio_end_state.specs.declared.channel.Channel.{Channel}
use Rattle.radio_end_state.specs.Channel.{hearing_on, with_queued, queueing, with_status}
use Rattle.radio_end_state.specs.State.{State, channel_at}
use Rattle.radio_end_state.specs.Calls.{sequence_in, channel_named, sequence_counted, data_on}
use Rattle.radio_end_run.specs.Run.{Call, hear, status, queued, context, link, tell, after_call, state_after, accepted_by, Received, dropped, stated, carried, received_in, stated_of, given, heard_by, packet_on, queued_by, status_by, context_by, instance_by}
use Rattle.radio_end_run.specs.Promised.{ChannelLeft, StateLeft}
use Rattle.radio_end_run.proofs.Makes.{Comes, refused, made, received_on, part_of, context_made, instance_made, Made, comes}

-- ---- a refused call
module _ (s : State) (id : ℕ) where
  pub heard_refused : (c : Call) → accepted_by c s ≡ false → heard_by c s id ≡ []
  unfolding heard_by
  heard_refused (hear datagram out) e = rw e
  heard_refused (status own value out) e = refl
  heard_refused (queued own bytes out) e = refl
  heard_refused (context k out) e = refl
  heard_refused (link instance) e = refl
  heard_refused (tell out) e = refl

  pub queued_refused : (c : Call) → accepted_by c s ≡ false → (bytes : ByteCount) → queued_by c s id bytes ≡ bytes
  unfolding queued_by
  queued_refused (hear datagram out) e bytes = rw e
  queued_refused (status own value out) e bytes = refl
  queued_refused (queued own number out) e bytes = rw e
  queued_refused (context k out) e bytes = refl
  queued_refused (link instance) e bytes = refl
  queued_refused (tell out) e bytes = refl

  pub status_refused : (c : Call) → accepted_by c s ≡ false → (before : ℕ) → status_by c s id before ≡ before
  unfolding status_by
  status_refused (hear datagram out) e before = refl
  status_refused (status own value out) e before = rw e
  status_refused (queued own number out) e before = refl
  status_refused (context k out) e before = refl
  status_refused (link instance) e before = refl
  status_refused (tell out) e before = refl

module _ (s : State) where
  context_refused : (c : Call) → accepted_by c s ≡ false → (before : Option (ContextBytes × ℕ)) → context_by c s before ≡ before
  unfolding context_by
  context_refused (hear datagram out) e before = refl
  context_refused (status own value out) e before = refl
  context_refused (queued own number out) e before = refl
  context_refused (context k out) e before = rw e
  context_refused (link instance) e before = refl
  context_refused (tell out) e before = refl

  instance_refused : (c : Call) → accepted_by c s ≡ false → (before : Option (LinkInstanceId × ℕ)) → instance_by c s before ≡ before
  unfolding instance_by
  instance_refused (hear datagram out) e before = refl
  instance_refused (status own value out) e before = refl
  instance_refused (queued own number out) e before = refl
  instance_refused (context k out) e before = refl
  instance_refused (link instance) e before = rw e
  instance_refused (tell out) e before = refl

  context_accepted : (c : Call) → accepted_by c s ≡ true → context_made c s ≡ context_by c s s.context
  unfolding context_made context_by
  context_accepted (hear datagram out) e = refl
  context_accepted (status own value out) e = refl
  context_accepted (queued own number out) e = refl
  context_accepted (context k out) e = rw e
  context_accepted (link instance) e = refl
  context_accepted (tell out) e = refl

  instance_accepted : (c : Call) → accepted_by c s ≡ true → instance_made c s ≡ instance_by c s s.instance
  unfolding instance_made instance_by
  instance_accepted (hear datagram out) e = refl
  instance_accepted (status own value out) e = refl
  instance_accepted (queued own number out) e = refl
  instance_accepted (context k out) e = refl
  instance_accepted (link instance) e = rw e
  instance_accepted (tell out) e = refl

-- ---- an accepted one: of the channel of an ID
module _ (c : Channel) where
  status_left : (b : Bool) (value : ℕ) → ChannelLeft c (cond b (with_status c value) c) [] c.queued (cond b value c.status)
  unfolding with_status
  status_left true value = record { setting = refl; highest = λ k. refl; plain = λ k. refl; queued_is = refl; status_is = refl }
  status_left false value = record { setting = refl; highest = λ k. refl; plain = λ k. refl; queued_is = refl; status_is = refl }

  queued_left : (b : Bool) (bytes : ByteCount) → ChannelLeft c (cond b (with_queued c bytes) c) [] (cond b bytes c.queued) c.status
  unfolding with_queued
  queued_left true bytes = record { setting = refl; highest = λ k. refl; plain = λ k. refl; queued_is = refl; status_is = refl }
  queued_left false bytes = record { setting = refl; highest = λ k. refl; plain = λ k. refl; queued_is = refl; status_is = refl }

  same_left : ChannelLeft c c [] c.queued c.status
  same_left = record { setting = refl; highest = λ k. refl; plain = λ k. refl; queued_is = refl; status_is = refl }

  -- what a message states is heard, one after another
  hearing_given : (controlled : Bool) (highest : Option FlowSequence) (sequence : Option FlowSequence) → controlled ≡ true → hearing controlled highest sequence ≡ heard_all highest (given sequence)
  unfolding hearing
  hearing_given controlled highest None k = rw k
  hearing_given controlled highest (Some sequence) k = rw k

  hearing_plain : (controlled : Bool) (highest : Option FlowSequence) (sequence : Option FlowSequence) → controlled ≡ false → hearing controlled highest sequence ≡ highest
  unfolding hearing
  hearing_plain controlled highest sequence k = rw k

  hearing_left : (sequence : Option FlowSequence) → ChannelLeft c (hearing_on c sequence) (given sequence) c.queued c.status
  unfolding hearing_on
  hearing_left sequence =
      record {
        setting = refl;
        highest = hearing_given c.setting.controlled c.highest sequence;
        plain = hearing_plain c.setting.controlled c.highest sequence;
        queued_is = refl;
        status_is = refl;
      }

  carried_left : (b : Bool) (message : Data) (bytes : ByteCount)
      → ChannelLeft c (cond b (data_on message bytes c) c) (given (cond b (sequence_counted message.sequence) None)) (cond b (queued_on c.queued bytes) c.queued) c.status
  unfolding data_on queueing with_queued hearing_on
  carried_left true message bytes =
      record {
        setting = refl;
        highest = hearing_given c.setting.controlled c.highest (sequence_counted message.sequence);
        plain = hearing_plain c.setting.controlled c.highest (sequence_counted message.sequence);
        queued_is = refl;
        status_is = refl;
      }
  carried_left false message bytes = same_left

  received_left : (r : Received) → ChannelLeft c (received_on r c) (given (stated_of c.setting.id r)) (packet_on c.setting.id r c.queued) c.status
  received_left dropped = same_left
  received_left (stated message) = hearing_left (sequence_in message c.setting.id)
  received_left (carried message bytes) = carried_left (eqb (channel_named message.channel) c.setting.id) message bytes

  part_left : (call : Call) (s : State) → accepted_by call s ≡ true
      → ChannelLeft c (part_of call s c) (heard_by call s c.setting.id) (queued_by call s c.setting.id c.queued) (status_by call s c.setting.id c.status)
  unfolding part_of heard_by queued_by status_by
  part_left (hear datagram out) s e = rw e (received_left (received_in s.datalink datagram))
  part_left (status own value out) s e = rw e (status_left (eqb own c.setting.id) value)
  part_left (queued own bytes out) s e = rw e (queued_left (eqb own c.setting.id) bytes)
  part_left (context k out) s e = same_left
  part_left (link instance) s e = same_left
  part_left (tell out) s e = same_left

-- ONE CALL, on any state and any channel of it
module _ (c : Call) (s : State) where
  pub step_refused : accepted_by c s ≡ false → state_after c s ≡ s
  step_refused e = go (comes c s)
    where
      go : Comes s (Made c s) (after_call c s) → state_after c s ≡ s
      go (refused f same) = same
      go (made f m) = clash (sym e ∙ f)

  pub step_own : StateLeft s (state_after c s) (context_by c s s.context) (instance_by c s s.instance)
  step_own = go (comes c s)
    where
      go : Comes s (Made c s) (after_call c s) → StateLeft s (state_after c s) (context_by c s s.context) (instance_by c s s.instance)
      go (refused e same) =
          record {
            datalink = ap (λ (x : State). x.datalink) same;
            many = ap (λ (x : State). length x.channels) same;
            context_is = ap (λ (x : State). x.context) same ∙ sym (context_refused s c e s.context);
            instance_is = ap (λ (x : State). x.instance) same ∙ sym (instance_refused s c e s.instance);
          }
      go (made e m) =
          record {
            datalink = m.makes.datalink;
            many = m.makes.many;
            context_is = m.makes.context_is ∙ context_accepted s c e;
            instance_is = m.makes.instance_is ∙ instance_accepted s c e;
          }

  module _ (index : ℕ) (inside : index < length s.channels) where
    abbrev before : Channel
    before = channel_at s index

    pub step : ChannelLeft before (channel_at (state_after c s) index) (heard_by c s before.setting.id) (queued_by c s before.setting.id before.queued) (status_by c s before.setting.id before.status)
    step = go (comes c s)
      where
        go : Comes s (Made c s) (after_call c s)
            → ChannelLeft before (channel_at (state_after c s) index) (heard_by c s before.setting.id) (queued_by c s before.setting.id before.queued) (status_by c s before.setting.id before.status)
        go (refused e same) =
            rw (same, heard_refused s before.setting.id c e, queued_refused s before.setting.id c e before.queued, status_refused s before.setting.id c e before.status) (same_left before)
        go (made e m) = rw (m.makes.each index inside) (part_left before c s e)
