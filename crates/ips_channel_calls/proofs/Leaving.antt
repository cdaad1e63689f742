-- What a channel and a store that are ready give, and what the functions behind the calls leave. Assumes nothing.
use Rattle.std.specs.Prelude.{Ok}
use Prim.Native.Nat.{ℕ}
use mathlib.Core.Path.{◌≡◌}
use mathlib.Core.List.{List, []}
use lib.ListN.{length}
use Rattle.quantity.specs.declared.count.ByteCount.{ByteCount}
use Rattle.quantity.specs.declared.count.FlowSequence.{FlowSequence}
use Rattle.store.specs.declared.queue.Queue.{Queue}
use Rattle.store.specs.Packets.{Packet, alive}
use Rattle.store.specs.Waiting.{packets_of, Sound, Holds}
use Rattle.store.proofs.Held.{Fit, well_sound, well_fit, fit_alive}
use Rattle.store.proofs.Moved.{displaced_withdrawing}
use Rattle.ips_channel_rules.specs.Rules.{withdraw}
use Rattle.ips_channel_rules.specs.Machine.{machine}
use Rattle.ips_channel_rules.proofs.Exact.{withdraw_is}
use Rattle.ips_channel.specs.declared.state.Channel.{Channel}
use Rattle.ips_channel.specs.Channel.{terms_of, condition_of, with_condition, with_queue}
use Rattle.ips_channel_calls.specs.Calls.{withdrawn, channel_after, store_after, Ready, ServesAnywhere, MovesAnywhere, LeftWith}

module _ (c : Channel) (store : List ℕ) (ready : Ready c store) where
  pub ready_sound : Sound c.queue store
  ready_sound = well_sound c.queue c.setting.size.0 ready.well store ready.size

  ready_fit : Fit c.setting.size.0 (packets_of c.queue store)
  ready_fit = well_fit c.queue c.setting.size.0 ready.well store ready.size

  pub ready_alive : (time : ℕ) → Fit c.setting.size.0 (alive time (packets_of c.queue store))
  ready_alive time = fit_alive c.setting.size.0 time (packets_of c.queue store) ready_fit

  module _ (ps : List Packet) (q : Queue) (store' : List ℕ) (time : ℕ) (r : Channel) (h : Holds (length store) ps q store') (e : r ≡ with_queue c q time) where
    -- the sequence is the channel's own, or that of a packet which went
    pub left_counted : (sequence : FlowSequence)
        → LeftWith c ps sequence time (record { setting = r.setting; status = r.status; flow = r.flow; sequence = sequence; latest = r.latest; queue = r.queue }) store'
    unfolding with_condition with_queue
    left_counted sequence = record { channel_is = rw (e, h.queue_is); store_is = rw (← ready.size) h.store_is }

    pub left_with : LeftWith c ps c.sequence time r store'
    unfolding with_condition with_queue
    left_with = record { channel_is = rw (e, h.queue_is); store_is = rw (← ready.size) h.store_is }

  pub withdraw_moves : (moved : ByteCount) → moved ≡ record { 0 = 0 } → MovesAnywhere withdraw c store moved
  unfolding condition_of
  withdraw_moves moved e datalink = rw (withdraw_is machine (terms_of datalink c.setting) (condition_of c store), displaced_withdrawing (packets_of c.queue store)) e

  pub withdraws : (q : Queue) (store' : List ℕ) (r : Channel) → Holds (length store) [] q store' → r ≡ with_queue c q c.latest
      → ServesAnywhere withdraw c store (withdrawn (Ok tt)) r store'
  unfolding condition_of channel_after store_after
  withdraws q store' r h e datalink =
      let l = left_with [] q store' c.latest r h e in
      let result = withdraw_is machine (terms_of datalink c.setting) (condition_of c store) in
      record { reply_is = rw result; channel_is = rw result l.channel_is; store_is = rw result l.store_is }
