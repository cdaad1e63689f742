-- One offer moves no more bytes than the largest store has. Assumes nothing.
use Prim.Native.Nat.{ℕ, ◌≤◌}
use mathlib.Core.Bool.{Bool, true, false, cond, and-eq-true_iff}
use mathlib.Core.List.{List}
use mathlib.Core.Path.{◌≡◌, refl}
use native.Mathlib.Omega.{arith}
use lib.ListN.{length}
use Rattle.quantity.specs.Limits.{LARGEST-STORE}
use Rattle.store.specs.Packets.{Packet}
use Rattle.store.specs.Moves.{displaced, expiring}
use Rattle.store.specs.Waiting.{packets_of}
use Rattle.store.proofs.Held.{Fit, well_fit, fit_alive}
use Rattle.store.proofs.Moved.{displaced_within, staying_alive, displaced_unchanging}
use Rattle.ips_channel_rules.specs.Rules.{offer, Taken, taken, Answer, refused, answered}
use Rattle.ips_channel_calls.specs.Calls.{leaving_by}
use Rattle.ips_state.specs.Limits.{state_fits}
use Rattle.ips_state.specs.Memory.{memory_fits, World, world_fits, is_configured, index_in, channel_in, store_in}
use Rattle.ips_state.proofs.Channels.{ChannelFit}
use Rattle.ips_state.proofs.Places.{found, channel_fitting_at, store_length}
use Rattle.ips_run.specs.Calling.{result_in}
use Rattle.endpoint.specs.Calls.{moved_at}
use Rattle.handful.specs.Handful.{Offer}
use Rattle.handful.specs.Offering.{moved_in}

-- an offer to a channel whose waiting packets a store of this size may hold
displaced_most : (size : ℕ) (p : Packet) (time : ℕ) (a : Answer Taken) (ps : List Packet) → Fit size ps → displaced (leaving_by (offer p time) a ps) ≤ size
displaced_most size p time (refused number) ps f = rw (displaced_unchanging ps) (omega arith)
displaced_most size p time (answered taken) ps f =
    omega (arith, displaced_within (expiring time ps), staying_alive time ps, (fit_alive size time ps f).room)

pub moved_most : (time : ℕ) (o : Offer) (w : World) → world_fits w ≡ true → moved_in time o w ≤ LARGEST-STORE
unfolding moved_in moved_at
moved_most time o w fits = by (is_configured w o.id) refl
  where
    by : (b : Bool) → is_configured w o.id ≡ b → cond b (moved_at (offer o.packet time) w (index_in w o.id)) 0 ≤ LARGEST-STORE
    by false e = omega arith
    by true e =
        let parts = (and-eq-true_iff (state_fits w.state) (memory_fits w.state w.memory)).0 fits in
        let index = index_in w o.id in
        let inside = (found w.state o.id e).0 in
        let c = channel_in w index in
        let f : ChannelFit (channel_in w index) = channel_fitting_at w.state parts.0 index inside in
        let size : length (store_in w index) ≡ (channel_in w index).setting.size.0 = store_length w.state index w.memory parts.1 inside in
        let most = displaced_most c.setting.size.0 o.packet time (result_in (offer o.packet time) w index).answer (packets_of c.queue (store_in w index))
        (well_fit c.queue c.setting.size.0 f.well_formed_lem (store_in w index) size) in
        omega (arith, most, f.largest)
