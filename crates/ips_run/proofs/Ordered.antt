-- A world that 19 lets pass is in order, and so is what a call on a channel leaves of it, whatever the call comes to. Assumes nothing.
use Prim.Native.Nat.{ℕ}
use mathlib.Core.Bool.{true, and-eq-true_iff}
use mathlib.Core.Path.{◌≡◌, refl}
use native.Mathlib.Omega.{arith}
use lib.ListN.{length}
use Rattle.ips_channel_rules.specs.Rules.{ChannelCall, Says}
use Rattle.ips_state.specs.Limits.{state_fits}
use Rattle.ips_state.specs.Memory.{memory_fits, World, world_fits, index_in}
use Rattle.ips_state.proofs.Places.{found}
use Rattle.ips_run.specs.Calling.{WorldResult, Judged, outside, unknown, served}
use Rattle.ips_run.specs.Demand.{InOrder}
use Rattle.ips_run.proofs.Serving.{served_order}

pub in_order : (w : World) → world_fits w ≡ true → InOrder (length w.state.channels) w
in_order w fits =
    let parts = (and-eq-true_iff (state_fits w.state) (memory_fits w.state w.memory)).0 fits in
    record { counted = refl; state_fits_lem = parts.0; memory_fits_lem = parts.1 }

pub order_fits : {count : ℕ} {w : World} → InOrder count w → world_fits w ≡ true
order_fits o = rw (o.state_fits_lem, o.memory_fits_lem)

pub called_order : (count : ℕ) (w : World) → InOrder count w → (id : ℕ) (c : ChannelCall) {r : WorldResult (Says c)} → Judged id c w r → InOrder count r.world
called_order count w o id c (outside f) = o
called_order count w o id c (unknown f g) = o
called_order count w o id c (served f g) = served_order count w o (index_in w id) (omega (arith, (found w.state id g).0, o.counted)) c
