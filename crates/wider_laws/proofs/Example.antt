-- What these promises ask of words can be met: a store that was filled to its last byte under the limits before is taken over. Assumes nothing.
use Rattle.std.specs.Prelude.{Some}
use Prim.Native.Nat.{ℕ}
use mathlib.Core.Bool.{true, false}
use mathlib.Core.List.{List, [], ◌∷◌}
use mathlib.Core.Path.{◌≡◌, refl}
use native.Mathlib.Omega.{arith}
use lib.ListN.{length}
use lib.Seq.{take_all}
use Rattle.facts.specs.Tables.{tabulate}
use Rattle.store.specs.Packets.{packet_for}
use Rattle.store.specs.Waiting.{waiting, total, cut, packets_of, all_within_under, well_formed_under}
use Rattle.ips_state.specs.State.{channel_at}
use Rattle.ips_state.specs.Limits.{channel_fits_under, all_fit_under, ids, distinct, channels_fit_under, names_fit, head_fits, state_fits_under, sizes}
use Rattle.ips_state.specs.Memory.{memory_fits, start_of, store_at, world_fits_under, world_fits, channel_in, store_in}
use Rattle.ips_words.specs.Words.{slot, status_of, flow_of, instance_of, context_of, entries_in, queue_in, state_of, spelled, all_spelled, head_spelled, readable, state_in}
use Rattle.ips_words.specs.Words as words
use Rattle.endpoint.specs.Lent.{lent, world_in}
use Rattle.wider_laws.specs.Earlier.{EARLIER-LIMITS, filled_words}
use Rattle.wider_laws.proofs.Widened.{widened_fits}

-- ---- any 1,500 bytes in the store
module _ (memory : List ℕ) (long : length memory ≡ 1500) where
  filled_fits : world_fits_under EARLIER-LIMITS (world_in (lent filled_words memory)) ≡ true
  unfolding state_fits_under head_fits names_fit channels_fit_under all_fit_under channel_fits_under ids distinct well_formed_under all_within_under waiting total memory_fits sizes state_in readable head_spelled all_spelled spelled state_of tabulate words.channel_in slot status_of flow_of instance_of context_of queue_in entries_in
  filled_fits = rw long

  pub filled_fits_now : world_fits (world_in (lent filled_words memory)) ≡ true
  filled_fits_now = widened_fits (lent filled_words memory) filled_fits

  -- it stands for a channel of these numbers, and the packet that waits, every byte
  pub filled_stands : let w = world_in (lent filled_words memory) in let c = channel_in w 0 in
      (c.setting ≡ record { id = 0; controlled = false; size = record { 0 = 1500 } }) × (c.status ≡ Some 1) × (c.sequence ≡ record { 0 = 7 }) × (c.latest ≡ 100)
      × (packets_of c.queue (store_in w 0) ≡ packet_for memory 200 ∷ [])
  unfolding packets_of cut waiting store_at start_of channel_at sizes state_in readable head_spelled all_spelled spelled state_of tabulate words.channel_in slot status_of flow_of instance_of context_of queue_in entries_in
  filled_stands = (refl, refl, refl, refl, rw (take_all 1500 memory (omega (arith, long)), take_all 1500 memory (omega (arith, long))))
