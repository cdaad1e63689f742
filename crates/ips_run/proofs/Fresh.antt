-- A fresh start: every channel as configured, nothing waits, and every store is zeros. Assumes nothing.
use Prim.Native.Nat.{ℕ, zero, suc, ◌+◌, ◌-◌, ◌<◌, ◌≤◌}
use mathlib.Core.Bool.{true}
use mathlib.Core.List.{List, [], ◌∷◌}
use mathlib.Core.Path.{◌≡◌, refl, ap, ◌∙◌}
use native.Mathlib.Omega.{arith}
use borrow.Author.Tests.{eq-eqb}
use lib.ListN.{length, take, drop, replicate, length-replicate}
use Rattle.store.specs.Waiting.{packets_of, queue_of, cut}
use Rattle.store.proofs.Held.{waiting_of}
use Rattle.store.proofs.Changes.{cleared}
use Rattle.ips_channel_rules.specs.Machine.{fresh_machine}
use Rattle.ips_channel.specs.declared.state.DatalinkSetting.{DatalinkSetting}
use Rattle.ips_channel.specs.Channel.{terms_of, fresh_channel}
use Rattle.ips_channel_calls.proofs.Again.{fresh_condition}
use Rattle.ips_state.specs.State.{ChannelStart, Configuration, channel_at, start_at, fresh_of, fresh_state}
use Rattle.ips_state.specs.Limits.{sizes, state_fits, configuration_taken}
use Rattle.ips_state.specs.Memory.{memory_fits, start_of, store_at}
use Rattle.ips_state.proofs.Places.{fresh_count, fresh_fits, fresh_at_lem, store_room}
use Rattle.ips_run.specs.Run.{fresh_world}
use Rattle.ips_run.specs.Demand.{ruled, fresh_at, InOrder, Tidy, AsRuled, RuledIn}

abbrev zeros : ℕ → List ℕ
zeros n = replicate n 0

-- a stretch of zeros is zeros
take_zeros : (n k : ℕ) → k ≤ n → take k (zeros n) ≡ zeros k
take_zeros n zero h = refl
take_zeros zero (suc k) h = absurd (omega arith)
take_zeros (suc n) (suc k) h = ap (λ (l : List ℕ). 0 ∷ l) (take_zeros n k (omega arith))

drop_zeros : (n k : ℕ) → k ≤ n → drop k (zeros n) ≡ zeros (n - k)
drop_zeros n zero h = let e : n ≡ n - 0 = omega arith in ap zeros e
drop_zeros zero (suc k) h = absurd (omega arith)
drop_zeros (suc n) (suc k) h = let e : n - k ≡ suc n - suc k = omega arith in drop_zeros n k (omega arith) ∙ ap zeros e

fresh_tidy : (x : ChannelStart) (store : List ℕ) → store ≡ zeros x.setting.size.0 → Tidy (fresh_of x) store
unfolding fresh_channel packets_of cut
fresh_tidy x store e = rw (waiting_of []) (cleared x.setting.size.0 (queue_of []) store refl e)

fresh_ruled : (datalink : DatalinkSetting) (x : ChannelStart) (store : List ℕ) → store ≡ zeros x.setting.size.0
    → AsRuled (terms_of datalink x.setting) datalink (fresh_of x) store (fresh_machine x.setting.controlled x.first)
unfolding fresh_channel
fresh_ruled datalink x store e = record { terms = refl; condition = fresh_condition x.setting x.first store; tidy = fresh_tidy x store e }

module _ (k : Configuration) (fits : configuration_taken k ≡ true) where
  abbrev begun : state_fits (fresh_state k) ≡ true
  begun = fresh_fits k ∙ fits

  zeros_fit : memory_fits (fresh_state k) (zeros (sizes (fresh_state k).channels)) ≡ true
  unfolding memory_fits
  zeros_fit = eq-eqb _ _ (length-replicate (sizes (fresh_state k).channels) 0)

  pub fresh_order : InOrder (length k.starts) (fresh_world k)
  unfolding fresh_world
  fresh_order = record { counted = fresh_count k; state_fits_lem = begun; memory_fits_lem = zeros_fit }

  module _ (index : ℕ) (inside : index < length k.starts) where
    at_fresh : channel_at (fresh_state k) index ≡ fresh_of (start_at k index)
    at_fresh = fresh_at_lem k index inside

    size_fresh : (channel_at (fresh_state k) index).setting.size.0 ≡ (start_at k index).setting.size.0
    unfolding fresh_channel
    size_fresh = rw at_fresh

    -- "fills each store with zeros"
    store_fresh : store_at (fresh_state k) index (fresh_world k).memory ≡ zeros (start_at k index).setting.size.0
    unfolding fresh_world store_at memory_fits
    store_fresh =
        let total = sizes (fresh_state k).channels in
        let start = start_of (fresh_state k) index in
        let size = (start_at k index).setting.size.0 in
        let room : start + size ≤ total =
        omega (arith, size_fresh, length-replicate {A = ℕ} total 0, store_room (fresh_state k) (zeros total) zeros_fit index (omega (arith, fresh_count k))) in
        rw (size_fresh, drop_zeros total start (omega arith)) (take_zeros (total - start) size (omega arith))

    pub fresh_in : RuledIn (ruled k index) (length k.starts) index (fresh_world k) (fresh_at k index)
    unfolding fresh_world fresh_state
    fresh_in = record {
      order = fresh_order;
      as_ruled = rw at_fresh (fresh_ruled k.datalink (start_at k index) (store_at (fresh_state k) index (fresh_world k).memory) store_fresh);
    }
