-- Promise: the state of a fresh start, written out: each channel by its kind, every store zeros, no Link Instance and no Context. Assumes nothing.
use Rattle.std.specs.Prelude.{None}
use Prim.Native.Nat.{ℕ, zero, suc, ◌+◌, ◌≤◌, ◌<◌}
use mathlib.Core.Bool.{true, false}
use mathlib.Core.List.{List, ◌∷◌}
use mathlib.Core.Path.{◌≡◌, refl, ap, ◌∙◌}
use native.Mathlib.Omega.{arith}
use lib.ListN.{length, get_or, take, drop, replicate}
use Rattle.flow.specs.declared.Flow.{Flow}
use Rattle.ips_channel.specs.declared.state.Channel.{Channel}
use Rattle.ips_channel.specs.Channel.{fresh_channel}
use Rattle.ips_channel.specs.Fresh.{fresh_with}
use Rattle.ips_channel.proofs.Fresh.{fresh_controlled, fresh_plain}
use Rattle.ips_state.specs.State.{ChannelStart, Configuration, no_start, no_channel, channel_at, fresh_state}
use Rattle.ips_state.specs.Limits.{sizes}
use Rattle.ips_state.specs.Memory.{start_of, store_at}
use Rattle.ips_state.proofs.Channels.{sizes_room}
use Rattle.ips_state.proofs.Places.{fresh_count, fresh_at_lem}

take_zeros : (m n : ℕ) → m ≤ n → take {A = ℕ} m (replicate n 0) ≡ replicate m 0
take_zeros zero n h = refl
take_zeros (suc m) zero h = absurd (omega arith)
take_zeros (suc m) (suc n) h = ap (λ (xs : List ℕ). 0 ∷ xs) (take_zeros m n (omega arith))

zeros_within : (a b n : ℕ) → a + b ≤ n → take {A = ℕ} b (drop a (replicate n 0)) ≡ replicate b 0
zeros_within zero b n h = take_zeros b n (omega arith)
zeros_within (suc a) b zero h = absurd (omega arith)
zeros_within (suc a) b (suc n) h = zeros_within a b n (omega arith)

module _ (k : Configuration) where
  pub fresh_names : ((fresh_state k).datalink ≡ k.datalink) × ((fresh_state k).instance ≡ None) × ((fresh_state k).context ≡ None)
  unfolding fresh_state
  fresh_names = (refl, refl, refl)

  module _ (index : ℕ) (inside : index < length k.starts) where
    abbrev start : ChannelStart
    start = get_or k.starts index no_start

    pub controlled_at : start.setting.controlled ≡ true → get_or (fresh_state k).channels index no_channel ≡ fresh_with Flow.NoWindow start.setting start.first
    unfolding channel_at
    controlled_at controlled = fresh_at_lem k index inside ∙ fresh_controlled start.setting start.first controlled

    pub plain_at : start.setting.controlled ≡ false → get_or (fresh_state k).channels index no_channel ≡ fresh_with Flow.Free start.setting start.first
    unfolding channel_at
    plain_at plain = fresh_at_lem k index inside ∙ fresh_plain start.setting start.first plain

    -- "A fresh start fills each store with zeros.": of a memory of zeros, as long as all stores, each channel's stretch is as long as its store
    pub zeros_at : store_at (fresh_state k) index (replicate (sizes (fresh_state k).channels) 0) ≡ replicate start.setting.size.0 0
    unfolding store_at start_of channel_at fresh_channel
    zeros_at =
        let own : (get_or (fresh_state k).channels index no_channel).setting.size.0 ≡ start.setting.size.0 = ap (λ (c : Channel). c.setting.size.0) (fresh_at_lem k index inside) in
        rw own
        (zeros_within (sizes (take index (fresh_state k).channels)) start.setting.size.0 (sizes (fresh_state k).channels)
        (omega (arith, own, sizes_room (fresh_state k).channels index (omega (arith, fresh_count k)))))
