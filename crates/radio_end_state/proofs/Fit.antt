-- Number 19 as facts. Assumes nothing.
use Prim.Native.Nat.{ℕ, zero, suc, ◌≤◌, ◌<◌}
use mathlib.Core.Bool.{true, and-eq-true_iff}
use mathlib.Core.List.{List, [], ◌∷◌}
use mathlib.Core.Path.{◌≡◌, refl, ap}
use borrow.Author.Tests.{leb-true, ltb-true, le-leb, lt-ltb}
use lib.Dec.{leb}
use lib.ListN.{length, get_or}
use Rattle.quantity.specs.Limits.{FEWEST-CHANNELS, MOST-CHANNELS, RESERVED-CHANNEL, HIGHEST-STATUS, MOST-ALLOWANCE}
use Rattle.meaning.specs.declared.message.End.TheVariants as ends
use Rattle.writable.specs.Allowed.{instance_allowed, context_allowed}
use Rattle.radio_end_state.specs.declared.channel.Channel.{Channel}
use Rattle.radio_end_state.specs.State.{State, no_channel, channel_at}
use Rattle.radio_end_state.specs.Limits.{up_to, has_id, stands_first, ids_fit, count_fits, datalink_fits, setting_fits, allowance_fits, highest_fits, channel_fits, all_fit, ids, names_fit, state_fits}
use Rattle.radio_end_state.proofs.UpTo.{up_to_at, up_to_by}

pub record ChannelFit (c : Channel) : Type 0 where
  pub unreserved : c.setting.id < 255
  pub watermark : c.setting.watermark.0 ≤ 2147483647
  pub throughput : c.setting.throughput.0 ≤ 2147483647
  pub status : c.status ≤ 15
  pub highest : highest_fits c.highest ≡ true

pub channel_fit : (c : Channel) → channel_fits c ≡ true → ChannelFit c
unfolding channel_fits
channel_fit c e =
    let a = (and-eq-true_iff (setting_fits c.setting) _).0 e in
    let b = (and-eq-true_iff (allowance_fits c.setting) _).0 a.1 in
    let d = (and-eq-true_iff (leb c.setting.watermark.0 MOST-ALLOWANCE) _).0 b.0 in
    let f = (and-eq-true_iff (leb c.status HIGHEST-STATUS) _).0 b.1 in
    record {
      unreserved = ltb-true _ RESERVED-CHANNEL a.0;
      watermark = leb-true _ MOST-ALLOWANCE d.0;
      throughput = leb-true _ MOST-ALLOWANCE d.1;
      status = leb-true _ HIGHEST-STATUS f.0;
      highest = f.1;
    }

pub record Fit (s : State) : Type 0 where
  pub datalink : s.datalink.0 < 256
  pub some : 1 ≤ length s.channels
  pub few : length s.channels ≤ 64
  pub instance : instance_allowed ends.Radio s.instance ≡ true
  pub context : context_allowed ends.Radio s.context ≡ true
  pub each : (index : ℕ) → index < length s.channels → channel_fits (channel_at s index) ≡ true
  pub apart : up_to (stands_first (ids s.channels)) (length (ids s.channels)) ≡ true
  pub primary : has_id 0 (ids s.channels) ≡ true

pub fit_facts : (s : State) → state_fits s ≡ true → Fit s
unfolding state_fits names_fit all_fit ids_fit channel_at
fit_facts s e =
    let a = (and-eq-true_iff (datalink_fits s.datalink) _).0 e in
    let b = (and-eq-true_iff (count_fits (length s.channels)) _).0 a.1 in
    let d = (and-eq-true_iff (leb FEWEST-CHANNELS (length s.channels)) _).0 b.0 in
    let f = (and-eq-true_iff (names_fit s) _).0 b.1 in
    let g = (and-eq-true_iff (instance_allowed ends.Radio s.instance) _).0 f.0 in
    let h = (and-eq-true_iff (all_fit s.channels) _).0 f.1 in
    let k = (and-eq-true_iff (up_to (stands_first (ids s.channels)) (length (ids s.channels))) _).0 h.1 in
    record {
      datalink = ltb-true _ 256 a.0;
      some = leb-true FEWEST-CHANNELS _ d.0;
      few = leb-true _ MOST-CHANNELS d.1;
      instance = g.0;
      context = g.1;
      each = up_to_at (λ index. channel_fits (get_or s.channels index no_channel)) (length s.channels) h.0;
      apart = k.0;
      primary = k.1;
    }

-- and back: the facts make a state within the limits
pub fit_state : (s : State) → Fit s → state_fits s ≡ true
unfolding state_fits names_fit all_fit ids_fit channel_at
fit_state s f =
    rw (lt-ltb s.datalink.0 256 f.datalink, le-leb FEWEST-CHANNELS (length s.channels) f.some, le-leb (length s.channels) MOST-CHANNELS f.few, f.instance, f.context, up_to_by (λ index. channel_fits (get_or s.channels index no_channel)) (length s.channels) f.each, f.apart, f.primary)

-- ---- the IDs
pub ids_at : (cs : List Channel) (i : ℕ) → get_or (ids cs) i 0 ≡ (get_or cs i no_channel).setting.id
unfolding ids
ids_at [] i = refl
ids_at (c ∷ cs) zero = refl
ids_at (c ∷ cs) (suc i) = ids_at cs i

pub ids_length : (cs : List Channel) → length (ids cs) ≡ length cs
unfolding ids
ids_length [] = refl
ids_length (c ∷ cs) = ap suc (ids_length cs)
