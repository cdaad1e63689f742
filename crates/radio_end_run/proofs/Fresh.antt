-- From a fresh start: what the promises of a run ask of a channel. Assumes nothing.
use Rattle.std.specs.Prelude.{Some, None}
use Prim.Native.Nat.{ℕ, zero, suc, ◌<◌}
use mathlib.Core.Bool.{true}
use mathlib.Core.List.{List, [], ◌∷◌, map}
use mathlib.Core.Path.{◌≡◌, refl, ap, ◌∙◌}
use native.Mathlib.Omega.{arith}
use lib.ListN.{length, get_or}
use Rattle.quantity.specs.declared.count.FlowSequence.{FlowSequence}
use Rattle.quantity.specs.Window.{sequence_at}
use Rattle.meaning.specs.declared.message.Window.{Window}
use Rattle.radio_flow.specs.Numbers.{number_after}
use Rattle.radio_end_state.specs.declared.channel.Setting.{Setting}
use Rattle.radio_end_state.specs.declared.channel.Channel.{Channel}
use Rattle.radio_end_state.specs.Channel.{fresh_channel, window_now}
use Rattle.radio_end_state.specs.State.{Configuration, no_setting, no_channel, channel_at, fresh_state}
use Rattle.radio_end_run.specs.Run.{Call, states_after, heard_through, queued_through, BytesIn}
use Rattle.radio_end_run.specs.Promised.{Largest, Grants}
use Rattle.radio_end_run.proofs.Counted.{run_unheard, run_number, run_window}

fresh_get_d : (ks : List Setting) (i : ℕ) → i < length ks → get_or (map fresh_channel ks) i no_channel ≡ fresh_channel (get_or ks i no_setting)
fresh_get_d [] i h = absurd (omega arith)
fresh_get_d (k ∷ ks) zero h = refl
fresh_get_d (k ∷ ks) (suc i) h = fresh_get_d ks i (omega arith)

fresh_length : (ks : List Setting) → length (map fresh_channel ks) ≡ length ks
fresh_length [] = refl
fresh_length (k ∷ ks) = ap suc (fresh_length ks)

module _ (k : Configuration) (index : ℕ) (inside : index < length k.settings) where
  abbrev setting : Setting
  setting = get_or k.settings index no_setting

  -- "fresh: status 0, nothing queued, none heard"
  pub fresh_at_lem : channel_at (fresh_state k) index ≡ record { setting = get_or k.settings index no_setting; status = 0; queued = record { 0 = 0 }; highest = None }
  unfolding channel_at fresh_state
  fresh_at_lem = fresh_get_d k.settings index inside

  pub fresh_inside : index < length (fresh_state k).channels
  unfolding fresh_state
  fresh_inside = omega (arith, fresh_length k.settings)

  module _ (controlled : setting.controlled ≡ true) (cs : List Call) where
    kind : (channel_at (fresh_state k) index).setting.controlled ≡ true
    kind = ap (λ (c : Channel). c.setting.controlled) fresh_at_lem ∙ controlled

    none : (channel_at (fresh_state k) index).highest ≡ None
    none = ap (λ (c : Channel). c.highest) fresh_at_lem

    own : (channel_at (fresh_state k) index).setting.id ≡ setting.id
    own = ap (λ (c : Channel). c.setting.id) fresh_at_lem

    abbrev after : Channel
    after = channel_at (states_after cs (fresh_state k)) index

    abbrev heard : List FlowSequence
    heard = heard_through cs (fresh_state k) setting.id

    same : heard_through cs (fresh_state k) (channel_at (fresh_state k) index).setting.id ≡ heard
    same = ap (heard_through cs (fresh_state k)) own

    -- "Until a sequence has been heard it sends Flow Window without the field."
    pub fresh_unheard : heard ≡ [] → window_now after ≡ Some Window.Empty
    fresh_unheard e = (run_unheard cs (fresh_state k) index fresh_inside kind none (same ∙ e)).1

    -- the first word heard starts the number, and the window is granted from the largest number since
    pub fresh_number : BytesIn cs → (first : FlowSequence) (later : List FlowSequence) → heard ≡ first ∷ later
        → (after.highest ≡ Some (sequence_at (number_after first.0 later))) × Largest first.0 later (number_after first.0 later)
    fresh_number bytes first later e = run_number cs (fresh_state k) index fresh_inside kind bytes first later none (same ∙ e)

    pub fresh_window : BytesIn cs → (first : FlowSequence) (later : List FlowSequence) → heard ≡ first ∷ later
        → Grants after (number_after first.0 later) setting.watermark.0 setting.throughput.0 (queued_through cs (fresh_state k) setting.id (record { 0 = 0 })).0
    fresh_window bytes first later e =
        rw fresh_at_lem at (run_window cs (fresh_state k) index fresh_inside kind (number_after first.0 later) (fresh_number bytes first later e).0)
