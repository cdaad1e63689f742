-- What a radio message and a silence change, and what they leave. Assumes nothing.
use Rattle.std.specs.Prelude.{Option, Some, None}
use Rattle.quantity.specs.declared.count.LinkInstanceId.{LinkInstanceId}
use Prim.Native.Nat.{ℕ, zero, suc, ◌<◌}
use mathlib.Core.Path.{◌≡◌, refl, ap, ◌∙◌}
use mathlib.Core.List.{List, [], ◌∷◌, map, map-map}
use mathlib.Core.Bool.{Bool, true, false, cond, and-eq-true_iff}
use lib.ListN.{length, take, length-map}
use Rattle.facts.proofs.Tables.{each_place}
use Rattle.meaning.specs.declared.message.End.TheVariants as ends
use Rattle.meaning.specs.declared.message.Window.{Window}
use Rattle.meaning.specs.declared.message.Control.{Control}
use Rattle.writable.specs.Allowed.{instance_allowed, context_allowed, status_allowed, statuses_allowed}
use Rattle.flow.specs.declared.Flow.{Flow}
use Rattle.flow.specs.Counting.{flow_after}
use Rattle.ips_channel.specs.declared.state.Channel.{Channel}
use Rattle.ips_channel.specs.Channel.{heard_of}
use Rattle.ips_state.specs.State.{State, channel_at, no_channel}
use Rattle.ips_state.specs.Limits.{flow_fits, channel_fits, all_fit_under, all_fit, ids, names_fit, state_fits, sizes}
use Rattle.ips_state.specs.Memory.{start_of}
use Rattle.ips_radio.specs.Heard.{status_in, window_in, kept_instance, heard_from, heard_by, silenced, silenced_by}
use Rattle.ips_state.proofs.Channels.{get_d_mapped, fitting, fitting_fits}
use Rattle.ips_state.proofs.Places.{fit, fit_fits}

pub take_map : {A B : Type 0} (f : A → B) (n : ℕ) (xs : List A) → take n (map f xs) ≡ map f (take n xs)
take_map f zero xs = refl
take_map f (suc n) [] = refl
take_map {B = B} f (suc n) (x ∷ xs) = ap (λ (ys : List B). f x ∷ ys) (take_map f n xs)

-- ---- what the message changes in a channel, and in a state
flow_heard_lem : (controlled : Bool) (flow : Flow) (window : Option Window) → flow_fits controlled flow ≡ true → flow_fits controlled (cond controlled (flow_after window) flow) ≡ true
flow_heard_lem true flow window h = refl
flow_heard_lem false flow window h = h

instance_kept : (before given : Option (LinkInstanceId × ℕ)) → instance_allowed ends.Radio before ≡ true → instance_allowed ends.Radio given ≡ true → instance_allowed ends.Radio (kept_instance before given) ≡ true
instance_kept before None e d = e
instance_kept before (Some (id, n)) e d = d

-- ---- every channel is told something by its Channel ID: a Channel Status and a Flow Window, or their absence
module _ (status : ℕ → Option ℕ) (window : ℕ → Option Window) where
  abbrev told : Channel → Channel
  told c = heard_of c (status c.setting.id) (window c.setting.id)

  sizes_told : (cs : List Channel) → sizes (map told cs) ≡ sizes cs
  unfolding sizes heard_of
  sizes_told [] = refl
  sizes_told (c ∷ cs) = rw (sizes_told cs)

  starts_told : (index : ℕ) (cs : List Channel) → sizes (take index (map told cs)) ≡ sizes (take index cs)
  starts_told index cs = rw (take_map told index cs) (sizes_told (take index cs))

  ids_told : (cs : List Channel) → ids (map told cs) ≡ ids cs
  unfolding ids heard_of
  ids_told cs = rw map-map

  module _ (allowed : (id : ℕ) → status_allowed ends.Radio (status id) ≡ true) where
    fits_told : (c : Channel) → channel_fits c ≡ true → channel_fits (told c) ≡ true
    unfolding heard_of
    fits_told c fits =
        let f = fitting c fits in
        fitting_fits (told c) (record {
          unreserved = f.unreserved;
          smallest = f.smallest;
          largest = f.largest;
          status_allowed_lem = allowed c.setting.id;
          flow_fits_lem = flow_heard_lem c.setting.controlled c.flow (window c.setting.id) f.flow_fits_lem;
          well_formed_lem = f.well_formed_lem;
        })

    all_told : (cs : List Channel) → all_fit cs ≡ true → all_fit (map told cs) ≡ true
    unfolding all_fit_under
    all_told [] fits = refl
    all_told (c ∷ cs) fits = let parts = (and-eq-true_iff (channel_fits c) (all_fit cs)).0 fits in rw (fits_told c parts.0, all_told cs parts.1)

-- ---- a radio message
pub status_heard_lem : (message : Control) → statuses_allowed ends.Radio message.statuses ≡ true → (id : ℕ) → status_allowed ends.Radio (status_in message id) ≡ true
unfolding statuses_allowed
status_heard_lem message allowed id =
    each_place (statuses_allowed ends.Radio) (λ (cell : Option ℕ). status_allowed ends.Radio cell) None (λ cell cells. refl) refl message.statuses allowed id

module _ (message : Control) (s : State) where
  pub heard_count : length (heard_by message s).channels ≡ length s.channels
  unfolding heard_by
  heard_count = length-map s.channels (heard_from message)

  pub heard_ids : ids (heard_by message s).channels ≡ ids s.channels
  unfolding heard_by heard_from
  heard_ids = ids_told (status_in message) (window_in message) s.channels

  pub heard_sizes : sizes (heard_by message s).channels ≡ sizes s.channels
  unfolding heard_by heard_from
  heard_sizes = sizes_told (status_in message) (window_in message) s.channels

  pub heard_start : (index : ℕ) → start_of (heard_by message s) index ≡ start_of s index
  unfolding start_of heard_by heard_from
  heard_start index = starts_told (status_in message) (window_in message) index s.channels

  -- a state within the limits stays within them, where the message states what the radio may state
  pub heard_fits : state_fits s ≡ true → statuses_allowed ends.Radio message.statuses ≡ true → instance_allowed ends.Radio message.instance ≡ true
      → context_allowed ends.Radio message.context ≡ true → state_fits (heard_by message s) ≡ true
  unfolding heard_by heard_from names_fit
  heard_fits fits statuses instance context =
      let f = fit s fits in
      let names = (and-eq-true_iff (instance_allowed ends.Radio s.instance) (context_allowed ends.Radio s.context)).0 f.names in
      fit_fits (heard_by message s) (record {
        some = rw heard_count f.some;
        few = rw heard_count f.few;
        names = rw (instance_kept s.instance message.instance names.0 instance, context);
        waits = f.waits;
        each = all_told (status_in message) (window_in message) (status_heard_lem message statuses) s.channels f.each;
        apart = rw heard_ids f.apart;
        primary = rw heard_ids f.primary;
      })

  module _ (index : ℕ) (inside : index < length s.channels) where
    pub heard_at_lem : channel_at (heard_by message s) index ≡ heard_from message (channel_at s index)
    unfolding channel_at heard_by
    heard_at_lem = get_d_mapped (heard_from message) s.channels index no_channel no_channel inside

    pub heard_status : (channel_at (heard_by message s) index).status ≡ status_in message (channel_at s index).setting.id
    unfolding heard_from heard_of
    heard_status = rw heard_at_lem

    -- a configured channel that the message doesn't name
    pub heard_unnamed : status_in message (channel_at s index).setting.id ≡ None → (channel_at (heard_by message s) index).status ≡ None
    heard_unnamed absent = heard_status ∙ absent

    pub heard_plain : (channel_at s index).setting.controlled ≡ false → (channel_at (heard_by message s) index).flow ≡ (channel_at s index).flow
    unfolding heard_from heard_of
    heard_plain plain = rw (heard_at_lem, plain)

    pub heard_flow : (channel_at s index).setting.controlled ≡ true → (channel_at (heard_by message s) index).flow ≡ flow_after (window_in message (channel_at s index).setting.id)
    unfolding heard_from heard_of
    heard_flow controlled = rw (heard_at_lem, controlled)

-- ---- a silence
module _ (s : State) where
  pub silenced_count : length (silenced_by s).channels ≡ length s.channels
  unfolding silenced_by
  silenced_count = length-map s.channels silenced

  silenced_ids : ids (silenced_by s).channels ≡ ids s.channels
  unfolding silenced_by silenced
  silenced_ids = ids_told (λ id. None) (λ id. (Some Window.Empty)) s.channels

  pub silenced_sizes : sizes (silenced_by s).channels ≡ sizes s.channels
  unfolding silenced_by silenced
  silenced_sizes = sizes_told (λ id. None) (λ id. (Some Window.Empty)) s.channels

  pub silenced_start : (index : ℕ) → start_of (silenced_by s) index ≡ start_of s index
  unfolding start_of silenced_by silenced
  silenced_start index = starts_told (λ id. None) (λ id. (Some Window.Empty)) index s.channels

  pub silenced_fits : state_fits s ≡ true → state_fits (silenced_by s) ≡ true
  unfolding silenced_by silenced names_fit
  silenced_fits fits =
      let f = fit s fits in
      fit_fits (silenced_by s) (record {
        some = rw silenced_count f.some;
        few = rw silenced_count f.few;
        names = f.names;
        waits = f.waits;
        each = all_told (λ id. None) (λ id. (Some Window.Empty)) (λ id. refl) s.channels f.each;
        apart = rw silenced_ids f.apart;
        primary = rw silenced_ids f.primary;
      })

  module _ (index : ℕ) (inside : index < length s.channels) where
    pub silenced_at : channel_at (silenced_by s) index ≡ silenced (channel_at s index)
    unfolding channel_at silenced_by
    silenced_at = get_d_mapped silenced s.channels index no_channel no_channel inside
