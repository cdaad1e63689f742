-- The message may always be written: number 20 is not given. Assumes nothing.
use Rattle.quantity.specs.declared.count.FlowSequence.{FlowSequence}
use Rattle.std.specs.Prelude.{Option, Some, None, Result}
use Rattle.quantity.specs.declared.count.LinkInstanceId.{LinkInstanceId}
use Rattle.quantity.specs.declared.count.ByteCount.{ByteCount}
use Rattle.quantity.specs.declared.refusal.Refusal.{Refusal}
use Rattle.meaning.specs.declared.message.ContextBytes.{ContextBytes}
use Prim.Native.Nat.{ℕ, zero, suc, ◌≤◌, ◌<◌}
use mathlib.Core.Bool.{Bool, true, false, cond}
use mathlib.Core.List.{List, [], ◌∷◌}
use mathlib.Core.Logic.{⊎_elim}
use mathlib.Core.Path.{◌≡◌, refl, sym, ap, ◌∙◌}
use native.Mathlib.Omega.{arith}
use borrow.Author.Tests.{le-leb, ltb-true}
use lib.Dec.{eqb}
use lib.ListN.{length, get_or, set, replicate}
use lib.Seq.{ext_get_or}
use Rattle.facts.specs.Tables.{tabulate}
use Rattle.facts.proofs.Tables.{all_places}
use Rattle.quantity.specs.declared.count.DatalinkId.{DatalinkId}
use Rattle.quantity.specs.Limits.{CHANNEL-IDS, HIGHEST-STATUS}
use Rattle.meaning.specs.declared.message.End.TheVariants as ends
use Rattle.meaning.specs.declared.message.Window.{Window}
use Rattle.meaning.specs.declared.message.Control.{Control}
use Rattle.writable.specs.Allowed.{instance_allowed, context_allowed, status_allowed, statuses_allowed, stands, sequences_allowed, window_allowed, windows_allowed, control_allowed}
use Rattle.writer.specs.Written.{control_written, Outcome}
use Rattle.radio_end_state.specs.declared.channel.Channel.{Channel}
use Rattle.radio_end_state.specs.Channel.{hearing_on}
use Rattle.radio_end_state.specs.State.{State, no_channel, channel_at}
use Rattle.radio_end_state.specs.Limits.{index_of, has_id, ids}
use Rattle.radio_end_state.specs.Message.{status_for, window_for, message_of, message_bytes}
use Rattle.radio_end_state.proofs.Fit.{channel_fit, Fit, fit_facts, ids_at, ids_length}
use Rattle.radio_end_message.specs.declared.tables.Tables.{Tables}
use Rattle.radio_end_message.specs.Changed.{changed_channels, changed, tables_of, Change}
use Rattle.radio_end_message.proofs.Filling.{same_or_not, taken_place, kept_place, changed_length, changed_at, replaced_id}

-- ---- each part of the message
stated_low : (c : Channel) (rest : Option ℕ) (b : Bool) → c.status ≤ 15 → status_allowed ends.Radio rest ≡ true
    → status_allowed ends.Radio (cond b (Some c.status) rest) ≡ true
stated_low c rest true low e = le-leb c.status HIGHEST-STATUS low
stated_low c rest false low e = e

status_low : (cs : List Channel) → ((i : ℕ) → i < length cs → (get_or cs i no_channel).status ≤ 15) → (id : ℕ) → status_allowed ends.Radio (status_for cs id) ≡ true
unfolding status_for
status_low [] low id = refl
status_low (c ∷ cs) low id = stated_low c (status_for cs id) (eqb c.setting.id id) (low 0 (omega arith)) (status_low cs (λ i h. low (suc i) (omega arith)) id)

window_may : (cs : List Channel) (id : ℕ) → window_allowed ends.Radio (window_for cs id) ≡ true
window_may cs id = go (window_for cs id)
  where
    go : (w : Option Window) → window_allowed ends.Radio w ≡ true
    go None = refl
    go (Some Window.Empty) = refl
    go (Some (Window.Given number)) = refl

sequences_none : (n : ℕ) → sequences_allowed ends.Radio (replicate n None) ≡ true
unfolding sequences_allowed
sequences_none zero = refl
sequences_none (suc n) = sequences_none n

-- channel 0 has a status
stands_by : (c : Channel) (rest : Option ℕ) (i n : ℕ) (b : Bool) → cond b 0 (suc i) < suc n → (i < n → stands rest ≡ true)
    → stands (cond b (Some c.status) rest) ≡ true
stands_by c rest i n true h f = refl
stands_by c rest i n false h f = f (omega arith)

primary_stands : (cs : List Channel) → index_of 0 (ids cs) < length (ids cs) → stands (status_for cs 0) ≡ true
unfolding index_of ids status_for
primary_stands [] h = absurd (omega arith)
primary_stands (c ∷ cs) h = stands_by c (status_for cs 0) (index_of 0 (ids cs)) (length (ids cs)) (eqb c.setting.id 0) h (λ l. primary_stands cs l)

-- THE MESSAGE OF A STATE with a channel 0, statuses of 4 bits and names within their lengths
pub message_allowed : (s : State) → instance_allowed ends.Radio s.instance ≡ true → context_allowed ends.Radio s.context ≡ true
    → ((i : ℕ) → i < length s.channels → (get_or s.channels i no_channel).status ≤ 15) → has_id 0 (ids s.channels) ≡ true → control_allowed ends.Radio (message_of s) ≡ true
unfolding control_allowed message_of has_id statuses_allowed windows_allowed tabulate
message_allowed s instance context low primary =
    rw (instance, context, statuses, primary_stands s.channels (ltb-true _ _ primary), sequences_none CHANNEL-IDS) windows
  where
    statuses : statuses_allowed ends.Radio (tabulate CHANNEL-IDS (status_for s.channels)) ≡ true
    statuses = all_places (statuses_allowed ends.Radio) (λ (cell : Option ℕ). status_allowed ends.Radio cell) refl (λ cell cells. refl) CHANNEL-IDS (status_for s.channels) (status_low s.channels low)

    windows : windows_allowed ends.Radio (tabulate CHANNEL-IDS (window_for s.channels)) ≡ true
    windows = all_places (windows_allowed ends.Radio) (λ (cell : Option Window). window_allowed ends.Radio cell) refl (λ cell cells. refl) CHANNEL-IDS (window_for s.channels) (window_may s.channels)

-- ---- after a change
module _ (s : State) (context : Option (ContextBytes × ℕ)) (index : ℕ) (c : Channel) (cells : List (Option FlowSequence)) (change : Change s context index c) where
  abbrev after : List Channel
  after = changed_channels s index c cells

  facts : Fit s
  facts = fit_facts s change.replaces.fits

  replaced_low : (at : ℕ) → at < length s.channels → (get_or (set s.channels index c) at no_channel).status ≤ 15
  unfolding channel_at
  replaced_low at h =
      ⊎_elim (λ (p : at ≡ index). rw (← (taken_place s.channels at index c h p)) change.low)
      (λ (f : at ≡ index → ⊥). rw (← (kept_place s.channels at index c f)) (channel_fit (channel_at s at) (facts.each at h)).status) (same_or_not at index)

  all_low : (at : ℕ) → at < length after → (get_or after at no_channel).status ≤ 15
  unfolding hearing_on
  all_low at h =
      let inside : at < length s.channels = omega (arith, changed_length s index c cells) in
      rw (changed_at s index c cells at inside) (replaced_low at inside)

  ids_same_at : (at : ℕ) → at < length (ids after) → get_or (ids after) at 0 ≡ get_or (ids s.channels) at 0
  unfolding hearing_on channel_at
  ids_same_at at h =
      let inside : at < length s.channels = omega (arith, ids_length after, changed_length s index c cells) in
      ids_at after at ∙ ap (λ (d : Channel). d.setting.id) (changed_at s index c cells at inside) ∙ replaced_id s index c change.replaces.same_id at inside ∙ sym (ids_at s.channels at)

  pub ids_same : ids after ≡ ids s.channels
  ids_same = ext_get_or 0 (ids after) (ids s.channels) (ids_length after ∙ changed_length s index c cells ∙ sym (ids_length s.channels)) ids_same_at

  pub change_allowed : control_allowed ends.Radio (message_of (changed s context index c cells)) ≡ true
  unfolding changed
  change_allowed = message_allowed (changed s context index c cells) facts.instance change.context_allowed_lem all_low (rw ids_same facts.primary)

-- ---- the parts make the message
pub built : (s : State) (context : Option (ContextBytes × ℕ)) (index : ℕ) (c : Channel) (cells : List (Option FlowSequence)) (tables : Tables) (datalink : DatalinkId) (instance : Option (LinkInstanceId × ℕ))
    → tables ≡ tables_of (changed_channels s index c cells) → datalink ≡ s.datalink → instance ≡ s.instance
    → record {
      datalink = Some datalink;
      instance = instance;
      context = context;
      statuses = tables.statuses;
      sequences = replicate CHANNEL-IDS None;
      windows = tables.windows;
    } ≡ message_of (changed s context index c cells)
unfolding message_of changed tables_of
built s context index c cells tables datalink instance t d i = rw (t, d, i)

-- and it is written, or 18 is given
pub written : (s : State) (context : Option (ContextBytes × ℕ)) (index : ℕ) (c : Channel) (cells : List (Option FlowSequence)) → Change s context index c → (m : Control) → m ≡ message_of (changed s context index c cells)
    → (out : List ℕ) (answer : Result ByteCount Refusal) (out' : List ℕ) → Outcome (control_allowed ends.Radio m) (control_written m) out answer out'
    → Outcome true (message_bytes (changed s context index c cells)) out answer out'
written s context index c cells change m e out answer out' o =
    let same : Outcome (control_allowed ends.Radio (message_of (changed s context index c cells))) (message_bytes (changed s context index c cells)) out answer out' = rw e at o in
    rw (change_allowed s context index c cells change) at same
