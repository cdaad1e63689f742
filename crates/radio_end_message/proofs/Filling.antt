-- The tables filled from the last channel to the first: the first with an ID is the one that is stated. Assumes nothing.
use Rattle.quantity.specs.declared.count.FlowSequence.{FlowSequence}
use Rattle.std.specs.Prelude.{Option, Some, None}
use Prim.Native.Nat.{ℕ, zero, suc, ◌-◌, ◌≤◌, ◌<◌}
use mathlib.Core.Bool.{Bool, true, false}
use mathlib.Core.List.{List, [], ◌∷◌, map}
use mathlib.Core.Logic.{◌⊎◌, inl, inr, ⊎_elim}
use mathlib.Core.Path.{◌≡◌, refl, sym, ap, ◌∙◌}
use native.Mathlib.Omega.{arith}
use borrow.Author.Tests.{eq-eqb, ne_eqb, eqb-true, eqb-false}
use lib.Dec.{eqb}
use lib.ListN.{length, drop, get_or, set, replicate, length-set, length-map, drop_of_length-le}
use lib.Seq.{drop-cons, get_or-set_same, get_or-set_other}
use Rattle.facts.specs.Tables.{tabulate}
use Rattle.facts.proofs.Tables.{tabulate_same, set_tabulate}
use Rattle.quantity.specs.Limits.{CHANNEL-IDS}
use Rattle.meaning.specs.declared.message.Window.{Window}
use Rattle.radio_end_state.specs.declared.channel.Channel.{Channel}
use Rattle.radio_end_state.specs.Channel.{window_now, hearing_on}
use Rattle.radio_end_state.specs.State.{State, no_channel, channel_at}
use Rattle.radio_end_state.specs.Message.{status_for, window_for}
use Rattle.radio_end_state.proofs.Fit.{channel_fit, fit_facts}
use Rattle.radio_end_message.specs.Changed.{hears, changed_channels, tables_of, Replaces}

eqb_sym : (a b : ℕ) → eqb a b ≡ eqb b a
eqb_sym a b = go (eqb a b) refl
  where
    go : (t : Bool) → eqb a b ≡ t → t ≡ eqb b a
    go true e = sym (eq-eqb b a (sym (eqb-true a b e)))
    go false e = sym (ne_eqb b a (λ (q : b ≡ a). eqb-false a b e (sym q)))

pub same_or_not : (a b : ℕ) → (a ≡ b) ⊎ (a ≡ b → ⊥)
same_or_not a b = go (eqb a b) refl
  where
    go : (t : Bool) → eqb a b ≡ t → (a ≡ b) ⊎ (a ≡ b → ⊥)
    go true e = inl (eqb-true a b e)
    go false e = inr (eqb-false a b e)

pub record Filling (cs : List Channel) (statuses : List (Option ℕ)) (windows : List (Option Window)) (at : ℕ) : Type 0 where
  pub inside : at ≤ length cs
  pub statuses_are : statuses ≡ tabulate CHANNEL-IDS (status_for (drop at cs))
  pub windows_are : windows ≡ tabulate CHANNEL-IDS (window_for (drop at cs))

-- a table that says nothing; the number of places stays a variable
none_stated : (n k : ℕ) → n ≡ k → replicate n None ≡ tabulate k (status_for [])
unfolding status_for
none_stated n k e = sym (tabulate_same None e)

none_granted : (n k : ℕ) → n ≡ k → replicate n None ≡ tabulate k (window_for [])
unfolding window_for
none_granted n k e = sym (tabulate_same None e)

pub fill_start : (cs : List Channel) (n : ℕ) → n ≡ length cs → Filling cs (replicate CHANNEL-IDS None) (replicate CHANNEL-IDS None) n
fill_start cs n e =
    let past : drop n cs ≡ [] = drop_of_length-le cs {i = n} (omega arith) in
    record { inside = omega arith; statuses_are = rw past (none_stated CHANNEL-IDS CHANNEL-IDS refl); windows_are = rw past (none_granted CHANNEL-IDS CHANNEL-IDS refl) }

status_more : (d : Channel) (cs : List Channel) → set (tabulate CHANNEL-IDS (status_for cs)) d.setting.id (Some d.status) ≡ tabulate CHANNEL-IDS (status_for (d ∷ cs))
unfolding status_for
status_more d cs = set_tabulate CHANNEL-IDS (status_for cs) (status_for (d ∷ cs)) d.setting.id (Some d.status) (λ k. rw (eqb_sym k d.setting.id))

window_more : (d : Channel) (cs : List Channel) → set (tabulate CHANNEL-IDS (window_for cs)) d.setting.id (window_now d) ≡ tabulate CHANNEL-IDS (window_for (d ∷ cs))
unfolding window_for
window_more d cs = set_tabulate CHANNEL-IDS (window_for cs) (window_for (d ∷ cs)) d.setting.id (window_now d) (λ k. rw (eqb_sym k d.setting.id))

pub fill_on : (cs : List Channel) (statuses : List (Option ℕ)) (windows : List (Option Window)) (at at' id : ℕ) (d : Channel) (window : Option Window) → Filling cs statuses windows at → 0 < at → at' ≡ at - 1
    → d ≡ get_or cs at' no_channel → id ≡ d.setting.id → window ≡ window_now d
    → Filling cs (set statuses id (Some d.status)) (set windows id window) at'
fill_on cs statuses windows at at' id d window f h e is named w =
    let next : at ≡ suc at' = omega arith in
    let here : drop at' cs ≡ d ∷ drop at cs = drop-cons cs at' no_channel (omega (arith, f.inside)) ∙ rw (← is, ← next) in
    record {
      inside = omega (arith, f.inside);
      statuses_are = rw (named, here, f.statuses_are) (status_more d (drop at cs));
      windows_are = rw (named, w, here, f.windows_are) (window_more d (drop at cs));
    }

pub fill_end : (cs : List Channel) (statuses : List (Option ℕ)) (windows : List (Option Window)) (at : ℕ) → Filling cs statuses windows at → at ≤ 0 → record { statuses = statuses; windows = windows } ≡ tables_of cs
unfolding tables_of
fill_end cs statuses windows at f h =
    let first : at ≡ 0 = omega arith in
    rw (f.statuses_are, f.windows_are, first)

-- ---- the channel at a place, or the one that takes its place
pub taken_place : (cs : List Channel) (at index : ℕ) (c : Channel) → at < length cs → at ≡ index → c ≡ get_or (set cs index c) at no_channel
taken_place cs at index c h e = rw e (sym (get_or-set_same cs index c no_channel (omega arith)))

pub kept_place : (cs : List Channel) (at index : ℕ) (c : Channel) → (at ≡ index → ⊥) → get_or cs at no_channel ≡ get_or (set cs index c) at no_channel
kept_place cs at index c f = sym (get_or-set_other cs index at c no_channel f)

-- ---- the channels after the change
get_d_map : (f : Channel → Channel) (cs : List Channel) (at : ℕ) → at < length cs → get_or (map f cs) at no_channel ≡ f (get_or cs at no_channel)
get_d_map f [] at h = absurd (omega arith)
get_d_map f (c ∷ cs) zero h = refl
get_d_map f (c ∷ cs) (suc at) h = get_d_map f cs at (omega arith)

module _ (s : State) (index : ℕ) (c : Channel) (cells : List (Option FlowSequence)) where
  pub changed_length : length (changed_channels s index c cells) ≡ length s.channels
  unfolding changed_channels
  changed_length = simp (length-map, length-set)

  pub changed_at : (at : ℕ) → at < length s.channels → get_or (changed_channels s index c cells) at no_channel ≡ hears cells (get_or (set s.channels index c) at no_channel)
  unfolding changed_channels
  changed_at at h = get_d_map (hears cells) (set s.channels index c) at (simp length-set h)

-- one that takes a place has its ID
pub replaced_id : (s : State) (index : ℕ) (c : Channel) → c.setting.id ≡ (channel_at s index).setting.id → (at : ℕ) → at < length s.channels
    → (get_or (set s.channels index c) at no_channel).setting.id ≡ (channel_at s at).setting.id
unfolding channel_at
replaced_id s index c e at h =
    ⊎_elim (λ (p : at ≡ index). ap (λ (d : Channel). d.setting.id) (sym (taken_place s.channels at index c h p)) ∙ e ∙ rw p)
    (λ (f : at ≡ index → ⊥). ap (λ (d : Channel). d.setting.id) (sym (kept_place s.channels at index c f))) (same_or_not at index)

pub replaced_small : (s : State) (index : ℕ) (c : Channel) → Replaces s index c → (at : ℕ) → at < length s.channels
    → (get_or (set s.channels index c) at no_channel).setting.id < 255
replaced_small s index c r at h = rw (replaced_id s index c r.same_id at h) (channel_fit (channel_at s at) ((fit_facts s r.fits).each at h)).unreserved

-- one turn of the loop
module _ (s : State) (index : ℕ) (c : Channel) (cells : List (Option FlowSequence)) where
  abbrev after : List Channel
  after = changed_channels s index c cells

  module _ (statuses : List (Option ℕ)) (windows : List (Option Window)) (at : ℕ) (f : Filling after statuses windows at) (h : 0 < at) (cur : Channel) (is : cur ≡ get_or (set s.channels index c) (at - 1) no_channel) where
    pub turn_inside : at - 1 < length s.channels
    turn_inside = omega (arith, f.inside, changed_length s index c cells)

    pub turn_small : Replaces s index c → cur.setting.id < 255
    turn_small r = rw is (replaced_small s index c r (at - 1) turn_inside)

    pub fill_turn : (d : Channel) (window : Option Window) → d ≡ hearing_on cur (get_or cells cur.setting.id None) → window ≡ window_now d
        → Filling after (set statuses cur.setting.id (Some d.status)) (set windows cur.setting.id window) (at - 1)
    unfolding hearing_on
    fill_turn d window e w =
        fill_on after statuses windows at (at - 1) cur.setting.id d window f h refl (e ∙ ap (hears cells) is ∙ sym (changed_at s index c cells (at - 1) turn_inside)) (sym (ap (λ (x : Channel). x.setting.id) e)) w
