-- What the message of a state within the limits says: read at the other end it is accepted, and states every channel. Assumes nothing.
use Rattle.meaning.specs.declared.message.Window.{Window}
use Rattle.std.specs.Prelude.{Option, Some, None}
use Rattle.quantity.specs.declared.count.FlowSequence.{FlowSequence}
use Prim.Native.Nat.{ℕ, zero, suc, ◌≤◌, ◌<◌}
use mathlib.Core.Bool.{Bool, true, false, cond}
use mathlib.Core.List.{List, [], ◌∷◌}
use mathlib.Core.Path.{◌≡◌, refl, sym, ap, subst, ◌∙◌}
use native.Mathlib.Omega.{arith}
use borrow.Author.Tests.{eqb-true}
use lib.Dec.{eqb}
use lib.ListN.{length, get_or, replicate, length-replicate}
use Rattle.facts.specs.Tables.{tabulate}
use Rattle.facts.proofs.Tables.{length_tabulate, get_d_tabulate, each_tabulated}
use Rattle.quantity.specs.declared.count.ByteCount.{ByteCount}
use Rattle.quantity.specs.Limits.{CHANNEL-IDS}
use Rattle.meaning.specs.declared.message.End.TheVariants as ends
use Rattle.writable.specs.Allowed.{control_allowed}
use Rattle.read_control.specs.Message.{control_accepted}
use Rattle.reader.specs.Readings.{Verdict, read_control}
use Rattle.roundtrip.specs.Values.{WindowWord, ControlValue}
use Rattle.roundtrip.proofs.Control.{control_short, control_round}
use Rattle.radio_flow.specs.Granting.{window_of, allowance_of}
use Rattle.radio_end_state.specs.declared.channel.Channel.{Channel}
use Rattle.radio_end_state.specs.Channel.{window_now}
use Rattle.radio_end_state.specs.State.{State, no_channel, channel_at}
use Rattle.radio_end_state.specs.Limits.{index_of, ids, state_fits, index_in}
use Rattle.radio_end_state.specs.Message.{status_for, window_for, message_of, message_bytes}
use Rattle.radio_end_state.proofs.Fit.{Fit, fit_facts, channel_fit}
use Rattle.radio_end_message.proofs.Allowed.{message_allowed}
use Rattle.radio_end_laws.specs.Plain.{WindowIs, Names}
use Rattle.radio_end_laws.proofs.Places.{stands_first_lem}

-- ---- the window of a channel, in literal numbers
pub window_now_lem : (c : Channel) → WindowIs c (window_now c)
unfolding window_now window_of allowance_of
window_now_lem c = record { plain = λ e. rw e; unheard = λ e h. rw (e, h); heard = λ h e k. rw (e, k) }

granted_word : (controlled : Bool) (highest : Option FlowSequence) (allowance : ByteCount) → WindowWord (window_of controlled highest allowance)
unfolding window_of
granted_word false highest allowance = tt
granted_word true None allowance = tt
granted_word true (Some h) allowance = omega arith

now_word : (c : Channel) → WindowWord (window_now c)
unfolding window_now
now_word c = granted_word c.setting.controlled c.highest (allowance_of c.setting.watermark c.setting.throughput c.queued)

-- ---- the message is a value, and may be written
window_word_lem : (cs : List Channel) (id : ℕ) → WindowWord (window_for cs id)
unfolding window_for
window_word_lem [] id = tt
window_word_lem (c ∷ cs) id = go (eqb c.setting.id id) (window_for cs id) (window_word_lem cs id)
  where
    go : (b : Bool) (rest : Option Window) → WindowWord rest → WindowWord (cond b (window_now c) rest)
    go true rest w = now_word c
    go false rest w = w

none_stated : (n id : ℕ) → get_or {A = Option FlowSequence} (replicate n None) id None ≡ None
none_stated zero id = refl
none_stated (suc n) zero = refl
none_stated (suc n) (suc id) = none_stated n id

pub message_value : (s : State) → ControlValue (message_of s)
unfolding message_of
message_value s = record {
  statuses_long = length_tabulate CHANNEL-IDS (status_for s.channels);
  sequences_long = length-replicate {A = Option FlowSequence} CHANNEL-IDS None;
  windows_long = length_tabulate CHANNEL-IDS (window_for s.channels);
  sequence_words = λ id. rw (none_stated CHANNEL-IDS id) tt;
  window_words = each_tabulated (λ (cell : Option Window). WindowWord cell) None tt CHANNEL-IDS (window_for s.channels) (window_word_lem s.channels);
}

module _ (s : State) (fits : state_fits s ≡ true) where
  facts : Fit s
  facts = fit_facts s fits

  pub may_be_written : control_allowed ends.Radio (message_of s) ≡ true
  unfolding channel_at
  may_be_written = message_allowed s facts.instance facts.context (λ i h. (channel_fit (channel_at s i) (facts.each i h)).status) facts.primary

  -- "over 65,507 bytes" it never is
  pub message_short : length (message_bytes s) ≤ 65507
  message_short = control_short ends.Radio (message_of s) (message_value s) may_be_written

  -- READ BACK by a reader of radio messages on the same Datalink ID: accepted, with the meaning that was written
  pub tells_back : read_control ends.Radio s.datalink (message_bytes s) ≡ record { verdict = Verdict.Accepted; message = message_of s }
  unfolding message_of control_accepted
  tells_back = control_round ends.Radio s.datalink (message_of s) (message_value s) may_be_written refl

-- ---- what it states of a Channel ID is of the first channel that has it
status_first : (cs : List Channel) (id : ℕ) → index_of id (ids cs) < length cs → (status_for cs id) ≡ Some (get_or cs (index_of id (ids cs)) no_channel).status
unfolding status_for index_of ids
status_first [] id h = absurd (omega arith)
status_first (c ∷ cs) id h = go (eqb c.setting.id id) h (status_first cs id)
  where
    go : (b : Bool) → cond b 0 (suc (index_of id (ids cs))) < suc (length cs)
        → (index_of id (ids cs) < length cs → (status_for cs id) ≡ Some (get_or cs (index_of id (ids cs)) no_channel).status)
        → (cond b (Some c.status) (status_for cs id)) ≡ Some (get_or (c ∷ cs) (cond b 0 (suc (index_of id (ids cs)))) no_channel).status
    go true l f = refl
    go false l f = f (omega arith)

window_first : (cs : List Channel) (id : ℕ) → index_of id (ids cs) < length cs → (window_for cs id) ≡ window_now (get_or cs (index_of id (ids cs)) no_channel)
unfolding window_for index_of ids
window_first [] id h = absurd (omega arith)
window_first (c ∷ cs) id h = go (eqb c.setting.id id) h (window_first cs id)
  where
    go : (b : Bool) → cond b 0 (suc (index_of id (ids cs))) < suc (length cs)
        → (index_of id (ids cs) < length cs → (window_for cs id) ≡ window_now (get_or cs (index_of id (ids cs)) no_channel))
        → (cond b (window_now c) (window_for cs id)) ≡ window_now (get_or (c ∷ cs) (cond b 0 (suc (index_of id (ids cs)))) no_channel)
    go true l f = refl
    go false l f = f (omega arith)

-- and nothing of an ID that none has
none_has : (cs : List Channel) (id : ℕ) → ((i : ℕ) → i < length cs → (get_or cs i no_channel).setting.id ≡ id → ⊥)
    → (status_for cs id ≡ None) × (window_for cs id ≡ None)
unfolding status_for window_for
none_has [] id none = (refl, refl)
none_has (c ∷ cs) id none = go (eqb c.setting.id id) refl (none_has cs id (λ i h. none (suc i) (omega arith)))
  where
    go : (b : Bool) → eqb c.setting.id id ≡ b → (status_for cs id ≡ None) × (window_for cs id ≡ None)
        → (cond b (Some c.status) (status_for cs id) ≡ None) × (cond b (window_now c) (window_for cs id) ≡ None)
    go true e f = absurd (none 0 (omega arith) (eqb-true _ _ e))
    go false e f = f

-- a table that states nothing of a place
blank_place : {A : Type 0} (n : ℕ) (f : ℕ → A) (absent : A) (id : ℕ) → f id ≡ absent → get_or (tabulate n f) id absent ≡ absent
unfolding tabulate
blank_place zero f absent id e = refl
blank_place (suc n) f absent zero e = e
blank_place (suc n) f absent (suc id) e = blank_place n (λ k. f (suc k)) absent id e

module _ (s : State) (fits : state_fits s ≡ true) where
  -- EVERY CHANNEL, AND NO OTHER
  pub names_every : Names s (message_of s)
  unfolding message_of channel_at
  names_every = record {
    datalink = refl;
    instance = refl;
    context = refl;
    status = λ index h. ap (λ (cell : Option ℕ). cell) (get_d_tabulate CHANNEL-IDS (status_for s.channels) (channel_at s index).setting.id None (low index h)) ∙ status_first s.channels _ (near index h) ∙ ap (λ (i : ℕ). Some (channel_at s i).status) (first index h);
    window = λ index h. subst (WindowIs (channel_at s index)) (sym (ap (λ (cell : Option Window). cell) (get_d_tabulate CHANNEL-IDS (window_for s.channels) (channel_at s index).setting.id None (low index h)) ∙ window_first s.channels _ (near index h) ∙ ap (λ (i : ℕ). window_now (channel_at s i)) (first index h))) (window_now_lem (channel_at s index));
    no_other = λ id none.
        let absent = none_has s.channels id (λ i h e. none (i, record { inside = h; is = e })) in
        (ap (λ (cell : Option ℕ). cell) (blank_place CHANNEL-IDS (status_for s.channels) None id absent.0), ap (λ (cell : Option Window). cell) (blank_place CHANNEL-IDS (window_for s.channels) None id absent.1));
    no_sequence_lem = λ id. rw (none_stated CHANNEL-IDS id);
  }
    where
      low : (index : ℕ) → index < length s.channels → (channel_at s index).setting.id < CHANNEL-IDS
      low index h = (channel_fit (channel_at s index) ((fit_facts s fits).each index h)).unreserved

      first : (index : ℕ) → index < length s.channels → index_in s (channel_at s index).setting.id ≡ index
      first index h = stands_first_lem s fits _ index (record { inside = h; is = refl })

      near : (index : ℕ) → index < length s.channels → index_in s (channel_at s index).setting.id < length s.channels
      near index h = omega (arith, h, first index h)
