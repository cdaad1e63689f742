-- The two passes over a control message. Assumes nothing.
use Rattle.std.specs.Prelude.{Option, None}
use Rattle.quantity.specs.declared.count.FlowSequence.{FlowSequence}
use Prim.Native.Nat.{ℕ, zero, suc, ◌+◌, ◌-◌, ◌≤◌, ◌<◌}
use mathlib.Core.Bool.{true, false}
use mathlib.Core.List.{List, [], ◌∷◌, map, append-nil}
use mathlib.Core.Path.{◌≡◌, refl, sym, ap, ◌∙◌}
use native.Mathlib.Numerals.{add-one}
use native.Mathlib.Omega.{arith}
use borrow.Rule.Slice.PartMut.{put_mid}
use lib.Dec.{ltb}
use lib.ListN.{length, take, drop, get_or, set, drop_of_length-le}
use lib.Seq.{take_all, drop-drop}
use Rattle.quantity.specs.Limits.{CHANNEL-IDS}
use Rattle.meaning.specs.declared.message.Control.{Control}
use Rattle.radio_end_state.specs.declared.channel.Channel.{Channel}
use Rattle.radio_end_state.specs.Channel.{hearing_on}
use Rattle.radio_end_state.specs.State.{State, no_channel, channel_at, with_channels, with_channel}
use Rattle.radio_end_state.specs.Limits.{has_id, is_configured, index_in, state_fits}
use Rattle.radio_end_state.specs.Calls.{sequence_in, names_own, lacks_none, hearing_all}
use Rattle.radio_end_state.proofs.UpTo.{up_to_by, up_to_out}
use Rattle.radio_end_state.proofs.Fit.{ChannelFit, channel_fit, fit_facts, ids_length}
use Rattle.radio_end_words.specs.Words.{SLOT, words_for, slot_start, slot, channel_in, state_in, channel_words, state_words, Loadable}
use Rattle.radio_end_words.proofs.Slots.{channel_back}
use Rattle.radio_end_words.proofs.Whole.{state_length, slot_state, put_channel_lem, fit_words}
use Rattle.radio_end_words.proofs.Placing.{channel_loadable}
use Rattle.radio_end_message.specs.Changed.{hears}
use Rattle.radio_end_hearing.specs.Passing.{heard_to}

-- ---- every channel that is named is configured
pub configured_is : (s : State) (id i n : ℕ) → i ≡ index_in s id → n ≡ length s.channels → ltb i n ≡ is_configured s id
unfolding has_id
configured_is s id i n e f = rw (e, f, ids_length s.channels)

module _ (s : State) (message : Control) where
  pub all_own : ((id : ℕ) → id < CHANNEL-IDS → names_own s message id ≡ true) → lacks_none s message ≡ true
  unfolding lacks_none
  all_own each = up_to_by (names_own s message) CHANNEL-IDS each

  pub one_lacks : (id : ℕ) → id < CHANNEL-IDS → names_own s message id ≡ false → lacks_none s message ≡ false
  unfolding lacks_none
  one_lacks id h e = up_to_out (names_own s message) CHANNEL-IDS id h e

-- ---- the first channels have heard
module _ (cells : List (Option FlowSequence)) where
  heard_length : (cs : List Channel) (at : ℕ) → length (heard_to cells cs at) ≡ length cs
  unfolding heard_to
  heard_length [] zero = refl
  heard_length [] (suc at) = refl
  heard_length (c ∷ cs) zero = refl
  heard_length (c ∷ cs) (suc at) = ap suc (heard_length cs at)

  heard_next : (cs : List Channel) (at : ℕ) → get_or (heard_to cells cs at) at no_channel ≡ get_or cs at no_channel
  unfolding heard_to
  heard_next [] zero = refl
  heard_next [] (suc at) = refl
  heard_next (c ∷ cs) zero = refl
  heard_next (c ∷ cs) (suc at) = heard_next cs at

  heard_more : (cs : List Channel) (at : ℕ) → at < length cs → set (heard_to cells cs at) at (hears cells (get_or cs at no_channel)) ≡ heard_to cells cs (suc at)
  unfolding heard_to
  heard_more [] at h = absurd (omega arith)
  heard_more (c ∷ cs) zero h = refl
  heard_more (c ∷ cs) (suc at) h = ap (λ (ds : List Channel). hears cells c ∷ ds) (heard_more cs at (omega arith))

  heard_end : (cs : List Channel) (at : ℕ) → length cs ≤ at → heard_to cells cs at ≡ map (hears cells) cs
  unfolding heard_to
  heard_end cs at h = rw (take_all at cs h, drop_of_length-le cs {i = at} h) (append-nil (map (hears cells) cs))

-- ---- the words as they hear
pub more_by : (n k at : ℕ) → n ≡ k → at < n → at < k
more_by n k at e h = omega arith

pub end_by : (n k at : ℕ) → n ≡ k → n ≤ at → k ≤ at
end_by n k at e h = omega arith

abbrev pub passed : State → Control → ℕ → State
passed s message at = with_channels s (heard_to message.sequences s.channels at)

pub record Hearing (s : State) (message : Control) (words : List ℕ) (at : ℕ) : Type 0 where
  pub words_are : words ≡ state_words (passed s message at)

pub hear_start : (words : List ℕ) (message : Control) → state_fits (state_in words) ≡ true → Hearing (state_in words) message words 0
unfolding heard_to with_channels
hear_start words message fits = record { words_are = sym (fit_words words fits) }

module _ (s : State) (fits : state_fits s ≡ true) (message : Control) (words : List ℕ) (at : ℕ) (h : Hearing s message words at) where
  pub hear_length : length words ≡ words_for (length s.channels)
  unfolding with_channels
  hear_length = ap length h.words_are ∙ state_length (passed s message at) ∙ ap words_for (heard_length message.sequences s.channels at)

  module _ (more : at < length s.channels) where
    abbrev part : List ℕ
    part = take ((slot_start at + SLOT) - slot_start at) (drop (slot_start at) words)

    slot_here : slot words at ≡ channel_words (channel_at s at)
    unfolding with_channels channel_at
    slot_here =
        ap (λ (w : List ℕ). slot w at) h.words_are ∙ slot_state (passed s message at) at (omega (arith, heard_length message.sequences s.channels at))
        ∙ ap channel_words (heard_next message.sequences s.channels at)

    part_is : part ≡ channel_words (channel_at s at)
    unfolding slot
    part_is =
        let size : (slot_start at + SLOT) - slot_start at ≡ SLOT = omega arith in
        rw size slot_here

    fit_here : ChannelFit (channel_at s at)
    fit_here = channel_fit (channel_at s at) ((fit_facts s fits).each at more)

    pub here_loadable : Loadable part
    here_loadable = rw part_is (channel_loadable (channel_at s at) fit_here)

    pub here_loaded : (c : Channel) → c ≡ channel_in part → c ≡ channel_at s at
    here_loaded c e = e ∙ rw part_is (channel_back (channel_at s at))

    pub here_small : (c : Channel) → c ≡ channel_in part → c.setting.id < 255
    here_small c e = rw (here_loaded c e) fit_here.unreserved

    pub here_few : at < 64
    here_few = omega (arith, (fit_facts s fits).few)

    pub here_ends : slot_start at + SLOT ≤ length words
    here_ends = omega (arith, hear_length)

    pub hear_on : (c d : Channel) → c ≡ channel_in part → d ≡ hearing_on c (get_or message.sequences c.setting.id None) → (saved : List ℕ) → saved ≡ channel_words d
        → Hearing s message (put_mid (slot_start at) ((slot_start at + SLOT) - slot_start at) words saved) (at + 1)
    unfolding with_channels with_channel channel_at
    hear_on c d e is saved w = record { words_are = next }
      where
        size : (slot_start at + SLOT) - slot_start at ≡ SLOT
        size = omega arith

        heard : d ≡ hears message.sequences (get_or s.channels at no_channel)
        heard = is ∙ ap (hears message.sequences) (here_loaded c e)

        next : put_mid (slot_start at) ((slot_start at + SLOT) - slot_start at) words saved ≡ state_words (passed s message (at + 1))
        next =
            rw (size, drop-drop, w, h.words_are, put_channel_lem (passed s message at) at d (omega (arith, heard_length message.sequences s.channels at)), heard, heard_more message.sequences s.channels at more, add-one at)

  pub hear_end : length s.channels ≤ at → words ≡ state_words (hearing_all s message)
  unfolding hearing_all sequence_in with_channels
  hear_end l = h.words_are ∙ rw (heard_end message.sequences s.channels at l)
