-- The state after a change that the message is built from is the state that the call comes to. Assumes nothing.
use Rattle.std.specs.Prelude.{Option, Some, None}
use Rattle.quantity.specs.declared.count.FlowSequence.{FlowSequence}
use Rattle.meaning.specs.declared.message.ContextBytes.{ContextBytes}
use Prim.Native.Nat.{ℕ, zero, suc, ◌<◌}
use mathlib.Core.Bool.{Bool, true, false, not, ◌||◌}
use mathlib.Core.List.{List, [], ◌∷◌, map}
use mathlib.Core.Path.{◌≡◌, refl, ap, ap₂}
use native.Mathlib.Omega.{arith}
use borrow.Author.Tests.{eq-eqb}
use lib.ListN.{length, get_or, set, replicate}
use Rattle.meaning.specs.declared.message.Control.{Control}
use Rattle.radio_flow.specs.Granting.{hearing}
use Rattle.radio_flow.proofs.Windows.{window_same}
use Rattle.radio_end_state.specs.declared.channel.Channel.{Channel}
use Rattle.radio_end_state.specs.Channel.{window_now, hearing_on, channel_differs}
use Rattle.radio_end_state.specs.State.{State, no_channel, channel_at, with_channels, with_channel, with_context}
use Rattle.radio_end_state.specs.Message.{same_context, channels_differ, differs}
use Rattle.radio_end_state.specs.Calls.{sequence_in, hearing_all}
use Rattle.radio_end_message.specs.Changed.{hears, changed_channels, changed}

-- ---- nothing stated, nothing heard
hearing_none : (b : Bool) (h : Option FlowSequence) → hearing b h None ≡ h
unfolding hearing
hearing_none true h = refl
hearing_none false h = refl

heard_none : (c : Channel) → hearing_on c None ≡ c
unfolding hearing_on
heard_none c = rw (hearing_none c.setting.controlled c.highest)

none_at : (n i : ℕ) → get_or {A = Option FlowSequence} (replicate n None) i None ≡ None
none_at zero i = refl
none_at (suc n) zero = refl
none_at (suc n) (suc i) = none_at n i

hears_none : (n : ℕ) (c : Channel) → hears (replicate n None) c ≡ c
hears_none n c = rw (none_at n c.setting.id) (heard_none c)

all_none : (n : ℕ) (cs : List Channel) → map (hears (replicate n None)) cs ≡ cs
all_none n [] = refl
all_none n (c ∷ cs) = ap₂ (λ (d : Channel) (ds : List Channel). d ∷ ds) (hears_none n c) (all_none n cs)

set_past : (cs : List Channel) (c : Channel) → set cs (length cs) c ≡ cs
set_past [] c = refl
set_past (d ∷ cs) c = ap (λ (ds : List Channel). d ∷ ds) (set_past cs c)

module _ (n : ℕ) (s : State) where
  pub changed_channel : (index : ℕ) (c : Channel) → changed s s.context index c (replicate n None) ≡ with_channel s index c
  unfolding changed changed_channels with_channel with_channels
  changed_channel index c = rw (all_none n (set s.channels index c))

  pub changed_context : (k : Option (ContextBytes × ℕ)) → changed s k (length s.channels) no_channel (replicate n None) ≡ with_context s k
  unfolding changed changed_channels with_context
  changed_context k = rw (set_past s.channels no_channel, all_none n s.channels)

  pub changed_nothing : changed s s.context (length s.channels) no_channel (replicate n None) ≡ s
  unfolding changed changed_channels
  changed_nothing = rw (set_past s.channels no_channel, all_none n s.channels)

pub changed_heard : (s : State) (message : Control) → changed s s.context (length s.channels) no_channel message.sequences ≡ hearing_all s message
unfolding changed changed_channels hearing_all with_channels sequence_in
changed_heard s message = rw (set_past s.channels no_channel)

-- ---- what differs from before
channel_same : (c : Channel) → channel_differs c c ≡ false
unfolding channel_differs
channel_same c = rw (eq-eqb c.status c.status refl, window_same (window_now c))

channels_same : (cs : List Channel) → channels_differ cs cs ≡ false
unfolding channels_differ
channels_same [] = refl
channels_same (c ∷ cs) = rw (channel_same c) (channels_same cs)

context_same : (k : Option (ContextBytes × ℕ)) → same_context k k ≡ true
context_same None = refl
context_same (Some (bytes, size)) = rw (eq-eqb bytes.0 bytes.0 refl) (eq-eqb size size refl)

or-false : (b : Bool) → (b || false) ≡ b
or-false true = refl
or-false false = refl

one_differs : (cs : List Channel) (index : ℕ) (c : Channel) → index < length cs → channels_differ cs (set cs index c) ≡ channel_differs (get_or cs index no_channel) c
unfolding channels_differ
one_differs [] index c h = absurd (omega arith)
one_differs (d ∷ cs) zero c h = rw (channels_same cs) (or-false (channel_differs d c))
one_differs (d ∷ cs) (suc index) c h = rw (channel_same d) (one_differs cs index c (omega arith))

pub differs_channel : (s : State) (index : ℕ) (c : Channel) → index < length s.channels → differs s (with_channel s index c) ≡ channel_differs (channel_at s index) c
unfolding differs with_channel with_channels channel_at
differs_channel s index c h = rw (context_same s.context) (one_differs s.channels index c h)

pub differs_context : (s : State) (k : Option (ContextBytes × ℕ)) → differs s (with_context s k) ≡ not (same_context s.context k)
unfolding differs with_context
differs_context s k = rw (channels_same s.channels) (or-false (not (same_context s.context k)))
