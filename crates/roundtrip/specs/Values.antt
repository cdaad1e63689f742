-- What a meaning has as a value of its struct: tables over the Channel IDs, and numbers of 32 bits.
use Rattle.quantity.specs.declared.count.FlowSequence.{FlowSequence}
use Rattle.std.specs.Prelude.{ℕ, ◌<◌, ◌^◌, ◌≡◌, length, get_or, Option, Some, None}
use Rattle.quantity.specs.Limits.{CHANNEL-IDS}
use Rattle.meaning.specs.declared.message.Window.{Window}
use Rattle.meaning.specs.declared.message.Control.{Control}
use Rattle.meaning.specs.declared.message.Data.{Data}

-- a number of 32 bits
abbrev pub Word : ℕ → Type 0
Word n = n < 2 ^ 32

abbrev pub SequenceWord : Option FlowSequence → Type 0
SequenceWord None = Unit {0}
SequenceWord (Some s) = Word s.0

abbrev pub WindowWord : Option Window → Type 0
WindowWord None = Unit {0}
WindowWord (Some Window.Empty) = Unit {0}
WindowWord (Some (Window.Given w)) = Word w.0

abbrev pub CountedWord : Option (ℕ × FlowSequence) → Type 0
CountedWord None = Unit {0}
CountedWord (Some (n, s)) = Word s.0

abbrev pub ExpirationWord : Option ℕ → Type 0
ExpirationWord None = Unit {0}
ExpirationWord (Some t) = Word t

pub record ControlValue (m : Control) : Type 0 where
  pub statuses_long : length m.statuses ≡ CHANNEL-IDS
  pub sequences_long : length m.sequences ≡ CHANNEL-IDS
  pub windows_long : length m.windows ≡ CHANNEL-IDS
  pub sequence_words : (channel : ℕ) → SequenceWord (get_or m.sequences channel None)
  pub window_words : (channel : ℕ) → WindowWord (get_or m.windows channel None)

pub record DataValue (m : Data) : Type 0 where
  pub sequence_word : CountedWord m.sequence
  pub expiration_word : ExpirationWord m.expiration
