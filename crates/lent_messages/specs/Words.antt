-- The meaning of a message in words: what is stated, as the words say it, and the words that say it.
use Rattle.quantity.specs.declared.count.DatalinkId.{DatalinkId}
use Rattle.quantity.specs.declared.count.LinkInstanceId.{LinkInstanceId}
use Rattle.quantity.specs.declared.count.FlowSequence.{FlowSequence}
use Rattle.meaning.specs.declared.message.ContextBytes.{ContextBytes}
use Rattle.std.specs.Prelude.{ℕ, zero, suc, ◌+◌, ◌*◌, ◌≤◌, ◌<◌, ◌≡◌, Bool, true, ◌&&◌, List, [], ◌∷◌, ◌++◌, length, get_or, eqb, leb, Option, None}
use Rattle.facts.specs.Tables.{tabulate}
use Rattle.quantity.specs.Limits.{CHANNEL-IDS}
use Rattle.meaning.specs.declared.message.Window.{Window}
use Rattle.meaning.specs.declared.message.Control.{Control}
use Rattle.meaning.specs.declared.message.Data.{Data}
use Rattle.lent_messages.specs.Layout as layout
use Rattle.lent_messages.specs.Layout.{GIVEN, FIELD-GIVEN, CONTROL-HEAD, CHANNEL-WORDS, CONTROL-WORDS, DATA-WORDS, BYTE, HALF}
use Rattle.lent_messages.specs.Stated.{fits, datalink_stated, instance_stated, context_stated, status_stated, sequence_stated, window_stated, counted_stated, channel_stated, expiration_stated, datalink_of, instance_of, context_of, status_of, sequence_of, window_of, counted_of, channel_of, expiration_of}

abbrev pub word : List ℕ → ℕ → ℕ
word words k = get_or words k 0

-- where the words of a Channel ID start
abbrev pub channel_start : ℕ → ℕ
channel_start id = CONTROL-HEAD + CHANNEL-WORDS * id

-- ---- a control message from its words
unfoldable pub status_at : List ℕ → ℕ → Option ℕ
status_at words from = status_of (word words (from + layout.STATUS-TAG)) (word words (from + layout.STATUS-VALUE))

unfoldable pub sequence_at : List ℕ → ℕ → Option FlowSequence
sequence_at words from = sequence_of (word words (from + layout.SEQUENCE-TAG)) (word words (from + layout.SEQUENCE-VALUE))

unfoldable pub window_at : List ℕ → ℕ → Option Window
window_at words from = window_of (word words (from + layout.WINDOW-TAG)) (word words (from + layout.WINDOW-VALUE))

unfoldable pub control_of : List ℕ → Control
control_of words = record {
  datalink = datalink_of (word words layout.DATALINK-TAG) (word words layout.DATALINK-VALUE);
  instance = instance_of (word words layout.INSTANCE-TAG) (word words layout.INSTANCE-VALUE) (word words layout.INSTANCE-LENGTH);
  context = context_of (word words layout.CONTEXT-TAG) (word words layout.CONTEXT-VALUE) (word words layout.CONTEXT-LENGTH);
  statuses = tabulate CHANNEL-IDS (λ id. status_at words (channel_start id));
  sequences = tabulate CHANNEL-IDS (λ id. sequence_at words (channel_start id));
  windows = tabulate CHANNEL-IDS (λ id. window_at words (channel_start id));
}

-- ---- the words of a control message
abbrev pub head_words : Option DatalinkId → Option (LinkInstanceId × ℕ) → Option (ContextBytes × ℕ) → List ℕ
head_words datalink instance context =
    (datalink_stated datalink).tag ∷ (datalink_stated datalink).first ∷ (instance_stated instance).tag ∷ (instance_stated instance).first ∷ (instance_stated instance).second
    ∷ (context_stated context).tag ∷ (context_stated context).first ∷ (context_stated context).second ∷ []

abbrev pub channel_words : Option ℕ → Option FlowSequence → Option Window → List ℕ
channel_words status sequence window =
    (status_stated status).tag ∷ (status_stated status).first ∷ (sequence_stated sequence).tag ∷ (sequence_stated sequence).first ∷ (window_stated window).tag ∷ (window_stated window).first ∷ []

-- what three tables state of a Channel ID
unfoldable pub words_at : List (Option ℕ) → List (Option FlowSequence) → List (Option Window) → ℕ → List ℕ
words_at statuses sequences windows id =
    channel_words (get_or statuses id None) (get_or sequences id None) (get_or windows id None)

-- the words of the first Channel IDs, so many, one behind another
unfoldable pub joined : (ℕ → List ℕ) → ℕ → List ℕ
joined words_of zero = []
joined words_of (suc n) = joined words_of n ++ words_of n

unfoldable pub control_words : Control → List ℕ
control_words m = head_words m.datalink m.instance m.context ++ joined (words_at m.statuses m.sequences m.windows) CHANNEL-IDS

-- ---- words that say something: tags that there are, and behind those that give a value one no wider than what it is the value of
unfoldable pub head_spelled : List ℕ → Bool
head_spelled words =
    fits (word words layout.DATALINK-TAG) GIVEN (word words layout.DATALINK-VALUE) BYTE && (leb (word words layout.INSTANCE-TAG) GIVEN && leb (word words layout.CONTEXT-TAG) GIVEN)

unfoldable pub channel_spelled : List ℕ → ℕ → Bool
channel_spelled words from =
    fits (word words (from + layout.STATUS-TAG)) GIVEN (word words (from + layout.STATUS-VALUE)) BYTE
    && (fits (word words (from + layout.SEQUENCE-TAG)) GIVEN (word words (from + layout.SEQUENCE-VALUE)) HALF
    && fits (word words (from + layout.WINDOW-TAG)) FIELD-GIVEN (word words (from + layout.WINDOW-VALUE)) HALF)

-- those of the first Channel IDs, so many
unfoldable pub channels_spelled : List ℕ → ℕ → Bool
channels_spelled words zero = true
channels_spelled words (suc n) = channels_spelled words n && channel_spelled words (channel_start n)

unfoldable pub control_spelled : List ℕ → Bool
control_spelled words = eqb (length words) CONTROL-WORDS && (head_spelled words && channels_spelled words CHANNEL-IDS)

-- what the code asks before it reads a Channel ID's words
pub record ChannelSays (words : List ℕ) (from : ℕ) : Type 0 where
  pub inside : from + CHANNEL-WORDS ≤ length words
  pub status : fits (word words (from + layout.STATUS-TAG)) GIVEN (word words (from + layout.STATUS-VALUE)) BYTE ≡ true
  pub sequence : fits (word words (from + layout.SEQUENCE-TAG)) GIVEN (word words (from + layout.SEQUENCE-VALUE)) HALF ≡ true
  pub window : fits (word words (from + layout.WINDOW-TAG)) FIELD-GIVEN (word words (from + layout.WINDOW-VALUE)) HALF ≡ true

-- and before it reads a control message
pub record ControlSays (words : List ℕ) : Type 0 where
  pub long : length words ≡ CONTROL-WORDS
  pub datalink : fits (word words layout.DATALINK-TAG) GIVEN (word words layout.DATALINK-VALUE) BYTE ≡ true
  pub channels : (id : ℕ) → id < CHANNEL-IDS → ChannelSays words (channel_start id)

-- ---- a data message; its packet stands in the datagram, from a place and so long
unfoldable pub data_of : List ℕ → Data
data_of words = record {
  datalink = datalink_of (word words layout.DATALINK-TAG) (word words layout.DATALINK-VALUE);
  sequence = counted_of (word words layout.COUNTED-TAG) (word words layout.COUNTED-CHANNEL) (word words layout.COUNTED-SEQUENCE);
  channel = channel_of (word words layout.CHANNEL-TAG) (word words layout.CHANNEL-VALUE);
  expiration = expiration_of (word words layout.EXPIRATION-TAG) (word words layout.EXPIRATION-VALUE);
}

unfoldable pub data_words : Data → (start size : ℕ) → List ℕ
data_words m start size =
    (datalink_stated m.datalink).tag ∷ (datalink_stated m.datalink).first
    ∷ (counted_stated m.sequence).tag ∷ (counted_stated m.sequence).first ∷ (counted_stated m.sequence).second
    ∷ (channel_stated m.channel).tag ∷ (channel_stated m.channel).first
    ∷ (expiration_stated m.expiration).tag ∷ (expiration_stated m.expiration).first
    ∷ start ∷ size ∷ []

unfoldable pub parts_spelled : List ℕ → Bool
parts_spelled words =
    fits (word words layout.DATALINK-TAG) GIVEN (word words layout.DATALINK-VALUE) BYTE
    && (fits (word words layout.COUNTED-TAG) GIVEN (word words layout.COUNTED-CHANNEL) BYTE
    && (fits (word words layout.COUNTED-TAG) GIVEN (word words layout.COUNTED-SEQUENCE) HALF
    && (fits (word words layout.CHANNEL-TAG) GIVEN (word words layout.CHANNEL-VALUE) BYTE
    && fits (word words layout.EXPIRATION-TAG) GIVEN (word words layout.EXPIRATION-VALUE) HALF)))

unfoldable pub data_spelled : List ℕ → Bool
data_spelled words = eqb (length words) DATA-WORDS && parts_spelled words

-- what the code asks before it reads the words
pub record DataSays (words : List ℕ) : Type 0 where
  pub long : length words ≡ DATA-WORDS
  pub datalink : fits (word words layout.DATALINK-TAG) GIVEN (word words layout.DATALINK-VALUE) BYTE ≡ true
  pub counted : fits (word words layout.COUNTED-TAG) GIVEN (word words layout.COUNTED-CHANNEL) BYTE ≡ true
  pub sequence : fits (word words layout.COUNTED-TAG) GIVEN (word words layout.COUNTED-SEQUENCE) HALF ≡ true
  pub channel : fits (word words layout.CHANNEL-TAG) GIVEN (word words layout.CHANNEL-VALUE) BYTE ≡ true
  pub expiration : fits (word words layout.EXPIRATION-TAG) GIVEN (word words layout.EXPIRATION-VALUE) HALF ≡ true
