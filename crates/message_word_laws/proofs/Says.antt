-- What each word of a message is. Assumes nothing.
use Rattle.std.specs.Prelude.{Option, Some, None}
use Rattle.quantity.specs.declared.count.DatalinkId.{DatalinkId}
use Rattle.quantity.specs.declared.count.LinkInstanceId.{LinkInstanceId}
use Rattle.quantity.specs.declared.count.FlowSequence.{FlowSequence}
use Rattle.meaning.specs.declared.message.ContextBytes.{ContextBytes}
use Prim.Native.Nat.{ℕ, ◌+◌, ◌*◌, ◌<◌}
use mathlib.Core.Path.{refl}
use native.Mathlib.Omega.{arith}
use lib.ListN.{get_or}
use Rattle.meaning.specs.declared.message.Window.{Window}
use Rattle.meaning.specs.declared.message.Data.{Data}
use Rattle.meaning.specs.declared.message.Control.{Control}
use Rattle.lent_messages.specs.Stated.{datalink_stated, instance_stated, context_stated, status_stated, sequence_stated, window_stated, counted_stated, channel_stated, expiration_stated}
use Rattle.lent_messages.specs.Words.{words_at, control_words, data_words}
use Rattle.lent_messages.proofs.Back.{control_length}
use Rattle.message_word_laws.specs.Says.{DatalinkSays, InstanceSays, ContextSays, StatusSays, SequenceSays, WindowSays, SaysControl, CountedSays, ChannelSays, ExpirationSays, SaysData}
use Rattle.message_word_laws.proofs.Spelled.{word_at}

datalink_says : (stated : Option DatalinkId) → DatalinkSays stated (datalink_stated stated).tag (datalink_stated stated).first
datalink_says None = (refl, refl)
datalink_says (Some id) = (refl, refl)

instance_says : (stated : Option (LinkInstanceId × ℕ)) → InstanceSays stated (instance_stated stated).tag (instance_stated stated).first (instance_stated stated).second
instance_says None = (refl, refl, refl)
instance_says (Some (id, count)) = (refl, refl, refl)

context_says : (stated : Option (ContextBytes × ℕ)) → ContextSays stated (context_stated stated).tag (context_stated stated).first (context_stated stated).second
context_says None = (refl, refl, refl)
context_says (Some (bytes, count)) = (refl, refl, refl)

status_says : (stated : Option ℕ) → StatusSays stated (status_stated stated).tag (status_stated stated).first
status_says None = (refl, refl)
status_says (Some status) = (refl, refl)

sequence_says : (stated : Option FlowSequence) → SequenceSays stated (sequence_stated stated).tag (sequence_stated stated).first
sequence_says None = (refl, refl)
sequence_says (Some sequence) = (refl, refl)

window_says : (stated : Option Window) → WindowSays stated (window_stated stated).tag (window_stated stated).first
window_says None = (refl, refl)
window_says (Some Window.Empty) = (refl, refl)
window_says (Some (Window.Given window)) = (refl, refl)

module _ (m : Control) where
  status_words : (id : ℕ) → id < 255 → StatusSays (get_or m.statuses id None) (get_or (control_words m) (8 + 6 * id + 0) 0) (get_or (control_words m) (8 + 6 * id + 1) 0)
  unfolding words_at
  status_words id h = rw (word_at m id 0 h (omega arith), word_at m id 1 h (omega arith)) (status_says (get_or m.statuses id None))

  sequence_words : (id : ℕ) → id < 255 → SequenceSays (get_or m.sequences id None) (get_or (control_words m) (8 + 6 * id + 2) 0) (get_or (control_words m) (8 + 6 * id + 3) 0)
  unfolding words_at
  sequence_words id h = rw (word_at m id 2 h (omega arith), word_at m id 3 h (omega arith)) (sequence_says (get_or m.sequences id None))

  window_words : (id : ℕ) → id < 255 → WindowSays (get_or m.windows id None) (get_or (control_words m) (8 + 6 * id + 4) 0) (get_or (control_words m) (8 + 6 * id + 5) 0)
  unfolding words_at
  window_words id h = rw (word_at m id 4 h (omega arith), word_at m id 5 h (omega arith)) (window_says (get_or m.windows id None))

  datalink_words : DatalinkSays m.datalink (get_or (control_words m) 0 0) (get_or (control_words m) 1 0)
  unfolding control_words
  datalink_words = datalink_says m.datalink

  instance_words : InstanceSays m.instance (get_or (control_words m) 2 0) (get_or (control_words m) 3 0) (get_or (control_words m) 4 0)
  unfolding control_words
  instance_words = instance_says m.instance

  context_words : ContextSays m.context (get_or (control_words m) 5 0) (get_or (control_words m) 6 0) (get_or (control_words m) 7 0)
  unfolding control_words
  context_words = context_says m.context

  pub says_exactly : SaysControl m (control_words m)
  says_exactly = record {
    long = control_length m;
    datalink = datalink_words;
    instance = instance_words;
    context = context_words;
    statuses = status_words;
    sequences = sequence_words;
    windows = window_words;
  }

-- ---- a data message
counted_says : (stated : Option (ℕ × FlowSequence)) → CountedSays stated (counted_stated stated).tag (counted_stated stated).first (counted_stated stated).second
counted_says None = (refl, refl, refl)
counted_says (Some (id, sequence)) = (refl, refl, refl)

channel_says : (stated : Option ℕ) → ChannelSays stated (channel_stated stated).tag (channel_stated stated).first
channel_says None = (refl, refl)
channel_says (Some id) = (refl, refl)

expiration_says : (stated : Option ℕ) → ExpirationSays stated (expiration_stated stated).tag (expiration_stated stated).first
expiration_says None = (refl, refl)
expiration_says (Some time) = (refl, refl)

pub data_says_exactly : (m : Data) (start size : ℕ) → SaysData m start size (data_words m start size)
unfolding data_words
data_says_exactly m start size = record {
  long = refl;
  datalink = datalink_says m.datalink;
  sequence = counted_says m.sequence;
  channel = channel_says m.channel;
  expiration = expiration_says m.expiration;
  starts = refl;
  lasts = refl;
}
