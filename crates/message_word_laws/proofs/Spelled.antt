-- The words of any meaning whose numbers are in range say something. Assumes nothing.
use Rattle.std.specs.Prelude.{Option, Some, None}
use Rattle.quantity.specs.declared.count.DatalinkId.{DatalinkId}
use Rattle.quantity.specs.declared.count.LinkInstanceId.{LinkInstanceId}
use Rattle.quantity.specs.declared.count.FlowSequence.{FlowSequence}
use Rattle.meaning.specs.declared.message.ContextBytes.{ContextBytes}
use Prim.Native.Nat.{ℕ, ◌+◌, ◌*◌, ◌≤◌, ◌<◌}
use mathlib.Core.Path.{◌≡◌, refl, ◌∙◌}
use mathlib.Core.Bool.{true}
use mathlib.Core.List.{List}
use native.Mathlib.Omega.{arith}
use lib.ListN.{length, get_or}
use lib.Seq.{get_or-append-add}
use Rattle.quantity.specs.Limits.{CHANNEL-IDS}
use Rattle.meaning.specs.declared.message.Window.{Window}
use Rattle.meaning.specs.declared.message.Control.{Control}
use Rattle.meaning.specs.declared.message.Data.{Data}
use Rattle.lent_messages.specs.Layout.{CHANNEL-WORDS}
use Rattle.lent_messages.specs.Stated.{datalink_stated, instance_stated, context_stated, status_stated, sequence_stated, window_stated, counted_stated, channel_stated, expiration_stated}
use Rattle.lent_messages.specs.Words.{head_words, words_at, joined, control_words, control_spelled, data_words, data_spelled}
use Rattle.lent_messages.proofs.Back.{joined_at, control_length}
use Rattle.message_word_laws.specs.Plain.{Fits, PlainChannel, DatalinkRange, StatusRange, SequenceRange, WindowRange, CountedRange, ChannelRange, ExpirationRange, ControlRange, DataRange}
use Rattle.message_word_laws.proofs.Plain.{spelled_exactly, data_exactly}

-- ---- one thing that may be stated
absent : (given value limit : ℕ) → 0 < given → Fits 0 given value limit
absent given value limit h = record { tag_is = omega arith; value_is = λ same. absurd (omega (arith, same)) }

stated : (given value limit : ℕ) → value < limit → Fits given given value limit
stated given value limit h = record { tag_is = omega arith; value_is = λ same. h }

datalink_fits_lem : (d : Option DatalinkId) → DatalinkRange d → Fits (datalink_stated d).tag 1 (datalink_stated d).first 256
datalink_fits_lem None h = absent 1 0 256 (omega arith)
datalink_fits_lem (Some id) h = stated 1 id.0 256 h

status_fits : (s : Option ℕ) → StatusRange s → Fits (status_stated s).tag 1 (status_stated s).first 256
status_fits None h = absent 1 0 256 (omega arith)
status_fits (Some value) h = stated 1 value 256 h

sequence_fits : (s : Option FlowSequence) → SequenceRange s → Fits (sequence_stated s).tag 1 (sequence_stated s).first 4294967296
sequence_fits None h = absent 1 0 4294967296 (omega arith)
sequence_fits (Some value) h = stated 1 value.0 4294967296 h

window_fits : (w : Option Window) → WindowRange w → Fits (window_stated w).tag 2 (window_stated w).first 4294967296
window_fits None h = absent 2 0 4294967296 (omega arith)
window_fits (Some Window.Empty) h = record { tag_is = omega arith; value_is = λ same. absurd (omega (arith, same)) }
window_fits (Some (Window.Given value)) h = stated 2 value.0 4294967296 h

counted_fits : (c : Option (ℕ × FlowSequence)) → CountedRange c → Fits (counted_stated c).tag 1 (counted_stated c).first 256 × Fits (counted_stated c).tag 1 (counted_stated c).second 4294967296
counted_fits None h = (absent 1 0 256 (omega arith), absent 1 0 4294967296 (omega arith))
counted_fits (Some (id, value)) h = (stated 1 id 256 h.0, stated 1 value.0 4294967296 h.1)

channel_fits_lem : (c : Option ℕ) → ChannelRange c → Fits (channel_stated c).tag 1 (channel_stated c).first 256
channel_fits_lem None h = absent 1 0 256 (omega arith)
channel_fits_lem (Some id) h = stated 1 id 256 h

expiration_fits : (e : Option ℕ) → ExpirationRange e → Fits (expiration_stated e).tag 1 (expiration_stated e).first 4294967296
expiration_fits None h = absent 1 0 4294967296 (omega arith)
expiration_fits (Some time) h = stated 1 time 4294967296 h

instance_tag : (i : Option (LinkInstanceId × ℕ)) → (instance_stated i).tag ≤ 1
instance_tag None = omega arith
instance_tag (Some (id, size)) = omega arith

context_tag_lem : (c : Option (ContextBytes × ℕ)) → (context_stated c).tag ≤ 1
context_tag_lem None = omega arith
context_tag_lem (Some (bytes, size)) = omega arith

-- ---- a control message
module _ (m : Control) where
  abbrev words_of : ℕ → List ℕ
  words_of = words_at m.statuses m.sequences m.windows

  six : (id : ℕ) → length (words_of id) ≡ CHANNEL-WORDS
  unfolding words_at
  six id = refl

  -- word by word, behind the first eight
  pub word_at : (id k : ℕ) → id < 255 → k < 6 → get_or (control_words m) (8 + 6 * id + k) 0 ≡ get_or (words_of id) k 0
  unfolding control_words
  word_at id k h less =
      let place : 8 + 6 * id + k ≡ 8 + (6 * id + k) = omega arith in
      rw place (get_or-append-add (head_words m.datalink m.instance m.context) (joined words_of CHANNEL-IDS) (6 * id + k) 0 ∙ joined_at words_of six CHANNEL-IDS id k h less)

  channel_range : ControlRange m → (id : ℕ) → id < 255 → PlainChannel (control_words m) (8 + 6 * id)
  unfolding words_at
  channel_range r id h = record {
    status = rw (word_at id 0 h (omega arith), word_at id 1 h (omega arith)) (status_fits (get_or m.statuses id None) (r.statuses id h));
    sequence = rw (word_at id 2 h (omega arith), word_at id 3 h (omega arith)) (sequence_fits (get_or m.sequences id None) (r.sequences id h));
    window = rw (word_at id 4 h (omega arith), word_at id 5 h (omega arith)) (window_fits (get_or m.windows id None) (r.windows id h));
  }

  head_range : ControlRange m → Fits (get_or (control_words m) 0 0) 1 (get_or (control_words m) 1 0) 256 × ((get_or (control_words m) 2 0 ≤ 1) × (get_or (control_words m) 5 0 ≤ 1))
  unfolding control_words
  head_range r = (datalink_fits_lem m.datalink r.datalink, (instance_tag m.instance, context_tag_lem m.context))

  pub control_spelled_lem : ControlRange m → control_spelled (control_words m) ≡ true
  control_spelled_lem r =
      let head = head_range r in
      (spelled_exactly (control_words m)).1 (record { long = control_length m; datalink = head.0; instance = head.1.0; context = head.1.1; channels = channel_range r })

-- ---- a data message
pub data_spelled_lem : (m : Data) (start size : ℕ) → DataRange m → data_spelled (data_words m start size) ≡ true
unfolding data_words
data_spelled_lem m start size r =
    let counted = counted_fits m.sequence r.sequence in
    (data_exactly (data_words m start size)).1 (record {
      long = refl;
      datalink = datalink_fits_lem m.datalink r.datalink;
      counted_channel_lem = counted.0;
      counted_sequence_lem = counted.1;
      channel = channel_fits_lem m.channel r.channel;
      expiration = expiration_fits m.expiration r.expiration;
    })
