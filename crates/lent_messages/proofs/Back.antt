-- What is put into words is read out of them again. Assumes nothing.
use Rattle.std.specs.Prelude.{Option, Some, None}
use Rattle.quantity.specs.declared.count.DatalinkId.{DatalinkId}
use Rattle.quantity.specs.declared.count.LinkInstanceId.{LinkInstanceId}
use Rattle.quantity.specs.declared.count.FlowSequence.{FlowSequence}
use Rattle.meaning.specs.declared.message.ContextBytes.{ContextBytes}
use Prim.Native.Nat.{ℕ, zero, suc, ◌+◌, ◌*◌, ◌<◌}
use mathlib.Core.Path.{◌≡◌, refl, sym, ap, ◌∙◌}
use mathlib.Core.Logic.{⊎_elim}
use mathlib.Core.List.{List}
use native.Mathlib.Nat.{eq-or-lt_of_le}
use native.Mathlib.Omega.{arith}
use lib.ListN.{length, get_or, length-append, get_or-append}
use lib.Seq.{ext_get_or, get_or-append-add}
use Rattle.facts.specs.Tables.{tabulate}
use Rattle.facts.proofs.Tables.{length_tabulate, get_d_tabulate}
use Rattle.quantity.specs.Limits.{CHANNEL-IDS}
use Rattle.meaning.specs.declared.message.Window.{Window}
use Rattle.meaning.specs.declared.message.Control.{Control}
use Rattle.meaning.specs.declared.message.Data.{Data}
use Rattle.lent_messages.specs.Layout as layout
use Rattle.lent_messages.specs.Layout.{CONTROL-HEAD, CHANNEL-WORDS, CONTROL-WORDS}
use Rattle.lent_messages.specs.Stated.{datalink_stated, instance_stated, context_stated, status_stated, sequence_stated, window_stated, counted_stated, channel_stated, expiration_stated, datalink_of, instance_of, context_of, status_of, sequence_of, window_of, counted_of, channel_of, expiration_of}
use Rattle.lent_messages.specs.Words.{word, channel_start, status_at, sequence_at, window_at, control_of, head_words, words_at, joined, control_words, data_of, data_words}

-- ---- one thing that may be stated
datalink_back : (stated : Option DatalinkId) → datalink_of (datalink_stated stated).tag (datalink_stated stated).first ≡ stated
unfolding datalink_of
datalink_back None = refl
datalink_back (Some id) = refl

instance_back : (stated : Option (LinkInstanceId × ℕ)) → instance_of (instance_stated stated).tag (instance_stated stated).first (instance_stated stated).second ≡ stated
unfolding instance_of
instance_back None = refl
instance_back (Some (id, size)) = refl

context_back : (stated : Option (ContextBytes × ℕ)) → context_of (context_stated stated).tag (context_stated stated).first (context_stated stated).second ≡ stated
unfolding context_of
context_back None = refl
context_back (Some (bytes, size)) = refl

status_back : (stated : Option ℕ) → status_of (status_stated stated).tag (status_stated stated).first ≡ stated
unfolding status_of
status_back None = refl
status_back (Some value) = refl

sequence_back : (stated : Option FlowSequence) → sequence_of (sequence_stated stated).tag (sequence_stated stated).first ≡ stated
unfolding sequence_of
sequence_back None = refl
sequence_back (Some value) = refl

window_back : (stated : Option Window) → window_of (window_stated stated).tag (window_stated stated).first ≡ stated
unfolding window_of
window_back None = refl
window_back (Some Window.Empty) = refl
window_back (Some (Window.Given value)) = refl

counted_back : (stated : Option (ℕ × FlowSequence)) → counted_of (counted_stated stated).tag (counted_stated stated).first (counted_stated stated).second ≡ stated
unfolding counted_of
counted_back None = refl
counted_back (Some (id, value)) = refl

channel_back : (stated : Option ℕ) → channel_of (channel_stated stated).tag (channel_stated stated).first ≡ stated
unfolding channel_of
channel_back None = refl
channel_back (Some id) = refl

expiration_back : (stated : Option ℕ) → expiration_of (expiration_stated stated).tag (expiration_stated stated).first ≡ stated
unfolding expiration_of
expiration_back None = refl
expiration_back (Some time) = refl

-- ---- words one behind another, as many for each
module _ (words_of : ℕ → List ℕ) (six : (id : ℕ) → length (words_of id) ≡ CHANNEL-WORDS) where
  pub joined_length : (n : ℕ) → length (joined words_of n) ≡ CHANNEL-WORDS * n
  unfolding joined
  joined_length zero = refl
  joined_length (suc n) = length-append (joined words_of n) (words_of n) ∙ rw (joined_length n, six n) (omega arith)

  pub joined_at : (n id k : ℕ) → id < n → k < CHANNEL-WORDS → get_or (joined words_of n) (CHANNEL-WORDS * id + k) 0 ≡ get_or (words_of id) k 0
  unfolding joined
  joined_at zero id k h less = absurd (omega arith)
  joined_at (suc n) id k h less =
      ⊎_elim
      (λ (last : id ≡ n). rw (last, sym (joined_length n)) (get_or-append-add (joined words_of n) (words_of n) k 0))
      (λ (lower : id < n). get_or-append (joined words_of n) (words_of n) 0 (CHANNEL-WORDS * id + k) (omega (arith, joined_length n)) ∙ joined_at n id k lower less)
      (eq-or-lt_of_le (omega arith))

-- a table by its places
table_back : {A : Type 0} (absent : A) (size : ℕ) (f : ℕ → A) (cells : List A) → length cells ≡ size → ((id : ℕ) → id < size → f id ≡ get_or cells id absent) → tabulate size f ≡ cells
table_back absent size f cells long each =
    ext_get_or absent (tabulate size f) cells (length_tabulate size f ∙ sym long)
    (λ id h. let less : id < size = omega (arith, length_tabulate size f) in get_d_tabulate size f id absent less ∙ each id less)

-- ---- a control message
module _ (m : Control) where
  abbrev stated : ℕ → List ℕ
  stated = words_at m.statuses m.sequences m.windows

  six : (id : ℕ) → length (stated id) ≡ CHANNEL-WORDS
  unfolding words_at
  six id = refl

  pub control_length : length (control_words m) ≡ CONTROL-WORDS
  unfolding control_words
  control_length =
      length-append (head_words m.datalink m.instance m.context) (joined stated CHANNEL-IDS) ∙ ap (λ (n : ℕ). CONTROL-HEAD + n) (joined_length stated six CHANNEL-IDS)

  at_channel_lem : (id k : ℕ) → id < CHANNEL-IDS → k < CHANNEL-WORDS → word (control_words m) (channel_start id + k) ≡ word (stated id) k
  unfolding control_words
  at_channel_lem id k h less =
      let place : channel_start id + k ≡ CONTROL-HEAD + (CHANNEL-WORDS * id + k) = omega arith in
      rw place (get_or-append-add (head_words m.datalink m.instance m.context) (joined stated CHANNEL-IDS) (CHANNEL-WORDS * id + k) 0 ∙ joined_at stated six CHANNEL-IDS id k h less)

  status_cell : (id : ℕ) → id < CHANNEL-IDS → status_at (control_words m) (channel_start id) ≡ get_or m.statuses id None
  unfolding status_at words_at
  status_cell id h =
      rw (at_channel_lem id layout.STATUS-TAG h (omega arith), at_channel_lem id layout.STATUS-VALUE h (omega arith))
      (ap (λ (stated : Option ℕ). stated) (status_back (get_or m.statuses id None)))

  sequence_cell : (id : ℕ) → id < CHANNEL-IDS → sequence_at (control_words m) (channel_start id) ≡ get_or m.sequences id None
  unfolding sequence_at words_at
  sequence_cell id h =
      rw (at_channel_lem id layout.SEQUENCE-TAG h (omega arith), at_channel_lem id layout.SEQUENCE-VALUE h (omega arith))
      (ap (λ (stated : Option FlowSequence). stated) (sequence_back (get_or m.sequences id None)))

  window_cell : (id : ℕ) → id < CHANNEL-IDS → window_at (control_words m) (channel_start id) ≡ get_or m.windows id None
  unfolding window_at words_at
  window_cell id h =
      rw (at_channel_lem id layout.WINDOW-TAG h (omega arith), at_channel_lem id layout.WINDOW-VALUE h (omega arith))
      (ap (λ (stated : Option Window). stated) (window_back (get_or m.windows id None)))

  head_datalink : datalink_of (word (control_words m) layout.DATALINK-TAG) (word (control_words m) layout.DATALINK-VALUE) ≡ m.datalink
  unfolding control_words
  head_datalink = datalink_back m.datalink

  head_instance : instance_of (word (control_words m) layout.INSTANCE-TAG) (word (control_words m) layout.INSTANCE-VALUE) (word (control_words m) layout.INSTANCE-LENGTH) ≡ m.instance
  unfolding control_words
  head_instance = instance_back m.instance

  head_context : context_of (word (control_words m) layout.CONTEXT-TAG) (word (control_words m) layout.CONTEXT-VALUE) (word (control_words m) layout.CONTEXT-LENGTH) ≡ m.context
  unfolding control_words
  head_context = context_back m.context

  -- a message with a place for each Channel ID comes back
  pub control_back : length m.statuses ≡ CHANNEL-IDS → length m.sequences ≡ CHANNEL-IDS → length m.windows ≡ CHANNEL-IDS → control_of (control_words m) ≡ m
  unfolding control_of
  control_back a b c =
      let statuses = table_back None CHANNEL-IDS (λ id. status_at (control_words m) (channel_start id)) m.statuses a status_cell in
      let sequences = table_back None CHANNEL-IDS (λ id. sequence_at (control_words m) (channel_start id)) m.sequences b sequence_cell in
      let windows = table_back None CHANNEL-IDS (λ id. window_at (control_words m) (channel_start id)) m.windows c window_cell in
      rw (statuses, sequences, windows, head_datalink, head_instance, head_context)

-- ---- a data message
pub data_back : (m : Data) (start size : ℕ) → data_of (data_words m start size) ≡ m
unfolding data_of data_words
data_back m start size = rw (datalink_back m.datalink, counted_back m.sequence, channel_back m.channel, expiration_back m.expiration)
