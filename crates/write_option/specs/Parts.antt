-- The parts of a meaning as options, each with its one content: sections 3.3.1 to 3.3.9.
use Rattle.quantity.specs.declared.count.DatalinkId.{DatalinkId}
use Rattle.quantity.specs.declared.count.LinkInstanceId.{LinkInstanceId}
use Rattle.quantity.specs.declared.count.FlowSequence.{FlowSequence}
use Rattle.meaning.specs.declared.message.ContextBytes.{ContextBytes}
use Rattle.std.specs.Prelude.{ℕ, suc, List, [], ◌∷◌, Option, Some, None}
use Rattle.wire.specs.Numbers.{bytes_of}
use Rattle.wire.specs.Options.{Options, option}
use Rattle.meaning.specs.declared.message.Window.{Window}
use Rattle.meaning.specs.Kinds.{DATALINK-IDENTIFIER, LINK-INSTANCE, DATALINK-CONTEXT, CHANNEL-STATUS, FLOW-WINDOW, CHANNEL-IDENTIFIER, EXPIRATION-TIME, FLOW-SEQUENCE}

-- each puts its option, if it is stated, before the options that follow
abbrev pub datalink_then : Option DatalinkId → Options → Options
datalink_then None more = more
datalink_then (Some d) more = option DATALINK-IDENTIFIER (d.0 ∷ []) more

abbrev pub instance_then : Option (LinkInstanceId × ℕ) → Options → Options
instance_then None more = more
instance_then (Some (v, n)) more = option LINK-INSTANCE (bytes_of n v.0) more

abbrev pub context_then : Option (ContextBytes × ℕ) → Options → Options
context_then None more = more
context_then (Some (b, n)) more = option DATALINK-CONTEXT (bytes_of n b.0) more

-- "Unused bits are written as 0"
abbrev pub status_then : ℕ → Option ℕ → Options → Options
status_then channel None more = more
status_then channel (Some s) more = option CHANNEL-STATUS (channel ∷ (s ∷ [])) more

abbrev pub sequence_then : ℕ → Option FlowSequence → Options → Options
sequence_then channel None more = more
sequence_then channel (Some s) more = option FLOW-SEQUENCE (channel ∷ bytes_of 4 s.0) more

abbrev pub window_then : ℕ → Option Window → Options → Options
window_then channel None more = more
window_then channel (Some Window.Empty) more = option FLOW-WINDOW (channel ∷ []) more
window_then channel (Some (Window.Given w)) more = option FLOW-WINDOW (channel ∷ bytes_of 4 w.0) more

-- a table from a channel on, by rising Channel ID: `put` is one of the three above, over a place of the table
unfoldable pub table_then : {A : Type 0} → (ℕ → A → Options → Options) → ℕ → List A → Options → Options
table_then put channel [] more = more
table_then put channel (cell ∷ cells) more = put channel cell (table_then put (suc channel) cells more)

abbrev pub statuses_then : List (Option ℕ) → Options → Options
statuses_then cells more = table_then (λ n cell. status_then n cell) 0 cells more

abbrev pub sequences_then : List (Option FlowSequence) → Options → Options
sequences_then cells more = table_then (λ n cell. sequence_then n cell) 0 cells more

abbrev pub windows_then : List (Option Window) → Options → Options
windows_then cells more = table_then (λ n cell. window_then n cell) 0 cells more

abbrev pub counted_then : Option (ℕ × FlowSequence) → Options → Options
counted_then None more = more
counted_then (Some (n, s)) more = option FLOW-SEQUENCE (n ∷ bytes_of 4 s.0) more

abbrev pub channel_then : Option ℕ → Options → Options
channel_then None more = more
channel_then (Some k) more = option CHANNEL-IDENTIFIER (k ∷ []) more

abbrev pub expiration_then : Option ℕ → Options → Options
expiration_then None more = more
expiration_then (Some t) more = option EXPIRATION-TIME (bytes_of 4 t) more
