-- The length of each part of a message as it is written: nothing, or 3 bytes of Type and Length and the content of sections 3.3.1 to 3.3.9.
use Rattle.quantity.specs.declared.count.DatalinkId.{DatalinkId}
use Rattle.quantity.specs.declared.count.LinkInstanceId.{LinkInstanceId}
use Rattle.quantity.specs.declared.count.FlowSequence.{FlowSequence}
use Rattle.meaning.specs.declared.message.ContextBytes.{ContextBytes}
use Rattle.std.specs.Prelude.{ℕ, ◌+◌, List, [], ◌∷◌, Option, Some, None}
use Rattle.quantity.specs.Limits.{LONGEST-NAME}
use Rattle.meaning.specs.declared.message.Window.{Window}

-- the longest content but a packet's is a Link Instance's or a Context's
abbrev pub LONGEST-OPTION : ℕ
LONGEST-OPTION = 3 + LONGEST-NAME

abbrev pub datalink_size : Option DatalinkId → ℕ
datalink_size None = 0
datalink_size (Some d) = 3 + 1

abbrev pub instance_size : Option (LinkInstanceId × ℕ) → ℕ
instance_size None = 0
instance_size (Some (v, n)) = 3 + n

abbrev pub context_size : Option (ContextBytes × ℕ) → ℕ
context_size None = 0
context_size (Some (b, n)) = 3 + n

abbrev pub status_size : Option ℕ → ℕ
status_size None = 0
status_size (Some s) = 3 + 2

abbrev pub sequence_size : Option FlowSequence → ℕ
sequence_size None = 0
sequence_size (Some s) = 3 + 5

abbrev pub window_size : Option Window → ℕ
window_size None = 0
window_size (Some Window.Empty) = 3 + 1
window_size (Some (Window.Given w)) = 3 + 5

abbrev pub counted_size : Option (ℕ × FlowSequence) → ℕ
counted_size None = 0
counted_size (Some (n, s)) = 3 + 5

abbrev pub channel_size : Option ℕ → ℕ
channel_size None = 0
channel_size (Some k) = 3 + 1

abbrev pub expiration_size : Option ℕ → ℕ
expiration_size None = 0
expiration_size (Some t) = 3 + 4

-- a table, `size` being that of a place
unfoldable pub table_size : {A : Type 0} → (A → ℕ) → List A → ℕ
table_size size [] = 0
table_size size (cell ∷ cells) = size cell + table_size size cells

abbrev pub statuses_size : List (Option ℕ) → ℕ
statuses_size cells = table_size (λ cell. status_size cell) cells

abbrev pub sequences_size : List (Option FlowSequence) → ℕ
sequences_size cells = table_size (λ cell. sequence_size cell) cells

abbrev pub windows_size : List (Option Window) → ℕ
windows_size cells = table_size (λ cell. window_size cell) cells
