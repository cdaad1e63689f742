-- docs/SESSION.md: "A meaning is `control ID` or `data ID` and then what is stated, in the writer's order".
use Rattle.quantity.specs.declared.count.DatalinkId.{DatalinkId}
use Rattle.quantity.specs.declared.count.LinkInstanceId.{LinkInstanceId}
use Rattle.quantity.specs.declared.count.FlowSequence.{FlowSequence}
use Rattle.meaning.specs.declared.message.ContextBytes.{ContextBytes}
use Rattle.std.specs.Prelude.{List, [], ◌∷◌, ◌++◌, ℕ, suc, min, Option, Some, None}
use Rattle.quantity.specs.Limits.{LONGEST-NAME}
use Rattle.quantity.specs.declared.refusal.Refusal.{Refusal}
use Rattle.wire.specs.Numbers.{bytes_of}
use Rattle.meaning.specs.declared.message.Window.{Window}
use Rattle.meaning.specs.declared.message.Control.{Control}
use Rattle.meaning.specs.declared.message.Data.{Data}
use Rattle.text.specs.Laying.{decimal_text}
use Rattle.text.specs.Strings.{bytes_text}

-- the words, as bytes
-- " "
abbrev pub SPACE : List ℕ
SPACE = 32 ∷ []

-- " link "
abbrev pub LINK : List ℕ
LINK = 32 ∷ 108 ∷ 105 ∷ 110 ∷ 107 ∷ 32 ∷ []

-- " context "
abbrev pub CONTEXT : List ℕ
CONTEXT = 32 ∷ 99 ∷ 111 ∷ 110 ∷ 116 ∷ 101 ∷ 120 ∷ 116 ∷ 32 ∷ []

-- " status "
abbrev pub STATUS : List ℕ
STATUS = 32 ∷ 115 ∷ 116 ∷ 97 ∷ 116 ∷ 117 ∷ 115 ∷ 32 ∷ []

-- " sequence "
abbrev pub SEQUENCE : List ℕ
SEQUENCE = 32 ∷ 115 ∷ 101 ∷ 113 ∷ 117 ∷ 101 ∷ 110 ∷ 99 ∷ 101 ∷ 32 ∷ []

-- " window "
abbrev pub WINDOW : List ℕ
WINDOW = 32 ∷ 119 ∷ 105 ∷ 110 ∷ 100 ∷ 111 ∷ 119 ∷ 32 ∷ []

-- " none"
abbrev pub NONE : List ℕ
NONE = 32 ∷ 110 ∷ 111 ∷ 110 ∷ 101 ∷ []

-- " channel "
abbrev pub CHANNEL : List ℕ
CHANNEL = 32 ∷ 99 ∷ 104 ∷ 97 ∷ 110 ∷ 110 ∷ 101 ∷ 108 ∷ 32 ∷ []

-- " expiration "
abbrev pub EXPIRATION : List ℕ
EXPIRATION = 32 ∷ 101 ∷ 120 ∷ 112 ∷ 105 ∷ 114 ∷ 97 ∷ 116 ∷ 105 ∷ 111 ∷ 110 ∷ 32 ∷ []

-- " packet "
abbrev pub PACKET : List ℕ
PACKET = 32 ∷ 112 ∷ 97 ∷ 99 ∷ 107 ∷ 101 ∷ 116 ∷ 32 ∷ []

-- "control"
abbrev pub CONTROL : List ℕ
CONTROL = 99 ∷ 111 ∷ 110 ∷ 116 ∷ 114 ∷ 111 ∷ 108 ∷ []

-- "data"
abbrev pub DATA : List ℕ
DATA = 100 ∷ 97 ∷ 116 ∷ 97 ∷ []

-- "refused "
abbrev pub REFUSED : List ℕ
REFUSED = 114 ∷ 101 ∷ 102 ∷ 117 ∷ 115 ∷ 101 ∷ 100 ∷ 32 ∷ []

-- a label and a number; a label and two
abbrev pub one_number : List ℕ → ℕ → List (List ℕ)
one_number label n = label ∷ (decimal_text n ∷ [])

abbrev pub two_numbers : List ℕ → ℕ → ℕ → List (List ℕ)
two_numbers label n m = label ∷ (decimal_text n ∷ (SPACE ∷ (decimal_text m ∷ [])))

abbrev pub datalink_texts : Option DatalinkId → List (List ℕ)
datalink_texts None = []
datalink_texts (Some d) = one_number SPACE d.0

-- `link LEN VALUE`
abbrev pub instance_texts : Option (LinkInstanceId × ℕ) → List (List ℕ)
instance_texts None = []
instance_texts (Some (v, n)) = two_numbers LINK n v.0

-- `context HEX`; a Context has at most 8 bytes
abbrev pub context_texts : Option (ContextBytes × ℕ) → List (List ℕ)
context_texts None = []
context_texts (Some (b, n)) = CONTEXT ∷ (bytes_text (bytes_of (min n LONGEST-NAME) b.0) ∷ [])

-- `status CHANNEL VALUE`
abbrev pub status_texts : ℕ → Option ℕ → List (List ℕ)
status_texts channel None = []
status_texts channel (Some s) = two_numbers STATUS channel s

-- `sequence CHANNEL VALUE`
abbrev pub sequence_texts : ℕ → Option FlowSequence → List (List ℕ)
sequence_texts channel None = []
sequence_texts channel (Some s) = two_numbers SEQUENCE channel s.0

-- `window CHANNEL VALUE`, "`none` for VALUE where the option has no window"
abbrev pub window_texts : ℕ → Option Window → List (List ℕ)
window_texts channel None = []
window_texts channel (Some Window.Empty) = one_number WINDOW channel ++ (NONE ∷ [])
window_texts channel (Some (Window.Given w)) = two_numbers WINDOW channel w.0

abbrev pub counted_texts : Option (ℕ × FlowSequence) → List (List ℕ)
counted_texts None = []
counted_texts (Some (channel, s)) = two_numbers SEQUENCE channel s.0

-- `channel CHANNEL`
abbrev pub channel_texts : Option ℕ → List (List ℕ)
channel_texts None = []
channel_texts (Some n) = one_number CHANNEL n

-- `expiration VALUE`
abbrev pub expiration_texts : Option ℕ → List (List ℕ)
expiration_texts None = []
expiration_texts (Some t) = one_number EXPIRATION t

-- a table from a channel on, by rising Channel ID
unfoldable pub table_texts : {A : Type 0} → (ℕ → A → List (List ℕ)) → ℕ → List A → List (List ℕ)
table_texts f channel [] = []
table_texts f channel (cell ∷ cells) = f channel cell ++ table_texts f (suc channel) cells

abbrev pub tables_texts : Control → List (List ℕ)
tables_texts m =
    table_texts (λ n cell. status_texts n cell) 0 m.statuses
    ++ (table_texts (λ n cell. sequence_texts n cell) 0 m.sequences
    ++ table_texts (λ n cell. window_texts n cell) 0 m.windows)

unfoldable pub control_texts : Control → List (List ℕ)
control_texts m = CONTROL ∷ (datalink_texts m.datalink ++ (instance_texts m.instance ++ (context_texts m.context ++ tables_texts m)))

unfoldable pub data_texts : Data → List ℕ → List (List ℕ)
data_texts m packet =
    DATA
    ∷ (datalink_texts m.datalink
    ++ (counted_texts m.sequence
    ++ (channel_texts m.channel ++ (expiration_texts m.expiration ++ (PACKET ∷ (bytes_text packet ∷ []))))))

-- "A refusal is answered `refused NUMBER PLACE`."
abbrev pub refused_texts : Refusal → List (List ℕ)
refused_texts r = two_numbers REFUSED r.number r.place
