-- docs/SESSION.md: "`show CHANNEL`: `channel CHANNEL STATUS FLOW SEQUENCE LATEST WAITING` and then `LEN EXPIRY` for each waiting packet. `STATUS` is `-` while not
-- reported; `FLOW` is `free`, `none` or the window's number." "`store CHANNEL`: `store HEX`, every byte of that channel's store".
-- "`kept`: `kept`, and `link LEN VALUE` and `context HEX`, each where there is one". "`pacer`: `pacer CLOCK DUE HEARD`".
use Rattle.quantity.specs.declared.count.LinkInstanceId.{LinkInstanceId}
use Rattle.meaning.specs.declared.message.ContextBytes.{ContextBytes}
use Rattle.std.specs.Prelude.{ℕ, List, [], ◌∷◌, ◌++◌, Option, Some, None}
use Rattle.text.specs.Strings.{bytes_text}
use Rattle.store.specs.declared.queue.Entry.{Entry}
use Rattle.store.specs.declared.queue.Queue.{Queue}
use Rattle.store.specs.Waiting.{waiting}
use Rattle.flow.specs.declared.Flow.{Flow}
use Rattle.ips_channel.specs.declared.state.Channel.{Channel}
use Rattle.pacer.specs.declared.Pacer.{Pacer}
use Rattle.message_words.specs.Phrases.{SPACE, one_number, two_numbers, instance_texts, context_texts}

-- ` -`
abbrev pub NOT-REPORTED : List ℕ
NOT-REPORTED = 32 ∷ 45 ∷ []

-- ` free`
abbrev pub FREE : List ℕ
FREE = 32 ∷ 102 ∷ 114 ∷ 101 ∷ 101 ∷ []

-- ` none`
abbrev pub NONE : List ℕ
NONE = 32 ∷ 110 ∷ 111 ∷ 110 ∷ 101 ∷ []

-- `channel `
abbrev pub CHANNEL : List ℕ
CHANNEL = 99 ∷ 104 ∷ 97 ∷ 110 ∷ 110 ∷ 101 ∷ 108 ∷ 32 ∷ []

-- `store `
abbrev pub STORE : List ℕ
STORE = 115 ∷ 116 ∷ 111 ∷ 114 ∷ 101 ∷ 32 ∷ []

-- `kept`
abbrev pub KEPT : List ℕ
KEPT = 107 ∷ 101 ∷ 112 ∷ 116 ∷ []

-- `pacer `
abbrev pub PACER : List ℕ
PACER = 112 ∷ 97 ∷ 99 ∷ 101 ∷ 114 ∷ 32 ∷ []

abbrev pub status_texts : Option ℕ → List (List ℕ)
status_texts None = NOT-REPORTED ∷ []
status_texts (Some status) = one_number SPACE status

abbrev pub flow_texts : Flow → List (List ℕ)
flow_texts Flow.Free = FREE ∷ []
flow_texts Flow.NoWindow = NONE ∷ []
flow_texts (Flow.InForce window) = one_number SPACE window.0

unfoldable pub entries_texts : List Entry → List (List ℕ)
entries_texts [] = []
entries_texts (e ∷ es) = two_numbers SPACE e.length.0 e.expiry ++ entries_texts es

abbrev pub waiting_texts : Queue → List (List ℕ)
waiting_texts queue = one_number SPACE queue.count ++ entries_texts (waiting queue)

unfoldable pub channel_texts : Channel → List (List ℕ)
channel_texts c =
    one_number CHANNEL c.setting.id ++ (status_texts c.status ++ (flow_texts c.flow ++ (one_number SPACE c.sequence.0 ++ (one_number SPACE c.latest ++ waiting_texts c.queue))))

abbrev pub store_texts : List ℕ → List (List ℕ)
store_texts store = STORE ∷ (bytes_text store ∷ [])

-- the Link Instance and the Context of a state, as `read` says those of a message
unfoldable pub kept_texts : Option (LinkInstanceId × ℕ) → Option (ContextBytes × ℕ) → List (List ℕ)
kept_texts link context = KEPT ∷ (instance_texts link ++ context_texts context)

-- "shows the pacer's clock, the time of the last query that was due, and that of the last accepted control message"
unfoldable pub pacer_texts : Pacer → List (List ℕ)
pacer_texts pacer = one_number PACER pacer.clock ++ two_numbers SPACE pacer.due pacer.heard
