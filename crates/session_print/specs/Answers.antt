-- docs/SESSION.md, "About a state": the answers.
use Rattle.quantity.specs.declared.count.ByteCount.{ByteCount}
use Rattle.quantity.specs.declared.refusal.Refusal.{Refusal}
use Rattle.std.specs.Prelude.{ℕ, List, [], ◌∷◌, ◌++◌, take, Result, Ok, Err}
use Rattle.text.specs.Strings.{bytes_text}
use Rattle.ips_channel_calls.specs.declared.asking.NextAnswer.{NextAnswer}
use Rattle.ips_channel_calls.specs.Calls.{answer_of}
use Rattle.ips_radio.specs.declared.RadioAnswer.{RadioAnswer}
use Rattle.pacer.specs.declared.PaceAnswer.{PaceAnswer}
use Rattle.message_words.specs.Phrases.{SPACE, refused_texts}

-- `started`
abbrev pub STARTED : List ℕ
STARTED = 115 ∷ 116 ∷ 97 ∷ 114 ∷ 116 ∷ 101 ∷ 100 ∷ []

-- `taken`
abbrev pub TAKEN : List ℕ
TAKEN = 116 ∷ 97 ∷ 107 ∷ 101 ∷ 110 ∷ []

-- `offered`
abbrev pub OFFERED : List ℕ
OFFERED = 111 ∷ 102 ∷ 102 ∷ 101 ∷ 114 ∷ 101 ∷ 100 ∷ []

-- `sent `
abbrev pub SENT : List ℕ
SENT = 115 ∷ 101 ∷ 110 ∷ 116 ∷ 32 ∷ []

-- `nothing waiting`
abbrev pub NOTHING-WAITING : List ℕ
NOTHING-WAITING = 110 ∷ 111 ∷ 116 ∷ 104 ∷ 105 ∷ 110 ∷ 103 ∷ 32 ∷ 119 ∷ 97 ∷ 105 ∷ 116 ∷ 105 ∷ 110 ∷ 103 ∷ []

-- `not operational`
abbrev pub NOT-OPERATIONAL : List ℕ
NOT-OPERATIONAL = 110 ∷ 111 ∷ 116 ∷ 32 ∷ 111 ∷ 112 ∷ 101 ∷ 114 ∷ 97 ∷ 116 ∷ 105 ∷ 111 ∷ 110 ∷ 97 ∷ 108 ∷ []

-- `window shut`
abbrev pub WINDOW-SHUT : List ℕ
WINDOW-SHUT = 119 ∷ 105 ∷ 110 ∷ 100 ∷ 111 ∷ 119 ∷ 32 ∷ 115 ∷ 104 ∷ 117 ∷ 116 ∷ []

-- `withdrawn`
abbrev pub WITHDRAWN : List ℕ
WITHDRAWN = 119 ∷ 105 ∷ 116 ∷ 104 ∷ 100 ∷ 114 ∷ 97 ∷ 119 ∷ 110 ∷ []

-- `accepted`
abbrev pub ACCEPTED : List ℕ
ACCEPTED = 97 ∷ 99 ∷ 99 ∷ 101 ∷ 112 ∷ 116 ∷ 101 ∷ 100 ∷ []

-- `accepted due`
abbrev pub ACCEPTED-DUE : List ℕ
ACCEPTED-DUE = 97 ∷ 99 ∷ 99 ∷ 101 ∷ 112 ∷ 116 ∷ 101 ∷ 100 ∷ 32 ∷ 100 ∷ 117 ∷ 101 ∷ []

-- `quiet`
abbrev pub QUIET : List ℕ
QUIET = 113 ∷ 117 ∷ 105 ∷ 101 ∷ 116 ∷ []

-- `due`
abbrev pub DUE : List ℕ
DUE = 100 ∷ 117 ∷ 101 ∷ []

-- `silent`
abbrev pub SILENT : List ℕ
SILENT = 115 ∷ 105 ∷ 108 ∷ 101 ∷ 110 ∷ 116 ∷ []

-- `due silent`
abbrev pub DUE-SILENT : List ℕ
DUE-SILENT = 100 ∷ 117 ∷ 101 ∷ 32 ∷ 115 ∷ 105 ∷ 108 ∷ 101 ∷ 110 ∷ 116 ∷ []

-- `query `
abbrev pub QUERY : List ℕ
QUERY = 113 ∷ 117 ∷ 101 ∷ 114 ∷ 121 ∷ 32 ∷ []

abbrev pub start_texts : Result (Unit {0}) Refusal → List (List ℕ)
start_texts (Ok tt) = STARTED ∷ []
start_texts (Err refusal) = refused_texts refusal

abbrev pub offer_texts : Result (Unit {0}) Refusal → List (List ℕ)
offer_texts (Ok tt) = TAKEN ∷ []
offer_texts (Err refusal) = refused_texts refusal

-- "`offered`, and then for each packet, in their order, `taken` or `refused NUMBER 0`, as `offer` would answer it": an answer is a byte, 0 where the packet is taken,
-- else its number of refusal
abbrev pub another_texts : ℕ → List (List ℕ)
another_texts number = SPACE ∷ offer_texts (answer_of number)

unfoldable pub answers_texts : List ℕ → List (List ℕ)
answers_texts [] = []
answers_texts (number ∷ numbers) = another_texts number ++ answers_texts numbers

abbrev pub offers_texts : List ℕ → List (List ℕ)
offers_texts answers = OFFERED ∷ answers_texts answers

-- `sent HEX`, `nothing waiting`, `not operational` or `window shut`; the message stands at the start of the output
abbrev pub next_texts : Result NextAnswer Refusal → List ℕ → List (List ℕ)
next_texts (Ok (NextAnswer.Sent count)) out = SENT ∷ (bytes_text (take count.0 out) ∷ [])
next_texts (Ok NextAnswer.NothingWaiting) out = NOTHING-WAITING ∷ []
next_texts (Ok NextAnswer.NotOperational) out = NOT-OPERATIONAL ∷ []
next_texts (Ok NextAnswer.WindowShut) out = WINDOW-SHUT ∷ []
next_texts (Err refusal) out = refused_texts refusal

abbrev pub withdraw_texts : Result (Unit {0}) Refusal → List (List ℕ)
withdraw_texts (Ok tt) = WITHDRAWN ∷ []
withdraw_texts (Err refusal) = refused_texts refusal

-- `accepted`, or `accepted due` where a mobility message is due
abbrev pub radio_texts : Result RadioAnswer Refusal → List (List ℕ)
radio_texts (Ok RadioAnswer.Accepted) = ACCEPTED ∷ []
radio_texts (Ok RadioAnswer.Due) = ACCEPTED-DUE ∷ []
radio_texts (Err refusal) = refused_texts refusal

-- "`quiet`, `due` (a query is), `silent` (the radio is), `due silent`"
abbrev pub pace_texts : Result PaceAnswer Refusal → List (List ℕ)
pace_texts (Ok PaceAnswer.Quiet) = QUIET ∷ []
pace_texts (Ok PaceAnswer.Due) = DUE ∷ []
pace_texts (Ok PaceAnswer.Silent) = SILENT ∷ []
pace_texts (Ok PaceAnswer.DueSilent) = DUE-SILENT ∷ []
pace_texts (Err refusal) = refused_texts refusal

abbrev pub query_texts : Result ByteCount Refusal → List ℕ → List (List ℕ)
query_texts (Ok count) out = QUERY ∷ (bytes_text (take count.0 out) ∷ [])
query_texts (Err refusal) out = refused_texts refusal
