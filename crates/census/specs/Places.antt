-- Where the counts stand, and what a record adds to them.
use Rattle.std.specs.Prelude.{List, [], ◌∷◌, ◌++◌, ℕ, suc, ◌+◌, ◌*◌, Option, Some, None}
use Rattle.meaning.specs.declared.message.End.{End}
use Rattle.meaning.specs.declared.message.Window.{Window}
use Rattle.census.specs.Adding.{Add, to}
use Rattle.census.specs.Outcomes.{Reading, refused, control, carried, astray, Outcome, skipped, message}

abbrev pub RECORDS : ℕ
RECORDS = 0

abbrev pub SKIPPED : ℕ
SKIPPED = 1

abbrev pub IPS : ℕ
IPS = 2

abbrev pub RADIO : ℕ
RADIO = 3

-- refusal n stands at REFUSALS + n
abbrev pub REFUSALS : ℕ
REFUSALS = 3

-- a channel's packets, bytes and windows stand three times its Channel ID behind these
abbrev pub PACKETS : ℕ
PACKETS = 15

abbrev pub BYTES : ℕ
BYTES = 16

abbrev pub WINDOWS : ℕ
WINDOWS = 17

-- all counts
abbrev pub PLACES : ℕ
PLACES = 780

abbrev pub end_place : End → ℕ
end_place End.Ips = IPS
end_place End.Radio = RADIO

-- "windows granted": a Flow Window with the field
abbrev pub window_adds : ℕ → Option Window → List Add
window_adds channel None = []
window_adds channel (Some Window.Empty) = []
window_adds channel (Some (Window.Given window)) = to (WINDOWS + 3 * channel) 1 ∷ []

-- those of a table, from a Channel ID on
unfoldable pub windows_from : ℕ → List (Option Window) → List Add
windows_from channel [] = []
windows_from channel (cell ∷ cells) = window_adds channel cell ++ windows_from (suc channel) cells

-- of an accepted control message: the radio's grants windows
abbrev pub granted_adds : End → List (Option Window) → List Add
granted_adds End.Ips cells = []
granted_adds End.Radio cells = windows_from 0 cells

-- a packet of n bytes on a channel
abbrev pub packet_adds : ℕ → ℕ → List Add
packet_adds channel size = to (PACKETS + 3 * channel) 1 ∷ to (BYTES + 3 * channel) size ∷ []

abbrev pub reading_adds : End → Reading → List Add
reading_adds end (refused number) = to (REFUSALS + number) 1 ∷ []
reading_adds end (control stated) = granted_adds end stated.windows
reading_adds end (carried channel size) = packet_adds channel size
reading_adds end astray = []

abbrev pub message_adds : End → Reading → List Add
message_adds end reading = to (end_place end) 1 ∷ reading_adds end reading

-- what a record adds
abbrev pub adds_of : Outcome → List Add
adds_of skipped = to RECORDS 1 ∷ to SKIPPED 1 ∷ []
adds_of (message end reading) = to RECORDS 1 ∷ message_adds end reading
