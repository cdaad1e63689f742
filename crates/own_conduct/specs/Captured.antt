-- Document 02, §12, of our own endpoint: its session as a capture, of what it handed over and the radio messages that it
-- accepted, recorded in that order.
use Rattle.quantity.specs.declared.refusal.Refusal.{Refusal}
use Rattle.std.specs.Prelude.{ℕ, List, [], ◌∷◌, ◌++◌, map, ◌≡◌, Result, Ok, Err}
use Rattle.quantity.specs.declared.count.DatalinkId.{DatalinkId}
use Rattle.records.specs.Files.{Report, kept}
use Rattle.ethernet.specs.declared.Kind.{Kind}
use Rattle.ethernet.specs.declared.Ports.{Ports}
use Rattle.ethernet.specs.Kinds.{kind_of}
use Rattle.ethernet.specs.Layers.{datagram_of}
use Rattle.conduct.specs.Outcomes.{nothing, outcome_of}
use Rattle.ips_radio.specs.declared.RadioAnswer.{RadioAnswer}
use Rattle.ips_run.specs.Run.{Call, on, radio, pace, query}
use Rattle.ips_calls.specs.Replies.{EndpointReply, of_channel, of_radio, of_pace, of_query, of_reply, if_wrote}

-- a datagram that passed between the ends, by the end that it went to
pub data Passed : Type 0 where
  to_ips : List ℕ → Passed
  to_radio : List ℕ → Passed

-- a radio message that was accepted. One that 21 refuses may be one that the judge, who knows no time, would hear: to the endpoint it never came.
abbrev pub if_heard : Result RadioAnswer Refusal → (datagram : List ℕ) → List Passed
if_heard (Ok RadioAnswer.Accepted) datagram = to_ips datagram ∷ []
if_heard (Ok RadioAnswer.Due) datagram = to_ips datagram ∷ []
if_heard (Err refusal) datagram = []

-- of a call and its reply: what Next hands over, and a query, which is no data message
abbrev pub passed_by : Call → EndpointReply → List Passed
passed_by (on id c) (of_channel x) = map to_radio (of_reply x)
passed_by (on id c) (of_radio answer) = []
passed_by (on id c) (of_pace answer) = []
passed_by (on id c) (of_query answer out) = []
passed_by (radio time datagram) (of_channel x) = []
passed_by (radio time datagram) (of_radio answer) = if_heard answer datagram
passed_by (radio time datagram) (of_pace answer) = []
passed_by (radio time datagram) (of_query answer out) = []
passed_by (pace time) x = []
passed_by (query out) (of_channel x) = []
passed_by (query out) (of_radio answer) = []
passed_by (query out) (of_pace answer) = []
passed_by (query out) (of_query answer out') = map to_radio (if_wrote answer out')

-- of a run, in order
abbrev pub passed_in : List Call → List EndpointReply → List Passed
passed_in [] xs = []
passed_in (c ∷ cs) [] = []
passed_in (c ∷ cs) (x ∷ xs) = passed_by c x ++ passed_in cs xs

-- a capture that has them all, in that order; whatever is nothing to the judge may stand between
pub data Captured (ports : Ports) (id : DatalinkId) : List Passed → List Report → Type 0 where
  ends : Captured ports id [] []
  heard : {original : ℕ} {frame datagram : List ℕ} {rest : List Passed} {reports : List Report} → kind_of ports original frame ≡ Kind.Radio → datagram_of frame ≡ datagram
      → Captured ports id rest reports → Captured ports id (to_ips datagram ∷ rest) (kept original frame ∷ reports)
  handed : {original : ℕ} {frame datagram : List ℕ} {rest : List Passed} {reports : List Report} → kind_of ports original frame ≡ Kind.Ips → datagram_of frame ≡ datagram
      → Captured ports id rest reports → Captured ports id (to_radio datagram ∷ rest) (kept original frame ∷ reports)
  beside : {original : ℕ} {frame : List ℕ} {rest : List Passed} {reports : List Report} → outcome_of ports id original frame ≡ nothing
      → Captured ports id rest reports → Captured ports id rest (kept original frame ∷ reports)
