-- What is left of a message that was read into flat tables.
use Rattle.std.specs.Prelude.{ℕ, List, ◌≡◌, get_or, None}
use Rattle.meaning.specs.declared.message.Control.{Control}
use Rattle.read_rules.specs.declared.answer.Verdict.{Verdict}
use Rattle.read_control.specs.declared.ControlReading.{ControlReading}
use Rattle.note_control.specs.declared.Noted.{Noted}
use Rattle.note_control.specs.Codes.{code_status, code_window}

-- the tables say what the message states of each channel
pub record Tabled (m : Control) (statuses tags windows : List ℕ) : Type 0 where
  pub status_is : (n : ℕ) → (get_or m.statuses n None) ≡ code_status (get_or statuses n 0)
  pub window_is : (n : ℕ) → (get_or m.windows n None) ≡ code_window (get_or tags n 0) (get_or windows n 0)

pub record Meant (m : Control) (r : Noted) (statuses tags windows : List ℕ) : Type 0 where
  pub instance_is : m.instance ≡ r.instance
  pub context_is : m.context ≡ r.context
  pub tabled : Tabled m statuses tags windows

-- of a refused message nothing is said
abbrev pub MeantIf : Verdict → Control → Noted → (statuses tags windows : List ℕ) → Type 0
MeantIf Verdict.Accepted m r statuses tags windows = Meant m r statuses tags windows
MeantIf Verdict.OtherPlane m r statuses tags windows = Unit {0}
MeantIf (Verdict.Refused refusal) m r statuses tags windows = Unit {0}

pub record NotedBy (reading : ControlReading) (r : Noted) (statuses tags windows : List ℕ) : Type 0 where
  pub verdict_is : r.verdict ≡ reading.verdict
  pub meant : MeantIf r.verdict reading.message r statuses tags windows
