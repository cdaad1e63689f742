-- The Flow Windows that flat tables tell, as a control message has them.
use Rattle.meaning.specs.declared.message.Window.{Window}
use Rattle.std.specs.Prelude.{ℕ, List, get_or, Option}
use Rattle.facts.specs.Tables.{tabulate}
use Rattle.quantity.specs.Limits.{CHANNEL-IDS}
use Rattle.note_control.specs.Codes.{code_window}

unfoldable pub window_cells : (tags windows : List ℕ) → List (Option Window)
window_cells tags windows = tabulate CHANNEL-IDS (λ channel. code_window (get_or tags channel 0) (get_or windows channel 0))
