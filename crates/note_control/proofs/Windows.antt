-- What flat tables tell of each channel's Flow Window is what the message states of it. Assumes nothing.
use Rattle.std.specs.Prelude.{Some, Option, None}
use Prim.Native.Nat.{ℕ, zero, suc, ◌<◌, ◌≤◌}
use mathlib.Core.Path.{◌≡◌, refl, sym, ap, subst, ◌∙◌}
use mathlib.Core.List.{List}
use mathlib.Core.Bool.{Bool, true, false}
use native.Mathlib.Omega.{arith}
use borrow.Author.Tests.{ltb-true, ltb-false}
use lib.Dec.{ltb}
use lib.ListN.{length, get_or, get_or-eq_default}
use Rattle.facts.proofs.Tables.{length_tabulate, get_d_tabulate}
use Rattle.quantity.specs.Limits.{CHANNEL-IDS}
use Rattle.meaning.specs.declared.message.Window.{Window}
use Rattle.read_rules.specs.declared.answer.Verdict.{Verdict}
use Rattle.read_control.specs.declared.ControlReading.{ControlReading}
use Rattle.note_control.specs.declared.Noted.{Noted}
use Rattle.note_control.specs.Codes.{code_window}
use Rattle.note_control.specs.Noted.{MeantIf, NotedBy}
use Rattle.note_control.specs.Windows.{window_cells}

pub given_code : (tag word : ℕ) → (tag ≡ 0 → ⊥) → (tag ≡ 1 → ⊥) → Some (Window.Given (record { 0 = word })) ≡ code_window tag word
given_code zero word n m = absurd (n refl)
given_code (suc zero) word n m = absurd (m refl)
given_code (suc (suc k)) word n m = refl

pub cells_long : (tags windows : List ℕ) → length (window_cells tags windows) ≡ CHANNEL-IDS
unfolding window_cells
cells_long tags windows = length_tabulate CHANNEL-IDS _

-- a channel's place
pub told_window_is : (tags windows : List ℕ) (n : ℕ) → n < CHANNEL-IDS → (get_or (window_cells tags windows) n None) ≡ code_window (get_or tags n 0) (get_or windows n 0)
unfolding window_cells
told_window_is tags windows n h = ap (λ (cell : Option Window). cell) (get_d_tabulate CHANNEL-IDS _ n None h)

-- behind the last one nothing is told
told_beyond : (tags windows : List ℕ) (n : ℕ) → length tags ≡ CHANNEL-IDS → CHANNEL-IDS ≤ n → code_window (get_or tags n 0) (get_or windows n 0) ≡ (get_or (window_cells tags windows) n None)
told_beyond tags windows n e h =
    ap (λ (tag : ℕ). code_window tag (get_or windows n 0)) (get_or-eq_default tags 0 {n = n} (omega (arith, e)))
    ∙ sym (ap (λ (cell : Option Window). cell) (get_or-eq_default (window_cells tags windows) None {n = n} (omega (arith, cells_long tags windows))))

-- an accepted message's windows are those that the tables tell
pub windows_told : {reading : ControlReading} {noted : Noted} {statuses tags windows : List ℕ} → NotedBy reading noted statuses tags windows
    → noted.verdict ≡ Verdict.Accepted → length tags ≡ CHANNEL-IDS
    → (n : ℕ) → (get_or reading.message.windows n None) ≡ (get_or (window_cells tags windows) n None)
windows_told {reading} {noted} {statuses} {tags} {windows} k e long n = stated ∙ go (ltb n CHANNEL-IDS) refl
  where
    meant : MeantIf Verdict.Accepted reading.message noted statuses tags windows
    meant = subst (λ (verdict : Verdict). MeantIf verdict reading.message noted statuses tags windows) e k.meant

    stated : (get_or reading.message.windows n None) ≡ code_window (get_or tags n 0) (get_or windows n 0)
    stated = meant.tabled.window_is n

    go : (b : Bool) → ltb n CHANNEL-IDS ≡ b → code_window (get_or tags n 0) (get_or windows n 0) ≡ (get_or (window_cells tags windows) n None)
    go true q = sym (told_window_is tags windows n (ltb-true n CHANNEL-IDS q))
    go false q = told_beyond tags windows n long (ltb-false n CHANNEL-IDS q)
