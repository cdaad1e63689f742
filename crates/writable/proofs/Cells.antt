-- A table is allowed where std's `all` finds each of its cells allowed. Assumes nothing.
use Rattle.std.specs.Prelude.{ℕ, Option}
use Rattle.quantity.specs.declared.count.FlowSequence.{FlowSequence}
use Rattle.meaning.specs.declared.message.Window.{Window}
use mathlib.Core.Path.{◌≡◌, refl, ap}
use mathlib.Core.List.{List, [], ◌∷◌}
use mathlib.Core.Bool.{Bool, ◌&&◌}
use Rattle.std.specs.List.{list_all}
use Rattle.meaning.specs.declared.message.End.{End}
use Rattle.writable.specs.Allowed.{status_allowed, sequence_allowed, window_allowed, statuses_allowed, sequences_allowed, windows_allowed}

module _ (end : End) where
  pub statuses_all : (cells : List (Option ℕ)) → list_all (λ cell. status_allowed end cell) cells ≡ statuses_allowed end cells
  unfolding statuses_allowed
  statuses_all [] = refl
  statuses_all (cell ∷ cells) = ap (λ (b : Bool). status_allowed end cell && b) (statuses_all cells)

  pub sequences_all : (cells : List (Option FlowSequence)) → list_all (λ cell. sequence_allowed end cell) cells ≡ sequences_allowed end cells
  unfolding sequences_allowed
  sequences_all [] = refl
  sequences_all (cell ∷ cells) = ap (λ (b : Bool). sequence_allowed end cell && b) (sequences_all cells)

  pub windows_all : (cells : List (Option Window)) → list_all (λ cell. window_allowed end cell) cells ≡ windows_allowed end cells
  unfolding windows_allowed
  windows_all [] = refl
  windows_all (cell ∷ cells) = ap (λ (b : Bool). window_allowed end cell && b) (windows_all cells)
