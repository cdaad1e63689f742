-- Which refusals are a reader's. "Reading: 1, 2, then the options one after another, each tested in the order 3, 8, 6, 4, 5, 7; then 9, 10, 11."
use Rattle.std.specs.Prelude.{ℕ, ◌≤◌}
use Rattle.quantity.specs.Refusals.{LONG-DATAGRAM, OTHER-DATALINK}

abbrev pub OfReading : ℕ → Type 0
OfReading number = (LONG-DATAGRAM ≤ number) × (number ≤ OTHER-DATALINK)
