-- The rules of one channel in literal numbers.
use Rattle.std.specs.Prelude.{ℕ, List, [], ◌∷◌}

-- a highest word, a word heard, and the highest word then
pub record HeardRow : Type 0 where
  pub highest : ℕ
  pub sequence : ℕ
  pub becomes : ℕ

abbrev pub heard_rows : List HeardRow
heard_rows =
    record { highest = 100; sequence = 101; becomes = 101 }
    ∷ record { highest = 100; sequence = 100; becomes = 100 }
    ∷ record { highest = 100; sequence = 99; becomes = 100 }
    ∷ record { highest = 4294967000; sequence = 500; becomes = 500 }
    ∷ record { highest = 500; sequence = 4294967000; becomes = 500 }
    ∷ record { highest = 100; sequence = 2147483747; becomes = 2147483747 }
    ∷ record { highest = 100; sequence = 2147483748; becomes = 100 }
    ∷ []

-- watermark, throughput and bytes queued, a highest word, and the window then
pub record WindowRow : Type 0 where
  pub watermark : ℕ
  pub throughput : ℕ
  pub queued : ℕ
  pub highest : ℕ
  pub window : ℕ

abbrev pub window_rows : List WindowRow
window_rows =
    record { watermark = 1000; throughput = 500; queued = 200; highest = 40; window = 1340 }
    ∷ record { watermark = 1000; throughput = 500; queued = 1499; highest = 40; window = 41 }
    ∷ record { watermark = 1000; throughput = 500; queued = 1500; highest = 40; window = 40 }
    ∷ record { watermark = 1000; throughput = 500; queued = 18446744073709551615; highest = 40; window = 40 }
    ∷ record { watermark = 2147483647; throughput = 0; queued = 0; highest = 0; window = 2147483647 }
    ∷ record { watermark = 2147483647; throughput = 2147483647; queued = 0; highest = 1; window = 2147483648 }
    ∷ record { watermark = 2147483647; throughput = 2147483647; queued = 2147483648; highest = 1; window = 2147483647 }
    ∷ record { watermark = 1000; throughput = 500; queued = 0; highest = 4294967000; window = 1204 }
    ∷ []
