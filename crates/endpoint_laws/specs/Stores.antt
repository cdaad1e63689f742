-- "one store of 1,500 to 65,536 bytes for each channel, all of them end to end in configuration order in one lent memory"; "A store holds the waiting packets end to end
-- in order from its start, as plain IPv6 packets; behind them stand zeros."
use Rattle.std.specs.Prelude.{ℕ, zero, suc, ◌-◌, List, [], ◌∷◌, ◌++◌, length, replicate}
use Rattle.store.specs.Packets.{Packet}

-- n stores, one behind the other
abbrev pub end_to_end : (ℕ → List ℕ) → ℕ → List ℕ
end_to_end stores zero = []
end_to_end stores (suc n) = end_to_end stores n ++ stores n

-- packets one behind the other, and zeros up to the size
abbrev pub bytes_in : List Packet → List ℕ
bytes_in [] = []
bytes_in (p ∷ ps) = p.bytes ++ bytes_in ps

abbrev pub holding : ℕ → List Packet → List ℕ
holding size ps = bytes_in ps ++ replicate (size - length (bytes_in ps)) 0
