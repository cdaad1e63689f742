-- Numbers 14 and 17 in plain facts, of whatever parts a channel is made of and whatever its longest packet is.
use Rattle.std.specs.Prelude.{ℕ, ◌+◌, ◌≤◌, ◌<◌, true, List, [], ◌∷◌, ◌↔◌, ◌⊎◌, ◌≡◌, length}
use Rattle.store.specs.Packets.{Packet}
use Rattle.ips_channel_rules.specs.Rules.{Terms, ChannelParts}

abbrev pub waiting_bytes : List Packet → ℕ
waiting_bytes [] = 0
waiting_bytes (p ∷ ps) = length p.bytes + waiting_bytes ps

-- "32 packets wait, or waiting bytes plus this packet exceed the store"
abbrev pub NoPlace : (size : ℕ) → List Packet → Packet → Type 0
NoPlace size ps p = (32 ≤ length ps) ⊎ (size < waiting_bytes ps + length p.bytes)

-- "14 is given above the smaller of 9,000 and the store's length": above the longest packet of these terms, or above the store
abbrev pub TooLong : Terms → ℕ → Type 0
TooLong k n = (k.longest < n) ⊎ (k.size < n)

pub record Limited (P : ChannelParts) : Type 0 where
  -- over the longest if and only if too long
  pub long : (k : Terms) (n : ℕ) → (P.longest k < n) ↔ TooLong k n
  -- full if and only if there is no place
  pub full_then : (k : Terms) (kept : P.Keeping) (p : Packet) → NoPlace k.size (P.waiting kept) p → P.full k kept p ≡ true
  pub full_only : (k : Terms) (kept : P.Keeping) (p : Packet) → P.full k kept p ≡ true → NoPlace k.size (P.waiting kept) p
