-- Request 4: any way to bring the packets that stay to the store's start, one byte moved after the other.
use Rattle.std.specs.Prelude.{true, false, cond, ◌≡◌, List, [], ◌∷◌, ◌++◌, ℕ, ◌+◌, ◌<◌, ◌≤◌, ◌^◌, eqb, length, get_or, take, drop, set}
use Rattle.store.specs.Packets.{Packet}
use Rattle.store.specs.Moves.{Stretch, stretch_of, staying, displaced}

-- a move: the byte at one place of a store is written to another
pub record Move : Type 0 where
  pub from : ℕ
  pub to : ℕ

-- moves, one after the other
unfoldable pub moving : List Move → List ℕ → List ℕ
moving [] store = store
moving (m ∷ ms) store = moving ms (set store m.to (get_or store m.from 0))

-- how many of them have one of their two ends at a place: write to it, read from it
unfoldable pub ends : (end : Move → ℕ) → ℕ → List Move → ℕ
ends end place [] = 0
ends end place (m ∷ ms) = cond (eqb (end m) place) 1 0 + ends end place ms

abbrev pub writes : ℕ → List Move → ℕ
writes = ends (λ m. m.to)

abbrev pub reads : ℕ → List Move → ℕ
reads = ends (λ m. m.from)

-- the bytes of the packets that stay, in order
unfoldable pub remaining : List Stretch → List ℕ → List ℕ
remaining [] store = []
remaining (x ∷ xs) store = cond x.stays (take x.length store) [] ++ remaining xs (drop x.length store)

-- how many bytes the packets have, and that each has one at least
unfoldable pub span : List Stretch → ℕ
span [] = 0
span (x ∷ xs) = x.length + span xs

pub data Filled : List Stretch → Type 0 where
  none : Filled []
  more : {x : Stretch} {xs : List Stretch} → 0 < x.length → Filled xs → Filled (x ∷ xs)

abbrev pub AreBytes : List ℕ → Type 0
AreBytes store = (place : ℕ) → get_or store place 0 < 2 ^ 8

-- whatever bytes stand in a store of this size, the moves bring those that stay to its start; what stands behind them isn't looked at
abbrev pub ToStart : ℕ → List Stretch → List Move → Type 0
ToStart size xs ms = (store : List ℕ) → length store ≡ size → AreBytes store → take (staying xs) (moving ms store) ≡ remaining xs store

pub record Brings (size : ℕ) (xs : List Stretch) (ms : List Move) : Type 0 where
  pub filled : Filled xs
  pub room : span xs ≤ size
  pub start : ToStart size xs ms

-- the places whose byte comes from another place
pub record Displaced (xs : List Stretch) (place : ℕ) : Type 0 where
  pub above : staying xs ≤ place + displaced xs
  pub below : place < staying xs

-- the same in plain facts: whatever a store holds, the byte that belongs at the place stands at another
pub record Elsewhere (xs : List Stretch) (place : ℕ) : Type 0 where
  pub below : place < staying xs
  pub from : ℕ
  pub other : from ≡ place → ⊥
  pub inside : from < span xs
  pub is : (store : List ℕ) → span xs ≤ length store → get_or (remaining xs store) place 0 ≡ get_or store from 0

-- packets that wait, their stretches, and those of the packets that stay
pub data Marked : List Packet → List Stretch → List Packet → Type 0 where
  none_waits : Marked [] [] []
  this_stays : {p : Packet} {ps kept : List Packet} {xs : List Stretch} → Marked ps xs kept → Marked (p ∷ ps) (stretch_of p true ∷ xs) (p ∷ kept)
  this_leaves : {p : Packet} {ps kept : List Packet} {xs : List Stretch} → Marked ps xs kept → Marked (p ∷ ps) (stretch_of p false ∷ xs) kept
