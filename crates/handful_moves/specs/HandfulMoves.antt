-- Document 02, §4 and §5: of the bytes that a handful moves, those within one channel's store, beside the packets that leave that channel and those that join it.
use Rattle.std.specs.Prelude.{ℕ, zero, suc, ◌+◌, Bool, cond, ◌&&◌, List, [], ◌∷◌, ◌++◌, ◌≡◌, eqb, length, take}
use Rattle.store.specs.Packets.{Packet}
use Rattle.store.specs.Moves.{Stretch, staying, displaced, expiring, unchanging}
use Rattle.store.specs.Waiting.{packets_of}
use Rattle.store_moves.specs.Moving.{remaining, Marked}
use Rattle.call_moves.specs.CallMoves.{joining_by}
use Rattle.ips_channel_rules.specs.Rules.{offer}
use Rattle.ips_state.specs.Memory.{World, is_configured, index_in, channel_in, store_in}
use Rattle.ips_run.specs.Calling.{calling}
use Rattle.endpoint.specs.Lent.{Lent, world_in, after_in}
use Rattle.handful.specs.Handful.{Offer, call_of, left_by}
use Rattle.handful.specs.Offering.{moved_in}

-- ---- the channel at an index of the configuration

-- how many there are
abbrev pub count_in : Lent → ℕ
count_in l = length (world_in l).state.channels

-- the packets that wait on it
abbrev pub waiting_at : World → ℕ → List Packet
waiting_at w index = packets_of (channel_in w index).queue (store_in w index)

-- whether an ID is its own
abbrev pub is_at : World → (id index : ℕ) → Bool
is_at w id index = is_configured w id && eqb (index_in w id) index

-- ---- the bytes that offers move within its store: as `moved_by`, of the offers on this channel alone
abbrev pub moved_there : (index time : ℕ) → Offer → World → ℕ
moved_there index time o w = cond (is_at w o.id index) (moved_in time o w) 0

unfoldable pub moved_within : (index time : ℕ) → List Offer → Lent → ℕ
moved_within index time [] l = 0
moved_within index time (o ∷ os) l = moved_there index time o (world_in l) + moved_within index time os (after_in (call_of time o) l)

-- a number for each index below a count, summed
unfoldable pub sum_below : (ℕ → ℕ) → ℕ → ℕ
sum_below f zero = 0
sum_below f (suc n) = sum_below f n + f n

-- ---- the packets that join its queue by them: of the offers on this channel those that are taken, in order
abbrev pub joining_there : (index time : ℕ) → Offer → World → List Packet
joining_there index time o w = cond (is_at w o.id index) (joining_by (offer o.packet time) (calling o.id (offer o.packet time) w).answer) []

unfoldable pub joining_within : (index time : ℕ) → List Offer → Lent → List Packet
joining_within index time [] l = []
joining_within index time (o ∷ os) l = joining_there index time o (world_in l) ++ joining_within index time os (after_in (call_of time o) l)

-- ---- and those of the waiting packets that leave: where none joined none, else those that are due at the one time that all the offers have
abbrev pub leaving_for : (time : ℕ) (joining waiting : List Packet) → List Stretch
leaving_for time [] waiting = unchanging waiting
leaving_for time (p ∷ joining) waiting = expiring time waiting

abbrev pub stretches_within : (index time : ℕ) → List Offer → Lent → List Stretch
stretches_within index time os l = leaving_for time (joining_within index time os l) (waiting_at (world_in l) index)

-- the packets marked as staying are those that wait after all the offers, before those that joined; so many bytes were moved as stand behind the first that left; and
-- the store then starts with the bytes of those that stay
pub record LeavesWithin (index time : ℕ) (os : List Offer) (l : Lent) : Type 0 where
  pub kept : List Packet
  pub marked : Marked (waiting_at (world_in l) index) (stretches_within index time os l) kept
  pub waiting_is : waiting_at (world_in (left_by time os l)) index ≡ kept ++ joining_within index time os l
  pub moved_is : moved_within index time os l ≡ displaced (stretches_within index time os l)
  pub start_is : take (staying (stretches_within index time os l)) (store_in (world_in (left_by time os l)) index) ≡ remaining (stretches_within index time os l) (store_in (world_in l) index)
