-- What the functions behind a handful require and do, where 19 and 24 have been tested, and how many bytes they move within the stores (document 02, §4).
use Rattle.std.specs.Prelude.{ℕ, ◌+◌, true, cond, List, [], ◌∷◌, map, ◌≡◌, length}
use Rattle.quantity.specs.declared.count.ByteCount.{ByteCount}
use Rattle.ips_channel_rules.specs.Rules.{offer}
use Rattle.ips_state.specs.Memory.{World, world_fits, is_configured, index_in}
use Rattle.endpoint.specs.Lent.{Lent, world_in, after_in}
use Rattle.endpoint.specs.Calls.{moved_at}
use Rattle.ips_channel_calls.specs.Calls.{number_of}
use Rattle.handful.specs.declared.judged.Handed.{Handed}
use Rattle.handful.specs.Handful.{Handful, Offer, call_of, answers_to, left_by, offers_of, is_handful}

-- what the code hands on
abbrev pub handful_in : Handed → Handful
handful_in h = record { channels = h.channels.now; expiries = h.expiries.now; lengths = h.lengths.now; packets = h.packets.now; time = h.time }

-- ---- the bytes moved by one offer: within the store of its channel; none where it has no channel
unfoldable pub moved_in : (time : ℕ) → Offer → World → ℕ
moved_in time o w = cond (is_configured w o.id) (moved_at (offer o.packet time) w (index_in w o.id)) 0

-- and by all, one after the other
unfoldable pub moved_by : (time : ℕ) → List Offer → Lent → ℕ
moved_by time [] l = 0
moved_by time (o ∷ os) l = moved_in time o (world_in l) + moved_by time os (after_in (call_of time o) l)

-- what has been tested
pub record Tested (h : Handful) (l : Lent) (answers : List ℕ) : Type 0 where
  pub fits : world_fits (world_in l) ≡ true
  pub handful : is_handful h (length answers) ≡ true

-- what the loop over the packets does
pub record OfferedEach (h : Handful) (l : Lent) (moved : ByteCount) (l' : Lent) (answers' : List ℕ) : Type 0 where
  pub moved_is : moved ≡ record { 0 = moved_by h.time (offers_of h) l }
  pub lent_is : l' ≡ left_by h.time (offers_of h) l
  pub answers_are : answers' ≡ map number_of (answers_to h.time (offers_of h) l)
