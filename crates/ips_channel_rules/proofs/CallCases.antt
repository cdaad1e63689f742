-- What Offer and Next do, case by case in the order of the tests, in plain numbers, of whatever parts a channel is made of. Assumes nothing.
use Rattle.std.specs.Prelude.{Option, Some, None}
use Prim.Native.Nat.{ℕ, ◌+◌, ◌≤◌, ◌<◌}
use mathlib.Core.Bool.{Bool, true, false, or-true}
use mathlib.Core.List.{List, [], ◌∷◌}
use mathlib.Core.Logic.{◌⊎◌, inl, inr}
use mathlib.Core.Path.{◌≡◌, refl}
use native.Mathlib.Omega.{arith}
use lib.ListN.{length, length-append}
use lib.Dec.{ltb}
use borrow.Author.Tests.{lt-ltb, le-ltb}
use Rattle.quantity.specs.declared.count.FlowSequence.{FlowSequence}
use Rattle.meaning.specs.StatusKinds.{MaySend}
use Rattle.meaning.proofs.StatusKinds.{operational_exactly}
use Rattle.wire.specs.Numbers.{bytes_of}
use Rattle.wire.specs.Options.{option_bytes, bytes}
use Rattle.writer.specs.Written.{data_options, data_written, no_room_of}
use Rattle.store.specs.Packets.{Packet}
use Rattle.ipv6.specs.FixedHeader.{FixedHeader}
use Rattle.ipv6.proofs.FixedHeader.{ipv6_exactly}
use Rattle.ips_channel_rules.specs.Rules.{taken, Tried, nothing_waiting, not_operational, window_shut, sent, Terms, ChannelParts, Condition, AfterCall, message_bytes, refusal, left, grown, offer_at, next_at}
use Rattle.ips_channel_rules.specs.Limits.{NoPlace, TooLong, Limited}
use Rattle.ips_channel_rules.specs.FlowCases.{IsFree, IsShut, IsUnder}
use Rattle.ips_channel_rules.proofs.Limits.{both_short, place_empty}
use Rattle.ips_channel_rules.proofs.Exact.{offer_not_ipv6, offer_long, offer_early, offer_past, offer_full, offer_taken, next_early, next_nothing, next_not_operational, next_shut, next_no_room, next_sent}

pub false_unless : (t : Bool) → (t ≡ true → ⊥) → t ≡ false
false_unless true h = absurd (h refl)
false_unless false h = refl

-- ---- "offering a packet: 12, 13, 14, 15, 16, 17"
module _ (P : ChannelParts) (limited : Limited P) (k : Terms) (p : Packet) (time : ℕ) (st : Condition P) where
  pub offer_thirteen : (FixedHeader p.bytes → ⊥) → offer_at P k p time st ≡ refusal P 13 st
  offer_thirteen not = offer_not_ipv6 P k p time st (false_unless _ (λ e. not ((ipv6_exactly p.bytes).0 e)))

  module _ (header : FixedHeader p.bytes) where
    -- whatever time it is and whatever waits: 14 comes before 15 to 17
    pub offer_fourteen : TooLong k (length p.bytes) → offer_at P k p time st ≡ refusal P 14 st
    offer_fourteen l = offer_long P k p time st ((ipv6_exactly p.bytes).1 header) ((limited.long k _).1 l)

    module _ (short : length p.bytes ≤ k.longest) (room : length p.bytes ≤ k.size) where
      passes : length p.bytes ≤ P.longest k
      passes = both_short P limited k (length p.bytes) short room

      pub offer_fifteen : time < st.latest → offer_at P k p time st ≡ refusal P 15 st
      offer_fifteen t = offer_early P k p time st ((ipv6_exactly p.bytes).1 header) passes t

      module _ (t : st.latest ≤ time) where
        pub offer_sixteen : p.expiry ≤ time → offer_at P k p time st ≡ refusal P 16 st
        offer_sixteen x = offer_past P k p time st ((ipv6_exactly p.bytes).1 header) passes t x

        module _ (x : time < p.expiry) where
          pub offer_seventeen : NoPlace k.size (P.waiting (P.expire time st.keeping)) p → offer_at P k p time st ≡ refusal P 17 st
          offer_seventeen n = offer_full P k p time st ((ipv6_exactly p.bytes).1 header) passes t x (limited.full_then k _ p n)

          pub offer_joins : (NoPlace k.size (P.waiting (P.expire time st.keeping)) p → ⊥)
              → offer_at P k p time st ≡ left P taken st.counting (P.join p (P.expire time st.keeping)) time st
          offer_joins place =
              offer_taken P k p time st ((ipv6_exactly p.bytes).1 header) passes t x (false_unless _ (λ f. place (limited.full_only k _ p f)))

          -- where nothing waits after expiry, a packet that passes 13 to 16 is taken
          pub offer_where_none_waits : P.waiting (P.expire time st.keeping) ≡ [] → offer_at P k p time st ≡ left P taken st.counting (P.join p (P.expire time st.keeping)) time st
          offer_where_none_waits w = offer_joins (place_empty P limited k p time st w room)

-- ---- how long Next's message is: the header of 1 byte, Datalink Identifier and Channel Identifier of 4 each, and 3 before the packet; a Flow Sequence takes 8 more
pub size_free : (k : Terms) (packet : List ℕ) → length (message_bytes k None packet) ≡ 12 + length packet
unfolding message_bytes data_written data_options bytes option_bytes bytes_of
size_free k packet = simp length-append (omega arith)

pub size_under : (k : Terms) (s : FlowSequence) (packet : List ℕ) → length (message_bytes k (Some s) packet) ≡ 20 + length packet
unfolding message_bytes data_written data_options bytes option_bytes bytes_of
size_under k s packet = simp length-append (omega arith)

room_is : (size room : ℕ) → size ≤ room → size ≤ 65507 → no_room_of size room ≡ false
room_is size room h k = rw (le-ltb room size h, le-ltb 65507 size k)

-- number 18: "the output is shorter than it or it is over 65,507 bytes"
room_not : (size room : ℕ) → (room < size) ⊎ (65507 < size) → no_room_of size room ≡ true
room_not size room (inl h) = rw (lt-ltb room size h)
room_not size room (inr h) = rw (lt-ltb 65507 size h) (or-true (ltb room size))

-- ---- "Asking for the next: 12, 15, 18.", with an output of `room` bytes
module _ (P : ChannelParts) (k : Terms) (time room : ℕ) (st : Condition P) where
  pub next_fifteen : time < st.latest → next_at P k time room st ≡ refusal P 15 st
  next_fifteen = next_early P k time room st

  -- the packets stay that aren't due, and this is answered
  abbrev keeps : Tried → AfterCall P Tried
  keeps says = left P says st.counting (P.expire time st.keeping) time st

  module _ (t : st.latest ≤ time) where
    -- "tried in this order: nothing waiting, not operational, window shut"
    pub next_none_waits : P.waiting (P.expire time st.keeping) ≡ [] → next_at P k time room st ≡ keeps nothing_waiting
    next_none_waits = next_nothing P k time room st t

    module _ (p : Packet) (ps : List Packet) (w : P.waiting (P.expire time st.keeping) ≡ p ∷ ps) where
      pub next_down : (MaySend k.codes.0 st.status → ⊥) → next_at P k time room st ≡ keeps not_operational
      next_down not = next_not_operational P k time room st t p ps w (false_unless _ (λ e. not ((operational_exactly k.codes st.status).0 e)))

      module _ (up : MaySend k.codes.0 st.status) where
        -- the first packet goes, with this Flow Sequence or none, and this is counted
        abbrev goes : Option FlowSequence → P.Counting → AfterCall P Tried
        goes sequence counted = left P (sent p.bytes sequence) counted (P.send (P.expire time st.keeping)) time st

        module _ (sequence : Option FlowSequence) (counted : P.Counting) (size : ℕ) (fits : P.fits st.counting (record { 0 = length p.bytes }) ≡ true)
            (counts : grown P p.bytes st ≡ counted) (carries : P.carried counted ≡ sequence) (long : length (message_bytes k sequence p.bytes) ≡ size) where
          with_room : size ≤ room → size ≤ 65507 → next_at P k time room st ≡ goes sequence counted
          with_room h i =
              rw (← carries, ← counts)
              (next_sent P k time room st t p ps w ((operational_exactly k.codes st.status).1 up) fits (rw (counts, carries, long) (room_is size room h i)))

          without_room : (room < size) ⊎ (65507 < size) → next_at P k time room st ≡ refusal P 18 st
          without_room h =
              next_no_room P k time room st t p ps w ((operational_exactly k.codes st.status).1 up) fits (rw (counts, carries, long) (room_not size room h))

        -- free: any packet goes, if the output has 12 bytes more than it
        module _ (free : IsFree P st.counting) where
          pub next_free : 12 + length p.bytes ≤ room → 12 + length p.bytes ≤ 65507 → next_at P k time room st ≡ goes None st.counting
          next_free = with_room _ _ _ (free.goes _) (free.counted _) free.carried (size_free k p.bytes)

          pub next_free_eighteen : (room < 12 + length p.bytes) ⊎ (65507 < 12 + length p.bytes) → next_at P k time room st ≡ refusal P 18 st
          next_free_eighteen = without_room _ _ _ (free.goes _) (free.counted _) free.carried (size_free k p.bytes)

        -- no window: none goes
        pub next_no_window : IsShut P st.counting → next_at P k time room st ≡ keeps window_shut
        next_no_window none = next_shut P k time room st t p ps w ((operational_exactly k.codes st.status).1 up) (none.stays _)

        -- under a window: a packet goes exactly when it may, if the output has 20 bytes more than it
        module _ (May : Type 0) (counted : P.Counting) (word : ℕ) (under : IsUnder P st.counting (length p.bytes) May counted word) where
          pub next_under : May → 20 + length p.bytes ≤ room → 20 + length p.bytes ≤ 65507
              → next_at P k time room st ≡ goes (Some (record { 0 = word })) counted
          next_under may = with_room _ _ _ (under.goes.1 may) under.counted under.carried (size_under k (record { 0 = word }) p.bytes)

          pub next_under_eighteen : May → (room < 20 + length p.bytes) ⊎ (65507 < 20 + length p.bytes) → next_at P k time room st ≡ refusal P 18 st
          next_under_eighteen may = without_room _ _ _ (under.goes.1 may) under.counted under.carried (size_under k (record { 0 = word }) p.bytes)

          pub next_past : (May → ⊥) → next_at P k time room st ≡ keeps window_shut
          next_past not =
              next_shut P k time room st t p ps w ((operational_exactly k.codes st.status).1 up) (false_unless _ (λ e. not (under.goes.0 e)))
