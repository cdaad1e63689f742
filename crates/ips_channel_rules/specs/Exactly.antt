-- Numbers 13 to 18 are "given exactly when" their row says so, and "the answers otherwise, tried in this order": every result of a call on a channel, with all
-- that held when it came.
use Rattle.std.specs.Prelude.{ℕ, ◌≤◌, ◌<◌, true, false, List, [], ◌∷◌, ◌≡◌, length}
use Rattle.quantity.specs.Refusals.{NOT-IPV6, LONG-PACKET, EARLIER-TIME, EXPIRY-PAST, FULL, NO-ROOM}
use Rattle.meaning.specs.Statuses.{operational}
use Rattle.writer.specs.Written.{no_room_of}
use Rattle.store.specs.Packets.{Packet}
use Rattle.ipv6.specs.Ipv6.{is_ipv6}
use Rattle.ips_channel_rules.specs.Rules.{ChannelCall, offer, next, withdraw, Says, Taken, taken, Tried, nothing_waiting, not_operational, window_shut, sent, emptied, Terms, ChannelParts, Condition, AfterCall, message_bytes, refusal, left, grown}

module _ (P : ChannelParts) (k : Terms) where
  -- "offering a packet: 12, 13, 14, 15, 16, 17"
  pub data Offered (p : Packet) (time : ℕ) (st : Condition P) : AfterCall P Taken → Type 0 where
    offered_not_ipv6 : is_ipv6 p.bytes ≡ false → Offered p time st (refusal P NOT-IPV6 st)
    offered_long : is_ipv6 p.bytes ≡ true → P.longest k < length p.bytes → Offered p time st (refusal P LONG-PACKET st)
    offered_early : is_ipv6 p.bytes ≡ true → length p.bytes ≤ P.longest k → time < st.latest → Offered p time st (refusal P EARLIER-TIME st)
    offered_past : is_ipv6 p.bytes ≡ true → length p.bytes ≤ P.longest k → st.latest ≤ time → p.expiry ≤ time → Offered p time st (refusal P EXPIRY-PAST st)
    offered_full : is_ipv6 p.bytes ≡ true → length p.bytes ≤ P.longest k → st.latest ≤ time → time < p.expiry
        → P.full k (P.expire time st.keeping) p ≡ true → Offered p time st (refusal P FULL st)
    offered_taken : is_ipv6 p.bytes ≡ true → length p.bytes ≤ P.longest k → st.latest ≤ time → time < p.expiry
        → P.full k (P.expire time st.keeping) p ≡ false
        → Offered p time st (left P taken st.counting (P.join p (P.expire time st.keeping)) time st)

  -- "Asking for the next: 12, 15, 18."
  pub data Asked (time room : ℕ) (st : Condition P) : AfterCall P Tried → Type 0 where
    asked_early : time < st.latest → Asked time room st (refusal P EARLIER-TIME st)
    asked_nothing : st.latest ≤ time → P.waiting (P.expire time st.keeping) ≡ []
        → Asked time room st (left P nothing_waiting st.counting (P.expire time st.keeping) time st)
    asked_not_operational : {p : Packet} {ps : List Packet} → st.latest ≤ time → P.waiting (P.expire time st.keeping) ≡ p ∷ ps → operational k.codes st.status ≡ false
        → Asked time room st (left P not_operational st.counting (P.expire time st.keeping) time st)
    asked_shut : {p : Packet} {ps : List Packet} → st.latest ≤ time → P.waiting (P.expire time st.keeping) ≡ p ∷ ps → operational k.codes st.status ≡ true
        → P.fits st.counting (record { 0 = length p.bytes }) ≡ false
        → Asked time room st (left P window_shut st.counting (P.expire time st.keeping) time st)
    asked_no_room : {p : Packet} {ps : List Packet} → st.latest ≤ time → P.waiting (P.expire time st.keeping) ≡ p ∷ ps → operational k.codes st.status ≡ true
        → P.fits st.counting (record { 0 = length p.bytes }) ≡ true
        → no_room_of (length (message_bytes k (P.carried (grown P p.bytes st)) p.bytes)) room ≡ true → Asked time room st (refusal P NO-ROOM st)
    asked_sent : {p : Packet} {ps : List Packet} → st.latest ≤ time → P.waiting (P.expire time st.keeping) ≡ p ∷ ps → operational k.codes st.status ≡ true
        → P.fits st.counting (record { 0 = length p.bytes }) ≡ true
        → no_room_of (length (message_bytes k (P.carried (grown P p.bytes st)) p.bytes)) room ≡ false
        → Asked time room st (left P (sent p.bytes (P.carried (grown P p.bytes st))) (grown P p.bytes st) (P.send (P.expire time st.keeping)) time st)

  -- Withdraw is never refused: "all packets waiting on the channel are withdrawn"
  abbrev pub Exactly : (c : ChannelCall) → Condition P → AfterCall P (Says c) → Type 0
  Exactly (offer packet time) st result = Offered packet time st result
  Exactly (next time out) st result = Asked time (length out) st result
  Exactly withdraw st result = result ≡ left P emptied st.counting (P.clear st.keeping) st.latest st
