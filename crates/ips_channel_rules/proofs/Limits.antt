-- Numbers 14 and 17 in plain facts, for the code's parts and for the simple ones. Assumes nothing.
use Prim.Native.Nat.{ℕ, ◌+◌, ◌≤◌, ◌<◌}
use mathlib.Core.Bool.{true, cond, or-true}
use mathlib.Core.List.{List, [], ◌∷◌}
use mathlib.Core.Logic.{◌↔◌, ◌⊎◌, inl, inr}
use mathlib.Core.Path.{◌≡◌, refl}
use native.Mathlib.Omega.{arith}
use lib.ListN.{length, length-append}
use lib.Dec.{leb}
use borrow.Author.Tests.{ltb-true, le-leb, lt-leb, lt-ltb}
use Rattle.facts.proofs.Tests.{by_le}
use Rattle.store.specs.Packets.{Packet, joined, is_full}
use Rattle.ips_channel_rules.specs.Rules.{offer, Taken, refused, Terms, ChannelParts, Condition, AfterCall, call_at}
use Rattle.ips_channel_rules.specs.Machine.{machine}
use Rattle.ips_channel_rules.specs.Simple.{simple, is_waiting, having}
use Rattle.ips_channel_rules.specs.Limits.{waiting_bytes, NoPlace, TooLong, Limited}
use Rattle.ips_channel_rules.specs.Exactly.{Offered, offered_not_ipv6, offered_long, offered_early, offered_past, offered_full, offered_taken}
use Rattle.ips_channel_rules.proofs.Exact.{offered}

joined_bytes : (ps : List Packet) → length (joined ps) ≡ waiting_bytes ps
unfolding joined
joined_bytes [] = refl
joined_bytes (p ∷ ps) = rw (length-append, joined_bytes ps)

module _ (size : ℕ) (ps : List Packet) (p : Packet) where
  full_then : NoPlace size ps p → is_full size ps p ≡ true
  unfolding is_full
  full_then (inl n) = rw (le-leb 32 (length ps) n)
  full_then (inr b) = rw (joined_bytes ps, lt-ltb size (waiting_bytes ps + length p.bytes) b) (or-true (leb 32 (length ps)))

  full_only : is_full size ps p ≡ true → NoPlace size ps p
  unfolding is_full
  full_only f = by_le 32 (length ps) (λ n. inl n) (λ n. inr (ltb-true _ _ (rw (lt-leb 32 (length ps) n, joined_bytes ps) at f)))

-- the smaller of two is passed exactly where one of them is
over_smaller : (a b n : ℕ) → (cond (leb a b) a b < n) ↔ ((a < n) ⊎ (b < n))
over_smaller a b n = by_le a b (λ le. rw (le-leb a b le) (below a b le)) (λ lt. rw (lt-leb a b lt) (above a b lt))
  where
    below : (a b : ℕ) → a ≤ b → (a < n) ↔ ((a < n) ⊎ (b < n))
    below a b le = (λ h. inl h, λ o. either o)
      where
        either : (a < n) ⊎ (b < n) → a < n
        either (inl h) = h
        either (inr h) = omega arith

    above : (a b : ℕ) → b < a → (b < n) ↔ ((a < n) ⊎ (b < n))
    above a b lt = (λ h. inr h, λ o. either o)
      where
        either : (a < n) ⊎ (b < n) → b < n
        either (inl h) = omega arith
        either (inr h) = h

pub machine_limited : Limited machine
machine_limited = record { long = λ k n. over_smaller k.longest k.size n; full_then = λ k ps p. full_then k.size ps p; full_only = λ k ps p. full_only k.size ps p }

pub simple_limited : Limited simple
simple_limited = record {
  long = λ k n. over_smaller k.longest k.size n;
  full_then = λ k es p. full_then k.size (having is_waiting es) p;
  full_only = λ k es p. full_only k.size (having is_waiting es) p;
}

-- 14 is not given: no longer than the longest packet, and no longer than the store
module _ (P : ChannelParts) (limited : Limited P) (k : Terms) (n : ℕ) where
  pub short_both : n ≤ P.longest k → (n ≤ k.longest) × (n ≤ k.size)
  short_both l = (by_le n k.longest (λ le. le) (λ over. passed (inl over)), by_le n k.size (λ le. le) (λ over. passed (inr over)))
    where
      passed : {A : Type 0} → TooLong k n → A
      passed long = let over = (limited.long k n).1 long in absurd (omega (arith, over, l))

  pub both_short : n ≤ k.longest → n ≤ k.size → n ≤ P.longest k
  both_short short room = by_le n (P.longest k) (λ le. le) (λ over. absurd (passed ((limited.long k n).0 over)))
    where
      passed : TooLong k n → ⊥
      passed (inl l) = absurd (omega arith)
      passed (inr l) = absurd (omega arith)

module _ (P : ChannelParts) (limited : Limited P) (k : Terms) (p : Packet) (time : ℕ) (st : Condition P) where
  -- what 17 tells: no longer than the longest, and no place
  full_when : (r : AfterCall P Taken) → Offered P k p time st r → r.answer ≡ refused 17 → (length p.bytes ≤ P.longest k) × (P.full k (P.expire time st.keeping) p ≡ true)
  full_when _ (offered_not_ipv6 v) e = let is : ◌≡◌ {A = ℕ} 13 17 = cc in absurd (omega arith)
  full_when _ (offered_long v l) e = let is : ◌≡◌ {A = ℕ} 14 17 = cc in absurd (omega arith)
  full_when _ (offered_early v l t) e = let is : ◌≡◌ {A = ℕ} 15 17 = cc in absurd (omega arith)
  full_when _ (offered_past v l t x) e = let is : ◌≡◌ {A = ℕ} 16 17 = cc in absurd (omega arith)
  full_when _ (offered_full v l t x f) e = (l, f)
  full_when _ (offered_taken v l t x f) e = let is : ◌≡◌ {A = ℕ} 0 1 = cc in absurd (omega arith)

  -- where nothing waits there is place for a packet no longer than the store
  pub place_empty : P.waiting (P.expire time st.keeping) ≡ [] → length p.bytes ≤ k.size → NoPlace k.size (P.waiting (P.expire time st.keeping)) p → ⊥
  place_empty w fits n = by (rw w at n)
    where
      by : NoPlace k.size [] p → ⊥
      by (inl l) = absurd (omega arith)
      by (inr l) = absurd (omega arith)

  -- "Room of a departed packet is used again.": where nothing waits after expiry, 17 is never given
  pub empty_never_full : P.waiting (P.expire time st.keeping) ≡ [] → (call_at P k (offer p time) st).answer ≡ refused 17 → ⊥
  empty_never_full w e = let h = full_when _ (offered P k p time st) e in place_empty w (short_both P limited k _ h.0).1 (limited.full_only k _ p h.1)
