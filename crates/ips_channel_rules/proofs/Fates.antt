-- Which call gives which fate, for any call; and "a fate once given stays": what any calls leave of the simple channel's ledger is a later one. Assumes nothing.
use Prim.Native.Nat.{ℕ}
use mathlib.Core.Bool.{Bool, true, false, not, ◌&&◌}
use mathlib.Core.List.{List, [], ◌∷◌, ◌++◌, map, append-nil}
use mathlib.Core.Path.{refl, subst}
use lib.ListN.{length}
use Rattle.store.specs.Packets.{Packet}
use Rattle.ips_channel_rules.specs.Rules.{ChannelCall, offer, next, withdraw, Taken, Tried, refused, answered, Event, call, radio, Happened, called, heard, Terms, Condition, AfterCall, withdraw_at, radio_at, step, happens, final}
use Rattle.ips_channel_rules.specs.Simple as simples
use Rattle.ips_channel_rules.specs.Simple.{Fate, waits, expired, withdrawn, Entry, is_waiting, become, due, send_first, simple}
use Rattle.ips_channel_rules.specs.Fates.{by_time, becomes, comes, Settled, behind, had, gets, goes, Settles}
use Rattle.ips_channel_rules.specs.Account.{Later, new, same, settled}
use Rattle.ips_channel_rules.proofs.Entries.{entry, by_entry, due_by_time}
use Rattle.ips_channel_rules.specs.Exactly.{Offered, offered_not_ipv6, offered_long, offered_early, offered_past, offered_full, offered_taken, Asked, asked_early, asked_nothing, asked_not_operational, asked_shut, asked_no_room, asked_sent}
use Rattle.ips_channel_rules.proofs.Exact.{offered, asked}

-- ---- one call

-- every packet that waits gets the fate that the call allows, and behind stands what comes
module _ (c : ChannelCall) (fate : Packet → Fate) (allowed : (p : Packet) → becomes c p.expiry (fate p)) where
  settled_join : (end : List Entry) → comes c end → (es : List Entry) (first : Bool) → Settled c first es (map (become fate) es ++ end)
  settled_join end l =
      by_entry (λ es. (first : Bool) → Settled c first es (map (become fate) es ++ end)) (λ first. behind l)
      (λ p es h first. gets (allowed p) (h (first && not (is_waiting (fate p))))) (λ p es h first. had refl (h first)) (λ p es h first. had refl (h first)) (λ p es h first. had refl (h first))

-- those due at the time are expired
settled_aged : (time : ℕ) (out : List ℕ) (es : List Entry) (first : Bool) → Settled (next time out) first es (map (become (due time)) es)
settled_aged time out es first = subst (Settled (next time out) first es) (append-nil _) (settled_join (next time out) (due time) (due_by_time time) [] refl es first)

-- the first that isn't due is sent
settled_send : (time : ℕ) (out : List ℕ) (es : List Entry) → Settled (next time out) true es (send_first (map (become (due time)) es))
settled_send time out =
    by_entry (λ es. Settled (next time out) true es (send_first (map (become (due time)) es))) (behind refl)
    (λ p es h. by p es h (due time p) (due_by_time time p)) (λ p es h. had refl h) (λ p es h. had refl h) (λ p es h. had refl h)
  where
    by : (p : Packet) (es : List Entry) → Settled (next time out) true es (send_first (map (become (due time)) es)) → (fate : Fate) → by_time time p.expiry fate
        → Settled (next time out) true (entry p waits ∷ es) (send_first (entry p fate ∷ map (become (due time)) es))
    by p es h waits l = goes l (settled_aged time out es false)
    by p es h expired l = gets l h
    by p es h simples.sent l = absurd l
    by p es h withdrawn l = absurd l

-- every packet that waits is withdrawn
settled_clear : (es : List Entry) (first : Bool) → Settled withdraw first es (simple.clear es)
settled_clear =
    by_entry (λ es. (first : Bool) → Settled withdraw first es (simple.clear es)) (λ first. behind refl)
    (λ p es h first. gets refl (h (first && true))) (λ p es h first. had refl (h first)) (λ p es h first. had refl (h first)) (λ p es h first. had refl (h first))

module _ (k : Terms) where
  settled_offer : (p : Packet) (time : ℕ) (st : Condition simple) (r : AfterCall simple Taken) → Offered simple k p time st r
      → Settles (called (offer p time) r.answer) st.keeping r.condition.keeping
  settled_offer p time st _ (offered_not_ipv6 v) = refl
  settled_offer p time st _ (offered_long v l) = refl
  settled_offer p time st _ (offered_early v l t) = refl
  settled_offer p time st _ (offered_past v l t x) = refl
  settled_offer p time st _ (offered_full v l t x f) = refl
  settled_offer p time st _ (offered_taken v l t x f) = settled_join (offer p time) (due time) (due_by_time time) (entry p waits ∷ []) (refl, x) st.keeping true

  settled_next : (time : ℕ) (out : List ℕ) (st : Condition simple) (r : AfterCall simple Tried) → Asked simple k time (length out) st r
      → Settles (called (next time out) r.answer) st.keeping r.condition.keeping
  settled_next time out st _ (asked_early t) = refl
  settled_next time out st _ (asked_nothing t w) = settled_aged time out st.keeping true
  settled_next time out st _ (asked_not_operational t w o) = settled_aged time out st.keeping true
  settled_next time out st _ (asked_shut t w o f) = settled_aged time out st.keeping true
  settled_next time out st _ (asked_no_room t w o f r) = refl
  settled_next time out st _ (asked_sent t w o f r) = settled_send time out st.keeping

  -- each event settles what it may settle, all that it must, and gives no other fate
  pub settled_by : (e : Event) (st : Condition simple) → Settles (happens simple k e st) st.keeping (step simple k e st).keeping
  unfolding withdraw_at radio_at
  settled_by (call (offer p time)) st = settled_offer p time st _ (offered simple k p time st)
  settled_by (call (next time out)) st = settled_next time out st _ (asked simple k time (length out) st)
  settled_by (call withdraw) st = settled_clear st.keeping true
  settled_by (radio status window) st = refl

-- ---- any calls

later_refl : (es : List Entry) → Later es es
later_refl [] = new
later_refl (e ∷ es) = same (later_refl es)

later_trans : {es fs gs : List Entry} → Later es fs → Later fs gs → Later es gs
later_trans new k = new
later_trans (same h) (same k) = same (later_trans h k)
later_trans (same h) (settled k) = settled (later_trans h k)
later_trans (settled h) (same k) = settled (later_trans h k)
later_trans (settled h) (settled k) = settled (later_trans h k)

later_settled : {c : ChannelCall} {first : Bool} {es fs : List Entry} → Settled c first es fs → Later es fs
later_settled (behind l) = new
later_settled (had n h) = same (later_settled h)
later_settled (gets b h) = settled (later_settled h)
later_settled (goes l h) = settled (later_settled h)

later_settles : (h : Happened) (es fs : List Entry) → Settles h es fs → Later es fs
later_settles (called c (refused number)) es fs s = rw s (later_refl es)
later_settles (called c (answered says)) es fs s = later_settled s
later_settles (heard status window) es fs s = rw s (later_refl es)

-- "at each moment, exactly one": whatever comes next, a packet that has its fate keeps it, and none leaves the ledger
pub fates_stay : (k : Terms) (es : List Event) (st : Condition simple) → Later st.keeping (final simple k es st).keeping
fates_stay k [] st = later_refl st.keeping
fates_stay k (e ∷ es) st = later_trans (later_settles (happens simple k e st) _ _ (settled_by k e st)) (fates_stay k es _)
