-- What a step leaves, with less of the reason: the cases of `Offered` and `Asked`, and the other events, that a law of the ledger or of the count has to tell apart. Assumes
-- nothing.
use Rattle.std.specs.Prelude.{Option}
use Prim.Native.Nat.{ℕ, ◌≤◌, ◌<◌}
use mathlib.Core.Bool.{true, cond}
use mathlib.Core.List.{List, [], ◌∷◌, ◌++◌}
use mathlib.Core.Path.{◌≡◌, refl}
use lib.ListN.{length}
use Rattle.meaning.specs.declared.message.Window.{Window}
use Rattle.store.specs.Packets.{Packet}
use Rattle.ips_channel_rules.specs.Rules.{ChannelCall, offer, next, withdraw, Taken, taken, Tried, sent, emptied, refused, answered, Event, call, radio, Happened, called, heard, Terms, ChannelParts, Condition, AfterCall, left, grown, withdraw_at, radio_at, step, happens, final}
use Rattle.ips_channel_rules.specs.Account.{sent_by}
use Rattle.ips_channel_rules.specs.Exactly.{Offered, offered_not_ipv6, offered_long, offered_early, offered_past, offered_full, offered_taken, Asked, asked_early, asked_nothing, asked_not_operational, asked_shut, asked_no_room, asked_sent}
use Rattle.ips_channel_rules.proofs.Exact.{offered, asked}

module _ (P : ChannelParts) (k : Terms) where
  pub data Leaves : Event → Condition P → Happened → Condition P → Type 0 where
    -- a refusal "changes no state"
    stays : {c : ChannelCall} {st : Condition P} {number : ℕ} → Leaves (call c) st (called c (refused number)) st
    joins : {p : Packet} {time : ℕ} {st : Condition P} → st.latest ≤ time → time < p.expiry
        → Leaves (call (offer p time)) st (called (offer p time) (answered taken))
        (left P taken st.counting (P.join p (P.expire time st.keeping)) time st).condition
    -- nothing waiting, not operational or window shut: packets expire
    looks : {time : ℕ} {out : List ℕ} {st : Condition P} {says : Tried} → sent_by says ≡ [] → st.latest ≤ time
        → Leaves (call (next time out)) st (called (next time out) (answered says)) (left P says st.counting (P.expire time st.keeping) time st).condition
    sends : {time : ℕ} {out : List ℕ} {st : Condition P} {p : Packet} {ps : List Packet} → st.latest ≤ time → P.waiting (P.expire time st.keeping) ≡ p ∷ ps
        → P.fits st.counting (record { 0 = length p.bytes }) ≡ true
        → Leaves (call (next time out)) st (called (next time out) (answered (sent p.bytes (P.carried (grown P p.bytes st)))))
        (left P emptied (grown P p.bytes st) (P.send (P.expire time st.keeping)) time st).condition
    clears : {st : Condition P}
        → Leaves (call withdraw) st (called withdraw (answered emptied)) (left P emptied st.counting (P.clear st.keeping) st.latest st).condition
    hears : {status : Option ℕ} {window : Option Window} {st : Condition P}
        → Leaves (radio status window) st (heard status window)
        (record { counting = cond k.controlled (P.hear window st.counting) st.counting; keeping = st.keeping; status = status; latest = st.latest })

  by_offer : (p : Packet) (time : ℕ) (st : Condition P) (r : AfterCall P Taken) → Offered P k p time st r
      → Leaves (call (offer p time)) st (called (offer p time) r.answer) r.condition
  by_offer p time st _ (offered_not_ipv6 v) = stays
  by_offer p time st _ (offered_long v l) = stays
  by_offer p time st _ (offered_early v l t) = stays
  by_offer p time st _ (offered_past v l t x) = stays
  by_offer p time st _ (offered_full v l t x f) = stays
  by_offer p time st _ (offered_taken v l t x f) = joins t x

  by_next : (time : ℕ) (out : List ℕ) (st : Condition P) (r : AfterCall P Tried) → Asked P k time (length out) st r
      → Leaves (call (next time out)) st (called (next time out) r.answer) r.condition
  by_next time out st _ (asked_early t) = stays
  by_next time out st _ (asked_nothing t w) = looks refl t
  by_next time out st _ (asked_not_operational t w o) = looks refl t
  by_next time out st _ (asked_shut t w o f) = looks refl t
  by_next time out st _ (asked_no_room t w o f r) = stays
  by_next time out st _ (asked_sent t w o f r) = sends t w f

  -- every step leaves one of these
  pub leaves : (e : Event) (st : Condition P) → Leaves e st (happens P k e st) (step P k e st)
  unfolding withdraw_at radio_at
  leaves (call (offer p time)) st = by_offer p time st _ (offered P k p time st)
  leaves (call (next time out)) st = by_next time out st _ (asked P k time (length out) st)
  leaves (call withdraw) st = clears
  leaves (radio status window) st = hears

  -- some events and then others
  pub final_append : (es fs : List Event) (st : Condition P) → final P k (es ++ fs) st ≡ final P k fs (final P k es st)
  final_append [] fs st = refl
  final_append (e ∷ es) fs st = final_append es fs _

  -- what every step keeps, any sequence of events keeps
  pub kept : (I : Condition P → Type 0) → ((e : Event) (st : Condition P) → I st → I (step P k e st)) → (es : List Event) (st : Condition P) → I st → I (final P k es st)
  kept I law [] st h = h
  kept I law (e ∷ es) st h = kept I law es _ (law e st h)
