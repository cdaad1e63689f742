-- What the simple channel's ledger says after any calls. Assumes nothing.
use Prim.Native.Nat.{ℕ, ◌≤◌, ◌<◌}
use mathlib.Core.Bool.{false}
use mathlib.Core.List.{List, [], ◌∷◌, ◌++◌, map, append-nil, append_assoc, map-map, map-append}
use mathlib.Core.Path.{◌≡◌, refl, sym, ap, ◌∙◌}
use native.Mathlib.Omega.{arith}
use borrow.Author.Tests.{lt-ltb, le-ltb}
use Rattle.facts.proofs.Tests.{by_le}
use Rattle.store.specs.Packets.{Packet}
use Rattle.ips_channel_rules.specs.Rules.{Event, Happened, Terms, Condition, step, history, final}
use Rattle.ips_channel_rules.specs.Simple.{Fate, waits, sent, expired, withdrawn, Entry, is_waiting, is_sent, having, become, due, send_first, simple}
use Rattle.ips_channel_rules.specs.Fates.{by_time}
use Rattle.ips_channel_rules.specs.Account.{took_by, taken_in, handed_by, handed_over, fairly, Fair}
use Rattle.ips_channel_rules.proofs.Entries.{entry, by_entry, due_by_time}
use Rattle.ips_channel_rules.proofs.Leaves.{Leaves, stays, joins, looks, sends, clears, hears, leaves, kept}

abbrev packets : List Entry → List Packet
packets = map (λ (e : Entry). e.packet)

-- the ledger after those due at a time have expired
abbrev aged : ℕ → List Entry → List Entry
aged time es = map (become (due time)) es

abbrev sent_bytes : List Entry → List (List ℕ)
sent_bytes es = map (λ (p : Packet). p.bytes) (having is_sent es)

-- ---- the ledger has the packets taken in, in the order they came, and no others

packets_become : (new : Packet → Fate) (es : List Entry) → packets (map (become new) es) ≡ packets es
packets_become new es = map-map _ (become new) es

packets_send : (es : List Entry) → packets (send_first es) ≡ packets es
packets_send = by_entry (λ es. packets (send_first es) ≡ packets es) refl (λ p es h. refl) (λ p es h. rw h) (λ p es h. rw h) (λ p es h. rw h)

module _ (k : Terms) where
  packets_step : {e : Event} {st : Condition simple} {h : Happened} {st' : Condition simple} → Leaves simple k e st h st' → packets st'.keeping ≡ packets st.keeping ++ took_by h
  packets_step stays = sym (append-nil _)
  packets_step (joins {p} {time} {st} t x) = map-append _ (aged time st.keeping) _ ∙ ap (λ (l : List Packet). l ++ (p ∷ [])) (packets_become (due time) st.keeping)
  packets_step (looks {time} {st} n t) = packets_become (due time) st.keeping ∙ sym (append-nil _)
  packets_step (sends {time} {st} t w f) = packets_send (aged time st.keeping) ∙ packets_become (due time) st.keeping ∙ sym (append-nil _)
  packets_step (clears {st}) = packets_become (λ p. withdrawn) st.keeping ∙ sym (append-nil _)
  packets_step hears = sym (append-nil _)

  -- "Every packet taken in"
  pub ledger_is_taken : (es : List Event) (st : Condition simple)
      → map (λ (e : Entry). e.packet) (final simple k es st).keeping ≡ map (λ (e : Entry). e.packet) st.keeping ++ taken_in (history simple k es st)
  ledger_is_taken [] st = sym (append-nil _)
  ledger_is_taken (e ∷ es) st =
      let after = step simple k e st in
      ledger_is_taken es after ∙ ap (λ (l : List Packet). l ++ taken_in (history simple k es after)) (packets_step (leaves simple k e st)) ∙ append_assoc (packets st.keeping) _ _

-- ---- those the ledger has as sent are the packets handed over, each once, in the order they came

-- a packet that waits gets another fate than being sent
abbrev Unsent : (Packet → Fate) → Type 0
Unsent new = (p : Packet) → is_sent (new p) ≡ false

sent_become : (new : Packet → Fate) → Unsent new → (es : List Entry) → having is_sent (map (become new) es) ≡ having is_sent es
sent_become new u =
    by_entry (λ es. having is_sent (map (become new) es) ≡ having is_sent es) refl (λ p es h. rw (u p) h) (λ p es h. rw h) (λ p es h. h) (λ p es h. h)

sent_join : (p : Packet) (es : List Entry) → having is_sent (es ++ (entry p waits ∷ [])) ≡ having is_sent es
sent_join p = by_entry (λ es. having is_sent (es ++ (entry p waits ∷ [])) ≡ having is_sent es) refl (λ q es h. h) (λ q es h. rw h) (λ q es h. h) (λ q es h. h)

-- nothing was sent behind a packet that waits
abbrev pub ordered_by : Fate → List Entry → Type 0 → Type 0
ordered_by waits es rest = having is_sent es ≡ []
ordered_by sent es rest = rest
ordered_by expired es rest = rest
ordered_by withdrawn es rest = rest

abbrev pub Ordered : List Entry → Type 0
Ordered [] = Unit {0}
Ordered (e ∷ es) = ordered_by e.fate es (Ordered es)

ordered_none : (es : List Entry) → having is_sent es ≡ [] → Ordered es
ordered_none =
    by_entry (λ es. having is_sent es ≡ [] → Ordered es) (λ n. tt) (λ p es h n. n) (λ p es h n. let z : ◌≡◌ {A = ℕ} 0 1 = cc in absurd (omega arith)) (λ p es h n. h n) (λ p es h n. h n)

ordered_become : (new : Packet → Fate) → Unsent new → (es : List Entry) → Ordered es → Ordered (map (become new) es)
ordered_become new u =
    by_entry (λ es. Ordered es → Ordered (map (become new) es)) (λ o. o) (λ p es h o. by (new p) (map (become new) es) (u p) (sent_become new u es ∙ o)) (λ p es h o. h o) (λ p es h o. h o) (λ p es h o. h o)
  where
    by : (fate : Fate) (es : List Entry) → is_sent fate ≡ false → having is_sent es ≡ [] → ordered_by fate es (Ordered es)
    by waits es v n = n
    by sent es v n = ordered_none es n
    by expired es v n = ordered_none es n
    by withdrawn es v n = ordered_none es n

ordered_join : (p : Packet) (es : List Entry) → Ordered es → Ordered (es ++ (entry p waits ∷ []))
ordered_join p =
    by_entry (λ es. Ordered es → Ordered (es ++ (entry p waits ∷ []))) (λ o. refl) (λ q es h o. sent_join p es ∙ o) (λ q es h o. h o) (λ q es h o. h o) (λ q es h o. h o)

ordered_send : (es : List Entry) → Ordered es → Ordered (send_first es)
ordered_send = by_entry (λ es. Ordered es → Ordered (send_first es)) (λ o. o) (λ p es h o. ordered_none es o) (λ p es h o. h o) (λ p es h o. h o) (λ p es h o. h o)

sent_send : (p : Packet) (ps : List Packet) (es : List Entry) → Ordered es → having is_waiting es ≡ p ∷ ps → having is_sent (send_first es) ≡ having is_sent es ++ (p ∷ [])
sent_send p ps =
    by_entry (λ es. Ordered es → having is_waiting es ≡ p ∷ ps → having is_sent (send_first es) ≡ having is_sent es ++ (p ∷ []))
    (λ o w. let z : ◌≡◌ {A = ℕ} 0 1 = cc in absurd (omega arith)) (λ q es h o w. cc) (λ q es h o w. rw (h o w)) (λ q es h o w. h o w) (λ q es h o w. h o w)

due_unsent : (time : ℕ) → Unsent (due time)
due_unsent time p = by_le p.expiry time (λ l. rw (le-ltb time p.expiry l)) (λ l. rw (lt-ltb time p.expiry l))

sent_aged : (time : ℕ) (es : List Entry) → having is_sent (aged time es) ≡ having is_sent es
sent_aged time = sent_become (due time) (due_unsent time)

ordered_aged : (time : ℕ) (es : List Entry) → Ordered es → Ordered (aged time es)
ordered_aged time = ordered_become (due time) (due_unsent time)

module _ (k : Terms) where
  ordered_step : {e : Event} {st : Condition simple} {h : Happened} {st' : Condition simple} → Leaves simple k e st h st' → Ordered st.keeping → Ordered st'.keeping
  ordered_step stays o = o
  ordered_step (joins {p} {time} {st} t x) o = ordered_join p (aged time st.keeping) (ordered_aged time st.keeping o)
  ordered_step (looks {time} {st} n t) o = ordered_aged time st.keeping o
  ordered_step (sends {time} {st} t w f) o = ordered_send (aged time st.keeping) (ordered_aged time st.keeping o)
  ordered_step (clears {st}) o = ordered_become (λ p. withdrawn) (λ p. refl) st.keeping o
  ordered_step hears o = o

  -- it stays so, whatever is called: `ledger_is_sent` can be said from any moment on
  pub ordered_always : (es : List Event) (st : Condition simple) → Ordered st.keeping → Ordered (final simple k es st).keeping
  ordered_always = kept simple k (λ st. Ordered st.keeping) (λ e st. ordered_step (leaves simple k e st))

  sent_step : {e : Event} {st : Condition simple} {h : Happened} {st' : Condition simple} → Leaves simple k e st h st' → Ordered st.keeping
      → sent_bytes st'.keeping ≡ sent_bytes st.keeping ++ handed_by h
  sent_step stays o = sym (append-nil _)
  sent_step (joins {p} {time} {st} t x) o = rw (sent_join p (aged time st.keeping), sent_aged time st.keeping) (sym (append-nil _))
  sent_step (looks {time} {st} n t) o = rw (n, sent_aged time st.keeping) (sym (append-nil _))
  sent_step (sends {time} {st} {p} {ps} t w f) o =
      rw (sent_send p ps (aged time st.keeping) (ordered_aged time st.keeping o) w, sent_aged time st.keeping)
      (map-append _ (having is_sent st.keeping) (p ∷ []))
  sent_step (clears {st}) o = rw (sent_become (λ p. withdrawn) (λ p. refl) st.keeping) (sym (append-nil _))
  sent_step hears o = sym (append-nil _)

  -- "those sent on a channel leave in the order they came"
  pub ledger_is_sent : (es : List Event) (st : Condition simple) → Ordered st.keeping
      → map (λ (p : Packet). p.bytes) (having is_sent (final simple k es st).keeping) ≡ map (λ (p : Packet). p.bytes) (having is_sent st.keeping) ++ handed_over (history simple k es st)
  ledger_is_sent [] st o = sym (append-nil _)
  ledger_is_sent (e ∷ es) st o =
      let after = step simple k e st in
      let l = leaves simple k e st in
      ledger_is_sent es after (ordered_step l o) ∙ ap (λ (l : List (List ℕ)). l ++ handed_over (history simple k es after)) (sent_step l o) ∙ append_assoc (sent_bytes st.keeping) _ _

-- ---- time: what waits is not due at the channel's latest time, what expired was

fair_become : (new : Packet → Fate) (t time : ℕ) → t ≤ time → ((p : Packet) → fairly time p.expiry (new p)) → (es : List Entry) → Fair t es → Fair time (map (become new) es)
fair_become new t time l n =
    by_entry (λ es. Fair t es → Fair time (map (become new) es)) (λ f. tt) (λ p es h f. (n p, h f.1)) (λ p es h f. (tt, h f.1))
    (λ p es h f. (omega arith, h f.1)) (λ p es h f. (tt, h f.1))

due_fair : (time : ℕ) (p : Packet) → fairly time p.expiry (due time p)
due_fair time p = by (due time p) (due_by_time time p)
  where
    by : (fate : Fate) → by_time time p.expiry fate → fairly time p.expiry fate
    by waits l = l
    by expired l = l
    by sent l = tt
    by withdrawn l = tt

fair_aged : (time : ℕ) (st : Condition simple) → st.latest ≤ time → Fair st.latest st.keeping → Fair time (aged time st.keeping)
fair_aged time st t = fair_become (due time) st.latest time t (due_fair time) st.keeping

fair_join : (time : ℕ) (p : Packet) → time < p.expiry → (es : List Entry) → Fair time es → Fair time (es ++ (entry p waits ∷ []))
fair_join time p x [] f = (x, tt)
fair_join time p x (e ∷ es) f = (f.0, fair_join time p x es f.1)

fair_send : (time : ℕ) (es : List Entry) → Fair time es → Fair time (send_first es)
fair_send time =
    by_entry (λ es. Fair time es → Fair time (send_first es)) (λ f. tt) (λ p es h f. (tt, f.1)) (λ p es h f. (tt, h f.1)) (λ p es h f. (f.0, h f.1)) (λ p es h f. (tt, h f.1))

module _ (k : Terms) where
  fair_step : {e : Event} {st : Condition simple} {h : Happened} {st' : Condition simple} → Leaves simple k e st h st' → Fair st.latest st.keeping → Fair st'.latest st'.keeping
  fair_step stays f = f
  fair_step (joins {p} {time} {st} t x) f = fair_join time p x (aged time st.keeping) (fair_aged time st t f)
  fair_step (looks {time} {st} n t) f = fair_aged time st t f
  fair_step (sends {time} {st} t w g) f = fair_send time (aged time st.keeping) (fair_aged time st t f)
  fair_step (clears {st}) f = fair_become (λ p. withdrawn) st.latest st.latest (omega arith) (λ p. tt) st.keeping f
  fair_step hears f = f

  -- "every packet of that channel whose expiry is at or before the time given is expired", and no other
  pub fair_always : (es : List Event) (st : Condition simple) → Fair st.latest st.keeping → Fair (final simple k es st).latest (final simple k es st).keeping
  fair_always = kept simple k (λ st. Fair st.latest st.keeping) (λ e st. fair_step (leaves simple k e st))
