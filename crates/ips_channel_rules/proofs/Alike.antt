-- Two channels of alike parts answer alike, whatever is called. Assumes nothing.
use Rattle.std.specs.Prelude.{Option}
use Rattle.quantity.specs.declared.count.FlowSequence.{FlowSequence}
use Prim.Native.Nat.{ℕ}
use mathlib.Core.Bool.{Bool, true, false, cond, not}
use mathlib.Core.List.{List, [], ◌∷◌}
use mathlib.Core.Path.{◌≡◌, refl, ap, subst}
use lib.ListN.{length}
use lib.Dec.{leb, ltb}
use borrow.Author.Tests.{not-false}
use Rattle.quantity.specs.declared.count.ByteCount.{ByteCount}
use Rattle.meaning.specs.declared.message.Window.{Window}
use Rattle.meaning.specs.Statuses.{operational}
use Rattle.writer.specs.Written.{no_room_of}
use Rattle.store.specs.Packets.{Packet}
use Rattle.ipv6.specs.Ipv6.{is_ipv6}
use Rattle.ips_channel_rules.specs.Rules.{ChannelCall, offer, next, withdraw, sent, answered, Event, call, radio, called, Terms, ChannelParts, Condition, AfterCall, message_bytes, offer_at, try_first, next_at, withdraw_at, radio_at, call_at, step, happens, history, final}

-- a relation of how the two count and one of what they keep, which every part keeps up; what is counted is alike where it might go
pub record Alike (A B : ChannelParts) : Type 1 where
  pub Counts : A.Counting → B.Counting → Type 0
  pub Keeps : A.Keeping → B.Keeping → Type 0
  pub fits_same : (x : A.Counting) (y : B.Counting) → Counts x y → (n : ByteCount) → A.fits x n ≡ B.fits y n
  pub grow_on : (x : A.Counting) (y : B.Counting) → Counts x y → (n : ByteCount) → A.fits x n ≡ true → Counts (A.grow n x) (B.grow n y)
  pub carried_same : (x : A.Counting) (y : B.Counting) → Counts x y → A.carried x ≡ B.carried y
  pub hear_on : (x : A.Counting) (y : B.Counting) → Counts x y → (w : Option Window) → Counts (A.hear w x) (B.hear w y)
  pub waiting_same : (a : A.Keeping) (b : B.Keeping) → Keeps a b → A.waiting a ≡ B.waiting b
  pub expire_on : (a : A.Keeping) (b : B.Keeping) → Keeps a b → (time : ℕ) → Keeps (A.expire time a) (B.expire time b)
  pub join_on : (a : A.Keeping) (b : B.Keeping) → Keeps a b → (p : Packet) → Keeps (A.join p a) (B.join p b)
  pub send_on : (a : A.Keeping) (b : B.Keeping) → Keeps a b → Keeps (A.send a) (B.send b)
  pub clear_on : (a : A.Keeping) (b : B.Keeping) → Keeps a b → Keeps (A.clear a) (B.clear b)
  pub longest_same : (k : Terms) → A.longest k ≡ B.longest k
  pub full_same : (k : Terms) (a : A.Keeping) (b : B.Keeping) → Keeps a b → (p : Packet) → A.full k a p ≡ B.full k b p

module _ {A B : ChannelParts} (L : Alike A B) where
  -- the parts are related, status and latest time the same
  pub data Related : Condition A → Condition B → Type 0 where
    related : {x : A.Counting} {y : B.Counting} {a : A.Keeping} {b : B.Keeping} {status : Option ℕ} {latest : ℕ} → L.Counts x y → L.Keeps a b
        → Related (record { counting = x; keeping = a; status = status; latest = latest }) (record { counting = y; keeping = b; status = status; latest = latest })

  pub record Same {X : Type 0} (r : AfterCall A X) (q : AfterCall B X) : Type 0 where
    pub answer : r.answer ≡ q.answer
    pub condition : Related r.condition q.condition

  -- both go by one test
  cond_same : {X : Type 0} (t : Bool) {u v : AfterCall A X} {u' v' : AfterCall B X} → Same u u' → Same v v' → Same (cond t u v) (cond t u' v')
  cond_same true p q = p
  cond_same false p q = q

  -- each goes by its own test, and the two tests tell the same
  cond_alike : {X : Type 0} (t t' : Bool) → t ≡ t' → {u v : AfterCall A X} {u' v' : AfterCall B X} → Same u u' → (t ≡ false → Same v v') → Same (cond t u v) (cond t' u' v')
  cond_alike t t' e {u} {v} {u'} {v'} p q = subst (λ (k : Bool). Same (cond t u v) (cond k u' v')) e (by t q)
    where
      by : (k : Bool) → (k ≡ false → Same v v') → Same (cond k u v) (cond k u' v')
      by true f = p
      by false f = f refl

  module _ (k : Terms) where
    module _ (x : A.Counting) (y : B.Counting) (a : A.Keeping) (b : B.Keeping) (status : Option ℕ) (latest : ℕ) (m : L.Counts x y) (r : L.Keeps a b) where
      abbrev here : Condition A
      here = record { counting = x; keeping = a; status = status; latest = latest }

      abbrev there : Condition B
      there = record { counting = y; keeping = b; status = status; latest = latest }

      offer_same : (p : Packet) (time : ℕ) → Same (offer_at A k p time here) (offer_at B k p time there)
      unfolding offer_at
      offer_same p time =
          let stay = related m r in
          let gone = L.expire_on a b r time in
          cond_same (not (is_ipv6 p.bytes)) (record { answer = refl; condition = stay })
          (cond_alike _ _ (ap (λ (n : ℕ). ltb n (length p.bytes)) (L.longest_same k)) (record { answer = refl; condition = stay })
          (λ l. cond_same (ltb time latest) (record { answer = refl; condition = stay })
          (cond_same (leb p.expiry time) (record { answer = refl; condition = stay })
          (cond_alike _ _ (L.full_same k _ _ gone p) (record { answer = refl; condition = stay })
          (λ f. record { answer = refl; condition = related m (L.join_on _ _ gone p) })))))

      first_same : (time room : ℕ) (ps : List Packet) → Same (try_first A k ps time room here) (try_first B k ps time room there)
      unfolding try_first
      first_same time room [] = record { answer = refl; condition = related m (L.expire_on a b r time) }
      first_same time room (p ∷ ps) =
          let gone = L.expire_on a b r time in
          let n : ByteCount = record { 0 = length p.bytes } in
          cond_same (not (operational k.codes status)) (record { answer = refl; condition = related m gone })
          (cond_alike _ _ (ap not (L.fits_same x y m n)) (record { answer = refl; condition = related m gone })
          (λ f. let grown = L.grow_on x y m n (not-false _ f) in
          let c = L.carried_same _ _ grown in
          cond_alike _ _ (ap (λ (q : Option FlowSequence). no_room_of (length (message_bytes k q p.bytes)) room) c) (record { answer = refl; condition = related m r })
          (λ g. record { answer = ap (λ (q : Option FlowSequence). answered (sent p.bytes q)) c; condition = related grown (L.send_on _ _ gone) })))

      tried_same : (time room : ℕ)
          → Same (try_first A k (A.waiting (A.expire time a)) time room here) (try_first B k (B.waiting (B.expire time b)) time room there)
      tried_same time room = rw (L.waiting_same _ _ (L.expire_on a b r time)) (first_same time room _)

      next_same : (time room : ℕ) → Same (next_at A k time room here) (next_at B k time room there)
      unfolding next_at
      next_same time room = cond_same (ltb time latest) (record { answer = refl; condition = related m r }) (tried_same time room)

      heard_same : (controlled : Bool) (w : Option Window) → L.Counts (cond controlled (A.hear w x) x) (cond controlled (B.hear w y) y)
      heard_same true w = L.hear_on x y m w
      heard_same false w = m

    -- each call answers alike, and leaves conditions that are related
    pub call_same : (c : ChannelCall) (x : Condition A) (y : Condition B) → Related x y → Same (call_at A k c x) (call_at B k c y)
    unfolding withdraw_at
    call_same (offer p time) _ _ (related m r) = offer_same _ _ _ _ _ _ m r p time
    call_same (next time out) _ _ (related m r) = next_same _ _ _ _ _ _ m r time (length out)
    call_same withdraw _ _ (related m r) = record { answer = refl; condition = related m (L.clear_on _ _ r) }

    -- and so does each event
    pub step_same : (e : Event) (x : Condition A) (y : Condition B) → Related x y → Related (step A k e x) (step B k e y)
    unfolding radio_at
    step_same (call c) x y r = (call_same c x y r).condition
    step_same (radio status w) _ _ (related m r) = related (heard_same _ _ _ _ status 0 m r k.controlled w) r

    pub happens_same : (e : Event) (x : Condition A) (y : Condition B) → Related x y → happens A k e x ≡ happens B k e y
    happens_same (call c) x y r = ap (called c) (call_same c x y r).answer
    happens_same (radio status w) x y r = refl

    -- and so do any events, "refused ones among them"
    pub history_same : (es : List Event) (x : Condition A) (y : Condition B) → Related x y → history A k es x ≡ history B k es y
    history_same [] x y r = refl
    history_same (e ∷ es) x y r = cc (happens_same e x y r, history_same es _ _ (step_same e x y r))

    pub final_same : (es : List Event) (x : Condition A) (y : Condition B) → Related x y → Related (final A k es x) (final B k es y)
    final_same [] x y r = r
    final_same (e ∷ es) x y r = final_same es _ _ (step_same e x y r)
