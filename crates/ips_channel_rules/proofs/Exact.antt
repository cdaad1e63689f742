-- Each answer is given exactly when the paper says so, for any parts that a channel is made of: given the conditions, in the order of the tests, the whole result;
-- and the other way, `exactly`: given a result, the conditions. Assumes nothing.
use Rattle.std.specs.Prelude.{Option}
use Prim.Native.Nat.{ℕ, ◌≤◌, ◌<◌}
use mathlib.Core.Bool.{Bool, true, false, cond}
use mathlib.Core.List.{List, [], ◌∷◌}
use mathlib.Core.Path.{◌≡◌, refl}
use lib.ListN.{length}
use borrow.Author.Tests.{ltb-true, ltb-false, leb-true, leb-false, not-true, not-false, lt-ltb, le-ltb, le-leb, lt-leb}
use Rattle.quantity.specs.Refusals.{NOT-IPV6, LONG-PACKET, EARLIER-TIME, EXPIRY-PAST, FULL, NO-ROOM}
use Rattle.meaning.specs.declared.message.Window.{Window}
use Rattle.meaning.specs.Statuses.{operational}
use Rattle.writer.specs.Written.{no_room_of}
use Rattle.store.specs.Packets.{Packet}
use Rattle.ipv6.specs.Ipv6.{is_ipv6}
use Rattle.ips_channel_rules.specs.Rules.{ChannelCall, offer, next, withdraw, Taken, taken, Tried, nothing_waiting, not_operational, window_shut, sent, emptied, Terms, ChannelParts, Condition, AfterCall, message_bytes, refusal, left, grown, offer_at, try_first, next_at, withdraw_at, radio_at, call_at}
use Rattle.ips_channel_rules.specs.Exactly.{Offered, offered_not_ipv6, offered_long, offered_early, offered_past, offered_full, offered_taken, Asked, asked_early, asked_nothing, asked_not_operational, asked_shut, asked_no_room, asked_sent, Exactly}

module _ (P : ChannelParts) (k : Terms) where
  -- ---- given the conditions, the result

  -- "offering a packet: 12, 13, 14, 15, 16, 17"
  module _ (p : Packet) (time : ℕ) (st : Condition P) where
    -- "13: packet isn't IPv6"
    pub offer_not_ipv6 : is_ipv6 p.bytes ≡ false → offer_at P k p time st ≡ refusal P NOT-IPV6 st
    unfolding offer_at
    offer_not_ipv6 v = simp v

    module _ (v : is_ipv6 p.bytes ≡ true) where
      -- "14 is given above the smaller of 9,000 and the store's length"
      pub offer_long : P.longest k < length p.bytes → offer_at P k p time st ≡ refusal P LONG-PACKET st
      unfolding offer_at
      offer_long l = simp (v, lt-ltb (P.longest k) (length p.bytes) l)

      module _ (l : length p.bytes ≤ P.longest k) where
        -- "15: time before this channel's latest"
        pub offer_early : time < st.latest → offer_at P k p time st ≡ refusal P EARLIER-TIME st
        unfolding offer_at
        offer_early t = simp (v, le-ltb (P.longest k) (length p.bytes) l, lt-ltb time st.latest t)

        module _ (t : st.latest ≤ time) where
          -- "16: expiry not after the time given"
          pub offer_past : p.expiry ≤ time → offer_at P k p time st ≡ refusal P EXPIRY-PAST st
          unfolding offer_at
          offer_past x = simp (v, le-ltb (P.longest k) (length p.bytes) l, le-ltb time st.latest t, le-leb p.expiry time x)

          module _ (x : time < p.expiry) where
            -- "17: 32 packets wait, or waiting bytes plus this packet exceed the store", judged after expiry; "if given, nothing has expired"
            pub offer_full : P.full k (P.expire time st.keeping) p ≡ true → offer_at P k p time st ≡ refusal P FULL st
            unfolding offer_at
            offer_full f = simp (v, le-ltb (P.longest k) (length p.bytes) l, le-ltb time st.latest t, lt-leb p.expiry time x, f)

            -- "Offer: a packet with an expiry time joins the end of its queue."
            pub offer_taken : P.full k (P.expire time st.keeping) p ≡ false
                → offer_at P k p time st ≡ left P taken st.counting (P.join p (P.expire time st.keeping)) time st
            unfolding offer_at
            offer_taken f = simp (v, le-ltb (P.longest k) (length p.bytes) l, le-ltb time st.latest t, lt-leb p.expiry time x, f)

  -- "Asking for the next: 12, 15, 18."
  module _ (time room : ℕ) (st : Condition P) where
    -- "15: time before this channel's latest"
    pub next_early : time < st.latest → next_at P k time room st ≡ refusal P EARLIER-TIME st
    unfolding next_at
    next_early t = simp (lt-ltb time st.latest t)

    module _ (t : st.latest ≤ time) where
      -- "tried in this order: nothing waiting, .."
      pub next_nothing : P.waiting (P.expire time st.keeping) ≡ []
          → next_at P k time room st ≡ left P nothing_waiting st.counting (P.expire time st.keeping) time st
      unfolding next_at try_first
      next_nothing w = simp (le-ltb time st.latest t, w)

      module _ (p : Packet) (ps : List Packet) (w : P.waiting (P.expire time st.keeping) ≡ p ∷ ps) where
        -- ".. not operational, .."
        pub next_not_operational : operational k.codes st.status ≡ false
            → next_at P k time room st ≡ left P not_operational st.counting (P.expire time st.keeping) time st
        unfolding next_at try_first
        next_not_operational o = simp (le-ltb time st.latest t, w, o)

        module _ (o : operational k.codes st.status ≡ true) where
          -- ".. window shut."
          pub next_shut : P.fits st.counting (record { 0 = length p.bytes }) ≡ false
              → next_at P k time room st ≡ left P window_shut st.counting (P.expire time st.keeping) time st
          unfolding next_at try_first
          next_shut f = simp (le-ltb time st.latest t, w, o, f)

          module _ (f : P.fits st.counting (record { 0 = length p.bytes }) ≡ true) where
            -- "18: there is a message to write, and the output is shorter than it or it is over 65,507 bytes"; "if given, nothing has expired"
            pub next_no_room : no_room_of (length (message_bytes k (P.carried (grown P p.bytes st)) p.bytes)) room ≡ true
                → next_at P k time room st ≡ refusal P NO-ROOM st
            unfolding next_at try_first
            next_no_room r = simp (le-ltb time st.latest t, w, o, f, r)

            -- "Next: a data message with the first waiting packet, if the status is 1 to 7 and the channel is free or the packet fits the window."
            pub next_sent : no_room_of (length (message_bytes k (P.carried (grown P p.bytes st)) p.bytes)) room ≡ false
                → next_at P k time room st
                ≡ left P (sent p.bytes (P.carried (grown P p.bytes st))) (grown P p.bytes st) (P.send (P.expire time st.keeping)) time st
            unfolding next_at try_first
            next_sent r = simp (le-ltb time st.latest t, w, o, f, r)

  -- "Withdraw: all packets waiting on the channel are withdrawn."
  pub withdraw_is : (st : Condition P) → withdraw_at P k st ≡ left P emptied st.counting (P.clear st.keeping) st.latest st
  unfolding withdraw_at
  withdraw_is st = refl

  -- "a configured channel that it names takes its Status; one that it doesn't name is not reported"
  pub radio_is : (status : Option ℕ) (window : Option Window) (st : Condition P)
      → radio_at P k status window st
      ≡ record { counting = cond k.controlled (P.hear window st.counting) st.counting; keeping = st.keeping; status = status; latest = st.latest }
  unfolding radio_at
  radio_is status window st = refl

  -- ---- given a result, the conditions

  module _ (p : Packet) (time : ℕ) (st : Condition P) where
    -- a test, with what it tells in each case
    offered_by : (t : Bool) {u v : AfterCall P Taken} → (t ≡ true → Offered P k p time st u) → (t ≡ false → Offered P k p time st v) → Offered P k p time st (cond t u v)
    offered_by true f g = f refl
    offered_by false f g = g refl

    pub offered : Offered P k p time st (offer_at P k p time st)
    unfolding offer_at
    offered =
        offered_by _ (λ v. offered_not_ipv6 (not-true _ v)) (λ v.
        offered_by _ (λ l. offered_long (not-false _ v) (ltb-true _ _ l)) (λ l.
        offered_by _ (λ t. offered_early (not-false _ v) (ltb-false _ _ l) (ltb-true _ _ t)) (λ t.
        offered_by _ (λ x. offered_past (not-false _ v) (ltb-false _ _ l) (ltb-false _ _ t) (leb-true _ _ x)) (λ x.
        offered_by _ (λ f. offered_full (not-false _ v) (ltb-false _ _ l) (ltb-false _ _ t) (leb-false _ _ x) f)
        (λ f. offered_taken (not-false _ v) (ltb-false _ _ l) (ltb-false _ _ t) (leb-false _ _ x) f)))))

  module _ (time room : ℕ) (st : Condition P) where
    asked_by_lem : (t : Bool) {u v : AfterCall P Tried} → (t ≡ true → Asked P k time room st u) → (t ≡ false → Asked P k time room st v) → Asked P k time room st (cond t u v)
    asked_by_lem true f g = f refl
    asked_by_lem false f g = g refl

    tried : st.latest ≤ time → (ps : List Packet) → P.waiting (P.expire time st.keeping) ≡ ps → Asked P k time room st (try_first P k ps time room st)
    unfolding try_first
    tried t [] w = asked_nothing t w
    tried t (p ∷ ps) w =
        asked_by_lem _ (λ o. asked_not_operational t w (not-true _ o)) (λ o.
        asked_by_lem _ (λ f. asked_shut t w (not-false _ o) (not-true _ f)) (λ f.
        asked_by_lem _ (λ r. asked_no_room t w (not-false _ o) (not-false _ f) r) (λ r. asked_sent t w (not-false _ o) (not-false _ f) r)))

    pub asked : Asked P k time room st (next_at P k time room st)
    unfolding next_at
    asked = asked_by_lem _ (λ t. asked_early (ltb-true _ _ t)) (λ t. tried (ltb-false _ _ t) _ refl)

  -- "Given exactly when"
  pub exactly : (c : ChannelCall) (st : Condition P) → Exactly P k c st (call_at P k c st)
  exactly (offer p time) st = offered p time st
  exactly (next time out) st = asked time (length out) st
  exactly withdraw st = withdraw_is st
