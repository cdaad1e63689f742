-- Offer: what its code knows at each way out gives the rules' result. Assumes nothing.
use Rattle.std.specs.Prelude.{Some, None, Ok, Err}
use Prim.Native.Nat.{ℕ, ◌<◌, ◌≤◌}
use mathlib.Core.Bool.{true, false}
use mathlib.Core.Path.{◌≡◌, refl, sym}
use mathlib.Core.List.{List, [], ◌∷◌, ◌++◌}
use lib.ListN.{length}
use Rattle.quantity.specs.Refusals.{NOT-IPV6, LONG-PACKET, EARLIER-TIME, EXPIRY-PAST, FULL}
use Rattle.ipv6.specs.Ipv6.{is_ipv6}
use Rattle.store.specs.declared.waiting.Remaining.{Remaining}
use Rattle.store.specs.Packets.{Packet, alive}
use Rattle.store.specs.Moves.{displaced, offering}
use Rattle.store.specs.Waiting.{packets_of, Offering}
use Rattle.store.proofs.Moved.{displaced_unchanging}
use Rattle.ips_channel_rules.specs.Rules.{offer, taken, longest_on, left, refusal}
use Rattle.ips_channel_rules.specs.Machine.{machine}
use Rattle.ips_channel_rules.proofs.Exact.{offer_not_ipv6, offer_long, offer_early, offer_past, offer_full, offer_taken}
use Rattle.ips_channel.specs.declared.state.DatalinkSetting.{DatalinkSetting}
use Rattle.ips_channel.specs.declared.state.Channel.{Channel}
use Rattle.ips_channel.specs.Channel.{terms_of, condition_of, with_queue}
use Rattle.ips_channel_calls.specs.declared.outcome.CallOutcome.{CallOutcome}
use Rattle.ips_channel_calls.specs.Calls.{refused_with, offered, channel_after, store_after, Ready, IsLongest, result_of, ServesAnywhere, MovesAnywhere}
use Rattle.ips_channel_calls.proofs.Leaving.{left_with}

-- a refusal, as the code gives it
abbrev pub Refused : Channel → ℕ → CallOutcome (Unit {0}) → Type 0
Refused c number r = r ≡ record { answer = Err (refused_with number); channel = c; moved = record { 0 = 0 } }

module _ (c : Channel) (store : List ℕ) (p : Packet) (time : ℕ) where
  abbrev pub Offers : CallOutcome (Unit {0}) → List ℕ → Type 0
  Offers r store' = ServesAnywhere (offer p time) c store (offered r.answer) r.channel store' × MovesAnywhere (offer p time) c store r.moved

  refuses : (number : ℕ) (r : CallOutcome (Unit {0})) → Refused c number r → ((datalink : DatalinkSetting) → result_of datalink (offer p time) c store ≡ refusal machine number (condition_of c store))
      → Offers r store
  unfolding channel_after store_after
  refuses number r k e = (
    λ datalink. record { reply_is = rw (k, e datalink); channel_is = rw (k, e datalink); store_is = rw (e datalink) },
    λ datalink. rw (k, e datalink, displaced_unchanging (packets_of c.queue store)),
  )

  pub offers_not_ipv6 : is_ipv6 p.bytes ≡ false → (r : CallOutcome (Unit {0})) → Refused c NOT-IPV6 r → Offers r store
  offers_not_ipv6 v r k = refuses NOT-IPV6 r k (λ datalink. offer_not_ipv6 machine (terms_of datalink c.setting) p time (condition_of c store) v)

  -- behind the test of 13, with the longest that `longest_on` gives for the store
  module _ (v : is_ipv6 p.bytes ≡ true) (ready : Ready c store) (longest : ℕ) (is : IsLongest (length store) longest) where
    longest_is : (datalink : DatalinkSetting) → longest_on (terms_of datalink c.setting) ≡ longest
    longest_is datalink = is (terms_of datalink c.setting) refl (sym ready.size)

    pub offers_long : longest < length p.bytes → (r : CallOutcome (Unit {0})) → Refused c LONG-PACKET r → Offers r store
    offers_long l r k = refuses LONG-PACKET r k (λ datalink. offer_long machine (terms_of datalink c.setting) p time (condition_of c store) v (rw (longest_is datalink) l))

    module _ (l : length p.bytes ≤ longest) where
      short : (datalink : DatalinkSetting) → length p.bytes ≤ longest_on (terms_of datalink c.setting)
      short datalink = rw (longest_is datalink) l

      pub offers_early : time < c.latest → (r : CallOutcome (Unit {0})) → Refused c EARLIER-TIME r → Offers r store
      unfolding condition_of
      offers_early t r k = refuses EARLIER-TIME r k (λ datalink. offer_early machine (terms_of datalink c.setting) p time (condition_of c store) v (short datalink) t)

      module _ (t : c.latest ≤ time) where
        pub offers_past : p.expiry ≤ time → (r : CallOutcome (Unit {0})) → Refused c EXPIRY-PAST r → Offers r store
        unfolding condition_of
        offers_past x r k = refuses EXPIRY-PAST r k (λ datalink. offer_past machine (terms_of datalink c.setting) p time (condition_of c store) v (short datalink) t x)

        -- the store's own judgement
        module _ (x : time < p.expiry) where
          pub offers_full : (store' : List ℕ) → Offering store (alive time (packets_of c.queue store)) p None store' → (r : CallOutcome (Unit {0})) → Refused c FULL r → Offers r store'
          unfolding condition_of
          offers_full store' h r k =
              rw h.1 (refuses FULL r k (λ datalink. offer_full machine (terms_of datalink c.setting) p time (condition_of c store) v (short datalink) t x (rw (← ready.size) h.0)))

          pub offers_taken : (o : Remaining) (store' : List ℕ) → Offering store (alive time (packets_of c.queue store)) p (Some o) store' → (d : Channel) → d ≡ with_queue c o.queue time
              → o.moved ≡ record { 0 = displaced (offering (length store) p time (packets_of c.queue store)) }
              → Offers (record { answer = Ok tt; channel = d; moved = o.moved }) store'
          unfolding condition_of channel_after store_after offering
          offers_taken o store' h d k m =
              let ps = alive time (packets_of c.queue store) in
              let taken_is : (datalink : DatalinkSetting) → result_of datalink (offer p time) c store ≡ left machine taken (condition_of c store).counting (ps ++ (p ∷ [])) time (condition_of c store) =
              λ datalink. offer_taken machine (terms_of datalink c.setting) p time (condition_of c store) v (short datalink) t x (rw (← ready.size) h.0) in
              let after = left_with c store ready (ps ++ (p ∷ [])) o.queue store' time d h.1 k in (
                λ datalink. record { reply_is = rw (taken_is datalink); channel_is = rw (taken_is datalink) after.channel_is; store_is = rw (taken_is datalink) after.store_is },
                λ datalink. rw (taken_is datalink) (rw h.0 at m),
              )
