-- Promise: an Offer, a Next and a Withdraw on one channel leave every other channel, "and the other stores as lent": of any state and any lent memory, also one that
-- no run reaches, with stores in no order; and its own store in order. Assumes nothing.
use Prim.Native.Nat.{ℕ, ◌<◌}
use mathlib.Core.Path.{◌≡◌, refl, sym, ap, subst, ◌∙◌}
use lib.ListN.{length}
use Rattle.quantity.specs.Refusals.{NO-CHANNEL, OUTSIDE-LIMITS}
use Rattle.ips_channel_rules.specs.Rules.{ChannelCall, Says, refused}
use Rattle.ips_state.specs.Memory.{World, index_in, channel_in, store_in}
use Rattle.ips_state.proofs.Places.{found}
use Rattle.ips_run.specs.Calling.{WorldResult, calling, Judged, outside, unknown, served}
use Rattle.ips_run.specs.Run.{on, after_under}
use Rattle.ips_run.specs.Demand.{Untouched, TidyIn}
use Rattle.ips_run.proofs.Exact.{judged}
use Rattle.ips_run.proofs.Ordered.{in_order}
use Rattle.ips_run.proofs.Serving.{tidy_unless, at_same, store_same, at_other, store_other}
use Rattle.ips_calls.specs.Replies.{EndpointReply}
use Rattle.ips_calls.specs.Calls.{Performed}

module _ (w : World) (id : ℕ) (c : ChannelCall) where
  module _ (other : ℕ) (there : other < length w.state.channels) (apart : (channel_in w other).setting.id ≡ id → ⊥) where
    untouched : {r : WorldResult (Says c)} → Judged id c w r → Untouched other w r.world
    untouched (outside f) = record { channel = refl; store = refl }
    untouched (unknown f g) = record { channel = refl; store = refl }
    untouched (served f g) =
        let place = found w.state id g in
        let order = in_order w f in
        let elsewhere : other ≡ index_in w id → ⊥ = λ same. apart (ap (λ (n : ℕ). (channel_in w n).setting.id) same ∙ place.1) in
        record {
          channel = at_other (length w.state.channels) w order (index_in w id) place.0 c other there elsewhere;
          store = store_other (length w.state.channels) w order (index_in w id) place.0 c other there elsewhere;
        }

    -- by the rules, and of a call as it should be on a state
    pub others_as_lent : Untouched other w (calling id c w).world
    others_as_lent = untouched (judged id c w)

    pub call_others_as_lent : (x : EndpointReply) (w' : World) → Performed (on id c) w x w' → Untouched other w w'
    unfolding after_under
    call_others_as_lent x w' h = subst (Untouched other w) (sym h.world_is) others_as_lent

  -- ---- "An accepted Offer, Next or Withdraw leaves its channel's store so even if other bytes stood there": the waiting packets end to end, and zeros behind them
  tidied : {r : WorldResult (Says c)} → Judged id c w r → ((number : ℕ) → r.answer ≡ refused number → ⊥) → TidyIn r.world (index_in w id)
  tidied (outside f) accepted = absurd (accepted OUTSIDE-LIMITS refl)
  tidied (unknown f g) accepted = absurd (accepted NO-CHANNEL refl)
  tidied (served f g) accepted =
      let place = (found w.state id g).0 in
      let order = in_order w f in
      rw (at_same (length w.state.channels) w order (index_in w id) place c, store_same (length w.state.channels) w order (index_in w id) place c)
      (tidy_unless (channel_in w (index_in w id)) (store_in w (index_in w id)) _ (λ number is. absurd (accepted number is)))

  pub own_store_so : ((number : ℕ) → (calling id c w).answer ≡ refused number → ⊥) → TidyIn (calling id c w).world (index_in w id)
  own_store_so = tidied (judged id c w)
