-- The joined ends, of the code's own outcomes: after two starts and any calls, whatever the net does, no Next that hands over a packet goes past the highest window
-- ever granted. Assumes nothing.
use Rattle.std.specs.Prelude.{Result, Ok}
use Rattle.quantity.specs.declared.refusal.Refusal.{Refusal}
use Prim.Native.Nat.{ℕ, ◌^◌, ◌<◌}
use mathlib.Core.Path.{◌≡◌, refl, sym, ap, subst, ◌∙◌}
use mathlib.Core.Bool.{true}
use mathlib.Core.List.{List}
use lib.ListN.{length, get_or}
use Rattle.facts.proofs.Tests.{clash}
use Rattle.quantity.specs.declared.count.ByteCount.{ByteCount}
use Rattle.radio_end_state.specs.declared.answer.Answer.{Answer}
use Rattle.radio_end_state.specs.State as radio
use Rattle.radio_end_state.specs.Limits as limits
use Rattle.radio_end_run.specs.Run as station
use Rattle.radio_end_run.proofs.Steps.{step_own}
use Rattle.radio_end_run.proofs.Fresh.{fresh_inside}
use Rattle.radio_end_words.specs.Words as far-words
use Rattle.radio_end_start.specs.Start as far-start
use Rattle.radio_end_start.proofs.Exactly.{started_leaves}
use Rattle.radio_end.specs.Ran as far
use Rattle.radio_end.proofs.Ran as far-ran
use Rattle.ips_channel_rules.specs.Rules as rules
use Rattle.ips_channel_rules.specs.Rules.{next, Tried, nothing_waiting, not_operational, window_shut, sent, refused, answered, Terms}
use Rattle.ips_channel_calls.specs.declared.asking.NextAnswer.{NextAnswer}
use Rattle.ips_channel_calls.specs.Calls.{asked}
use Rattle.ips_state.specs.State.{Configuration, start_at}
use Rattle.ips_state.specs.Limits.{configuration_taken}
use Rattle.ips_state.specs.Memory.{World}
use Rattle.ips_run.specs.Calling.{calling}
use Rattle.ips_run.specs.Run.{Call, on, after, fresh_world}
use Rattle.ips_run.specs.Demand.{ruled, simply_at}
use Rattle.ips_calls.specs.Replies.{EndpointReply, of_channel, reply_of}
use Rattle.endpoint.specs.Lent.{Lent, lent, world_in}
use Rattle.endpoint.specs.Calls.{PerformedIn}
use Rattle.endpoint.proofs.Simulating.{performed_in}
use Rattle.endpoint.proofs.Whole.{started_in}
use Rattle.ips_words_start.specs.Start.{configuration_in, StartedIn}
use Rattle.ips_words_start.proofs.Exactly as own-starts
use Rattle.ips_words_start.proofs.FreshWords.{configuration_small}
use Rattle.joined_ends.proofs.Fresh.{fresh_radio, modest_bound, modest_stays, modest_fresh}
use Rattle.joined.specs.Net.{unheard, Reach, stays, goes_on}
use Rattle.joined_ends.specs.Ends.{written_by, written_in, Ends, MayAct, MayCall, told, allowance_at, bound_if, Modest, after_act, heard_in, heard_after, channel_after, after_call, NotPast, unwatched}
use Rattle.joined_ends.specs.Ends as ends
use Rattle.joined_ends.proofs.Telling.{Radio}
use Rattle.joined_ends.proofs.Ends.{act_bytes, all_not_past}
use Rattle.joined_code.specs.Called.{Lents, ends_in, nothing_asked, channel_in, after_acting, after_calling, Step, acts, calls}

module _ (k : Terms) (j : ℕ) where
  -- ---- a step on words is a step of the ends that they stand for
  act_in : (x : Lents) (c : Call) (reply : EndpointReply) (left : Lent) → MayAct c x.watched → PerformedIn c x.own reply left → ends.Step k j (ends_in x) (ends_in (after_acting k c reply left x))
  act_in x c reply left may h =
      let p = performed_in (act_bytes x.watched c may) h in
      let same : ends_in (after_acting k c reply left x) ≡ after_act k c (ends_in x) = rw (p.world_is, p.reply_is) in
      subst (ends.Step k j (ends_in x)) (sym same) (ends.acts (ends_in x) c may)

  abbrev leaving : station.Call → Lents → radio.State → (datagrams : List (List ℕ)) → Ends
  leaving c x s datagrams = record { world = world_in x.own; station = s; watched = told (heard_in k c (ends_in x)) (radio.channel_at s j) datagrams x.watched }

  call_in : (x : Lents) (c : station.Call) (answer : Result Answer Refusal) (left out : List ℕ) → MayCall k c x.watched → far.PerformedIn c x.far answer left out
      → bound_if (written_by answer out) (heard_after k c (ends_in x)) (allowance_at (channel_in j left)) → ends.Step k j (ends_in x) (ends_in (after_calling k j c answer left out x))
  call_in x c answer left out may h bound =
      let after = station.after_call c (far-words.state_in x.far) in
      let s : far-words.state_in left ≡ station.state_after c (far-words.state_in x.far) = far-ran.performed_in c x.far answer left out h in
      let ds : written_by answer out ≡ written_in after = ap (λ (a : Result Answer Refusal). written_by a out) h.answer_is ∙ ap (written_by after.answer) h.output_is in
      let same : ends_in (after_calling k j c answer left out x) ≡ after_call k j c (ends_in x) =
      ap (λ (z : radio.State). leaving c x z (written_by answer out)) s ∙ ap (leaving c x (station.state_after c (far-words.state_in x.far))) ds in
      let heard = heard_after k c (ends_in x) in
      let within : bound_if (written_in after) heard (allowance_at (channel_after j c (ends_in x))) =
      subst (λ (z : radio.State). bound_if (written_in after) heard (allowance_at (radio.channel_at z j))) s (subst (λ (l : List (List ℕ)). bound_if l heard (allowance_at (channel_in j left))) ds bound) in
      subst (ends.Step k j (ends_in x)) (sym same) (ends.calls (ends_in x) c may within)

  step_in : (x y : Lents) → Step k j bound_if x y → ends.Step k j (ends_in x) (ends_in y)
  step_in _ _ (acts x c reply left may h) = act_in x c reply left may h
  step_in _ _ (calls x c answer left out may h bound) = call_in x c answer left out may h bound

  pub reach_in : (x y : Lents) → Reach (Step k j bound_if) x y → Reach (ends.Step k j) (ends_in x) (ends_in y)
  reach_in _ _ (stays x) = stays (ends_in x)
  reach_in _ _ (goes_on x y z r s) = goes_on (ends_in x) (ends_in y) (ends_in z) (reach_in x y r) (step_in y z s)

  -- ---- where the watched channel's setting is modest, nothing need be asked of a window
  record Settled (x : Lents) : Type 0 where
    here : j < length (far-words.state_in x.far).channels
    modest : Modest (channel_in j x.far).setting

  settled_on : (x : Lents) → Settled x → (c : station.Call) (answer : Result Answer Refusal) (left out : List ℕ) → far.PerformedIn c x.far answer left out → Settled (after_calling k j c answer left out x)
  settled_on x m c answer left out h =
      let s = far-words.state_in x.far in
      let is : far-words.state_in left ≡ station.state_after c s = far-ran.performed_in c x.far answer left out h in
      record {
        here = subst (λ (z : radio.State). j < length z.channels) (sym is) (subst (λ (n : ℕ). j < n) (sym (step_own c s).many) m.here);
        modest = subst (λ (z : radio.State). Modest (radio.channel_at z j).setting) (sym is) (modest_stays c s j m.here m.modest);
      }

  record Bounded (b x : Lents) : Type 0 where
    reach : Reach (Step k j bound_if) b x
    settled : Settled x

  modest_reach : (b x : Lents) → Settled b → Reach (Step k j nothing_asked) b x → Bounded b x
  modest_reach b _ m (stays x) = record { reach = stays x; settled = m }
  modest_reach b _ m (goes_on _ y z r (acts x c reply left may h)) =
      let i = modest_reach b y m r in
      record { reach = goes_on b y z i.reach (acts x c reply left may h); settled = record { here = i.settled.here; modest = i.settled.modest } }
  modest_reach b _ m (goes_on _ y z r (calls x c answer left out may h bounded)) =
      let i = modest_reach b y m r in
      let after = settled_on x i.settled c answer left out h in
      let bound = modest_bound (channel_in j left) after.modest (written_by answer out) (heard_after k c (ends_in x)) in
      record { reach = goes_on b y z i.reach (calls x c answer left out may h bound); settled = after }

-- ---- from two starts that are made, on any words and any memory
module _ {configuration words memory words' memory' : List ℕ} (begun : StartedIn configuration words memory (Ok tt) words' memory') where
  abbrev conf : Configuration
  conf = configuration_in configuration

  taken : configuration_taken conf ≡ true
  taken = let left = own-starts.started_leaves configuration words memory begun refl in rw (left.configuration_fits_lem, left.waits_fit_lem)

  module _ {setting before after' : List ℕ} (far-begun : far-start.StartedIn setting before (Ok tt) after') where
    abbrev far_conf : radio.Configuration
    far_conf = far-start.configuration_in setting

    -- a channel of both, by its index in each configuration: flow-controlled at both ends
    module _ (index : ℕ) (inside : index < length conf.starts) (j : ℕ) (far-inside : j < length far_conf.settings)
        (controlled : (start_at conf index).setting.controlled ≡ true) (far-controlled : (get_or far_conf.settings j radio.no_setting).controlled ≡ true)
        (same_id : (get_or far_conf.settings j radio.no_setting).id ≡ (start_at conf index).setting.id) (same-datalink : far_conf.datalink ≡ conf.datalink.id) where
      abbrev pub k : Terms
      k = ruled conf index

      small : (i : ℕ) → i < length conf.starts → (start_at conf i).first.0 < 2 ^ 32
      small i h = (configuration_small configuration).firsts i h

      far_there : Radio k j (far-words.state_in after') unheard
      far_there =
          let left = started_leaves setting before far-begun refl in
          let fits : limits.state_fits (radio.fresh_state far_conf) ≡ true = subst (λ (s : radio.State). limits.state_fits s ≡ true) left.state_is left.state_fits_lem in
          subst (λ (s : radio.State). Radio k j s unheard) (sym left.state_is) (fresh_radio k j far_conf fits far-inside same_id far-controlled same-datalink)

      abbrev pub begins : Lents
      begins = record { own = lent words' memory'; far = after'; watched = unwatched (simply_at conf index) }

      -- THE THEOREM, of the code's own outcomes: "Then, counting without wrap, the endpoint never sends past the highest window the radio has ever granted"
      pub joined_never_past : (x : Lents) → Reach (Step k j bound_if) begins x → (time : ℕ) (out out' : List ℕ) (n : ByteCount) (left : Lent)
          → PerformedIn (on k.id (next time out)) x.own (of_channel (asked (Ok (NextAnswer.Sent n)) out')) left → NotPast k time out (ends_in x)
      joined_never_past x r time out out' n left h = go (calling k.id (next time out) w).answer refl h.reply_is
        where
          w : World
          w = world_in x.own

          reached : Reach (ends.Step k j) (ends.start (fresh_world conf) (far-words.state_in after') (simply_at conf index)) (ends_in x)
          reached = subst (λ (v : World). Reach (ends.Step k j) (ends.start v (far-words.state_in after') (simply_at conf index)) (ends_in x)) (started_in begun) (reach_in k j begins x r)

          go : (a : rules.Answer Tried) → (calling k.id (next time out) w).answer ≡ a → of_channel (asked (Ok (NextAnswer.Sent n)) out') ≡ reply_of (on k.id (next time out)) w
              → NotPast k time out (ends_in x)
          go (refused number) e f = clash (cc (rw e at f))
          go (answered nothing_waiting) e f = clash (cc (rw e at f))
          go (answered not_operational) e f = clash (cc (rw e at f))
          go (answered window_shut) e f = clash (cc (rw e at f))
          go (answered (sent packet carried)) e f =
              all_not_past conf taken small index inside controlled j (far-words.state_in after') far_there (ends_in x) reached time out packet carried e

      -- THE COROLLARY: with watermark plus throughput at most 2^30 in the radio's configuration nothing is asked of any window, for good
      pub joined_modest : Modest (get_or far_conf.settings j radio.no_setting) → (x : Lents) → Reach (Step k j nothing_asked) begins x → (time : ℕ) (out out' : List ℕ) (n : ByteCount) (left : Lent)
          → PerformedIn (on k.id (next time out)) x.own (of_channel (asked (Ok (NextAnswer.Sent n)) out')) left → NotPast k time out (ends_in x)
      joined_modest modest x r = joined_never_past x (modest_reach k j begins x settled r).reach
        where
          settled : Settled k j begins
          settled =
              let is = (started_leaves setting before far-begun refl).state_is in
              record {
                here = subst (λ (z : radio.State). j < length z.channels) (sym is) (fresh_inside far_conf j far-inside);
                modest = subst (λ (z : radio.State). Modest (radio.channel_at z j).setting) (sym is) (modest_fresh far_conf j far-inside modest);
              }
