-- Both libraries joined: after two exported starts and any exported calls, whatever the net does, no Next that answers SENT goes past the highest window ever granted.
-- Assumes nothing.
use Rattle.quantity.specs.declared.refusal.Refusal.{Refusal}
use Rattle.std.specs.Prelude.{Result, Ok, Err}
use Prim.Native.Nat.{ℕ, zero, suc, ◌<◌}
use mathlib.Core.Path.{◌≡◌, refl, sym, ap, subst, ◌∙◌}
use mathlib.Core.Bool.{true}
use mathlib.Core.List.{List, [], ◌∷◌, ◌++◌, append-nil}
use lib.ListN.{length, get_or}
use Rattle.facts.specs.Tables.{tabulate}
use Rattle.answer_codes.specs.declared.Answer.{Answer}
use Rattle.radio_end_state.specs.State as radio
use Rattle.radio_end_start.specs.Start as far-start
use Rattle.ips_channel_rules.specs.Rules.{offer, next, Event, Terms, Condition}
use Rattle.ips_channel_rules.specs.Rules as rules
use Rattle.ips_channel_rules.specs.Simple.{simple}
use Rattle.ips_channel_rules.proofs.Leaves.{final_append}
use Rattle.ips_state.specs.State.{Configuration, start_at}
use Rattle.ips_state.specs.Memory.{World}
use Rattle.ips_run.specs.Run.{Call, on, pace, query, after, sees, sees_all}
use Rattle.ips_run.specs.Run as run
use Rattle.ips_run.specs.Demand.{bytes_in, ruled, simply_at}
use Rattle.ips_calls.specs.Replies.{EndpointReply, reply_of, handed_out}
use Rattle.ips_words_start.specs.Start.{configuration_in}
use Rattle.endpoint.specs.Lent.{Lent, lent, world_in}
use Rattle.endpoint.specs.Ran.{RanIn, over, ran}
use Rattle.endpoint.proofs.Simulating.{performed_in}
use Rattle.handful.specs.Handful.{Handful}
use Rattle.handful_laws.specs.Plain.{call_at}
use Rattle.handful_laws.specs.Acts.{several, each, calls_by, replies_by}
use Rattle.handful_laws.specs.Acts as acting
use Rattle.handful_laws.proofs.Acts.{acts_ran}
use Rattle.nespovarda.specs.Exports.{Exported, StartExported, reply_said}
use Rattle.nespovarda.specs.Handing.{HandfulExported, handful_said}
use Rattle.nespovarda.specs.Numbers.{numbers}
use Rattle.nespovarda.proofs.Exporting.{exports_say, start_says}
use Rattle.nespovarda.proofs.Handing.{handful_exported}
use Rattle.nespovarda_station.specs.Exports as far
use Rattle.nespovarda_station.specs.Ran.{answer_said}
use Rattle.nespovarda_station.proofs.Ran as far-ran
use Rattle.joined.specs.Net.{Reach, stays, goes_on}
use Rattle.joined_ends.specs.Ends.{Watched, MayAct, acted, bound_if, Modest, NotPast, unwatched}
use Rattle.joined_code.specs.Called.{Lents, ends_in, Asking, nothing_asked}
use Rattle.joined_code.specs.Called as code
use Rattle.joined_code.proofs.Called.{joined_never_past, joined_modest}
use Rattle.joined_exports.specs.Exported.{after_handing, Step, acts, hands, calls}

-- ---- offers hand no datagram over
abbrev Offers : Call → Type 0
Offers (on id (offer packet time)) = Unit {0}
Offers (on id (next time out)) = ⊥
Offers (on id rules.withdraw) = ⊥
Offers (run.radio time datagram) = ⊥
Offers (pace time) = ⊥
Offers (query out) = ⊥

abbrev AllOffers : List Call → Type 0
AllOffers [] = Unit {0}
AllOffers (c ∷ cs) = Offers c × AllOffers cs

offer_nothing : (c : Call) → Offers c → (w : World) → handed_out (reply_of c w) ≡ []
offer_nothing (on id (offer packet time)) o w = refl
offer_nothing (on id (next time out)) o w = elim o [ ]
offer_nothing (on id rules.withdraw) o w = elim o [ ]
offer_nothing (run.radio time datagram) o w = elim o [ ]
offer_nothing (pace time) o w = elim o [ ]
offer_nothing (query out) o w = elim o [ ]

offer_may : (c : Call) → Offers c → (x : Watched) → MayAct c x
offer_may (on id (offer packet time)) o x = tt
offer_may (on id (next time out)) o x = elim o [ ]
offer_may (on id rules.withdraw) o x = elim o [ ]
offer_may (run.radio time datagram) o x = elim o [ ]
offer_may (pace time) o x = elim o [ ]
offer_may (query out) o x = elim o [ ]

offer_bytes : (c : Call) → Offers c → bytes_in c
offer_bytes (on id (offer packet time)) o = tt
offer_bytes (on id (next time out)) o = elim o [ ]
offer_bytes (on id rules.withdraw) o = elim o [ ]
offer_bytes (run.radio time datagram) o = elim o [ ]
offer_bytes (pace time) o = elim o [ ]
offer_bytes (query out) o = elim o [ ]

tabulated : (n : ℕ) (f : ℕ → Call) → ((i : ℕ) → Offers (f i)) → AllOffers (tabulate n f)
unfolding tabulate
tabulated zero f each-one = tt
tabulated (suc n) f each-one = (each-one 0, tabulated n (λ i. f (suc i)) (λ i. each-one (suc i)))

handful_offers : (h : Handful) (answers answers' : List ℕ) (a : Result (Unit {0}) Refusal) → AllOffers (calls_by (several h answers) (each a answers'))
handful_offers h answers answers' (Ok tt) = tabulated (length h.channels) (call_at h) (λ i. tt)
handful_offers h answers answers' (Err refusal) = tt

module _ (k : Terms) (j : ℕ) (asked : Asking) (from : Lents) where
  -- ---- a handful is the steps of its offers
  acted_both : (seen more : List Event) (x : Watched) → acted k more [] (acted k seen [] x) ≡ acted k (seen ++ more) [] x
  acted_both seen more x =
      ap {B = Watched} (λ (life : Condition simple). record { life = life; heard = x.heard; top = x.top; ups = x.ups; downs = x.downs }) (sym (final_append simple k seen more x.life))

  offers_reach : {l last : Lent} {cs : List Call} {xs : List EndpointReply} → AllOffers cs → RanIn l cs xs last → (far : List ℕ) (x : Watched)
      → Reach (code.Step k j asked) from (record { own = l; far = far; watched = x })
      → Reach (code.Step k j asked) from (record { own = last; far = far; watched = acted k (sees_all k.id cs (world_in l)) [] x })
  offers_reach o over far x r = r
  offers_reach {l} {last} o (ran {l' = l'} {c = c} {x = reply} {cs = cs} h rest) far x r =
      let w = world_in l in
      let found : Lents = record { own = l; far = far; watched = x } in
      let none : handed_out reply ≡ [] = ap handed_out h.reply_is ∙ offer_nothing c o.0 w in
      let world_is : world_in l' ≡ after c w = (performed_in (offer_bytes c o.0) h).world_is in
      let first : Reach (code.Step k j asked) from (record { own = l'; far = far; watched = acted k (sees k.id c w) [] x }) =
      subst (λ (datagrams : List (List ℕ)). Reach (code.Step k j asked) from (record { own = l'; far = far; watched = acted k (sees k.id c w) datagrams x })) none
      (goes_on from found (code.after_acting k c reply l' found) r (code.acts found c reply l' (offer_may c o.0 x) h)) in
      let same : acted k (sees_all k.id cs (world_in l')) [] (acted k (sees k.id c w) [] x) ≡ acted k (sees_all k.id (c ∷ cs) w) [] x =
      ap (λ (v : World). acted k (sees_all k.id cs v) [] (acted k (sees k.id c w) [] x)) world_is ∙ acted_both (sees k.id c w) (sees_all k.id cs (after c w)) x in
      subst (λ (z : Watched). Reach (code.Step k j asked) from (record { own = last; far = far; watched = z })) same (offers_reach o.1 rest far (acted k (sees k.id c w) [] x) first)

  hands_reach : (x : Lents) (h : Handful) (answers : List ℕ) (r : Answer) (answers' : List ℕ) (left : Lent) → HandfulExported h x.own answers r left answers'
      → Reach (code.Step k j asked) from x → Reach (code.Step k j asked) from (after_handing k h answers r answers' left x)
  hands_reach x h answers r answers' left e reach =
      let reply = each (handful_said r) answers' in
      let run : RanIn x.own (calls_by (several h answers) reply ++ []) (replies_by reply ++ []) left = acts_ran (acting.handed (handful_exported e) acting.over) in
      let plain : RanIn x.own (calls_by (several h answers) reply) (replies_by reply ++ []) left =
      subst (λ (cs : List Call). RanIn x.own cs (replies_by reply ++ []) left) (append-nil (calls_by (several h answers) reply)) run in
      offers_reach (handful_offers h answers answers' (handful_said r)) plain x.far x.watched reach

  -- ---- an exported call is the call that its numbers say
  step_says : (x y : Lents) → Step k j asked x y → Reach (code.Step k j asked) from x → Reach (code.Step k j asked) from y
  step_says _ y (acts x c r out left may h) reach = goes_on from x y reach (code.acts x c (reply_said c r out) left may (exports_say h))
  step_says _ y (hands x h answers r answers' left e) reach = hands_reach x h answers r answers' left e reach
  step_says _ y (calls x c r left out may h bound) reach = goes_on from x y reach (code.calls x c (answer_said r) left out may (far-ran.exports_say h) bound)

  pub reach_says : (x : Lents) → Reach (Step k j asked) from x → Reach (code.Step k j asked) from x
  reach_says _ (stays x) = stays x
  reach_says _ (goes_on _ y z r s) = step_says y z s (reach_says y r)

-- ---- from two exported starts that answer STARTED, on any words and any memory
module _ {configuration words memory words' memory' : List ℕ} (begun : StartExported configuration words memory (numbers 1 0) words' memory')
    {setting before after' : List ℕ} (far-begun : far.StartExported setting before (numbers 1 0) after') where
  abbrev conf : Configuration
  conf = configuration_in configuration

  abbrev far_conf : radio.Configuration
  far_conf = far-start.configuration_in setting

  -- a channel of both, by its index in each configuration: flow-controlled at both ends
  module _ (index : ℕ) (inside : index < length conf.starts) (j : ℕ) (far-inside : j < length far_conf.settings)
      (controlled : (start_at conf index).setting.controlled ≡ true) (far-controlled : (get_or far_conf.settings j radio.no_setting).controlled ≡ true)
      (same_id : (get_or far_conf.settings j radio.no_setting).id ≡ (start_at conf index).setting.id) (same-datalink : far_conf.datalink ≡ conf.datalink.id) where
    abbrev k : Terms
    k = ruled conf index

    abbrev begins : Lents
    begins = record { own = lent words' memory'; far = after'; watched = unwatched (simply_at conf index) }

    -- THE THEOREM, of what is linked: the packet of each Next that answers SENT lies at or below the highest number ever granted
    pub exported_never_past : (x : Lents) → Reach (Step k j bound_if) begins x → (time : ℕ) (out out' : List ℕ) (bytes : ℕ) (left : Lent)
        → Exported (on k.id (next time out)) x.own (numbers 3 bytes) out' left → NotPast k time out (ends_in x)
    exported_never_past x r time out out' bytes left h =
        joined_never_past (start_says begun) (far-ran.start_says far-begun) index inside j far-inside controlled far-controlled same_id same-datalink x (reach_says k j bound_if begins x r) time out out'
        (record { 0 = bytes }) left (exports_say h)

    -- and with watermark plus throughput at most 2^30 in the radio's configuration nothing is asked of any window
    pub exported_modest : Modest (get_or far_conf.settings j radio.no_setting) → (x : Lents) → Reach (Step k j nothing_asked) begins x → (time : ℕ) (out out' : List ℕ) (bytes : ℕ) (left : Lent)
        → Exported (on k.id (next time out)) x.own (numbers 3 bytes) out' left → NotPast k time out (ends_in x)
    exported_modest modest x r time out out' bytes left h =
        joined_modest (start_says begun) (far-ran.start_says far-begun) index inside j far-inside controlled far-controlled same_id same-datalink modest x (reach_says k j nothing_asked begins x r) time
        out out' (record { 0 = bytes }) left (exports_say h)
