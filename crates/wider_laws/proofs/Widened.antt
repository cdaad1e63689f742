-- Document 02's raised limits: "A store filled under the old limit must be taken over unchanged." Words that fitted fit, and any calls with packets of at most
-- 1,500 bytes answer, and leave words, memory and outputs, as they did. "As they did" is by the rules as they stand now, the limits alone apart. Assumes nothing.
use Rattle.quantity.specs.declared.refusal.Refusal.{Refusal}
use Rattle.std.specs.Prelude.{Result, Ok}
use Prim.Native.Nat.{ℕ, ◌≤◌, ◌<◌}
use mathlib.Core.Bool.{true, and-eq-true_iff}
use mathlib.Core.List.{List, [], ◌∷◌}
use mathlib.Core.Logic.{◌↔◌, inl}
use mathlib.Core.Path.{◌≡◌, refl, ap, ◌∙◌}
use native.Mathlib.Omega.{arith}
use borrow.Author.Tests.{leb-true, le-leb}
use lib.Dec.{leb}
use lib.ListN.{length}
use Rattle.quantity.specs.Limits.{FEWEST-CHANNELS, Limits, CURRENT-LIMITS}
use Rattle.ipv6.specs.FixedHeader.{FixedHeader}
use Rattle.store.specs.Packets.{Packet, alive}
use Rattle.store.proofs.Held.{waiting_of}
use Rattle.ips_channel_rules.specs.Rules.{Taken, taken, refused, answered, longest_on, Condition, AfterCall, offer_at}
use Rattle.ips_channel_rules.specs.Machine.{machine}
use Rattle.ips_channel_rules.proofs.Limits.{machine_limited}
use Rattle.ips_channel_rules.proofs.CallCases.{offer_fourteen, offer_where_none_waits}
use Rattle.ips_channel.specs.declared.state.DatalinkSetting.{DatalinkSetting}
use Rattle.ips_channel.specs.declared.state.Setting.{Setting}
use Rattle.ips_channel.specs.Channel.{terms_under, terms_of, fresh_channel}
use Rattle.ips_state.specs.State.{ChannelStart, Configuration, State, channel_at, fresh_of, fresh_state}
use Rattle.ips_state.specs.Limits.{waits_fit, state_fits_under, state_fits, count_fits_under, configuration_fits_under}
use Rattle.ips_state.specs.Memory.{world_fits_under, world_fits}
use Rattle.ips_state.proofs.Places.{channel_fitting_at, fresh_count}
use Rattle.ips_run.specs.Run.{Call, fresh_world}
use Rattle.ips_run.specs.Demand.{BytesIn}
use Rattle.ips_run.proofs.Fresh.{fresh_order}
use Rattle.ips_calls.specs.Replies.{EndpointReply, reply_under, reply_of}
use Rattle.ips_words_start.specs.Start.{configuration_in, starts_in_under, starts_in, StartedIn}
use Rattle.endpoint.specs.Lent.{Lent, world_in, after_in_under, after_in}
use Rattle.endpoint.specs.Ran.{RanIn, over, ran}
use Rattle.endpoint.proofs.Whole.{started_in}
use Rattle.wider_laws.specs.Earlier.{EARLIER-LIMITS, Raised, Short, Each, fits_for_under, after_all_under, replies_under, EarlierWithin, SameUnder, StartedAsBefore}
use Rattle.wider_laws.proofs.Each.{each_every, each_map}
use Rattle.wider_laws.proofs.Fitting.{ShortQueue, Bounded, state_bounded, bounded_fits, state_raised, world_raised, starts_raised}
use Rattle.wider_laws.proofs.Calling.{reply_same, after_same}
use Rattle.wider_laws.proofs.Keeping.{fits_stay, ordered_fits, fits_for, fits_left}

-- ---- any narrower limits than those in force
module _ (narrow : Limits) (up : Raised narrow CURRENT-LIMITS) where
  pub same_under : (wide : Limits) → Raised narrow wide → (cs : List Call) → BytesIn cs → Each (Short narrow.packet) cs → (l : Lent) → world_fits_under narrow (world_in l) ≡ true
      → SameUnder narrow wide cs l
  same_under wide more [] bytes short l fits = record { replies = refl; lent_left = refl }
  same_under wide more (c ∷ cs) bytes short l fits =
      let given = fits_for narrow c (world_in l) fits in
      let left = after_same narrow wide more c short.0 l given in
      let rest = same_under wide more cs bytes.1 short.1 (after_in_under narrow c l) (fits_left narrow up l fits c bytes.0) in
      record {
        replies = rw (reply_same narrow wide more c short.0 (world_in l) given, left) (ap (λ (xs : List EndpointReply). reply_under narrow c (world_in l) ∷ xs) rest.replies);
        lent_left = rw left rest.lent_left;
      }

  -- packets of any length among them
  all_left : (cs : List Call) → BytesIn cs → (l : Lent) → world_fits_under narrow (world_in l) ≡ true → world_fits_under narrow (world_in (after_all_under narrow cs l)) ≡ true
  all_left [] bytes l fits = fits
  all_left (c ∷ cs) bytes l fits = all_left cs bytes.1 (after_in_under narrow c l) (fits_left narrow up l fits c bytes.0)

  -- ---- a fresh start
  fresh_short : (k : ChannelStart) → ShortQueue narrow.packet (fresh_of k)
  unfolding fresh_channel
  fresh_short k = rw (waiting_of []) tt

  fresh_bounded : (k : Configuration) → configuration_fits_under narrow.channels k ≡ true → Bounded narrow (fresh_state k)
  unfolding configuration_fits_under fresh_state
  fresh_bounded k h =
      let a = (and-eq-true_iff (count_fits_under narrow.channels (length k.starts)) _).0 h in
      let b = (and-eq-true_iff (leb FEWEST-CHANNELS (length k.starts)) _).0 a.0 in
      record {
        few = omega (arith, fresh_count k, leb-true (length k.starts) narrow.channels b.1);
        short = each_map (ShortQueue narrow.packet) fresh_of k.starts (each_every fresh_short k.starts);
      }

-- ---- from the limits of document 01 to those of document 02
raised : Raised EARLIER-LIMITS CURRENT-LIMITS
raised = record { channels = omega arith; packet = omega arith }

-- "19 moves with the limits": a state that fitted fits
pub widened_state : (s : State) → state_fits_under EARLIER-LIMITS s ≡ true → state_fits s ≡ true
widened_state = state_raised EARLIER-LIMITS CURRENT-LIMITS raised

-- what 19 asked before, in literal numbers
pub earlier_exactly : (s : State) → (state_fits_under EARLIER-LIMITS s ≡ true) ↔ EarlierWithin s
earlier_exactly s = (
  λ h. let b = state_bounded EARLIER-LIMITS s h in record { fits = widened_state s h; few = b.few; short = b.short },
  λ x. bounded_fits CURRENT-LIMITS EARLIER-LIMITS s x.fits (record { few = x.few; short = x.short }),
)

-- and 14 was given above 1,500 bytes, whatever the store
pub earlier_longest : (s : State) → state_fits_under EARLIER-LIMITS s ≡ true → (index : ℕ) → index < length s.channels
    → longest_on (terms_under EARLIER-LIMITS.packet s.datalink (channel_at s index).setting) ≡ 1500
earlier_longest s h index inside = rw (le-leb 1500 (channel_at s index).setting.size.0 (channel_fitting_at s (widened_state s h) index inside).smallest)

-- "A store filled under the old limit must be taken over unchanged": words and memory that fitted fit as they stand
pub widened_fits : (l : Lent) → world_fits_under EARLIER-LIMITS (world_in l) ≡ true → world_fits (world_in l) ≡ true
widened_fits l = world_raised EARLIER-LIMITS CURRENT-LIMITS raised (world_in l)

-- each call with a packet of at most 1,500 bytes replies as it did, the output's bytes among it
pub widened_reply : (c : Call) → Short 1500 c → (l : Lent) → fits_for_under EARLIER-LIMITS c (world_in l) ≡ true → reply_of c (world_in l) ≡ reply_under EARLIER-LIMITS c (world_in l)
widened_reply c short l = reply_same EARLIER-LIMITS CURRENT-LIMITS raised c short (world_in l)

-- and leaves every word and every byte of the memory as it did
pub widened_after : (c : Call) → Short 1500 c → (l : Lent) → fits_for_under EARLIER-LIMITS c (world_in l) ≡ true → after_in c l ≡ after_in_under EARLIER-LIMITS c l
widened_after = after_same EARLIER-LIMITS CURRENT-LIMITS raised

-- THE STATEMENT: and so any calls
pub widened : (cs : List Call) → BytesIn cs → Each (Short 1500) cs → (l : Lent) → world_fits_under EARLIER-LIMITS (world_in l) ≡ true → SameUnder EARLIER-LIMITS CURRENT-LIMITS cs l
widened = same_under EARLIER-LIMITS raised CURRENT-LIMITS raised

-- what any calls, with packets of any length, left under the old limits is taken over
pub taken_over : (cs : List Call) → BytesIn cs → (l : Lent) → world_fits_under EARLIER-LIMITS (world_in l) ≡ true → world_fits (world_in (after_all_under EARLIER-LIMITS cs l)) ≡ true
taken_over cs bytes l fits = widened_fits (after_all_under EARLIER-LIMITS cs l) (all_left EARLIER-LIMITS raised cs bytes l fits)

-- ---- the code's own outcomes
ran_under : {l last : Lent} {cs : List Call} {xs : List EndpointReply} → RanIn l cs xs last → (xs ≡ replies_under CURRENT-LIMITS cs l) × (last ≡ after_all_under CURRENT-LIMITS cs l)
ran_under over = (refl, refl)
ran_under (ran {cs} h more) =
    let rest = ran_under more in
    (rw (h.reply_is, rest.0, h.lent_is), rest.1 ∙ ap (after_all_under CURRENT-LIMITS cs) h.lent_is)

-- as they are now they are what the definitions gave before
pub widened_own : {l last : Lent} {cs : List Call} {xs : List EndpointReply} → BytesIn cs → Each (Short 1500) cs → world_fits_under EARLIER-LIMITS (world_in l) ≡ true → RanIn l cs xs last
    → (xs ≡ replies_under EARLIER-LIMITS cs l) × (last ≡ after_all_under EARLIER-LIMITS cs l)
widened_own {l} {cs = cs} bytes short fits run =
    let own = ran_under run in
    let same = widened cs bytes short l fits in
    (own.0 ∙ same.replies, own.1 ∙ same.lent_left)

-- no calls, with packets of any length, lead from words that 19 lets pass to words that it refuses
pub never_nineteen : {l last : Lent} {cs : List Call} {xs : List EndpointReply} → BytesIn cs → world_fits (world_in l) ≡ true → RanIn l cs xs last → world_fits (world_in last) ≡ true
never_nineteen bytes fits over = fits
never_nineteen bytes fits (ran {l} {c = c} h more) = never_nineteen bytes.1 (ap (λ (x : Lent). world_fits (world_in x)) h.lent_is ∙ fits_stay c bytes.0 l fits) more

-- ---- a fresh start
bounded_world : (k : Configuration) → configuration_fits_under 16 k ≡ true → Bounded EARLIER-LIMITS (fresh_world k).state
unfolding fresh_world
bounded_world k fits = fresh_bounded EARLIER-LIMITS raised k fits

-- a configuration that started starts, where 22 doesn't refuse it, and leaves what it left: words that fit under the old limits, so that any calls may follow
module _ (configuration words memory : List ℕ) (starts : starts_in_under 16 configuration words memory ≡ true) (waits : waits_fit (configuration_in configuration) ≡ true) where
  now_starts : starts_in configuration words memory ≡ true
  now_starts = starts_raised EARLIER-LIMITS CURRENT-LIMITS raised configuration words memory starts

  pub widened_start : {answer : Result (Unit {0}) Refusal} {words' memory' : List ℕ} → StartedIn configuration words memory answer words' memory' → StartedAsBefore configuration memory answer words' memory'
  unfolding starts_in_under
  widened_start {answer} {words'} {memory'} h =
      let k = configuration_in configuration in
      let started : answer ≡ Ok tt = rw (now_starts, waits) at h.answer_is in
      let fits = ((and-eq-true_iff (configuration_fits_under 16 k) _).0 starts).0 in
      let now-fits = ((and-eq-true_iff (configuration_fits_under CURRENT-LIMITS.channels k) _).0 now_starts).0 in
      let begun : StartedIn configuration words memory (Ok tt) words' memory' = rw started at h in
      record {
        answer_is = started;
        words_are = rw (now_starts, waits) at h.words_are;
        memory_is = rw (now_starts, waits) at h.memory_is;
        fits = ap (world_fits_under EARLIER-LIMITS) (started_in begun) ∙ ordered_fits EARLIER-LIMITS (fresh_world k) (fresh_order k (rw (now-fits, waits))) (bounded_world k fits);
      }

-- ---- the border in numbers: on a store with room for it, a packet of 1,501 bytes was 14, and is taken where nothing waits
module _ (datalink : DatalinkSetting) (setting : Setting) (room : 1501 ≤ setting.size.0) (p : Packet) (header : FixedHeader p.bytes) (long : length p.bytes ≡ 1501)
    (time : ℕ) (st : Condition machine) where
  pub earlier_fourteen : (offer_at machine (terms_under EARLIER-LIMITS.packet datalink setting) p time st).answer ≡ refused 14
  earlier_fourteen = ap (λ (r : AfterCall machine Taken). r.answer) (offer_fourteen machine machine_limited (terms_under EARLIER-LIMITS.packet datalink setting) p time st header (inl (omega (arith, long))))

  pub longer_taken : st.latest ≤ time → time < p.expiry → alive time st.keeping ≡ [] → (offer_at machine (terms_of datalink setting) p time st).answer ≡ answered taken
  longer_taken t x nothing =
      ap (λ (r : AfterCall machine Taken). r.answer) (offer_where_none_waits machine machine_limited (terms_of datalink setting) p time st header (omega (arith, long)) (omega (arith, long, room)) t x nothing)
