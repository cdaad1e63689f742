-- "Given exactly when": the refusals of a radio message handed in, of a query and of a start; those of the calls on a channel are in ips_run's Exact.
-- Assumes nothing.
use Rattle.std.specs.Prelude.{Result, Ok, Err}
use Rattle.quantity.specs.declared.count.ByteCount.{ByteCount}
use Rattle.meaning.specs.declared.message.Plane.{Plane}
use Prim.Native.Nat.{ℕ, ◌<◌, ◌≤◌}
use mathlib.Core.Bool.{Bool, true, false, cond, and-false, and-eq-true_iff}
use mathlib.Core.List.{List}
use mathlib.Core.Logic.{◌↔◌, ◌⊎◌, inl, inr}
use mathlib.Core.Path.{◌≡◌, refl, sym, ap, subst, ◌∙◌}
use native.Mathlib.Omega.{arith}
use borrow.Author.Tests.{eqb-true, eqb-false, not-true, eq-eqb, ne_eqb, ltb-true, ltb-false, lt-ltb, le-ltb}
use lib.Dec.{eqb, ltb}
use lib.ListN.{length, replicate}
use Rattle.facts.proofs.Tests.{clash}
use Rattle.quantity.specs.declared.count.DatalinkId.{DatalinkId}
use Rattle.quantity.specs.declared.refusal.Refusal.{Refusal}
use Rattle.quantity.specs.Limits.{LONGEST-DATAGRAM}
use Rattle.quantity.specs.Refusals.{NO-ROOM, OUTSIDE-LIMITS, EARLIER-PACE, NO-WAIT}
use Rattle.wire.specs.Options.{over}
use Rattle.meaning.specs.declared.message.End.TheVariants as ends
use Rattle.meaning.specs.declared.message.Control.{Control}
use Rattle.reader.specs.Readings.{Verdict, ControlReading, DataReading, read_control, read_data, plane_of}
use Rattle.acceptance.specs.Numbers.{OfReading}
use Rattle.acceptance.proofs.Verdicts.{control_numbers, data_numbers, plane_numbers, control_own, data_own}
use Rattle.roundtrip.specs.Answers.{refused_by}
use Rattle.pacer.specs.declared.PaceAnswer.{PaceAnswer}
use Rattle.pacer.specs.Pacing.{is_earlier, is_due, is_silent, answer_of}
use Rattle.ips_state.specs.State.{Configuration, State, fresh_state}
use Rattle.ips_state.specs.Limits.{state_fits, configuration_fits, waits_fit, configuration_taken}
use Rattle.ips_radio.specs.Heard.{due_of}
use Rattle.ips_query.proofs.Queries.{query_short}
use Rattle.ips_run.specs.Run.{query, dropped, carried, stated, received_in, in_time}
use Rattle.ips_run.proofs.Exact.{heard_when, carried_when}
use Rattle.ips_radio.specs.declared.RadioAnswer.{RadioAnswer}
use Rattle.ips_state.specs.Memory.{World}
use Rattle.ips_calls.specs.Radio.{AfterRadio, refused_heard, passed_on, heard_control, by_verdict, control_heard, data_heard, by_plane, handed_in_under, handed_in, ReadingRefuses, by_header, by_control, by_data}
use Rattle.ips_calls.specs.Pace.{refused_pace, pace_answer_under, pace_answer}
use Rattle.ips_calls.specs.Query.{query_bytes, query_answer}
use Rattle.ips_calls.specs.Replies.{of_query}
use Rattle.ips_calls.specs.Calls.{lending, Performed}
use Rattle.ips_calls.specs.Start.{stores_of, start_fits_of, not_started, start_answer, Started}
use Rattle.ips_calls.proofs.Querying.{query_gives}
use Rattle.ips_calls.proofs.Refused.{not_refused}

-- a refusal is refused by one number, at one place
one_refusal : {A : Type 0} {refusal other : Refusal} → ◌≡◌ {A = Result A Refusal} (Err refusal) (Err other) → refusal ≡ other
one_refusal e = cc

-- ---- a radio message handed in: 19, 21, then "as for reading"
module _ (datalink : DatalinkId) (datagram : List ℕ) (refusal : Refusal) where
  reading_numbers : ReadingRefuses datalink datagram refusal → OfReading refusal.number
  reading_numbers (by_header p) = plane_numbers datagram refusal p
  reading_numbers (by_control p v) = control_numbers ends.Radio datalink datagram refusal v
  reading_numbers (by_data p v) = data_numbers ends.Radio datalink datagram refusal v

  pub unheard : ReadingRefuses datalink datagram refusal → received_in datalink datagram ≡ dropped
  unfolding received_in
  unheard (by_header p) = rw p
  unheard (by_control p v) = rw (p, v)
  unheard (by_data p v) = rw (p, v)

module _ (s : State) (time : ℕ) (datagram : List ℕ) where
  abbrev control_read_lem : ControlReading
  control_read_lem = read_control ends.Radio s.datalink.id datagram

  abbrev data_read_lem : DataReading
  data_read_lem = read_data ends.Radio s.datalink.id datagram

  -- given an outcome, the conditions
  pub data Handed : AfterRadio → Type 0 where
    outside : state_fits s ≡ false → Handed (refused_heard (record { number = OUTSIDE-LIMITS; place = 0 }) s)
    earlier : state_fits s ≡ true → time < s.pacer.clock → Handed (refused_heard (record { number = EARLIER-PACE; place = 0 }) s)
    unread : (refusal : Refusal) → in_time time s ≡ true → ReadingRefuses s.datalink.id datagram refusal → Handed (refused_heard refusal s)
    heard : (m : Control) → in_time time s ≡ true → received_in s.datalink.id datagram ≡ stated m → Handed (heard_control time m s)
    passed : in_time time s ≡ true → received_in s.datalink.id datagram ≡ carried → Handed (passed_on time s)

  pub handed : Handed (handed_in time s datagram)
  unfolding handed_in_under
  handed = go (state_fits s) refl (is_earlier time s.pacer) refl (plane_of datagram) refl
    where
      control : in_time time s ≡ true → plane_of datagram ≡ Ok Plane.Control → (v : Verdict) → control_read_lem.verdict ≡ v → Handed (by_verdict v s (heard_control time control_read_lem.message s))
      control f p Verdict.Accepted e = heard _ f (heard_when s.datalink.id datagram p e)
      control f p Verdict.OtherPlane e = absurd (control_own ends.Radio s.datalink.id datagram p e)
      control f p (Verdict.Refused refusal) e = unread refusal f (by_control p e)

      carrying : in_time time s ≡ true → plane_of datagram ≡ Ok Plane.Data → (v : Verdict) → data_read_lem.verdict ≡ v → Handed (by_verdict v s (passed_on time s))
      carrying f p Verdict.Accepted e = passed f (carried_when s.datalink.id datagram p e)
      carrying f p Verdict.OtherPlane e = absurd (data_own ends.Radio s.datalink.id datagram p e)
      carrying f p (Verdict.Refused refusal) e = unread refusal f (by_data p e)

      go : (fits : Bool) → state_fits s ≡ fits → (early : Bool) → is_earlier time s.pacer ≡ early → (plane : Result Plane Refusal) → plane_of datagram ≡ plane
          → Handed (cond fits
          (cond early (refused_heard (record { number = EARLIER-PACE; place = 0 }) s) (by_plane plane s (control_heard time control_read_lem s) (data_heard time data_read_lem s)))
          (refused_heard (record { number = OUTSIDE-LIMITS; place = 0 }) s))
      go false f early l plane p = outside f
      go true f true l plane p = earlier f (ltb-true _ _ l)
      go true f false l (Ok Plane.Control) p = control (rw (f, l)) p control_read_lem.verdict refl
      go true f false l (Ok Plane.Data) p = carrying (rw (f, l)) p data_read_lem.verdict refl
      go true f false l (Err refusal) p = unread refusal (rw (f, l)) (by_header p)

  -- "a state outside these limits": 19, before any reading; the state is the one handed in
  pub radio_unfit : state_fits s ≡ false → handed_in time s datagram ≡ refused_heard (record { number = OUTSIDE-LIMITS; place = 0 }) s
  unfolding handed_in_under
  radio_unfit e = rw e

  -- "21, pacer time earlier than its latest, tested right after 19"
  pub radio_earlier : state_fits s ≡ true → time < s.pacer.clock → handed_in time s datagram ≡ refused_heard (record { number = EARLIER-PACE; place = 0 }) s
  unfolding handed_in_under
  radio_earlier e l = rw (e, lt-ltb time s.pacer.clock l)

  outside_only : {h : AfterRadio} → Handed h → (refusal : Refusal) → h.answer ≡ Err refusal → refusal.number ≡ OUTSIDE-LIMITS → state_fits s ≡ false
  outside_only (outside f) refusal e n = f
  outside_only (earlier f l) refusal e n = let z : EARLIER-PACE ≡ OUTSIDE-LIMITS = ap (λ (r : Refusal). r.number) (one_refusal e) ∙ n in absurd (omega arith)
  outside_only (unread why f w) refusal e n = let same : why ≡ refusal = cc in absurd (omega (arith, reading_numbers s.datalink.id datagram refusal (rw same at w)))
  outside_only (heard m f a) refusal e n = absurd (not_refused s (due_of s.context m.context) refusal e)
  outside_only (passed f a) refusal e n = clash (cc)

  earlier_only : {h : AfterRadio} → Handed h → (refusal : Refusal) → h.answer ≡ Err refusal → refusal.number ≡ EARLIER-PACE → (state_fits s ≡ true) × (time < s.pacer.clock)
  earlier_only (outside f) refusal e n = let z : OUTSIDE-LIMITS ≡ EARLIER-PACE = ap (λ (r : Refusal). r.number) (one_refusal e) ∙ n in absurd (omega arith)
  earlier_only (earlier f l) refusal e n = (f, l)
  earlier_only (unread why f w) refusal e n = let same : why ≡ refusal = cc in absurd (omega (arith, reading_numbers s.datalink.id datagram refusal (rw same at w)))
  earlier_only (heard m f a) refusal e n = absurd (not_refused s (due_of s.context m.context) refusal e)
  earlier_only (passed f a) refusal e n = clash (cc)

  -- a reader gives 1 to 11, so 19 is the state's alone, and 21 the time's
  pub radio_nineteen : ((refusal : Refusal) × ((handed_in time s datagram).answer ≡ Err refusal) × (refusal.number ≡ OUTSIDE-LIMITS)) ↔ (state_fits s ≡ false)
  radio_nineteen = (λ h. outside_only handed h.0 h.1 h.2, λ e. (_, ap (λ (r : AfterRadio). r.answer) (radio_unfit e), refl))

  pub radio_twenty_one : ((refusal : Refusal) × ((handed_in time s datagram).answer ≡ Err refusal) × (refusal.number ≡ EARLIER-PACE))
      ↔ ((state_fits s ≡ true) × (time < s.pacer.clock))
  radio_twenty_one = (λ h. earlier_only handed h.0 h.1 h.2, λ e. (_, ap (λ (r : AfterRadio). r.answer) (radio_earlier e.0 e.1), refl))

  module _ (timely : in_time time s ≡ true) where
    fitting : state_fits s ≡ true
    fitting = ((and-eq-true_iff (state_fits s) _).0 timely).0

    on_time : is_earlier time s.pacer ≡ false
    on_time = not-true _ ((and-eq-true_iff (state_fits s) _).0 timely).1

    not_late : {A : Type 0} → time < s.pacer.clock → A
    not_late l = clash (sym on_time ∙ lt-ltb time s.pacer.clock l)

    -- the state then is the one handed in
    pub radio_refused_lem : (refusal : Refusal) → ReadingRefuses s.datalink.id datagram refusal → handed_in time s datagram ≡ refused_heard refusal s
    unfolding handed_in_under
    radio_refused_lem refusal (by_header p) = rw (fitting, on_time, p)
    radio_refused_lem refusal (by_control p v) = rw (fitting, on_time, p, v)
    radio_refused_lem refusal (by_data p v) = rw (fitting, on_time, p, v)

    unread_only : {h : AfterRadio} → Handed h → (refusal : Refusal) → h.answer ≡ Err refusal → ReadingRefuses s.datalink.id datagram refusal
    unread_only (outside f) refusal e = clash (sym f ∙ fitting)
    unread_only (earlier f l) refusal e = not_late l
    unread_only (unread why f w) refusal e = let same : why ≡ refusal = cc in rw same at w
    unread_only (heard m f a) refusal e = absurd (not_refused s (due_of s.context m.context) refusal e)
    unread_only (passed f a) refusal e = clash (cc)

    -- "A radio message handed in: as for reading": refused by that number and at that place
    pub radio_as_reading : (refusal : Refusal) → ((handed_in time s datagram).answer ≡ Err refusal) ↔ ReadingRefuses s.datalink.id datagram refusal
    radio_as_reading refusal = (unread_only handed refusal, λ w. ap (λ (r : AfterRadio). r.answer) (radio_refused_lem refusal w))

    heard_only : {h : AfterRadio} → Handed h → (m : Control) → received_in s.datalink.id datagram ≡ stated m → h ≡ heard_control time m s
    heard_only (outside f) m a = clash (sym f ∙ fitting)
    heard_only (earlier f l) m a = not_late l
    heard_only (unread refusal f w) m a = clash (cc (unheard s.datalink.id datagram refusal w))
    heard_only (heard n f b) m a = let same : n ≡ m = cc in rw same
    heard_only (passed f b) m a = clash (cc)

    -- "Radio control message accepted: .."
    pub radio_heard : (m : Control) → received_in s.datalink.id datagram ≡ stated m → handed_in time s datagram ≡ heard_control time m s
    radio_heard = heard_only handed

    -- an accepted data message moves the clock, and "changes nothing else"
    pub radio_passed : plane_of datagram ≡ Ok Plane.Data → (read_data ends.Radio s.datalink.id datagram).verdict ≡ Verdict.Accepted → handed_in time s datagram ≡ passed_on time s
    unfolding handed_in_under
    radio_passed p v = rw (fitting, on_time, p, v)

-- ---- the pacer asked: 19, then 21, and no other
module _ (s : State) (time : ℕ) where
  pub data Paced : Result PaceAnswer Refusal → Type 0 where
    asked_outside : state_fits s ≡ false → Paced (refused_pace OUTSIDE-LIMITS)
    asked_earlier : state_fits s ≡ true → time < s.pacer.clock → Paced (refused_pace EARLIER-PACE)
    asked_in_time : state_fits s ≡ true → s.pacer.clock ≤ time → Paced (answer_of (is_due time s.pacer) (is_silent time s.pacer))

  pub paced : Paced (pace_answer time s)
  unfolding pace_answer_under
  paced = go (state_fits s) refl (is_earlier time s.pacer) refl
    where
      go : (fits : Bool) → state_fits s ≡ fits → (early : Bool) → is_earlier time s.pacer ≡ early
          → Paced (cond fits (cond early (refused_pace EARLIER-PACE) (answer_of (is_due time s.pacer) (is_silent time s.pacer))) (refused_pace OUTSIDE-LIMITS))
      go false f early l = asked_outside f
      go true f true l = asked_earlier f (ltb-true _ _ l)
      go true f false l = asked_in_time f (ltb-false _ _ l)

  pub pace_unfit : state_fits s ≡ false → pace_answer time s ≡ refused_pace OUTSIDE-LIMITS
  unfolding pace_answer_under
  pace_unfit e = rw e

  pub pace_earlier : state_fits s ≡ true → time < s.pacer.clock → pace_answer time s ≡ refused_pace EARLIER-PACE
  unfolding pace_answer_under
  pace_earlier e l = rw (e, lt-ltb time s.pacer.clock l)

  pub pace_answered : state_fits s ≡ true → s.pacer.clock ≤ time → pace_answer time s ≡ answer_of (is_due time s.pacer) (is_silent time s.pacer)
  unfolding pace_answer_under
  pace_answered e l = rw (e, le-ltb time s.pacer.clock l)

-- ---- a query: "Refusals 19, then 18", and no other
one_number_lem : {number other : ℕ} → refused_by number ≡ refused_by other → number ≡ other
one_number_lem {number} {other} e =
    let same : ◌≡◌ {A = Refusal} (record { number = number; place = 0 }) (record { number = other; place = 0 }) = cc in
    ap (λ (refusal : Refusal). refusal.number) same

module _ (s : State) (out : List ℕ) where
  -- given an answer, the conditions
  pub data Answered : Result ByteCount Refusal → Type 0 where
    unfitting : state_fits s ≡ false → Answered (refused_by OUTSIDE-LIMITS)
    no_room : state_fits s ≡ true → length out < length (query_bytes s) → Answered (refused_by NO-ROOM)
    written : state_fits s ≡ true → length (query_bytes s) ≤ length out → Answered (Ok (record { 0 = length (query_bytes s) }))

  nineteen : {r : Result ByteCount Refusal} → Answered r → r ≡ refused_by OUTSIDE-LIMITS → state_fits s ≡ false
  nineteen (unfitting f) e = f
  nineteen (no_room f l) e = let z : NO-ROOM ≡ OUTSIDE-LIMITS = one_number_lem e in absurd (omega arith)
  nineteen (written f l) e = clash (cc)

  eighteen : {r : Result ByteCount Refusal} → Answered r → r ≡ refused_by NO-ROOM → (state_fits s ≡ true) × (length out < length (query_bytes s))
  eighteen (unfitting f) e = let z : OUTSIDE-LIMITS ≡ NO-ROOM = one_number_lem e in absurd (omega arith)
  eighteen (no_room f l) e = (f, l)
  eighteen (written f l) e = clash (cc)

  either : {r : Result ByteCount Refusal} → Answered r → (refusal : Refusal) → r ≡ Err refusal → (r ≡ refused_by OUTSIDE-LIMITS) ⊎ (r ≡ refused_by NO-ROOM)
  either (unfitting f) refusal e = inl refl
  either (no_room f l) refusal e = inr refl
  either (written f l) refusal e = clash (cc)

  module _ {memory : List ℕ} {r : Result ByteCount Refusal} {out' : List ℕ} {w' : World} (h : Performed (query out) (lending s memory) (of_query r out') w') where
    answer_is : r ≡ query_answer s out
    answer_is = (query_gives h).0

    pub query_answered : Answered r
    query_answered = go (state_fits s) refl (ltb (length out) (length (query_bytes s))) refl
      where
        go : (fits : Bool) → state_fits s ≡ fits → (short : Bool) → ltb (length out) (length (query_bytes s)) ≡ short → Answered r
        go false f short l = let is : r ≡ refused_by OUTSIDE-LIMITS = answer_is ∙ rw f in rw is (unfitting f)
        go true f true l = let is : r ≡ refused_by NO-ROOM = answer_is ∙ rw (f, l) in rw is (no_room f (ltb-true _ _ l))
        go true f false l =
            let is : r ≡ Ok (record { 0 = length (query_bytes s) }) = answer_is ∙ rw (f, l, le-ltb LONGEST-DATAGRAM (length (query_bytes s)) (query_short s)) in
            rw is (written f (ltb-false _ _ l))

    pub query_nineteen : (r ≡ refused_by OUTSIDE-LIMITS) ↔ (state_fits s ≡ false)
    query_nineteen = (nineteen query_answered, λ f. answer_is ∙ rw f)

    pub query_eighteen : (r ≡ refused_by NO-ROOM) ↔ ((state_fits s ≡ true) × (length out < length (query_bytes s)))
    query_eighteen = (eighteen query_answered, λ w. answer_is ∙ rw (w.0, lt-ltb (length out) (length (query_bytes s)) w.1))

    -- else it is written, over the first bytes of the output
    pub query_else : state_fits s ≡ true → length (query_bytes s) ≤ length out
        → (r ≡ Ok (record { 0 = length (query_bytes s) })) × (out' ≡ over (query_bytes s) out)
    query_else f l =
        let long = le-ltb (length out) (length (query_bytes s)) l in
        let short = le-ltb LONGEST-DATAGRAM (length (query_bytes s)) (query_short s) in
        (answer_is ∙ rw (f, long, short), (query_gives h).1 ∙ rw (f, long, short))

    -- never by 20
    pub query_only : (refusal : Refusal) → r ≡ Err refusal → (r ≡ refused_by OUTSIDE-LIMITS) ⊎ (r ≡ refused_by NO-ROOM)
    query_only = either query_answered

-- ---- a start: 19, then 22
one_start : {number other : ℕ} → not_started number ≡ not_started other → number ≡ other
one_start {number} {other} e =
    let same : ◌≡◌ {A = Refusal} (record { number = number; place = 0 }) (record { number = other; place = 0 }) = cc in
    ap (λ (refusal : Refusal). refusal.number) same

module _ (k : Configuration) (room : Bool) (w : World) where
  -- the configuration is outside the limits, the memory's length "isn't the sum of the stores", or what is lent for the state is of another length
  abbrev Unstartable : Type 0
  Unstartable = (configuration_fits k ≡ false) ⊎ ((length w.memory ≡ stores_of k → ⊥) ⊎ (room ≡ false))

  unfit : start_fits_of k room w.memory ≡ false → Unstartable
  unfolding start_fits_of
  unfit e = go (configuration_fits k) refl (eqb (length w.memory) (stores_of k)) refl
    where
      go : (fits : Bool) → configuration_fits k ≡ fits → (long : Bool) → eqb (length w.memory) (stores_of k) ≡ long → Unstartable
      go false f long l = inl f
      go true f false l = inr (inl (eqb-false (length w.memory) (stores_of k) l))
      go true f true l = inr (inr (rw (f, l) at e))

  unfit_start : Unstartable → start_fits_of k room w.memory ≡ false
  unfolding start_fits_of
  unfit_start (inl f) = rw f
  unfit_start (inr (inl other)) = rw (ne_eqb (length w.memory) (stores_of k) other, and-false)
  unfit_start (inr (inr none)) = rw (none, and-false, and-false)

  all_fit : configuration_fits k ≡ true → length w.memory ≡ stores_of k → room ≡ true → start_fits_of k room w.memory ≡ true
  unfolding start_fits_of
  all_fit f long there = rw (f, eq-eqb (length w.memory) (stores_of k) long, there)

  -- "HelloTime or silence limit of 0"
  no_wait : waits_fit k ≡ false → (k.hello ≡ 0) ⊎ (k.limit ≡ 0)
  no_wait e = go (ltb 0 k.hello) refl
    where
      go : (b : Bool) → ltb 0 k.hello ≡ b → (k.hello ≡ 0) ⊎ (k.limit ≡ 0)
      go false h = let small = ltb-false 0 k.hello h in inl (omega arith)
      go true h = let small = ltb-false 0 k.limit (rw h at e) in inr (omega arith)

  wait_none : (k.hello ≡ 0) ⊎ (k.limit ≡ 0) → waits_fit k ≡ false
  wait_none (inl none) = rw none
  wait_none (inr none) = rw (none, and-false)

  -- what an answer tells
  data Told : Result (Unit {0}) Refusal → Type 0 where
    outside : start_fits_of k room w.memory ≡ false → Told (not_started OUTSIDE-LIMITS)
    waitless : start_fits_of k room w.memory ≡ true → waits_fit k ≡ false → Told (not_started NO-WAIT)
    begun : start_fits_of k room w.memory ≡ true → waits_fit k ≡ true → Told (Ok tt)

  told_by : Told (start_answer k room w.memory)
  told_by = go (start_fits_of k room w.memory) refl (waits_fit k) refl
    where
      go : (fits : Bool) → start_fits_of k room w.memory ≡ fits → (waits : Bool) → waits_fit k ≡ waits
          → Told (cond fits (cond waits (Ok tt) (not_started NO-WAIT)) (not_started OUTSIDE-LIMITS))
      go false f waits l = outside f
      go true f false l = waitless f l
      go true f true l = begun f l

  module _ {answer : Result (Unit {0}) Refusal} {w' : World} (h : Started k room w answer w') where
    told : Told answer
    told = subst Told (sym h.answer_is) told_by

    by_nineteen : {a : Result (Unit {0}) Refusal} → Told a → a ≡ not_started OUTSIDE-LIMITS → Unstartable
    by_nineteen (outside f) e = unfit f
    by_nineteen (waitless f l) e = let z : NO-WAIT ≡ OUTSIDE-LIMITS = one_start e in absurd (omega arith)
    by_nineteen (begun f l) e = clash (cc)

    by_twenty_two : {a : Result (Unit {0}) Refusal} → Told a → a ≡ not_started NO-WAIT → (start_fits_of k room w.memory ≡ true) × (waits_fit k ≡ false)
    by_twenty_two (outside f) e = let z : OUTSIDE-LIMITS ≡ NO-WAIT = one_start e in absurd (omega arith)
    by_twenty_two (waitless f l) e = (f, l)
    by_twenty_two (begun f l) e = clash (cc)

    -- refused by 19 exactly then
    pub start_nineteen : (answer ≡ not_started OUTSIDE-LIMITS) ↔ ((configuration_fits k ≡ false) ⊎ ((length w.memory ≡ stores_of k → ⊥) ⊎ (room ≡ false)))
    start_nineteen = (by_nineteen told, λ v. h.answer_is ∙ rw (unfit_start v))

    fits_parts : start_fits_of k room w.memory ≡ true → (configuration_fits k ≡ true) × (length w.memory ≡ stores_of k) × (room ≡ true)
    unfolding start_fits_of
    fits_parts f =
        let a = (and-eq-true_iff (configuration_fits k) _).0 f in
        let b = (and-eq-true_iff (eqb (length w.memory) (stores_of k)) room).0 a.1 in
        (a.0, eqb-true _ _ b.0, b.1)

    -- refused by 22, "HelloTime or silence limit of 0, tested last in configuration", exactly then
    pub start_twenty_two : (answer ≡ not_started NO-WAIT)
        ↔ ((configuration_fits k ≡ true) × (length w.memory ≡ stores_of k) × (room ≡ true) × ((k.hello ≡ 0) ⊎ (k.limit ≡ 0)))
    start_twenty_two = (
      λ e. let v = by_twenty_two told e in let p = fits_parts v.0 in (p.0, p.1, p.2, no_wait v.1),
      λ v. h.answer_is ∙ rw (all_fit v.0 v.1 v.2, wait_none v.3),
    )

    -- by no other number
    only_these : {a : Result (Unit {0}) Refusal} → Told a → (refusal : Refusal) → a ≡ Err refusal → (a ≡ not_started OUTSIDE-LIMITS) ⊎ (a ≡ not_started NO-WAIT)
    only_these (outside f) refusal e = inl refl
    only_these (waitless f l) refusal e = inr refl
    only_these (begun f l) refusal e = clash (cc)

    pub start_only : (refusal : Refusal) → answer ≡ Err refusal → (answer ≡ not_started OUTSIDE-LIMITS) ⊎ (answer ≡ not_started NO-WAIT)
    start_only = only_these told

    -- else started: "A fresh start fills each store with zeros."
    pub start_else : configuration_taken k ≡ true → length w.memory ≡ stores_of k → room ≡ true
        → (answer ≡ Ok tt) × (w' ≡ record { state = fresh_state k; memory = replicate (length w.memory) 0 })
    start_else taken long there = (h.answer_is ∙ rw (all, waits), h.world_is ∙ rw (all, waits))
      where
        all : start_fits_of k room w.memory ≡ true
        all = all_fit ((and-eq-true_iff (configuration_fits k) (waits_fit k)).0 taken).0 long there

        waits : waits_fit k ≡ true
        waits = ((and-eq-true_iff (configuration_fits k) (waits_fit k)).0 taken).1
