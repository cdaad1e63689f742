-- Any calls: what passes obeys on a flow-controlled channel. Assumes nothing.
use Rattle.std.specs.Prelude.{Option, Some, None, Result, Ok, Err}
use Rattle.quantity.specs.declared.count.FlowSequence.{FlowSequence}
use Rattle.quantity.specs.declared.refusal.Refusal.{Refusal}
use Rattle.meaning.specs.declared.message.Plane.{Plane}
use mathlib.Core.Path.{◌≡◌, refl, sym, ap, subst, ◌∙◌}
use mathlib.Core.Bool.{Bool, true, false, cond}
use mathlib.Core.List.{List, [], ◌∷◌, ◌++◌, map, append-nil}
use Prim.Native.Nat.{ℕ, ◌<◌}
use borrow.Author.Tests.{lt-ltb, eq-eqb, ne_eqb, eqb-true, eqb-false}
use lib.Dec.{eqb, ltb}
use lib.ListN.{length, get_or, take, drop}
use lib.Seq.{take_at}
use Rattle.quantity.specs.declared.count.DatalinkId.{DatalinkId}
use Rattle.quantity.specs.Limits.{LONGEST-DATAGRAM}
use Rattle.quantity.specs.Refusals.{LONG-DATAGRAM, HEADER, NO-ROOM, OUTSIDE-LIMITS}
use Rattle.wire.specs.Options.{over}
use Rattle.meaning.specs.declared.message.Control.{Control}
use Rattle.meaning.specs.declared.message.End.{End}
use Rattle.reader.specs.Header.{version_of, flag_of, CURRENT-VERSION, read_with}
use Rattle.reader.specs.Readings.{Verdict, read_control, read_data, packet_of, plane_of}
use Rattle.reader.proofs.Planes.{plane_refuses, control_of_data}
use Rattle.read_control.specs.Message.{control_refused}
use Rattle.read_data.specs.Message.{data_refused, data_other}
use Rattle.writer.specs.Written.{control_written, no_room_of}
use Rattle.ips_channel_rules.specs.Rules as rules
use Rattle.ips_channel_rules.specs.Rules.{ChannelCall, offer, next, withdraw, Says, Tried, nothing_waiting, not_operational, window_shut, sent, Answer, refused, answered, taken, emptied, called, Terms, Condition, counted_on, radio_at, step, happens, final}
use Rattle.ips_channel_rules.specs.Machine.{WordCounter, machine}
use Rattle.ips_channel_rules.proofs.Leaves.{leaves}
use Rattle.ips_channel_calls.specs.declared.asking.NextAnswer.{NextAnswer}
use Rattle.ips_channel_calls.specs.Calls.{asked, next_answer, output_after}
use Rattle.ips_state.specs.Limits.{state_fits}
use Rattle.ips_state.specs.Memory.{World, index_in}
use Rattle.ips_query.specs.Query.{query_of}
use Rattle.ips_radio.specs.Heard.{window_in, due_of}
use Rattle.ips_run.specs.Calling.{terms_in, calling}
use Rattle.ips_run.specs.Run.{Call, on, radio, pace, query, Received, received_in, accepted_in, in_time, accepted_under, accepted_by, silent_by, part_of, if_silent, after, sees, happens_to}
use Rattle.ips_run.specs.Run as run
use Rattle.ips_run.specs.Demand.{bytes_in, BytesIn, RuledIn, Follows}
use Rattle.ips_run.proofs.Exact.{accepted_in_time, accepted_late}
use Rattle.ips_run.proofs.Project.{own_datalink, step_follows}
use Rattle.ips_radio.specs.declared.RadioAnswer.{RadioAnswer}
use Rattle.ips_calls.specs.Radio.{AfterRadio}
use Rattle.ips_calls.specs.Query.{query_bytes}
use Rattle.ips_calls.specs.Replies.{of_channel, reply_of, if_sent, if_wrote}
use Rattle.ips_calls.specs.Calls.{Performed}
use Rattle.ips_calls.specs.Ran.{replies_of}
use Rattle.ips_calls.specs.ReadBack.{ReadBack}
use Rattle.ips_calls.proofs.Counted.{reads_back}
use Rattle.ips_calls.proofs.Exactly.{unheard, Handed, outside, earlier, unread, heard, passed, handed}
use Rattle.conduct_rules.specs.declared.Flow.{Flow}
use Rattle.conduct.specs.Outcomes.{Message, control, packet, nothing, if_accepted, sequence_of, data_of, heard_in, sent_in}
use Rattle.own_conduct.specs.Captured.{to_ips, to_radio, if_heard, passed_by, passed_in}
use Rattle.own_conduct.proofs.Channel.{Agrees, heard_agrees, silence_agrees, Goes, goes, After, leaves_after}
use Rattle.own_conduct.proofs.Obeying.{if_message, messages_in, messages_append, Obeying}

-- ---- a radio message handed in: the judge reads the control message that the endpoint accepts

abbrev controls : List Control → List Message
controls [] = []
controls (m ∷ ms) = control m.windows ∷ controls ms

heard_messages : (id : DatalinkId) (datagram : List ℕ) → if_message (heard_in id datagram) ≡ controls (accepted_in id datagram)
unfolding accepted_in received_in control_refused
heard_messages id datagram = go (plane_of datagram) refl
  where
    by_verdict_lem : (v : Verdict) (m : Control) → if_message (if_accepted v (control m.windows)) ≡ controls (run.messages_in (run.if_accepted v (run.stated m)))
    by_verdict_lem Verdict.Accepted m = refl
    by_verdict_lem (Verdict.Refused refusal) m = refl
    by_verdict_lem Verdict.OtherPlane m = refl

    carries : (v : Verdict) → [] ≡ controls (run.messages_in (run.if_accepted v run.carried))
    carries Verdict.Accepted = refl
    carries (Verdict.Refused refusal) = refl
    carries Verdict.OtherPlane = refl

    go : (plane : Result Plane Refusal) → plane_of datagram ≡ plane
        → if_message (heard_in id datagram) ≡ controls (run.messages_in (run.by_plane plane (run.control_read (read_control End.Radio id datagram)) (run.data_read (read_data End.Radio id datagram))))
    go (Ok Plane.Control) p = by_verdict_lem (read_control End.Radio id datagram).verdict (read_control End.Radio id datagram).message
    go (Ok Plane.Data) p = rw (control_of_data End.Radio id datagram p) (carries (read_data End.Radio id datagram).verdict)
    go (Err refusal) p = rw (plane_refuses End.Radio id datagram p).0

-- what passed of a radio message handed in is what the endpoint accepted of it
radio_messages : (w : World) (time : ℕ) (datagram : List ℕ)
    → messages_in w.state.datalink.id (passed_by (radio time datagram) (reply_of (radio time datagram) w)) ≡ controls (accepted_by (radio time datagram) w)
unfolding accepted_in
radio_messages w time datagram = go (handed w.state time datagram)
  where
    came : in_time time w.state ≡ true → messages_in w.state.datalink.id (to_ips datagram ∷ []) ≡ controls (accepted_by (radio time datagram) w)
    came f = append-nil (if_message (heard_in w.state.datalink.id datagram)) ∙ heard_messages w.state.datalink.id datagram ∙ ap controls (sym (accepted_in_time w time datagram f))

    either : (due : Bool) → in_time time w.state ≡ true
        → messages_in w.state.datalink.id (if_heard (cond due (Ok RadioAnswer.Due) (Ok RadioAnswer.Accepted)) datagram) ≡ controls (accepted_by (radio time datagram) w)
    either true f = came f
    either false f = came f

    go : {h : AfterRadio} → Handed w.state time datagram h → messages_in w.state.datalink.id (if_heard h.answer datagram) ≡ controls (accepted_by (radio time datagram) w)
    go (outside f) = rw (accepted_late w time datagram (rw f))
    go (earlier f l) = rw (accepted_late w time datagram (rw (f, lt-ltb time w.state.pacer.clock l)))
    go (unread refusal f why) = rw (accepted_in_time w time datagram f, unheard w.state.datalink.id datagram refusal why)
    go (heard m f a) = either (due_of w.state.context m.context) f
    go (passed f a) = came f

-- ---- a call on a channel: the judge reads the data message that Next hands over

abbrev sent_of : (id : ℕ) (c : ChannelCall) → Answer (Says c) → List Message
sent_of id c (refused number) = []
sent_of id (offer bytes time) (answered taken) = []
sent_of id (next time out) (answered nothing_waiting) = []
sent_of id (next time out) (answered not_operational) = []
sent_of id (next time out) (answered window_shut) = []
sent_of id (next time out) (answered (sent bytes carried)) = packet id (record { 0 = length bytes }) carried ∷ []
sent_of id withdraw (answered emptied) = []

counted_back : (id : ℕ) (carried : Option FlowSequence) → sequence_of (counted_on id carried) ≡ carried
counted_back id None = refl
counted_back id (Some sequence) = refl

read_in : {k : Terms} {id : ℕ} {bytes : List ℕ} {carried : Option FlowSequence} {answer : Result NextAnswer Refusal} {out : List ℕ} → ReadBack k id bytes carried answer out
    → messages_in k.datalink (map to_radio (if_sent answer out)) ≡ packet id (record { 0 = length bytes }) carried ∷ []
read_in {k} {carried = carried} back = rw (back.counted, back.accepted, back.carries, counted_back k.id carried, back.named)

module _ (w : World) (id : ℕ) where
  channel_messages : (c : ChannelCall) → messages_in w.state.datalink.id (passed_by (on id c) (reply_of (on id c) w)) ≡ sent_of id c (calling id c w).answer
  channel_messages (offer bytes time) = go (calling id (offer bytes time) w).answer
    where
      go : (a : Answer (Says (offer bytes time))) → [] ≡ sent_of id (offer bytes time) a
      go (refused number) = refl
      go (answered taken) = refl
  channel_messages withdraw = go (calling id withdraw w).answer
    where
      go : (a : Answer (Says withdraw)) → [] ≡ sent_of id withdraw a
      go (refused number) = refl
      go (answered emptied) = refl
  channel_messages (next time out) = go (calling id (next time out) w).answer refl
    where
      go : (a : Answer Tried) → (calling id (next time out) w).answer ≡ a
          → messages_in w.state.datalink.id (map to_radio (if_sent (next_answer (terms_in w (index_in w id)) a) (output_after (terms_in w (index_in w id)) a out))) ≡ sent_of id (next time out) a
      go (refused number) e = refl
      go (answered nothing_waiting) e = refl
      go (answered not_operational) e = refl
      go (answered window_shut) e = refl
      go (answered (sent bytes carried)) e =
          let done : Performed (on id (next time out)) w (of_channel (asked (next_answer (terms_in w (index_in w id)) (answered (sent bytes carried))) (output_after (terms_in w (index_in w id)) (answered (sent bytes carried)) out))) (after (on id (next time out)) w) =
          record { reply_is = rw e; world_is = refl } in
          read_in (reads_back w id time out bytes carried e _ _ _ done)

-- ---- a query: a control message, which is nothing to the judge

header_nothing : (id : DatalinkId) (datagram : List ℕ) → flag_of (get_or datagram 0 0) ≡ 0 → sent_in id datagram ≡ nothing
unfolding read_data read_with data_refused data_other
header_nothing id datagram e = rw e (go (ltb LONGEST-DATAGRAM (length datagram)) (eqb (length datagram) 0) (eqb (version_of (get_or datagram 0 0)) CURRENT-VERSION))
  where
    go : (long empty version : Bool)
        → data_of (cond long (data_refused LONG-DATAGRAM 0) (cond empty (data_refused HEADER 0) (cond version data_other (data_refused HEADER 0)))) (packet_of datagram) ≡ nothing
    go true empty version = refl
    go false true version = refl
    go false false true = refl
    go false false false = refl

query_nothing : (id : DatalinkId) (m : Control) (out : List ℕ) → sent_in id (take (length (control_written m)) (over (control_written m) out)) ≡ nothing
unfolding control_written
query_nothing id m out =
    let message : List ℕ = control_written m in
    rw (take_at message (drop (length message) out) (length message) refl) (header_nothing id message refl)

query_messages : (id : DatalinkId) (w : World) (out : List ℕ) → messages_in id (passed_by (query out) (reply_of (query out) w)) ≡ []
query_messages id w out = go (state_fits w.state) (no_room_of (length message) (length out))
  where
    message : List ℕ
    message = query_bytes w.state

    go : (fits none : Bool)
        → messages_in id (map to_radio (if_wrote (cond fits (cond none (Err (record { number = NO-ROOM; place = 0 })) (Ok (record { 0 = length (query_bytes w.state) }))) (Err (record { number = OUTSIDE-LIMITS; place = 0 })))
        (cond fits (cond none out (over (query_bytes w.state) out)) out)))
        ≡ []
    go false none = refl
    go true true = refl
    go true false = rw (query_nothing id (query_of w.state) out)

-- ---- one call on the channel, and one on another

module _ (own : ℕ) (flow : Flow) (base : Option FlowSequence) (rest : List Message) where
  -- what is left to be shown, from a count on
  abbrev Onward : WordCounter → Type 0
  Onward counter = (flow : Flow) (base : Option FlowSequence) → Agrees flow base counter → Obeying own flow base rest

  module _ {counter counter' : WordCounter} (agrees : Agrees flow base counter) (onward : Onward counter') where
    still : counter' ≡ counter → Obeying own flow base rest
    still e = onward flow base (rw e agrees)

    own_call : (c : ChannelCall) (a : Answer (Says c)) → After (called c a) counter counter' → Obeying own flow base (sent_of own c a ++ rest)
    own_call c (refused number) e = still e
    own_call (offer bytes time) (answered taken) e = still e
    own_call (next time out) (answered nothing_waiting) e = still e
    own_call (next time out) (answered not_operational) e = still e
    own_call (next time out) (answered window_shut) e = still e
    own_call (next time out) (answered (sent bytes carried)) went =
        let gone : Goes flow base (record { 0 = length bytes }) carried counter' = rw (went.carried_is, went.counter_is) (goes (record { 0 = length bytes }) agrees went.fits) in
        rw (eq-eqb own own refl) ((λ e. gone.obeys), onward flow _ gone.agrees)
    own_call withdraw (answered emptied) e = still e

  module _ {counter : WordCounter} (agrees : Agrees flow base counter) (onward : Onward counter) where
    other_call : (id : ℕ) → (id ≡ own → ⊥) → (c : ChannelCall) (a : Answer (Says c)) → Obeying own flow base (sent_of id c a ++ rest)
    other_call id n c (refused number) = onward flow base agrees
    other_call id n (offer bytes time) (answered taken) = onward flow base agrees
    other_call id n (next time out) (answered nothing_waiting) = onward flow base agrees
    other_call id n (next time out) (answered not_operational) = onward flow base agrees
    other_call id n (next time out) (answered window_shut) = onward flow base agrees
    other_call id n (next time out) (answered (sent bytes carried)) = rw (ne_eqb id own n) ((λ e. absurd (n e)), onward flow base agrees)
    other_call id n withdraw (answered emptied) = onward flow base agrees

-- ---- any call

-- a datagram brings no message or one
abbrev few : List Control → Type 0
few [] = Unit {0}
few (m ∷ []) = Unit {0}
few (m ∷ (n ∷ ms)) = ⊥

accepted_few : (w : World) (time : ℕ) (datagram : List ℕ) → few (accepted_by (radio time datagram) w)
unfolding accepted_under accepted_in
accepted_few w time datagram = go (in_time time w.state) (received_in w.state.datalink.id datagram)
  where
    go : (t : Bool) (r : Received) → few (cond t (run.messages_in r) [])
    go false r = tt
    go true run.dropped = tt
    go true run.carried = tt
    go true (run.stated m) = tt

module _ (k : Terms) (count index : ℕ) (inside : index < count) (controlled : k.controlled ≡ true) where
  module _ (w : World) (st : Condition machine) (p : RuledIn k count index w st) (flow : Flow) (base : Option FlowSequence) (agrees : Agrees flow base st.counting) (rest : List Message) where
    accepted_obeys : (messages : List Control) → few messages → Onward k.id flow base rest (final machine k (map (part_of k.id) messages) st).counting
        → Obeying k.id flow base (controls messages ++ rest)
    unfolding radio_at
    accepted_obeys [] one onward = onward flow base agrees
    accepted_obeys (m ∷ []) one onward = (tt, onward _ base (rw controlled (heard_agrees (window_in m k.id) agrees)))
    accepted_obeys (m ∷ (n ∷ ms)) one onward = absurd one

    -- a silence: the judge saw nothing of it, and nothing goes until the next radio control message
    silence_obeys : (silent : Bool) → Onward k.id flow base rest (final machine k (if_silent silent rules.silence) st).counting → Obeying k.id flow base rest
    unfolding radio_at
    silence_obeys true onward = onward flow base (rw controlled (silence_agrees agrees))
    silence_obeys false onward = onward flow base agrees

    channel_obeys : (id : ℕ) (c : ChannelCall) → Follows k count index (after (on id c) w) (happens_to k.id (on id c) w) (sees k.id (on id c) w) st
        → Onward k.id flow base rest (final machine k (sees k.id (on id c) w) st).counting → Obeying k.id flow base (sent_of id c (calling id c w).answer ++ rest)
    channel_obeys id c follows onward = go (eqb k.id id) refl follows.history_is onward
      where
        go : (b : Bool) → eqb k.id id ≡ b
            → cond b (called c (calling id c w).answer ∷ []) [] ≡ rules.history machine k (cond b (rules.call c ∷ []) []) st
            → Onward k.id flow base rest (final machine k (cond b (rules.call c ∷ []) []) st).counting → Obeying k.id flow base (sent_of id c (calling id c w).answer ++ rest)
        go true e h onward =
            let same : k.id ≡ id = eqb-true k.id id e in
            let is : called c (calling id c w).answer ≡ happens machine k (rules.call c) st = cc in
            let left : After (called c (calling id c w).answer) st.counting (step machine k (rules.call c) st).counting = rw is (leaves_after (leaves machine k (rules.call c) st)) in
            subst (λ (n : ℕ). Obeying k.id flow base (sent_of n c (calling id c w).answer ++ rest)) same (own_call k.id flow base rest agrees onward c (calling id c w).answer left)
        go false e h onward = other_call k.id flow base rest agrees onward id (λ q. eqb-false k.id id e (sym q)) c (calling id c w).answer

    call_obeys : (c : Call) → bytes_in c → Onward k.id flow base rest (final machine k (sees k.id c w) st).counting
        → Obeying k.id flow base (messages_in k.datalink (passed_by c (reply_of c w)) ++ rest)
    call_obeys (on id c) b onward =
        rw (← (own_datalink k count index inside w st p), channel_messages w id c) (channel_obeys id c (step_follows k count index inside w st p (on id c) b) onward)
    call_obeys (radio time datagram) b onward =
        rw (← (own_datalink k count index inside w st p), radio_messages w time datagram) (accepted_obeys (accepted_by (radio time datagram) w) (accepted_few w time datagram) onward)
    call_obeys (pace time) b onward = silence_obeys (silent_by (pace time) w) onward
    call_obeys (query out) b onward = rw (query_messages k.datalink w out) (onward flow base agrees)

  pub run_obeys : (cs : List Call) → BytesIn cs → (w : World) (st : Condition machine) → RuledIn k count index w st → (flow : Flow) (base : Option FlowSequence) → Agrees flow base st.counting
      → Obeying k.id flow base (messages_in k.datalink (passed_in cs (replies_of cs w)))
  run_obeys [] bytes w st p flow base agrees = tt
  run_obeys (c ∷ cs) bytes w st p flow base agrees =
      let rest : List Message = messages_in k.datalink (passed_in cs (replies_of cs (after c w))) in
      rw (messages_append k.datalink (passed_by c (reply_of c w)) (passed_in cs (replies_of cs (after c w))))
      (call_obeys w st p flow base agrees rest c bytes.0
      (run_obeys cs bytes.1 (after c w) (final machine k (sees k.id c w) st) (step_follows k count index inside w st p c bytes.0).ruled_in))
