-- Demand 3's sentence, of any calls as they should be on a state: each channel's own replies are those for the simple channel's answers, and what it holds is what
-- the simple channel holds. The code's own outcomes are on words, in `endpoint`. Assumes nothing.
use Rattle.std.specs.Prelude.{Ok}
use Prim.Native.Nat.{ℕ, ◌^◌, ◌<◌}
use mathlib.Core.Bool.{Bool, true, false, cond}
use mathlib.Core.List.{List, [], ◌∷◌, ◌++◌, map}
use mathlib.Core.Path.{◌≡◌, refl, sym, ap, ◌∙◌}
use borrow.Author.Tests.{eqb-true}
use lib.ListN.{length}
use lib.Dec.{eqb}
use Rattle.facts.proofs.Tests.{clash}
use Rattle.quantity.specs.Refusals.{OUTSIDE-LIMITS, NO-WAIT}
use Rattle.meaning.specs.declared.message.Control.{Control}
use Rattle.store.specs.Waiting.{Holds, packets_of}
use Rattle.ips_channel_rules.specs.Rules as rules
use Rattle.ips_channel_rules.specs.Rules.{ChannelCall, Says, Answer, Happened, Terms, Condition, history}
use Rattle.ips_channel_rules.specs.Machine.{machine}
use Rattle.ips_channel_rules.specs.Simple.{simple, is_waiting, having}
use Rattle.ips_channel_calls.specs.Calls.{reply_to}
use Rattle.ips_channel_calls.specs.ChannelRan.{replies_to}
use Rattle.ips_state.specs.State.{Configuration, start_at}
use Rattle.ips_state.specs.Limits.{waits_fit, configuration_taken}
use Rattle.ips_state.specs.Memory.{World, channel_in, store_in}
use Rattle.ips_run.specs.Calling.{calling}
use Rattle.ips_run.specs.Run.{Call, on, radio, pace, query, if_own, if_silent, part_heard, accepted_by, silent_by, fresh_world, after, happens_all}
use Rattle.ips_run.specs.Demand.{BytesIn, id_at, reached, ruled, seen, fresh_at, simply_at, RuledIn}
use Rattle.ips_run.specs.Settling.{ledger_at}
use Rattle.ips_run.proofs.Project.{own_terms, step_follows}
use Rattle.ips_run.proofs.Fresh.{fresh_in}
use Rattle.ips_run.proofs.Whole.{waiting_of, whole_history, whole_holds, whole_tidy, reached_fits}
use Rattle.ips_calls.specs.Replies.{EndpointReply, of_channel, reply_of}
use Rattle.ips_calls.specs.Start.{start_fits_of, starts, not_started, Started}
use Rattle.ips_calls.specs.Ran.{Ran, replies_of}
use Rattle.ips_calls.specs.Own.{own_replies, ServedSimply}
use Rattle.ips_calls.proofs.Ran.{ran_world, ran_replies, start_configured, begins}

-- nobody answers for a radio message's part
heard_out : (k : Terms) (messages : List Control) (hs : List Happened) → replies_to k (map (part_heard k.id) messages ++ hs) ≡ replies_to k hs
heard_out k [] hs = refl
heard_out k (m ∷ messages) hs = heard_out k messages hs

-- nor for a silence
silent_out : (k : Terms) (silent : Bool) (hs : List Happened) → replies_to k (if_silent silent rules.silent ++ hs) ≡ replies_to k hs
silent_out k true hs = refl
silent_out k false hs = refl

-- a call on a channel, and then others
told : (k : Terms) (id : ℕ) (c : ChannelCall) (x : EndpointReply) (a : Answer (Says c)) → (k.id ≡ id → x ≡ of_channel (reply_to k c a)) → (xs : List EndpointReply) (hs : List Happened)
    → xs ≡ map of_channel (replies_to k hs) → if_own k.id id x ++ xs ≡ map of_channel (replies_to k (if_own k.id id (rules.called c a) ++ hs))
told k id c x a reply xs hs more = go (eqb k.id id) refl
  where
    go : (b : Bool) → eqb k.id id ≡ b → cond b (x ∷ []) [] ++ xs ≡ map of_channel (replies_to k (cond b (rules.called c a ∷ []) [] ++ hs))
    go true t = rw (reply (eqb-true _ _ t)) (ap (λ (l : List EndpointReply). of_channel (reply_to k c a) ∷ l) more)
    go false t = more

-- any calls, from a world in which the channel is as the rules have it
own_told : (k : Terms) (count index : ℕ) → index < count → (cs : List Call) → BytesIn cs → (w : World) (st : Condition machine) → RuledIn k count index w st
    → own_replies k.id cs (replies_of cs w) ≡ map of_channel (replies_to k (happens_all k.id cs w))
own_told k count index inside [] b w st p = refl
own_told k count index inside (c ∷ cs) b w st p = by c (own_told k count index inside cs b.1 (after c w) _ (step_follows k count index inside w st p c b.0).ruled_in)
  where
    by : (d : Call) → own_replies k.id cs (replies_of cs (after d w)) ≡ map of_channel (replies_to k (happens_all k.id cs (after d w)))
        → own_replies k.id (d ∷ cs) (replies_of (d ∷ cs) w) ≡ map of_channel (replies_to k (happens_all k.id (d ∷ cs) w))
    by (on id call) more = told k id call (reply_of (on id call) w) (calling id call w).answer (λ own. rw (own_terms k count index inside w st p id own)) _ _ more
    by (radio time datagram) more = more ∙ ap (map of_channel) (sym (heard_out k (accepted_by (radio time datagram) w) (happens_all k.id cs (after (radio time datagram) w))))
    by (pace time) more = more ∙ ap (map of_channel) (sym (silent_out k (silent_by (pace time) w) (happens_all k.id cs (after (pace time) w))))
    by (query out) more = more

module _ (k : Configuration) (fits : configuration_taken k ≡ true) (index : ℕ) (inside : index < length k.starts)
    (small : (start_at k index).first.0 < 2 ^ 32) where
  own_replies_lem : (cs : List Call) → BytesIn cs
      → own_replies (id_at k index) cs (replies_of cs (fresh_world k)) ≡ map of_channel (replies_to (ruled k index) (history simple (ruled k index) (seen k index cs) (simply_at k index)))
  own_replies_lem cs bytes =
      own_told (ruled k index) (length k.starts) index inside cs bytes (fresh_world k) (fresh_at k index) (fresh_in k fits index inside)
      ∙ ap (λ (hs : List Happened). map of_channel (replies_to (ruled k index) hs)) (whole_history k fits index inside small cs bytes)

  -- queue and store hold what waits in the simple channel's ledger
  own_keeps : (cs : List Call) → BytesIn cs
      → Holds (start_at k index).setting.size.0 (having is_waiting (ledger_at k index cs)) (channel_in (reached k cs) index).queue (store_in (reached k cs) index)
  own_keeps cs bytes =
      let c = channel_in (reached k cs) index in
      let store = store_in (reached k cs) index in
      let waiting : packets_of c.queue store ≡ having is_waiting (ledger_at k index cs) = sym (waiting_of c store) ∙ (whole_holds k fits index inside small cs bytes).waiting in
      let size : c.setting.size.0 ≡ (start_at k index).setting.size.0 = ap (λ (x : Terms). x.size) ((reached_fits k fits cs bytes).terms index inside) in
      rw (← waiting, ← size) (whole_tidy k fits index inside cs bytes)

  -- DEMAND 3'S SENTENCE, of calls as they should be on a state
  pub ran_own : (cs : List Call) → BytesIn cs → (xs : List EndpointReply) (last : World) → Ran (fresh_world k) cs xs last → ServedSimply k index cs xs last
  ran_own cs bytes xs last run =
      rw (ran_world run, ran_replies run)
      (record { replies = own_replies_lem cs bytes; holds = whole_holds k fits index inside small cs bytes; keeps = own_keeps cs bytes })

-- a start that is answered so is one that neither 19 nor 22 refuses
started_fits : (k : Configuration) (room : Bool) (w w' : World) → Started k room w (Ok tt) w' → starts k room w.memory ≡ true
started_fits k room w w' h = go (start_fits_of k room w.memory) refl (waits_fit k) refl
  where
    go : (fits : Bool) → start_fits_of k room w.memory ≡ fits → (waits : Bool) → waits_fit k ≡ waits → starts k room w.memory ≡ true
    go true f true l = rw (f, l)
    go true f false l = let refused : Ok tt ≡ not_started NO-WAIT = rw (f, l) at h.answer_is in clash (cc)
    go false f waits l = let refused : Ok tt ≡ not_started OUTSIDE-LIMITS = rw f at h.answer_is in clash (cc)

-- "any sequence of calls from a fresh start", both as they should be on a state
pub started_own : (k : Configuration) (room : Bool) (lent w : World) → Started k room lent (Ok tt) w
    → (index : ℕ) → index < length k.starts → (start_at k index).first.0 < 2 ^ 32
    → (cs : List Call) → BytesIn cs → (xs : List EndpointReply) (last : World) → Ran w cs xs last → ServedSimply k index cs xs last
started_own k room lent w begun index inside small cs bytes xs last run =
    let fits = started_fits k room lent w begun in
    ran_own k (start_configured k room lent fits) index inside small cs bytes xs last (rw (begins k room lent fits (Ok tt) w begun) at run)
