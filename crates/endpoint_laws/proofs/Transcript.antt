-- The account and the window, of a run of calls as they should be on a state: the packets that its outputs carry are those that the ledger has as sent. Assumes nothing.
use Rattle.std.specs.Prelude.{Option, Result}
use Rattle.quantity.specs.declared.count.FlowSequence.{FlowSequence}
use Rattle.quantity.specs.declared.refusal.Refusal.{Refusal}
use Prim.Native.Nat.{ℕ, ◌+◌, ◌^◌, ◌<◌}
use mathlib.Core.Bool.{Bool, true, false, cond}
use mathlib.Core.List.{List, [], ◌∷◌, ◌++◌, map}
use mathlib.Core.Logic.{◌⊎◌}
use mathlib.Core.Path.{◌≡◌, refl, sym, ap, ap₂, ◌∙◌}
use lib.ListN.{length}
use lib.Dec.{eqb}
use lib.IntN.{ℤ, pos}
use lib.Signed.{◌≤ℤ◌}
use Rattle.quantity.specs.declared.count.FlowWindow.{FlowWindow}
use Rattle.quantity.specs.Window.{standing_at}
use Rattle.quantity.proofs.Window.{stands_one, standing_stands}
use Rattle.meaning.specs.declared.message.Window.{Window}
use Rattle.meaning.specs.declared.message.Control.{Control}
use Rattle.store.specs.Waiting.{packets_of}
use Rattle.flow.specs.declared.Flow.{Flow}
use Rattle.ips_channel_rules.specs.Rules as rules
use Rattle.ips_channel_rules.specs.Rules.{ChannelCall, offer, next, withdraw, Says, Answer, refused, answered, taken, nothing_waiting, not_operational, window_shut, sent, emptied, Tried, Happened, called, heard, Terms, Condition, final}
use Rattle.ips_channel_rules.specs.Machine.{machine}
use Rattle.ips_channel_rules.specs.Simple.{simple}
use Rattle.ips_channel_rules.specs.Account.{took_by, taken_in, handed_by, handed_over, bytes_over, Account}
use Rattle.ips_channel_rules.specs.Windows.{Within}
use Rattle.ips_channel_rules.specs.FlowCases.{NumberFor}
use Rattle.ips_channel_rules.proofs.FlowCases.{number_simple}
use Rattle.ips_channel_calls.specs.declared.asking.NextAnswer.{NextAnswer}
use Rattle.ips_channel_calls.specs.Calls.{Reply, asked, reply_to, next_answer, output_after}
use Rattle.ips_state.specs.State.{Configuration, start_at}
use Rattle.ips_state.specs.Limits.{configuration_taken}
use Rattle.ips_state.specs.Memory.{World, index_in, channel_in, store_in}
use Rattle.ips_run.specs.Calling.{terms_in, calling}
use Rattle.ips_run.specs.Run.{Call, on, radio, pace, query, if_own, if_silent, part_heard, accepted_by, accepted_all, silent_by, fresh_world, after, happens_all}
use Rattle.ips_run.specs.Demand.{BytesIn, id_at, reached, ruled, seen, happened_since, fresh_at, simply_at, NoNews, RuledIn}
use Rattle.ips_run.specs.Settling.{ledger_at}
use Rattle.ips_run.proofs.Project.{step_follows, all_follow}
use Rattle.ips_run.proofs.Fresh.{fresh_in}
use Rattle.ips_run.proofs.Whole.{whole_account, whole_ledger, whole_within, whole_none, whole_silence}
use Rattle.ips_calls.specs.Replies.{EndpointReply, of_channel, of_pace}
use Rattle.pacer.specs.declared.PaceAnswer.{PaceAnswer}
use Rattle.ips_calls.specs.Pace.{pace_answer, says_silent}
use Rattle.ips_calls.proofs.Pacing.{silent_answered}
use Rattle.ips_calls.specs.Calls.{Performed}
use Rattle.ips_calls.specs.Ran.{Ran, replies_of}
use Rattle.ips_calls.specs.ReadBack.{ReadBack}
use Rattle.ips_calls.proofs.Ran.{ran_world, ran_replies}
use Rattle.ips_calls.proofs.Counted.{reads_back}
use Rattle.endpoint_laws.specs.Transcript.{taken_from, if_sent, sent_from, of_own, of_all_own, packets_taken, packets_sent}

-- ---- what a reply tells is what happened by the rules: for anything `from` that is read out of replies, and is `of` what happened
module _ {A : Type 0} (from : ChannelCall → Reply → List A) (of : Happened → List A) (of_all : List Happened → List A)
    (none : of_all [] ≡ []) (some : (h : Happened) (hs : List Happened) → of_all (h ∷ hs) ≡ of h ++ of_all hs) (silent : (status : Option ℕ) (window : Option Window) → of (heard status window) ≡ [])
    (same : (w : World) (id : ℕ) (c : ChannelCall)
    → from c (reply_to (terms_in w (index_in w id)) c (calling id c w).answer) ≡ of (called c (calling id c w).answer)) where
  unheard : (own : ℕ) (messages : List Control) (hs : List Happened) → of_all (map (part_heard own) messages ++ hs) ≡ of_all hs
  unheard own [] hs = refl
  unheard own (m ∷ messages) hs = some _ _ ∙ ap₂ (λ (xs ys : List A). xs ++ ys) (silent _ _) (unheard own messages hs)

  unsilenced : (b : Bool) (hs : List Happened) → of_all (if_silent b rules.silent ++ hs) ≡ of_all hs
  unsilenced true hs = some _ _ ∙ ap (λ (xs : List A). xs ++ of_all hs) (silent _ _)
  unsilenced false hs = refl

  of_call : (own id : ℕ) (c : ChannelCall) (x : Reply) (h : Happened) → from c x ≡ of h → (xs : List A) (hs : List Happened) → xs ≡ of_all hs
      → of_own from own (on id c) (of_channel x) ++ xs ≡ of_all (if_own own id h ++ hs)
  of_call own id c x h e xs hs more = go (eqb own id)
    where
      go : (b : Bool) → cond b (from c x) [] ++ xs ≡ of_all (cond b (h ∷ []) [] ++ hs)
      go true = ap₂ (λ (xs ys : List A). xs ++ ys) e more ∙ sym (some h hs)
      go false = more

  pub told : (k : Terms) (count index : ℕ) → index < count → (cs : List Call) → BytesIn cs → (w : World) (st : Condition machine) → RuledIn k count index w st
      → of_all_own from k.id cs (replies_of cs w) ≡ of_all (happens_all k.id cs w)
  told k count index inside [] b w st p = sym none
  told k count index inside (c ∷ cs) b w st p = by c (told k count index inside cs b.1 (after c w) _ (step_follows k count index inside w st p c b.0).ruled_in)
    where
      by : (d : Call) → of_all_own from k.id cs (replies_of cs (after d w)) ≡ of_all (happens_all k.id cs (after d w))
          → of_all_own from k.id (d ∷ cs) (replies_of (d ∷ cs) w) ≡ of_all (happens_all k.id (d ∷ cs) w)
      by (on id call) more = of_call k.id id call _ _ (same w id call) _ _ more
      by (radio time datagram) more = more ∙ sym (unheard k.id (accepted_by (radio time datagram) w) (happens_all k.id cs (after (radio time datagram) w)))
      by (pace time) more = more ∙ sym (unsilenced (silent_by (pace time) w) (happens_all k.id cs (after (pace time) w)))
      by (query out) more = more

-- ---- the packets taken in
taken_told : (k : Terms) (c : ChannelCall) (a : Answer (Says c)) → taken_from c (reply_to k c a) ≡ took_by (called c a)
taken_told k (offer packet time) (refused number) = refl
taken_told k (offer packet time) (answered taken) = refl
taken_told k (next time out) (refused number) = refl
taken_told k (next time out) (answered says) = refl
taken_told k withdraw (refused number) = refl
taken_told k withdraw (answered emptied) = refl

-- ---- the packets that outputs carry
carried_in : {k : Terms} {id : ℕ} {packet : List ℕ} {sequence : Option FlowSequence} {answer : Result NextAnswer Refusal} {out : List ℕ} → ReadBack k id packet sequence answer out → if_sent answer out ≡ packet ∷ []
carried_in back = rw (back.counted, back.carries)

module _ (w : World) (id : ℕ) where
  sent_told : (c : ChannelCall) → sent_from c (reply_to (terms_in w (index_in w id)) c (calling id c w).answer) ≡ handed_by (called c (calling id c w).answer)
  sent_told (offer packet time) = go (calling id (offer packet time) w).answer
    where
      go : (a : Answer (Says (offer packet time))) → [] ≡ handed_by (called (offer packet time) a)
      go (refused number) = refl
      go (answered taken) = refl
  sent_told withdraw = go (calling id withdraw w).answer
    where
      go : (a : Answer (Says withdraw)) → [] ≡ handed_by (called withdraw a)
      go (refused number) = refl
      go (answered emptied) = refl
  sent_told (next time out) = go (calling id (next time out) w).answer refl
    where
      k : Terms
      k = terms_in w (index_in w id)

      go : (a : Answer Tried) → (calling id (next time out) w).answer ≡ a → if_sent (next_answer k a) (output_after k a out) ≡ handed_by (called (next time out) a)
      go (refused number) e = refl
      go (answered nothing_waiting) e = refl
      go (answered not_operational) e = refl
      go (answered window_shut) e = refl
      go (answered (sent packet sequence)) e =
          let done : Performed (on id (next time out)) w (of_channel (asked (next_answer k (answered (sent packet sequence))) (output_after k (answered (sent packet sequence)) out))) (after (on id (next time out)) w) =
          record { reply_is = rw e; world_is = refl } in
          carried_in (reads_back w id time out packet sequence e _ _ _ done)

module _ (k : Terms) (count index : ℕ) (inside : index < count) (cs : List Call) (bytes : BytesIn cs) (w : World) (st : Condition machine) (p : RuledIn k count index w st) where
  taken_is : packets_taken k.id cs (replies_of cs w) ≡ taken_in (happens_all k.id cs w)
  taken_is = told taken_from took_by taken_in refl (λ h hs. refl) (λ status window. refl) (λ v id c. taken_told _ c _) k count index inside cs bytes w st p

  sent_is : packets_sent k.id cs (replies_of cs w) ≡ handed_over (happens_all k.id cs w)
  sent_is = told sent_from handed_by handed_over refl (λ h hs. refl) (λ status window. refl) sent_told k count index inside cs bytes w st p

-- ---- any calls from a fresh start, each with whatever outcome its contract allows
module _ (k : Configuration) (fits : configuration_taken k ≡ true) (index : ℕ) (inside : index < length k.starts)
    (small : (start_at k index).first.0 < 2 ^ 32) where
  -- THE ACCOUNT: of the packets whose Offer was answered so, those sent are, in order and byte for byte, the packets read out of Next's outputs, and those that wait
  -- stand in the queue and the lent memory
  pub ran_account : (cs : List Call) → BytesIn cs → (xs : List EndpointReply) (last : World) → Ran (fresh_world k) cs xs last
      → Account (packets_taken (id_at k index) cs xs) (packets_sent (id_at k index) cs xs) (packets_of (channel_in last index).queue (store_in last index)) (channel_in last index).latest
  ran_account cs bytes xs last run =
      let fresh = fresh_in k fits index inside in
      let took = taken_is (ruled k index) (length k.starts) index inside cs bytes (fresh_world k) (fresh_at k index) fresh in
      let went = sent_is (ruled k index) (length k.starts) index inside cs bytes (fresh_world k) (fresh_at k index) fresh in
      let a = whole_account k fits index inside small cs bytes in
      let world = ran_world run in
      let replies = ran_replies run in
      record {
        ledger = a.ledger;
        of_taken = rw (replies, took) a.of_taken;
        of_sent = rw (replies, went) a.of_sent;
        of_waiting = rw world a.of_waiting;
        of_time = rw world a.of_time;
      }

  -- and its ledger is the simple channel's, of which `Settling` says which call gave which fate
  pub ran_account_ledger : (cs : List Call) (bytes : BytesIn cs) (xs : List EndpointReply) (last : World) (run : Ran (fresh_world k) cs xs last)
      → (ran_account cs bytes xs last run).ledger ≡ ledger_at k index cs
  unfolding ran_account
  ran_account_ledger cs bytes xs last run = whole_ledger k fits index inside small cs bytes

  -- ---- between two radio messages: calls `ds` after calls `cs`, no radio message accepted and no silence among them
  module _ (cs ds : List Call) (bytes : BytesIn cs) (more : BytesIn ds) (xs ys : List EndpointReply) (w last : World) (before : Ran (fresh_world k) cs xs w) (since : Ran w ds ys last)
    where
      -- the outputs of those calls carry what the rules say was handed over
      sent_since : packets_sent (id_at k index) ds ys ≡ handed_over (happened_since k index cs ds)
      sent_since =
          let there = (all_follow (ruled k index) (length k.starts) index inside cs bytes (fresh_world k) (fresh_at k index) (fresh_in k fits index inside)).ruled_in in
          ap (packets_sent (id_at k index) ds) (ran_replies since ∙ ap (replies_of ds) (ran_world before)) ∙ sent_is (ruled k index) (length k.starts) index inside ds more (reached k cs) _ there

      module _ (none : NoNews ds w) where
        -- "While a window is in force no packet goes past it.": the bytes of the packets in the outputs, added to the count, are at most the number that the window stands for
        pub ran_within : (window : FlowWindow) → (channel_in w index).flow ≡ Flow.InForce window
            → Within (final simple (ruled k index) (seen k index cs) (simply_at k index)).counting (channel_in w index).sequence window (bytes_over (packets_sent (id_at k index) ds ys))
        ran_within window force =
            let world = ran_world before in
            rw (world, sent_since) (whole_within k fits index inside cs ds bytes more (rw world at none) small window (rw world at force))

        -- the same in plain numbers, "from 2^31 below the bytes counted so far to 2^31 - 1 above"
        pub ran_below : (window : FlowWindow) → (channel_in w index).flow ≡ Flow.InForce window
            → let count = (final simple (ruled k index) (seen k index cs) (simply_at k index)).counting.count in
            (number : ℤ) → NumberFor count window.0 number
            → (bytes_over (packets_sent (id_at k index) ds ys) ≡ 0) ⊎ (pos (count + bytes_over (packets_sent (id_at k index) ds ys)) ≤ℤ number)
        ran_below window force number is =
            let count = (final simple (ruled k index) (seen k index cs) (simply_at k index)).counting.count in
            let h = ran_within window force in
            let same : h.number ≡ number = stands_one count window h.number (standing_at count window) h.stands (standing_stands count window) ∙ number_simple count window number is in
            rw (← same) h.below

        -- "no window": no output carries a packet
        pub ran_none : (channel_in w index).flow ≡ Flow.NoWindow → packets_sent (id_at k index) ds ys ≡ []
        ran_none shut =
            let world = ran_world before in
            sent_since ∙ whole_none k fits index inside cs ds bytes more (rw world at none) (rw world at shut)

      rest : (time : ℕ) (es : List Call) → BytesIn (pace time ∷ es) → BytesIn es
      rest time es b = b.1

      -- the first reply of a run that begins with an ask
      first_reply : (time : ℕ) (es : List Call) (answer : Result PaceAnswer Refusal) (zs : List EndpointReply) → ds ≡ pace time ∷ es → ys ≡ of_pace answer ∷ zs → answer ≡ pace_answer time w.state
      first_reply time es answer zs is replied =
          let all : of_pace answer ∷ zs ≡ replies_of (pace time ∷ es) w = sym replied ∙ ran_replies since ∙ ap (λ (l : List Call). replies_of l w) is in
          cc

      -- from an ask that is answered silent to the next accepted radio control message no output carries a packet, whatever else is called, further silences too
      pub ran_silence : (time : ℕ) (es : List Call) (answer : Result PaceAnswer Refusal) (zs : List EndpointReply) → ds ≡ pace time ∷ es → ys ≡ of_pace answer ∷ zs → says_silent answer ≡ true
          → accepted_all es (after (pace time) w) ≡ [] → packets_sent (id_at k index) ds ys ≡ []
      ran_silence time es answer zs is replied says none =
          let world = ran_world before in
          let silent : silent_by (pace time) w ≡ true = silent_answered w time ∙ ap says_silent (sym (first_reply time es answer zs is replied)) ∙ says in
          sent_since
          ∙ ap (λ (cs' : List Call). handed_over (happened_since k index cs cs')) is
          ∙ whole_silence k fits index inside cs es bytes (rest time es (rw is at more)) time (rw world at silent) (rw world at none)
