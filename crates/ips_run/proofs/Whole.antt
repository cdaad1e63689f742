-- DEMAND 3 FOR THE WHOLE ENDPOINT: "Take any sequence of calls from a fresh start, refused ones among them, each taking the state and the lent memory as the one
-- before left them." Each channel, "seeing its own calls and its part of each accepted radio message", and each silence, is served as the simple channel would be. Assumes nothing.
use Rattle.std.specs.Prelude.{Some}
use Prim.Native.Nat.{ℕ, ◌^◌, ◌<◌}
use mathlib.Core.Bool.{Bool, true, false, cond}
use mathlib.Core.List.{List, [], ◌∷◌, ◌++◌, append_assoc}
use mathlib.Core.Path.{◌≡◌, refl, sym, ap, ◌∙◌}
use native.Mathlib.Omega.{arith}
use lib.ListN.{length}
use lib.Dec.{eqb}
use Rattle.facts.proofs.Tests.{clash, neither}
use Rattle.quantity.specs.declared.count.FlowWindow.{FlowWindow}
use Rattle.quantity.specs.Window.{standing_at}
use Rattle.wire.specs.Numbers.{Octets}
use Rattle.meaning.specs.declared.message.Window.{Window}
use Rattle.meaning.specs.declared.message.Control.{Control}
use Rattle.store.specs.Waiting.{packets_of}
use Rattle.flow.specs.declared.Flow.{Flow}
use Rattle.ips_channel_rules.specs.Machine.{machine}
use Rattle.ips_channel_rules.specs.Simple.{simple}
use Rattle.ips_channel_rules.specs.Agreement.{Agrees}
use Rattle.ips_channel_rules.specs.Account.{taken_in, handed_over, bytes_over, Account, Later, is_call, NoRadio, is_quiet, Quiet}
use Rattle.ips_channel_rules.specs.Rules as rules
use Rattle.ips_channel_rules.specs.Rules.{Event, Terms, Condition, history, final}
use Rattle.ips_channel_rules.proofs.Agree.{same_history, same_end_lem}
use Rattle.ips_channel_rules.proofs.Account.{account, account_ledger, account_later}
use Rattle.ips_channel_rules.specs.Windows.{Within, Under}
use Rattle.ips_channel_rules.proofs.Within.{within_window, from_arrival, none_sends}
use Rattle.ips_channel_rules.proofs.Silence.{silence_leaves, quiet_sends}
use Rattle.ips_channel.specs.declared.state.Channel.{Channel}
use Rattle.ips_channel.specs.Channel.{condition_of}
use Rattle.pacer.specs.declared.Pacer.{Pacer}
use Rattle.pacer.specs.Pacing.{fresh_pacer}
use Rattle.ips_state.specs.State.{Configuration, start_at, fresh_state}
use Rattle.ips_state.specs.Limits.{configuration_taken}
use Rattle.ips_state.proofs.Places.{fit}
use Rattle.ips_radio.specs.Heard.{status_in, window_in}
use Rattle.ips_state.specs.Memory.{World, channel_in, store_in}
use Rattle.ips_run.specs.Run.{Call, on, radio, pace, query, fresh_world, accepted_by, accepted_all, silent_by, after, after_all, if_own, if_silent, sees, sees_all}
use Rattle.ips_run.specs.Datagrams.{pacer_all_within, accepted_all_within, silent_within, sees_all_within}
use Rattle.ips_run.specs.Demand.{BytesIn, id_at, reached, ruled, seen, happened, seen_since, happened_since, fresh_at, simply_at, TidyIn, NoNews, Follows, Untouched, Reached}
use Rattle.ips_run.specs.Settling.{ledger_at}
use Rattle.ips_run.proofs.Project.{untouched, all_follow}
use Rattle.ips_run.proofs.Datagrams.{pacer_within_lem, silent_one, accepted_within_lem, sees_within_lem}
use Rattle.ips_run.proofs.Fresh.{fresh_order, fresh_in}

-- ---- what is seen of some calls and then others
pub sees_append : (own : ℕ) (cs ds : List Call) (w : World) → sees_all own (cs ++ ds) w ≡ sees_all own cs w ++ sees_all own ds (after_all cs w)
sees_append own [] ds w = refl
sees_append own (c ∷ cs) ds w = rw (sees_append own cs ds (after c w)) (sym (append_assoc (sees own c w) (sees_all own cs (after c w)) (sees_all own ds (after_all cs (after c w)))))

-- between two radio messages or silences
none_first : {A : Type 0} (xs ys : List A) → xs ++ ys ≡ [] → xs ≡ []
none_first [] ys e = refl
none_first (x ∷ xs) ys e = clash (cc)

none_rest : {A : Type 0} (xs ys : List A) → xs ++ ys ≡ [] → ys ≡ []
none_rest [] ys e = e
none_rest (x ∷ xs) ys e = clash (cc)

quiet_own : (own id : ℕ) (e : Event) → is_quiet e → (es : List Event) → Quiet es → Quiet (if_own own id e ++ es)
quiet_own own id e q es r = by (eqb own id)
  where
    by : (b : Bool) → Quiet (cond b (e ∷ []) [] ++ es)
    by true = (q, r)
    by false = r

calls_own : (own id : ℕ) (e : Event) → is_call e → (es : List Event) → NoRadio es → NoRadio (if_own own id e ++ es)
calls_own own id e q es r = by (eqb own id)
  where
    by : (b : Bool) → NoRadio (cond b (e ∷ []) [] ++ es)
    by true = (q, r)
    by false = r

no_more : {c : Call} {cs : List Call} {w : World} → NoNews (c ∷ cs) w → NoNews cs (after c w)
no_more {c} {cs} {w} none = record { unheard = none_rest (accepted_by c w) _ none.unheard; unsilenced = (neither (silent_by c w) _ none.unsilenced).1 }

calls_seen : (own : ℕ) (cs : List Call) (w : World) → NoNews cs w → NoRadio (sees_all own cs w)
calls_seen own [] w none = tt
calls_seen own (on id c ∷ cs) w none = calls_own own id (rules.call c) tt _ (calls_seen own cs (after (on id c) w) (no_more none))
calls_seen own (radio time datagram ∷ cs) w none =
    rw (none_first (accepted_by (radio time datagram) w) _ none.unheard) (calls_seen own cs (after (radio time datagram) w) (no_more none))
calls_seen own (pace time ∷ cs) w none = rw (neither (silent_by (pace time) w) _ none.unsilenced).0 (calls_seen own cs (after (pace time) w) (no_more none))
calls_seen own (query out ∷ cs) w none = calls_seen own cs (after (query out) w) (no_more none)

-- from a silence to the next accepted radio control message
quiet_silent : (silent : Bool) (es : List Event) → Quiet es → Quiet (if_silent silent rules.silence ++ es)
quiet_silent true es q = (refl, q)
quiet_silent false es q = q

quiet_seen : (own : ℕ) (cs : List Call) (w : World) → accepted_all cs w ≡ [] → Quiet (sees_all own cs w)
quiet_seen own [] w none = tt
quiet_seen own (on id c ∷ cs) w none = quiet_own own id (rules.call c) tt _ (quiet_seen own cs (after (on id c) w) (none_rest (accepted_by (on id c) w) _ none))
quiet_seen own (radio time datagram ∷ cs) w none =
    rw (none_first (accepted_by (radio time datagram) w) _ none) (quiet_seen own cs (after (radio time datagram) w) (none_rest (accepted_by (radio time datagram) w) _ none))
quiet_seen own (pace time ∷ cs) w none = quiet_silent (silent_by (pace time) w) _ (quiet_seen own cs (after (pace time) w) (none_rest (accepted_by (pace time) w) _ none))
quiet_seen own (query out ∷ cs) w none = quiet_seen own cs (after (query out) w) (none_rest (accepted_by (query out) w) _ none)

pub waiting_of : (c : Channel) (store : List ℕ) → (condition_of c store).keeping ≡ packets_of c.queue store
unfolding condition_of
waiting_of c store = refl

latest_of : (c : Channel) (store : List ℕ) → (condition_of c store).latest ≡ c.latest
unfolding condition_of
latest_of c store = refl

counting_of : (c : Channel) (store : List ℕ) → ((condition_of c store).counting.flow ≡ c.flow) × ((condition_of c store).counting.sequence ≡ c.sequence)
unfolding condition_of
counting_of c store = (refl, refl)

module _ (k : Configuration) (fits : configuration_taken k ≡ true) where
  -- ---- each channel
  module _ (index : ℕ) (inside : index < length k.starts) where
    follows : (cs : List Call) → BytesIn cs → Follows (ruled k index) (length k.starts) index (reached k cs) (happened k index cs) (seen k index cs) (fresh_at k index)
    follows cs bytes = all_follow (ruled k index) (length k.starts) index inside cs bytes (fresh_world k) (fresh_at k index) (fresh_in k fits index inside)

    module _ (cs : List Call) (bytes : BytesIn cs) where
      -- THE PROJECTION: the channel and its store are what the rules leave of what it saw, and what happened to it is theirs
      pub projected : condition_of (channel_in (reached k cs) index) (store_in (reached k cs) index) ≡ final machine (ruled k index) (seen k index cs) (fresh_at k index)
      projected = (follows cs bytes).ruled_in.as_ruled.condition

      pub projected_history : happened k index cs ≡ history machine (ruled k index) (seen k index cs) (fresh_at k index)
      projected_history = (follows cs bytes).history_is

      -- its queue and its store hold the packets that wait and nothing else: "behind them stand zeros"
      pub whole_tidy : TidyIn (reached k cs) index
      whole_tidy = (follows cs bytes).ruled_in.as_ruled.tidy

      -- what it doesn't see (a call on another channel, a data message, one that is refused, the pacer asked in no silence, a query) changes no byte of it
      pub whole_untouched : (d : Call) → sees (id_at k index) d (reached k cs) ≡ [] → Untouched index (reached k cs) (after d (reached k cs))
      whole_untouched = untouched (ruled k index) (length k.starts) index inside (reached k cs) _ (follows cs bytes).ruled_in

      -- what it saw is a matter of the calls alone
      pub whole_sees : seen k index cs ≡ sees_all_within k.datalink.id (fresh_pacer k.hello k.limit) (id_at k index) cs
      unfolding fresh_world fresh_state
      whole_sees = sees_within_lem (ruled k index) (length k.starts) index inside (id_at k index) cs bytes (fresh_world k) (fresh_at k index) (fresh_in k fits index inside)

    -- ---- and the simple channel
    module _ (small : (start_at k index).first.0 < 2 ^ 32) (cs : List Call) (bytes : BytesIn cs) where
      -- every answer is the simple channel's
      pub whole_history : happened k index cs ≡ history simple (ruled k index) (seen k index cs) (simply_at k index)
      whole_history = projected_history cs bytes ∙ same_history (ruled k index) (start_at k index).first small (seen k index cs)

      -- where it stands is where the simple channel stands: the sequence is the count's low 32 bits, the window stands for the number, what waits is what the ledger has
      pub whole_holds : Agrees (condition_of (channel_in (reached k cs) index) (store_in (reached k cs) index)) (final simple (ruled k index) (seen k index cs) (simply_at k index))
      whole_holds = rw (projected cs bytes) (same_end_lem (ruled k index) (start_at k index).first small (seen k index cs))

      -- "Every packet taken in is, at each moment, exactly one of sent, expired, withdrawn or waiting, and those sent on a channel leave in the order they came":
      -- those that wait are the packets in the channel's queue and in the lent memory
      pub whole_account : Account (taken_in (happened k index cs)) (handed_over (happened k index cs))
          (packets_of (channel_in (reached k cs) index).queue (store_in (reached k cs) index)) (channel_in (reached k cs) index).latest
      whole_account =
          let a = account (ruled k index) (start_at k index).first small (seen k index cs) in
          let at = projected cs bytes in
          record {
            ledger = a.ledger;
            of_taken = rw (projected_history cs bytes) a.of_taken;
            of_sent = rw (projected_history cs bytes) a.of_sent;
            of_waiting = a.of_waiting ∙ sym (ap (λ (st : Condition machine). st.keeping) at) ∙ waiting_of (channel_in (reached k cs) index) (store_in (reached k cs) index);
            of_time = rw (← (latest_of (channel_in (reached k cs) index) (store_in (reached k cs) index)), at) a.of_time;
          }

    -- the account's ledger is the simple channel's, of which `Settling` says which call gave which fate
    pub whole_ledger : (small : (start_at k index).first.0 < 2 ^ 32) (cs : List Call) (bytes : BytesIn cs) → (whole_account small cs bytes).ledger ≡ ledger_at k index cs
    unfolding whole_account
    whole_ledger small cs bytes = account_ledger (ruled k index) (start_at k index).first small (seen k index cs)

    -- a fate once given stays, whatever is called next
    pub whole_later : (small : (start_at k index).first.0 < 2 ^ 32) (cs ds : List Call) (bytes : BytesIn cs) (more : BytesIn (cs ++ ds))
        → Later (whole_account small cs bytes).ledger (whole_account small (cs ++ ds) more).ledger
    unfolding whole_account
    whole_later small cs ds bytes more =
        rw (sees_append (id_at k index) cs ds (fresh_world k)) (account_later (ruled k index) (start_at k index).first small (seen k index cs) (seen_since k index cs ds))

    -- ---- between two radio messages: calls `ds` after calls `cs`, no radio message accepted and no silence among them
    module _ (cs ds : List Call) (bytes : BytesIn cs) (more : BytesIn ds) where
      since_is : happened_since k index cs ds ≡ history machine (ruled k index) (seen_since k index cs ds) (final machine (ruled k index) (seen k index cs) (fresh_at k index))
      since_is = (all_follow (ruled k index) (length k.starts) index inside ds more (reached k cs) _ (follows cs bytes).ruled_in).history_is

      module _ (none : NoNews ds (reached k cs)) where
        -- "While a window is in force no packet goes past it."
        pub whole_within : (start_at k index).first.0 < 2 ^ 32 → (window : FlowWindow) → (channel_in (reached k cs) index).flow ≡ Flow.InForce window
            → Within (final simple (ruled k index) (seen k index cs) (simply_at k index)).counting (channel_in (reached k cs) index).sequence window (bytes_over (handed_over (happened_since k index cs ds)))
        whole_within small window force =
            let at = projected cs bytes in
            let meter = counting_of (channel_in (reached k cs) index) (store_in (reached k cs) index) in
            let flow = sym (ap (λ (st : Condition machine). st.counting.flow) at) ∙ meter.0 ∙ force in
            let sequence = sym meter.1 ∙ ap (λ (st : Condition machine). st.counting.sequence) at in
            rw (since_is, sequence) (within_window (ruled k index) window (seen_since k index cs ds) (calls_seen (id_at k index) ds (reached k cs) none) (start_at k index).first small (seen k index cs) flow)

        -- "Fresh flow-controlled channels have no window": nothing goes then, nor after an option without one
        pub whole_none : (channel_in (reached k cs) index).flow ≡ Flow.NoWindow → handed_over (happened_since k index cs ds) ≡ []
        whole_none e =
            let at = projected cs bytes in
            let flow = sym (ap (λ (st : Condition machine). st.counting.flow) at) ∙ (counting_of (channel_in (reached k cs) index) (store_in (reached k cs) index)).0 ∙ e in
            rw since_is (none_sends (ruled k index) (final machine (ruled k index) (seen k index cs) (fresh_at k index)) flow (seen_since k index cs ds) (calls_seen (id_at k index) ds (reached k cs) none))

      -- from a silence to the next accepted radio control message nothing goes, on whatever channel: further silences, and any other calls, may come between
      pub whole_silence : (time : ℕ) → silent_by (pace time) (reached k cs) ≡ true → accepted_all ds (after (pace time) (reached k cs)) ≡ []
          → handed_over (happened_since k index cs (pace time ∷ ds)) ≡ []
      whole_silence time silent none =
          let st = final machine (ruled k index) (seen k index cs) (fresh_at k index) in
          let begun = (all_follow (ruled k index) (length k.starts) index inside (pace time ∷ ds) (tt, more) (reached k cs) st (follows cs bytes).ruled_in).history_is in
          rw (begun, silent)
          (quiet_sends machine (ruled k index) (sees_all (id_at k index) ds (after (pace time) (reached k cs))) (quiet_seen (id_at k index) ds (after (pace time) (reached k cs)) none) _
          (silence_leaves machine (ruled k index) st).0)

    -- a window arrives: what goes until the next radio message or silence never passes the number that it stands for at the count when it came
    module _ (small : (start_at k index).first.0 < 2 ^ 32) (controlled : (start_at k index).setting.controlled ≡ true) (cs ds : List Call) (bytes : BytesIn cs) (more : BytesIn ds)
        (time : ℕ) (datagram : List ℕ) (octets : Octets datagram) (m : Control) (accepted : accepted_by (radio time datagram) (reached k cs) ≡ m ∷ [])
        (none : NoNews ds (after (radio time datagram) (reached k cs))) (window : FlowWindow) (given : window_in m (id_at k index) ≡ Some (Window.Given window)) where
      arrives : seen_since k index cs (radio time datagram ∷ ds) ≡ rules.radio (status_in m (id_at k index)) (Some (Window.Given window)) ∷ sees_all (id_at k index) ds (after (radio time datagram) (reached k cs))
      arrives = rw (accepted, given)

      pub whole_arrival : let before = final simple (ruled k index) (seen k index cs) (simply_at k index) in
          Under before.counting.count (standing_at before.counting.count window) (bytes_over (handed_over (happened_since k index cs (radio time datagram ∷ ds))))
          (final simple (ruled k index) (seen_since k index cs (radio time datagram ∷ ds)) before).counting
      whole_arrival =
          let own = id_at k index in
          let st = final machine (ruled k index) (seen k index cs) (fresh_at k index) in
          let after-it = after (radio time datagram) (reached k cs) in
          rw (since_is cs (radio time datagram ∷ ds) bytes (octets, more), arrives)
          (from_arrival (ruled k index) window (sees_all own ds after-it) (calls_seen own ds after-it none) controlled (status_in m own) st _ (same_end_lem (ruled k index) (start_at k index).first small (seen k index cs)))

  -- ---- every world reached is one that 19 does not refuse, configured as it was
  primary : 0 < length k.starts
  primary =
      let some = (fit (fresh_world k).state (fresh_order k fits).state_fits_lem).some in
      omega (arith, (fresh_order k fits).counted)

  module _ (cs : List Call) (bytes : BytesIn cs) where
    pub reached_fits : Reached k (reached k cs)
    reached_fits =
        let first = (follows 0 primary cs bytes).ruled_in in
        record {
          order = first.order;
          datalink = ap (λ (x : Terms). record { id = x.datalink; codes = x.codes }) first.as_ruled.terms;
          terms = λ index inside. (follows index inside cs bytes).ruled_in.as_ruled.terms;
        }

    -- the pacer, and what was accepted, is a matter of the calls alone
    pub whole_pacer : (reached k cs).state.pacer ≡ pacer_all_within k.datalink.id cs (fresh_pacer k.hello k.limit)
    unfolding fresh_world fresh_state
    whole_pacer = pacer_within_lem (ruled k 0) (length k.starts) 0 primary cs bytes (fresh_world k) (fresh_at k 0) (fresh_in k fits 0 primary)

    -- and so is whether an ask then is a silence
    pub whole_silent : (time : ℕ) → silent_by (pace time) (reached k cs) ≡ silent_within (pacer_all_within k.datalink.id cs (fresh_pacer k.hello k.limit)) (pace time)
    whole_silent time =
        silent_one (ruled k 0) (length k.starts) 0 primary (reached k cs) _ (follows 0 primary cs bytes).ruled_in (pace time)
        ∙ ap (λ (p : Pacer). silent_within p (pace time)) whole_pacer

    pub whole_accepted : accepted_all cs (fresh_world k) ≡ accepted_all_within k.datalink.id (fresh_pacer k.hello k.limit) cs
    unfolding fresh_world fresh_state
    whole_accepted = accepted_within_lem (ruled k 0) (length k.starts) 0 primary cs bytes (fresh_world k) (fresh_at k 0) (fresh_in k fits 0 primary)
