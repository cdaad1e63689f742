-- A channel's latest time, status and flow state after any run of calls as they should be on a state, by their answers, the radio control messages accepted and the
-- silences.
-- Assumes nothing.
use Rattle.std.specs.Prelude.{Option, Some, None}
use Prim.Native.Nat.{ℕ, ◌<◌}
use mathlib.Core.Bool.{Bool, true, false, cond}
use mathlib.Core.List.{List, [], ◌∷◌, ◌++◌, map, map-append}
use mathlib.Core.Path.{◌≡◌, refl, sym, ap, ap₂, ◌∙◌}
use lib.ListN.{length}
use lib.Dec.{eqb}
use Rattle.meaning.specs.declared.message.Window.{Window}
use Rattle.meaning.specs.declared.message.Control.{Control}
use Rattle.flow.specs.declared.Flow.{Flow}
use Rattle.flow.specs.Counting.{flow_after}
use Rattle.ips_channel_rules.specs.Rules as rules
use Rattle.ips_channel_rules.specs.Rules.{ChannelCall, offer, next, withdraw, nothing_waiting, not_operational, window_shut, sent, taken, emptied, Says, Answer, refused, answered, Event, Happened, called, heard, Terms, Condition, happens, step, history, final}
use Rattle.ips_channel_rules.specs.Machine.{machine}
use Rattle.ips_channel_rules.proofs.Within.{plain_free_lem}
use Rattle.ips_channel_rules.proofs.Leaves.{Leaves, stays, joins, looks, sends, clears, hears, leaves}
use Rattle.ips_channel.specs.declared.state.Channel.{Channel}
use Rattle.ips_channel.specs.Channel.{condition_of}
use Rattle.ips_channel_calls.specs.Calls.{reply_to}
use Rattle.ips_state.specs.State.{Configuration, start_at}
use Rattle.ips_state.specs.Limits.{configuration_taken}
use Rattle.ips_state.specs.Memory.{World, channel_in, store_in}
use Rattle.ips_radio.specs.Heard.{status_in, window_in}
use Rattle.ips_run.specs.Run.{Call, on, radio, pace, query, if_own, if_silent, part_of, accepted_by, silent_by, fresh_world, after, sees_all}
use Rattle.ips_run.specs.Demand.{BytesIn, id_at, ruled, seen, fresh_at}
use Rattle.ips_run.specs.Kept.{last_or}
use Rattle.ips_run.proofs.Kept.{last_append}
use Rattle.ips_run.proofs.Fresh.{fresh_in}
use Rattle.ips_run.proofs.Whole.{projected, projected_history}
use Rattle.ips_calls.specs.Replies.{EndpointReply}
use Rattle.ips_calls.specs.Ran.{Ran}
use Rattle.ips_calls.proofs.Ran.{ran_world, ran_replies}
use Rattle.endpoint_laws.specs.Lasting.{time_from, last_time, News, message, silence, news_by, news_all, status_given, last_status, flow_for, flow_given, last_flow}
use Rattle.endpoint_laws.proofs.Transcript.{told}

-- ---- the latest time, by the rules
abbrev time_by : Happened → List ℕ
time_by (called c (refused number)) = []
time_by (called (offer packet time) (answered says)) = time ∷ []
time_by (called (next time out) (answered says)) = time ∷ []
time_by (called withdraw (answered says)) = []
time_by (heard status window) = []

abbrev times_in : List Happened → List ℕ
times_in [] = []
times_in (h ∷ hs) = time_by h ++ times_in hs

module _ (k : Terms) where
  time_step : {e : Event} {st : Condition machine} {h : Happened} {st' : Condition machine} → Leaves machine k e st h st' → st'.latest ≡ last_or st.latest (time_by h)
  time_step stays = refl
  time_step (joins t x) = refl
  time_step (looks n t) = refl
  time_step (sends t w f) = refl
  time_step clears = refl
  time_step hears = refl

  time_last : (es : List Event) (st : Condition machine) → (final machine k es st).latest ≡ last_or st.latest (times_in (history machine k es st))
  time_last [] st = refl
  time_last (e ∷ es) st =
      time_last es (step machine k e st)
      ∙ ap (λ (t : ℕ). last_or t (times_in (history machine k es (step machine k e st)))) (time_step (leaves machine k e st))
      ∙ sym (last_append st.latest (time_by (happens machine k e st)) (times_in (history machine k es (step machine k e st))))

-- and by the replies
time_told : (k : Terms) (c : ChannelCall) (a : Answer (Says c)) → time_from c (reply_to k c a) ≡ time_by (called c a)
time_told k (offer packet time) (refused number) = refl
time_told k (offer packet time) (answered taken) = refl
time_told k (next time out) (refused number) = refl
time_told k (next time out) (answered nothing_waiting) = refl
time_told k (next time out) (answered not_operational) = refl
time_told k (next time out) (answered window_shut) = refl
time_told k (next time out) (answered (sent packet sequence)) = refl
time_told k withdraw (refused number) = refl
time_told k withdraw (answered emptied) = refl

-- ---- what the radio said last, by the rules: `from` is what a message states of the channel
module _ {A : Type 0} (from : Option ℕ → Option Window → A) where
  abbrev said_in : List Event → List A
  said_in [] = []
  said_in (rules.call c ∷ es) = said_in es
  said_in (rules.radio status window ∷ es) = from status window ∷ said_in es

  said_own : (own id : ℕ) (c : ChannelCall) (es : List Event) → said_in (if_own own id (rules.call c) ++ es) ≡ said_in es
  said_own own id c es = go (eqb own id)
    where
      go : (b : Bool) → said_in (cond b (rules.call c ∷ []) [] ++ es) ≡ said_in es
      go true = refl
      go false = refl

  -- what is said to a channel by an accepted message, and by a silence
  abbrev said_by : ℕ → News → A
  said_by own (message m) = from (status_in m own) (window_in m own)
  said_by own silence = from None (Some Window.Empty)

  said_heard : (own : ℕ) (ms : List Control) (es : List Event) → said_in (map (part_of own) ms ++ es) ≡ map (said_by own) (map message ms) ++ said_in es
  said_heard own [] es = refl
  said_heard own (m ∷ ms) es = ap (λ (l : List A). from (status_in m own) (window_in m own) ∷ l) (said_heard own ms es)

  said_silent : (own : ℕ) (silent : Bool) (es : List Event) → said_in (if_silent silent rules.silence ++ es) ≡ map (said_by own) (if_silent silent silence) ++ said_in es
  said_silent own true es = refl
  said_silent own false es = refl

  -- what a channel sees said are the messages accepted, and the silences
  said_more_lem : (own : ℕ) (ns : List News) (cs : List Call) (w : World) {said : List A} → said ≡ map (said_by own) (news_all cs w)
      → map (said_by own) ns ++ said ≡ map (said_by own) (ns ++ news_all cs w)
  said_more_lem own ns cs w e = ap (λ (l : List A). map (said_by own) ns ++ l) e ∙ sym (map-append (said_by own) ns (news_all cs w))

  said_is : (own : ℕ) (cs : List Call) (w : World) → said_in (sees_all own cs w) ≡ map (said_by own) (news_all cs w)
  said_is own [] w = refl
  said_is own (on id c ∷ cs) w = said_own own id c _ ∙ said_is own cs (after (on id c) w)
  said_is own (radio time datagram ∷ cs) w =
      said_heard own (accepted_by (radio time datagram) w) _ ∙ said_more_lem own (news_by (radio time datagram) w) cs (after (radio time datagram) w) (said_is own cs (after (radio time datagram) w))
  said_is own (pace time ∷ cs) w =
      said_silent own (silent_by (pace time) w) _ ∙ said_more_lem own (news_by (pace time) w) cs (after (pace time) w) (said_is own cs (after (pace time) w))
  said_is own (query out ∷ cs) w = said_is own cs (after (query out) w)

  -- what every radio message and every silence sets, and no call changes
  module _ (k : Terms) (of : Condition machine → A) (law : (e : Event) (st : Condition machine) → of (step machine k e st) ≡ last_or (of st) (said_in (e ∷ []))) where
    said_last : (es : List Event) (st : Condition machine) → of (final machine k es st) ≡ last_or (of st) (said_in es)
    said_last [] st = refl
    said_last (rules.call c ∷ es) st = said_last es _ ∙ ap (λ (a : A). last_or a (said_in es)) (law (rules.call c) st)
    said_last (rules.radio status window ∷ es) st = said_last es _ ∙ ap (λ (a : A). last_or a (said_in es)) (law (rules.radio status window) st)

abbrev stated : Option ℕ → Option Window → Option ℕ
stated status window = status

abbrev flowing : Option ℕ → Option Window → Flow
flowing status window = flow_for window

map_same : {A B : Type 0} {f g : A → B} → ((x : A) → f x ≡ g x) → (xs : List A) → map f xs ≡ map g xs
map_same h [] = refl
map_same {B = B} h (x ∷ xs) = ap₂ (λ (y : B) (ys : List B). y ∷ ys) (h x) (map_same h xs)

status_said : (own : ℕ) (n : News) → said_by stated own n ≡ status_given own n
status_said own (message m) = refl
status_said own silence = refl

flow_said : (own : ℕ) (n : News) → said_by flowing own n ≡ flow_given own n
flow_said own (message m) = refl
flow_said own silence = refl

status_step : (k : Terms) {e : Event} {st : Condition machine} {h : Happened} {st' : Condition machine} → Leaves machine k e st h st' → st'.status ≡ last_or st.status (said_in stated (e ∷ []))
status_step k stays = refl
status_step k (joins t x) = refl
status_step k (looks n t) = refl
status_step k (sends t w f) = refl
status_step k clears = refl
status_step k hears = refl

flow_is : (window : Option Window) → flow_after window ≡ flow_for window
flow_is None = refl
flow_is (Some Window.Empty) = refl
flow_is (Some (Window.Given window)) = refl

flow_step : (k : Terms) → k.controlled ≡ true → {e : Event} {st : Condition machine} {h : Happened} {st' : Condition machine} → Leaves machine k e st h st'
    → st'.counting.flow ≡ last_or st.counting.flow (said_in flowing (e ∷ []))
flow_step k controlled stays = refl
flow_step k controlled (joins t x) = refl
flow_step k controlled (looks n t) = refl
flow_step k controlled (sends t w f) = refl
flow_step k controlled clears = refl
flow_step k controlled (hears {status} {window}) = rw controlled (flow_is window)

condition_fields : (c : Channel) (store : List ℕ) → ((condition_of c store).latest ≡ c.latest) × ((condition_of c store).status ≡ c.status) × ((condition_of c store).counting.flow ≡ c.flow)
unfolding condition_of
condition_fields c store = (refl, refl, refl)

-- ---- any calls from a fresh start, each with whatever outcome its contract allows
module _ (k : Configuration) (fits : configuration_taken k ≡ true) (index : ℕ) (inside : index < length k.starts)
    (cs : List Call) (bytes : BytesIn cs) (xs : List EndpointReply) (last : World) (run : Ran (fresh_world k) cs xs last) where
  abbrev final_at : Condition machine
  final_at = final machine (ruled k index) (seen k index cs) (fresh_at k index)

  at_end : condition_of (channel_in last index) (store_in last index) ≡ final_at
  at_end = rw (ran_world run) (projected k fits index inside cs bytes)

  -- "Latest time is each channel's own: 0 when fresh, then that of its last accepted Offer or Next.": by the answers of the run
  pub latest_lasts : (channel_in last index).latest ≡ last_time (id_at k index) cs xs
  latest_lasts =
      let times = told time_from time_by times_in refl (λ h hs. refl) (λ status window. refl) (λ w id c. time_told _ c _) (ruled k index) (length k.starts) index inside cs bytes (fresh_world k) (fresh_at k index)
      (fresh_in k fits index inside) in
      sym (condition_fields (channel_in last index) (store_in last index)).0
      ∙ ap (λ (st : Condition machine). st.latest) at_end
      ∙ time_last (ruled k index) (seen k index cs) (fresh_at k index)
      ∙ ap (λ (hs : List Happened). last_or 0 (times_in hs)) (sym (projected_history k fits index inside cs bytes))
      ∙ ap (last_or 0) (sym times)
      ∙ ap (λ (ys : List EndpointReply). last_time (id_at k index) cs ys) (sym (ran_replies run))

  -- the status is what the last accepted radio control message states, or none of a silence after it, and no call changes it
  pub status_lasts : (channel_in last index).status ≡ last_status (id_at k index) (news_all cs (fresh_world k))
  status_lasts =
      sym (condition_fields (channel_in last index) (store_in last index)).1
      ∙ ap (λ (st : Condition machine). st.status) at_end
      ∙ said_last stated (ruled k index) (λ st. st.status) (λ e st. status_step (ruled k index) (leaves machine (ruled k index) e st)) (seen k index cs) (fresh_at k index)
      ∙ ap (last_or None) (said_is stated (id_at k index) cs (fresh_world k) ∙ map_same (status_said (id_at k index)) (news_all cs (fresh_world k)))

  -- and so is the flow state of a flow-controlled channel; "Plain channels are always free."
  pub flow_lasts : (channel_in last index).flow ≡ last_flow (start_at k index).setting.controlled (id_at k index) (news_all cs (fresh_world k))
  flow_lasts =
      sym (condition_fields (channel_in last index) (store_in last index)).2
      ∙ ap (λ (st : Condition machine). st.counting.flow) at_end
      ∙ go (start_at k index).setting.controlled refl
    where
      go : (controlled : Bool) → (start_at k index).setting.controlled ≡ controlled → final_at.counting.flow ≡ last_flow controlled (id_at k index) (news_all cs (fresh_world k))
      go true is =
          said_last flowing (ruled k index) (λ st. st.counting.flow) (λ e st. flow_step (ruled k index) is (leaves machine (ruled k index) e st)) (seen k index cs) (fresh_at k index)
          ∙ ap₂ last_or (rw is) (said_is flowing (id_at k index) cs (fresh_world k) ∙ map_same (flow_said (id_at k index)) (news_all cs (fresh_world k)))
      go false is = plain_free_lem (ruled k index) is (start_at k index).first (seen k index cs)
