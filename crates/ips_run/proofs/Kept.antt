-- Over a whole run the state keeps the Context of the accepted radio control message just before, and the last Link Instance given. Assumes nothing.
use Rattle.std.specs.Prelude.{Option, Some, None}
use Rattle.quantity.specs.declared.count.LinkInstanceId.{LinkInstanceId}
use Rattle.meaning.specs.declared.message.ContextBytes.{ContextBytes}
use Prim.Native.Nat.{ℕ}
use mathlib.Core.Bool.{Bool, true, false, cond, not, ◌&&◌, and-false}
use mathlib.Core.List.{List, [], ◌∷◌, ◌++◌, append_assoc, append-nil}
use mathlib.Core.Logic.{◌↔◌}
use mathlib.Core.Path.{◌≡◌, refl, sym, ap, ◌∙◌}
use borrow.Author.Tests.{eqb-false, ne_eqb}
use lib.Dec.{eqb}
use Rattle.facts.proofs.Tests.{clash}
use Rattle.meaning.specs.declared.message.Control.{Control}
use Rattle.ips_channel_rules.specs.Rules.{ChannelCall, Says}
use Rattle.ips_channel.specs.declared.state.DatalinkSetting.{DatalinkSetting}
use Rattle.ips_channel.specs.declared.state.Channel.{Channel}
use Rattle.pacer.specs.declared.Pacer.{Pacer}
use Rattle.pacer.specs.Pacing.{is_silent}
use Rattle.ips_state.specs.State.{Configuration, State, with_channel, with_pacer, fresh_state}
use Rattle.ips_radio.specs.Heard.{kept_instance, heard_by, silenced_by, due_of}
use Rattle.ips_state.specs.Memory.{World}
use Rattle.ips_run.specs.Calling.{WorldResult, Judged, outside, unknown, served}
use Rattle.ips_run.specs.Run.{Call, on, radio, pace, query, Received, dropped, carried, stated, received_in, messages_in, accepted_in, in_time, accepted_under, accepted_by, received, paced_by, with_state, after_under, after, after_all, accepted_all, fresh_world}
use Rattle.ips_run.specs.Demand.{reached}
use Rattle.ips_run.specs.Kept.{given_in, last_or, if_instance, last_instance, context_before, if_context, last_context, Comes, is_first, in_length, in_bytes, MobilityDue, first_or_differs, after_gap}
use Rattle.ips_run.proofs.Exact.{judged}

pub last_append : {A : Type 0} (none : A) (xs ys : List A) → last_or none (xs ++ ys) ≡ last_or (last_or none xs) ys
last_append none [] ys = refl
last_append none (x ∷ xs) ys = last_append x xs ys

given_append : {A : Type 0} (gives : Control → List A) (ms ns : List Control) → given_in gives (ms ++ ns) ≡ given_in gives ms ++ given_in gives ns
given_append gives [] ns = refl
given_append gives (m ∷ ms) ns = rw (given_append gives ms ns) (sym (append_assoc (gives m) (given_in gives ms) (given_in gives ns)))

-- any part of the state that messages give and no other call changes
module _ {A : Type 0} (part : State → A) (gives : Control → List A) (hears : (m : Control) (s : State) → part (heard_by m s) ≡ last_or (part s) (gives m))
    (stays : (s : State) (index : ℕ) (c : Channel) → part (with_channel s index c) ≡ part s)
    (paced : (s : State) (p : Pacer) → part (with_pacer s p) ≡ part s) (silent : (s : State) → part (silenced_by s) ≡ part s) where
  kept_called : (id : ℕ) (c : ChannelCall) (w : World) {r : WorldResult (Says c)} → Judged id c w r → part r.world.state ≡ part w.state
  kept_called id c w (outside f) = refl
  kept_called id c w (unknown f g) = refl
  kept_called id c w (served f g) = stays w.state _ _

  kept_received : (time : ℕ) (r : Received) (s : State) → part (received time r s) ≡ last_or (part s) (given_in gives (messages_in r))
  kept_received time dropped s = refl
  kept_received time carried s = paced s _
  kept_received time (stated m) s = paced _ _ ∙ hears m s ∙ ap (last_or (part s)) (sym (append-nil (gives m)))

  kept_silent : (silent-now : Bool) (s : State) → part (cond silent-now (silenced_by s) s) ≡ part s
  kept_silent false s = refl
  kept_silent true s = silent s

  kept_after : (c : Call) (w : World) → part (after c w).state ≡ last_or (part w.state) (given_in gives (accepted_by c w))
  unfolding after_under accepted_under accepted_in paced_by
  kept_after (on id c) w = kept_called id c w (judged id c w)
  kept_after (radio time datagram) w = go (in_time time w.state)
    where
      go : (t : Bool) → part (cond t (with_state w (received time (received_in w.state.datalink.id datagram) w.state)) w).state
          ≡ last_or (part w.state) (given_in gives (cond t (accepted_in w.state.datalink.id datagram) []))
      go true = kept_received time (received_in w.state.datalink.id datagram) w.state
      go false = refl
  kept_after (pace time) w = go (in_time time w.state)
    where
      go : (t : Bool) → part (cond t (with_state w (paced_by time w.state)) w).state ≡ part w.state
      go true = paced _ _ ∙ kept_silent (is_silent time w.state.pacer) w.state
      go false = refl
  kept_after (query out) w = refl

  kept_all : (cs : List Call) (w : World) → part (after_all cs w).state ≡ last_or (part w.state) (given_in gives (accepted_all cs w))
  kept_all [] w = refl
  kept_all (c ∷ cs) w =
      kept_all cs (after c w)
      ∙ rw (kept_after c w, given_append gives (accepted_by c w) (accepted_all cs (after c w)))
      (sym (last_append (part w.state) (given_in gives (accepted_by c w)) (given_in gives (accepted_all cs (after c w)))))

-- ---- Link Instance and Context
instance_last : (before given : Option (LinkInstanceId × ℕ)) → kept_instance before given ≡ last_or before (if_instance given)
instance_last before None = refl
instance_last before (Some (id, length)) = refl

context_all : (cs : List Call) (w : World) → (after_all cs w).state.context ≡ last_or w.state.context (given_in (λ m. m.context ∷ []) (accepted_all cs w))
unfolding heard_by with_channel with_pacer silenced_by
context_all = kept_all (λ s. s.context) (λ m. m.context ∷ []) (λ m s. refl) (λ s index c. refl) (λ s p. refl) (λ s. refl)

-- calls that accept no control message leave the kept Context; radio data messages, refused datagrams and a pacer that is asked are such
pub no_gap : (cs : List Call) (w : World) → accepted_all cs w ≡ [] → (after_all cs w).state.context ≡ w.state.context
no_gap cs w none = context_all cs w ∙ rw none

given_none : {A : Type 0} (ms : List Control) → given_in {A = A} (λ m. []) ms ≡ []
given_none [] = refl
given_none (m ∷ ms) = given_none ms

-- no call changes how the datalink is configured
pub datalink_stays : (cs : List Call) (w : World) → (after_all cs w).state.datalink ≡ w.state.datalink
unfolding heard_by with_channel with_pacer silenced_by
datalink_stays cs w =
    kept_all (λ s. s.datalink) (λ m. []) (λ m s. refl) (λ s index c. refl) (λ s p. refl) (λ s. refl) cs w ∙ rw (given_none {A = DatalinkSetting} (accepted_all cs w))

module _ (k : Configuration) (cs : List Call) where
  -- document 02, §6: the Datalink ID, and the setting of the statuses 8 to 15, "as part of the configuration", are those of the start, whatever is called
  pub whole_datalink : (reached k cs).state.datalink ≡ k.datalink
  unfolding fresh_world fresh_state
  whole_datalink = datalink_stays cs (fresh_world k)

  -- "Link Instance is kept when given."
  pub whole_instance : (reached k cs).state.instance ≡ last_instance (accepted_all cs (fresh_world k))
  unfolding heard_by with_channel with_pacer silenced_by fresh_world fresh_state
  whole_instance = kept_all (λ s. s.instance) (λ m. if_instance m.instance) (λ m s. instance_last s.instance m.instance) (λ s index c. refl) (λ s p. refl) (λ s. refl) cs (fresh_world k)

  -- the Context of the accepted control message just before: none, if it had none, or if there was no message
  pub whole_context : (reached k cs).state.context ≡ context_before (accepted_all cs (fresh_world k))
  unfolding fresh_world fresh_state
  whole_context = context_all cs (fresh_world k)

-- ---- a mobility message
comes : (before given : Option (ContextBytes × ℕ)) → due_of before given ≡ true → Comes before given
comes before None e = clash e
comes None (Some (bytes, length)) e = is_first
comes (Some (before, long)) (Some (bytes, length)) e = go (eqb bytes.0 before.0) refl (eqb length long) refl e
  where
    go : (b : Bool) → eqb bytes.0 before.0 ≡ b → (l : Bool) → eqb length long ≡ l → not (b && l) ≡ true → Comes (Some (before, long)) (Some (bytes, length))
    go false p l q h = in_bytes (eqb-false _ _ p)
    go true p false q h = in_length (eqb-false _ _ q)
    go true p true q h = clash h

comes_due : {before given : Option (ContextBytes × ℕ)} → Comes before given → due_of before given ≡ true
comes_due is_first = refl
comes_due (in_length {before} {bytes} {long} {length} other) = rw (ne_eqb length long other, and-false)
comes_due (in_bytes {before} {bytes} other) = rw (ne_eqb bytes.0 before.0 other)

pub due_when : (before given : Option (ContextBytes × ℕ)) → (due_of before given ≡ true) ↔ Comes before given
due_when before given = (comes before given, comes_due)

-- ---- by the accepted messages: document 01's condition and the mended one
data Ends : List Control → Type 0 where
  empty : Ends []
  ends : (earlier : List Control) (before : Control) → Ends (earlier ++ (before ∷ []))

ends_of : (ms : List Control) → Ends ms
ends_of [] = empty
ends_of (m ∷ ms) = go (ends_of ms)
  where
    go : {ns : List Control} → Ends ns → Ends (m ∷ ns)
    go empty = ends [] m
    go (ends earlier before) = ends (m ∷ earlier) before

module _ (earlier : List Control) (before : Control) where
  context_before_lem : context_before (earlier ++ (before ∷ [])) ≡ before.context
  context_before_lem =
      rw (given_append (λ m. m.context ∷ []) earlier (before ∷ [])) (last_append None (given_in (λ m. m.context ∷ []) earlier) (before.context ∷ []))

  context_received : last_context (earlier ++ (before ∷ [])) ≡ last_or (last_context earlier) (if_context before.context)
  context_received =
      rw (given_append (λ m. if_context m.context) earlier (before ∷ []), append-nil (if_context before.context))
      (last_append None (given_in (λ m. if_context m.context) earlier) (if_context before.context))

first_comes : {last given : Option (ContextBytes × ℕ)} → Comes last given → Comes None given
first_comes is_first = is_first
first_comes (in_length other) = is_first
first_comes (in_bytes other) = is_first

mended : {ms : List Control} {given : Option (ContextBytes × ℕ)} → Ends ms → Comes (context_before ms) given → MobilityDue ms given
mended empty h = first_or_differs h
mended (ends earlier before) h = go before.context refl (rw (context_before_lem earlier before) at h)
  where
    go : (last : Option (ContextBytes × ℕ)) {given : Option (ContextBytes × ℕ)} → before.context ≡ last → Comes last given → MobilityDue (earlier ++ (before ∷ [])) given
    go None e is_first = after_gap earlier before refl e
    go (Some (bytes, length)) {given} e h = first_or_differs {given = given} (rw (context_received earlier before, e) h)

older : {ms : List Control} {given : Option (ContextBytes × ℕ)} → Ends ms → Comes (last_context ms) given → Comes (context_before ms) given
older empty h = h
older {given = given} (ends earlier before) h = rw (context_before_lem earlier before) (go before.context (rw (context_received earlier before) at h))
  where
    go : (last : Option (ContextBytes × ℕ)) → Comes (last_or (last_context earlier) (if_context last)) given → Comes last given
    go None h = first_comes h
    go (Some (bytes, length)) h = h

kept_so : {ms : List Control} {given : Option (ContextBytes × ℕ)} → MobilityDue ms given → Comes (context_before ms) given
kept_so {ms} (first_or_differs h) = older (ends_of ms) h
kept_so (after_gap earlier before e none) = rw (e, context_before_lem earlier before, none) is_first

-- what is kept decides whether one of the two holds
pub due_mended : (accepted : List Control) (given : Option (ContextBytes × ℕ)) → Comes (context_before accepted) given ↔ MobilityDue accepted given
due_mended accepted given = (mended (ends_of accepted), kept_so)

-- ---- the same case by case
given_same : {x y : ContextBytes × ℕ} → Some x ≡ Some y → x ≡ y
given_same e = cc

comes_other : {before given : Option (ContextBytes × ℕ)} → Comes before given → before ≡ given → ⊥
comes_other is_first e = clash (cc)
comes_other (in_length other) e = other (ap (λ (x : ContextBytes × ℕ). x.1) (sym (given_same e)))
comes_other (in_bytes other) e = other (ap (λ (x : ContextBytes × ℕ). x.0.0) (sym (given_same e)))

comes_given : {before given : Option (ContextBytes × ℕ)} → Comes before given → given ≡ None → ⊥
comes_given is_first e = clash (cc)
comes_given (in_length other) e = clash (cc)
comes_given (in_bytes other) e = clash (cc)

-- a message without a Context makes none due
pub due_given : {accepted : List Control} → MobilityDue accepted None → ⊥
due_given due = comes_given (kept_so due) refl

-- nor does the Context of the message just before, so that after a gap it is due once
pub due_once : (earlier : List Control) (before : Control) → MobilityDue (earlier ++ (before ∷ [])) before.context → ⊥
due_once earlier before due = comes_other (kept_so due) (context_before_lem earlier before)
