-- In every world that calls reach from a fresh start what is accepted, when it is silent, and what a channel sees, is a matter of the calls alone. Assumes nothing.
use Prim.Native.Nat.{ℕ, ◌<◌}
use mathlib.Core.Bool.{Bool, true, false, cond, not}
use mathlib.Core.List.{List, [], ◌∷◌, ◌++◌, map}
use mathlib.Core.Path.{◌≡◌, refl, ap, ap₂, ◌∙◌}
use Rattle.meaning.specs.declared.message.Control.{Control}
use Rattle.pacer.specs.declared.Pacer.{Pacer}
use Rattle.pacer.specs.Pacing.{is_earlier, asked}
use Rattle.ips_channel_rules.specs.Rules as rules
use Rattle.ips_channel_rules.specs.Rules.{ChannelCall, Says, Event, Terms, Condition}
use Rattle.ips_channel_rules.specs.Machine.{machine}
use Rattle.ips_state.specs.State.{State, with_channel, with_pacer}
use Rattle.ips_state.specs.Memory.{World}
use Rattle.ips_run.specs.Calling.{WorldResult, Judged, outside, unknown, served}
use Rattle.ips_run.specs.Run.{Call, on, radio, pace, query, Received, dropped, carried, stated, received_in, part_of, if_silent, accepted_under, accepted_by, silent_under, silent_by, received, pacer_after, paced_by, with_state, after_under, after, after_all, accepted_all, sees, sees_all}
use Rattle.ips_run.specs.Datagrams.{pacer_within, pacer_all_within, accepted_within, accepted_all_within, silent_within, sees_within, sees_all_within}
use Rattle.ips_run.specs.Demand.{BytesIn, RuledIn}
use Rattle.ips_run.proofs.Exact.{judged}
use Rattle.ips_run.proofs.Project.{own_datalink, in_time_here, accepted_here, step_follows}

-- ---- the pacer after a call, by the bytes of a datagram and the time alone
pacer_called : (id : ℕ) (c : ChannelCall) (w : World) {r : WorldResult (Says c)} → Judged id c w r → r.world.state.pacer ≡ w.state.pacer
unfolding with_channel
pacer_called id c w (outside f) = refl
pacer_called id c w (unknown f g) = refl
pacer_called id c w (served f g) = refl

pacer_received : (time : ℕ) (r : Received) (s : State) → (received time r s).pacer ≡ pacer_after time r s.pacer
unfolding with_pacer
pacer_received time dropped s = refl
pacer_received time carried s = refl
pacer_received time (stated m) s = refl

module _ (k : Terms) (count index : ℕ) (inside : index < count) where
  pacer_one : (w : World) (st : Condition machine) → RuledIn k count index w st → (c : Call) → (after c w).state.pacer ≡ pacer_within k.datalink c w.state.pacer
  unfolding after_under paced_by with_pacer
  pacer_one w st p (on id c) = pacer_called id c w (judged id c w)
  pacer_one w st p (radio time datagram) = rw (in_time_here k count index inside w st p time, ← (own_datalink k count index inside w st p)) (go (not (is_earlier time w.state.pacer)))
    where
      go : (t : Bool) → (cond t (with_state w (received time (received_in w.state.datalink.id datagram) w.state)) w).state.pacer
          ≡ cond t (pacer_after time (received_in w.state.datalink.id datagram) w.state.pacer) w.state.pacer
      go true = pacer_received time (received_in w.state.datalink.id datagram) w.state
      go false = refl
  pacer_one w st p (pace time) = rw (in_time_here k count index inside w st p time) (go (not (is_earlier time w.state.pacer)))
    where
      go : (t : Bool) → (cond t (with_state w (paced_by time w.state)) w).state.pacer ≡ cond t (asked time w.state.pacer) w.state.pacer
      go true = refl
      go false = refl
  pacer_one w st p (query out) = refl

  accepted_one : (w : World) (st : Condition machine) → RuledIn k count index w st → (c : Call) → accepted_by c w ≡ accepted_within k.datalink w.state.pacer c
  unfolding accepted_under
  accepted_one w st p (on id c) = refl
  accepted_one w st p (radio time datagram) = accepted_here k count index inside w st p time datagram
  accepted_one w st p (pace time) = refl
  accepted_one w st p (query out) = refl

  pub silent_one : (w : World) (st : Condition machine) → RuledIn k count index w st → (c : Call) → silent_by c w ≡ silent_within w.state.pacer c
  unfolding silent_under
  silent_one w st p (on id c) = refl
  silent_one w st p (radio time datagram) = refl
  silent_one w st p (pace time) = rw (in_time_here k count index inside w st p time)
  silent_one w st p (query out) = refl

  sees_one : (w : World) (st : Condition machine) → RuledIn k count index w st → (own : ℕ) (c : Call) → sees own c w ≡ sees_within k.datalink w.state.pacer own c
  sees_one w st p own (on id c) = refl
  sees_one w st p own (radio time datagram) = ap (map (part_of own)) (accepted_here k count index inside w st p time datagram)
  sees_one w st p own (pace time) = ap (λ (b : Bool). if_silent b rules.silence) (silent_one w st p (pace time))
  sees_one w st p own (query out) = refl

  pub pacer_within_lem : (cs : List Call) → BytesIn cs → (w : World) (st : Condition machine) → RuledIn k count index w st
      → (after_all cs w).state.pacer ≡ pacer_all_within k.datalink cs w.state.pacer
  pacer_within_lem [] b w st p = refl
  pacer_within_lem (c ∷ cs) b w st p =
      pacer_within_lem cs b.1 (after c w) _ (step_follows k count index inside w st p c b.0).ruled_in ∙ ap (pacer_all_within k.datalink cs) (pacer_one w st p c)

  pub accepted_within_lem : (cs : List Call) → BytesIn cs → (w : World) (st : Condition machine) → RuledIn k count index w st
      → accepted_all cs w ≡ accepted_all_within k.datalink w.state.pacer cs
  accepted_within_lem [] b w st p = refl
  accepted_within_lem (c ∷ cs) b w st p =
      ap₂ (λ (xs ys : List Control). xs ++ ys) (accepted_one w st p c)
      (accepted_within_lem cs b.1 (after c w) _ (step_follows k count index inside w st p c b.0).ruled_in
      ∙ ap (λ (x : Pacer). accepted_all_within k.datalink x cs) (pacer_one w st p c))

  pub sees_within_lem : (own : ℕ) (cs : List Call) → BytesIn cs → (w : World) (st : Condition machine) → RuledIn k count index w st
      → sees_all own cs w ≡ sees_all_within k.datalink w.state.pacer own cs
  sees_within_lem own [] b w st p = refl
  sees_within_lem own (c ∷ cs) b w st p =
      ap₂ (λ (xs ys : List Event). xs ++ ys) (sees_one w st p own c)
      (sees_within_lem own cs b.1 (after c w) _ (step_follows k count index inside w st p c b.0).ruled_in
      ∙ ap (λ (x : Pacer). sees_all_within k.datalink x own cs) (pacer_one w st p c))
