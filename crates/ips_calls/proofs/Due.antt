-- "A mobility message is reported due when a Context comes that differs from the last Context received (in length or bytes), or is the first", and document 02 §2's
-- "a Context that follows an accepted control message without one": over any calls from a fresh start. Assumes nothing.
use Rattle.std.specs.Prelude.{Option, Ok, Result}
use Rattle.meaning.specs.declared.message.ContextBytes.{ContextBytes}
use Rattle.quantity.specs.declared.refusal.Refusal.{Refusal}
use Prim.Native.Nat.{ℕ}
use mathlib.Core.Bool.{Bool, true, false, cond}
use mathlib.Core.List.{List, [], ◌∷◌}
use mathlib.Core.Logic.{◌↔◌}
use mathlib.Core.Path.{◌≡◌, refl, sym, ap, ◌∙◌}
use Rattle.facts.proofs.Tests.{clash}
use Rattle.quantity.specs.declared.count.DatalinkId.{DatalinkId}
use Rattle.meaning.specs.declared.message.Control.{Control}
use Rattle.ips_state.specs.State.{Configuration, State}
use Rattle.ips_state.specs.Memory.{World}
use Rattle.ips_run.specs.Run.{Call, radio, Received, dropped, carried, stated, received_in, messages_in, accepted_in, in_time, accepted_by, accepted_all, fresh_world}
use Rattle.ips_run.specs.Demand.{reached}
use Rattle.ips_run.specs.Kept.{context_before, Comes, MobilityDue}
use Rattle.ips_run.proofs.Exact.{accepted_in_time, accepted_late}
use Rattle.ips_run.proofs.Kept.{whole_context, due_when, due_mended}
use Rattle.ips_radio.specs.declared.RadioAnswer.{RadioAnswer}
use Rattle.ips_calls.specs.Radio.{AfterRadio, handed_in}
use Rattle.ips_calls.proofs.Exactly.{Handed, outside, earlier, unread, heard, passed, handed, radio_heard}

-- the answers to an accepted message
due_true : (due : Bool) → cond {A = Result RadioAnswer Refusal} due (Ok RadioAnswer.Due) (Ok RadioAnswer.Accepted) ≡ Ok RadioAnswer.Due → due ≡ true
due_true true e = refl
due_true false e = clash (cc)

module _ (s : State) (time : ℕ) (datagram : List ℕ) where
  brought : {h : AfterRadio} → Handed s time datagram h → h.answer ≡ Ok RadioAnswer.Due
      → (in_time time s ≡ true) × (m : Control) × (received_in s.datalink.id datagram ≡ stated m) × Comes s.context m.context
  brought (outside f) e = clash (cc)
  brought (earlier f l) e = clash (cc)
  brought (unread refusal f w) e = clash (cc)
  brought (heard m f a) e = (f, m, a, (due_when s.context m.context).0 (due_true _ e))
  brought (passed f a) e = clash (cc)

  -- by the Context that the state keeps
  pub due_by_state : (before : Option (ContextBytes × ℕ)) → s.context ≡ before → ((handed_in time s datagram).answer ≡ Ok RadioAnswer.Due)
      ↔ ((in_time time s ≡ true) × (m : Control) × (received_in s.datalink.id datagram ≡ stated m) × Comes before m.context)
  due_by_state before kept =
      rw (← kept) (
        brought (handed s time datagram),
        λ h. ap (λ (r : AfterRadio). r.answer) (radio_heard s time datagram h.0 h.1 h.2) ∙ rw ((due_when s.context h.1.context).1 h.3),
      )

-- what is accepted of a datagram is its control message
accepted_stated : (datalink : DatalinkId) (datagram : List ℕ) (m : Control) → received_in datalink datagram ≡ stated m → accepted_in datalink datagram ≡ m ∷ []
unfolding accepted_in
accepted_stated datalink datagram m e = rw e

stated_accepted : (datalink : DatalinkId) (datagram : List ℕ) (m : Control) → accepted_in datalink datagram ≡ m ∷ [] → received_in datalink datagram ≡ stated m
unfolding accepted_in
stated_accepted datalink datagram m e = go (received_in datalink datagram) e
  where
    go : (r : Received) → messages_in r ≡ m ∷ [] → r ≡ stated m
    go dropped e = clash (cc)
    go carried e = clash (cc)
    go (stated n) e = let same : n ≡ m = cc in rw same

accepted_exactly : (w : World) (time : ℕ) (datagram : List ℕ) (m : Control)
    → (accepted_by (radio time datagram) w ≡ m ∷ []) ↔ ((in_time time w.state ≡ true) × (received_in w.state.datalink.id datagram ≡ stated m))
accepted_exactly w time datagram m = (λ e. go (in_time time w.state) refl e, λ h. accepted_in_time w time datagram h.0 ∙ accepted_stated w.state.datalink.id datagram m h.1)
  where
    go : (t : Bool) → in_time time w.state ≡ t → accepted_by (radio time datagram) w ≡ m ∷ [] → (in_time time w.state ≡ true) × (received_in w.state.datalink.id datagram ≡ stated m)
    go true f e = (f, stated_accepted w.state.datalink.id datagram m (sym (accepted_in_time w time datagram f) ∙ e))
    go false f e = clash (cc (sym (accepted_late w time datagram f) ∙ e))

module _ (k : Configuration) (cs : List Call) where
  abbrev accepted : List Control
  accepted = accepted_all cs (fresh_world k)

  -- by the control messages accepted before: document 01's condition, or a gap just before
  pub due_exactly : (time : ℕ) (datagram : List ℕ) → ((handed_in time (reached k cs).state datagram).answer ≡ Ok RadioAnswer.Due)
      ↔ ((m : Control) × (accepted_by (radio time datagram) (reached k cs) ≡ m ∷ []) × MobilityDue accepted m.context)
  due_exactly time datagram =
      let kept = due_by_state (reached k cs).state time datagram (context_before accepted) (whole_context k cs) in (
        λ due. let h = kept.0 due in (h.1, (accepted_exactly (reached k cs) time datagram h.1).1 (h.0, h.2), (due_mended accepted h.1.context).0 h.3),
        λ h. let came = (accepted_exactly (reached k cs) time datagram h.0).0 h.1 in kept.1 (came.0, h.0, came.1, (due_mended accepted h.0.context).1 h.2),
      )
