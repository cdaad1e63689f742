-- Any calls as they should be on a state, one after the other, are a run of the rules: the world and every reply. The code's own run, on words, is `RanIn` of
-- `endpoint`. Assumes nothing.
use Rattle.std.specs.Prelude.{Result, Ok, Err}
use Rattle.quantity.specs.declared.refusal.Refusal.{Refusal}
use Rattle.meaning.specs.declared.message.Plane.{Plane}
use Prim.Native.Nat.{ℕ}
use mathlib.Core.Bool.{Bool, true, false, and-eq-true_iff}
use mathlib.Core.List.{List, [], ◌∷◌}
use mathlib.Core.Path.{◌≡◌, refl, sym, ap, ap₂, ◌∙◌}
use borrow.Author.Tests.{eqb-true}
use lib.Dec.{eqb}
use lib.ListN.{length}
use Rattle.meaning.specs.declared.message.End.TheVariants as ends
use Rattle.reader.specs.Readings.{Verdict, read_control, read_data, plane_of}
use Rattle.pacer.specs.Pacing.{is_earlier}
use Rattle.ips_state.specs.State.{Configuration, State, fresh_state}
use Rattle.ips_state.specs.Limits.{sizes, state_fits, configuration_fits, waits_fit, configuration_taken}
use Rattle.ips_state.specs.Memory.{World}
use Rattle.ips_radio.specs.declared.RadioAnswer.{RadioAnswer}
use Rattle.ips_run.specs.Run.{Call, radio, Received, carried, stated, if_accepted, received_in, received, after_under, after, after_all, fresh_world}
use Rattle.ips_calls.specs.Radio.{AfterRadio, by_verdict, heard_control, passed_on, handed_in_under, handed_in}
use Rattle.ips_calls.specs.Replies.{EndpointReply, of_radio}
use Rattle.ips_calls.specs.Calls.{lending, PerformedWithAny}
use Rattle.ips_calls.specs.Start.{stores_of, start_fits_of, starts, Started}
use Rattle.ips_calls.specs.Ran.{Ran, over, ran, replies_of}

-- ---- a radio message handed in leaves what the run has: its message heard, if it is accepted, and the pacer's clock moved
verdict_leaves : (v : Verdict) (time : ℕ) (s : State) (r : Received) (accepted : AfterRadio) → accepted.state ≡ received time r s
    → (by_verdict v s accepted).state ≡ received time (if_accepted v r) s
verdict_leaves Verdict.Accepted time s r accepted e = e
verdict_leaves Verdict.OtherPlane time s r accepted e = refl
verdict_leaves (Verdict.Refused refusal) time s r accepted e = refl

handed_state : (w : World) (time : ℕ) (datagram : List ℕ) → (handed_in time w.state datagram).state ≡ (after (radio time datagram) w).state
unfolding handed_in_under received_in after_under
handed_state w time datagram = go (state_fits w.state) refl (is_earlier time w.state.pacer) refl (plane_of datagram) refl
  where
    go : (fits : Bool) → state_fits w.state ≡ fits → (early : Bool) → is_earlier time w.state.pacer ≡ early → (plane : Result Plane Refusal) → plane_of datagram ≡ plane
        → (handed_in time w.state datagram).state ≡ (after (radio time datagram) w).state
    go false f early l plane p = rw f
    go true f true l plane p = rw (f, l)
    go true f false l (Ok Plane.Control) p =
        let reading = read_control ends.Radio w.state.datalink.id datagram in
        rw (f, l, p) (verdict_leaves reading.verdict time w.state (stated reading.message) (heard_control time reading.message w.state) refl)
    go true f false l (Ok Plane.Data) p =
        rw (f, l, p) (verdict_leaves (read_data ends.Radio w.state.datalink.id datagram).verdict time w.state carried (passed_on time w.state) refl)
    go true f false l (Err refusal) p = rw (f, l, p)

-- so a radio message handed in as it should be, with any memory, is answered and leaves a state as `handed_in` says: the laws over `handed_in` are laws of the call
pub radio_handed : {s : State} {time : ℕ} {datagram : List ℕ} {answer : Result RadioAnswer Refusal} {s' : State} → PerformedWithAny (radio time datagram) s (of_radio answer) s'
    → (answer ≡ (handed_in time s datagram).answer) × (s' ≡ (handed_in time s datagram).state)
radio_handed {s} {time} {datagram} h = (cc (h []).reply_is, ap (λ (w : World). w.state) (h []).world_is ∙ sym (handed_state (lending s []) time datagram))

-- ---- any calls
pub ran_world : {w last : World} {cs : List Call} {xs : List EndpointReply} → Ran w cs xs last → last ≡ after_all cs w
ran_world over = refl
ran_world (ran {cs} h more) = ran_world more ∙ ap (after_all cs) h.world_is

pub ran_replies : {w last : World} {cs : List Call} {xs : List EndpointReply} → Ran w cs xs last → xs ≡ replies_of cs w
ran_replies over = refl
ran_replies (ran {cs} h more) = ap₂ (λ (x : EndpointReply) (xs : List EndpointReply). x ∷ xs) h.reply_is (ran_replies more ∙ ap (replies_of cs) h.world_is)

-- ---- a start that is not refused leaves the fresh world
module _ (k : Configuration) (room : Bool) (w : World) (begun : starts k room w.memory ≡ true) where
  fits : start_fits_of k room w.memory ≡ true
  fits = ((and-eq-true_iff (start_fits_of k room w.memory) (waits_fit k)).0 begun).0

  pub start_configured : configuration_taken k ≡ true
  unfolding start_fits_of
  start_configured = rw (((and-eq-true_iff (configuration_fits k) _).0 fits).0, ((and-eq-true_iff (start_fits_of k room w.memory) (waits_fit k)).0 begun).1)

  memory_length : length w.memory ≡ sizes (fresh_state k).channels
  unfolding start_fits_of stores_of
  memory_length = eqb-true _ _ ((and-eq-true_iff (eqb (length w.memory) (stores_of k)) room).0 ((and-eq-true_iff (configuration_fits k) _).0 fits).1).0

  pub begins : (answer : Result (Unit {0}) Refusal) (w' : World) → Started k room w answer w' → w' ≡ fresh_world k
  unfolding fresh_world
  begins answer w' h = h.world_is ∙ rw (begun, memory_length)
