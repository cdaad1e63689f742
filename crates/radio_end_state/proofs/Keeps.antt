-- A refusal leaves state and output as they were. Assumes nothing.
use Rattle.std.specs.Prelude.{Option, Result, Ok, Err}
use Rattle.quantity.specs.declared.count.LinkInstanceId.{LinkInstanceId}
use Rattle.meaning.specs.declared.message.ContextBytes.{ContextBytes}
use Rattle.meaning.specs.declared.message.Plane.{Plane}
use Prim.Native.Nat.{ℕ}
use mathlib.Core.Bool.{Bool, true, false, cond}
use mathlib.Core.List.{List}
use mathlib.Core.Path.{◌≡◌, refl}
use lib.Dec.{leb}
use lib.ListN.{length}
use Rattle.facts.proofs.Tests.{clash}
use Rattle.quantity.specs.declared.count.ByteCount.{ByteCount}
use Rattle.quantity.specs.declared.refusal.Refusal.{Refusal}
use Rattle.quantity.specs.Limits.{HIGHEST-STATUS}
use Rattle.meaning.specs.declared.message.End.TheVariants as ends
use Rattle.writable.specs.Allowed.{instance_allowed, context_allowed}
use Rattle.writer.specs.Written.{no_room_of}
use Rattle.reader.specs.Readings.{Verdict, read_control, read_data, plane_of}
use Rattle.radio_end_state.specs.declared.answer.Answer.{Answer}
use Rattle.radio_end_state.specs.State.{State}
use Rattle.radio_end_state.specs.Limits.{state_fits, is_configured}
use Rattle.radio_end_state.specs.Message.{message_bytes, differs}
use Rattle.radio_end_state.specs.Calls.{After, refused_at, telling, quietly, settling, status_told, queued_told, context_told, link_told, told, lacks_none, channel_named, control_heard, data_heard, by_verdict, by_plane, heard}
use Rattle.radio_end_state.specs.Each.{EachCall, Keeps}

module _ (s : State) (out : List ℕ) where
  refused : (refusal : Refusal) → Keeps s out (refused_at refusal s out)
  refused refusal other e = (refl, refl)

  either : (b : Bool) {x y : After} → Keeps s out x → Keeps s out y → Keeps s out (cond b x y)
  either true k l = k
  either false k l = l

  quiet : (after : State) → Keeps s out (quietly after out)
  quiet after refusal e = clash (cc)

  tells : (say : ByteCount → Result Answer Refusal) → ((n : ByteCount) (refusal : Refusal) → say n ≡ Err refusal → ⊥) → (after : State) → Keeps s out (telling say s after out)
  unfolding telling
  tells say speaks after = either (no_room_of (length (message_bytes after)) (length out)) (refused _) (λ refusal e. absurd (speaks _ refusal e))

  answers : (after : State) → Keeps s out (telling (λ n. Ok (Answer.Answered n)) s after out)
  answers = tells (λ n. Ok (Answer.Answered n)) (λ n refusal e. clash (cc))

  settles : (after : State) → Keeps s out (settling s after out)
  unfolding settling
  settles after = either (differs s after) (tells (λ n. Ok (Answer.Unasked n)) (λ n refusal e. clash (cc)) after) (quiet after)

  -- ---- the six calls
  status_keeps : (id value : ℕ) → Keeps s out (status_told s id value out)
  unfolding status_told
  status_keeps id value =
      either (state_fits s) (either (is_configured s id) (either (leb value HIGHEST-STATUS) (settles _) (refused _)) (refused _)) (refused _)

  queued_keeps : (id : ℕ) (bytes : ByteCount) → Keeps s out (queued_told s id bytes out)
  unfolding queued_told
  queued_keeps id bytes = either (state_fits s) (either (is_configured s id) (settles _) (refused _)) (refused _)

  context_keeps : (context : Option (ContextBytes × ℕ)) → Keeps s out (context_told s context out)
  unfolding context_told
  context_keeps context = either (state_fits s) (either (context_allowed ends.Radio context) (settles _) (refused _)) (refused _)

  link_keeps : (instance : Option (LinkInstanceId × ℕ)) → Keeps s out (link_told s instance out)
  unfolding link_told
  link_keeps instance = either (state_fits s) (either (instance_allowed ends.Radio instance) (quiet _) (refused _)) (refused _)

  tell_keeps : Keeps s out (told s out)
  unfolding told
  tell_keeps = either (state_fits s) (answers s) (refused _)

  by_verdict_lem : (v : Verdict) {accepted : After} → Keeps s out accepted → Keeps s out (by_verdict v s out accepted)
  by_verdict_lem Verdict.Accepted k = k
  by_verdict_lem Verdict.OtherPlane k = quiet s
  by_verdict_lem (Verdict.Refused refusal) k = refused refusal

  by_plane_lem : (p : Result Plane Refusal) {control carried : After} → Keeps s out control → Keeps s out carried → Keeps s out (by_plane p s out control carried)
  by_plane_lem (Ok Plane.Control) k l = k
  by_plane_lem (Ok Plane.Data) k l = l
  by_plane_lem (Err refusal) k l = refused refusal

  heard_keeps : (datagram : List ℕ) → Keeps s out (heard s datagram out)
  unfolding heard control_heard data_heard
  heard_keeps datagram =
      let control = read_control ends.Ips s.datalink datagram in
      let carried = read_data ends.Ips s.datalink datagram in
      either (state_fits s)
      (by_plane_lem (plane_of datagram)
      (by_verdict_lem control.verdict (either (lacks_none s control.message) (answers _) (refused _)))
      (by_verdict_lem carried.verdict (either (is_configured s (channel_named carried.message.channel)) (settles _) (refused _))))
      (refused _)

  -- A REFUSAL of any call leaves state and output as they were
  pub refused_keeps : EachCall (λ datagram. Unit {0}) s out (Keeps s out)
  refused_keeps = record { status = status_keeps; queued = queued_keeps; context = context_keeps; link = link_keeps; tell = tell_keeps; hear = λ datagram of. heard_keeps datagram }

-- what follows of one call follows of each
pub each_by : {Of : List ℕ → Type 0} {s : State} {out : List ℕ} {P Q : After → Type 0} → ((after : After) → P after → Q after) → EachCall Of s out P → EachCall Of s out Q
each_by f e = record {
  status = λ id value. f _ (e.status id value);
  queued = λ id bytes. f _ (e.queued id bytes);
  context = λ context. f _ (e.context context);
  link = λ instance. f _ (e.link instance);
  tell = f _ e.tell;
  hear = λ datagram of. f _ (e.hear datagram of);
}
