-- Each message of the radio's end is accepted by an endpoint of the same Datalink ID. Assumes nothing.
use Rattle.meaning.specs.declared.message.Plane.{Plane}
use Rattle.std.specs.Prelude.{Ok}
use Prim.Native.Nat.{ℕ, ◌≤◌}
use mathlib.Core.Bool.{Bool, true, false, cond}
use mathlib.Core.List.{List}
use mathlib.Core.Logic.{◌⊎◌, inl, inr}
use mathlib.Core.Path.{◌≡◌, refl, sym, ap, ◌∙◌}
use native.Mathlib.Omega.{arith}
use borrow.Author.Tests.{le-ltb, ne_eqb}
use lib.ListN.{length, take, drop}
use lib.Seq.{take_at}
use Rattle.quantity.specs.declared.count.ByteCount.{ByteCount}
use Rattle.quantity.specs.Limits.{LONGEST-DATAGRAM}
use Rattle.wire.specs.Numbers.{Octets}
use Rattle.writer.specs.Written.{control_written}
use Rattle.reader.specs.Readings.{plane_of}
use Rattle.radio_end_state.specs.State as radio
use Rattle.radio_end_state.specs.Limits as limits
use Rattle.radio_end_state.specs.Message.{message_of, message_bytes}
use Rattle.radio_end_state.specs.declared.answer.Answer.{Answer}
use Rattle.radio_end_state.specs.Calls.{After}
use Rattle.radio_end_state.specs.Each.{EachCall}
use Rattle.radio_end_laws.specs.Given.{Leaves}
use Rattle.radio_end_laws.proofs.Kept.{call_leaves}
use Rattle.radio_end_laws.proofs.Message.{message_short, tells_back}
use Rattle.ips_state.specs.Limits.{state_fits}
use Rattle.ips_state.specs.Memory.{World}
use Rattle.ips_radio.specs.Heard.{due_of}
use Rattle.ips_radio.specs.declared.RadioAnswer.{RadioAnswer}
use Rattle.ips_run.specs.Run.{stated, received_in, in_time}
use Rattle.ips_run.specs.Run as run
use Rattle.ips_calls.specs.Radio.{heard_control, handed_in}
use Rattle.ips_calls.specs.Replies.{of_radio, reply_of}
use Rattle.ips_calls.proofs.Exactly.{radio_heard}

module _ (s : radio.State) (fits : limits.state_fits s ≡ true) where
  -- its header is a control message's
  pub own_plane : plane_of (message_bytes s) ≡ Ok Plane.Control
  unfolding plane_of control_written
  own_plane =
      rw (le-ltb LONGEST-DATAGRAM (length (message_bytes s)) (message_short s fits), ne_eqb (length (message_bytes s)) 0 (λ e. omega arith))

  -- the endpoint has it as the message that was meant
  pub message_received : received_in s.datalink (message_bytes s) ≡ stated (message_of s)
  unfolding received_in
  message_received = rw (own_plane, tells_back s fits)

  -- handed in to a state that 19 doesn't refuse, at a time that 21 doesn't
  module _ (w : World) (same : w.state.datalink.id ≡ s.datalink) (time : ℕ) (within : state_fits w.state ≡ true) (later : w.state.pacer.clock ≤ time) where
    timely : in_time time w.state ≡ true
    timely = rw (within, le-ltb time w.state.pacer.clock later)

    -- it is heard as it was meant
    pub message_heard : handed_in time w.state (message_bytes s) ≡ heard_control time (message_of s) w.state
    message_heard = radio_heard w.state time (message_bytes s) timely (message_of s) (ap (λ datalink. received_in datalink (message_bytes s)) same ∙ message_received)

    -- EACH MESSAGE OF THE RADIO'S END IS ACCEPTED
    pub message_accepted : (reply_of (run.radio time (message_bytes s)) w ≡ of_radio (Ok RadioAnswer.Accepted)) ⊎ (reply_of (run.radio time (message_bytes s)) w ≡ of_radio (Ok RadioAnswer.Due))
    message_accepted = rw message_heard (go (due_of w.state.context (message_of s).context))
      where
        go : (due : Bool) → (of_radio (cond due (Ok RadioAnswer.Due) (Ok RadioAnswer.Accepted)) ≡ of_radio (Ok RadioAnswer.Accepted)) ⊎ (of_radio (cond due (Ok RadioAnswer.Due) (Ok RadioAnswer.Accepted)) ≡ of_radio (Ok RadioAnswer.Due))
        go true = inr refl
        go false = inl refl

-- EVERY CALL of the radio's end, on a state within the limits: where it answers with a message of so many bytes, these bytes of the output are accepted
module _ (s : radio.State) (fits : limits.state_fits s ≡ true) (out : List ℕ) (w : World) (same : w.state.datalink.id ≡ s.datalink) (time : ℕ)
    (within : state_fits w.state ≡ true) (later : w.state.pacer.clock ≤ time) where
  abbrev pub Written : After → Type 0
  Written r = (n : ByteCount) → (r.answer ≡ Ok (Answer.Answered n)) ⊎ (r.answer ≡ Ok (Answer.Unasked n))
      → (reply_of (run.radio time (take n.0 r.output)) w ≡ of_radio (Ok RadioAnswer.Accepted)) ⊎ (reply_of (run.radio time (take n.0 r.output)) w ≡ of_radio (Ok RadioAnswer.Due))

  taken : {r : After} → Leaves s out r → Written r
  taken {r} left n e =
      let told = left.message n e in
      let bytes = message_bytes r.state in
      let is : take n.0 r.output ≡ bytes = rw (told.0, told.1) (take_at bytes (drop (length bytes) out) (length bytes) refl) in
      rw is (message_accepted r.state left.within w (same ∙ sym left.datalink) time within later)

  pub written_accepted : EachCall Octets s out Written
  written_accepted =
      let left = call_leaves s out fits in
      record {
        status = λ id value. taken (left.status id value);
        queued = λ id bytes. taken (left.queued id bytes);
        context = λ context. taken (left.context context);
        link = λ instance. taken (left.link instance);
        tell = taken left.tell;
        hear = λ datagram octets. taken (left.hear datagram octets);
      }
