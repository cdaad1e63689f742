-- Document 01, "A channel's life": each case of the answer to an accepted radio control message with what makes it so, and what the endpoint keeps of it, by the options
-- that stand in it.
use Rattle.quantity.specs.declared.refusal.Refusal.{Refusal}
use Rattle.std.specs.Prelude.{ℕ, ◌≤◌, true, List, [], ◌≡◌, length, Some, None, Result, Ok}
use Rattle.wire.specs.Numbers.{Octets, big_endian}
use Rattle.wire.specs.Options.{Options}
use Rattle.meaning.specs.declared.message.End.TheVariants as ends
use Rattle.meaning.specs.declared.message.Plane.TheVariants as planes
use Rattle.meaning.specs.declared.message.ContextBytes.{ContextBytes}
use Rattle.acceptance.specs.Account.{Accepts}
use Rattle.ips_state.specs.State.{State}
use Rattle.ips_state.specs.Limits.{state_fits}
use Rattle.ips_state.specs.Memory.{World}
use Rattle.ips_radio.specs.declared.RadioAnswer.{RadioAnswer}
use Rattle.ips_run.specs.Run.{Call, radio, accepted_all}
use Rattle.ips_calls.specs.Replies.{EndpointReply, of_radio}
use Rattle.ips_calls.specs.Calls.{Performed}
use Rattle.ips_calls.specs.Ran.{Ran}
use Rattle.radio_laws.specs.OptionByOption.{Holds}

-- Link Instance is type 3, Datalink Context type 4.
pub record Answers (options : Options) (s : State) (answer : Result RadioAnswer Refusal) (s' : State) : Type 0 where
  -- "A mobility message is reported due when a Context comes that differs from the last Context received (in length or bytes), or is the first."; document 02 §2: "a
  -- Context that follows an accepted control message without one is due even if equal to the older", so that none is kept of such a message.
  pub no_context_lem : ((content : List ℕ) → Holds 4 content options → ⊥) → (answer ≡ Ok RadioAnswer.Accepted) × (s'.context ≡ None)
  pub none_before : (content : List ℕ) → Holds 4 content options → s.context ≡ None → answer ≡ Ok RadioAnswer.Due
  pub other_context : (content : List ℕ) → Holds 4 content options → (last : ContextBytes) (size : ℕ) → s.context ≡ Some (last, size)
      → (last.0 ≡ big_endian content → size ≡ length content → ⊥) → answer ≡ Ok RadioAnswer.Due
  pub same_context_lem : (content : List ℕ) → Holds 4 content options → s.context ≡ Some (record { 0 = big_endian content }, length content) → answer ≡ Ok RadioAnswer.Accepted
  pub context_kept : (content : List ℕ) → Holds 4 content options → s'.context ≡ Some (record { 0 = big_endian content }, length content)
  -- "Link Instance is kept when given."
  pub instance_kept : (content : List ℕ) → Holds 3 content options → s'.instance ≡ Some (record { 0 = big_endian content }, length content)
  pub instance_stays : ((content : List ℕ) → Holds 3 content options → ⊥) → s'.instance ≡ s.instance

-- ---- a short life
-- a control message of these options, handed in and accepted
pub record HandedIn (options : Options) (w : World) (answer : Result RadioAnswer Refusal) (w' : World) : Type 0 where
  pub time : ℕ
  pub datagram : List ℕ
  pub octets : Octets datagram
  pub fits : state_fits w.state ≡ true
  pub timely : w.state.pacer.clock ≤ time
  pub accepts : Accepts planes.Control ends.Radio w.state.datalink.id datagram options
  pub performed : Performed (radio time datagram) w (of_radio answer) w'

-- any calls of which none is an accepted control message: refused ones, radio data messages and silences among them
pub record Between (w w' : World) : Type 0 where
  pub calls : List Call
  pub replies : List EndpointReply
  pub performed : Ran w calls replies w'
  pub no_control : accepted_all calls w ≡ []

-- Document 02 §2: after a control message without a Context, whatever was kept before it, one comes with a Context, and then one with the same.
pub record GapAnswers (without again once_more : Result RadioAnswer Refusal) : Type 0 where
  pub none_due : without ≡ Ok RadioAnswer.Accepted
  pub due_again : again ≡ Ok RadioAnswer.Due
  pub not_twice : once_more ≡ Ok RadioAnswer.Accepted
