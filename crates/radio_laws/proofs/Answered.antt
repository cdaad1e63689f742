-- Promise: each answer to an accepted radio control message, and what the endpoint keeps of it: of a call as it should be on a state. Assumes nothing.
use Rattle.std.specs.Prelude.{Some, Result, Ok}
use Rattle.quantity.specs.declared.refusal.Refusal.{Refusal}
use Prim.Native.Nat.{ℕ, ◌≤◌}
use mathlib.Core.Bool.{Bool, true, false, cond, not, ◌&&◌}
use mathlib.Core.List.{List, []}
use mathlib.Core.Path.{◌≡◌, refl, sym, ap, ◌∙◌}
use borrow.Author.Tests.{eq-eqb, eqb-true, le-ltb}
use lib.Dec.{eqb}
use lib.ListN.{length}
use Rattle.wire.specs.Numbers.{Octets, big_endian}
use Rattle.wire.specs.Options.{Options}
use Rattle.meaning.specs.declared.message.End.TheVariants as ends
use Rattle.meaning.specs.declared.message.Plane.TheVariants as planes
use Rattle.meaning.specs.declared.message.ContextBytes.{ContextBytes}
use Rattle.read_option.specs.Stated.{Table, instance_from, context_from, control_stated}
use Rattle.acceptance.specs.Account.{table_of, Accepts, control_meaning}
use Rattle.ips_state.specs.State.{State, with_pacer}
use Rattle.ips_state.specs.Limits.{state_fits}
use Rattle.ips_state.specs.Memory.{World}
use Rattle.ips_radio.specs.declared.RadioAnswer.{RadioAnswer}
use Rattle.ips_radio.specs.Heard.{kept_instance, heard_by, due_of}
use Rattle.ips_run.specs.Run.{radio, received_in, in_time, received, with_state, after_under}
use Rattle.ips_run.proofs.Kept.{no_gap}
use Rattle.ips_calls.specs.Radio.{AfterRadio, handed_in}
use Rattle.ips_calls.specs.Replies.{EndpointReply, of_radio}
use Rattle.ips_calls.specs.Calls.{lending, Performed, PerformedWithAny}
use Rattle.ips_calls.proofs.Exactly.{radio_heard}
use Rattle.ips_calls.proofs.Ran.{ran_world}
use Rattle.radio_laws.specs.OptionByOption.{Holds}
use Rattle.radio_laws.specs.Answered.{Answers, HandedIn, Between, GapAnswers}
use Rattle.radio_laws.proofs.Holding.{ForMessage, says_once, said_once}
use Rattle.radio_laws.proofs.OptionByOption.{brings, left}

link_instance : ForMessage 3
link_instance = record { is_known = refl; listed = refl; once = refl }

datalink_context : ForMessage 4
datalink_context = record { is_known = refl; listed = refl; once = refl }

abbrev told : Bool → Result RadioAnswer Refusal
told due = cond due (Ok RadioAnswer.Due) (Ok RadioAnswer.Accepted)

-- a Context that isn't the last one
differs : (last : ContextBytes) (size : ℕ) (content : List ℕ) → (last.0 ≡ big_endian content → size ≡ length content → ⊥)
    → not (eqb (big_endian content) last.0 && eqb (length content) size) ≡ true
differs last size content other = go (eqb (big_endian content) last.0) refl (eqb (length content) size) refl
  where
    go : (a : Bool) → eqb (big_endian content) last.0 ≡ a → (b : Bool) → eqb (length content) size ≡ b → not (a && b) ≡ true
    go true p true q = absurd (other (sym (eqb-true _ _ p)) (sym (eqb-true _ _ q)))
    go true p false q = refl
    go false p b q = refl

module _ (s : State) (fits : state_fits s ≡ true) (time : ℕ) (timely : s.pacer.clock ≤ time) (datagram : List ℕ) (octets : Octets datagram)
    (f : Options) (a : Accepts planes.Control ends.Radio s.datalink.id datagram f)
    {answer : Result RadioAnswer Refusal} {s' : State} (h : PerformedWithAny (radio time datagram) s (of_radio answer) s') where
  abbrev table : Table
  table = table_of planes.Control ends.Radio f

  given : answer ≡ told (due_of s.context (context_from (table 4 0)))
  unfolding control_stated
  given =
      let is : answer ≡ (handed_in time s datagram).answer = cc (h []).reply_is in
      is ∙ ap (λ (r : AfterRadio). r.answer) (radio_heard s time datagram (rw (fits, le-ltb time s.pacer.clock timely)) (control_meaning ends.Radio f) (brings s.datalink.id datagram f a octets))

  context_left : s'.context ≡ context_from (table 4 0)
  unfolding heard_by with_pacer control_stated
  context_left = ap (λ (t : State). t.context) (left s fits time timely datagram octets f a h)

  instance_left : s'.instance ≡ kept_instance s.instance (instance_from (table 3 0))
  unfolding heard_by with_pacer control_stated
  instance_left = ap (λ (t : State). t.instance) (left s fits time timely datagram octets f a h)

  context_is : (content : List ℕ) → Holds 4 content f → table 4 0 ≡ Some content
  context_is = says_once 4 datalink_context s.datalink.id datagram f a

  instance_is : (content : List ℕ) → Holds 3 content f → table 3 0 ≡ Some content
  instance_is = says_once 3 link_instance s.datalink.id datagram f a

  -- THE PROMISE
  pub answered : Answers f s answer s'
  answered = record {
    no_context_lem = λ never. let e = said_once 4 datalink_context s.datalink.id datagram f a never in (given ∙ rw e, context_left ∙ rw e);
    none_before = λ content holds none. given ∙ rw (context_is content holds, none);
    other_context = λ content holds last size before other. given ∙ rw (context_is content holds, before, differs last size content other);
    same_context_lem = λ content holds before.
        given ∙ rw (context_is content holds, before, eq-eqb (big_endian content) (big_endian content) refl, eq-eqb (length content) (length content) refl);
    context_kept = λ content holds. context_left ∙ rw (context_is content holds);
    instance_kept = λ content holds. instance_left ∙ rw (instance_is content holds);
    instance_stays = λ never. instance_left ∙ rw (said_once 3 link_instance s.datalink.id datagram f a never);
  }

-- ---- after a gap
-- a message handed in leaves any memory that is lent with it
with_any : {time : ℕ} {datagram : List ℕ} {w w' : World} {x : EndpointReply} → Performed (radio time datagram) w x w' → PerformedWithAny (radio time datagram) w.state x w'.state
unfolding after_under
with_any {time} {datagram} {w} h memory = record { reply_is = h.reply_is; world_is = ap (λ (v : World). lending v.state memory) h.world_is ∙ go (in_time time w.state) }
  where
    go : (t : Bool) → lending (cond t (with_state w (received time (received_in w.state.datalink.id datagram) w.state)) w).state memory
        ≡ cond t (with_state (lending w.state memory) (received time (received_in w.state.datalink.id datagram) w.state)) (lending w.state memory)
    go true = refl
    go false = refl

answers : {f : Options} {w w' : World} {answer : Result RadioAnswer Refusal} → HandedIn f w answer w' → Answers f w.state answer w'.state
answers {f} {w} h = answered w.state h.fits h.time h.timely h.datagram h.octets f h.accepts (with_any h.performed)

kept_between : {w w' : World} → Between w w' → w'.state.context ≡ w.state.context
kept_between {w} b = ap (λ (w : World). w.state.context) (ran_world b.performed) ∙ no_gap b.calls w b.no_control

-- THE PROMISE, drawn from `answered` and `no_gap`: after a message without a Context the next one is due, and the same again is not, whatever other calls come between
pub gap_answered : {f g h : Options} {r s s' t t' u : World} {without again once_more : Result RadioAnswer Refusal}
    → HandedIn f r without s → Between s s' → HandedIn g s' again t → Between t t' → HandedIn h t' once_more u
    → ((other : List ℕ) → Holds 4 other f → ⊥) → (content : List ℕ) → Holds 4 content g → Holds 4 content h → GapAnswers without again once_more
gap_answered one quiet two still three none content a b = record {
  none_due = ((answers one).no_context_lem none).0;
  due_again = (answers two).none_before content a (kept_between quiet ∙ ((answers one).no_context_lem none).1);
  not_twice = (answers three).same_context_lem content b (kept_between still ∙ (answers two).context_kept content a);
}
