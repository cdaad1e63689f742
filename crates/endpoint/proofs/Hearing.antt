-- The ways out of a radio message handed in, of the pacer asked, and of a query. Assumes nothing.
use Rattle.std.specs.Prelude.{Option, Result, Ok, Err}
use Rattle.quantity.specs.declared.count.ByteCount.{ByteCount}
use Rattle.meaning.specs.declared.message.ContextBytes.{ContextBytes}
use Rattle.meaning.specs.declared.message.Plane.{Plane}
use Prim.Native.Nat.{ℕ, ◌≤◌}
use mathlib.Core.Bool.{Bool, true, false, cond}
use mathlib.Core.List.{List}
use mathlib.Core.Path.{◌≡◌, refl, sym, ap, ap₂, ◌∙◌}
use native.Mathlib.Omega.{arith}
use lib.ListN.{length}
use Rattle.quantity.specs.declared.refusal.Refusal.{Refusal}
use Rattle.quantity.specs.Refusals.{OUTSIDE-LIMITS, EARLIER-PACE}
use Rattle.meaning.specs.declared.message.End.TheVariants as ends
use Rattle.meaning.specs.declared.message.Control.{Control}
use Rattle.reader.specs.Readings.{ControlReading, DataReading, read_control, read_data, plane_of}
use Rattle.writer.specs.Written.{control_written, Outcome}
use Rattle.pacer.specs.declared.Pacer.{Pacer}
use Rattle.pacer.specs.declared.PaceAnswer.{PaceAnswer}
use Rattle.pacer.specs.Pacing.{is_earlier, is_due, is_silent, asked, heard_at, moved_to, answer_of}
use Rattle.ips_state.specs.State.{State}
use Rattle.ips_state.specs.Limits.{state_fits}
use Rattle.ips_radio.specs.declared.RadioAnswer.{RadioAnswer}
use Rattle.ips_radio.specs.Heard.{due_of}
use Rattle.ips_query.specs.Query.{query_of}
use Rattle.ips_query.proofs.Queries.{query_allowed}
use Rattle.ips_run.specs.Run.{radio, pace, query, received_in, in_time}
use Rattle.ips_calls.specs.Radio.{handed_in_under, handed_in}
use Rattle.ips_calls.specs.Pace.{refused_pace, pace_answer_under, pace_answer}
use Rattle.ips_calls.specs.Replies.{of_radio, of_pace, of_query}
use Rattle.ips_calls.proofs.Querying.{query_unfit, query_written_lem}
use Rattle.ips_words.specs.Words.{HEAD, state_of, state_in, put_pacer}
use Rattle.ips_words_radio.specs.HeardWords.{heard_words, silenced_words, received_words, paced_words}
use Rattle.ips_words_radio.proofs.Hearing.{head_there}
use Rattle.ips_words_radio.proofs.Heard.{heard_length, silenced_length}
use Rattle.endpoint.specs.Lent.{lent, after_in_under}
use Rattle.endpoint.specs.Calls.{PerformedInWithAny}
use Rattle.endpoint.specs.Radio.{MessageHeard, DataPassed, ControlRead, DataRead, DatagramRead, refused_radio}
use Rattle.endpoint.proofs.Placing.{says_so}

-- ---- the endpoint's own words are there after a message and after a silence
pub heard_room : (message : Control) (words heard : List ℕ) → state_fits (state_in words) ≡ true → heard ≡ heard_words message words → HEAD ≤ length heard
heard_room message words heard fits e = rw e (omega (arith, heard_length message words fits, head_there words fits))

pub silent_room : (silent : Bool) (words fallen : List ℕ) → state_fits (state_in words) ≡ true → fallen ≡ cond silent (silenced_words words) words → HEAD ≤ length fallen
silent_room true words fallen fits e = rw e (omega (arith, silenced_length words fits, head_there words fits))
silent_room false words fallen fits e = rw e (head_there words fits)

-- ---- an accepted control message
pub message_heard : (time : ℕ) (message : Control) (words : List ℕ) → state_fits (state_in words) ≡ true → (before : Option (ContextBytes × ℕ)) → before ≡ (state_of words).context
    → (due : Bool) → due ≡ due_of before message.context → (r : Result RadioAnswer Refusal) → r ≡ cond due (Ok RadioAnswer.Due) (Ok RadioAnswer.Accepted)
    → (paced : Pacer) → paced ≡ (state_of words).pacer → (heard : List ℕ) → heard ≡ heard_words message words → (moved : Pacer) → moved ≡ heard_at time paced
    → (words' : List ℕ) → words' ≡ put_pacer heard moved → MessageHeard time message words r words'
unfolding state_of
message_heard time message words fits before e due told r is paced p heard h moved m words' put =
    record { answer_is = is ∙ rw (told, says_so words fits (λ (s : State). s.context) before e); words_are = put ∙ rw (h, m, p) }

-- ---- an accepted data message
pub data_passed : (time : ℕ) (words : List ℕ) (paced : Pacer) → paced ≡ (state_of words).pacer → (moved : Pacer) → moved ≡ moved_to time paced
    → (words' : List ℕ) → words' ≡ put_pacer words moved → DataPassed time words (Ok RadioAnswer.Accepted) words'
unfolding state_of
data_passed time words paced p moved m words' put = record { answer_is = refl; words_are = put ∙ rw (m, p) }

-- ---- a datagram, read by its plane
module _ (time : ℕ) (words datagram : List ℕ) (r : Result RadioAnswer Refusal) (plane : Result Plane Refusal) (told : plane ≡ plane_of datagram) (words' : List ℕ) where
  pub read_control_lem : plane ≡ Ok Plane.Control → (reading : ControlReading) → reading ≡ read_control ends.Radio (state_in words).datalink.id datagram
      → ControlRead time reading words r words' → DatagramRead time datagram words r words'
  unfolding received_in
  read_control_lem p reading read h = record { answer_is = rw (sym told ∙ p, ← read) h.answer_is; words_are = rw (sym told ∙ p, ← read) h.words_are }

  pub read_data_lem : plane ≡ Ok Plane.Data → (reading : DataReading) → reading ≡ read_data ends.Radio (state_in words).datalink.id datagram
      → DataRead time reading words r words' → DatagramRead time datagram words r words'
  unfolding received_in
  read_data_lem p reading read h = record { answer_is = rw (sym told ∙ p, ← read) h.answer_is; words_are = rw (sym told ∙ p, ← read) h.words_are }

  pub read_refused : (refusal : Refusal) → plane ≡ Err refusal → r ≡ Err refusal → words' ≡ words → DatagramRead time datagram words r words'
  unfolding received_in
  read_refused refusal p is same = record { answer_is = rw (sym told ∙ p) is; words_are = rw (sym told ∙ p) same }

-- ---- a radio message handed in
module _ (time : ℕ) (words datagram : List ℕ) (r : Result RadioAnswer Refusal) where
  handed : (words' : List ℕ) → r ≡ (handed_in time (state_in words) datagram).answer
      → words' ≡ cond (in_time time (state_in words)) (received_words time (received_in (state_in words).datalink.id datagram) words) words
      → PerformedInWithAny (radio time datagram) words (of_radio r) words'
  unfolding after_in_under
  handed words' answer_is words_are memory = record { reply_is = ap of_radio answer_is; lent_is = ap (λ (ws : List ℕ). lent ws memory) words_are }

  pub handed_unfit : state_fits (state_in words) ≡ false → r ≡ refused_radio OUTSIDE-LIMITS → PerformedInWithAny (radio time datagram) words (of_radio r) words
  unfolding handed_in_under
  handed_unfit e is = handed words (rw e is) (rw e)

  module _ (fits : state_fits (state_in words) ≡ true) (paced : Pacer) (p : paced ≡ (state_of words).pacer) (early : Bool) (told : early ≡ is_earlier time paced) where
    earlier_is : is_earlier time (state_in words).pacer ≡ early
    earlier_is = rw (← (says_so words fits (λ (s : State). s.pacer) paced p)) (sym told)

    pub handed_earlier : early ≡ true → r ≡ refused_radio EARLIER-PACE → PerformedInWithAny (radio time datagram) words (of_radio r) words
    unfolding handed_in_under
    handed_earlier e is = handed words (rw (fits, earlier_is ∙ e) is) (rw (fits, earlier_is ∙ e))

    pub handed_read : early ≡ false → (words' : List ℕ) → DatagramRead time datagram words r words' → PerformedInWithAny (radio time datagram) words (of_radio r) words'
    unfolding handed_in_under
    handed_read e words' h = handed words' (rw (fits, earlier_is ∙ e) h.answer_is) (rw (fits, earlier_is ∙ e) h.words_are)

-- ---- the pacer asked
module _ (time : ℕ) (words : List ℕ) (r : Result PaceAnswer Refusal) where
  paced_so : (words' : List ℕ) → r ≡ pace_answer time (state_in words) → words' ≡ cond (in_time time (state_in words)) (paced_words time words) words
      → PerformedInWithAny (pace time) words (of_pace r) words'
  unfolding after_in_under
  paced_so words' answer_is words_are memory = record { reply_is = ap of_pace answer_is; lent_is = ap (λ (ws : List ℕ). lent ws memory) words_are }

  pub paced_unfit : state_fits (state_in words) ≡ false → r ≡ refused_pace OUTSIDE-LIMITS → PerformedInWithAny (pace time) words (of_pace r) words
  unfolding pace_answer_under
  paced_unfit e is = paced_so words (rw e is) (rw e)

  module _ (fits : state_fits (state_in words) ≡ true) (paced : Pacer) (p : paced ≡ (state_of words).pacer) (early : Bool) (told : early ≡ is_earlier time paced) where
    says_pacer : paced ≡ (state_in words).pacer
    says_pacer = says_so words fits (λ (s : State). s.pacer) paced p

    too_early : is_earlier time (state_in words).pacer ≡ early
    too_early = rw (← says_pacer) (sym told)

    pub paced_earlier : early ≡ true → r ≡ refused_pace EARLIER-PACE → PerformedInWithAny (pace time) words (of_pace r) words
    unfolding pace_answer_under
    paced_earlier e is = paced_so words (rw (fits, too_early ∙ e) is) (rw (fits, too_early ∙ e))

    pub paced_answered : early ≡ false → (due : Bool) → due ≡ is_due time paced → (silent : Bool) → silent ≡ is_silent time paced → r ≡ answer_of due silent
        → (fallen : List ℕ) → fallen ≡ cond silent (silenced_words words) words → (moved : Pacer) → moved ≡ asked time paced → (words' : List ℕ) → words' ≡ put_pacer fallen moved
        → PerformedInWithAny (pace time) words (of_pace r) words'
    unfolding pace_answer_under paced_words state_of
    paced_answered e due d silent s is fallen f moved m words' put =
        paced_so words' (rw (fits, too_early ∙ e, ← says_pacer, ← d, ← s) is)
        (rw (fits, too_early ∙ e)
        (put
        ∙ ap₂ put_pacer (f ∙ ap (λ (b : Bool). cond b (silenced_words words) words) (s ∙ ap (λ (x : Pacer). is_silent time x) p)) (m ∙ ap (asked time) p)))

-- ---- a query
module _ (words out : List ℕ) (r : Result ByteCount Refusal) where
  pub asked_unfit : state_fits (state_in words) ≡ false → r ≡ Err (record { number = OUTSIDE-LIMITS; place = 0 }) → PerformedInWithAny (query out) words (of_query r out) words
  unfolding after_in_under
  asked_unfit e is memory = record { reply_is = (query_unfit (state_in words) out r memory e is).reply_is; lent_is = refl }

  pub asked_written : state_fits (state_in words) ≡ true → (out' : List ℕ) → Outcome true (control_written (query_of (state_in words))) out r out'
      → PerformedInWithAny (query out) words (of_query r out') words
  unfolding after_in_under
  asked_written e out' written memory =
      record { reply_is = (query_written_lem (state_in words) out r memory e (query_of (state_in words)) refl out' (rw (query_allowed (state_in words)) written)).reply_is; lent_is = refl }
