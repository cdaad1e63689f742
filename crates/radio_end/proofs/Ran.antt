-- Any sequence of calls on words is one on the state that they stand for. Assumes nothing.
use Rattle.std.specs.Prelude.{Option, Result, Ok, Err}
use Rattle.quantity.specs.declared.count.LinkInstanceId.{LinkInstanceId}
use Rattle.quantity.specs.declared.refusal.Refusal.{Refusal}
use Rattle.meaning.specs.declared.message.ContextBytes.{ContextBytes}
use Prim.Native.Nat.{ℕ}
use mathlib.Core.Bool.{Bool, true, false, not}
use mathlib.Core.List.{List, [], ◌∷◌, map}
use mathlib.Core.Path.{◌≡◌, refl, sym, ap, ap₂, ◌∙◌}
use Rattle.quantity.specs.declared.count.ByteCount.{ByteCount}
use Rattle.radio_end_state.specs.declared.answer.Answer.{Answer}
use Rattle.radio_end_state.specs.State.{State}
use Rattle.radio_end_state.specs.Limits.{state_fits}
use Rattle.radio_end_state.specs.Calls.{heard, status_told, queued_told, context_told, link_told, told}
use Rattle.radio_end_run.specs.Run.{Call, hear, status, queued, context, link, tell, after_call, state_after, states_after, answers_of, is_accepted, accepted_by, BytesIn}
use Rattle.radio_end_run.proofs.Steps.{step_refused}
use Rattle.radio_end_run.proofs.Kept.{run_fits}
use Rattle.radio_end_words.specs.Words.{state_in, state_words}
use Rattle.radio_end_words.proofs.Whole.{stands}
use Rattle.radio_end_telling.specs.Left.{is_refused, Left}
use Rattle.radio_end.specs.Ran.{PerformedIn, Reply, reply_of, RanIn, over, ran}

-- ---- the contracts of the six functions are the contract of a call
module _ (words : List ℕ) (answer : Result Answer Refusal) (words' out' : List ℕ) where
  pub hear_performs : (datagram out : List ℕ) → Left (heard (state_in words) datagram out) words answer words' out' → PerformedIn (hear datagram out) words answer words' out'
  unfolding after_call
  hear_performs datagram out l = l

  pub status_performs : (id value : ℕ) (out : List ℕ) → Left (status_told (state_in words) id value out) words answer words' out' → PerformedIn (status id value out) words answer words' out'
  unfolding after_call
  status_performs id value out l = l

  pub queued_performs : (id : ℕ) (bytes : ByteCount) (out : List ℕ) → Left (queued_told (state_in words) id bytes out) words answer words' out' → PerformedIn (queued id bytes out) words answer words' out'
  unfolding after_call
  queued_performs id bytes out l = l

  pub context_performs : (k : Option (ContextBytes × ℕ)) (out : List ℕ) → Left (context_told (state_in words) k out) words answer words' out' → PerformedIn (context k out) words answer words' out'
  unfolding after_call
  context_performs k out l = l

  pub link_performs : (instance : Option (LinkInstanceId × ℕ)) → Left (link_told (state_in words) instance []) words answer words' [] → PerformedIn (link instance) words answer words' []
  unfolding after_call
  link_performs instance l = l

  pub tell_performs : (out : List ℕ) → Left (told (state_in words) out) words answer words out' → PerformedIn (tell out) words answer words out'
  unfolding after_call
  tell_performs out l = l

-- ---- one call: the words that it leaves stand for the state that the call on the state leaves
refused_is : (answer : Result Answer Refusal) → is_refused answer ≡ not (is_accepted answer)
refused_is (Ok (Answer.Answered bytes)) = refl
refused_is (Ok (Answer.Unasked bytes)) = refl
refused_is (Ok Answer.Quiet) = refl
refused_is (Err refusal) = refl

pub performed_in : (c : Call) (words : List ℕ) (answer : Result Answer Refusal) (words' out' : List ℕ) → PerformedIn c words answer words' out' → state_in words' ≡ state_after c (state_in words)
performed_in c words answer words' out' l = go (accepted_by c (state_in words)) refl
  where
    go : (b : Bool) → accepted_by c (state_in words) ≡ b → state_in words' ≡ state_after c (state_in words)
    go true e =
        let kept : words' ≡ state_words (state_after c (state_in words)) = l.words_are ∙ rw (refused_is (after_call c (state_in words)).answer, e) in
        ap state_in kept ∙ stands (state_after c (state_in words))
    go false e =
        let kept : words' ≡ words = l.words_are ∙ rw (refused_is (after_call c (state_in words)).answer, e) in
        ap state_in kept ∙ sym (step_refused c (state_in words) e)

reply_in : (c : Call) (words : List ℕ) (answer : Result Answer Refusal) (words' out' : List ℕ) → PerformedIn c words answer words' out' → ◌≡◌ {A = Reply} (record { answer = answer; output = out' }) (reply_of (after_call c (state_in words)))
reply_in c words answer words' out' l = ap₂ {C = Reply} (λ (a : Result Answer Refusal) (o : List ℕ). record { answer = a; output = o }) l.answer_is l.output_is

-- ANY SEQUENCE OF CALLS ON WORDS: the words stand for the state after those calls, and every answer and output is that of the call on the state
pub ran_in : {words last : List ℕ} {cs : List Call} {xs : List Reply} → RanIn words cs xs last
    → (state_in last ≡ states_after cs (state_in words)) × (xs ≡ map reply_of (answers_of cs (state_in words)))
ran_in over = (refl, refl)
ran_in (ran {words = words} {words' = words'} {out' = out'} {c = c} {answer = answer} {cs = cs} l more) =
    let left = performed_in c words answer words' out' l in
    let rest = ran_in more in (
      rest.0 ∙ ap (states_after cs) left,
      ap₂ (λ (x : Reply) (xs : List Reply). x ∷ xs) (reply_in c words answer words' out' l) (rest.1 ∙ ap (λ (s : State). map reply_of (answers_of cs s)) left),
    )

-- so words that 19 does not refuse stay so, where the datagrams are made of bytes
pub ran_fits : {words last : List ℕ} {cs : List Call} {xs : List Reply} → BytesIn cs → RanIn words cs xs last → state_fits (state_in words) ≡ true → state_fits (state_in last) ≡ true
ran_fits {words = words} {cs = cs} bytes r fits = ap state_fits (ran_in r).0 ∙ run_fits cs bytes (state_in words) fits
