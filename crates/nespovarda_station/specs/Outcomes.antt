-- The outcome of each call of the radio's end: its answer without the output's bytes.
use Rattle.std.specs.Prelude.{Result, Ok, Err}
use Rattle.quantity.specs.declared.refusal.Refusal.{Refusal}
use Rattle.answer_codes.specs.Codes.{Outcome, refused_as}
use Rattle.radio_end_state.specs.declared.answer.Answer.{Answer}

abbrev pub started_as : Result (Unit {0}) Refusal → Outcome
started_as (Ok tt) = Outcome.started
started_as (Err refusal) = refused_as refusal

abbrev pub said_as : Result Answer Refusal → Outcome
said_as (Ok (Answer.Answered bytes)) = Outcome.answered bytes.0
said_as (Ok (Answer.Unasked bytes)) = Outcome.unasked bytes.0
said_as (Ok Answer.Quiet) = Outcome.no_message
said_as (Err refusal) = refused_as refusal
