-- `place::find` meets its contract: each way out is a law of `Finding`. Assumes nothing.
use mathlib.Core.Path.{sym, ◌∙◌}
use Rattle.ips_words_survey.proofs.Finding.{find_unfit, find_long, find_none, find_at, words_long, index_last}
use Rattle.ips_words_survey.proofs.place.find.Goals as goal

pub returns-in_default : goal.returns-in_default
returns-in_default c = find_unfit _ _ _ c.in_default.ensures

pub returns-then-survey-size : goal.returns-then-survey-size
returns-then-survey-size c = find_long _ _ _ _ c.in-Some.ensures c.if-survey-size.true

pub bounds-words-1 : goal.bounds-words-1
bounds-words-1 c = words_long _ _ _ c.in-Some.ensures

pub returns-then-survey-narrow : goal.returns-then-survey-narrow
returns-then-survey-narrow c = find_none _ _ _ _ c.in-Some.ensures c.if-survey-size.false (c.if-survey-narrow.true ∙ c.narrow.ensures ∙ index_last _ _ _ c.in-Some.ensures)

pub returns : goal.returns
returns c = find_at _ _ _ _ c.in-Some.ensures c.if-survey-size.false (λ e. c.if-survey-narrow.false (e ∙ sym (c.narrow.ensures ∙ index_last _ _ _ c.in-Some.ensures)))
