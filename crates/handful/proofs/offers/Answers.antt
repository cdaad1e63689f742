-- `offers` meets its contract. Assumes nothing.
use mathlib.Core.Path.{refl, sym, ◌∙◌}
use Rattle.handful.specs.Handful.{is_handful}
use Rattle.handful.proofs.Handing.{words_unfit, memory_unfit, both_fit, handed_unfit, handed_faulty, handed_each}
use Rattle.handful.proofs.offers.Goals as goal

pub returns-in_default : goal.returns-in_default
returns-in_default c = handed_unfit _ _ _ _ (words_unfit _ _ c.in_default.ensures) c.refused.ensures

pub returns-then-survey-memory : goal.returns-then-survey-memory
returns-then-survey-memory c = handed_unfit _ _ _ _ (memory_unfit _ _ _ c.in-Some.ensures c.if-survey-memory.true) c.refused-then-survey-memory.ensures

pub returns-then-not-is_handful : goal.returns-then-not-is_handful
unfolding is_handful
returns-then-not-is_handful c = handed_faulty _ _ _ _ (both_fit _ _ _ c.in-Some.ensures c.if-survey-memory.false) (sym c.is_handful.ensures ∙ c.if-not-is_handful.true) c.refused-then-not-is_handful.ensures

pub offer_each-requires : goal.offer_each-requires
unfolding is_handful
offer_each-requires c = record { fits = (both_fit _ _ _ c.in-Some.ensures c.if-survey-memory.false); handful = sym c.is_handful.ensures ∙ c.if-not-is_handful.false }

pub returns : goal.returns
unfolding is_handful
returns c = handed_each _ _ _ _ (both_fit _ _ _ c.in-Some.ensures c.if-survey-memory.false) (sym c.is_handful.ensures ∙ c.if-not-is_handful.false) refl _ _ _ c.offer_each.ensures
