use Rattle.std.proofs.Common.{sym, ◌∙◌}
use Rattle.lines.proofs.Laws.{tidy_is, next_end, next_line, next_failed, next_last, next_more}
use Rattle.lines.proofs.next.Goals as goal

pub returns-then-not-tidy : goal.returns-then-not-tidy
returns-then-not-tidy c = next_end _ _ (sym c.tidy.ensures ∙ c.if-not-tidy.true)

pub find-to-requires-clause-in_order : goal.find-to-requires-clause-in_order
find-to-requires-clause-in_order c = (tidy_is _ _ (sym c.tidy.ensures ∙ c.if-not-tidy.false)).0

pub find-to-requires-clause-in_bounds : goal.find-to-requires-clause-in_bounds
find-to-requires-clause-in_bounds c = (tidy_is _ _ (sym c.tidy.ensures ∙ c.if-not-tidy.false)).1

pub returns-then-to-have : goal.returns-then-to-have
returns-then-to-have c =
    c.line.ensures ∙ next_line _ _ (sym c.tidy.ensures ∙ c.if-not-tidy.false) c.find-to.ensures.place c.if-to-have.true

pub returns-then-input : goal.returns-then-input
returns-then-input c = next_failed _ _ (sym c.tidy.ensures ∙ c.if-not-tidy.false) c.find-to.ensures.place c.if-to-have.false c.if-input.true

pub returns-then-input-2 : goal.returns-then-input-2
returns-then-input-2 c =
    c.last.ensures
    ∙ next_last _ _ (sym c.tidy.ensures ∙ c.if-not-tidy.false) c.find-to.ensures.place c.if-to-have.false c.if-input.false c.if-input-2.true

pub returns : goal.returns
returns c =
    next_more _ _ (sym c.tidy.ensures ∙ c.if-not-tidy.false) c.find-to.ensures.place c.if-to-have.false c.if-input.false c.if-input-2.false
