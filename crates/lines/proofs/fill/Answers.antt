use Rattle.std.proofs.Common.{arith, rules, sym, ◌∙◌}
use Rattle.lines.proofs.Laws.{tidy_is, filled_none, filled_lost, filled_kept}
use Rattle.lines.proofs.fill.Goals as goal

pub returns-then-not-tidy : goal.returns-then-not-tidy
returns-then-not-tidy g c = filled_none _ _ (sym c.tidy.ensures ∙ c.if-not-tidy.true)

pub returns-then-lost : goal.returns-then-lost
returns-then-lost g c =
    filled_lost _ _ (sym c.tidy.ensures ∙ c.if-not-tidy.false) (sym c.lost.ensures ∙ c.if-lost.true) c.read_behind.ensures

pub copy_within-requires : goal.copy_within-requires
copy_within-requires g c =
    let k = tidy_is _ _ (sym c.tidy.ensures ∙ c.if-not-tidy.false) in
    record { start_le_end = omega arith; in_bounds = omega arith; dest_in_bounds = omega arith; not_exhausted = search rules }

pub overflow_sub-input : goal.overflow_sub-input
overflow_sub-input g c = let k = tidy_is _ _ (sym c.tidy.ensures ∙ c.if-not-tidy.false) in omega arith

pub read_behind-requires-2 : goal.read_behind-requires-2
read_behind-requires-2 g c = let k = tidy_is _ _ (sym c.tidy.ensures ∙ c.if-not-tidy.false) in omega arith

pub returns : goal.returns
returns g c =
    filled_kept _ _ (sym c.tidy.ensures ∙ c.if-not-tidy.false) (sym c.lost.ensures ∙ c.if-lost.false) c.copy_within.ensures.after c.read_behind-2.ensures
