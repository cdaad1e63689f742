-- `next` meets its contract: outside the buffer, in front of the file's head, and behind it. Assumes nothing.
use Rattle.std.proofs.Common.{sym, ◌∙◌}
use Rattle.lines.proofs.Laws.{tidy_is}
use Rattle.records.proofs.Ways.{next_end, next_record, next_head, part_fits}
use Rattle.records.proofs.next.Goals as goal

pub returns-then-not-tidy : goal.returns-then-not-tidy
returns-then-not-tidy c = next_end _ _ (sym c.tidy.ensures ∙ c.if-not-tidy.true)

pub slice_bounds-record_found-count : goal.slice_bounds-record_found-count
slice_bounds-record_found-count c = (tidy_is _ _ (sym c.tidy.ensures ∙ c.if-not-tidy.false)).0

pub slice_bounds-record_found-start : goal.slice_bounds-record_found-start
slice_bounds-record_found-start c = (tidy_is _ _ (sym c.tidy.ensures ∙ c.if-not-tidy.false)).0

pub slice_bounds-record_found-end : goal.slice_bounds-record_found-end
slice_bounds-record_found-end c = (tidy_is _ _ (sym c.tidy.ensures ∙ c.if-not-tidy.false)).1

pub record_found-requires : goal.record_found-requires
record_found-requires c = part_fits _ c.args.input (sym c.tidy.ensures ∙ c.if-not-tidy.false)

pub returns-then-input : goal.returns-then-input
returns-then-input c = c.record_found.ensures ∙ next_record _ _ (sym c.tidy.ensures ∙ c.if-not-tidy.false) c.if-input.true

pub slice_bounds-head_found-count : goal.slice_bounds-head_found-count
slice_bounds-head_found-count c = (tidy_is _ _ (sym c.tidy.ensures ∙ c.if-not-tidy.false)).0

pub slice_bounds-head_found-start : goal.slice_bounds-head_found-start
slice_bounds-head_found-start c = (tidy_is _ _ (sym c.tidy.ensures ∙ c.if-not-tidy.false)).0

pub slice_bounds-head_found-end : goal.slice_bounds-head_found-end
slice_bounds-head_found-end c = (tidy_is _ _ (sym c.tidy.ensures ∙ c.if-not-tidy.false)).1

pub head_found-requires : goal.head_found-requires
head_found-requires c = part_fits _ c.args.input (sym c.tidy.ensures ∙ c.if-not-tidy.false)

pub returns : goal.returns
returns c = c.head_found.ensures ∙ next_head _ _ (sym c.tidy.ensures ∙ c.if-not-tidy.false) c.if-input.false
