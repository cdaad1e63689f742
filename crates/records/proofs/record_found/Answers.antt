-- `record_found` meets its contract, way by way. Assumes nothing.
use Rattle.records.specs.Unread.{LONGEST, record_found}
use borrow.Author.Tests.{lt-ltb, le-ltb, eq-eqb, ne_eqb}
use Rattle.records.proofs.record_found.Goals as goal

pub returns-then-bytes-eq0 : goal.returns-then-bytes-eq0
unfolding record_found
returns-then-bytes-eq0 c = rw (eq-eqb _ 0 c.if-bytes-eq0.true) c.between.ensures

pub returns-then-bytes-lt-RECORD_HEAD : goal.returns-then-bytes-lt-RECORD_HEAD
unfolding record_found
returns-then-bytes-lt-RECORD_HEAD c = rw (ne_eqb _ 0 c.if-bytes-eq0.false, lt-ltb _ 16 c.if-bytes-lt-RECORD_HEAD.true) c.short.ensures

pub returns-then-captured-gt-LONGEST : goal.returns-then-captured-gt-LONGEST
unfolding record_found
returns-then-captured-gt-LONGEST c = rw (← c.number-captured.ensures) (simp (ne_eqb _ 0 c.if-bytes-eq0.false, le-ltb _ 16 c.if-bytes-lt-RECORD_HEAD.false, lt-ltb LONGEST _ c.if-captured-gt-LONGEST.true))

pub returns-then-bytes-captured : goal.returns-then-bytes-captured
unfolding record_found
returns-then-bytes-captured c = rw (← c.number-captured.ensures) (simp (ne_eqb _ 0 c.if-bytes-eq0.false, le-ltb _ 16 c.if-bytes-lt-RECORD_HEAD.false, le-ltb LONGEST _ c.if-captured-gt-LONGEST.false, lt-ltb _ _ c.if-bytes-captured.true) c.short-then-bytes-captured.ensures)

pub returns : goal.returns
unfolding record_found
returns c = rw (← c.number-captured.ensures, ← c.number.ensures) (simp (ne_eqb _ 0 c.if-bytes-eq0.false, le-ltb _ 16 c.if-bytes-lt-RECORD_HEAD.false, le-ltb LONGEST _ c.if-captured-gt-LONGEST.false, le-ltb _ _ c.if-bytes-captured.false, c.behind.ensures))
