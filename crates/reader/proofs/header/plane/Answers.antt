-- `header::plane` meets its contract, way by way. Assumes nothing.
use borrow.Author.Tests.{le-ltb, lt-ltb, eq-eqb, ne_eqb}
use Rattle.quantity.specs.Limits.{LONGEST-DATAGRAM}
use Rattle.reader.specs.Header.{CURRENT-VERSION}
use Rattle.reader.specs.Readings.{plane_of}
use Rattle.reader.proofs.header.plane.Goals as goal

pub returns-then-datagram-gt-LONGEST_DATAGRAM : goal.returns-then-datagram-gt-LONGEST_DATAGRAM
unfolding plane_of
returns-then-datagram-gt-LONGEST_DATAGRAM c = simp (lt-ltb LONGEST-DATAGRAM _ c.if-datagram-gt-LONGEST_DATAGRAM.true) c.refused.ensures

pub returns-then-datagram-eq0 : goal.returns-then-datagram-eq0
unfolding plane_of
returns-then-datagram-eq0 c = simp (le-ltb LONGEST-DATAGRAM _ c.if-datagram-gt-LONGEST_DATAGRAM.false, eq-eqb _ 0 c.if-datagram-eq0.true) c.refused-then-datagram-eq0.ensures

pub returns-then-header-ne-CURRENT_VERSION : goal.returns-then-header-ne-CURRENT_VERSION
unfolding plane_of
returns-then-header-ne-CURRENT_VERSION c = simp (le-ltb LONGEST-DATAGRAM _ c.if-datagram-gt-LONGEST_DATAGRAM.false, ne_eqb _ 0 c.if-datagram-eq0.false, ne_eqb _ CURRENT-VERSION c.if-header-ne-CURRENT_VERSION.true) c.refused-then-header-ne-CURRENT_VERSION.ensures

pub returns-then-header-eq0 : goal.returns-then-header-eq0
unfolding plane_of
returns-then-header-eq0 c = simp (le-ltb LONGEST-DATAGRAM _ c.if-datagram-gt-LONGEST_DATAGRAM.false, ne_eqb _ 0 c.if-datagram-eq0.false, eq-eqb _ CURRENT-VERSION c.if-header-ne-CURRENT_VERSION.false, eq-eqb _ 0 c.if-header-eq0.true)

pub returns : goal.returns
unfolding plane_of
returns c = simp (le-ltb LONGEST-DATAGRAM _ c.if-datagram-gt-LONGEST_DATAGRAM.false, ne_eqb _ 0 c.if-datagram-eq0.false, eq-eqb _ CURRENT-VERSION c.if-header-ne-CURRENT_VERSION.false, ne_eqb _ 0 c.if-header-eq0.false)
