-- `part` meets its contract: both ends within the bytes, or nothing between them. Assumes nothing.
use Rattle.std.proofs.Common.{sym, ◌∙◌, arith}
use Rattle.octets.proofs.Search.{slice_is}
use Rattle.ethernet.proofs.Parts.{slice_crossed, slice_cut}
use Rattle.ethernet.proofs.part.Goals as goal

pub returns-in-Some : goal.returns-in-Some
returns-in-Some c =
    let found = c.in-Some.ensures.lookup.0 in
    found.2 ∙ sym (slice_is c.args.from c.min.result c.args.bytes.now found.0) ∙ rw c.min.ensures (slice_cut _ _ _)

pub returns-in-None : goal.returns-in-None
returns-in-None c = slice_crossed c.args.from c.min.result c.args.bytes.now (omega (arith, c.in-None.ensures.lookup.0)) ∙ rw c.min.ensures (slice_cut _ _ _)
