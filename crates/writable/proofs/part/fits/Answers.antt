-- `part::fits` meets its contract: eight bytes hold any number, and fewer what has no bit beyond them. Assumes nothing.
use Rattle.std.proofs.Common.{◌∙◌, sym}
use borrow.Author.Tests.{le-leb}
use Rattle.writable.proofs.Fitting.{fits_long, fits_bits}
use Rattle.writable.proofs.part.fits.Goals as goal

pub returns-then-size-ge8 : goal.returns-then-size-ge8
returns-then-size-ge8 c = le-leb 8 c.args.size c.if-size-ge8.true ∙ sym (fits_long c.args.number c.args.size c.ranges.number.fits c.if-size-ge8.true)

pub returns-else-size-ge8 : goal.returns-else-size-ge8
returns-else-size-ge8 c = fits_bits c.args.number c.args.size
