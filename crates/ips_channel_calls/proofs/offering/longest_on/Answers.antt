-- `offering::longest_on` meets its contract. Assumes nothing.
use Rattle.std.proofs.Common.{arith, le-leb}
use borrow.Author.Tests.{lt-leb}
use Rattle.facts.proofs.Tests.{by_le}
use Rattle.quantity.specs.Limits.{LONGEST-PACKET}
use Rattle.ips_channel_calls.proofs.offering.longest_on.Goals as goal

pub returns : goal.returns
returns c = λ k longest size.
    by_le LONGEST-PACKET c.args.size
    (λ h. rw (longest, size, le-leb LONGEST-PACKET c.args.size h) (omega (arith, c.min.ensures)))
    (λ h. rw (longest, size, lt-leb LONGEST-PACKET c.args.size h) (omega (arith, c.min.ensures)))
