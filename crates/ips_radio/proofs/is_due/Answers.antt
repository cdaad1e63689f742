-- `is_due` meets its contract. Assumes nothing.
use borrow.Author.Tests.{eq-eqb, ne_eqb}
use Rattle.ips_radio.proofs.is_due.Goals as goal

pub returns-then-bytes-kept_bytes : goal.returns-then-bytes-kept_bytes
returns-then-bytes-kept_bytes c = rw (c.in-Some.is, c.in-Some-kept.is, ne_eqb _ _ c.if-bytes-kept_bytes.true)

pub returns-else-bytes-kept_bytes : goal.returns-else-bytes-kept_bytes
returns-else-bytes-kept_bytes c = rw (c.in-Some.is, c.in-Some-kept.is, eq-eqb _ _ c.if-bytes-kept_bytes.false)
