-- `order_of` meets its contract, way by way. Assumes nothing.
use Rattle.records.specs.Heads.{BIG-MAGIC, LITTLE-MAGIC, order_of}
use borrow.Author.Tests.{eq-eqb, ne_eqb}
use Rattle.records.proofs.order_of.Goals as goal

pub returns-then-is_right : goal.returns-then-is_right
unfolding order_of
returns-then-is_right c = rw (← c.number-magic.ensures, ← c.is_right.ensures) (simp (eq-eqb _ BIG-MAGIC c.if-magic-eq-BIG_MAGIC.true, c.if-is_right.true))

pub returns-then-magic-eq-BIG_MAGIC : goal.returns-then-magic-eq-BIG_MAGIC
unfolding order_of
returns-then-magic-eq-BIG_MAGIC c = rw (← c.number-magic.ensures, ← c.is_right.ensures) (simp (eq-eqb _ BIG-MAGIC c.if-magic-eq-BIG_MAGIC.true, c.if-is_right.false))

pub returns-then-is_right-2 : goal.returns-then-is_right-2
unfolding order_of
returns-then-is_right-2 c = rw (← c.number-magic.ensures, ← c.is_right-then-magic-eq-LITTLE_MAGIC.ensures) (simp (ne_eqb _ BIG-MAGIC c.if-magic-eq-BIG_MAGIC.false, eq-eqb _ LITTLE-MAGIC c.if-magic-eq-LITTLE_MAGIC.true, c.if-is_right-2.true))

pub returns-else-is_right-2 : goal.returns-else-is_right-2
unfolding order_of
returns-else-is_right-2 c = rw (← c.number-magic.ensures, ← c.is_right-then-magic-eq-LITTLE_MAGIC.ensures) (simp (ne_eqb _ BIG-MAGIC c.if-magic-eq-BIG_MAGIC.false, eq-eqb _ LITTLE-MAGIC c.if-magic-eq-LITTLE_MAGIC.true, c.if-is_right-2.false))

pub returns-else-magic-eq-LITTLE_MAGIC : goal.returns-else-magic-eq-LITTLE_MAGIC
unfolding order_of
returns-else-magic-eq-LITTLE_MAGIC c = rw (← c.number-magic.ensures) (simp (ne_eqb _ BIG-MAGIC c.if-magic-eq-BIG_MAGIC.false, ne_eqb _ LITTLE-MAGIC c.if-magic-eq-LITTLE_MAGIC.false))
