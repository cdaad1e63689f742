-- `stated::one_of` meets its contract: a value behind a tag that gives one is below the limit. Assumes nothing.
use Rattle.lent_messages.proofs.Saying.{fits_given}
use Rattle.lent_messages.proofs.stated.one_of.Goals as goal

pub numbered-requires : goal.numbered-requires
numbered-requires g c = fits_given _ _ _ c.requires c.if-tag-eq-ABSENT.false
