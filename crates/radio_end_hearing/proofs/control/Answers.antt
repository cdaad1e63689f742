-- `control` meets its contract. Assumes nothing.
use Rattle.radio_end_words.proofs.Whole.{fit_words}
use Rattle.radio_end_hearing.proofs.Heard.{by_other}
use Rattle.radio_end_hearing.proofs.control.Goals as goal

pub returns-in-OtherPlane : goal.returns-in-OtherPlane
returns-in-OtherPlane c = by_other _ _ _ (fit_words _ c.requires) _ _ c.in-OtherPlane.is
