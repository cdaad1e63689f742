-- `survey::channel_fits` meets its contract. Assumes nothing.
use Rattle.radio_end_survey.proofs.Walking.{part_is}
use Rattle.radio_end_survey.proofs.survey.channel_fits.Goals as goal

pub returns : goal.returns
returns c = rw (← part_is c.args.words.now c.args.index) c.channel_fits.ensures
