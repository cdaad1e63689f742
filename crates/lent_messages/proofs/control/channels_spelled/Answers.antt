-- `control::channels_spelled` meets its contract. Assumes nothing.
use Rattle.quantity.specs.Limits.{CHANNEL-IDS}
use mathlib.Core.Path.{refl}
use Rattle.std.proofs.Common.{rules}
use Rattle.lent_messages.specs.Words.{channel_start, channel_spelled}
use Rattle.lent_messages.proofs.Ranges.{all_from_Range}
use Rattle.lent_messages.proofs.Saying.{channels_hold, channels_fail}
use Rattle.lent_messages.proofs.control.channels_spelled.Goals as goal

pub returns : goal.returns
returns c = all_from_Range (λ id. channel_spelled c.args.words.now (channel_start id)) CHANNEL-IDS _ _ c.all.result _ c.all.ensures.ran refl (λ x a q k. search rules) (channels_hold c.args.words.now CHANNEL-IDS) (λ id. channels_fail c.args.words.now CHANNEL-IDS id)
