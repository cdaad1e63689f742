-- `hear` meets its contract. Assumes nothing.
use mathlib.Core.Path.{◌∙◌}
use Rattle.ips_words_radio.specs.HeardWords.{heard_words}
use Rattle.ips_words_radio.proofs.Hearing.{slots_room, instance_room}
use Rattle.ips_words_radio.proofs.hear.Goals as goal

pub hear_instance-requires : goal.hear_instance-requires
hear_instance-requires c = slots_room c.args.message _ _ c.requires c.hear_slots.ensures

pub hear_context-requires : goal.hear_context-requires
hear_context-requires c = instance_room c.args.message.instance c.hear_slots.new.words _ (slots_room c.args.message _ _ c.requires c.hear_slots.ensures) c.hear_instance.ensures

pub returns : goal.returns
unfolding heard_words
returns c = c.hear_context.ensures ∙ rw (c.hear_instance.ensures, c.hear_slots.ensures)
