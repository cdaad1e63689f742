use Rattle.ips_radio.specs.Heard.{status_in, window_in}
use Rattle.ips_words_radio.proofs.Hearing.{Hears}
use Rattle.ips_words_radio.proofs.hear_slots.Given as goal

abbrev pub invariant-loop-at : goal.invariant-loop-at
invariant-loop-at l = Hears l.initial.words (status_in l.message) (window_in l.message) l.count l.words l.at
