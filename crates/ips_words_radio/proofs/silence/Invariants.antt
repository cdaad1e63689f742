use Rattle.std.specs.Prelude.{Some, None}
use Rattle.meaning.specs.declared.message.Window.{Window}
use Rattle.ips_words_radio.proofs.Hearing.{Hears}
use Rattle.ips_words_radio.proofs.silence.Given as goal

abbrev pub invariant-loop-at : goal.invariant-loop-at
invariant-loop-at l = Hears l.initial.words (λ id. None) (λ id. (Some Window.Empty)) l.count l.words l.at
