-- `asked` meets its contract: by the words that there are. Assumes nothing.
use Rattle.capture_words.specs.Settings.{none, three, others}
use Rattle.capture_words.proofs.asked.Goals as goal

pub returns-then-not-has_word : goal.returns-then-not-has_word
returns-then-not-has_word g c = rw c.numbers_say.ensures none

pub returns-then-not-has_word-2 : goal.returns-then-not-has_word-2
returns-then-not-has_word-2 g c = rw c.refused.ensures others

pub returns-then-has_word : goal.returns-then-has_word
returns-then-has_word g c = rw c.refused-then-has_word.ensures others

pub returns : goal.returns
returns g c = rw c.words_say.ensures (three _ _ _)
