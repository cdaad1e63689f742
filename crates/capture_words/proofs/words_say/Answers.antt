-- `words_say` meets its contract, word by word. Assumes nothing.
use Rattle.capture_words.specs.Settings.{words_say}
use Rattle.capture_words.proofs.words_say.Goals as goal

pub returns-in_default : goal.returns-in_default
unfolding words_say
returns-in_default c = rw c.in_default.is c.refused.ensures

pub returns-in_default-ips : goal.returns-in_default-ips
unfolding words_say
returns-in_default-ips c = rw (c.in-Some.is, c.in_default-ips.is) c.refused-in_default-ips.ensures

pub returns-in_default-datalink : goal.returns-in_default-datalink
unfolding words_say
returns-in_default-datalink c = rw (c.in-Some.is, c.in-Some-ips.is, c.in_default-datalink.is) c.refused-in_default-datalink.ensures

pub returns : goal.returns
unfolding words_say
returns c = rw (c.in-Some.is, c.in-Some-ips.is, c.in-Some-datalink.is) c.numbers_say.ensures
