-- `whole::data` meets its contract: the parts, one behind another. Assumes nothing.
use Rattle.message_words.specs.Phrases.{data_texts}
use Rattle.message_words.proofs.Saying.{says_one, says_then}
use Rattle.message_words.proofs.whole.data.Goals as goal

pub returns : goal.returns
unfolding data_texts
returns c =
    says_then (says_one c.put-plane.ensures)
    (says_then c.datalink-named.ensures
    (says_then c.counted-numbered.ensures
    (says_then c.channel-channelled.ensures
    (says_then c.expiration-expiring.ensures (says_then (says_one c.put-label.ensures) (says_one c.put_bytes.ensures))))))
