-- `lacks_none` meets its contract. Assumes nothing.
use mathlib.Core.Path.{refl}
use Rattle.std.proofs.Common.{rules}
use Rattle.quantity.specs.Limits.{CHANNEL-IDS}
use Rattle.lent_messages.proofs.Ranges.{all_from_Range}
use Rattle.radio_end_state.specs.Calls.{names_own}
use Rattle.radio_end_words.specs.Words.{state_in}
use Rattle.radio_end_hearing.proofs.Passing.{all_own, one_lacks}
use Rattle.radio_end_hearing.proofs.lacks_none.Goals as goal

pub returns : goal.returns
returns c =
    let s = state_in c.args.words.now in
    all_from_Range (names_own s c.args.message.now) CHANNEL-IDS _ _ c.all.result _ c.all.ensures.ran refl (λ x a q k. search rules) (all_own s c.args.message.now) (one_lacks s c.args.message.now)
