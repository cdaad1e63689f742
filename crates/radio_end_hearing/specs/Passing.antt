-- The pass over the words that hears a control message: the first channels, so many, have heard.
use Rattle.quantity.specs.declared.count.FlowSequence.{FlowSequence}
use Rattle.std.specs.Prelude.{ℕ, List, ◌++◌, map, take, drop, Option}
use Rattle.radio_end_state.specs.declared.channel.Channel.{Channel}
use Rattle.radio_end_message.specs.Changed.{hears}

unfoldable pub heard_to : List (Option FlowSequence) → List Channel → ℕ → List Channel
heard_to cells cs at = map (hears cells) (take at cs) ++ drop at cs
