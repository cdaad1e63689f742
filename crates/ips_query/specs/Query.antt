-- Document 01, "A channel's life": "Query: the IPS control message with a Flow Sequence for each flow-controlled channel".
use Rattle.quantity.specs.declared.count.FlowSequence.{FlowSequence}
use Rattle.std.specs.Prelude.{ℕ, cond, ◌&&◌, List, [], ◌∷◌, replicate, eqb, Option, Some, None}
use Rattle.facts.specs.Tables.{tabulate}
use Rattle.quantity.specs.Limits.{CHANNEL-IDS}
use Rattle.meaning.specs.declared.message.Control.{Control}
use Rattle.ips_channel.specs.declared.state.Channel.{Channel}
use Rattle.ips_state.specs.State.{State}

-- the Flow Sequence of a Channel ID: that of the flow-controlled channel that has it
unfoldable pub sequence_for : ℕ → List Channel → Option FlowSequence
sequence_for id [] = None
sequence_for id (c ∷ cs) = cond (c.setting.controlled && eqb c.setting.id id) (Some c.sequence) (sequence_for id cs)

unfoldable pub sequences_of : List Channel → List (Option FlowSequence)
sequences_of cs = tabulate CHANNEL-IDS (λ id. sequence_for id cs)

unfoldable pub query_of : State → Control
query_of s =
    record {
      datalink = Some s.datalink.id;
      instance = None;
      context = None;
      statuses = replicate CHANNEL-IDS None;
      sequences = sequences_of s.channels;
      windows = replicate CHANNEL-IDS None;
    }
