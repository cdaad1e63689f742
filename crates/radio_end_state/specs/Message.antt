-- The message as it stands: Datalink Identifier, Link Instance and Context if there, Channel Status of every channel, Flow Window of every flow-controlled
-- channel; and what it is that differs from before.
use Rattle.meaning.specs.declared.message.ContextBytes.{ContextBytes}
use Rattle.std.specs.Prelude.{ℕ, Bool, true, false, cond, not, ◌&&◌, ◌||◌, List, [], ◌∷◌, replicate, eqb, Option, Some, None}
use Rattle.facts.specs.Tables.{tabulate}
use Rattle.quantity.specs.Limits.{CHANNEL-IDS}
use Rattle.meaning.specs.declared.message.Window.{Window}
use Rattle.meaning.specs.declared.message.Control.{Control}
use Rattle.writer.specs.Written.{control_written}
use Rattle.radio_end_state.specs.declared.channel.Channel.{Channel}
use Rattle.radio_end_state.specs.Channel.{window_now, channel_differs}
use Rattle.radio_end_state.specs.State.{State}

-- what is stated of a Channel ID: the Status of the channel that has it, and its Flow Window
unfoldable pub status_for : List Channel → ℕ → Option ℕ
status_for [] id = None
status_for (c ∷ cs) id = cond (eqb c.setting.id id) (Some c.status) (status_for cs id)

unfoldable pub window_for : List Channel → ℕ → Option Window
window_for [] id = None
window_for (c ∷ cs) id = cond (eqb c.setting.id id) (window_now c) (window_for cs id)

unfoldable pub message_of : State → Control
message_of s =
    record {
      datalink = Some s.datalink;
      instance = s.instance;
      context = s.context;
      statuses = tabulate CHANNEL-IDS (status_for s.channels);
      sequences = replicate CHANNEL-IDS None;
      windows = tabulate CHANNEL-IDS (window_for s.channels);
    }

abbrev pub message_bytes : State → List ℕ
message_bytes s = control_written (message_of s)

-- ---- "sends one unasked when a status, a Context or a window changes"
abbrev pub same_context : Option (ContextBytes × ℕ) → Option (ContextBytes × ℕ) → Bool
same_context None None = true
same_context None (Some (bytes, size)) = false
same_context (Some (bytes, size)) None = false
same_context (Some (bytes, size)) (Some (other, length)) = eqb bytes.0 other.0 && eqb size length

unfoldable pub channels_differ : List Channel → List Channel → Bool
channels_differ [] after = false
channels_differ (c ∷ before) [] = false
channels_differ (c ∷ before) (d ∷ after) = channel_differs c d || channels_differ before after

unfoldable pub differs : State → State → Bool
differs before after = not (same_context before.context after.context) || channels_differ before.channels after.channels
