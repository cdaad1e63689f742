-- A change that is not in the words yet: so a refusal finds them untouched. The Context, one channel at an index (behind the last: none), and what a control
-- message states of each Channel ID.
use Rattle.quantity.specs.declared.count.FlowSequence.{FlowSequence}
use Rattle.meaning.specs.declared.message.ContextBytes.{ContextBytes}
use Rattle.std.specs.Prelude.{ℕ, ◌≤◌, true, List, map, ◌≡◌, get_or, set, Option, None}
use Rattle.facts.specs.Tables.{tabulate}
use Rattle.quantity.specs.Limits.{CHANNEL-IDS}
use Rattle.meaning.specs.declared.message.End.TheVariants as ends
use Rattle.writable.specs.Allowed.{context_allowed}
use Rattle.radio_end_state.specs.declared.channel.Channel.{Channel}
use Rattle.radio_end_state.specs.Channel.{hearing_on}
use Rattle.radio_end_state.specs.State.{State, channel_at}
use Rattle.radio_end_state.specs.Limits.{state_fits}
use Rattle.radio_end_state.specs.Message.{status_for, window_for}
use Rattle.radio_end_message.specs.declared.tables.Tables.{Tables}

abbrev pub hears : List (Option FlowSequence) → Channel → Channel
hears cells c = hearing_on c (get_or cells c.setting.id None)

unfoldable pub changed_channels : State → ℕ → Channel → List (Option FlowSequence) → List Channel
changed_channels s index c cells = map (hears cells) (set s.channels index c)

-- THE STATE AFTER THE CHANGE
unfoldable pub changed : State → Option (ContextBytes × ℕ) → ℕ → Channel → List (Option FlowSequence) → State
changed s context index c cells = record { datalink = s.datalink; channels = changed_channels s index c cells; instance = s.instance; context = context }

unfoldable pub tables_of : List Channel → Tables
tables_of cs = record { statuses = tabulate CHANNEL-IDS (status_for cs); windows = tabulate CHANNEL-IDS (window_for cs) }

-- what may be changed so: one channel by another of its ID
pub record Replaces (s : State) (index : ℕ) (c : Channel) : Type 0 where
  pub fits : state_fits s ≡ true
  pub same_id : c.setting.id ≡ (channel_at s index).setting.id

-- with a status of 4 bits, and a Context that can be written
pub record Change (s : State) (context : Option (ContextBytes × ℕ)) (index : ℕ) (c : Channel) : Type 0 where
  pub replaces : Replaces s index c
  pub low : c.status ≤ 15
  pub context_allowed_lem : context_allowed ends.Radio context ≡ true
