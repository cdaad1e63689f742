-- What a control message states so far, its seats and its answers: a sort of message.
use Rattle.quantity.specs.declared.count.LinkInstanceId.{LinkInstanceId}
use Rattle.quantity.specs.declared.count.FlowSequence.{FlowSequence}
use Rattle.meaning.specs.declared.message.ContextBytes.{ContextBytes}
use Rattle.std.specs.Prelude.{ℕ, List, Bool, true, false, cond, get_or, set, eqb, Option, Some, None}
use Rattle.quantity.specs.declared.count.DatalinkId.{DatalinkId}
use Rattle.meaning.specs.declared.message.End.{End}
use Rattle.meaning.specs.declared.message.Plane.TheVariants as planes
use Rattle.meaning.specs.declared.message.Window.{Window}
use Rattle.meaning.specs.declared.message.Control.{Control}
use Rattle.meaning.specs.Kinds.{DATALINK-IDENTIFIER, LINK-INSTANCE, DATALINK-CONTEXT, CHANNEL-STATUS, FLOW-SEQUENCE}
use Rattle.read_option.specs.Stated.{nothing, datalink_from, instance_from, context_from, status_from, sequence_from, window_from, control_stated}
use Rattle.read_rules.specs.declared.answer.Verdict.{Verdict}
use Rattle.read_rules.specs.Sorts.{Sort, is_ours, unstated_datalink}
use Rattle.read_control.specs.declared.ControlReading.{ControlReading}

abbrev pub unstated_instance : Option (LinkInstanceId × ℕ) → Bool
unstated_instance None = true
unstated_instance (Some (v, n)) = false

abbrev pub unstated_context : Option (ContextBytes × ℕ) → Bool
unstated_context None = true
unstated_context (Some (b, n)) = false

abbrev pub unstated_status : Option ℕ → Bool
unstated_status None = true
unstated_status (Some s) = false

abbrev pub unstated_sequence : Option FlowSequence → Bool
unstated_sequence None = true
unstated_sequence (Some s) = false

abbrev pub unstated_window : Option Window → Bool
unstated_window None = true
unstated_window (Some Window.Empty) = false
unstated_window (Some (Window.Given w)) = false

-- nothing is stated for a type and a channel
unfoldable pub control_unstated : ℕ → ℕ → Control → Bool
control_unstated kind channel m =
    cond (eqb kind DATALINK-IDENTIFIER) (unstated_datalink m.datalink)
    (cond (eqb kind LINK-INSTANCE) (unstated_instance m.instance)
    (cond (eqb kind DATALINK-CONTEXT) (unstated_context m.context)
    (cond (eqb kind CHANNEL-STATUS) (unstated_status (get_or m.statuses channel None))
    (cond (eqb kind FLOW-SEQUENCE) (unstated_sequence (get_or m.sequences channel None))
    (unstated_window (get_or m.windows channel None))))))

-- what is stated with one content more
unfoldable pub control_state : ℕ → ℕ → List ℕ → Control → Control
control_state kind channel content m =
    cond (eqb kind DATALINK-IDENTIFIER) (record { datalink = datalink_from (Some content); instance = m.instance; context = m.context; statuses = m.statuses; sequences = m.sequences; windows = m.windows })
    (cond (eqb kind LINK-INSTANCE) (record { datalink = m.datalink; instance = instance_from (Some content); context = m.context; statuses = m.statuses; sequences = m.sequences; windows = m.windows })
    (cond (eqb kind DATALINK-CONTEXT) (record { datalink = m.datalink; instance = m.instance; context = context_from (Some content); statuses = m.statuses; sequences = m.sequences; windows = m.windows })
    (cond (eqb kind CHANNEL-STATUS) (record { datalink = m.datalink; instance = m.instance; context = m.context; statuses = set m.statuses channel (status_from (Some content)); sequences = m.sequences; windows = m.windows })
    (cond (eqb kind FLOW-SEQUENCE) (record { datalink = m.datalink; instance = m.instance; context = m.context; statuses = m.statuses; sequences = set m.sequences channel (sequence_from (Some content)); windows = m.windows })
    (record { datalink = m.datalink; instance = m.instance; context = m.context; statuses = m.statuses; sequences = m.sequences; windows = set m.windows channel (window_from (Some content)) })))))

unfoldable pub blank_control : Control
blank_control = control_stated nothing

unfoldable pub control_refused : ℕ → ℕ → ControlReading
control_refused number place = record { verdict = Verdict.Refused (record { number = number; place = place }); message = blank_control }

unfoldable pub control_accepted : Control → ControlReading
control_accepted m = record { verdict = Verdict.Accepted; message = m }

unfoldable pub control_other : ControlReading
control_other = record { verdict = Verdict.OtherPlane; message = blank_control }

abbrev pub control_sort : End → DatalinkId → Sort Control ControlReading
control_sort end id = record {
  plane = planes.Control;
  end = end;
  blank = blank_control;
  closed = λ m. false;
  unstated = control_unstated;
  state = control_state;
  paired = λ m. true;
  ours = λ m. is_ours id m.datalink;
  accept = control_accepted;
  refuse = control_refused;
  other = control_other;
}
