-- Calls in literal bytes, each computed. Assumes nothing.
use mathlib.Core.List.{[], ◌∷◌}
use mathlib.Core.Path.{◌≡◌, refl}
use Rattle.facts.specs.Tables.{tabulate}
use Rattle.quantity.specs.Distance.{distance_of}
use Rattle.wire.specs.Numbers.{bytes_of, number_from}
use Rattle.wire.specs.Options.{option_bytes, bytes, frame_of, split_with, split}
use Rattle.meaning.specs.Kinds.{length_listed, value_listed}
use Rattle.read_option.specs.Items.{item_of, stated_of, answer_of}
use Rattle.read_option.specs.Stated.{control_stated, data_stated}
use Rattle.read_rules.specs.Judging.{judge}
use Rattle.read_rules.specs.Sorts.{fault_of, step_of, finish_of}
use Rattle.read_control.specs.Message.{control_unstated, control_state, blank_control, control_refused, control_accepted, control_other}
use Rattle.read_data.specs.Message.{data_unstated, data_state, blank_data, data_refused, data_accepted, data_other}
use Rattle.read_data.specs.Packet.{packet_in}
use Rattle.reader.specs.Header.{read_with}
use Rattle.reader.specs.Readings.{packet_of, plane_of, read_control, read_data}
use Rattle.writer.specs.Written.{table_then, control_options, control_written}
use Rattle.radio_flow.specs.Granting.{is_ahead, hearing, allowance_of, window_of, queued_on}
use Rattle.radio_end_state.specs.Channel.{window_now, hearing_on, with_queued, queueing, with_status, channel_differs}
use Rattle.radio_end_state.specs.State.{channel_at, with_channels, with_channel, with_context, with_instance, fresh_state}
use Rattle.radio_end_state.specs.Limits.{up_to, index_of, has_id, ids_fit, channel_fits, all_fit, ids, names_fit, state_fits}
use Rattle.radio_end_state.specs.Message.{status_for, window_for, message_of, message_bytes, channels_differ, differs}
use Rattle.radio_end_state.specs.Calls.{telling, settling, status_told, queued_told, context_told, link_told, told, sequence_in, lacks_none, hearing_all, control_heard, data_on, data_heard, heard}
use Rattle.radio_end_laws.specs.Rows.{plain, controlled, heard_rows, told_rows, Comes}

-- HEAR
pub rows_hear : Comes heard_rows
unfolding tabulate distance_of bytes_of number_from option_bytes bytes frame_of split_with split length_listed value_listed item_of stated_of answer_of control_stated data_stated judge fault_of step_of finish_of control_unstated control_state blank_control control_refused control_accepted control_other data_unstated data_state blank_data data_refused data_accepted data_other packet_in packet_of read_with plane_of read_control read_data table_then control_options control_written is_ahead hearing allowance_of window_of queued_on window_now hearing_on with_queued queueing channel_differs channel_at with_channels with_channel up_to index_of has_id ids_fit channel_fits all_fit ids names_fit state_fits status_for window_for message_of channels_differ differs telling settling sequence_in lacks_none hearing_all control_heard data_on data_heard heard
rows_hear = (refl, (refl, (refl, (refl, (refl, (refl, (refl, (refl, (refl, (refl, (refl, (refl, (refl, (refl, (refl, (refl, tt))))))))))))))))

-- THE RADIO'S OWN SIDE
pub rows_told : Comes told_rows
unfolding tabulate bytes_of option_bytes bytes length_listed table_then control_options control_written allowance_of window_of window_now with_queued with_status channel_differs channel_at with_channels with_channel with_context with_instance up_to index_of has_id ids_fit channel_fits all_fit ids names_fit state_fits status_for window_for message_of channels_differ differs telling settling status_told queued_told context_told link_told told
rows_told = (refl, (refl, (refl, (refl, (refl, (refl, (refl, (refl, (refl, (refl, (refl, (refl, (refl, (refl, (refl, (refl, (refl, (refl, (refl, tt)))))))))))))))))))

-- the message after a start
pub fresh_bytes : message_bytes (fresh_state (record { datalink = record { 0 = 7 }; settings = plain 0 ∷ controlled 9 ∷ controlled 5 ∷ [] }))
    ≡ 16 ∷ 1 ∷ 0 ∷ 1 ∷ 7 ∷ 5 ∷ 0 ∷ 2 ∷ 0 ∷ 0 ∷ 5 ∷ 0 ∷ 2 ∷ 5 ∷ 0 ∷ 5 ∷ 0 ∷ 2 ∷ 9 ∷ 0 ∷ 6 ∷ 0 ∷ 1 ∷ 5 ∷ 6 ∷ 0 ∷ 1 ∷ 9 ∷ []
unfolding tabulate bytes_of option_bytes bytes table_then control_options control_written allowance_of window_of window_now status_for window_for message_of fresh_state
fresh_bytes = refl
