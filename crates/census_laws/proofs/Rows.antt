-- Records in literal bytes, each computed. Assumes nothing.
use mathlib.Core.Path.{refl}
use Rattle.octets.specs.Bytes.{slice}
use Rattle.facts.specs.Tables.{tabulate}
use Rattle.wire.specs.Numbers.{number_from}
use Rattle.wire.specs.Options.{frame_of, split_with, split}
use Rattle.meaning.specs.Kinds.{length_listed, value_listed}
use Rattle.read_option.specs.Items.{item_of, stated_of, answer_of}
use Rattle.read_option.specs.Stated.{control_stated, data_stated}
use Rattle.read_rules.specs.Judging.{judge}
use Rattle.read_rules.specs.Sorts.{fault_of, step_of, finish_of}
use Rattle.read_control.specs.Message.{control_unstated, control_state, blank_control, control_refused, control_accepted, control_other}
use Rattle.read_data.specs.Message.{data_unstated, data_state, blank_data, data_refused, data_accepted, data_other}
use Rattle.read_data.specs.Packet.{packet_in}
use Rattle.reader.specs.Header.{read_with}
use Rattle.reader.specs.Readings.{packet_of, plane_of, read_control, read_data}
use Rattle.ethernet.specs.Layers.{is_fragment, carried_of, datagram_of}
use Rattle.ethernet.specs.Kinds.{udp_kind, ipv4_kind, kind_of}
use Rattle.census.specs.Adding.{add_all}
use Rattle.census.specs.Outcomes.{reading_of, outcome_of}
use Rattle.census.specs.Places.{windows_from}
use Rattle.census_laws.specs.Rows.{Adds, table}

pub table_adds : Adds table
unfolding slice tabulate number_from frame_of split_with split length_listed value_listed item_of stated_of answer_of control_stated data_stated judge fault_of step_of finish_of control_unstated control_state blank_control control_refused control_accepted control_other data_unstated data_state blank_data data_refused data_accepted data_other packet_in packet_of read_with plane_of read_control read_data is_fragment carried_of datagram_of udp_kind ipv4_kind kind_of add_all reading_of outcome_of windows_from
table_adds = (refl, (refl, (refl, (refl, (refl, (refl, (refl, (refl, (refl, (refl, (refl, (refl, (refl, (refl, (refl, (refl, (refl, (refl, (refl, (refl, (refl, (refl, (refl, (refl, (refl, (refl, (refl, (refl, (refl, (refl, (refl, (refl, (refl, (refl, (refl, (refl, (refl, (refl, (refl, tt)))))))))))))))))))))))))))))))))))))))
