-- Lines of docs/STATION.md, word for word. Assumes nothing.
use Rattle.std.specs.Prelude.{Some, None}
use mathlib.Core.Path.{◌≡◌, refl}
use mathlib.Core.List.{List, [], ◌∷◌}
use Prim.Native.Nat.{ℕ}
use Rattle.octets.specs.Bytes.{index_of, index_after}
use Rattle.text.specs.Words.{head_of, tail_of}
use Rattle.text.specs.Numbers.{digit_of, step_of, follow_of, by_size, plain_of, parse_of}
use Rattle.text.specs.Strings.{pairs_of, readable_of, hexed_of}
use Rattle.line_rows.specs.Rows.{spells_of, choice_of, value_of, bytes_of, behind_of, item_of, items_of, list_of, last_number, item_or_list_of, left_out_of, row_of, read_by, good_by}
use Rattle.line_rows.specs.Tables.{shortened, named_of, items_left, command_of, key_of, items_behind, said_in, key_in}
use Rattle.wire.specs.Numbers.{number_from}
use Rattle.station_read.specs.declared.asked.Asked.{Asked}
use Rattle.station_read.specs.declared.asked.Command.{Command}
use Rattle.station_read.specs.Lines.{asked_by, context_said, said_by, asked_of}

-- `hear 40 0aff`
hear : asked_of 2 (104 ∷ 101 ∷ 97 ∷ 114 ∷ 32 ∷ 52 ∷ 48 ∷ 32 ∷ 48 ∷ 97 ∷ 102 ∷ 102 ∷ []) ≡ Asked.State Command.Hear 40
unfolding index_of index_after head_of tail_of digit_of step_of follow_of by_size plain_of parse_of pairs_of readable_of hexed_of spells_of choice_of value_of bytes_of behind_of item_of items_of list_of last_number item_or_list_of left_out_of row_of read_by good_by named_of items_left command_of key_of items_behind said_in key_in shortened asked_by asked_of
hear = refl

-- `hear 40 0aff`, with room for one byte only
hear_long : asked_of 1 (104 ∷ 101 ∷ 97 ∷ 114 ∷ 32 ∷ 52 ∷ 48 ∷ 32 ∷ 48 ∷ 97 ∷ 102 ∷ 102 ∷ []) ≡ Asked.Bad
unfolding index_of index_after head_of tail_of digit_of step_of follow_of by_size plain_of parse_of pairs_of readable_of hexed_of spells_of choice_of value_of bytes_of behind_of item_of items_of list_of last_number item_or_list_of left_out_of row_of read_by good_by named_of items_left command_of key_of items_behind said_in key_in shortened asked_by asked_of
hear_long = refl

-- `status 3 16 4194304`, the most room
status : asked_of 0 (115 ∷ 116 ∷ 97 ∷ 116 ∷ 117 ∷ 115 ∷ 32 ∷ 51 ∷ 32 ∷ 49 ∷ 54 ∷ 32 ∷ 52 ∷ 49 ∷ 57 ∷ 52 ∷ 51 ∷ 48 ∷ 52 ∷ []) ≡ Asked.State (Command.Status 3 16) 4194304
unfolding index_of index_after head_of tail_of digit_of step_of follow_of by_size plain_of parse_of pairs_of readable_of hexed_of spells_of choice_of value_of bytes_of behind_of item_of items_of list_of last_number item_or_list_of left_out_of row_of read_by good_by named_of items_left command_of key_of items_behind said_in key_in shortened asked_by asked_of
status = refl

-- `status 3 256 40`
status_more : asked_of 0 (115 ∷ 116 ∷ 97 ∷ 116 ∷ 117 ∷ 115 ∷ 32 ∷ 51 ∷ 32 ∷ 50 ∷ 53 ∷ 54 ∷ 32 ∷ 52 ∷ 48 ∷ []) ≡ Asked.Bad
unfolding index_of index_after head_of tail_of digit_of step_of follow_of by_size plain_of parse_of pairs_of readable_of hexed_of spells_of choice_of value_of bytes_of behind_of item_of items_of list_of last_number item_or_list_of left_out_of row_of read_by good_by named_of items_left command_of key_of items_behind said_in key_in shortened asked_by asked_of
status_more = refl

-- `status 3 16 4194305`
room_more : asked_of 0 (115 ∷ 116 ∷ 97 ∷ 116 ∷ 117 ∷ 115 ∷ 32 ∷ 51 ∷ 32 ∷ 49 ∷ 54 ∷ 32 ∷ 52 ∷ 49 ∷ 57 ∷ 52 ∷ 51 ∷ 48 ∷ 53 ∷ []) ≡ Asked.Bad
unfolding index_of index_after head_of tail_of digit_of step_of follow_of by_size plain_of parse_of pairs_of readable_of hexed_of spells_of choice_of value_of bytes_of behind_of item_of items_of list_of last_number item_or_list_of left_out_of row_of read_by good_by named_of items_left command_of key_of items_behind said_in key_in shortened asked_by asked_of
room_more = refl

-- `context 0aff 40`
context : asked_of 2 (99 ∷ 111 ∷ 110 ∷ 116 ∷ 101 ∷ 120 ∷ 116 ∷ 32 ∷ 48 ∷ 97 ∷ 102 ∷ 102 ∷ 32 ∷ 52 ∷ 48 ∷ []) ≡ Asked.State Command.Context 40
unfolding index_of index_after head_of tail_of digit_of step_of follow_of by_size plain_of parse_of pairs_of readable_of hexed_of spells_of choice_of value_of bytes_of behind_of item_of items_of list_of last_number item_or_list_of left_out_of row_of read_by good_by named_of items_left command_of key_of items_behind said_in key_in shortened asked_by asked_of
context = refl

-- `context - 40`
context_none : asked_of 0 (99 ∷ 111 ∷ 110 ∷ 116 ∷ 101 ∷ 120 ∷ 116 ∷ 32 ∷ 45 ∷ 32 ∷ 52 ∷ 48 ∷ []) ≡ Asked.State Command.Context 40
unfolding index_of index_after head_of tail_of digit_of step_of follow_of by_size plain_of parse_of pairs_of readable_of hexed_of spells_of choice_of value_of bytes_of behind_of item_of items_of list_of last_number item_or_list_of left_out_of row_of read_by good_by named_of items_left command_of key_of items_behind said_in key_in shortened asked_by asked_of
context_none = refl

-- `queued 3 18446744073709551615 40`
queued : asked_of 0 (113 ∷ 117 ∷ 101 ∷ 117 ∷ 101 ∷ 100 ∷ 32 ∷ 51 ∷ 32 ∷ 49 ∷ 56 ∷ 52 ∷ 52 ∷ 54 ∷ 55 ∷ 52 ∷ 52 ∷ 48 ∷ 55 ∷ 51 ∷ 55 ∷ 48 ∷ 57 ∷ 53 ∷ 53 ∷ 49 ∷ 54 ∷ 49 ∷ 53 ∷ 32 ∷ 52 ∷ 48 ∷ []) ≡ Asked.State (Command.Queued 3 18446744073709551615) 40
unfolding index_of index_after head_of tail_of digit_of step_of follow_of by_size plain_of parse_of pairs_of readable_of hexed_of spells_of choice_of value_of bytes_of behind_of item_of items_of list_of last_number item_or_list_of left_out_of row_of read_by good_by named_of items_left command_of key_of items_behind said_in key_in shortened asked_by asked_of
queued = refl

-- `queued 3 18446744073709551616 40`
queued_more : asked_of 0 (113 ∷ 117 ∷ 101 ∷ 117 ∷ 101 ∷ 100 ∷ 32 ∷ 51 ∷ 32 ∷ 49 ∷ 56 ∷ 52 ∷ 52 ∷ 54 ∷ 55 ∷ 52 ∷ 52 ∷ 48 ∷ 55 ∷ 51 ∷ 55 ∷ 48 ∷ 57 ∷ 53 ∷ 53 ∷ 49 ∷ 54 ∷ 49 ∷ 54 ∷ 32 ∷ 52 ∷ 48 ∷ []) ≡ Asked.Bad
unfolding index_of index_after head_of tail_of digit_of step_of follow_of by_size plain_of parse_of pairs_of readable_of hexed_of spells_of choice_of value_of bytes_of behind_of item_of items_of list_of last_number item_or_list_of left_out_of row_of read_by good_by named_of items_left command_of key_of items_behind said_in key_in shortened asked_by asked_of
queued_more = refl

-- `link 8 18446744073709551615`
link : asked_of 0 (108 ∷ 105 ∷ 110 ∷ 107 ∷ 32 ∷ 56 ∷ 32 ∷ 49 ∷ 56 ∷ 52 ∷ 52 ∷ 54 ∷ 55 ∷ 52 ∷ 52 ∷ 48 ∷ 55 ∷ 51 ∷ 55 ∷ 48 ∷ 57 ∷ 53 ∷ 53 ∷ 49 ∷ 54 ∷ 49 ∷ 53 ∷ []) ≡ Asked.State (Command.Link 8 18446744073709551615) 0
unfolding index_of index_after head_of tail_of digit_of step_of follow_of by_size plain_of parse_of pairs_of readable_of hexed_of spells_of choice_of value_of bytes_of behind_of item_of items_of list_of last_number item_or_list_of left_out_of row_of read_by good_by named_of items_left command_of key_of items_behind said_in key_in shortened asked_by asked_of
link = refl

-- `tell 0`
tell : asked_of 0 (116 ∷ 101 ∷ 108 ∷ 108 ∷ 32 ∷ 48 ∷ []) ≡ Asked.State Command.Tell 0
unfolding index_of index_after head_of tail_of digit_of step_of follow_of by_size plain_of parse_of pairs_of readable_of hexed_of spells_of choice_of value_of bytes_of behind_of item_of items_of list_of last_number item_or_list_of left_out_of row_of read_by good_by named_of items_left command_of key_of items_behind said_in key_in shortened asked_by asked_of
tell = refl

-- `tell 0 `, with a space behind it
tell_more : asked_of 0 (116 ∷ 101 ∷ 108 ∷ 108 ∷ 32 ∷ 48 ∷ 32 ∷ []) ≡ Asked.Bad
unfolding index_of index_after head_of tail_of digit_of step_of follow_of by_size plain_of parse_of pairs_of readable_of hexed_of spells_of choice_of value_of bytes_of behind_of item_of items_of list_of last_number item_or_list_of left_out_of row_of read_by good_by named_of items_left command_of key_of items_behind said_in key_in shortened asked_by asked_of
tell_more = refl

-- `show 255`
show : asked_of 0 (115 ∷ 104 ∷ 111 ∷ 119 ∷ 32 ∷ 50 ∷ 53 ∷ 53 ∷ []) ≡ Asked.State (Command.Show 255) 0
unfolding index_of index_after head_of tail_of digit_of step_of follow_of by_size plain_of parse_of pairs_of readable_of hexed_of spells_of choice_of value_of bytes_of behind_of item_of items_of list_of last_number item_or_list_of left_out_of row_of read_by good_by named_of items_left command_of key_of items_behind said_in key_in shortened asked_by asked_of
show = refl

-- `show 03`, with a needless zero
show_zero : asked_of 0 (115 ∷ 104 ∷ 111 ∷ 119 ∷ 32 ∷ 48 ∷ 51 ∷ []) ≡ Asked.Bad
unfolding index_of index_after head_of tail_of digit_of step_of follow_of by_size plain_of parse_of pairs_of readable_of hexed_of spells_of choice_of value_of bytes_of behind_of item_of items_of list_of last_number item_or_list_of left_out_of row_of read_by good_by named_of items_left command_of key_of items_behind said_in key_in shortened asked_by asked_of
show_zero = refl

-- `start 7 2 0 plain 1000 500 3 flow 2147483647 18446744073709551615`
abbrev line : List ℕ
line = 115 ∷ 116 ∷ 97 ∷ 114 ∷ 116 ∷ 32 ∷ 55 ∷ 32 ∷ 50 ∷ 32 ∷ 48 ∷ 32 ∷ 112 ∷ 108 ∷ 97 ∷ 105 ∷ 110 ∷ 32 ∷ 49 ∷ 48 ∷ 48 ∷ 48 ∷ 32 ∷ 53 ∷ 48 ∷ 48 ∷ 32 ∷ 51 ∷ 32 ∷ 102 ∷ 108 ∷ 111 ∷ 119 ∷ 32 ∷ 50 ∷ 49 ∷ 52 ∷ 55 ∷ 52 ∷ 56 ∷ 51 ∷ 54 ∷ 52 ∷ 55 ∷ 32 ∷ 49 ∷ 56 ∷ 52 ∷ 52 ∷ 54 ∷ 55 ∷ 52 ∷ 52 ∷ 48 ∷ 55 ∷ 51 ∷ 55 ∷ 48 ∷ 57 ∷ 53 ∷ 53 ∷ 49 ∷ 54 ∷ 49 ∷ 53 ∷ []

start : asked_of 0 line ≡ Asked.Start 2
unfolding index_of index_after head_of tail_of digit_of step_of follow_of by_size plain_of parse_of pairs_of readable_of hexed_of spells_of choice_of value_of bytes_of behind_of item_of items_of list_of last_number item_or_list_of left_out_of row_of read_by good_by named_of items_left command_of key_of items_behind said_in key_in shortened asked_by asked_of
start = refl

-- its numbers are the words of the configuration
words : (said_by 0 line).numbers ≡ 7 ∷ 2 ∷ 0 ∷ 0 ∷ 1000 ∷ 500 ∷ 3 ∷ 1 ∷ 2147483647 ∷ 18446744073709551615 ∷ []
unfolding index_of index_after head_of tail_of digit_of step_of follow_of by_size plain_of parse_of pairs_of readable_of hexed_of spells_of choice_of value_of bytes_of behind_of item_of items_of list_of last_number item_or_list_of left_out_of row_of read_by good_by named_of items_left command_of key_of items_behind said_in key_in shortened asked_by asked_of
words = refl

-- `start 7 81`, more channels than are read
start_more : asked_of 0 (115 ∷ 116 ∷ 97 ∷ 114 ∷ 116 ∷ 32 ∷ 55 ∷ 32 ∷ 56 ∷ 49 ∷ []) ≡ Asked.Bad
unfolding index_of index_after head_of tail_of digit_of step_of follow_of by_size plain_of parse_of pairs_of readable_of hexed_of spells_of choice_of value_of bytes_of behind_of item_of items_of list_of last_number item_or_list_of left_out_of row_of read_by good_by named_of items_left command_of key_of items_behind said_in key_in shortened asked_by asked_of
start_more = refl

-- `start 7 1 0 plain 1000`, without a throughput
start_half : asked_of 0 (115 ∷ 116 ∷ 97 ∷ 114 ∷ 116 ∷ 32 ∷ 55 ∷ 32 ∷ 49 ∷ 32 ∷ 48 ∷ 32 ∷ 112 ∷ 108 ∷ 97 ∷ 105 ∷ 110 ∷ 32 ∷ 49 ∷ 48 ∷ 48 ∷ 48 ∷ []) ≡ Asked.Bad
unfolding index_of index_after head_of tail_of digit_of step_of follow_of by_size plain_of parse_of pairs_of readable_of hexed_of spells_of choice_of value_of bytes_of behind_of item_of items_of list_of last_number item_or_list_of left_out_of row_of read_by good_by named_of items_left command_of key_of items_behind said_in key_in shortened asked_by asked_of
start_half = refl

-- ---- a Context of no byte, of two, of nine
no_byte : context_said [] ≡ None
unfolding context_said
no_byte = refl

two_bytes : context_said (10 ∷ 255 ∷ []) ≡ Some (record { 0 = 2815 }, 2)
unfolding context_said number_from
two_bytes = refl

nine_bytes : context_said (1 ∷ 2 ∷ 3 ∷ 4 ∷ 5 ∷ 6 ∷ 7 ∷ 8 ∷ 9 ∷ []) ≡ Some (record { 0 = 0 }, 9)
unfolding context_said
nine_bytes = refl
