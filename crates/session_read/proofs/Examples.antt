-- Lines of docs/SESSION.md, word for word. Assumes nothing.
use mathlib.Core.Path.{◌≡◌, refl}
use mathlib.Core.List.{List, [], ◌∷◌, ◌++◌}
use Prim.Native.Nat.{ℕ}
use Rattle.facts.specs.Tables.{tabulate}
use Rattle.octets.specs.Bytes.{index_of, index_after}
use Rattle.text.specs.Words.{head_of, tail_of}
use Rattle.text.specs.Numbers.{digit_of, step_of, follow_of, by_size, plain_of, parse_of}
use Rattle.text.specs.Strings.{pairs_of, readable_of, hexed_of}
use Rattle.line_rows.specs.Rows.{spells_of, choice_of, value_of, bytes_of, behind_of, item_of, items_of, list_of, last_number, item_or_list_of, left_out_of, row_of, read_by, good_by}
use Rattle.line_rows.specs.Tables.{shortened, named_of, items_left, command_of, key_of, items_behind, said_in, key_in}
use Rattle.meaning.specs.declared.message.End.{End}
use Rattle.session_read.specs.declared.asked.Asked.{Asked}
use Rattle.session_read.specs.declared.asked.Command.{Command}
use Rattle.session_read.specs.declared.start.StartWords.{StartWords}
use Rattle.session_read.specs.Lines.{end_of, asked_by, start_by, words_by, asked_of, start_of, words_of}
use Rattle.session_read.specs.Start.{stores_of, perhaps, memory_of, behind_keyword, pace_place, codes_place, hello_of, limit_of, codes_of, configuration_from, start_from}
use Rattle.session_read.specs.Words.{said_from}
use Rattle.session_read.specs.Offers.{channel_count, expiry_count, length_count, answer_count, counts_from, lists_from}

-- `read radio 7 0102`
read : asked_of 2 (114 ∷ 101 ∷ 97 ∷ 100 ∷ 32 ∷ 114 ∷ 97 ∷ 100 ∷ 105 ∷ 111 ∷ 32 ∷ 55 ∷ 32 ∷ 48 ∷ 49 ∷ 48 ∷ 50 ∷ []) ≡ Asked.Read End.Radio 7
unfolding index_of index_after head_of tail_of digit_of step_of follow_of by_size plain_of parse_of pairs_of readable_of hexed_of spells_of choice_of value_of bytes_of behind_of item_of items_of list_of last_number item_or_list_of left_out_of row_of read_by good_by named_of items_left command_of key_of items_behind said_in key_in shortened end_of asked_by start_by asked_of start_of stores_of perhaps memory_of start_from
read = refl

-- `echo ips 7 - radio 40`
echo : asked_of 2 (101 ∷ 99 ∷ 104 ∷ 111 ∷ 32 ∷ 105 ∷ 112 ∷ 115 ∷ 32 ∷ 55 ∷ 32 ∷ 45 ∷ 32 ∷ 114 ∷ 97 ∷ 100 ∷ 105 ∷ 111 ∷ 32 ∷ 52 ∷ 48 ∷ []) ≡ Asked.Echo End.Ips 7 End.Radio 40
unfolding index_of index_after head_of tail_of digit_of step_of follow_of by_size plain_of parse_of pairs_of readable_of hexed_of spells_of choice_of value_of bytes_of behind_of item_of items_of list_of last_number item_or_list_of left_out_of row_of read_by good_by named_of items_left command_of key_of items_behind said_in key_in shortened end_of asked_by start_by asked_of start_of stores_of perhaps memory_of start_from
echo = refl

-- `offer 3 100 200 0aff`
offer : asked_of 2 (111 ∷ 102 ∷ 102 ∷ 101 ∷ 114 ∷ 32 ∷ 51 ∷ 32 ∷ 49 ∷ 48 ∷ 48 ∷ 32 ∷ 50 ∷ 48 ∷ 48 ∷ 32 ∷ 48 ∷ 97 ∷ 102 ∷ 102 ∷ []) ≡ Asked.State (Command.Offer 3 100 200)
unfolding index_of index_after head_of tail_of digit_of step_of follow_of by_size plain_of parse_of pairs_of readable_of hexed_of spells_of choice_of value_of bytes_of behind_of item_of items_of list_of last_number item_or_list_of left_out_of row_of read_by good_by named_of items_left command_of key_of items_behind said_in key_in shortened end_of asked_by start_by asked_of start_of stores_of perhaps memory_of start_from
offer = refl

-- `offer 3 100 200 0aff`, with room for one byte only
offer_long : asked_of 1 (111 ∷ 102 ∷ 102 ∷ 101 ∷ 114 ∷ 32 ∷ 51 ∷ 32 ∷ 49 ∷ 48 ∷ 48 ∷ 32 ∷ 50 ∷ 48 ∷ 48 ∷ 32 ∷ 48 ∷ 97 ∷ 102 ∷ 102 ∷ []) ≡ Asked.Bad
unfolding index_of index_after head_of tail_of digit_of step_of follow_of by_size plain_of parse_of pairs_of readable_of hexed_of spells_of choice_of value_of bytes_of behind_of item_of items_of list_of last_number item_or_list_of left_out_of row_of read_by good_by named_of items_left command_of key_of items_behind said_in key_in shortened end_of asked_by start_by asked_of start_of stores_of perhaps memory_of start_from
offer_long = refl

-- `offers 100 channels 2 3 4 expiries 2 200 300 lengths 2 1 1 answers 2 0aff`
offers : asked_of 2 (111 ∷ 102 ∷ 102 ∷ 101 ∷ 114 ∷ 115 ∷ 32 ∷ 49 ∷ 48 ∷ 48 ∷ 32 ∷ 99 ∷ 104 ∷ 97 ∷ 110 ∷ 110 ∷ 101 ∷ 108 ∷ 115 ∷ 32 ∷ 50 ∷ 32 ∷ 51 ∷ 32 ∷ 52 ∷ 32 ∷ 101 ∷ 120 ∷ 112 ∷ 105 ∷ 114 ∷ 105 ∷ 101 ∷ 115 ∷ 32 ∷ 50 ∷ 32 ∷ 50 ∷ 48 ∷ 48 ∷ 32 ∷ 51 ∷ 48 ∷ 48 ∷ 32 ∷ 108 ∷ 101 ∷ 110 ∷ 103 ∷ 116 ∷ 104 ∷ 115 ∷ 32 ∷ 50 ∷ 32 ∷ 49 ∷ 32 ∷ 49 ∷ 32 ∷ 97 ∷ 110 ∷ 115 ∷ 119 ∷ 101 ∷ 114 ∷ 115 ∷ 32 ∷ 50 ∷ 32 ∷ 48 ∷ 97 ∷ 102 ∷ 102 ∷ []) ≡ Asked.State (Command.Offers 100 (record { channels = 2; expiries = 2; lengths = 2; answers = 2 }))
unfolding index_of index_after head_of tail_of digit_of step_of follow_of by_size plain_of parse_of pairs_of readable_of hexed_of spells_of choice_of value_of bytes_of behind_of item_of items_of list_of last_number item_or_list_of left_out_of row_of read_by good_by named_of items_left command_of key_of items_behind said_in key_in shortened end_of asked_by start_by asked_of start_of stores_of perhaps memory_of start_from channel_count expiry_count length_count answer_count counts_from
offers = refl

-- its lists, one behind the other
offers_lists : words_of 2 (111 ∷ 102 ∷ 102 ∷ 101 ∷ 114 ∷ 115 ∷ 32 ∷ 49 ∷ 48 ∷ 48 ∷ 32 ∷ 99 ∷ 104 ∷ 97 ∷ 110 ∷ 110 ∷ 101 ∷ 108 ∷ 115 ∷ 32 ∷ 50 ∷ 32 ∷ 51 ∷ 32 ∷ 52 ∷ 32 ∷ 101 ∷ 120 ∷ 112 ∷ 105 ∷ 114 ∷ 105 ∷ 101 ∷ 115 ∷ 32 ∷ 50 ∷ 32 ∷ 50 ∷ 48 ∷ 48 ∷ 32 ∷ 51 ∷ 48 ∷ 48 ∷ 32 ∷ 108 ∷ 101 ∷ 110 ∷ 103 ∷ 116 ∷ 104 ∷ 115 ∷ 32 ∷ 50 ∷ 32 ∷ 49 ∷ 32 ∷ 49 ∷ 32 ∷ 97 ∷ 110 ∷ 115 ∷ 119 ∷ 101 ∷ 114 ∷ 115 ∷ 32 ∷ 50 ∷ 32 ∷ 48 ∷ 97 ∷ 102 ∷ 102 ∷ []) ≡ 3 ∷ 4 ∷ 200 ∷ 300 ∷ 1 ∷ 1 ∷ []
unfolding index_of index_after head_of tail_of digit_of step_of follow_of by_size plain_of parse_of pairs_of readable_of hexed_of spells_of choice_of value_of bytes_of behind_of item_of items_of list_of last_number item_or_list_of left_out_of row_of read_by good_by named_of items_left command_of key_of items_behind said_in key_in shortened end_of asked_by start_by asked_of start_of stores_of perhaps memory_of start_from channel_count expiry_count length_count answer_count counts_from words_by words_of said_from tabulate lists_from
offers_lists = refl

-- `offers 5 channels 1 7 expiries 0 lengths 2 10 20 answers 3 -`, each count its own
offers_unequal : asked_of 0 (111 ∷ 102 ∷ 102 ∷ 101 ∷ 114 ∷ 115 ∷ 32 ∷ 53 ∷ 32 ∷ 99 ∷ 104 ∷ 97 ∷ 110 ∷ 110 ∷ 101 ∷ 108 ∷ 115 ∷ 32 ∷ 49 ∷ 32 ∷ 55 ∷ 32 ∷ 101 ∷ 120 ∷ 112 ∷ 105 ∷ 114 ∷ 105 ∷ 101 ∷ 115 ∷ 32 ∷ 48 ∷ 32 ∷ 108 ∷ 101 ∷ 110 ∷ 103 ∷ 116 ∷ 104 ∷ 115 ∷ 32 ∷ 50 ∷ 32 ∷ 49 ∷ 48 ∷ 32 ∷ 50 ∷ 48 ∷ 32 ∷ 97 ∷ 110 ∷ 115 ∷ 119 ∷ 101 ∷ 114 ∷ 115 ∷ 32 ∷ 51 ∷ 32 ∷ 45 ∷ []) ≡ Asked.State (Command.Offers 5 (record { channels = 1; expiries = 0; lengths = 2; answers = 3 }))
unfolding index_of index_after head_of tail_of digit_of step_of follow_of by_size plain_of parse_of pairs_of readable_of hexed_of spells_of choice_of value_of bytes_of behind_of item_of items_of list_of last_number item_or_list_of left_out_of row_of read_by good_by named_of items_left command_of key_of items_behind said_in key_in shortened end_of asked_by start_by asked_of start_of stores_of perhaps memory_of start_from channel_count expiry_count length_count answer_count counts_from
offers_unequal = refl

-- and its lists
offers_unequal_lists : words_of 0 (111 ∷ 102 ∷ 102 ∷ 101 ∷ 114 ∷ 115 ∷ 32 ∷ 53 ∷ 32 ∷ 99 ∷ 104 ∷ 97 ∷ 110 ∷ 110 ∷ 101 ∷ 108 ∷ 115 ∷ 32 ∷ 49 ∷ 32 ∷ 55 ∷ 32 ∷ 101 ∷ 120 ∷ 112 ∷ 105 ∷ 114 ∷ 105 ∷ 101 ∷ 115 ∷ 32 ∷ 48 ∷ 32 ∷ 108 ∷ 101 ∷ 110 ∷ 103 ∷ 116 ∷ 104 ∷ 115 ∷ 32 ∷ 50 ∷ 32 ∷ 49 ∷ 48 ∷ 32 ∷ 50 ∷ 48 ∷ 32 ∷ 97 ∷ 110 ∷ 115 ∷ 119 ∷ 101 ∷ 114 ∷ 115 ∷ 32 ∷ 51 ∷ 32 ∷ 45 ∷ []) ≡ 7 ∷ 10 ∷ 20 ∷ []
unfolding index_of index_after head_of tail_of digit_of step_of follow_of by_size plain_of parse_of pairs_of readable_of hexed_of spells_of choice_of value_of bytes_of behind_of item_of items_of list_of last_number item_or_list_of left_out_of row_of read_by good_by named_of items_left command_of key_of items_behind said_in key_in shortened end_of asked_by start_by asked_of start_of stores_of perhaps memory_of start_from channel_count expiry_count length_count answer_count counts_from words_by words_of said_from tabulate lists_from
offers_unequal_lists = refl

-- `offers 5 channels 1 256 expiries 0 lengths 0 answers 0 -`
offers_high : asked_of 0 (111 ∷ 102 ∷ 102 ∷ 101 ∷ 114 ∷ 115 ∷ 32 ∷ 53 ∷ 32 ∷ 99 ∷ 104 ∷ 97 ∷ 110 ∷ 110 ∷ 101 ∷ 108 ∷ 115 ∷ 32 ∷ 49 ∷ 32 ∷ 50 ∷ 53 ∷ 54 ∷ 32 ∷ 101 ∷ 120 ∷ 112 ∷ 105 ∷ 114 ∷ 105 ∷ 101 ∷ 115 ∷ 32 ∷ 48 ∷ 32 ∷ 108 ∷ 101 ∷ 110 ∷ 103 ∷ 116 ∷ 104 ∷ 115 ∷ 32 ∷ 48 ∷ 32 ∷ 97 ∷ 110 ∷ 115 ∷ 119 ∷ 101 ∷ 114 ∷ 115 ∷ 32 ∷ 48 ∷ 32 ∷ 45 ∷ []) ≡ Asked.Bad
unfolding index_of index_after head_of tail_of digit_of step_of follow_of by_size plain_of parse_of pairs_of readable_of hexed_of spells_of choice_of value_of bytes_of behind_of item_of items_of list_of last_number item_or_list_of left_out_of row_of read_by good_by named_of items_left command_of key_of items_behind said_in key_in shortened end_of asked_by start_by asked_of start_of stores_of perhaps memory_of start_from
offers_high = refl

-- `offers 5 channels 0 expiries 0 lengths 1 4194305 answers 0 -`
offers_long : asked_of 0 (111 ∷ 102 ∷ 102 ∷ 101 ∷ 114 ∷ 115 ∷ 32 ∷ 53 ∷ 32 ∷ 99 ∷ 104 ∷ 97 ∷ 110 ∷ 110 ∷ 101 ∷ 108 ∷ 115 ∷ 32 ∷ 48 ∷ 32 ∷ 101 ∷ 120 ∷ 112 ∷ 105 ∷ 114 ∷ 105 ∷ 101 ∷ 115 ∷ 32 ∷ 48 ∷ 32 ∷ 108 ∷ 101 ∷ 110 ∷ 103 ∷ 116 ∷ 104 ∷ 115 ∷ 32 ∷ 49 ∷ 32 ∷ 52 ∷ 49 ∷ 57 ∷ 52 ∷ 51 ∷ 48 ∷ 53 ∷ 32 ∷ 97 ∷ 110 ∷ 115 ∷ 119 ∷ 101 ∷ 114 ∷ 115 ∷ 32 ∷ 48 ∷ 32 ∷ 45 ∷ []) ≡ Asked.Bad
unfolding index_of index_after head_of tail_of digit_of step_of follow_of by_size plain_of parse_of pairs_of readable_of hexed_of spells_of choice_of value_of bytes_of behind_of item_of items_of list_of last_number item_or_list_of left_out_of row_of read_by good_by named_of items_left command_of key_of items_behind said_in key_in shortened end_of asked_by start_by asked_of start_of stores_of perhaps memory_of start_from
offers_long = refl

-- `offers 5 channels 0 expiries 0 lengths 0 answers 81 -`, more than 80
offers_many : asked_of 0 (111 ∷ 102 ∷ 102 ∷ 101 ∷ 114 ∷ 115 ∷ 32 ∷ 53 ∷ 32 ∷ 99 ∷ 104 ∷ 97 ∷ 110 ∷ 110 ∷ 101 ∷ 108 ∷ 115 ∷ 32 ∷ 48 ∷ 32 ∷ 101 ∷ 120 ∷ 112 ∷ 105 ∷ 114 ∷ 105 ∷ 101 ∷ 115 ∷ 32 ∷ 48 ∷ 32 ∷ 108 ∷ 101 ∷ 110 ∷ 103 ∷ 116 ∷ 104 ∷ 115 ∷ 32 ∷ 48 ∷ 32 ∷ 97 ∷ 110 ∷ 115 ∷ 119 ∷ 101 ∷ 114 ∷ 115 ∷ 32 ∷ 56 ∷ 49 ∷ 32 ∷ 45 ∷ []) ≡ Asked.Bad
unfolding index_of index_after head_of tail_of digit_of step_of follow_of by_size plain_of parse_of pairs_of readable_of hexed_of spells_of choice_of value_of bytes_of behind_of item_of items_of list_of last_number item_or_list_of left_out_of row_of read_by good_by named_of items_left command_of key_of items_behind said_in key_in shortened end_of asked_by start_by asked_of start_of stores_of perhaps memory_of start_from
offers_many = refl

-- `offers 5 expiries 0 channels 0 lengths 0 answers 0 -`, the lists in another order
offers_turned : asked_of 0 (111 ∷ 102 ∷ 102 ∷ 101 ∷ 114 ∷ 115 ∷ 32 ∷ 53 ∷ 32 ∷ 101 ∷ 120 ∷ 112 ∷ 105 ∷ 114 ∷ 105 ∷ 101 ∷ 115 ∷ 32 ∷ 48 ∷ 32 ∷ 99 ∷ 104 ∷ 97 ∷ 110 ∷ 110 ∷ 101 ∷ 108 ∷ 115 ∷ 32 ∷ 48 ∷ 32 ∷ 108 ∷ 101 ∷ 110 ∷ 103 ∷ 116 ∷ 104 ∷ 115 ∷ 32 ∷ 48 ∷ 32 ∷ 97 ∷ 110 ∷ 115 ∷ 119 ∷ 101 ∷ 114 ∷ 115 ∷ 32 ∷ 48 ∷ 32 ∷ 45 ∷ []) ≡ Asked.Bad
unfolding index_of index_after head_of tail_of digit_of step_of follow_of by_size plain_of parse_of pairs_of readable_of hexed_of spells_of choice_of value_of bytes_of behind_of item_of items_of list_of last_number item_or_list_of left_out_of row_of read_by good_by named_of items_left command_of key_of items_behind said_in key_in shortened end_of asked_by start_by asked_of start_of stores_of perhaps memory_of start_from
offers_turned = refl

-- `next 3 100 1500`
next : asked_of 0 (110 ∷ 101 ∷ 120 ∷ 116 ∷ 32 ∷ 51 ∷ 32 ∷ 49 ∷ 48 ∷ 48 ∷ 32 ∷ 49 ∷ 53 ∷ 48 ∷ 48 ∷ []) ≡ Asked.State (Command.Next 3 100 1500)
unfolding index_of index_after head_of tail_of digit_of step_of follow_of by_size plain_of parse_of pairs_of readable_of hexed_of spells_of choice_of value_of bytes_of behind_of item_of items_of list_of last_number item_or_list_of left_out_of row_of read_by good_by named_of items_left command_of key_of items_behind said_in key_in shortened end_of asked_by start_by asked_of start_of stores_of perhaps memory_of start_from
next = refl

-- `next 256 100 1500`
next_high : asked_of 0 (110 ∷ 101 ∷ 120 ∷ 116 ∷ 32 ∷ 50 ∷ 53 ∷ 54 ∷ 32 ∷ 49 ∷ 48 ∷ 48 ∷ 32 ∷ 49 ∷ 53 ∷ 48 ∷ 48 ∷ []) ≡ Asked.Bad
unfolding index_of index_after head_of tail_of digit_of step_of follow_of by_size plain_of parse_of pairs_of readable_of hexed_of spells_of choice_of value_of bytes_of behind_of item_of items_of list_of last_number item_or_list_of left_out_of row_of read_by good_by named_of items_left command_of key_of items_behind said_in key_in shortened end_of asked_by start_by asked_of start_of stores_of perhaps memory_of start_from
next_high = refl

-- `next 3 100 1500 `, with a space behind it
next_more : asked_of 0 (110 ∷ 101 ∷ 120 ∷ 116 ∷ 32 ∷ 51 ∷ 32 ∷ 49 ∷ 48 ∷ 48 ∷ 32 ∷ 49 ∷ 53 ∷ 48 ∷ 48 ∷ 32 ∷ []) ≡ Asked.Bad
unfolding index_of index_after head_of tail_of digit_of step_of follow_of by_size plain_of parse_of pairs_of readable_of hexed_of spells_of choice_of value_of bytes_of behind_of item_of items_of list_of last_number item_or_list_of left_out_of row_of read_by good_by named_of items_left command_of key_of items_behind said_in key_in shortened end_of asked_by start_by asked_of start_of stores_of perhaps memory_of start_from
next_more = refl

-- `nexta 3 100 1500`
nexta : asked_of 0 (110 ∷ 101 ∷ 120 ∷ 116 ∷ 97 ∷ 32 ∷ 51 ∷ 32 ∷ 49 ∷ 48 ∷ 48 ∷ 32 ∷ 49 ∷ 53 ∷ 48 ∷ 48 ∷ []) ≡ Asked.Bad
unfolding index_of index_after head_of tail_of digit_of step_of follow_of by_size plain_of parse_of pairs_of readable_of hexed_of spells_of choice_of value_of bytes_of behind_of item_of items_of list_of last_number item_or_list_of left_out_of row_of read_by good_by named_of items_left command_of key_of items_behind said_in key_in shortened end_of asked_by start_by asked_of start_of stores_of perhaps memory_of start_from
nexta = refl

-- `radio 1005 0aff`
radio : asked_of 2 (114 ∷ 97 ∷ 100 ∷ 105 ∷ 111 ∷ 32 ∷ 49 ∷ 48 ∷ 48 ∷ 53 ∷ 32 ∷ 48 ∷ 97 ∷ 102 ∷ 102 ∷ []) ≡ Asked.State (Command.Radio 1005)
unfolding index_of index_after head_of tail_of digit_of step_of follow_of by_size plain_of parse_of pairs_of readable_of hexed_of spells_of choice_of value_of bytes_of behind_of item_of items_of list_of last_number item_or_list_of left_out_of row_of read_by good_by named_of items_left command_of key_of items_behind said_in key_in shortened end_of asked_by start_by asked_of start_of stores_of perhaps memory_of start_from
radio = refl

-- `radio 0aff`, without a time
radio_untimed : asked_of 2 (114 ∷ 97 ∷ 100 ∷ 105 ∷ 111 ∷ 32 ∷ 48 ∷ 97 ∷ 102 ∷ 102 ∷ []) ≡ Asked.Bad
unfolding index_of index_after head_of tail_of digit_of step_of follow_of by_size plain_of parse_of pairs_of readable_of hexed_of spells_of choice_of value_of bytes_of behind_of item_of items_of list_of last_number item_or_list_of left_out_of row_of read_by good_by named_of items_left command_of key_of items_behind said_in key_in shortened end_of asked_by start_by asked_of start_of stores_of perhaps memory_of start_from
radio_untimed = refl

-- `pace 18446744073709551615`, the latest time
pace : asked_of 0 (112 ∷ 97 ∷ 99 ∷ 101 ∷ 32 ∷ 49 ∷ 56 ∷ 52 ∷ 52 ∷ 54 ∷ 55 ∷ 52 ∷ 52 ∷ 48 ∷ 55 ∷ 51 ∷ 55 ∷ 48 ∷ 57 ∷ 53 ∷ 53 ∷ 49 ∷ 54 ∷ 49 ∷ 53 ∷ []) ≡ Asked.State (Command.Pace 18446744073709551615)
unfolding index_of index_after head_of tail_of digit_of step_of follow_of by_size plain_of parse_of pairs_of readable_of hexed_of spells_of choice_of value_of bytes_of behind_of item_of items_of list_of last_number item_or_list_of left_out_of row_of read_by good_by named_of items_left command_of key_of items_behind said_in key_in shortened end_of asked_by start_by asked_of start_of stores_of perhaps memory_of start_from
pace = refl

-- `pace 18446744073709551616`
pace_more : asked_of 0 (112 ∷ 97 ∷ 99 ∷ 101 ∷ 32 ∷ 49 ∷ 56 ∷ 52 ∷ 52 ∷ 54 ∷ 55 ∷ 52 ∷ 52 ∷ 48 ∷ 55 ∷ 51 ∷ 55 ∷ 48 ∷ 57 ∷ 53 ∷ 53 ∷ 49 ∷ 54 ∷ 49 ∷ 54 ∷ []) ≡ Asked.Bad
unfolding index_of index_after head_of tail_of digit_of step_of follow_of by_size plain_of parse_of pairs_of readable_of hexed_of spells_of choice_of value_of bytes_of behind_of item_of items_of list_of last_number item_or_list_of left_out_of row_of read_by good_by named_of items_left command_of key_of items_behind said_in key_in shortened end_of asked_by start_by asked_of start_of stores_of perhaps memory_of start_from
pace_more = refl

-- `pacer`
pacer : asked_of 0 (112 ∷ 97 ∷ 99 ∷ 101 ∷ 114 ∷ []) ≡ Asked.State Command.Pacer
unfolding index_of index_after head_of tail_of digit_of step_of follow_of by_size plain_of parse_of pairs_of readable_of hexed_of spells_of choice_of value_of bytes_of behind_of item_of items_of list_of last_number item_or_list_of left_out_of row_of read_by good_by named_of items_left command_of key_of items_behind said_in key_in shortened end_of asked_by start_by asked_of start_of stores_of perhaps memory_of start_from
pacer = refl

-- `query 4194304`, the most room
query : asked_of 0 (113 ∷ 117 ∷ 101 ∷ 114 ∷ 121 ∷ 32 ∷ 52 ∷ 49 ∷ 57 ∷ 52 ∷ 51 ∷ 48 ∷ 52 ∷ []) ≡ Asked.State (Command.Query 4194304)
unfolding index_of index_after head_of tail_of digit_of step_of follow_of by_size plain_of parse_of pairs_of readable_of hexed_of spells_of choice_of value_of bytes_of behind_of item_of items_of list_of last_number item_or_list_of left_out_of row_of read_by good_by named_of items_left command_of key_of items_behind said_in key_in shortened end_of asked_by start_by asked_of start_of stores_of perhaps memory_of start_from
query = refl

-- `query 4194305`
query_more : asked_of 0 (113 ∷ 117 ∷ 101 ∷ 114 ∷ 121 ∷ 32 ∷ 52 ∷ 49 ∷ 57 ∷ 52 ∷ 51 ∷ 48 ∷ 53 ∷ []) ≡ Asked.Bad
unfolding index_of index_after head_of tail_of digit_of step_of follow_of by_size plain_of parse_of pairs_of readable_of hexed_of spells_of choice_of value_of bytes_of behind_of item_of items_of list_of last_number item_or_list_of left_out_of row_of read_by good_by named_of items_left command_of key_of items_behind said_in key_in shortened end_of asked_by start_by asked_of start_of stores_of perhaps memory_of start_from
query_more = refl

-- `start 7 2 0 plain 0 1500 3 flow 4294967000 3000`
abbrev line : List ℕ
line = 115 ∷ 116 ∷ 97 ∷ 114 ∷ 116 ∷ 32 ∷ 55 ∷ 32 ∷ 50 ∷ 32 ∷ 48 ∷ 32 ∷ 112 ∷ 108 ∷ 97 ∷ 105 ∷ 110 ∷ 32 ∷ 48 ∷ 32 ∷ 49 ∷ 53 ∷ 48 ∷ 48 ∷ 32 ∷ 51 ∷ 32 ∷ 102 ∷ 108 ∷ 111 ∷ 119 ∷ 32 ∷ 52 ∷ 50 ∷ 57 ∷ 52 ∷ 57 ∷ 54 ∷ 55 ∷ 48 ∷ 48 ∷ 48 ∷ 32 ∷ 51 ∷ 48 ∷ 48 ∷ 48 ∷ []

abbrev started : ℕ → StartWords
started memory = record { words = 13; channels = 2; memory = memory }

stores : start_of 0 line ≡ started 4500
unfolding index_of index_after head_of tail_of digit_of step_of follow_of by_size plain_of parse_of pairs_of readable_of hexed_of spells_of choice_of value_of bytes_of behind_of item_of items_of list_of last_number item_or_list_of left_out_of row_of read_by good_by named_of items_left command_of key_of items_behind said_in key_in shortened end_of asked_by start_by asked_of start_of stores_of perhaps memory_of start_from
stores = refl

-- with `memory 10` behind it
memory : start_of 0 (line ++ (32 ∷ 109 ∷ 101 ∷ 109 ∷ 111 ∷ 114 ∷ 121 ∷ 32 ∷ 49 ∷ 48 ∷ [])) ≡ started 10
unfolding index_of index_after head_of tail_of digit_of step_of follow_of by_size plain_of parse_of pairs_of readable_of hexed_of spells_of choice_of value_of bytes_of behind_of item_of items_of list_of last_number item_or_list_of left_out_of row_of read_by good_by named_of items_left command_of key_of items_behind said_in key_in shortened end_of asked_by start_by asked_of start_of stores_of perhaps memory_of start_from
memory = refl

-- with a word too many
more : asked_of 0 (line ++ (32 ∷ 49 ∷ 48 ∷ [])) ≡ Asked.Bad
unfolding index_of index_after head_of tail_of digit_of step_of follow_of by_size plain_of parse_of pairs_of readable_of hexed_of spells_of choice_of value_of bytes_of behind_of item_of items_of list_of last_number item_or_list_of left_out_of row_of read_by good_by named_of items_left command_of key_of items_behind said_in key_in shortened end_of asked_by start_by asked_of start_of stores_of perhaps memory_of start_from
more = refl

-- the words of its configuration: HelloTime 5000, silence limit 9000 and the default of the statuses stand before the channels
abbrev words : (hello limit codes : ℕ) → List ℕ
words hello limit codes = 7 ∷ 2 ∷ hello ∷ limit ∷ codes ∷ 0 ∷ 0 ∷ 0 ∷ 1500 ∷ 3 ∷ 1 ∷ 4294967000 ∷ 3000 ∷ []

usual : words_of 0 line ≡ words 5000 9000 0
unfolding index_of index_after head_of tail_of digit_of step_of follow_of by_size plain_of parse_of pairs_of readable_of hexed_of spells_of choice_of value_of bytes_of behind_of item_of items_of list_of last_number item_or_list_of left_out_of row_of read_by good_by named_of items_left command_of key_of items_behind said_in key_in shortened end_of asked_by start_by asked_of start_of stores_of perhaps memory_of start_from words_by words_of behind_keyword pace_place codes_place hello_of limit_of codes_of said_from tabulate configuration_from
usual = refl

-- with ` pace 1 2` behind it
paced : words_of 0 (line ++ (32 ∷ 112 ∷ 97 ∷ 99 ∷ 101 ∷ 32 ∷ 49 ∷ 32 ∷ 50 ∷ [])) ≡ words 1 2 0
unfolding index_of index_after head_of tail_of digit_of step_of follow_of by_size plain_of parse_of pairs_of readable_of hexed_of spells_of choice_of value_of bytes_of behind_of item_of items_of list_of last_number item_or_list_of left_out_of row_of read_by good_by named_of items_left command_of key_of items_behind said_in key_in shortened end_of asked_by start_by asked_of start_of stores_of perhaps memory_of start_from words_by words_of behind_keyword pace_place codes_place hello_of limit_of codes_of said_from tabulate configuration_from
paced = refl

-- with ` memory 10 pace 1 2`
both : words_of 0 (line ++ (32 ∷ 109 ∷ 101 ∷ 109 ∷ 111 ∷ 114 ∷ 121 ∷ 32 ∷ 49 ∷ 48 ∷ 32 ∷ 112 ∷ 97 ∷ 99 ∷ 101 ∷ 32 ∷ 49 ∷ 32 ∷ 50 ∷ [])) ≡ words 1 2 0
unfolding index_of index_after head_of tail_of digit_of step_of follow_of by_size plain_of parse_of pairs_of readable_of hexed_of spells_of choice_of value_of bytes_of behind_of item_of items_of list_of last_number item_or_list_of left_out_of row_of read_by good_by named_of items_left command_of key_of items_behind said_in key_in shortened end_of asked_by start_by asked_of start_of stores_of perhaps memory_of start_from words_by words_of behind_keyword pace_place codes_place hello_of limit_of codes_of said_from tabulate configuration_from
both = refl

both_memory : start_of 0 (line ++ (32 ∷ 109 ∷ 101 ∷ 109 ∷ 111 ∷ 114 ∷ 121 ∷ 32 ∷ 49 ∷ 48 ∷ 32 ∷ 112 ∷ 97 ∷ 99 ∷ 101 ∷ 32 ∷ 49 ∷ 32 ∷ 50 ∷ [])) ≡ started 10
unfolding index_of index_after head_of tail_of digit_of step_of follow_of by_size plain_of parse_of pairs_of readable_of hexed_of spells_of choice_of value_of bytes_of behind_of item_of items_of list_of last_number item_or_list_of left_out_of row_of read_by good_by named_of items_left command_of key_of items_behind said_in key_in shortened end_of asked_by start_by asked_of start_of stores_of perhaps memory_of start_from
both_memory = refl

-- with ` pace 1 2 memory 10`, the other way round
turned : asked_of 0 (line ++ (32 ∷ 112 ∷ 97 ∷ 99 ∷ 101 ∷ 32 ∷ 49 ∷ 32 ∷ 50 ∷ 32 ∷ 109 ∷ 101 ∷ 109 ∷ 111 ∷ 114 ∷ 121 ∷ 32 ∷ 49 ∷ 48 ∷ [])) ≡ Asked.Bad
unfolding index_of index_after head_of tail_of digit_of step_of follow_of by_size plain_of parse_of pairs_of readable_of hexed_of spells_of choice_of value_of bytes_of behind_of item_of items_of list_of last_number item_or_list_of left_out_of row_of read_by good_by named_of items_left command_of key_of items_behind said_in key_in shortened end_of asked_by start_by asked_of start_of stores_of perhaps memory_of start_from
turned = refl

-- with ` pace 1`, which says no limit
half : asked_of 0 (line ++ (32 ∷ 112 ∷ 97 ∷ 99 ∷ 101 ∷ 32 ∷ 49 ∷ [])) ≡ Asked.Bad
unfolding index_of index_after head_of tail_of digit_of step_of follow_of by_size plain_of parse_of pairs_of readable_of hexed_of spells_of choice_of value_of bytes_of behind_of item_of items_of list_of last_number item_or_list_of left_out_of row_of read_by good_by named_of items_left command_of key_of items_behind said_in key_in shortened end_of asked_by start_by asked_of start_of stores_of perhaps memory_of start_from
half = refl

-- with ` codes 255`
coded : words_of 0 (line ++ (32 ∷ 99 ∷ 111 ∷ 100 ∷ 101 ∷ 115 ∷ 32 ∷ 50 ∷ 53 ∷ 53 ∷ [])) ≡ words 5000 9000 255
unfolding index_of index_after head_of tail_of digit_of step_of follow_of by_size plain_of parse_of pairs_of readable_of hexed_of spells_of choice_of value_of bytes_of behind_of item_of items_of list_of last_number item_or_list_of left_out_of row_of read_by good_by named_of items_left command_of key_of items_behind said_in key_in shortened end_of asked_by start_by asked_of start_of stores_of perhaps memory_of start_from words_by words_of behind_keyword pace_place codes_place hello_of limit_of codes_of said_from tabulate configuration_from
coded = refl

-- with ` memory 10 pace 1 2 codes 2`
all : words_of 0 (line ++ (32 ∷ 109 ∷ 101 ∷ 109 ∷ 111 ∷ 114 ∷ 121 ∷ 32 ∷ 49 ∷ 48 ∷ 32 ∷ 112 ∷ 97 ∷ 99 ∷ 101 ∷ 32 ∷ 49 ∷ 32 ∷ 50 ∷ 32 ∷ 99 ∷ 111 ∷ 100 ∷ 101 ∷ 115 ∷ 32 ∷ 50 ∷ [])) ≡ words 1 2 2
unfolding index_of index_after head_of tail_of digit_of step_of follow_of by_size plain_of parse_of pairs_of readable_of hexed_of spells_of choice_of value_of bytes_of behind_of item_of items_of list_of last_number item_or_list_of left_out_of row_of read_by good_by named_of items_left command_of key_of items_behind said_in key_in shortened end_of asked_by start_by asked_of start_of stores_of perhaps memory_of start_from words_by words_of behind_keyword pace_place codes_place hello_of limit_of codes_of said_from tabulate configuration_from
all = refl

-- with ` codes 256`
codes_more : asked_of 0 (line ++ (32 ∷ 99 ∷ 111 ∷ 100 ∷ 101 ∷ 115 ∷ 32 ∷ 50 ∷ 53 ∷ 54 ∷ [])) ≡ Asked.Bad
unfolding index_of index_after head_of tail_of digit_of step_of follow_of by_size plain_of parse_of pairs_of readable_of hexed_of spells_of choice_of value_of bytes_of behind_of item_of items_of list_of last_number item_or_list_of left_out_of row_of read_by good_by named_of items_left command_of key_of items_behind said_in key_in shortened end_of asked_by start_by asked_of start_of stores_of perhaps memory_of start_from
codes_more = refl

-- with ` codes 2 pace 1 2`, the other way round
codes_turned : asked_of 0 (line ++ (32 ∷ 99 ∷ 111 ∷ 100 ∷ 101 ∷ 115 ∷ 32 ∷ 50 ∷ 32 ∷ 112 ∷ 97 ∷ 99 ∷ 101 ∷ 32 ∷ 49 ∷ 32 ∷ 50 ∷ [])) ≡ Asked.Bad
unfolding index_of index_after head_of tail_of digit_of step_of follow_of by_size plain_of parse_of pairs_of readable_of hexed_of spells_of choice_of value_of bytes_of behind_of item_of items_of list_of last_number item_or_list_of left_out_of row_of read_by good_by named_of items_left command_of key_of items_behind said_in key_in shortened end_of asked_by start_by asked_of start_of stores_of perhaps memory_of start_from
codes_turned = refl
