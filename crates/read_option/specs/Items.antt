-- An option's answer as the code carries it from one function to the next: 6, 4, 5, or what the option states.
use Rattle.std.specs.Prelude.{ℕ, ◌%◌, ◌<◌, List, cond, length, get_or, drop, eqb, Some, Result, Ok, Err}
use Rattle.quantity.specs.Limits.{CHANNEL-IDS}
use Rattle.quantity.specs.Refusals.{LENGTH, VALUE, UNLISTED}
use Rattle.wire.specs.Numbers.{big_endian}
use Rattle.meaning.specs.declared.message.End.{End}
use Rattle.meaning.specs.declared.message.Plane.{Plane}
use Rattle.meaning.specs.Kinds.{among, known, length_listed, value_listed, may_hold, DATALINK-IDENTIFIER, LINK-INSTANCE, DATALINK-CONTEXT, CHANNEL-STATUS, FLOW-WINDOW, PACKET-DATA, CHANNEL-IDENTIFIER, EXPIRATION-TIME}
use Rattle.read_option.specs.declared.answer.Item.{Item}
use Rattle.read_option.specs.Stated.{window_from}

-- what an option of a known type without a fault states
unfoldable pub item_of : ℕ → List ℕ → Item
item_of kind content =
    cond (eqb kind DATALINK-IDENTIFIER) (Item.Datalink (record { 0 = get_or content 0 0 }))
    (cond (eqb kind LINK-INSTANCE) (Item.Instance (record { 0 = big_endian content }) (length content))
    (cond (eqb kind DATALINK-CONTEXT) (Item.Context (record { 0 = big_endian content }) (length content))
    (cond (eqb kind CHANNEL-STATUS) (Item.Status (get_or content 0 0) (get_or content 1 0 % 16))
    (cond (eqb kind FLOW-WINDOW) (Item.Window (get_or content 0 0) (window_from (Some content)))
    (cond (eqb kind PACKET-DATA) Item.Packet
    (cond (eqb kind CHANNEL-IDENTIFIER) (Item.Channel (get_or content 0 0))
    (cond (eqb kind EXPIRATION-TIME) (Item.Expiration (big_endian content))
    (Item.Sequence (get_or content 0 0) (record { 0 = big_endian (drop 1 content) })))))))))

-- 4, 5, or what it states
unfoldable pub stated_of : ℕ → List ℕ → Result Item ℕ
stated_of kind content = cond (length_listed kind (length content)) (cond (value_listed kind content) (Ok (item_of kind content)) (Err VALUE)) (Err LENGTH)

-- 6, 4, 5, or what it states; an unknown option is skipped
unfoldable pub answer_of : Plane → End → ℕ → List ℕ → Result Item ℕ
answer_of plane end kind content =
    cond (among kind known) (cond (among kind (may_hold plane end)) (stated_of kind content) (Err UNLISTED)) (Ok Item.Skipped)

-- the number of a refused answer
abbrev pub number_of : Result Item ℕ → ℕ
number_of (Ok item) = 0
number_of (Err number) = number

-- a channel that an item names is one of a table's places
abbrev pub InTable : Item → Type 0
InTable Item.Skipped = Unit {0}
InTable (Item.Datalink d) = Unit {0}
InTable (Item.Instance v n) = Unit {0}
InTable (Item.Context b n) = Unit {0}
InTable (Item.Status channel s) = channel < CHANNEL-IDS
InTable (Item.Sequence channel s) = channel < CHANNEL-IDS
InTable (Item.Window channel w) = channel < CHANNEL-IDS
InTable (Item.Channel channel) = channel < CHANNEL-IDS
InTable (Item.Expiration t) = Unit {0}
InTable Item.Packet = Unit {0}

abbrev pub Placed : Result Item ℕ → Type 0
Placed (Ok item) = InTable item
Placed (Err number) = Unit {0}
