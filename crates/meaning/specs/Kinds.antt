-- Document 01, "Messages": the table of options, and what each message may hold. Reader and writer go by these definitions alike.
use Rattle.std.specs.Prelude.{ℕ, List, [], ◌∷◌, Bool, true, false, cond, not, ◌&&◌, length, get_or, eqb, leb, ltb}
use Rattle.quantity.specs.Limits.{RESERVED-CHANNEL, SHORTEST-NAME, LONGEST-NAME}
use Rattle.wire.specs.Numbers.{big_endian}
use Rattle.meaning.specs.declared.message.End.{End}
use Rattle.meaning.specs.declared.message.End.TheVariants.{Ips, Radio}
use Rattle.meaning.specs.declared.message.Plane.{Plane}
use Rattle.meaning.specs.declared.message.Plane.TheVariants.{Control, Data}

abbrev pub DATALINK-IDENTIFIER : ℕ
DATALINK-IDENTIFIER = 1

abbrev pub LINK-INSTANCE : ℕ
LINK-INSTANCE = 3

abbrev pub DATALINK-CONTEXT : ℕ
DATALINK-CONTEXT = 4

abbrev pub CHANNEL-STATUS : ℕ
CHANNEL-STATUS = 5

abbrev pub FLOW-WINDOW : ℕ
FLOW-WINDOW = 6

abbrev pub PACKET-DATA : ℕ
PACKET-DATA = 128

abbrev pub CHANNEL-IDENTIFIER : ℕ
CHANNEL-IDENTIFIER = 129

abbrev pub EXPIRATION-TIME : ℕ
EXPIRATION-TIME = 130

abbrev pub FLOW-SEQUENCE : ℕ
FLOW-SEQUENCE = 134

-- whether a number is one of a list
abbrev pub among : ℕ → List ℕ → Bool
among n [] = false
among n (x ∷ xs) = cond (eqb n x) true (among n xs)

-- the known types; every other is unknown, and skipped, as section 3.2 orders
abbrev pub known : List ℕ
known =
    DATALINK-IDENTIFIER
    ∷ LINK-INSTANCE
    ∷ DATALINK-CONTEXT
    ∷ CHANNEL-STATUS
    ∷ FLOW-WINDOW
    ∷ PACKET-DATA
    ∷ CHANNEL-IDENTIFIER
    ∷ EXPIRATION-TIME
    ∷ FLOW-SEQUENCE
    ∷ []

-- those whose content begins with a Channel ID
abbrev pub naming : List ℕ
naming = CHANNEL-STATUS ∷ FLOW-WINDOW ∷ CHANNEL-IDENTIFIER ∷ FLOW-SEQUENCE ∷ []

-- column "Length", and the lengths of sections 3.3.1 and 3.3.7 to 3.3.9; Packet Data may have any
unfoldable pub length_listed : ℕ → ℕ → Bool
length_listed kind n =
    cond (among kind (DATALINK-IDENTIFIER ∷ CHANNEL-IDENTIFIER ∷ [])) (eqb n 1)
    (cond (among kind (LINK-INSTANCE ∷ DATALINK-CONTEXT ∷ [])) (leb SHORTEST-NAME n && leb n LONGEST-NAME)
    (cond (eqb kind CHANNEL-STATUS) (eqb n 2)
    (cond (eqb kind FLOW-WINDOW) (among n (1 ∷ 5 ∷ []))
    (cond (eqb kind EXPIRATION-TIME) (eqb n 4)
    (cond (eqb kind FLOW-SEQUENCE) (eqb n 5) true)))))

-- number 5: "its Channel ID is 255, or section 3.3 gives no meaning to its value", which is so of an Expiration Time of 0 alone
unfoldable pub value_listed : ℕ → List ℕ → Bool
value_listed kind content =
    cond (among kind naming) (ltb (get_or content 0 0) RESERVED-CHANNEL) (cond (eqb kind EXPIRATION-TIME) (not (eqb (big_endian content) 0)) true)

-- "What each message may hold"
abbrev pub may_hold : Plane → End → List ℕ
may_hold Control Ips = DATALINK-IDENTIFIER ∷ FLOW-SEQUENCE ∷ []
may_hold Data Ips = DATALINK-IDENTIFIER ∷ PACKET-DATA ∷ CHANNEL-IDENTIFIER ∷ EXPIRATION-TIME ∷ FLOW-SEQUENCE ∷ []
may_hold Control Radio = DATALINK-IDENTIFIER ∷ CHANNEL-STATUS ∷ LINK-INSTANCE ∷ DATALINK-CONTEXT ∷ FLOW-WINDOW ∷ []
may_hold Data Radio = DATALINK-IDENTIFIER ∷ PACKET-DATA ∷ CHANNEL-IDENTIFIER ∷ []

-- of these there may be one for each channel, of all others one
abbrev pub one_for_each : Plane → List ℕ
one_for_each Control = CHANNEL-STATUS ∷ FLOW-WINDOW ∷ FLOW-SEQUENCE ∷ []
one_for_each Data = []

-- "Packet Data is the last option."
abbrev pub stands_last : Plane → List ℕ
stands_last Control = []
stands_last Data = PACKET-DATA ∷ []

-- what it must hold; a Channel Status, for channel 0
abbrev pub must_hold : Plane → End → List ℕ
must_hold Control Ips = DATALINK-IDENTIFIER ∷ []
must_hold Control Radio = DATALINK-IDENTIFIER ∷ CHANNEL-STATUS ∷ []
must_hold Data end = DATALINK-IDENTIFIER ∷ PACKET-DATA ∷ []
