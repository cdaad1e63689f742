-- Number 20: "a meaning to be written that the lists above, or section 3's lengths and values, don't allow (a number too big for its length too)".
use Rattle.quantity.specs.declared.count.DatalinkId.{DatalinkId}
use Rattle.quantity.specs.declared.count.LinkInstanceId.{LinkInstanceId}
use Rattle.quantity.specs.declared.count.FlowSequence.{FlowSequence}
use Rattle.meaning.specs.declared.message.ContextBytes.{ContextBytes}
use Rattle.std.specs.Prelude.{ℕ, ◌^◌, List, [], ◌∷◌, Bool, true, false, cond, ◌&&◌, not, get_or, eqb, leb, ltb, Option, Some, None}
use Rattle.quantity.specs.Limits.{RESERVED-CHANNEL, HIGHEST-STATUS}
use Rattle.meaning.specs.declared.message.End.{End}
use Rattle.meaning.specs.declared.message.Plane.{Plane}
use Rattle.meaning.specs.declared.message.Plane.TheVariants as planes
use Rattle.meaning.specs.declared.message.Window.{Window}
use Rattle.meaning.specs.declared.message.Control.{Control}
use Rattle.meaning.specs.declared.message.Data.{Data}
use Rattle.meaning.specs.Kinds.{among, length_listed, may_hold, must_hold, LINK-INSTANCE, DATALINK-CONTEXT, CHANNEL-STATUS, FLOW-WINDOW, CHANNEL-IDENTIFIER, EXPIRATION-TIME, FLOW-SEQUENCE}

-- a message of this plane and end may hold an option of this type
abbrev pub may : Plane → End → ℕ → Bool
may plane end kind = among kind (may_hold plane end)

-- a number of a listed length that is not too big for it
abbrev pub fits_length : ℕ → ℕ → ℕ → Bool
fits_length kind value n = length_listed kind n && ltb value (256 ^ n)

-- every message must hold a Datalink Identifier
abbrev pub datalink_allowed : Option DatalinkId → Bool
datalink_allowed None = false
datalink_allowed (Some d) = true

abbrev pub instance_allowed : End → Option (LinkInstanceId × ℕ) → Bool
instance_allowed end None = true
instance_allowed end (Some (v, n)) = may planes.Control end LINK-INSTANCE && fits_length LINK-INSTANCE v.0 n

abbrev pub context_allowed : End → Option (ContextBytes × ℕ) → Bool
context_allowed end None = true
context_allowed end (Some (b, n)) = may planes.Control end DATALINK-CONTEXT && fits_length DATALINK-CONTEXT b.0 n

-- a Status has 4 bits
abbrev pub status_allowed : End → Option ℕ → Bool
status_allowed end None = true
status_allowed end (Some s) = may planes.Control end CHANNEL-STATUS && leb s HIGHEST-STATUS

unfoldable pub statuses_allowed : End → List (Option ℕ) → Bool
statuses_allowed end [] = true
statuses_allowed end (cell ∷ cells) = status_allowed end cell && statuses_allowed end cells

-- channel 0 has a status, where one must stand
abbrev pub stands : Option ℕ → Bool
stands None = false
stands (Some s) = true

abbrev pub primary_allowed : End → List (Option ℕ) → Bool
primary_allowed end cells = cond (among CHANNEL-STATUS (must_hold planes.Control end)) (stands (get_or cells 0 None)) true

abbrev pub sequence_allowed : End → Option FlowSequence → Bool
sequence_allowed end None = true
sequence_allowed end (Some s) = may planes.Control end FLOW-SEQUENCE

unfoldable pub sequences_allowed : End → List (Option FlowSequence) → Bool
sequences_allowed end [] = true
sequences_allowed end (cell ∷ cells) = sequence_allowed end cell && sequences_allowed end cells

abbrev pub window_allowed : End → Option Window → Bool
window_allowed end None = true
window_allowed end (Some Window.Empty) = may planes.Control end FLOW-WINDOW
window_allowed end (Some (Window.Given w)) = may planes.Control end FLOW-WINDOW

unfoldable pub windows_allowed : End → List (Option Window) → Bool
windows_allowed end [] = true
windows_allowed end (cell ∷ cells) = window_allowed end cell && windows_allowed end cells

-- a control message that may be written
unfoldable pub control_allowed : End → Control → Bool
control_allowed end m =
    datalink_allowed m.datalink
    && (instance_allowed end m.instance
    && (context_allowed end m.context
    && (statuses_allowed end m.statuses
    && (primary_allowed end m.statuses && (sequences_allowed end m.sequences && windows_allowed end m.windows)))))

-- "Flow Sequence needs a Channel Identifier of the same channel."
abbrev pub counted_allowed : End → Option (ℕ × FlowSequence) → Option ℕ → Bool
counted_allowed end None channel = true
counted_allowed end (Some (n, s)) None = false
counted_allowed end (Some (n, s)) (Some k) = may planes.Data end FLOW-SEQUENCE && eqb n k

abbrev pub channel_allowed : End → Option ℕ → Bool
channel_allowed end None = true
channel_allowed end (Some k) = may planes.Data end CHANNEL-IDENTIFIER && ltb k RESERVED-CHANNEL

-- an Expiration Time of 0 has no meaning
abbrev pub expiration_allowed : End → Option ℕ → Bool
expiration_allowed end None = true
expiration_allowed end (Some t) = may planes.Data end EXPIRATION-TIME && not (eqb t 0)

-- a data message that may be written with a packet of n bytes: section 3.3.7, Length "0: No packet data", "1 to 2^16 - 1: length of packet data";
-- 0 is written like any other (docs/DECISIONS.md, point 7)
unfoldable pub data_allowed : End → Data → ℕ → Bool
data_allowed end m n =
    datalink_allowed m.datalink
    && (counted_allowed end m.sequence m.channel
    && (channel_allowed end m.channel && (expiration_allowed end m.expiration && ltb n (2 ^ 16))))
