-- Document 01, "A channel's life", for one channel: what each call answers and what it leaves. The rules stand here once, over the two parts that a channel
-- is made of: how it counts, and how it keeps its packets. `Simple` has these parts in numbers that never wrap, `Machine` as the code has them.
use Rattle.quantity.specs.declared.count.FlowSequence.{FlowSequence}
use Rattle.std.specs.Prelude.{ℕ, Bool, cond, not, List, [], ◌∷◌, length, leb, ltb, Option, Some, None}
use Rattle.quantity.specs.declared.count.DatalinkId.{DatalinkId}
use Rattle.quantity.specs.declared.count.ByteCount.{ByteCount}
use Rattle.quantity.specs.Refusals.{NOT-IPV6, LONG-PACKET, EARLIER-TIME, EXPIRY-PAST, FULL, NO-ROOM}
use Rattle.meaning.specs.declared.status.StatusCodes.{StatusCodes}
use Rattle.meaning.specs.declared.message.Window.{Window}
use Rattle.meaning.specs.declared.message.Data.{Data}
use Rattle.meaning.specs.Statuses.{operational}
use Rattle.writer.specs.Written.{data_written, no_room_of}
use Rattle.store.specs.Packets.{Packet}
use Rattle.ipv6.specs.Ipv6.{is_ipv6}

-- ---- the calls on a channel, each with answers of its own

-- Next is lent an output for its message
pub data ChannelCall : Type 0 where
  offer : (packet : Packet) (time : ℕ) → ChannelCall
  next : (time : ℕ) (out : List ℕ) → ChannelCall
  withdraw : ChannelCall

pub data Taken : Type 0 where
  taken : Taken

-- `sent` has the packet and the Flow Sequence that its message carries
pub data Tried : Type 0 where
  nothing_waiting not_operational window_shut : Tried
  sent : List ℕ → Option FlowSequence → Tried

pub data Emptied : Type 0 where
  emptied : Emptied

abbrev pub Says : ChannelCall → Type 0
Says (offer packet time) = Taken
Says (next time out) = Tried
Says withdraw = Emptied

-- any call may be refused, by a number
pub data Answer (A : Type 0) : Type 0 where
  refused : ℕ → Answer A
  answered : A → Answer A

-- "changes no state and no lent byte": after a refusal what was there, else what the call leaves
abbrev pub unless_refused : {A B : Type 0} → Answer A → B → B → B
unless_refused (refused number) was is = was
unless_refused (answered says) was is = is

-- ---- what a channel sees: its own calls, and a radio control message as what it states of the channel, its Channel Status and its Flow Window option
pub data Event : Type 0 where
  call : ChannelCall → Event
  radio : Option ℕ → Option Window → Event

-- Document 02, §1: "a silence counts in the third demand as an event seen by all channels": "every channel becomes not reported and every flow-controlled one has no
-- window. Packets stay waiting." That is what a radio message does that doesn't name the channel and has a Flow Window without a window for it.
abbrev pub silence : Event
silence = radio None (Some Window.Empty)

-- an event with the answer that was given to it; nobody answers for a channel's part of a radio message
pub data Happened : Type 0 where
  called : (c : ChannelCall) → Answer (Says c) → Happened
  heard : Option ℕ → Option Window → Happened

abbrev pub silent : Happened
silent = heard None (Some Window.Empty)

-- ---- how a channel is configured, with its datalink's ID, the statuses that are operational there, and the longest packet that the endpoint takes
pub record Terms : Type 0 where
  pub datalink : DatalinkId
  pub codes : StatusCodes
  pub id : ℕ
  pub controlled : Bool
  pub size : ℕ
  pub longest : ℕ

-- number 14: "above the smaller of 9,000 and the store's length"
abbrev pub longest_on : Terms → ℕ
longest_on k = cond (leb k.longest k.size) k.longest k.size

-- ---- what a channel is made of
pub record ChannelParts : Type 1 where
  -- how it counts, and how it keeps packets
  pub Counting : Type 0
  pub Keeping : Type 0
  -- may a packet of n bytes go, what is counted when it went, and the Flow Sequence that its message carries, read after that
  pub fits : Counting → ByteCount → Bool
  pub grow : ByteCount → Counting → Counting
  pub carried : Counting → Option FlowSequence
  -- a Flow Window option came, or none
  pub hear : Option Window → Counting → Counting
  -- the packets that wait, the first first
  pub waiting : Keeping → List Packet
  -- those due at a time are expired; one joins the end; the first is sent; all are withdrawn
  pub expire : ℕ → Keeping → Keeping
  pub join : Packet → Keeping → Keeping
  pub send : Keeping → Keeping
  pub clear : Keeping → Keeping
  -- numbers 14 and 17: how long a packet may be, and whether there is no place for one more
  pub longest : Terms → ℕ
  pub full : Terms → Keeping → Packet → Bool

-- "A channel has a status (fresh: not reported), and a flow state"; "Latest time is each channel's own"
pub record Condition (P : ChannelParts) : Type 0 where
  pub counting : P.Counting
  pub keeping : P.Keeping
  pub status : Option ℕ
  pub latest : ℕ

pub record AfterCall (P : ChannelParts) (A : Type 0) : Type 0 where
  pub answer : Answer A
  pub condition : Condition P

-- ---- the message that Next hands over

-- a data message's Flow Sequence names the channel
abbrev pub counted_on : ℕ → Option FlowSequence → Option (ℕ × FlowSequence)
counted_on id None = None
counted_on id (Some s) = Some (id, s)

-- "The message has, in the writer's order, Datalink Identifier, Flow Sequence if a window is in force, Channel Identifier, Packet Data."
abbrev pub message_of : Terms → Option FlowSequence → Data
message_of k sequence =
    record { datalink = Some k.datalink; sequence = counted_on k.id sequence; channel = Some k.id; expiration = None }

unfoldable pub message_bytes : Terms → Option FlowSequence → List ℕ → List ℕ
message_bytes k sequence packet = data_written (message_of k sequence) packet

-- ---- the rules
module _ (P : ChannelParts) where
  -- a refusal "changes no state"
  abbrev pub refusal : {A : Type 0} → ℕ → Condition P → AfterCall P A
  refusal number st = record { answer = refused number; condition = st }

  -- an answer, with the count, the packets and the latest time that are left
  abbrev pub left : {A : Type 0} → A → P.Counting → P.Keeping → ℕ → Condition P → AfterCall P A
  left says counting keeping time st = record { answer = answered says; condition = record { counting = counting; keeping = keeping; status = st.status; latest = time } }

  -- the count after a packet went
  abbrev pub grown : List ℕ → Condition P → P.Counting
  grown packet st = P.grow (record { 0 = length packet }) st.counting

  module _ (k : Terms) where
    -- "offering a packet: 12, 13, 14, 15, 16, 17". "Before an accepted Offer or Next does its work, every packet of that channel whose expiry is at or before
    -- the time given is expired .. Numbers 17 and 18 are judged after that; if given, nothing has expired."
    unfoldable pub offer_at : Packet → (time : ℕ) → Condition P → AfterCall P Taken
    offer_at p time st =
        cond (not (is_ipv6 p.bytes)) (refusal NOT-IPV6 st)
        (cond (ltb (P.longest k) (length p.bytes)) (refusal LONG-PACKET st)
        (cond (ltb time st.latest) (refusal EARLIER-TIME st)
        (cond (leb p.expiry time) (refusal EXPIRY-PAST st)
        (cond (P.full k (P.expire time st.keeping) p) (refusal FULL st)
        (left taken st.counting (P.join p (P.expire time st.keeping)) time st)))))

    -- "a data message with the first waiting packet, if the status is 1 to 7 and the channel is free or the packet fits the window. The answers otherwise, tried
    -- in this order: nothing waiting, not operational, window shut. .. Only the first waiting packet is tried." Document 02: "Whether a status is operational now
    -- depends on that setting, and all who ask must pass it."
    unfoldable pub try_first : (waiting : List Packet) (time room : ℕ) → Condition P → AfterCall P Tried
    try_first [] time room st = left nothing_waiting st.counting (P.expire time st.keeping) time st
    try_first (p ∷ ps) time room st =
        cond (not (operational k.codes st.status)) (left not_operational st.counting (P.expire time st.keeping) time st)
        (cond (not (P.fits st.counting (record { 0 = length p.bytes }))) (left window_shut st.counting (P.expire time st.keeping) time st)
        (cond (no_room_of (length (message_bytes k (P.carried (grown p.bytes st)) p.bytes)) room) (refusal NO-ROOM st)
        (left (sent p.bytes (P.carried (grown p.bytes st))) (grown p.bytes st) (P.send (P.expire time st.keeping)) time st)))

    -- "Asking for the next: 12, 15, 18."
    unfoldable pub next_at : (time room : ℕ) → Condition P → AfterCall P Tried
    next_at time room st = cond (ltb time st.latest) (refusal EARLIER-TIME st) (try_first (P.waiting (P.expire time st.keeping)) time room st)

    -- "Withdraw: all packets waiting on the channel are withdrawn."
    unfoldable pub withdraw_at : Condition P → AfterCall P Emptied
    withdraw_at st = left emptied st.counting (P.clear st.keeping) st.latest st

    -- "a configured channel that it names takes its Status; one that it doesn't name is not reported. For each flow-controlled channel: .."; "Plain channels are
    -- always free."
    unfoldable pub radio_at : Option ℕ → Option Window → Condition P → Condition P
    radio_at status window st =
        record { counting = cond k.controlled (P.hear window st.counting) st.counting; keeping = st.keeping; status = status; latest = st.latest }

    abbrev pub call_at : (c : ChannelCall) → Condition P → AfterCall P (Says c)
    call_at (offer packet time) st = offer_at packet time st
    call_at (next time out) st = next_at time (length out) st
    call_at withdraw st = withdraw_at st

    abbrev pub step : Event → Condition P → Condition P
    step (call c) st = (call_at c st).condition
    step (radio status window) st = radio_at status window st

    abbrev pub happens : Event → Condition P → Happened
    happens (call c) st = called c (call_at c st).answer
    happens (radio status window) st = heard status window

    -- "any sequence of calls .. refused ones among them": what happened, and what is left
    abbrev pub history : List Event → Condition P → List Happened
    history [] st = []
    history (e ∷ es) st = happens e st ∷ history es (step e st)

    abbrev pub final : List Event → Condition P → Condition P
    final [] st = st
    final (e ∷ es) st = final es (step e st)
