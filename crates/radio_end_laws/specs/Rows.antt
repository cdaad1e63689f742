-- One state, and what calls on it come to, in literal bytes: answer, state and every byte of the output.
use Rattle.quantity.specs.declared.count.LinkInstanceId.{LinkInstanceId}
use Rattle.quantity.specs.declared.count.FlowSequence.{FlowSequence}
use Rattle.meaning.specs.declared.message.ContextBytes.{ContextBytes}
use Rattle.std.specs.Prelude.{ℕ, true, false, List, [], ◌∷◌, ◌++◌, ◌≡◌, replicate, Option, Some, None, Ok, Err}
use Rattle.radio_end_state.specs.declared.answer.Answer.{Answer}
use Rattle.radio_end_state.specs.declared.channel.Setting.{Setting}
use Rattle.radio_end_state.specs.State.{State}
use Rattle.radio_end_state.specs.Calls.{After, status_told, queued_told, context_told, link_told, told, heard}

-- a watermark of 1,000 and a throughput of 500
abbrev pub plain : ℕ → Setting
plain id = record { id = id; controlled = false; watermark = record { 0 = 1000 }; throughput = record { 0 = 500 } }

abbrev pub controlled : ℕ → Setting
controlled id = record { id = id; controlled = true; watermark = record { 0 = 1000 }; throughput = record { 0 = 500 } }

-- Datalink ID 7, and the channels 0 (plain, status 3), 9 and 5 (flow-controlled, 5 at status 15), in this order
abbrev pub standing : (instance : Option (LinkInstanceId × ℕ)) (context : Option (ContextBytes × ℕ)) (queued0 status9 queued9 : ℕ) (highest9 : Option FlowSequence) (queued5 : ℕ) (highest5 : Option FlowSequence) → State
standing instance context queued0 status9 queued9 highest9 queued5 highest5 = record {
  datalink = record { 0 = 7 };
  channels =
      record { setting = plain 0; status = 3; queued = record { 0 = queued0 }; highest = None }
      ∷ record { setting = controlled 9; status = status9; queued = record { 0 = queued9 }; highest = highest9 }
      ∷ record { setting = controlled 5; status = 15; queued = record { 0 = queued5 }; highest = highest5 } ∷ [];
  instance = instance;
  context = context;
}

abbrev pub at : ℕ → Option FlowSequence
at word = Some (record { 0 = word })

-- Link Instance 258 of two bytes, Context AB
abbrev pub link : Option (LinkInstanceId × ℕ)
link = Some (record { 0 = 258 }, 2)

abbrev pub ab : Option (ContextBytes × ℕ)
ab = Some (record { 0 = 171 }, 1)

-- THE STATE: 40 bytes are queued on 0, 2,000 on 5; 9 has heard 4294967000, and 5 nothing
abbrev pub three : State
three = standing link ab 40 0 0 (at 4294967000) 2000 None

-- the state with another highest and other bytes queued, of 9
abbrev pub nine : (highest : ℕ) (queued : ℕ) → State
nine highest queued = standing link ab 40 0 queued (at highest) 2000 None

-- ---- the messages, 41 bytes where 9 alone has heard: options by kind, and each kind by rising Channel ID
abbrev pub zeros : ℕ → List ℕ
zeros n = replicate n 0

abbrev pub statuses : (status9 : ℕ) → List ℕ → List ℕ
statuses status9 rest = 5 ∷ 0 ∷ 2 ∷ 0 ∷ 3 ∷ 5 ∷ 0 ∷ 2 ∷ 5 ∷ 15 ∷ 5 ∷ 0 ∷ 2 ∷ 9 ∷ status9 ∷ rest

-- Flow Windows: 5 without the field, 9 with it
abbrev pub windows : (a b c d : ℕ) → List ℕ → List ℕ
windows a b c d rest = 6 ∷ 0 ∷ 1 ∷ 5 ∷ 6 ∷ 0 ∷ 5 ∷ 9 ∷ a ∷ b ∷ c ∷ d ∷ rest

abbrev pub message : (status9 a b c d : ℕ) → List ℕ → List ℕ
message status9 a b c d rest = 16 ∷ 1 ∷ 0 ∷ 1 ∷ 7 ∷ 3 ∷ 0 ∷ 2 ∷ 1 ∷ 2 ∷ 4 ∷ 0 ∷ 1 ∷ 171 ∷ statuses status9 (windows a b c d rest)

-- ---- a call, and what it comes to
pub record CallRow : Type 0 where
  pub comes : After
  pub is : After

abbrev pub answers : (bytes : ℕ) → State → (message : List ℕ) → After
answers bytes s message = record { answer = Ok (Answer.Answered (record { 0 = bytes })); state = s; output = message }

abbrev pub unasked : (bytes : ℕ) → State → (message : List ℕ) → After
unasked bytes s message = record { answer = Ok (Answer.Unasked (record { 0 = bytes })); state = s; output = message }

abbrev pub quiet : State → (room : ℕ) → After
quiet s room = record { answer = Ok Answer.Quiet; state = s; output = zeros room }

abbrev pub refused : (number place room : ℕ) → After
refused number place room = record { answer = Err (record { number = number; place = place }); state = three; output = zeros room }

-- an IPS control message with a Flow Sequence of a channel; a data message with a packet of three bytes
abbrev pub query : (id a b c d : ℕ) → List ℕ
query id a b c d = 16 ∷ 1 ∷ 0 ∷ 1 ∷ 7 ∷ 134 ∷ 0 ∷ 5 ∷ id ∷ a ∷ b ∷ c ∷ d ∷ []

abbrev pub packet : (channel : List ℕ) → List ℕ
packet channel = 24 ∷ 1 ∷ 0 ∷ 1 ∷ 7 ∷ (channel ++ (128 ∷ 0 ∷ 3 ∷ 1 ∷ 2 ∷ 3 ∷ []))

-- heard with an output of 60 zeros
abbrev pub hears : (datagram : List ℕ) → After → CallRow
hears datagram after = record { comes = heard three datagram (zeros 60); is = after }

abbrev pub heard_rows : List CallRow
heard_rows =
    -- a query that names no channel is answered; 1204 is over the wrap
    hears (16 ∷ 1 ∷ 0 ∷ 1 ∷ 7 ∷ []) (answers 41 three (message 0 0 0 4 180 (zeros 19)))
    -- 100 is ahead of 4294967000: the window is 1600, from after hearing; 4294966999 is behind
    ∷ hears (query 9 0 0 0 100) (answers 41 (nine 100 0) (message 0 0 0 6 64 (zeros 19)))
    ∷ hears (query 9 255 255 254 215) (answers 41 three (message 0 0 0 4 180 (zeros 19)))
    -- 2^31 ahead is behind, 2^31 - 1 is not
    ∷ hears (query 9 127 255 254 216) (answers 41 three (message 0 0 0 4 180 (zeros 19)))
    ∷ hears (query 9 127 255 254 215) (answers 41 (nine 2147483351 0) (message 0 128 0 4 179 (zeros 19)))
    -- the first of channel 5, on which more is queued than 1,500: its window is the sequence; a plain channel's is passed over
    ∷ hears (query 5 0 0 0 50) (answers 45 (standing link ab 40 0 0 (at 4294967000) 2000 (at 50)) (16 ∷ 1 ∷ 0 ∷ 1 ∷ 7 ∷ 3 ∷ 0 ∷ 2 ∷ 1 ∷ 2 ∷ 4 ∷ 0 ∷ 1 ∷ 171 ∷ statuses 0 (6 ∷ 0 ∷ 5 ∷ 5 ∷ 0 ∷ 0 ∷ 0 ∷ 50 ∷ 6 ∷ 0 ∷ 5 ∷ 9 ∷ 0 ∷ 0 ∷ 4 ∷ 180 ∷ zeros 15)))
    ∷ hears (query 0 0 0 0 50) (answers 41 three (message 0 0 0 4 180 (zeros 19)))
    -- 12 of a Flow Sequence and of a Channel Identifier; 11 before it, at the datagram's length; 2
    ∷ hears (query 4 0 0 0 50) (refused 12 0 60)
    ∷ hears (packet (129 ∷ 0 ∷ 1 ∷ 4 ∷ [])) (refused 12 0 60)
    ∷ hears (16 ∷ 1 ∷ 0 ∷ 1 ∷ 8 ∷ 134 ∷ 0 ∷ 5 ∷ 4 ∷ 0 ∷ 0 ∷ 0 ∷ 50 ∷ []) (refused 11 13 60)
    ∷ hears [] (refused 2 0 60)
    -- 18: no sequence is kept, and no packet queued
    ∷ record { comes = heard three (query 9 0 0 0 100) (zeros 40); is = refused 18 0 40 }
    ∷ record { comes = heard three (packet (129 ∷ 0 ∷ 1 ∷ 9 ∷ [])) (zeros 40); is = refused 18 0 40 }
    -- a packet moves the window down, with its sequence it leaves it; without a Channel Identifier it is on channel 0
    ∷ hears (packet (129 ∷ 0 ∷ 1 ∷ 9 ∷ [])) (unasked 41 (nine 4294967000 3) (message 0 0 0 4 177 (zeros 19)))
    ∷ hears (packet (134 ∷ 0 ∷ 5 ∷ 9 ∷ 255 ∷ 255 ∷ 254 ∷ 219 ∷ 129 ∷ 0 ∷ 1 ∷ 9 ∷ [])) (quiet (nine 4294967003 3) 60)
    ∷ hears (packet []) (quiet (standing link ab 43 0 0 (at 4294967000) 2000 None) 60)
    ∷ []

abbrev pub told_rows : List CallRow
told_rows =
    -- a status: another is told, an equal one is not; 12, 20, 18
    record { comes = status_told three 9 7 (zeros 60); is = unasked 41 (standing link ab 40 7 0 (at 4294967000) 2000 None) (message 7 0 0 4 180 (zeros 19)) }
    ∷ record { comes = status_told three 9 0 (zeros 40); is = quiet three 40 }
    ∷ record { comes = status_told three 4 16 (zeros 40); is = refused 12 0 40 }
    ∷ record { comes = status_told three 9 16 (zeros 40); is = refused 20 0 40 }
    ∷ record { comes = status_told three 9 15 (zeros 40); is = refused 18 0 40 }
    -- bytes queued: set, and not added; at the sum and above it the window is the highest; kept without a message where no window depends on them
    ∷ record { comes = queued_told three 9 (record { 0 = 1499 }) (zeros 60); is = unasked 41 (nine 4294967000 1499) (message 0 255 255 254 217 (zeros 19)) }
    ∷ record { comes = queued_told three 9 (record { 0 = 1500 }) (zeros 60); is = unasked 41 (nine 4294967000 1500) (message 0 255 255 254 216 (zeros 19)) }
    ∷ record { comes = queued_told three 9 (record { 0 = 18446744073709551615 }) (zeros 60); is = unasked 41 (nine 4294967000 18446744073709551615) (message 0 255 255 254 216 (zeros 19)) }
    ∷ record { comes = queued_told three 5 (record { 0 = 7 }) (zeros 40); is = quiet (standing link ab 40 0 0 (at 4294967000) 7 None) 40 }
    ∷ record { comes = queued_told three 0 (record { 0 = 7 }) (zeros 40); is = quiet (standing link ab 7 0 0 (at 4294967000) 2000 None) 40 }
    -- the Context: an equal one, the same number as two bytes, none; 20
    ∷ record { comes = context_told three ab (zeros 40); is = quiet three 40 }
    ∷ record { comes = context_told three (Some (record { 0 = 171 }, 2)) (zeros 60); is = unasked 42 (standing link (Some (record { 0 = 171 }, 2)) 40 0 0 (at 4294967000) 2000 None) (16 ∷ 1 ∷ 0 ∷ 1 ∷ 7 ∷ 3 ∷ 0 ∷ 2 ∷ 1 ∷ 2 ∷ 4 ∷ 0 ∷ 2 ∷ 0 ∷ 171 ∷ statuses 0 (windows 0 0 4 180 (zeros 18))) }
    ∷ record { comes = context_told three None (zeros 60); is = unasked 37 (standing link None 40 0 0 (at 4294967000) 2000 None) (16 ∷ 1 ∷ 0 ∷ 1 ∷ 7 ∷ 3 ∷ 0 ∷ 2 ∷ 1 ∷ 2 ∷ statuses 0 (windows 0 0 4 180 (zeros 23))) }
    ∷ record { comes = context_told three (Some (record { 0 = 256 }, 1)) (zeros 40); is = refused 20 0 40 }
    -- the Link Instance is kept without a message; 20
    ∷ record { comes = link_told three (Some (record { 0 = 9 }, 1)) []; is = quiet (standing (Some (record { 0 = 9 }, 1)) ab 40 0 0 (at 4294967000) 2000 None) 0 }
    ∷ record { comes = link_told three (Some (record { 0 = 9 }, 9)) []; is = refused 20 0 0 }
    -- the message as it stands
    ∷ record { comes = told three (zeros 60); is = answers 41 three (message 0 0 0 4 180 (zeros 19)) }
    ∷ record { comes = told three (zeros 41); is = answers 41 three (message 0 0 0 4 180 []) }
    ∷ record { comes = told three (zeros 40); is = refused 18 0 40 }
    ∷ []

-- every row is so
abbrev pub Comes : List CallRow → Type 0
Comes [] = Unit {0}
Comes (r ∷ rs) = (r.comes ≡ r.is) × Comes rs
