-- Demand 3, as a caller sees it: "Every packet taken in is, at each moment, exactly one of sent, expired, withdrawn or waiting, and those sent on a channel leave in
-- the order they came." What was taken in and what was sent is read out of the run's replies and outputs.
use Rattle.quantity.specs.declared.refusal.Refusal.{Refusal}
use Rattle.std.specs.Prelude.{ℕ, cond, List, [], ◌∷◌, ◌++◌, take, eqb, Result, Ok, Err}
use Rattle.reader.specs.Readings.{packet_of}
use Rattle.store.specs.Packets.{Packet}
use Rattle.ips_channel_rules.specs.Rules.{ChannelCall, offer, next, withdraw}
use Rattle.ips_channel_calls.specs.declared.asking.NextAnswer.{NextAnswer}
use Rattle.ips_channel_calls.specs.Calls.{Reply, offered, asked, withdrawn}
use Rattle.ips_run.specs.Run.{Call, on, radio, pace, query}
use Rattle.ips_calls.specs.Replies.{EndpointReply, of_channel, of_radio, of_pace, of_query}

-- ---- of one call on a channel

-- the packet of an Offer that answered that it was taken
abbrev pub if_taken : Result (Unit {0}) Refusal → Packet → List Packet
if_taken (Ok tt) packet = packet ∷ []
if_taken (Err refusal) packet = []

abbrev pub taken_from : ChannelCall → Reply → List Packet
taken_from (offer packet time) (offered answer) = if_taken answer packet
taken_from (offer packet time) (asked answer out) = []
taken_from (offer packet time) (withdrawn answer) = []
taken_from (next time out) x = []
taken_from withdraw x = []

-- the packet that a reader finds in as many first bytes of the output as Next answered
abbrev pub if_sent : Result NextAnswer Refusal → List ℕ → List (List ℕ)
if_sent (Ok (NextAnswer.Sent count)) out = packet_of (take count.0 out) ∷ []
if_sent (Ok NextAnswer.NothingWaiting) out = []
if_sent (Ok NextAnswer.NotOperational) out = []
if_sent (Ok NextAnswer.WindowShut) out = []
if_sent (Err refusal) out = []

abbrev pub sent_from : ChannelCall → Reply → List (List ℕ)
sent_from c (offered answer) = []
sent_from c (asked answer out) = if_sent answer out
sent_from c (withdrawn answer) = []

-- ---- of any calls, those on the channel of an ID
abbrev pub of_own : {A : Type 0} → (ChannelCall → Reply → List A) → (own : ℕ) → Call → EndpointReply → List A
of_own from own (on id c) (of_channel x) = cond (eqb own id) (from c x) []
of_own from own (on id c) (of_radio answer) = []
of_own from own (on id c) (of_pace answer) = []
of_own from own (on id c) (of_query answer out) = []
of_own from own (radio time datagram) x = []
of_own from own (pace time) x = []
of_own from own (query out) x = []

abbrev pub of_all_own : {A : Type 0} → (ChannelCall → Reply → List A) → (own : ℕ) → List Call → List EndpointReply → List A
of_all_own from own [] xs = []
of_all_own from own (c ∷ cs) [] = []
of_all_own from own (c ∷ cs) (x ∷ xs) = of_own from own c x ++ of_all_own from own cs xs

-- the packets taken in on the channel of an ID, and those that Next's outputs carry, each in the order of the calls
abbrev pub packets_taken : ℕ → List Call → List EndpointReply → List Packet
packets_taken = of_all_own taken_from

abbrev pub packets_sent : ℕ → List Call → List EndpointReply → List (List ℕ)
packets_sent = of_all_own sent_from
