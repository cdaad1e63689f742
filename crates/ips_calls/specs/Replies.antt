-- What the caller sees of a call: its answer, and the bytes of the output after it.
use Rattle.quantity.specs.declared.count.ByteCount.{ByteCount}
use Rattle.quantity.specs.declared.refusal.Refusal.{Refusal}
use Rattle.std.specs.Prelude.{ℕ, List, [], ◌∷◌, take, Result, Ok, Err}
use Rattle.quantity.specs.Limits.{Limits, CURRENT-LIMITS}
use Rattle.ips_channel_calls.specs.declared.asking.NextAnswer.{NextAnswer}
use Rattle.ips_channel_calls.specs.Calls.{Reply, offered, asked, withdrawn, reply_to}
use Rattle.ips_state.specs.Memory.{World, index_in}
use Rattle.ips_radio.specs.declared.RadioAnswer.{RadioAnswer}
use Rattle.ips_run.specs.Calling.{terms_in_under, calling_under}
use Rattle.pacer.specs.declared.PaceAnswer.{PaceAnswer}
use Rattle.ips_run.specs.Run.{Call, on, radio, pace, query}
use Rattle.ips_calls.specs.Radio.{handed_in_under}
use Rattle.ips_calls.specs.Pace.{pace_answer_under}
use Rattle.ips_calls.specs.Query.{query_answer_under, query_out_under}

pub data EndpointReply : Type 0 where
  of_channel : Reply → EndpointReply
  of_radio : Result RadioAnswer Refusal → EndpointReply
  of_pace : Result PaceAnswer Refusal → EndpointReply
  of_query : Result ByteCount Refusal → (out : List ℕ) → EndpointReply

abbrev pub reply_under : Limits → Call → World → EndpointReply
reply_under limits (on id c) w = of_channel (reply_to (terms_in_under limits.packet w (index_in w id)) c (calling_under limits id c w).answer)
reply_under limits (radio time datagram) w = of_radio (handed_in_under limits time w.state datagram).answer
reply_under limits (pace time) w = of_pace (pace_answer_under limits time w.state)
reply_under limits (query out) w = of_query (query_answer_under limits w.state out) (query_out_under limits w.state out)

abbrev pub reply_of : Call → World → EndpointReply
reply_of c w = reply_under CURRENT-LIMITS c w

-- ---- which datagrams a reply hands over: of Next, and of a query, as many first bytes of the output as it answered
abbrev pub if_sent : Result NextAnswer Refusal → (out : List ℕ) → List (List ℕ)
if_sent (Ok (NextAnswer.Sent count)) out = take count.0 out ∷ []
if_sent (Ok NextAnswer.NothingWaiting) out = []
if_sent (Ok NextAnswer.NotOperational) out = []
if_sent (Ok NextAnswer.WindowShut) out = []
if_sent (Err refusal) out = []

abbrev pub of_reply : Reply → List (List ℕ)
of_reply (offered answer) = []
of_reply (asked answer out) = if_sent answer out
of_reply (withdrawn answer) = []

abbrev pub if_wrote : Result ByteCount Refusal → (out : List ℕ) → List (List ℕ)
if_wrote (Ok count) out = take count.0 out ∷ []
if_wrote (Err refusal) out = []

abbrev pub handed_out : EndpointReply → List (List ℕ)
handed_out (of_channel x) = of_reply x
handed_out (of_radio answer) = []
handed_out (of_pace answer) = []
handed_out (of_query answer out) = if_wrote answer out
