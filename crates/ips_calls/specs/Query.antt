-- Document 01, "A channel's life": "Query: the IPS control message with a Flow Sequence for each flow-controlled channel; changes nothing. Refusals 19, then 18."
use Rattle.quantity.specs.declared.count.FlowSequence.{FlowSequence}
use Rattle.quantity.specs.declared.count.ByteCount.{ByteCount}
use Rattle.quantity.specs.declared.refusal.Refusal.{Refusal}
use Rattle.std.specs.Prelude.{ℕ, true, cond, List, length, get_or, Option, Result, Err, None}
use Rattle.quantity.specs.Limits.{Limits, CURRENT-LIMITS}
use Rattle.quantity.specs.Refusals.{OUTSIDE-LIMITS}
use Rattle.writer.specs.Written.{control_written, answer_to, out_after}
use Rattle.ips_state.specs.State.{State}
use Rattle.ips_state.specs.Limits.{state_fits_under}
use Rattle.ips_query.specs.Query.{query_of}

abbrev pub query_bytes : State → List ℕ
query_bytes s = control_written (query_of s)

abbrev pub query_answer_under : Limits → State → List ℕ → Result ByteCount Refusal
query_answer_under limits s out =
    cond (state_fits_under limits s) (answer_to true (query_bytes s) (length out)) (Err (record { number = OUTSIDE-LIMITS; place = 0 }))

abbrev pub query_out_under : Limits → State → List ℕ → List ℕ
query_out_under limits s out = cond (state_fits_under limits s) (out_after true (query_bytes s) out) out

abbrev pub query_answer : State → List ℕ → Result ByteCount Refusal
query_answer s out = query_answer_under CURRENT-LIMITS s out

abbrev pub query_out : State → List ℕ → List ℕ
query_out s out = query_out_under CURRENT-LIMITS s out

-- the Flow Sequence that the query of a state states for a Channel ID
abbrev pub stated_for : State → ℕ → Option FlowSequence
stated_for s id = (get_or (query_of s).sequences id None)
