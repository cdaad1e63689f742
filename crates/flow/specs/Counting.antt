-- Document 01, "Counting", as the code counts: in words of 32 bits.
use Rattle.std.specs.Prelude.{Bool, true, false, cond, Option, Some, None}
use Rattle.quantity.specs.declared.count.FlowSequence.{FlowSequence}
use Rattle.quantity.specs.declared.count.ByteCount.{ByteCount}
use Rattle.quantity.specs.Distance.{fits_of, advance_of}
use Rattle.meaning.specs.declared.message.Window.{Window}
use Rattle.flow.specs.declared.Flow.{Flow}

-- "if .. the channel is free or the packet fits the window"
abbrev pub may_go : Flow → FlowSequence → ByteCount → Bool
may_go Flow.Free sequence bytes = true
may_go Flow.NoWindow sequence bytes = false
may_go (Flow.InForce window) sequence bytes = fits_of sequence window bytes

-- "Sending under a window adds n to the sequence modulo 2^32 .. A free channel's sequence stands still."
abbrev pub sequence_on : Flow → FlowSequence → ByteCount → FlowSequence
sequence_on Flow.Free sequence bytes = sequence
sequence_on Flow.NoWindow sequence bytes = sequence
sequence_on (Flow.InForce window) sequence bytes = advance_of sequence bytes

-- ".. and the message carries the sum": "Flow Sequence if a window is in force"
abbrev pub carried_by : Flow → FlowSequence → Option FlowSequence
carried_by Flow.Free sequence = None
carried_by Flow.NoWindow sequence = None
carried_by (Flow.InForce window) sequence = Some sequence

-- "no Flow Window option makes it free; one without a window leaves it with no window; one with a window puts that in force, smaller than before or not"
abbrev pub flow_after : Option Window → Flow
flow_after None = Flow.Free
flow_after (Some Window.Empty) = Flow.NoWindow
flow_after (Some (Window.Given window)) = Flow.InForce window

-- "Plain channels are always free. Fresh flow-controlled channels have no window."
abbrev pub first_flow : Bool → Flow
first_flow controlled = cond controlled Flow.NoWindow Flow.Free
