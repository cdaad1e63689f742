-- Document 01, "A channel's life": a fresh channel, written out.
use Rattle.std.specs.Prelude.{replicate, None}
use Rattle.quantity.specs.declared.count.FlowSequence.{FlowSequence}
use Rattle.flow.specs.declared.Flow.{Flow}
use Rattle.ips_channel.specs.declared.state.Setting.{Setting}
use Rattle.ips_channel.specs.declared.state.Channel.{Channel}

-- "A channel has a status (fresh: not reported)"; "with a first Flow Sequence value"; "Latest time is each channel's own: 0 when fresh"; nothing waits, and each of
-- the 32 places is zeros
abbrev pub fresh_with : Flow → Setting → FlowSequence → Channel
fresh_with flow setting first = record {
  setting = setting;
  status = None;
  flow = flow;
  sequence = first;
  latest = 0;
  queue = record { entries = replicate 32 (record { length = record { 0 = 0 }; expiry = 0 }); count = 0 };
}
