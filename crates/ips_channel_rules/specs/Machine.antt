-- The parts of a channel as the code has them: it counts in words of 32 bits, and keeps only the packets that wait.
use Rattle.std.specs.Prelude.{Bool, None}
use mathlib.Core.List.{List, [], ◌∷◌, ◌++◌, tail}
use Rattle.quantity.specs.declared.count.FlowSequence.{FlowSequence}
use Rattle.store.specs.Packets.{Packet, alive, is_full}
use Rattle.flow.specs.declared.Flow.{Flow}
use Rattle.flow.specs.Counting.{may_go, sequence_on, carried_by, flow_after, first_flow}
use Rattle.ips_channel_rules.specs.Rules.{ChannelParts, Condition, longest_on}

pub record WordCounter : Type 0 where
  pub flow : Flow
  pub sequence : FlowSequence

abbrev pub machine : ChannelParts
machine =
    record {
      Counting = WordCounter;
      Keeping = List Packet;
      fits = λ x bytes. may_go x.flow x.sequence bytes;
      grow = λ bytes x. record { flow = x.flow; sequence = sequence_on x.flow x.sequence bytes };
      carried = λ x. carried_by x.flow x.sequence;
      hear = λ window x. record { flow = flow_after window; sequence = x.sequence };
      waiting = λ ps. ps;
      expire = alive;
      join = λ p ps. ps ++ (p ∷ []);
      send = tail;
      clear = λ ps. [];
      longest = longest_on;
      full = λ k ps p. is_full k.size ps p;
    }

abbrev pub fresh_machine : Bool → FlowSequence → Condition machine
fresh_machine controlled first = record { counting = record { flow = first_flow controlled; sequence = first }; keeping = []; status = None; latest = 0 }
