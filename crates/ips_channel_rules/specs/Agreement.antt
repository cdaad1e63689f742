-- When a channel that counts in words and keeps only what waits stands where the simple channel stands.
use Rattle.std.specs.Prelude.{ℕ, ◌≡◌, ℤ}
use Rattle.quantity.specs.declared.count.FlowWindow.{FlowWindow}
use Rattle.quantity.specs.Window.{Stands, sequence_at}
use Rattle.flow.specs.declared.Flow.{Flow}
use Rattle.ips_channel_rules.specs.Rules.{Condition}
use Rattle.ips_channel_rules.specs.Machine.{machine}
use Rattle.ips_channel_rules.specs.Simple.{simple, Limit, free, none, up_to, is_waiting, having}

-- both are free, both have no window, or the window stands for the number, seen from the count as it is now
pub data SameFlow (count : ℕ) : Flow → Limit → Type 0 where
  both_free : SameFlow count Flow.Free free
  both_none : SameFlow count Flow.NoWindow none
  both_in_force : {window : FlowWindow} {number : ℤ} → Stands count window number → SameFlow count (Flow.InForce window) (up_to number)

pub record Agrees (c : Condition machine) (s : Condition simple) : Type 0 where
  pub sequence : c.counting.sequence ≡ sequence_at s.counting.count
  pub flow : SameFlow s.counting.count c.counting.flow s.counting.limit
  pub waiting : c.keeping ≡ having is_waiting s.keeping
  pub status : c.status ≡ s.status
  pub latest : c.latest ≡ s.latest
