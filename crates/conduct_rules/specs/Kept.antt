-- What is kept of a channel, as words of 64 bits.
use Rattle.quantity.specs.declared.count.FlowSequence.{FlowSequence}
use Rattle.std.specs.Prelude.{ℕ, ◌+◌, ◌-◌, ◌%◌, ◌^◌, Bool, cond, ◌==◌, Option, Some, None}
use Rattle.meaning.specs.declared.message.Window.{Window}
use Rattle.conduct_rules.specs.declared.Flow.{Flow}

-- ---- a flow: 0, 1, 2 for none seen, free and no window, and from 3 on the window
abbrev pub flow_word : Option Window → ℕ
flow_word None = 1
flow_word (Some Window.Empty) = 2
flow_word (Some (Window.Given window)) = 3 + window.0

unfoldable pub flow_in : ℕ → Flow
flow_in number = cond (number == 0) Flow.Unseen (cond (number == 1) Flow.Free (cond (number == 2) Flow.NoWindow (Flow.InForce (record { 0 = (number - 3) % 2 ^ 32 }))))

-- ---- a base: 0 for none, from 1 on the sequence; a message without one leaves it
abbrev pub base_after : ℕ → Option FlowSequence → ℕ
base_after number None = number
base_after number (Some sequence) = 1 + sequence.0

unfoldable pub base_in : ℕ → Option FlowSequence
base_in number = cond (number == 0) None (Some (record { 0 = (number - 1) % 2 ^ 32 }))

-- ---- a breach: 0 for none, else the record of "the first message that didn't"; it stands, whatever follows
abbrev pub breach_after : (breach number : ℕ) (obeyed : Bool) → ℕ
breach_after breach number obeyed = cond (breach == 0) (cond obeyed 0 number) breach
