-- The account of the code's own channel after any events. Assumes nothing.
use Prim.Native.Nat.{◌^◌, ◌<◌}
use mathlib.Core.List.{List, [], ◌∷◌, ◌++◌}
use mathlib.Core.Path.{◌≡◌, refl, sym}
use Rattle.quantity.specs.declared.count.FlowSequence.{FlowSequence}
use Rattle.ips_channel_rules.specs.Rules.{Event, Terms, happens, history, final}
use Rattle.ips_channel_rules.specs.Machine.{machine, fresh_machine}
use Rattle.ips_channel_rules.specs.Simple.{simple, fresh_simple}
use Rattle.ips_channel_rules.specs.Fates.{Settles}
use Rattle.ips_channel_rules.specs.Account.{taken_in, handed_over, Account, Later}
use Rattle.ips_channel_rules.proofs.Agree.{agrees_happens, same_history, same_end_lem}
use Rattle.ips_channel_rules.proofs.Ledger.{ledger_is_taken, ledger_is_sent, fair_always}
use Rattle.ips_channel_rules.proofs.Fates.{settled_by, fates_stay}
use Rattle.ips_channel_rules.proofs.Leaves.{final_append}

module _ (k : Terms) (first : FlowSequence) (small : first.0 < 2 ^ 32) (es : List Event) where
  -- "Every packet taken in is, at each moment, exactly one of sent, expired, withdrawn or waiting, and those sent on a channel leave in the order they came."
  pub account : Account (taken_in (history machine k es (fresh_machine k.controlled first)))
      (handed_over (history machine k es (fresh_machine k.controlled first)))
      (final machine k es (fresh_machine k.controlled first)).keeping
      (final machine k es (fresh_machine k.controlled first)).latest
  account =
      let start = fresh_simple k.controlled first in
      let said = same_history k first small es in
      let where-it-ends = same_end_lem k first small es in
      record {
        ledger = (final simple k es start).keeping;
        of_taken = rw said (ledger_is_taken k es start);
        of_sent = rw said (ledger_is_sent k es start tt);
        of_waiting = sym where-it-ends.waiting;
        of_time = rw where-it-ends.latest (fair_always k es start tt);
      }

-- its ledger is the simple channel's
pub account_ledger : (k : Terms) (first : FlowSequence) (small : first.0 < 2 ^ 32) (es : List Event)
    → (account k first small es).ledger ≡ (final simple k es (fresh_simple k.controlled first)).keeping
unfolding account
account_ledger k first small es = refl

-- a packet that has its fate keeps it, and none leaves the ledger, whatever comes next
pub account_later : (k : Terms) (first : FlowSequence) (small : first.0 < 2 ^ 32) (es fs : List Event)
    → Later (account k first small es).ledger (account k first small (es ++ fs)).ledger
unfolding account
account_later k first small es fs = rw (final_append simple k es fs (fresh_simple k.controlled first)) (fates_stay k fs _)

-- of any two successive ledgers, the later is what the event between them settles, by the code's own answers
pub account_settled : (k : Terms) (first : FlowSequence) (small : first.0 < 2 ^ 32) (es : List Event) (e : Event)
    → Settles (happens machine k e (final machine k es (fresh_machine k.controlled first))) (account k first small es).ledger (account k first small (es ++ (e ∷ []))).ledger
unfolding account
account_settled k first small es e =
    let start = fresh_simple k.controlled first in
    rw (agrees_happens k e _ _ (same_end_lem k first small es), final_append simple k es (e ∷ []) start) (settled_by k e (final simple k es start))
