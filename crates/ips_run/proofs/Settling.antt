-- Which call gave which fate, for each channel of the whole endpoint, after any calls from a fresh start. Assumes nothing.
use Prim.Native.Nat.{ℕ, ◌^◌, ◌<◌}
use mathlib.Core.Bool.{true}
use mathlib.Core.List.{List, [], ◌∷◌, ◌++◌}
use mathlib.Core.Path.{◌≡◌, ap, ◌∙◌}
use lib.ListN.{length}
use Rattle.ips_channel_rules.specs.Rules.{Event, Terms, Condition, history, final}
use Rattle.ips_channel_rules.specs.Simple.{simple}
use Rattle.ips_channel_rules.proofs.Leaves.{final_append}
use Rattle.ips_channel_rules.proofs.Fates.{settled_by}
use Rattle.ips_channel_rules.proofs.Agree.{agrees_history, same_end_lem}
use Rattle.ips_state.specs.State.{Configuration, start_at}
use Rattle.ips_state.specs.Limits.{configuration_taken}
use Rattle.ips_run.specs.Run.{Call, fresh_world}
use Rattle.ips_run.specs.Demand.{BytesIn, id_at, reached, ruled, seen, seen_since, happened_since, fresh_at, simply_at}
use Rattle.ips_run.specs.Settling.{ledger_at, SettledAll, nothing, first}
use Rattle.ips_run.proofs.Project.{all_follow}
use Rattle.ips_run.proofs.Fresh.{fresh_in}
use Rattle.ips_run.proofs.Whole.{sees_append}

-- the simple channel, on any events
settled_all : (k : Terms) (es : List Event) (st : Condition simple) → SettledAll (history simple k es st) st.keeping (final simple k es st).keeping
settled_all k [] st = nothing
settled_all k (e ∷ es) st = first (settled_by k e st) (settled_all k es _)

module _ (k : Configuration) (fits : configuration_taken k ≡ true) (index : ℕ) (inside : index < length k.starts)
    (small : (start_at k index).first.0 < 2 ^ 32) where
  ledger_on : (cs ds : List Call) → ledger_at k index (cs ++ ds) ≡ (final simple (ruled k index) (seen_since k index cs ds) (final simple (ruled k index) (seen k index cs) (simply_at k index))).keeping
  ledger_on cs ds =
      ap (λ (es : List Event). (final simple (ruled k index) es (simply_at k index)).keeping) (sees_append (id_at k index) cs ds (fresh_world k))
      ∙ ap (λ (st : Condition simple). st.keeping) (final_append simple (ruled k index) (seen k index cs) (seen_since k index cs ds) (simply_at k index))

  -- of calls `ds` after calls `cs`, each, by the answer that it gave, settled what lies between the ledgers; with no calls `cs` it is the whole ledger
  pub whole_settled : (cs ds : List Call) → BytesIn cs → BytesIn ds
      → SettledAll (happened_since k index cs ds) (ledger_at k index cs) (ledger_at k index (cs ++ ds))
  whole_settled cs ds bytes more =
      let before = all_follow (ruled k index) (length k.starts) index inside cs bytes (fresh_world k) (fresh_at k index) (fresh_in k fits index inside) in
      let answered = (all_follow (ruled k index) (length k.starts) index inside ds more (reached k cs) _ before.ruled_in).history_is in
      let alike = agrees_history (ruled k index) (seen_since k index cs ds) _ _ (same_end_lem (ruled k index) (start_at k index).first small (seen k index cs)) in
      rw (answered ∙ alike, ledger_on cs ds)
      (settled_all (ruled k index) (seen_since k index cs ds) (final simple (ruled k index) (seen k index cs) (simply_at k index)))
