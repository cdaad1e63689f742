-- Our own endpoint passes: of any run of it (demand 3), what it handed over and the radio messages it accepted, recorded in that order and judged under its Datalink ID, passes on every
-- flow-controlled channel. Assumes nothing.
use Rattle.std.specs.Prelude.{None, Ok}
use mathlib.Core.Path.{◌≡◌, refl, ap}
use mathlib.Core.Bool.{true}
use mathlib.Core.List.{List}
use Prim.Native.Nat.{ℕ, ◌^◌, ◌≤◌, ◌<◌}
use lib.ListN.{length, replicate}
use Rattle.quantity.specs.Limits.{CHANNEL-IDS}
use Rattle.records.specs.Files.{Report}
use Rattle.ethernet.specs.declared.Ports.{Ports}
use Rattle.ips_channel_rules.specs.Rules.{Terms}
use Rattle.ips_state.specs.State.{Configuration, start_at}
use Rattle.ips_state.specs.Limits.{configuration_taken}
use Rattle.ips_state.specs.Memory.{World}
use Rattle.ips_run.specs.Run.{Call, fresh_world}
use Rattle.ips_run.specs.Demand.{BytesIn, id_at, ruled, fresh_at}
use Rattle.ips_run.proofs.Fresh.{fresh_in}
use Rattle.ips_run.proofs.Serving.{fitting_here}
use Rattle.ips_calls.specs.Replies.{EndpointReply}
use Rattle.ips_calls.specs.Ran.{Ran}
use Rattle.ips_calls.proofs.Ran.{ran_replies}
use Rattle.ips_words_start.specs.Start.{configuration_in, StartedIn}
use Rattle.ips_words_start.proofs.Exactly.{started_leaves}
use Rattle.ips_words_start.proofs.FreshWords.{configuration_small}
use Rattle.endpoint.specs.Lent.{Lent, lent}
use Rattle.endpoint.specs.Ran.{RanIn}
use Rattle.endpoint.proofs.Simulating.{ran_in}
use Rattle.endpoint.proofs.Whole.{started_in}
use Rattle.conduct_rules.specs.declared.Flow.{Flow}
use Rattle.conduct.specs.declared.verdict.Finding.{Finding}
use Rattle.conduct.specs.Account.{Says}
use Rattle.conduct.specs.Words.{WORDS, finding_of, judged_all}
use Rattle.conduct.proofs.Whole.{finding_exactly}
use Rattle.own_conduct.specs.Captured.{passed_in, Captured}
use Rattle.own_conduct.proofs.Channel.{Agrees, shut, first}
use Rattle.own_conduct.proofs.Obeying.{captured_obeys, captured_clear}
use Rattle.own_conduct.proofs.Runs.{run_obeys}

module _ (k : Configuration) (fits : configuration_taken k ≡ true) (index : ℕ) (inside : index < length k.starts) (controlled : (start_at k index).setting.controlled ≡ true)
    (small : (start_at k index).first.0 < 2 ^ 32) where
  -- before any radio control message, as a fresh channel is: "Fresh flow-controlled channels have no window."
  fresh_agrees : Agrees Flow.Unseen None (fresh_at k index).counting
  fresh_agrees = rw controlled (record { of_flow = shut; of_base = first; small = small })

  -- it is one of the judge's channels: 255 is reserved
  known : id_at k index < CHANNEL-IDS
  known =
      let ruled_in = fresh_in k fits index inside in
      rw (← (ap (λ (x : Terms). x.id) ruled_in.as_ruled.terms)) (fitting_here (length k.starts) (fresh_world k) ruled_in.order index inside).unreserved

  module _ (cs : List Call) (bytes : BytesIn cs) {xs : List EndpointReply} {last : World} (ran : Ran (fresh_world k) cs xs last) (ports : Ports) (reports : List Report)
      (captured : Captured ports k.datalink.id (passed_in cs xs) reports) where
    -- whatever is called from a fresh start, and however it is captured, the channel passes
    pub own_passes : Says ports k.datalink.id reports (id_at k index) Finding.Passes
    own_passes = (
      λ u. captured_clear ports k.datalink.id u captured,
      captured_obeys (id_at k index) ports k.datalink.id (rw (ran_replies ran) at captured) 1 Flow.Unseen None
          (run_obeys (ruled k index) (length k.starts) index inside controlled cs bytes (fresh_world k) (fresh_at k index) (fresh_in k fits index inside) Flow.Unseen None fresh_agrees),
    )

    -- and so it is found
    pub own_found : (n : ℕ) → WORDS ≤ n → finding_of (judged_all ports k.datalink.id 1 reports (replicate n 0)) (id_at k index) ≡ Finding.Passes
    own_found n room = (finding_exactly ports k.datalink.id reports (id_at k index) n known room Finding.Passes).1 own_passes

-- ---- the same of the code's own outcomes on lent words, with nothing asked of configuration, words and memory

module _ {configuration words memory words' memory' : List ℕ} (starts : StartedIn configuration words memory (Ok tt) words' memory') where
  abbrev own : Configuration
  own = configuration_in configuration

  pub own_passes_in : (index : ℕ) → index < length own.starts → (start_at own index).setting.controlled ≡ true → (cs : List Call) → BytesIn cs → (xs : List EndpointReply) (last : Lent)
      → RanIn (lent words' memory') cs xs last → (ports : Ports) (reports : List Report) → Captured ports own.datalink.id (passed_in cs xs) reports
      → Says ports own.datalink.id reports (id_at own index) Finding.Passes
  own_passes_in index inside controlled cs bytes xs last run ports reports captured =
      let begun = started_leaves configuration words memory starts refl in
      own_passes own (rw (begun.configuration_fits_lem, begun.waits_fit_lem)) index inside controlled ((configuration_small configuration).firsts index inside) cs bytes (rw (started_in starts) at (ran_in bytes run)) ports reports captured
