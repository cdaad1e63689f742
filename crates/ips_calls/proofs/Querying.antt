-- The ways out of a query: what is asked is always allowed, so 20 is never given. Assumes nothing.
use Rattle.std.specs.Prelude.{Result, Err}
use Rattle.quantity.specs.declared.count.ByteCount.{ByteCount}
use Rattle.quantity.specs.declared.refusal.Refusal.{Refusal}
use Prim.Native.Nat.{ℕ}
use mathlib.Core.Bool.{true, false}
use mathlib.Core.List.{List}
use mathlib.Core.Path.{◌≡◌, refl, ap₂}
use Rattle.quantity.specs.Refusals.{OUTSIDE-LIMITS}
use Rattle.meaning.specs.declared.message.End.TheVariants as ends
use Rattle.meaning.specs.declared.message.Control.{Control}
use Rattle.writable.specs.Allowed.{control_allowed}
use Rattle.writer.specs.Written.{control_written, Outcome}
use Rattle.ips_state.specs.State.{State}
use Rattle.ips_state.specs.Limits.{state_fits}
use Rattle.ips_state.specs.Memory.{World}
use Rattle.ips_query.specs.Query.{query_of}
use Rattle.ips_query.proofs.Queries.{query_allowed}
use Rattle.ips_run.specs.Run.{query, after_under}
use Rattle.ips_calls.specs.Query.{query_answer, query_out}
use Rattle.ips_calls.specs.Replies.{of_query}
use Rattle.ips_calls.specs.Calls.{lending, Performed}

module _ (s : State) (out : List ℕ) (r : Result ByteCount Refusal) (memory : List ℕ) where
  performed : (out' : List ℕ) → r ≡ query_answer s out → out' ≡ query_out s out → Performed (query out) (lending s memory) (of_query r out') (lending s memory)
  unfolding after_under
  performed out' answer_is out-is = record { reply_is = ap₂ of_query answer_is out-is; world_is = refl }

  pub query_unfit : state_fits s ≡ false → r ≡ Err (record { number = OUTSIDE-LIMITS; place = 0 }) → Performed (query out) (lending s memory) (of_query r out) (lending s memory)
  query_unfit e is = performed out (rw e is) (rw e)

  pub query_written_lem : state_fits s ≡ true → (message : Control) → message ≡ query_of s → (out' : List ℕ) → Outcome (control_allowed ends.Ips message) (control_written message) out r out'
      → Performed (query out) (lending s memory) (of_query r out') (lending s memory)
  query_written_lem e message is out' written =
      let asked : Outcome (control_allowed ends.Ips (query_of s)) (control_written (query_of s)) out r out' = rw is at written in
      let allowed : Outcome true (control_written (query_of s)) out r out' = rw (query_allowed s) at asked in
      performed out' (rw e allowed.answers) (rw e allowed.bytes_are)

-- what its contract says of the answer and of the output
pub query_gives : {w w' : World} {out : List ℕ} {r : Result ByteCount Refusal} {out' : List ℕ} → Performed (query out) w (of_query r out') w' → (r ≡ query_answer w.state out) × (out' ≡ query_out w.state out)
query_gives h = (cc h.reply_is, cc h.reply_is)
