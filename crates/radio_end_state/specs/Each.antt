-- What is said of every call, and that a refusal leaves state and output as they were.
use Rattle.quantity.specs.declared.count.LinkInstanceId.{LinkInstanceId}
use Rattle.meaning.specs.declared.message.ContextBytes.{ContextBytes}
use Rattle.std.specs.Prelude.{ℕ, List, ◌≡◌, Option, Err}
use Rattle.quantity.specs.declared.count.ByteCount.{ByteCount}
use Rattle.quantity.specs.declared.refusal.Refusal.{Refusal}
use Rattle.radio_end_state.specs.State.{State}
use Rattle.radio_end_state.specs.Calls.{After, status_told, queued_told, context_told, link_told, told, heard}

-- ---- what holds of every call, on datagrams of a kind
pub record EachCall (Of : List ℕ → Type 0) (s : State) (out : List ℕ) (P : After → Type 0) : Type 0 where
  pub status : (id value : ℕ) → P (status_told s id value out)
  pub queued : (id : ℕ) (bytes : ByteCount) → P (queued_told s id bytes out)
  pub context : (context : Option (ContextBytes × ℕ)) → P (context_told s context out)
  pub link : (instance : Option (LinkInstanceId × ℕ)) → P (link_told s instance out)
  pub tell : P (told s out)
  pub hear : (datagram : List ℕ) → Of datagram → P (heard s datagram out)

-- a refusal leaves state and output as they were
abbrev pub Keeps : State → List ℕ → After → Type 0
Keeps s out r = (refusal : Refusal) → r.answer ≡ Err refusal → (r.state ≡ s) × (r.output ≡ out)
