-- Which datagrams a reply hands over, answer by answer. Assumes nothing.
use Rattle.std.specs.Prelude.{Ok, Err}
use Prim.Native.Nat.{ℕ}
use mathlib.Core.List.{List, [], ◌∷◌}
use mathlib.Core.Path.{◌≡◌, refl}
use lib.ListN.{take}
use Rattle.quantity.specs.declared.count.ByteCount.{ByteCount}
use Rattle.quantity.specs.declared.refusal.Refusal.{Refusal}
use Rattle.ips_channel_calls.specs.declared.asking.NextAnswer.{NextAnswer}
use Rattle.ips_channel_calls.specs.Calls.{asked}
use Rattle.ips_calls.specs.Replies.{of_channel, of_query, handed_out}

pub sent_handed : (count : ByteCount) (out : List ℕ) → handed_out (of_channel (asked (Ok (NextAnswer.Sent count)) out)) ≡ take count.0 out ∷ []
sent_handed count out = refl

pub query_handed : (count : ByteCount) (out : List ℕ) → handed_out (of_query (Ok count) out) ≡ take count.0 out ∷ []
query_handed count out = refl

-- a packet that isn't sent stays, whatever the output holds
pub nothing_handed : (out : List ℕ)
    → (handed_out (of_channel (asked (Ok NextAnswer.NothingWaiting) out)) ≡ [])
    × ((handed_out (of_channel (asked (Ok NextAnswer.NotOperational) out)) ≡ []) × (handed_out (of_channel (asked (Ok NextAnswer.WindowShut) out)) ≡ []))
nothing_handed out = (refl, (refl, refl))

pub refused_handed : (refusal : Refusal) (out : List ℕ) → (handed_out (of_channel (asked (Err refusal) out)) ≡ []) × (handed_out (of_query (Err refusal) out) ≡ [])
refused_handed refusal out = (refl, refl)
