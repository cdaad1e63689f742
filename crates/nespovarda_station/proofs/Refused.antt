-- Promises: an exported call whose number is a refusal's leaves every lent word, and every byte of the output. Assumes nothing.
use Rattle.std.specs.Prelude.{Err}
use Prim.Native.Nat.{ℕ, ◌-◌, ◌≤◌}
use mathlib.Core.Bool.{false}
use mathlib.Core.List.{List}
use mathlib.Core.Path.{◌≡◌}
use native.Mathlib.Omega.{arith}
use borrow.Author.Tests.{ne_eqb}
use lib.Dec.{eqb}
use Rattle.quantity.specs.declared.refusal.Refusal.{Refusal}
use Rattle.answer_codes.specs.declared.Answer as codes
use Rattle.radio_end_state.specs.Each.{EachCall}
use Rattle.radio_end_state.proofs.Keeps.{each_by}
use Rattle.radio_end_words.specs.Words.{state_in}
use Rattle.radio_end_start.proofs.Exactly.{refused_leaves}
use Rattle.radio_end.proofs.Refused.{refused_in_lem}
use Rattle.nespovarda_station.specs.Exports.{Exported, StartExported}
use Rattle.nespovarda_station.specs.Ran.{answer_said, start_said}
use Rattle.nespovarda_station.proofs.Ran.{exports_say, start_says}

-- from 256 on a kind is a refusal, and no other answer's
module _ (r : codes.Answer) (refused : 256 ≤ r.kind) where
  abbrev refusal : Refusal
  refusal = record { number = r.kind - 256; place = r.value }

  no_kind : (kind : ℕ) → kind ≤ 255 → eqb r.kind kind ≡ false
  no_kind kind low = ne_eqb r.kind kind (λ e. omega (arith, refused, low, e))

  call_said : answer_said r ≡ Err refusal
  call_said = rw (no_kind 20 (omega arith), no_kind 21 (omega arith), no_kind 22 (omega arith))

  start_said_lem : start_said r ≡ Err refusal
  start_said_lem = rw (no_kind 1 (omega arith))

  -- EACH EXPORTED CALL that is refused: the words are those that it found, and the output is as it was
  pub export_refused : (words words' out out' : List ℕ)
      → EachCall (λ datagram. Unit {0}) (state_in words) out (λ after. Exported after words r words' out' → (words' ≡ words) × (out' ≡ out))
  export_refused words words' out out' = each_by (λ after keeps h. keeps (rw call_said at (exports_say h))) (refused_in_lem words words' out out' refusal)

  pub start_refused : (configuration words words' : List ℕ) → StartExported configuration words r words' → words' ≡ words
  start_refused configuration words words' h = (refused_leaves configuration words (start_says h) refusal start_said_lem).1
