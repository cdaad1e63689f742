-- Promises: a refusal leaves every lent word, and every byte of the output. Assumes nothing.
use Rattle.std.specs.Prelude.{Err}
use Prim.Native.Nat.{ℕ}
use mathlib.Core.List.{List}
use mathlib.Core.Path.{◌≡◌, sym, ◌∙◌}
use Rattle.quantity.specs.declared.refusal.Refusal.{Refusal}
use Rattle.radio_end_state.specs.State.{State}
use Rattle.radio_end_state.specs.Calls.{After}
use Rattle.radio_end_state.specs.Each.{EachCall, Keeps}
use Rattle.radio_end_state.proofs.Keeps.{refused_keeps, each_by}
use Rattle.radio_end_words.specs.Words.{state_in}
use Rattle.radio_end_telling.specs.Left.{Left}

-- what a call on the state keeps, its code keeps
left_keeps : (s : State) (words words' out out' : List ℕ) (refusal : Refusal) (after : After) → Keeps s out after → Left after words (Err refusal) words' out'
    → (words' ≡ words) × (out' ≡ out)
left_keeps s words words' out out' refusal after keeps left =
    let told : after.answer ≡ Err refusal = sym left.answer_is in
    (left.words_are ∙ rw told, left.output_is ∙ (keeps refusal told).1)

-- A REFUSED CALL, by the contract of its function: the words are those that it found, and the output is as it was
pub refused_in_lem : (words words' out out' : List ℕ) (refusal : Refusal)
    → EachCall (λ datagram. Unit {0}) (state_in words) out (λ after. Left after words (Err refusal) words' out' → (words' ≡ words) × (out' ≡ out))
refused_in_lem words words' out out' refusal = each_by (left_keeps (state_in words) words words' out out' refusal) (refused_keeps (state_in words) out)
