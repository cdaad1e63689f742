-- A writer's outcome, said. Assumes nothing.
use Rattle.std.specs.Prelude.{Result, Ok, Err}
use Rattle.quantity.specs.declared.count.ByteCount.{ByteCount}
use Rattle.quantity.specs.declared.refusal.Refusal.{Refusal}
use mathlib.Core.Bool.{Bool, true, false, cond}
use mathlib.Core.Path.{◌≡◌, refl}
use mathlib.Core.List.{List, [], ◌∷◌}
use Prim.Native.Nat.{ℕ, ◌-◌, ◌≤◌}
use native.Mathlib.Omega.{arith}
use lib.ListN.{length, take, drop, length-append}
use lib.Seq.{take_at}
use Rattle.quantity.specs.Refusals.{NO-ROOM, NOT-WRITABLE}
use Rattle.wire.specs.Options.{over}
use Rattle.writer.specs.Written.{no_room_of, Outcome}
use Rattle.text.specs.Laying.{Lays}
use Rattle.text.specs.Strings.{bytes_text}
use Rattle.message_words.specs.Saying.{Says}
use Rattle.message_words.proofs.Saying.{says_one, says_then}
use Rattle.session_print.specs.Echoes.{WRITTEN, count_of, written_texts, outcome_texts}

-- the label, and the message at the start of the lent output
pub says_written : (lent : List ℕ) (n : ℕ) {out : List ℕ} {at a : ℕ} {out' : List ℕ} {r : ℕ} {out'' : List ℕ} → Lays out at WRITTEN a out' → Lays out' a (bytes_text (take (n - 0) lent)) r out''
    → Says out at (WRITTEN ∷ (bytes_text (take n lent) ∷ [])) r out''
says_written lent n k l = let z : n - 0 ≡ n = omega arith in says_then (says_one k) (says_one (rw z at l))

module _ (message lent : List ℕ) where
  -- the answer and the output, by the two tests: allowed, and no room
  abbrev pub judged : Bool → Bool → Result ByteCount Refusal
  judged a t = cond a (cond t (Err (record { number = NO-ROOM; place = 0 })) (Ok (record { 0 = length message }))) (Err (record { number = NOT-WRITABLE; place = 0 }))

  abbrev pub filled : Bool → Bool → List ℕ
  filled a t = cond a (cond t lent (over message lent)) lent

  fewer : (a t : Bool) → count_of (judged a t) ≤ length (filled a t)
  fewer true true = omega arith
  fewer true false = simp length-append (omega arith)
  fewer false t = omega arith

  there : (a t : Bool) → written_texts (judged a t) (take (count_of (judged a t)) (filled a t)) ≡ written_texts (judged a t) message
  there true true = refl
  there true false = rw (take_at message (drop (length message) lent) (length message) refl)
  there false t = refl

module _ {allowed : Bool} {message lent : List ℕ} {answer : Result ByteCount Refusal} {lent' : List ℕ} (k : Outcome allowed message lent answer lent') where
  -- what was written is within the output
  pub count_within : count_of answer ≤ length lent'
  count_within = rw (k.answers, k.bytes_are) (fewer message lent allowed (no_room_of (length message) (length lent)))

  same_texts : written_texts answer (take (count_of answer) lent') ≡ outcome_texts allowed message (length lent)
  same_texts = rw (k.answers, k.bytes_are) (there message lent allowed (no_room_of (length message) (length lent)))

  -- and it is the message
  pub says_outcome : {out : List ℕ} {at r : ℕ} {out' : List ℕ} → Says out at (written_texts answer (take (count_of answer) lent')) r out' → Says out at (outcome_texts allowed message (length lent)) r out'
  says_outcome l = rw same_texts at l
