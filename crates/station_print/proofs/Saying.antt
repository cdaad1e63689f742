-- A message behind its label. Assumes nothing.
use mathlib.Core.Path.{◌≡◌, sym, ap}
use mathlib.Core.List.{List, [], ◌∷◌}
use Prim.Native.Nat.{ℕ, ◌-◌, ◌≤◌}
use native.Mathlib.Omega.{arith}
use lib.ListN.{length, take}
use lib.Seq.{take_all}
use Rattle.text.specs.Laying.{Lays}
use Rattle.text.specs.Strings.{bytes_text}
use Rattle.message_words.specs.Saying.{Says}
use Rattle.message_words.proofs.Saying.{says_one, says_then}

says_message : {out : List ℕ} {at : ℕ} {label : List ℕ} {a : ℕ} {out' : List ℕ} {x y : List ℕ} {b : ℕ} {out'' : List ℕ}
    → x ≡ y → Lays out at label a out' → Lays out' a (bytes_text x) b out'' → Says out at (label ∷ (bytes_text y ∷ [])) b out''
says_message e k l = says_then (says_one k) (says_one (rw e at l))

module _ (count : ℕ) (lent : List ℕ) {out : List ℕ} {at : ℕ} {label : List ℕ} {a : ℕ} {out' : List ℕ} {b : ℕ} {out'' : List ℕ} (k : Lays out at label a out') where
  pub message_part : Lays out' a (bytes_text (take (count - 0) lent)) b out'' → Says out at (label ∷ (bytes_text (take count lent) ∷ [])) b out''
  message_part l = let z : count - 0 ≡ count = omega arith in says_message (ap (λ (n : ℕ). take n lent) z) k l

  pub message_all : length lent ≤ count → Lays out' a (bytes_text lent) b out'' → Says out at (label ∷ (bytes_text (take count lent) ∷ [])) b out''
  message_all h l = says_message (sym (take_all count lent h)) k l
