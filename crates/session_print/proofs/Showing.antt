-- A message behind its label, and the waiting packets one behind another. Assumes nothing.
use mathlib.Core.Path.{◌≡◌, refl, sym, ap, ◌∙◌}
use mathlib.Core.List.{List, [], ◌∷◌, ◌++◌}
use Prim.Native.Nat.{ℕ, min, suc, ◌-◌, ◌≤◌}
use native.Mathlib.Omega.{arith}
use Rattle.std.proofs.lemmas.List.{take_min}
use lib.ListN.{length, take}
use lib.Seq.{take_all}
use Rattle.quantity.specs.Limits.{MOST-WAITING}
use Rattle.text.specs.Laying.{Lays}
use Rattle.text.specs.Strings.{bytes_text}
use Rattle.store.specs.declared.queue.Entry.{Entry}
use Rattle.store.specs.declared.queue.Queue.{Queue}
use Rattle.store.specs.Waiting.{waiting}
use Rattle.message_words.specs.Saying.{Says}
use Rattle.message_words.specs.Phrases.{SPACE, one_number, two_numbers, table_texts}
use Rattle.message_words.proofs.Saying.{Saying, says_one, says_then, saying_end}
use Rattle.session_print.specs.Shown.{entries_texts, waiting_texts}

-- ---- a label, and the bytes that are shown
says_message : {out : List ℕ} {at : ℕ} {label : List ℕ} {a : ℕ} {out' : List ℕ} {x y : List ℕ} {b : ℕ} {out'' : List ℕ}
    → x ≡ y → Lays out at label a out' → Lays out' a (bytes_text x) b out'' → Says out at (label ∷ (bytes_text y ∷ [])) b out''
says_message e k l = says_then (says_one k) (says_one (rw e at l))

module _ (count : ℕ) (lent : List ℕ) {out : List ℕ} {at : ℕ} {label : List ℕ} {a : ℕ} {out' : List ℕ} {b : ℕ} {out'' : List ℕ} (k : Lays out at label a out') where
  pub message_part : Lays out' a (bytes_text (take (count - 0) lent)) b out'' → Says out at (label ∷ (bytes_text (take count lent) ∷ [])) b out''
  message_part l = let z : count - 0 ≡ count = omega arith in says_message (ap (λ (n : ℕ). take n lent) z) k l

  pub message_all : length lent ≤ count → Lays out' a (bytes_text lent) b out'' → Says out at (label ∷ (bytes_text (take count lent) ∷ [])) b out''
  message_all h l = says_message (sym (take_all count lent h)) k l

-- ---- the waiting packets are a table whose places aren't said
abbrev pub entry_texts : ℕ → Entry → List (List ℕ)
entry_texts i e = two_numbers SPACE e.length.0 e.expiry

entries_table : (i : ℕ) (es : List Entry) → table_texts entry_texts i es ≡ entries_texts es
unfolding table_texts entries_texts
entries_table i [] = refl
entries_table i (e ∷ es) = ap (λ (l : List (List ℕ)). entry_texts i e ++ l) (entries_table (suc i) es)

-- those that are shown are the waiting ones, and the count was said before them
pub waiting_end : (queue : Queue) → length queue.entries ≡ MOST-WAITING → {n : ℕ} → n ≡ min queue.count MOST-WAITING → {out : List ℕ} {at i : ℕ} {out' : List ℕ} {a : ℕ}
    → Saying entry_texts (take n queue.entries) out at i out' a → length (take n queue.entries) ≤ i → {out₀ : List ℕ} {at₀ : ℕ} → Says out₀ at₀ (one_number SPACE queue.count) at out
    → Says out₀ at₀ (waiting_texts queue) a out'
unfolding waiting
waiting_end queue full {n} e k h s =
    let shown : n ≡ min queue.count (length queue.entries) = e ∙ ap (λ (m : ℕ). min queue.count m) (sym full) in
    let same : take n queue.entries ≡ take queue.count queue.entries = rw shown (take_min queue.count queue.entries) in
    says_then s (rw (entries_table 0 (take queue.count queue.entries)) at (rw same at (saying_end entry_texts k h)))
