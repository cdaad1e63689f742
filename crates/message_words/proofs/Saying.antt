-- Texts laid one behind another, in parts. Assumes nothing.
use mathlib.Core.Path.{◌≡◌, refl, sym, ◌∙◌}
use mathlib.Core.List.{List, [], ◌∷◌, ◌++◌}
use Prim.Native.Nat.{ℕ, min, ◌+◌, ◌-◌, ◌≤◌, ◌<◌}
use native.Mathlib.Nat.{min-le_right}
use native.Mathlib.Numerals.{add-one}
use native.Mathlib.Omega.{arith}
use lib.ListN.{length, get_or, take, drop, drop_of_length-le}
use lib.Seq.{drop-cons, length-take-le}
use Rattle.wire.specs.Numbers.{bytes_of}
use Rattle.text.specs.Laying.{laid, behind, Lays}
use Rattle.text.specs.Strings.{bytes_text}
use Rattle.message_words.specs.Saying.{said, cursor_of, Says}
use Rattle.message_words.specs.Phrases.{table_texts}

pub says_none : (out : List ℕ) (at : ℕ) → Says out at [] at out
unfolding said cursor_of
says_none out at = record { cursor = refl; bytes = refl }

pub says_one : {out : List ℕ} {at : ℕ} {text : List ℕ} {r : ℕ} {out' : List ℕ} → Lays out at text r out' → Says out at (text ∷ []) r out'
unfolding said cursor_of
says_one k = record { cursor = k.cursor; bytes = k.bytes }

-- any two outcomes coincide
pub says_coincide : {out : List ℕ} {at : ℕ} {texts : List (List ℕ)} {r r' : ℕ} {out' out'' : List ℕ} → Says out at texts r out' → Says out at texts r' out'' → (r ≡ r') × (out' ≡ out'')
says_coincide k l = (k.cursor ∙ sym l.cursor, k.bytes ∙ sym l.bytes)

said_then : (xs ys : List (List ℕ)) (out : List ℕ) (at : ℕ) → said out at (xs ++ ys) ≡ said (said out at xs) (cursor_of out at xs) ys
unfolding said cursor_of
said_then [] ys out at = refl
said_then (x ∷ xs) ys out at = said_then xs ys (laid out at x) (behind (length out) at (length x))

cursor_then : (xs ys : List (List ℕ)) (out : List ℕ) (at : ℕ) → cursor_of out at (xs ++ ys) ≡ cursor_of (said out at xs) (cursor_of out at xs) ys
unfolding said cursor_of
cursor_then [] ys out at = refl
cursor_then (x ∷ xs) ys out at = cursor_then xs ys (laid out at x) (behind (length out) at (length x))

-- some texts, and others behind them
pub says_then : {out : List ℕ} {at : ℕ} {xs : List (List ℕ)} {a : ℕ} {out' : List ℕ} {ys : List (List ℕ)} {b : ℕ} {out'' : List ℕ}
    → Says out at xs a out' → Says out' a ys b out'' → Says out at (xs ++ ys) b out''
says_then {out} {at} {xs} {a} {out'} {ys} {b} {out''} k l = record {
  cursor = rw (cursor_then xs ys out at, ← k.bytes, ← k.cursor) l.cursor;
  bytes = rw (said_then xs ys out at, ← k.bytes, ← k.cursor) l.bytes;
}

-- a part from the start has as many bytes as it says
pub part_size : (l : List ℕ) (n m : ℕ) → n ≡ min m (length l) → length (take (n - 0) l) ≡ n
part_size l n m e = let h : n ≤ length l = rw e (min-le_right m (length l)) in let z : n - 0 ≡ n = omega arith in rw z (length-take-le n l h)

-- a number's bytes, their count known otherwise
pub says_spelt : {out : List ℕ} {at w n : ℕ} (v : ℕ) {r : ℕ} {out' : List ℕ} → w ≡ n → Says out at (bytes_text (bytes_of w v) ∷ []) r out' → Says out at (bytes_text (bytes_of n v) ∷ []) r out'
says_spelt v e k = rw e at k

-- ---- a table: what is still to be said from a channel on

module _ {A : Type 0} (f : ℕ → A → List (List ℕ)) where
  abbrev pub rest : ℕ → List A → List (List ℕ)
  rest i cells = table_texts f i (drop i cells)

  table_step : (cells : List A) (d : A) (i : ℕ) → i < length cells → rest i cells ≡ f i (get_or cells i d) ++ rest (i + 1) cells
  unfolding table_texts
  table_step cells d i h = rw (drop-cons cells i d h, add-one i)

  table_end : (cells : List A) (i : ℕ) → length cells ≤ i → rest i cells ≡ []
  unfolding table_texts
  table_end cells i h = rw (drop_of_length-le cells {i = i} h)

  -- so far is said what stands before channel i: what is left to say gives the whole
  pub record Saying (cells : List A) (out : List ℕ) (at i : ℕ) (out' : List ℕ) (a : ℕ) : Type 0 where
    pub cursor : cursor_of out' a (rest i cells) ≡ cursor_of out at (table_texts f 0 cells)
    pub bytes : said out' a (rest i cells) ≡ said out at (table_texts f 0 cells)

  pub saying_start : (cells : List A) (out : List ℕ) (at : ℕ) → Saying cells out at 0 out at
  saying_start cells out at = record { cursor = refl; bytes = refl }

  pub saying_on : {cells : List A} {out : List ℕ} {at i : ℕ} {out' : List ℕ} {a : ℕ} (d : A) {b : ℕ} {out'' : List ℕ} → Saying cells out at i out' a → i < length cells
      → Says out' a (f i (get_or cells i d)) b out'' → Saying cells out at (i + 1) out'' b
  saying_on {cells} {out} {at} {i} {out'} {a} d {b} {out''} k h l = record {
    cursor = rw (l.bytes, l.cursor, ← cursor_then (f i (get_or cells i d)) (rest (i + 1) cells) out' a, ← table_step cells d i h) k.cursor;
    bytes = rw (l.bytes, l.cursor, ← said_then (f i (get_or cells i d)) (rest (i + 1) cells) out' a, ← table_step cells d i h) k.bytes;
  }

  pub saying_end : {cells : List A} {out : List ℕ} {at i : ℕ} {out' : List ℕ} {a : ℕ} → Saying cells out at i out' a → length cells ≤ i → Says out at (table_texts f 0 cells) a out'
  unfolding said cursor_of
  saying_end {cells} {out} {at} {i} {out'} {a} k h = record { cursor = rw (table_end cells i h) at k.cursor; bytes = rw (table_end cells i h) at k.bytes }
