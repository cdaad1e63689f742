-- A line that is read, and a row that is laid. Assumes nothing.
use Rattle.std.specs.Prelude.{Option, Some, None}
use mathlib.Core.Path.{◌≡◌, refl, sym, ap, ◌∙◌}
use mathlib.Core.Bool.{Bool, true, false, cond}
use mathlib.Core.List.{List, [], ◌∷◌}
use Prim.Native.Nat.{ℕ, ◌+◌, ◌^◌, ◌≤◌, ◌<◌}
use native.Mathlib.Omega.{arith}
use borrow.Author.Tests.{lt-ltb, le-ltb, ltb-false}
use lib.Dec.{ltb, leb→le}
use lib.IntN.{ℤ, pos, negsuc, nat_abs}
use lib.ListN.{length, drop, length-append}
use Rattle.facts.proofs.Tests.{clash}
use Rattle.quantity.specs.declared.count.FlowSequence.{FlowSequence}
use Rattle.quantity.specs.declared.count.FlowWindow.{FlowWindow}
use Rattle.quantity.specs.Distance.{IsDistance, distance_of}
use Rattle.quantity.proofs.Distance.{distance_is}
use Rattle.text.specs.Laying.{signed_text, Lays, Wrote}
use Rattle.text.specs.Numbers.{parse_of}
use Rattle.text.specs.Words.{head_of, tail_of, word_of, beyond_of}
use Rattle.text.proofs.Bounds.{parse_short}
use Rattle.text.proofs.Decimals.{decimal_most}
use Rattle.text.proofs.Signs.{signed_most}
use Rattle.text.proofs.Spaces.{parts_length}
use Rattle.text.proofs.Writing.{lays_size, lays_cursor, lays_on, lays_wrote}
use Rattle.distance_line.specs.Answer.{MOST, PART, ROW, pair_of, read_of, spaced, row_of, bad, text_of, answer_of}

-- ---- reading

-- what a word was parsed as, said of what the word is
pub parsed : {x : Option ℕ} {word : List ℕ} (meant : List ℕ) {n : Option ℕ} → x ≡ parse_of MOST word → word ≡ meant → x ≡ n
    → parse_of MOST meant ≡ n
parsed meant p e q = sym (ap (parse_of MOST) e) ∙ sym p ∙ q

module _ (line : List ℕ) where
  pub read_bad : parse_of MOST (head_of line) ≡ None → None ≡ read_of line
  unfolding read_of pair_of
  read_bad e = rw e

  module _ {sequence : ℕ} (e : parse_of MOST (head_of line) ≡ Some sequence) where
    pub read_bad_2 : parse_of MOST (word_of (tail_of line)) ≡ None → None ≡ read_of line
    unfolding read_of pair_of
    read_bad_2 f = rw (e, f)

    module _ {window : ℕ} (f : parse_of MOST (word_of (tail_of line)) ≡ Some window) (more : List ℕ)
        (g : more ≡ beyond_of (tail_of line)) where
      pub read_more : 0 < length more → None ≡ read_of line
      unfolding read_of pair_of
      read_more h = rw (e, f, ← g, lt-ltb 0 (length more) h)

      pub read_numbers : length more ≤ 0 → Some (record { 0 = sequence }, record { 0 = window }) ≡ read_of line
      unfolding read_of pair_of
      read_numbers h = rw (e, f, ← g, le-ltb 0 (length more) h)

-- ---- writing

pub spaced_most : (n : ℕ) → n < 2 ^ 32 → length (spaced n) ≤ PART
unfolding spaced
spaced_most n h = simp length-append (omega (arith, decimal_most n 10 (omega arith) (omega arith) (omega arith)))

-- the first number leaves room for the second
pub room_left : {out : List ℕ} {n a : ℕ} {out₁ : List ℕ} → ROW ≤ length out → n < 2 ^ 32 → Lays out 0 (spaced n) a out₁ → a + PART ≤ length out₁
room_left {n = n} room h k = let short = spaced_most n h in omega (arith, lays_size k, lays_cursor (omega arith) k)

distance_small : (s : FlowSequence) (w : FlowWindow) (d : ℤ) → IsDistance s w d → nat_abs d < 10 ^ 10
distance_small s w (pos n) k = omega (arith, leb→le)
distance_small s w (negsuc n) k = omega (arith, leb→le)

module _ (s : FlowSequence) (w : FlowWindow) (hs : s.0 < 2 ^ 32) (hw : w.0 < 2 ^ 32) where
  distance_most : length (signed_text (distance_of s w)) ≤ PART
  distance_most = signed_most (distance_of s w) 10 (omega arith) (omega arith) (distance_small s w (distance_of s w) (distance_is s w hs hw))

  pub row_wrote : {out : List ℕ} {a : ℕ} {out₁ : List ℕ} {b : ℕ} {out₂ : List ℕ} {r : ℕ} {out₃ : List ℕ} → ROW ≤ length out
      → Lays out 0 (spaced s.0) a out₁ → Lays out₁ a (spaced w.0) b out₂ → Lays out₂ b (signed_text (distance_of s w)) r out₃
      → Wrote out (row_of s w) r out₃
  unfolding row_of
  row_wrote room k k' k'' =
      let one = spaced_most s.0 hs in
      let two = spaced_most w.0 hw in
      let three = distance_most in
      lays_wrote (simp length-append (omega arith)) (lays_on (lays_on k k' (omega arith)) k'' (simp length-append (omega arith)))

-- ---- the answer, by what was read
pub answer_as : (line : List ℕ) {read : Option (FlowSequence × FlowWindow)} {out : List ℕ} {r : ℕ} {out' : List ℕ} → read_of line ≡ read → Wrote out (text_of read) r out'
    → Wrote out (answer_of line) r out'
unfolding answer_of
answer_as line e k = rw e k

-- ---- a line that has no room anywhere: two numbers of 32 bits and a space are at most 21 bytes

read_short : (line : List ℕ) {s : FlowSequence} {w : FlowWindow} → read_of line ≡ Some (s, w) → length line ≤ 21
unfolding read_of pair_of
read_short line {s} {w} e = go (parse_of MOST (head_of line)) refl (parse_of MOST (word_of rest)) refl e
  where
    rest : List ℕ
    rest = tail_of line

    behind : (l : List ℕ) → length l ≤ 1 + length (drop 1 l)
    behind [] = omega arith
    behind (a ∷ l) = omega arith

    sum : length (head_of line) ≤ 10 → length (word_of rest) ≤ 10 → length (beyond_of rest) ≤ 0 → length line ≤ 21
    sum h g l = omega (arith, parts_length line, behind rest, parts_length (drop 1 rest))

    end : (b : Bool) → ltb 0 (length (beyond_of rest)) ≡ b → (x : Option (FlowSequence × FlowWindow)) → cond b None x ≡ Some (s, w) → length (beyond_of rest) ≤ 0
    end true q x p = clash (cc)
    end false q x p = ltb-false 0 (length (beyond_of rest)) q

    go : (x : Option ℕ) → parse_of MOST (head_of line) ≡ x → (y : Option ℕ) → parse_of MOST (word_of rest) ≡ y → pair_of x y (beyond_of rest) ≡ Some (s, w)
        → length line ≤ 21
    go None q y q' p = clash (cc)
    go (Some a) q None q' p = clash (cc)
    go (Some a) q (Some b) q' p =
        let first = parse_short MOST 10 (head_of line) (omega arith) (omega arith) q in
        let second = parse_short MOST 10 (word_of rest) (omega arith) (omega arith) q' in
        sum first second (end (ltb 0 (length (beyond_of rest))) refl _ p)

-- so a longer one is `bad`, whatever its bytes
pub long_bad : (line : List ℕ) → 21 < length line → answer_of line ≡ bad
unfolding answer_of
long_bad line h = go (read_of line) refl
  where
    go : (read : Option (FlowSequence × FlowWindow)) → read_of line ≡ read → text_of read ≡ bad
    go None e = refl
    go (Some (s, w)) e = let short : length line ≤ 21 = read_short line e in absurd (omega arith)
