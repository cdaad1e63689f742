-- Byte strings, read and written pair by pair. Assumes nothing.
use Rattle.std.specs.Prelude.{Option, Some, None}
use mathlib.Core.Bool.{Bool, true, false, cond}
use mathlib.Core.Path.{◌≡◌, refl, sym, ap, ◌∙◌}
use mathlib.Core.List.{List, [], ◌∷◌, ◌++◌, append_assoc, append-nil}
use Prim.Native.Nat.{ℕ, ◌+◌, ◌-◌, ◌*◌, ◌/◌, ◌≤◌, ◌<◌}
use native.Mathlib.Nat.{le_antisymm}
use native.Mathlib.Numerals.{add-one}
use native.Mathlib.Omega.{arith}
use borrow.Author.Tests.{le-leb, lt-leb, leb-true, eqb-true}
use lib.Dec.{leb}
use lib.ListN.{length, get_or, take, drop, set, length-drop, length-set}
use lib.Seq.{get_or-drop, drop-drop, paste, paste-suc, take-suc, take_at, take-length, length-take-le}
use Rattle.facts.proofs.Tests.{clash}
use Rattle.io.specs.Digits.{last_digits, IsDigitCount}
use Rattle.text.specs.Numbers.{by_size}
use Rattle.text.specs.Laying.{laid, Lays}
use Rattle.text.specs.Strings.{byte_of, before, pair_at, pairs_of, readable_of, hexed_of, unhexed, pairs_text, bytes_text}
use Rattle.text.proofs.Decimals.{fewest_most}
use Rattle.text.proofs.Bounds.{follow_most}
use Rattle.text.proofs.Reading.{next}
use Rattle.text.proofs.Writing.{laid_in, lays_none, lays_as, lays_empty, lays_on}

-- ---- reading

-- the code's part of two digits
pub pair_is : (word : List ℕ) (i : ℕ) (r : Option ℕ) → r ≡ byte_of (take (i * 2 + 2 - i * 2) (drop (i * 2) word)) → r ≡ pair_at word i
unfolding pair_at
pair_is word i r e = let two : i * 2 + 2 - i * 2 ≡ 2 = omega arith in rw two at e

-- the first n pairs, stand for a byte
pub record Paired (word : List ℕ) (i : ℕ) : Type 0 where
  pub within : i ≤ length word / 2
  pub count : i ≤ length (pairs_of word)
  pub rest : drop i (pairs_of word) ≡ pairs_of (drop (i * 2) word)

pub paired_none : (word : List ℕ) → Paired word 0
paired_none word = record { within = omega arith; count = omega arith; rest = refl }

short : (word : List ℕ) → length word ≤ 1 → pairs_of word ≡ []
unfolding pairs_of
short [] h = refl
short (a ∷ []) h = refl
short (a ∷ (b ∷ word)) h = absurd (omega arith)

module _ {word : List ℕ} {i : ℕ} (k : Paired word i) where
  stops : pairs_of (drop (i * 2) word) ≡ [] → length (pairs_of word) ≡ i
  stops e = let none : length (pairs_of word) - i ≡ 0 = simp length-drop at (ap length (k.rest ∙ e)) in omega (arith, k.count)

  pub paired_end : length word / 2 ≤ i → length (pairs_of word) ≡ i
  paired_end h = stops (short (drop (i * 2) word) (simp length-drop (omega arith)))

  module _ (h : i < length word / 2) where
    two : drop (i * 2) word ≡ get_or word (i * 2) 0 ∷ (get_or word (i * 2 + 1) 0 ∷ drop ((i + 1) * 2) word)
    two =
        let e : i * 2 + 1 + 1 ≡ (i + 1) * 2 = omega arith in
        next word (i * 2) (omega arith)
        ∙ ap (λ (l : List ℕ). get_or word (i * 2) 0 ∷ l) (next word (i * 2 + 1) (omega arith))
        ∙ ap (λ (n : ℕ). get_or word (i * 2) 0 ∷ (get_or word (i * 2 + 1) 0 ∷ drop n word)) e

    pub paired_bad : pair_at word i ≡ None → length (pairs_of word) ≡ i
    unfolding pairs_of pair_at
    paired_bad e = stops (rw two (rw (rw two at e)))

    module _ {byte : ℕ} (e : pair_at word i ≡ Some byte) where
      found : drop i (pairs_of word) ≡ byte ∷ pairs_of (drop ((i + 1) * 2) word)
      unfolding pairs_of pair_at
      found = k.rest ∙ rw two (rw (rw two at e))

      pub paired_byte : get_or (pairs_of word) i 0 ≡ byte
      paired_byte =
          let z : i ≡ i + 0 = omega arith in
          ap (λ (n : ℕ). get_or (pairs_of word) n 0) z ∙ sym (get_or-drop i (pairs_of word) 0 0) ∙ ap (λ (l : List ℕ). get_or l 0 0) found

      pub paired_more : i < length (pairs_of word)
      paired_more = omega (arith, simp length-drop at (ap length found))

      pub paired_on : Paired word (i + 1)
      paired_on =
          let rest' = sym (drop-drop 1 i (pairs_of word)) ∙ ap (drop 1) found in
          record { within = omega arith; count = omega (arith, paired_more); rest = rest' }

      pub paired_small : byte < 256
      unfolding pair_at
      paired_small = omega (arith, follow_most 16 255 (take 2 (drop (i * 2) word)) e)

-- the bytes of those pairs are laid
pub record Unpairs (word out : List ℕ) (i : ℕ) (out' : List ℕ) : Type 0 where
  pub paired : Paired word i
  pub bytes : out' ≡ paste out 0 (pairs_of word) i
  pub size : length out' ≡ length out

module _ {word out : List ℕ} {i : ℕ} {out' : List ℕ} (k : Unpairs word out i out') where
  pub unpair_on : {byte : ℕ} → i < length word / 2 → length word / 2 ≤ length out → pair_at word i ≡ Some byte
      → Unpairs word out (i + 1) (set out' i byte)
  unpair_on {byte} h room e = record {
    paired = paired_on k.paired h e;
    bytes =
        let z : i ≡ 0 + i = omega arith in
        let all = pairs_of word in
        let more = paired_more k.paired h e in
        let turn : set (paste out 0 all i) (0 + i) (get_or all i 0) ≡ paste out 0 all (i + 1) = rw (add-one i) (paste-suc out 0 all i 0 (omega arith) more) in
        rw (k.bytes, sym (paired_byte k.paired h e)) (ap (λ (n : ℕ). set (paste out 0 all i) n (get_or all i 0)) z ∙ turn);
    size = simp length-set k.size;
  }

  pub unpair_end : i ≤ length out → length (pairs_of word) ≡ i → out' ≡ laid out 0 (pairs_of word)
  unpair_end h e =
      k.bytes
      ∙ ap (λ (n : ℕ). paste out 0 (pairs_of word) n) (sym e)
      ∙ ap (λ (l : List ℕ). l ++ drop (0 + length (pairs_of word)) out) (take-length (pairs_of word))
      ∙ sym (laid_in out 0 (pairs_of word) (omega arith))

pub pairs_most : (word : List ℕ) → length (pairs_of word) * 2 ≤ length word
unfolding pairs_of
pairs_most [] = omega arith
pairs_most (a ∷ []) = omega arith
pairs_most (a ∷ (b ∷ word)) = go (byte_of (a ∷ (b ∷ []))) (pairs_most word)
  where
    go : (n : Option ℕ) → length (pairs_of word) * 2 ≤ length word → length (before n (pairs_of word)) * 2 ≤ length (a ∷ (b ∷ word))
    go None h = omega arith
    go (Some byte) h = omega arith

-- a word that stands for a byte string stands for one of half its length
readable_count : (word : List ℕ) → readable_of word ≡ true → length (pairs_of word) ≡ length word / 2
unfolding readable_of by_size pairs_of
readable_count [] e = refl
readable_count (a ∷ []) e = refl
readable_count (a ∷ (b ∷ word)) e =
    let all = a ∷ (b ∷ word) in
    omega (arith, eqb-true (length (pairs_of all) * 2) (length all) e)

module _ (word out : List ℕ) where
  pub unhex_bad : readable_of word ≡ false → (None ≡ hexed_of (length out) word) × (out ≡ unhexed out word)
  unfolding hexed_of unhexed
  unhex_bad e = (rw e, rw e)

  pub unhex_long : readable_of word ≡ true → length out < length word / 2
      → (None ≡ hexed_of (length out) word) × (out ≡ unhexed out word)
  unfolding hexed_of unhexed
  unhex_long e h =
      let none : Lays out 0 (pairs_of word) 0 out = lays_none out 0 (pairs_of word) (omega (arith, readable_count word e)) in
      (rw (e, lt-leb (length word / 2) (length out) h), rw e none.bytes)

  pub unhex_good : (out' : List ℕ) → readable_of word ≡ true → length word / 2 ≤ length out → out' ≡ laid out 0 (pairs_of word)
      → (Some (length word / 2) ≡ hexed_of (length out) word) × (out' ≡ unhexed out word)
  unfolding hexed_of unhexed
  unhex_good out' e h k = (rw (e, le-leb (length word / 2) (length out) h), rw e k)

-- what a caller goes by: the bytes lie within the output
pub unhex_inside : (size : ℕ) (word : List ℕ) {n : ℕ} → hexed_of size word ≡ Some n → n ≤ size
unfolding hexed_of
unhex_inside size word {n} e = go (readable_of word) (leb (length word / 2) size) refl e
  where
    go : (t u : Bool) → leb (length word / 2) size ≡ u → cond t (cond u (Some (length word / 2)) None) None ≡ Some n
        → n ≤ size
    go true true q p = let same : length word / 2 ≡ n = cc in omega (arith, leb-true (length word / 2) size q)
    go true false q p = clash (cc)
    go false u q p = clash (cc)

-- and stand at its start
pub unhex_bytes : (out word : List ℕ) {n : ℕ} → hexed_of (length out) word ≡ Some n → take n (unhexed out word) ≡ pairs_of word
unfolding hexed_of unhexed
unhex_bytes out word {n} e = go (readable_of word) (leb (length word / 2) (length out)) refl refl e
  where
    go : (t u : Bool) → readable_of word ≡ t → leb (length word / 2) (length out) ≡ u → cond t (cond u (Some (length word / 2)) None) None ≡ Some n
        → take n (cond t (laid out 0 (pairs_of word)) out) ≡ pairs_of word
    go true true r q p =
        let same : n ≡ length (pairs_of word) = (cc) ∙ sym (readable_count word r) in
        let room : 0 + length (pairs_of word) ≤ length out = omega (arith, leb-true (length word / 2) (length out) q, readable_count word r) in
        rw (laid_in out 0 (pairs_of word) room) (take_at (pairs_of word) (drop (0 + length (pairs_of word)) out) n (sym same))
    go true false r q p = let z : ◌≡◌ {A = ℕ} 0 1 = cc in absurd (omega arith)
    go false u r q p = let z : ◌≡◌ {A = ℕ} 0 1 = cc in absurd (omega arith)

-- ---- writing

-- what `io::hex` writes of a byte at a width of 2
pub byte_is : (byte k : ℕ) → byte < 256 → IsDigitCount 16 2 byte k → last_digits 16 k byte ≡ last_digits 16 2 byte
byte_is byte k h f =
    let most = fewest_most 16 2 byte k 2 (omega arith) f h (omega arith) in
    ap (λ (n : ℕ). last_digits 16 n byte) (le_antisymm most f.0)

pub pairs_length : (bytes : List ℕ) → length (pairs_text bytes) ≡ length bytes * 2
unfolding pairs_text
pairs_length [] = refl
pairs_length (byte ∷ bytes) = let e : length (pairs_text bytes) ≡ length bytes * 2 = pairs_length bytes in omega arith

pairs_append : (x y : List ℕ) → pairs_text (x ++ y) ≡ pairs_text x ++ pairs_text y
unfolding pairs_text
pairs_append [] y = refl
pairs_append (byte ∷ x) y = rw (pairs_append x y) (sym (append_assoc (last_digits 16 2 byte) (pairs_text x) (pairs_text y)))

pairs_last : (bytes : List ℕ) (i : ℕ) → i < length bytes
    → pairs_text (take i bytes) ++ last_digits 16 2 (get_or bytes i 0) ≡ pairs_text (take (i + 1) bytes)
unfolding pairs_text
pairs_last bytes i h =
    let last = append-nil (last_digits 16 2 (get_or bytes i 0)) in
    sym (rw (add-one i, take-suc bytes i 0 h, pairs_append) (ap (λ (l : List ℕ). pairs_text (take i bytes) ++ l) last))

-- the first n bytes are laid
pub record Pairs (out : List ℕ) (at : ℕ) (bytes : List ℕ) (i r : ℕ) (out' : List ℕ) : Type 0 where
  pub within : i ≤ length bytes
  pub laid : Lays out at (pairs_text (take i bytes)) r out'

pub pairs_none : (out : List ℕ) (at : ℕ) (bytes : List ℕ) → at ≤ length out → Pairs out at bytes 0 at out
unfolding pairs_text
pairs_none out at bytes h = record { within = omega arith; laid = lays_empty out at h }

module _ {out : List ℕ} {at : ℕ} {bytes : List ℕ} {i r : ℕ} {out' : List ℕ} (k : Pairs out at bytes i r out') where
  pub pairs_on : {r' : ℕ} {out'' : List ℕ} → i < length bytes → at + length bytes * 2 ≤ length out
      → Lays out' r (last_digits 16 2 (get_or bytes i 0)) r' out'' → Pairs out at bytes (i + 1) r' out''
  pairs_on h room k' =
      let count = length-take-le i bytes k.within in
      let e : length (pairs_text (take i bytes)) ≡ i * 2 = pairs_length (take i bytes) ∙ ap (λ (n : ℕ). n * 2) count in
      let fits : at + length (pairs_text (take i bytes)) + 2 ≤ length out = omega arith in
      record { within = omega arith; laid = lays_as (pairs_last bytes i h) (lays_on k.laid k' fits) }

-- ---- the empty byte string and the others

pub text_empty : (bytes : List ℕ) → length bytes ≡ 0 → 45 ∷ [] ≡ bytes_text bytes
unfolding bytes_text
text_empty [] h = refl
text_empty (byte ∷ bytes) h = absurd (omega arith)

pub text_pairs : (bytes : List ℕ) → 0 < length bytes → pairs_text bytes ≡ bytes_text bytes
unfolding bytes_text
text_pairs [] h = absurd (omega arith)
text_pairs (byte ∷ bytes) h = refl
