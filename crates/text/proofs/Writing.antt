-- Texts laid into an output, one behind another. Assumes nothing.
use mathlib.Core.Path.{◌≡◌, sym, ap, ◌∙◌}
use mathlib.Core.List.{List, [], ◌++◌, append_assoc, append-nil}
use Prim.Native.Nat.{ℕ, ◌+◌, ◌-◌, ◌≤◌, ◌<◌}
use native.Mathlib.Decide.{dec_le}
use native.Mathlib.Omega.{arith}
use borrow.Author.Tests.{le-leb, lt-leb}
use borrow.Rule.Slice.PartMut.{mid_of, put_mid}
use lib.ListN.{length, take, drop, length-append, length-drop, take-append-drop}
use lib.Seq.{length-take-le, take-length, take_at, drop-drop, drop-append-add, drop-length}
use Rattle.facts.proofs.Lists.{rest_part}
use Rattle.text.specs.Laying.{laid, behind, Lays, Wrote}

-- ---- a text with room, and one without

module _ (out : List ℕ) (at : ℕ) (text : List ℕ) (room : at + length text ≤ length out) where
  pub laid_in : laid out at text ≡ take at out ++ text ++ drop (at + length text) out
  unfolding laid
  laid_in = rw (le-leb (at + length text) (length out) room)

  behind_in : behind (length out) at (length text) ≡ at + length text
  unfolding behind
  behind_in = rw (le-leb (at + length text) (length out) room)

pub lays_none : (out : List ℕ) (at : ℕ) (text : List ℕ) → length out < at + length text → Lays out at text at out
unfolding laid behind
lays_none out at text h =
    let none = lt-leb (at + length text) (length out) h in
    record { cursor = rw none; bytes = rw none }

pub lays_empty : (out : List ℕ) (at : ℕ) → at ≤ length out → Lays out at [] at out
lays_empty out at h =
    let room : at + 0 ≤ length out = omega arith in
    let e : at ≡ at + 0 = omega arith in
    let same : take at out ++ [] ++ drop at out ≡ out = rw (append-nil (take at out)) (take-append-drop at out) in
    record {
      cursor = e ∙ sym (behind_in out at [] room);
      bytes = sym (laid_in out at [] room ∙ ap (λ (n : ℕ). take at out ++ [] ++ drop n out) (sym e) ∙ same);
    }

-- what `octets::copy` leaves in the part of an output from the cursor on
pub lays_copy : (out : List ℕ) (at : ℕ) (text : List ℕ) (n : ℕ) (part : List ℕ) → at + length text ≤ length out → n ≡ length text
    → part ≡ take (length text) text ++ drop (length text) (mid_of at (length out - at) out)
    → Lays out at text (at + n) (put_mid at (length out - at) out part)
lays_copy out at text n part room e h = record {
  cursor = ap (λ (m : ℕ). at + m) e ∙ sym (behind_in out at text room);
  bytes =
      ap (λ (l : List ℕ). take at out ++ (l ++ drop (length out - at) (drop at out))) same
      ∙ ap (λ (l : List ℕ). take at out ++ (text ++ drop (at + length text) out ++ l)) none
      ∙ ap (λ (l : List ℕ). take at out ++ l) (append-nil (text ++ drop (at + length text) out))
      ∙ sym (append_assoc (take at out) text (drop (at + length text) out))
      ∙ sym (laid_in out at text room);
}
  where
    same : part ≡ text ++ drop (at + length text) out
    same = h ∙ rw (take-length text, rest_part at out) (ap (λ (l : List ℕ). text ++ l) (drop-drop (length text) at out))

    none : drop (length out - at) (drop at out) ≡ []
    none = rw (sym (length-drop at out)) (drop-length (drop at out))

-- ---- what holds of a text that is laid

-- the text, said in another way
pub lays_as : {out : List ℕ} {at : ℕ} {x y : List ℕ} {r : ℕ} {out' : List ℕ} → x ≡ y → Lays out at x r out' → Lays out at y r out'
lays_as e k = rw e at k

pub lays_size : {out : List ℕ} {at : ℕ} {text : List ℕ} {r : ℕ} {out' : List ℕ} → Lays out at text r out' → length out' ≡ length out
unfolding laid
lays_size {out} {at} {text} {r} {out'} k =
    elim (dec_le (at + length text) (length out)) [ yes room ↦ inside room | no room ↦ outside (omega arith) ]
  where
    inside : at + length text ≤ length out → length out' ≡ length out
    inside room =
        let front : length (take at out) ≡ at = length-take-le at out (omega arith) in
        ap length (k.bytes ∙ laid_in out at text room) ∙ simp (length-append, length-drop) (omega arith)

    outside : length out < at + length text → length out' ≡ length out
    outside room = ap length k.bytes ∙ rw (lt-leb (at + length text) (length out) room)

-- the cursor stays within the output
pub lays_inside : {out : List ℕ} {at : ℕ} {text : List ℕ} {r : ℕ} {out' : List ℕ} → at ≤ length out → Lays out at text r out'
    → r ≤ length out'
unfolding behind
lays_inside {out} {at} {text} {r} {out'} h k =
    elim (dec_le (at + length text) (length out)) [ yes room ↦ inside room | no room ↦ outside (omega arith) ]
  where
    inside : at + length text ≤ length out → r ≤ length out'
    inside room = omega (arith, k.cursor ∙ behind_in out at text room, lays_size k)

    outside : length out < at + length text → r ≤ length out'
    outside room = let e : r ≡ at = k.cursor ∙ rw (lt-leb (at + length text) (length out) room) in omega (arith, lays_size k)

-- with room, before the cursor stands what stood before the text, and the text
module _ {out : List ℕ} {at : ℕ} {text : List ℕ} {r : ℕ} {out' : List ℕ} (room : at + length text ≤ length out)
    (k : Lays out at text r out') where
  pub lays_cursor : r ≡ at + length text
  lays_cursor = k.cursor ∙ behind_in out at text room

  pub lays_front : take r out' ≡ take at out ++ text
  lays_front =
      let e : length (take at out) ≡ at = length-take-le at out (omega arith) in
      let place : length (take at out ++ text) ≡ r = simp length-append (omega (arith, lays_cursor)) in
      rw (k.bytes ∙ laid_in out at text room) (take_at (take at out ++ text) (drop (at + length text) out) r place)

-- two texts, one behind the other
pub lays_on : {out : List ℕ} {at : ℕ} {x : List ℕ} {a : ℕ} {out' y : List ℕ} {b : ℕ} {out'' : List ℕ}
    → Lays out at x a out' → Lays out' a y b out'' → at + length x + length y ≤ length out → Lays out at (x ++ y) b out''
lays_on {out} {at} {x} {a} {out'} {y} {b} {out''} k k' h = record {
  cursor =
      k'.cursor
      ∙ behind_in out' a y (omega (arith, size, cursor))
      ∙ simp length-append (omega (arith, cursor))
      ∙ sym (behind_in out at (x ++ y) room);
  bytes =
      k'.bytes
      ∙ laid_in out' a y (omega (arith, size, cursor))
      ∙ ap (λ (l : List ℕ). l ++ y ++ drop (a + length y) out') front
      ∙ ap (λ (l : List ℕ). take at out ++ x ++ y ++ l) back
      ∙ ap (λ (l : List ℕ). l ++ drop (at + length (x ++ y)) out) (append_assoc (take at out) x y)
      ∙ sym (laid_in out at (x ++ y) room);
}
  where
    cursor : a ≡ at + length x
    cursor = lays_cursor (omega arith) k

    size : length out' ≡ length out
    size = lays_size k

    room : at + length (x ++ y) ≤ length out
    room = simp length-append (omega arith)

    whole : out' ≡ take at out ++ x ++ drop (at + length x) out
    whole = k.bytes ∙ laid_in out at x (omega arith)

    place : length (take at out ++ x) ≡ a
    place = let e : length (take at out) ≡ at = length-take-le at out (omega arith) in simp length-append (omega (arith, cursor))

    front : take a out' ≡ take at out ++ x
    front = rw whole (take_at (take at out ++ x) (drop (at + length x) out) a place)

    back : drop (a + length y) out' ≡ drop (at + length (x ++ y)) out
    back =
        let e : at + length x + length y ≡ at + length (x ++ y) = simp length-append (omega arith) in
        rw (whole, sym place) (drop-append-add (take at out ++ x) (drop (at + length x) out) (length y))
        ∙ drop-drop (length y) (at + length x) out
        ∙ ap (λ (n : ℕ). drop n out) e

-- ---- what a caller goes by: a text that has room at the start stands there, and its end is within the output

pub lays_wrote : {out text : List ℕ} {r : ℕ} {out' : List ℕ} → length text ≤ length out → Lays out 0 text r out' → Wrote out text r out'
lays_wrote {out} {text} h k =
    let room : 0 + length text ≤ length out = omega arith in
    let e : 0 + length text ≡ length text = omega arith in
    record {
      room = h;
      count = k.cursor ∙ behind_in out 0 text room ∙ e;
      bytes = k.bytes ∙ laid_in out 0 text room ∙ ap (λ (n : ℕ). text ++ drop n out) e;
    }

pub wrote_size : {out text : List ℕ} {r : ℕ} {out' : List ℕ} → Wrote out text r out' → length out' ≡ length out
wrote_size k = ap length k.bytes ∙ simp (length-append, length-drop) (omega (arith, k.room))

-- any two outcomes that a contract allows coincide
pub lays_one : {out : List ℕ} {at : ℕ} {text : List ℕ} {r r' : ℕ} {out' out'' : List ℕ} → Lays out at text r out' → Lays out at text r' out'' → (r ≡ r') × (out' ≡ out'')
lays_one k l = (k.cursor ∙ sym l.cursor, k.bytes ∙ sym l.bytes)

pub wrote_one : {out text : List ℕ} {r r' : ℕ} {out' out'' : List ℕ} → Wrote out text r out' → Wrote out text r' out'' → (r ≡ r') × (out' ≡ out'')
wrote_one k l = (k.count ∙ sym l.count, k.bytes ∙ sym l.bytes)
