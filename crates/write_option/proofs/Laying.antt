-- The laws of laying a message down, part behind part. Assumes nothing.
use Prim.Native.Nat.{ℕ, suc, ◌+◌, ◌-◌, ◌≤◌}
use mathlib.Core.Path.{◌≡◌, refl, sym, ap, ap₂, ◌∙◌}
use mathlib.Core.List.{List, [], ◌∷◌, ◌++◌, append_assoc, append-nil}
use native.Mathlib.Omega.{arith}
use lib.ListN.{length, take, drop, set, length-append, length-drop, take-append-drop, drop_of_length-le}
use lib.Seq.{length-take-le, take_at, drop_at, drop-drop}
use Rattle.facts.proofs.Lists.{rest_part}
use Rattle.wire.specs.Numbers.{bytes_of}
use Rattle.wire.specs.Options.{Options, done, option, option_bytes, bytes, over, Laid}
use Rattle.wire.proofs.Numbers.{length_bytes}
use Rattle.wire.proofs.Options.{option_length}
use Rattle.write_option.specs.Laying.{alone, size_of}

-- ---- one option

option_alone : (kind : ℕ) (content : List ℕ) → alone (option kind content) ≡ option_bytes kind content
unfolding bytes
option_alone kind content = append-nil (option_bytes kind content)

option_size : (kind : ℕ) (content : List ℕ) → size_of (option kind content) ≡ 3 + length content
option_size kind content = ap length (option_alone kind content) ∙ option_length kind content

-- where there is room for an option, its writer has it
pub room_for : (kind : ℕ) (content : List ℕ) {n : ℕ} → size_of (option kind content) ≤ n → 3 + length content ≤ n
room_for kind content h = rw (option_size kind content) at h

pub laid_option : (kind : ℕ) (content : List ℕ) {entry exit : List ℕ} {r : ℕ} → Laid (option_bytes kind content) entry exit r → Laid (alone (option kind content)) entry exit r
laid_option kind content laid = rw (option_alone kind content) laid

pub laid_nothing : (out : List ℕ) → Laid (alone (λ more. more)) out out 0
unfolding bytes
laid_nothing out = record { count_is = refl; bytes_are = refl }

-- the first bytes of a local array, over which a number was written
module _ (size number : ℕ) (array part : List ℕ) (h : size ≤ length array) (e : part ≡ bytes_of (length (take (size - 0) array)) number) where
  written_over : part ++ drop (size - 0) array ≡ bytes_of size number ++ drop size array
  written_over =
      let z : size - 0 ≡ size = omega arith in
      let l : length (take size array) ≡ size = length-take-le size array h in
      rw (e, z, l)

  pub content_is : take (size - 0) (part ++ drop (size - 0) array) ≡ bytes_of size number
  content_is =
      let z : size - 0 ≡ size = omega arith in
      rw (written_over, z) (take_at (bytes_of size number) (drop size array) size (length_bytes size number))

  pub content_inside : size ≤ length (part ++ drop (size - 0) array)
  content_inside = rw (written_over, length-append, length_bytes) (omega arith)

-- a local array of 5 bytes, over whose last 4 a number was written
module _ (channel number : ℕ) (part : List ℕ) (e : part ≡ bytes_of 4 number) where
  pub flow_is : channel ∷ (part ++ []) ≡ channel ∷ bytes_of 4 number
  flow_is = rw (append-nil, e)

  pub flow_size : 5 ≡ length (channel ∷ (part ++ []))
  flow_size = sym (ap length flow_is ∙ ap suc (length_bytes 4 number))

-- ---- part behind part

-- what `f` puts before the options that follow stands before their bytes, and has `size` bytes
pub record Part (f : Options → Options) (size : ℕ) : Type 0 where
  pub before : (more : Options) → bytes (f more) ≡ alone f ++ bytes more
  pub size_is : size_of f ≡ size

pub part_nothing : Part (λ more. more) 0
unfolding bytes
part_nothing = record { before = λ more. refl; size_is = refl }

pub part_option : (kind : ℕ) (content : List ℕ) (n : ℕ) → length content ≡ n → Part (option kind content) (3 + n)
unfolding bytes
part_option kind content n e = record {
  before = λ more. ap (λ (l : List ℕ). l ++ bytes more) (sym (append-nil (option_bytes kind content)));
  size_is = option_size kind content ∙ ap (λ (k : ℕ). 3 + k) e;
}

pub part_both : {f g : Options → Options} {n k : ℕ} → Part f n → Part g k → Part (λ more. f (g more)) (n + k)
part_both {f} {g} p q = record {
  before = λ more.
      p.before (g more)
      ∙ ap (λ (l : List ℕ). alone f ++ l) (q.before more)
      ∙ sym (append_assoc (alone f) (alone g) (bytes more))
      ∙ ap (λ (l : List ℕ). l ++ bytes more) (sym (p.before (g done)));
  size_is = ap length (p.before (g done)) ∙ length-append (alone f) (alone g) ∙ ap₂ (λ (x y : ℕ). x + y) p.size_is q.size_is;
}

pub part_length : {f : Options → Options} {n : ℕ} → Part f n → (more : Options) → length (bytes (f more)) ≡ n + length (bytes more)
part_length {f} p more = ap length (p.before more) ∙ length-append (alone f) (bytes more) ∙ ap (λ (k : ℕ). k + length (bytes more)) p.size_is

-- the first `at` bytes of `out` are written; with `rest` laid behind them it becomes `text` laid over the output as it came
pub record Standing (text entry : List ℕ) (at : ℕ) (rest : Options) (out : List ℕ) : Type 0 where
  pub room : length text ≤ length entry
  pub count : at + length (bytes rest) ≡ length text
  pub becomes : take at out ++ over (bytes rest) (drop at out) ≡ over text entry
  pub long : length out ≡ length entry

pub standing_start : (rest : Options) (entry : List ℕ) → length (bytes rest) ≤ length entry → Standing (bytes rest) entry 0 rest entry
standing_start rest entry h = record { room = h; count = omega arith; becomes = refl; long = refl }

pub standing_header : (header : ℕ) (rest : Options) (entry : List ℕ) → length (header ∷ bytes rest) ≤ length entry
    → Standing (header ∷ bytes rest) entry 1 rest (set entry 0 header)
standing_header header rest [] h = absurd (omega arith)
standing_header header rest (x ∷ entry) h = record { room = h; count = omega arith; becomes = refl; long = refl }

pub standing_end : {text entry out : List ℕ} {at : ℕ} → Standing text entry at done out → Laid text entry out at
unfolding bytes
standing_end {text} {entry} {out} {at} s = record { count_is = omega arith; bytes_are = sym (take-append-drop at out) ∙ s.becomes }

-- what is known where the rest of the output is lent to the writer of what `f` puts first
pub record Lending (text entry : List ℕ) (at : ℕ) (f : Options → Options) (more : Options) (out : List ℕ) : Type 0 where
  pub start : at ≤ length out
  pub room : size_of f ≤ length (take (length out - at) (drop at out))
  pub fits : (r : ℕ) → r ≡ size_of f → at + r ≤ length entry
  pub back : (part : List ℕ) (r : ℕ) → Laid (alone f) (take (length out - at) (drop at out)) part r
      → Standing text entry (at + r) more (take at out ++ (part ++ drop (length out - at) (drop at out)))

pub lending : {f : Options → Options} {n : ℕ} {more : Options} {text entry out : List ℕ} {at : ℕ}
    → Part f n → Standing text entry at (f more) out → Lending text entry at f more out
lending {f} {n} {more} {text} {entry} {out} {at} part_of s = record {
  start = start;
  room = rw (rest_part, length-drop) (omega (arith, count, s.room, s.long));
  fits = λ r e. omega (arith, count);
  back = back;
}
  where
    behind : List ℕ
    behind = drop at out

    front : List ℕ
    front = take at out ++ alone f

    count : at + (size_of f + length (bytes more)) ≡ length text
    count = omega (arith, part_length part_of more, part_of.size_is, s.count)

    start : at ≤ length out
    start = omega (arith, count, s.room, s.long)

    back : (part : List ℕ) (r : ℕ) → Laid (alone f) (take (length out - at) behind) part r
        → Standing text entry (at + r) more (take at out ++ (part ++ drop (length out - at) behind))
    back part r laid =
        let none : drop (length out - at) behind ≡ [] = drop_of_length-le behind {i = length out - at} (rw length-drop (omega arith)) in
        let after : take at out ++ (part ++ drop (length out - at) behind) ≡ front ++ drop (size_of f) behind =
        rw (none, laid.bytes_are, rest_part, append-nil) (sym (append_assoc (take at out) (alone f) (drop (size_of f) behind))) in
        let n : length front ≡ at + r = length-append (take at out) (alone f) ∙ ap₂ (λ (x y : ℕ). x + y) (length-take-le at out start) (sym laid.count_is) in
        let whole : take at out ++ ((alone f ++ bytes more) ++ drop (length (alone f ++ bytes more)) behind) ≡ over text entry = rw (part_of.before more) at s.becomes in
        record {
          room = s.room;
          count = omega (arith, count, laid.count_is);
          becomes =
              rw (after, take_at front (drop (size_of f) behind) (at + r) n, drop_at front (drop (size_of f) behind) (at + r) n, drop-drop (length (bytes more)), ← length-append)
              (simp append_assoc (simp append_assoc at whole));
          long = ap length after ∙ simp (length-append, length-drop) (omega (arith, length-take-le at out start, count, s.room, s.long));
        }

-- a place of a message's writer where it lends the rest of the output for what `f` puts first
pub record Stage (text entry : List ℕ) (f : Options → Options) (more : Options) : Type 0 where
  pub at : ℕ
  pub out : List ℕ
  pub lent : Lending text entry at f more out

abbrev pub stage : {f : Options → Options} {n : ℕ} → Part f n → {more : Options} {text entry out : List ℕ} {at : ℕ}
    → Standing text entry at (f more) out → Stage text entry f more
stage p {out = out} {at} s = record { at = at; out = out; lent = lending p s }
