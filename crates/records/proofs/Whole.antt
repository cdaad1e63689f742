-- Every record of a file is reported once and in order, and how the file ends, in whatever pieces it comes. Assumes nothing.
use mathlib.Core.Path.{◌≡◌, refl, sym, ap, ◌∙◌}
use mathlib.Core.Bool.{Bool, true, false, false≢true, ◌&&◌}
use mathlib.Core.List.{List, [], ◌∷◌, ◌++◌, append_assoc}
use Prim.Native.Nat.{ℕ, ◌+◌, ◌-◌, ◌≤◌, ◌<◌}
use native.Mathlib.Omega.{arith}
use borrow.Author.Tests.{eqb-true, le-leb}
use lib.Dec.{eqb}
use lib.ListN.{length, take, drop, take-append-drop}
use lib.Seq.{length-take-le, take-take, take-add, drop_at, drop-drop}
use Rattle.facts.proofs.Tests.{clash}
use Rattle.octets.specs.Bytes.{slice}
use Rattle.lines.specs.declared.Input as lines
use Rattle.lines.specs.Unread.{tidy_of, rest_of, lost_of, kept_of}
use Rattle.lines.proofs.Laws.{tidy_is, unread_length}
use Rattle.records.specs.declared.Input.{Input}
use Rattle.records.specs.declared.Found.TheVariants as found
use Rattle.records.specs.Unread.{ROOM, start_of, behind_of, bytes_in, next_of, Refilled}
use Rattle.records.specs.Files.{Report, kept, refused, records_of, reports_of, cut_off, closed, Turns, ends, refuses, opens, finds, more}
use Rattle.records.proofs.Files.{records_none}
use Rattle.records.proofs.Ways as next
use Rattle.records.proofs.Ways.{meant, Next, next_cases}

-- ---- stretches

pub tidy_made : (size : ℕ) (unread : lines.Input) → unread.at ≤ unread.have → unread.have ≤ size → tidy_of size unread ≡ true
unfolding tidy_of
tidy_made size unread h g = rw (le-leb unread.at unread.have h, le-leb unread.have size g)

no_bytes : (bytes : List ℕ) → length bytes ≡ 0 → bytes ≡ []
no_bytes [] h = refl
no_bytes (byte ∷ bytes) h = absurd (omega arith)

-- a stretch of a stretch
slice_part : (from to i n : ℕ) (l : List ℕ) → from + i + n ≤ to → to ≤ length l → slice (from + i) (from + i + n) l ≡ take n (drop i (slice from to l))
unfolding slice
slice_part from to i n l h g =
    let filled : List ℕ = take to l in
    let size : length filled ≡ to = length-take-le to l g in
    let cut : take (from + i + n) l ≡ take (from + i) filled ++ take n (drop (from + i) filled) = sym (take-take (from + i + n) to l h) ∙ take-add (from + i) n filled in
    let front : length (take (from + i) filled) ≡ from + i = length-take-le (from + i) filled (omega arith) in
    ap (drop (from + i)) cut
    ∙ drop_at (take (from + i) filled) (take n (drop (from + i) filled)) (from + i) front
    ∙ ap (take n) (sym (drop-drop i from filled))

-- ---- a turn

-- what is refused is refused whether or not a read fails behind it, and what is kept is kept
refused_closed : (failed : Bool) {reports : List Report} {number : ℕ} → reports ≡ refused number ∷ [] → closed failed reports ≡ refused number ∷ []
refused_closed true e = ap cut_off e
refused_closed false e = e

kept_closed : (failed : Bool) (original : ℕ) (bytes : List ℕ) (reports : List Report)
    → kept original bytes ∷ closed failed reports ≡ closed failed (kept original bytes ∷ reports)
kept_closed true original bytes reports = refl
kept_closed false original bytes reports = refl

-- what holds between two turns: at the end of the input nothing comes, and whether a read failed is known; nothing was dropped
pub record Sane (failed : Bool) (buffer : List ℕ) (input : Input) (coming : List ℕ) : Type 0 where
  pub tidy : tidy_of (length buffer) input.unread ≡ true
  pub done : input.unread.ended ≡ true → (input.unread.failed ≡ failed) × (coming ≡ [])
  pub entire : input.unread.over ≡ false

-- the reports from here on are those that are meant
abbrev pub Right : Bool → List ℕ → Input → List ℕ → List Report → Type 0
Right failed buffer input coming reports = reports ≡ closed failed (meant input.opened input.big (bytes_in buffer input ++ coming))

-- a turn to another input keeps that, where it makes n reports itself
pub record Turn (failed : Bool) (buffer : List ℕ) (input : Input) (coming buffer' : List ℕ) (input' : Input) (coming' : List ℕ) (own : List Report) : Type 0 where
  pub sane : Sane failed buffer' input' coming'
  pub right : (reports : List Report) → Right failed buffer' input' coming' reports → Right failed buffer input coming (own ++ reports)

module _ {failed : Bool} {buffer : List ℕ} {input : Input} {coming : List ℕ} (k : Sane failed buffer input coming) where
  within : (input.unread.at ≤ input.unread.have) × (input.unread.have ≤ length buffer)
  within = tidy_is (length buffer) input.unread k.tidy

  size : length (bytes_in buffer input) ≡ input.unread.have - input.unread.at
  size = unread_length buffer input.unread k.tidy

  cases : Next input.opened input.big input.unread (bytes_in buffer input) (next_of buffer input)
  cases = next_cases buffer input k.tidy

  -- behind n bytes
  module _ (n : ℕ) (big : Bool) (h : n ≤ length (bytes_in buffer input)) where
    sane_behind : Sane failed buffer (behind_of input.unread n big) coming
    sane_behind = record { tidy = tidy_made (length buffer) (rest_of input.unread (input.unread.at + n)) (omega (arith, size, within)) within.1; done = k.done; entire = refl }

    bytes_behind : bytes_in buffer (behind_of input.unread n big) ≡ drop n (bytes_in buffer input)
    unfolding slice
    bytes_behind = sym (drop-drop n input.unread.at (take input.unread.have buffer))

  pub end_turn : next_of buffer input ≡ found.End → Right failed buffer input coming []
  end_turn e = go cases
    where
      go : Next input.opened input.big input.unread (bytes_in buffer input) (next_of buffer input) → Right failed buffer input coming []
      go (next.nothing g h o l p) =
          let d = k.done g in
          let whole : failed ≡ false = sym d.0 ∙ h in
          rw (whole, o, d.1, no_bytes (bytes_in buffer input) l) (sym (records_none input.big [] refl))
      go (next.fails g h o l p) = clash (cc)
      go (next.waits g l p) = clash (cc)
      go (next.breaks number f p) = clash (cc)
      go (next.opens big l f p) = clash (cc)
      go (next.finds captured original o l f p) = clash (cc)

  pub refuse_turn : {number : ℕ} → next_of buffer input ≡ found.Refused number → Right failed buffer input coming (refused number ∷ [])
  refuse_turn {number} e = go cases
    where
      go : Next input.opened input.big input.unread (bytes_in buffer input) (next_of buffer input) → Right failed buffer input coming (refused number ∷ [])
      go (next.breaks n f p) =
          let same : n ≡ number = cc in
          sym (refused_closed failed (f coming (λ g. (k.done g).1)) ∙ ap (λ (m : ℕ). refused m ∷ []) same)
      go (next.fails g h o l p) =
          let d = k.done g in
          let same : 26 ≡ number = cc in
          let cut : failed ≡ true = sym d.0 ∙ h in
          rw (cut, o, d.1, no_bytes (bytes_in buffer input) l) (sym (ap cut_off (records_none input.big [] refl) ∙ ap (λ (m : ℕ). refused m ∷ []) same))
      go (next.nothing g h o l p) = clash (cc)
      go (next.waits g l p) = clash (cc)
      go (next.opens big l f p) = clash (cc)
      go (next.finds captured original o l f p) = clash (cc)

  pub open_turn : {rest : Input} → next_of buffer input ≡ found.Head rest → Turn failed buffer input coming buffer rest coming []
  open_turn {rest} e = go cases
    where
      go : Next input.opened input.big input.unread (bytes_in buffer input) (next_of buffer input) → Turn failed buffer input coming buffer rest coming []
      go (next.opens big l f p) =
          let left : rest ≡ behind_of input.unread 24 big = cc in
          rw left
          (record { sane = sane_behind 24 big l; right = λ reports t. t ∙ ap (closed failed) (ap (λ (b : List ℕ). records_of big (b ++ coming)) (bytes_behind 24 big l) ∙ sym (f coming)) })
      go (next.nothing g h o l p) = clash (cc)
      go (next.fails g h o l p) = clash (cc)
      go (next.waits g l p) = clash (cc)
      go (next.breaks number f p) = clash (cc)
      go (next.finds captured original o l f p) = clash (cc)

  pub find_turn : {from to original : ℕ} {rest : Input} → next_of buffer input ≡ found.Record from to original rest
      → Turn failed buffer input coming buffer rest coming (kept original (slice from to buffer) ∷ [])
  find_turn {from} {to} {original} {rest} e = go cases
    where
      go : Next input.opened input.big input.unread (bytes_in buffer input) (next_of buffer input)
          → Turn failed buffer input coming buffer rest coming (kept original (slice from to buffer) ∷ [])
      go (next.finds captured o opened l f p) =
          let at : ℕ = input.unread.at in
          let start : from ≡ at + 16 = cc in
          let end : to ≡ at + 16 + captured = cc in
          let there : original ≡ o = cc in
          let left : rest ≡ behind_of input.unread (16 + captured) input.big = cc in
          let part : slice (at + 16) (at + 16 + captured) buffer ≡ take captured (drop 16 (bytes_in buffer input)) = slice_part at input.unread.have 16 captured buffer (omega (arith, size, within)) within.1 in
          rw (left, start, end, there, part)
          (record {
            sane = sane_behind (16 + captured) input.big l;
            right = λ reports t. ap (λ (r : List Report). kept o (take captured (drop 16 (bytes_in buffer input))) ∷ r)
                (t ∙ ap (λ (b : List ℕ). closed failed (records_of input.big (b ++ coming))) (bytes_behind (16 + captured) input.big l))
                ∙ kept_closed failed o (take captured (drop 16 (bytes_in buffer input))) (records_of input.big (drop (16 + captured) (bytes_in buffer input) ++ coming))
                ∙ ap (closed failed) (sym (f coming));
          })
      go (next.nothing g h o l p) = clash (cc)
      go (next.fails g h o l p) = clash (cc)
      go (next.waits g l p) = clash (cc)
      go (next.breaks number f p) = clash (cc)
      go (next.opens big l f p) = clash (cc)

  -- a buffer with room for the longest record is not full
  unlost : ROOM ≤ length buffer → length (bytes_in buffer input) < ROOM → lost_of (length buffer) input.unread ≡ false
  unfolding lost_of
  unlost room h = rw k.entire (part (eqb input.unread.at 0) refl (eqb input.unread.have (length buffer)) refl)
    where
      part : (a : Bool) → eqb input.unread.at 0 ≡ a → (b : Bool) → eqb input.unread.have (length buffer) ≡ b → (a && b) ≡ false
      part false p b q = refl
      part true p false q = refl
      part true p true q =
          let start = eqb-true input.unread.at 0 p in
          let end = eqb-true input.unread.have (length buffer) q in
          absurd (omega (arith, size))

  more_turn : {r : Input} {buffer' coming' : List ℕ} → ROOM ≤ length buffer → next_of buffer input ≡ found.More → Refilled buffer input r buffer'
      → length buffer' ≡ length buffer → coming ≡ slice (length (kept_of buffer input.unread)) r.unread.have buffer' ++ coming'
      → (r.unread.ended ≡ true → (r.unread.failed ≡ failed) × (coming' ≡ [])) → Turn failed buffer input coming buffer' r coming' []
  unfolding kept_of slice
  more_turn {r} {buffer'} {coming'} room e f same c d = go cases
    where
      held : List ℕ
      held = kept_of buffer input.unread

      -- what is unread now, and what comes, is what was kept, and what came
      all : bytes_in buffer' r ++ coming' ≡ held ++ coming
      all =
          let filled : bytes_in buffer' r ≡ take r.unread.have buffer' = rw f.filled.start in
          let front : take (length held) (take r.unread.have buffer') ≡ held = take-take (length held) r.unread.have buffer' f.filled.least ∙ f.filled.kept in
          let got : List ℕ = drop (length held) (take r.unread.have buffer') in
          let parts = sym (take-append-drop (length held) (take r.unread.have buffer')) ∙ ap (λ (l : List ℕ). l ++ got) front in
          ap (λ (l : List ℕ). l ++ coming') (filled ∙ parts)
          ∙ append_assoc held got coming'
          ∙ ap (λ (l : List ℕ). held ++ l) (sym c)

      turn : length (bytes_in buffer input) < ROOM → Turn failed buffer input coming buffer' r coming' []
      turn h =
          let q = unlost room h in
          let keeps : held ≡ bytes_in buffer input = rw (k.tidy, q) in
          record {
            sane = record {
              tidy = tidy_made (length buffer') r.unread (omega (arith, f.filled.start)) (omega (arith, f.filled.most));
              done = d;
              entire = f.filled.over ∙ rw (k.tidy, q);
            };
            right = λ reports t. t ∙ rw (f.opened, f.big, all, keeps);
          }

      go : Next input.opened input.big input.unread (bytes_in buffer input) (next_of buffer input) → Turn failed buffer input coming buffer' r coming' []
      go (next.waits g l p) = turn l
      go (next.nothing g h o l p) = clash (cc)
      go (next.fails g h o l p) = clash (cc)
      go (next.breaks number g p) = clash (cc)
      go (next.opens big l g p) = clash (cc)
      go (next.finds captured original o l g p) = clash (cc)

-- ---- all turns

right_turns : {failed : Bool} {buffer : List ℕ} {input : Input} {coming : List ℕ} {reports : List Report} → ROOM ≤ length buffer → Sane failed buffer input coming
    → Turns failed buffer input coming reports → Right failed buffer input coming reports
right_turns o k (ends e) = end_turn k e
right_turns o k (refuses e) = refuse_turn k e
right_turns o k (opens e t) = let s = open_turn k e in s.right _ (right_turns o s.sane t)
right_turns o k (finds e t) = let s = find_turn k e in s.right _ (right_turns o s.sane t)
right_turns o k (more e f same c d t) = let s = more_turn k o e f same c d in s.right _ (right_turns (omega arith) s.sane t)

-- from the start on, every record of the file is reported, once and in order, and 25 or 26 where the file is refused or a read fails
pub every_record : {failed : Bool} (buffer coming : List ℕ) (reports : List Report) → ROOM ≤ length buffer → Turns failed buffer start_of coming reports
    → reports ≡ closed failed (reports_of coming)
unfolding slice
every_record buffer coming reports o t =
    right_turns o (record { tidy = tidy_made (length buffer) start_of.unread (omega arith) (omega arith); done = λ e. absurd (false≢true e); entire = refl }) t
