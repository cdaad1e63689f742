-- Every line of an input is reported once and in order, in whatever pieces the input comes. Assumes nothing.
use mathlib.Core.Path.{◌≡◌, refl, sym, ap, ◌∙◌}
use mathlib.Core.Bool.{Bool, true, false, true≢false, false≢true, ◌&&◌, and-eq-true_iff}
use mathlib.Core.List.{List, [], ◌∷◌, ◌++◌, map, append_assoc}
use Prim.Native.Nat.{ℕ, suc, ◌+◌, ◌-◌, ◌≤◌, ◌<◌}
use native.Mathlib.Omega.{arith}
use borrow.Author.Tests.{eqb-true, eqb-false, le-leb}
use lib.Dec.{eqb}
use lib.ListN.{length, take, drop, take-append-drop}
use lib.Seq.{take-take, drop-drop}
use Rattle.facts.proofs.Tests.{neither, clash}
use Rattle.octets.specs.Bytes.{slice}
use Rattle.lines.specs.declared.Input.{Input}
use Rattle.lines.specs.declared.Found.TheVariants.{More, End, Line, Over, Failed}
use Rattle.lines.specs.Unread.{start_of, tidy_of, rest_of, next_of, lost_of, kept_of, Filled}
use Rattle.lines.specs.Reports.{ended_of, Report, whole, dropped, report_of, reports_of, Turns, ends, fails, line, over, more}
use Rattle.lines.proofs.Laws.{tidy_is, slice_is, unread, stop, unread_length, next_cases}
use Rattle.lines.proofs.Laws.{Next, a_line, a_dropped, last_line, last_dropped, unended, nothing, unreadable}
use Rattle.lines.proofs.Split.{meant, meant_end, meant_line, meant_over, meant_on, meant_full, meant_last, meant_lost, meant_none}

-- ---- what is unread, and what is dropped

tidy_made : (size : ℕ) (input : Input) → input.at ≤ input.have → input.have ≤ size → tidy_of size input ≡ true
unfolding tidy_of
tidy_made size input h g = rw (le-leb input.at input.have h, le-leb input.have size g)

no_bytes : (bytes : List ℕ) → length bytes ≡ 0 → bytes ≡ []
no_bytes [] h = refl
no_bytes (byte ∷ bytes) h = absurd (omega arith)

-- the first bytes of a stretch
slice_take : (from to n : ℕ) (l : List ℕ) → from ≤ to → to ≤ length l → n ≤ to - from → slice from (from + n) l ≡ take n (slice from to l)
slice_take from to n l h g k =
    let e : from + n - from ≡ n = omega arith in
    slice_is from (from + n) l (omega arith) (omega arith)
    ∙ ap (λ (m : ℕ). take m (drop from l)) e
    ∙ sym (ap (take n) (slice_is from to l h g) ∙ take-take n (to - from) (drop from l) k)

-- a line is dropped that fills the buffer, and one that is kept doesn't
module _ (size : ℕ) (input : Input) where
  lost_full : lost_of size input ≡ true → input.over ≡ false → (input.at ≡ 0) × (input.have ≡ size)
  unfolding lost_of
  lost_full e h =
      let k = (and-eq-true_iff (eqb input.at 0) (eqb input.have size)).0 (rw h at e) in
      (eqb-true input.at 0 k.0, eqb-true input.have size k.1)

  lost_not : 0 < size → input.have ≤ size → lost_of size input ≡ false → (input.over ≡ false) × (input.have - input.at < size)
  unfolding lost_of
  lost_not o h e =
      let k = neither input.over (eqb input.at 0 && eqb input.have size) e in
      (k.0, go (eqb input.at 0) refl (eqb input.have size) refl k.1)
    where
      go : (a : Bool) → eqb input.at 0 ≡ a → (b : Bool) → eqb input.have size ≡ b → (a && b) ≡ false → input.have - input.at < size
      go true p true q l = absurd (true≢false l)
      go true p false q l = let g : input.have ≡ size → ⊥ = eqb-false input.have size q in omega arith
      go false p b q l = let g : input.at ≡ 0 → ⊥ = eqb-false input.at 0 p in omega arith

-- ---- a turn

-- what holds between two turns: at the end of the input nothing comes, and whether a read failed is known; a read fails at the end alone; what is
-- unread has room with a newline
record Sane (failed : Bool) (buffer : List ℕ) (input : Input) (coming : List ℕ) : Type 0 where
  tidy : tidy_of (length buffer) input ≡ true
  done : input.ended ≡ true → (input.failed ≡ failed) × (coming ≡ [])
  last : input.failed ≡ true → input.ended ≡ true
  short : input.ended ≡ true → input.over ≡ false → length (unread buffer input) < length buffer

-- the reports from here on are those that are meant
abbrev Right : Bool → List ℕ → Input → List ℕ → List Report → Type 0
Right failed buffer input coming reports = reports ≡ meant failed (length buffer) input.over (unread buffer input ++ coming)

-- a turn to another input keeps that, where it makes n reports itself
record Turn (failed : Bool) (buffer : List ℕ) (input : Input) (coming buffer' : List ℕ) (input' : Input) (coming' : List ℕ) (own : List Report) : Type 0 where
  sane : Sane failed buffer' input' coming'
  right : (reports : List Report) → Right failed buffer' input' coming' reports → Right failed buffer input coming (own ++ reports)

module _ {failed : Bool} {buffer : List ℕ} {input : Input} {coming : List ℕ} (o : 0 < length buffer) (k : Sane failed buffer input coming) where
  within : (input.at ≤ input.have) × (input.have ≤ length buffer)
  within = tidy_is (length buffer) input k.tidy

  size : length (unread buffer input) ≡ input.have - input.at
  size = unread_length buffer input k.tidy

  sane_rest : (at : ℕ) → at ≤ input.have → input.have - at < length buffer → Sane failed buffer (rest_of input at) coming
  sane_rest at h g =
      let t : tidy_of (length buffer) (rest_of input at) ≡ true = tidy_made (length buffer) (rest_of input at) h within.1 in
      record { tidy = t; done = k.done; last = k.last; short = λ e l. rw (unread_length buffer (rest_of input at) t) g }

  -- behind a newline
  module _ (h : stop buffer input < length (unread buffer input)) where
    sane_behind : Sane failed buffer (rest_of input (input.at + stop buffer input + 1)) coming
    sane_behind = sane_rest (input.at + stop buffer input + 1) (omega (arith, size)) (omega (arith, size, within))

    line_bytes : slice input.at (input.at + stop buffer input) buffer ≡ take (stop buffer input) (unread buffer input)
    line_bytes = slice_take input.at input.have (stop buffer input) buffer within.0 within.1 (omega (arith, size))

    rest_behind : meant failed (length buffer) false (unread buffer (rest_of input (input.at + stop buffer input + 1)) ++ coming)
        ≡ meant failed (length buffer) false (drop (suc (stop buffer input)) (unread buffer input) ++ coming)
    unfolding slice
    rest_behind =
        let n = stop buffer input in
        let e : input.at + n + 1 ≡ input.at + suc n = omega arith in
        let filled : List ℕ = take input.have buffer in
        ap (λ (l : List ℕ). meant failed (length buffer) false (l ++ coming)) (ap (λ (m : ℕ). drop m filled) e ∙ sym (drop-drop (suc n) input.at filled))

  -- at the end
  module _ (g : input.ended ≡ true) where
    sane_end : Sane failed buffer (rest_of input input.have) coming
    sane_end = sane_rest input.have (omega arith) (omega arith)

    none_left : meant failed (length buffer) false (unread buffer (rest_of input input.have) ++ coming) ≡ []
    none_left =
        let last : Input = rest_of input input.have in
        rw ((k.done g).1, no_bytes (unread buffer last) (unread_length buffer last sane_end.tidy ∙ omega arith)) (meant_end failed (length buffer))

  end_turn : next_of buffer input ≡ End → Right failed buffer input coming []
  end_turn e = go (next_cases buffer input k.tidy)
    where
      go : Next buffer input (next_of buffer input) → Right failed buffer input coming []
      go (nothing f g v l p) = let none : unread buffer input ≡ [] = no_bytes (unread buffer input) (size ∙ omega arith) in rw (v, none, (k.done g).1) (sym (meant_end failed (length buffer)))
      go (a_line h v p) = clash (cc)
      go (a_dropped h v p) = clash (cc)
      go (last_line h f g v l p) = clash (cc)
      go (last_dropped h f g v p) = clash (cc)
      go (unended h g p) = clash (cc)
      go (unreadable h f p) = clash (cc)

  -- where a read failed, nothing is reported of the line that didn't end
  fail_turn : next_of buffer input ≡ Failed → Right failed buffer input coming []
  fail_turn e = go (next_cases buffer input k.tidy)
    where
      go : Next buffer input (next_of buffer input) → Right failed buffer input coming []
      go (unreadable h f p) =
          let d = k.done (k.last f) in
          rw d.1 (sym (meant_none (length buffer) input.over (unread buffer input) (sym d.0 ∙ f) h))
      go (nothing f g v l p) = clash (cc)
      go (a_line h v p) = clash (cc)
      go (a_dropped h v p) = clash (cc)
      go (last_line h f g v l p) = clash (cc)
      go (last_dropped h f g v p) = clash (cc)
      go (unended h g p) = clash (cc)

  line_turn : {from to : ℕ} {rest : Input} → next_of buffer input ≡ Line from to rest
      → Turn failed buffer input coming buffer rest coming (whole (slice from to buffer) ∷ [])
  line_turn {from} {to} {rest} e = go (next_cases buffer input k.tidy)
    where
      go : Next buffer input (next_of buffer input) → Turn failed buffer input coming buffer rest coming (whole (slice from to buffer) ∷ [])
      go (a_line h v p) =
          let start : from ≡ input.at = cc in
          let end : to ≡ input.at + stop buffer input = cc in
          let left : rest ≡ rest_of input (input.at + stop buffer input + 1) = cc in
          let own : Report = whole (take (stop buffer input) (unread buffer input)) in
          let meant' = meant_line failed (length buffer) (unread buffer input) coming h (omega (arith, size, within)) in
          rw (left, start, end, line_bytes h)
          (record { sane = sane_behind h; right = λ reports t. rw v (ap (λ (r : List Report). own ∷ r) (t ∙ rest_behind h) ∙ sym meant') })
      go (last_line h f g v l p) =
          let start : from ≡ input.at = cc in
          let end : to ≡ input.have = cc in
          let left : rest ≡ rest_of input input.have = cc in
          let own : Report = whole (unread buffer input) in
          let meant' = meant_last (length buffer) (sym (k.done g).0 ∙ f) (unread buffer input) h (omega (arith, size)) (k.short g v) in
          rw (left, start, end)
          (record { sane = sane_end g; right = λ reports t. rw v (ap (λ (r : List Report). own ∷ r) (t ∙ none_left g) ∙ sym (rw (k.done g).1 meant')) })
      go (a_dropped h v p) = clash (cc)
      go (last_dropped h f g v p) = clash (cc)
      go (unended h g p) = clash (cc)
      go (unreadable h f p) = clash (cc)
      go (nothing f g v l p) = clash (cc)

  over_turn : {rest : Input} → next_of buffer input ≡ Over rest → Turn failed buffer input coming buffer rest coming (dropped ∷ [])
  over_turn {rest} e = go (next_cases buffer input k.tidy)
    where
      go : Next buffer input (next_of buffer input) → Turn failed buffer input coming buffer rest coming (dropped ∷ [])
      go (a_dropped h v p) =
          let left : rest ≡ rest_of input (input.at + stop buffer input + 1) = cc in
          let meant' = meant_over failed (length buffer) (unread buffer input) coming h in
          rw left
          (record { sane = sane_behind h; right = λ reports t. rw v (ap (λ (r : List Report). dropped ∷ r) (t ∙ rest_behind h) ∙ sym meant') })
      go (last_dropped h f g v p) =
          let left : rest ≡ rest_of input input.have = cc in
          let meant' =
          meant_on failed (length buffer) (unread buffer input) coming h
          ∙ ap (meant failed (length buffer) true) (k.done g).1
          ∙ meant_lost (length buffer) (sym (k.done g).0 ∙ f) in
          rw left
          (record { sane = sane_end g; right = λ reports t. rw v (ap (λ (r : List Report). dropped ∷ r) (t ∙ none_left g) ∙ sym meant') })
      go (a_line h v p) = clash (cc)
      go (last_line h f g v l p) = clash (cc)
      go (unended h g p) = clash (cc)
      go (unreadable h f p) = clash (cc)
      go (nothing f g v l p) = clash (cc)

  more_turn : {r : Input} {buffer' coming' : List ℕ} → next_of buffer input ≡ More → Filled buffer input r buffer'
      → length buffer' ≡ length buffer → coming ≡ slice (length (kept_of buffer input)) r.have buffer' ++ coming' → (r.ended ≡ true → (r.failed ≡ failed) × (coming' ≡ []))
      → Turn failed buffer input coming buffer' r coming' []
  unfolding kept_of slice
  more_turn {r} {buffer'} {coming'} e f same c d = go (next_cases buffer input k.tidy)
    where
      kept : List ℕ
      kept = kept_of buffer input

      -- what is unread now, and what comes, is what was kept, and what came
      all : unread buffer' r ++ coming' ≡ kept ++ coming
      all =
          let filled : unread buffer' r ≡ take r.have buffer' = rw f.start in
          let front : take (length kept) (take r.have buffer') ≡ kept = take-take (length kept) r.have buffer' f.least ∙ f.kept in
          let got : List ℕ = drop (length kept) (take r.have buffer') in
          let parts = sym (take-append-drop (length kept) (take r.have buffer')) ∙ ap (λ (l : List ℕ). l ++ got) front in
          ap (λ (l : List ℕ). l ++ coming') (filled ∙ parts)
          ∙ append_assoc kept got coming'
          ∙ ap (λ (l : List ℕ). kept ++ l) (sym c)

      tidied : tidy_of (length buffer') r ≡ true
      tidied = tidy_made (length buffer') r (omega (arith, f.start)) (omega (arith, f.most))

      drops : (v : Bool) → input.over ≡ v → stop buffer input ≡ length (unread buffer input) → lost_of (length buffer) input ≡ true
          → meant failed (length buffer) v (unread buffer input ++ coming) ≡ meant failed (length buffer) true coming
      drops true p h q = meant_on failed (length buffer) (unread buffer input) coming h
      drops false p h q =
          let full = lost_full (length buffer) input q p in
          meant_full failed (length buffer) (unread buffer input) coming h (omega (arith, size)) o

      turn : stop buffer input ≡ length (unread buffer input) → (b : Bool) → lost_of (length buffer) input ≡ b
          → Turn failed buffer input coming buffer' r coming' []
      turn h false q =
          let n = lost_not (length buffer) input o within.1 q in
          let over' : r.over ≡ false = f.over ∙ rw (k.tidy, q) in
          let bytes : kept ≡ unread buffer input = rw (k.tidy, q) in
          let full : r.ended ≡ true → r.have ≡ length kept = λ g. eqb-true r.have (length kept) (sym f.ended ∙ g) in
          let left = unread_length buffer' r tidied in
          let same_bytes = all ∙ ap (λ (l : List ℕ). l ++ coming) bytes in
          record {
            sane = record { tidy = tidied; done = d; last = f.failed; short = λ g l. omega (arith, full g, ap length bytes, size) };
            right = λ reports t. t ∙ rw (same, over', n.0) (ap (meant failed (length buffer) false) same_bytes);
          }
      turn h true q =
          let over' : r.over ≡ true = f.over ∙ rw (k.tidy, q) in
          let bytes : kept ≡ [] = rw (k.tidy, q) in
          let same_bytes = all ∙ ap (λ (l : List ℕ). l ++ coming) bytes in
          record {
            sane = record { tidy = tidied; done = d; last = f.failed; short = λ g l. absurd (true≢false (sym over' ∙ l)) };
            right = λ reports t. t ∙ rw (same, over') (ap (meant failed (length buffer) true) same_bytes) ∙ sym (drops input.over refl h q);
          }

      go : Next buffer input (next_of buffer input) → Turn failed buffer input coming buffer' r coming' []
      go (unended h g p) = turn h (lost_of (length buffer) input) refl
      go (unreadable h f p) = clash (cc)
      go (a_line h v p) = clash (cc)
      go (a_dropped h v p) = clash (cc)
      go (last_line h f g v l p) = clash (cc)
      go (last_dropped h f g v p) = clash (cc)
      go (nothing f g v l p) = clash (cc)

-- ---- all turns

right_turns : {failed : Bool} {buffer : List ℕ} {input : Input} {coming : List ℕ} {reports : List Report} → 0 < length buffer
    → Sane failed buffer input coming → Turns failed buffer input coming reports → Right failed buffer input coming reports
right_turns o k (ends e) = end_turn o k e
right_turns o k (fails e) = fail_turn o k e
right_turns o k (line e t) = let s = line_turn o k e in s.right _ (right_turns o s.sane t)
right_turns o k (over e t) = let s = over_turn o k e in s.right _ (right_turns o s.sane t)
right_turns o k (more e f same c d t) = let s = more_turn o k e f same c d in s.right _ (right_turns (omega arith) s.sane t)

module _ (buffer coming : List ℕ) (reports : List Report) (o : 0 < length buffer) where
  start_sane : (failed : Bool) → Sane failed buffer start_of coming
  start_sane failed = record {
    tidy = tidy_made (length buffer) start_of (omega arith) (omega arith);
    done = λ e. absurd (false≢true e);
    last = λ e. absurd (false≢true e);
    short = λ e. absurd (false≢true e);
  }

  -- from the start on, every line of the input is reported, once and in order
  pub every_line : Turns false buffer start_of coming reports → reports ≡ reports_of (length buffer) coming
  unfolding slice
  every_line t = right_turns o (start_sane false) t

  -- where a read fails, every line that ended before it, and no other
  pub failed_lines : Turns true buffer start_of coming reports → reports ≡ map (report_of (length buffer)) (ended_of coming)
  unfolding slice
  failed_lines t = right_turns o (start_sane true) t
