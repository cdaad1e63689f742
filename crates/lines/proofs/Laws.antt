-- What is unread, moved and read. Assumes nothing.
use mathlib.Core.Path.{◌≡◌, refl, sym, ap, ◌∙◌}
use mathlib.Core.Bool.{Bool, true, false, true≢false, cond, ◌&&◌, ◌||◌, and-eq-true_iff}
use mathlib.Core.List.{List, [], ◌∷◌}
use Rattle.std.specs.Prelude.{Result, Ok, Err, is_err}
use Prim.Native.Nat.{ℕ, suc, ◌+◌, ◌-◌, ◌≤◌, ◌<◌}
use native.Mathlib.Omega.{arith}
use borrow.Author.Tests.{lt-ltb, le-ltb, ltb-true, ltb-false, leb-true, eq-eqb}
use borrow.Rule.Slice.PartMut.{mid_of, put_mid, take_put, mid_len}
use lib.Dec.{ltb, leb, eqb}
use lib.ListN.{length, take, drop, length-drop}
use lib.Seq.{length-take-le, take-add, drop_at, paste, take-paste, length-paste}
use Rattle.facts.proofs.Tests.{clash}
use Rattle.octets.specs.Bytes.{index_of, index_after, slice}
use Rattle.lines.specs.declared.Input.{Input}
use Rattle.lines.specs.declared.Found.{Found}
use Rattle.lines.specs.declared.Found.TheVariants.{More, End, Line, Over, Failed}
use Rattle.lines.specs.Unread.{tidy_of, rest_of, line_of, last_of, found_of, next_of, lost_of, kept_of, got_of, read_of, Behind, Filled}

-- ---- where what is unread lies

pub tidy_is : (size : ℕ) (input : Input) → tidy_of size input ≡ true → (input.at ≤ input.have) × (input.have ≤ size)
unfolding tidy_of
tidy_is size input e =
    let k = (and-eq-true_iff (leb input.at input.have) (leb input.have size)).0 e in
    (leb-true _ _ k.0, leb-true _ _ k.1)

-- ---- what stands next

module _ (input : Input) where
  pub last_is : (b : Bool) → (input.over || ltb input.at input.have) ≡ b
      → cond b (line_of input input.have input.have) End ≡ last_of input
  unfolding last_of
  last_is b e = rw e

  module _ (buffer : List ℕ) where
    pub next_end : tidy_of (length buffer) input ≡ false → End ≡ next_of buffer input
    unfolding next_of
    next_end t = rw t

    module _ {to : ℕ} (t : tidy_of (length buffer) input ≡ true) (e : to ≡ input.at + index_of 10 (slice input.at input.have buffer)) where
      found_is : found_of input to ≡ next_of buffer input
      unfolding next_of
      found_is = rw t (ap (found_of input) e)

      pub next_line : to < input.have → line_of input to (to + 1) ≡ next_of buffer input
      unfolding found_of
      next_line h = sym (rw (lt-ltb to input.have h)) ∙ found_is

      module _ (h : input.have ≤ to) where
        pub next_failed : input.failed ≡ true → Failed ≡ next_of buffer input
        unfolding found_of
        next_failed f = sym (rw (le-ltb to input.have h, f)) ∙ found_is

        pub next_last : input.failed ≡ false → input.ended ≡ true → last_of input ≡ next_of buffer input
        unfolding found_of
        next_last f g = sym (rw (le-ltb to input.have h, f, g)) ∙ found_is

        pub next_more : input.failed ≡ false → input.ended ≡ false → More ≡ next_of buffer input
        unfolding found_of
        next_more f g = sym (rw (le-ltb to input.have h, f, g)) ∙ found_is

-- ---- reading more

-- a read that failed left no byte
none_came : {E : Type 0} (answer : Result ℕ E) → is_err answer ≡ true → got_of answer ≡ 0
none_came (Ok n) e = clash e
none_came (Err x) e = refl

-- what a read leaves in the part behind the bytes that are kept
pub behind_is : {E : Type 0} (buffer : List ℕ) (kept : ℕ) (answer : Result ℕ E) (dropped : Bool) (part : List ℕ) {r : Input} → kept ≤ length buffer
    → length part ≡ length (mid_of kept (length buffer - kept) buffer) → got_of answer ≤ length part
    → r ≡ read_of answer kept dropped → Behind buffer kept dropped r (put_mid kept (length buffer - kept) buffer part)
behind_is buffer kept answer dropped part h e l p =
    let room : length (mid_of kept (length buffer - kept) buffer) ≡ length buffer - kept = mid_len kept (length buffer) buffer (omega arith) in
    rw p
    (record {
      start = refl;
      stays = take_put kept (length buffer - kept) buffer part h;
      least = omega arith;
      most = omega arith;
      over = refl;
      ended = refl;
      failed = λ f. let z = none_came answer f in eq-eqb (kept + got_of answer) kept (omega (arith, z));
    })

-- a stretch of a list, taken from its start or from its end
pub slice_is : (from to : ℕ) (l : List ℕ) → from ≤ to → to ≤ length l → slice from to l ≡ take (to - from) (drop from l)
unfolding slice
slice_is from to l h g =
    let e : to ≡ from + (to - from) = omega arith in
    ap (λ (n : ℕ). drop from (take n l)) e
    ∙ ap (drop from) (take-add from (to - from) l)
    ∙ drop_at (take from l) (take (to - from) (drop from l)) from (length-take-le from l (omega arith))

module _ (buffer : List ℕ) (input : Input) where
  -- what is kept stands at the start of a buffer, and more is read behind it
  filled_is : {buffer₁ : List ℕ} {n : ℕ} {dropped : Bool} {r : Input} {buffer₂ : List ℕ} → length buffer₁ ≡ length buffer
      → n ≤ length buffer₁ → kept_of buffer input ≡ take n buffer₁ → (tidy_of (length buffer) input && lost_of (length buffer) input) ≡ dropped
      → (tidy_of (length buffer) input ≡ false → (r.have ≡ 0) × (r.failed ≡ false) × (buffer₂ ≡ buffer)) → Behind buffer₁ n dropped r buffer₂ → Filled buffer input r buffer₂
  filled_is {buffer₁} {n} {dropped} {r} {buffer₂} size h kept lost untidy k =
      let count : length (kept_of buffer input) ≡ n = ap length kept ∙ length-take-le n buffer₁ h in
      record {
        start = k.start;
        kept = rw count (k.stays ∙ sym kept);
        least = omega (arith, k.least);
        most = omega (arith, k.most);
        over = k.over ∙ sym lost;
        ended = rw count k.ended;
        failed = k.failed;
        untidy = untidy;
      }

  pub filled_none : tidy_of (length buffer) input ≡ false → Filled buffer input (record { at = 0; have = 0; over = false; ended = true; failed = false }) buffer
  unfolding kept_of
  filled_none t =
      let none : Behind buffer 0 false (record { at = 0; have = 0; over = false; ended = true; failed = false }) buffer =
      record { start = refl; stays = refl; least = omega arith; most = omega arith; over = refl; ended = refl; failed = λ f. refl } in
      filled_is refl (omega arith) (rw t) (rw t) (λ e. (refl, refl, refl)) none

  module _ (t : tidy_of (length buffer) input ≡ true) where
    pub filled_lost : {r : Input} {buffer₂ : List ℕ} → lost_of (length buffer) input ≡ true → Behind buffer 0 true r buffer₂
        → Filled buffer input r buffer₂
    unfolding kept_of
    filled_lost lost k = filled_is refl (omega arith) (rw (t, lost)) (rw (t, lost)) (λ e. absurd (true≢false (sym t ∙ e))) k

    pub filled_kept : {buffer₁ : List ℕ} {r : Input} {buffer₂ : List ℕ} → lost_of (length buffer) input ≡ false
        → buffer₁ ≡ paste buffer 0 (drop input.at buffer) (input.have - input.at)
        → Behind buffer₁ (input.have - input.at) false r buffer₂ → Filled buffer input r buffer₂
    unfolding kept_of
    filled_kept {buffer₁} lost moved k =
        let within = tidy_is (length buffer) input t in
        let n : ℕ = input.have - input.at in
        let fits : n ≤ length (drop input.at buffer) = simp length-drop (omega arith) in
        let size : length buffer₁ ≡ length buffer = ap length moved ∙ length-paste buffer 0 (drop input.at buffer) n (omega arith) fits in
        let z : n ≡ 0 + n = omega arith in
        let rest : List ℕ = drop input.at buffer in
        let pasted = ap (λ (m : ℕ). take m (paste buffer 0 rest n)) z ∙ take-paste buffer 0 rest n (omega arith) fits in
        let front : take n buffer₁ ≡ take n rest = rw moved pasted in
        let bytes = slice_is input.at input.have buffer within.0 within.1 ∙ sym front in
        filled_is size (omega arith) (rw (t, lost) bytes) (rw (t, lost)) (λ e. absurd (true≢false (sym t ∙ e))) k

-- ---- the ways to find what stands next

-- the unread bytes, and where their first newline stands, or they end
abbrev pub unread : List ℕ → Input → List ℕ
unread buffer input = slice input.at input.have buffer

abbrev pub stop : List ℕ → Input → ℕ
stop buffer input = index_of 10 (unread buffer input)

pub data Next (buffer : List ℕ) (input : Input) (found : Found) : Type 0 where
  a_line : stop buffer input < length (unread buffer input) → input.over ≡ false
      → found ≡ Line input.at (input.at + stop buffer input) (rest_of input (input.at + stop buffer input + 1)) → Next buffer input found
  a_dropped : stop buffer input < length (unread buffer input) → input.over ≡ true
      → found ≡ Over (rest_of input (input.at + stop buffer input + 1)) → Next buffer input found
  last_line : stop buffer input ≡ length (unread buffer input) → input.failed ≡ false → input.ended ≡ true → input.over ≡ false → input.at < input.have
      → found ≡ Line input.at input.have (rest_of input input.have) → Next buffer input found
  last_dropped : stop buffer input ≡ length (unread buffer input) → input.failed ≡ false → input.ended ≡ true → input.over ≡ true
      → found ≡ Over (rest_of input input.have) → Next buffer input found
  unended : stop buffer input ≡ length (unread buffer input) → input.ended ≡ false → found ≡ More → Next buffer input found
  nothing : input.failed ≡ false → input.ended ≡ true → input.over ≡ false → input.have ≤ input.at → found ≡ End → Next buffer input found
  unreadable : stop buffer input ≡ length (unread buffer input) → input.failed ≡ true → found ≡ Failed → Next buffer input found

index_most : (bytes : List ℕ) → index_of 10 bytes ≤ length bytes
unfolding index_of index_after
index_most [] = omega arith
index_most (byte ∷ bytes) = go (eqb byte 10) (index_most bytes)
  where
    go : (b : Bool) → index_of 10 bytes ≤ length bytes → index_after b (index_of 10 bytes) ≤ suc (length bytes)
    go true h = omega arith
    go false h = omega arith

module _ (buffer : List ℕ) (input : Input) (t : tidy_of (length buffer) input ≡ true) where
  pub unread_length : length (unread buffer input) ≡ input.have - input.at
  unfolding slice
  unread_length = let within = tidy_is (length buffer) input t in simp (length-drop, length-take-le input.have buffer within.1)

  pub next_cases : Next buffer input (next_of buffer input)
  unfolding next_of found_of last_of line_of
  next_cases =
      rw t (go (ltb to input.have) refl input.failed refl input.ended refl input.over refl (ltb input.at input.have) refl)
    where
      to : ℕ
      to = input.at + stop buffer input

      there : ltb to input.have ≡ true → stop buffer input < length (unread buffer input)
      there q = omega (arith, ltb-true to input.have q, unread_length)

      none : ltb to input.have ≡ false → stop buffer input ≡ length (unread buffer input)
      none q =
          let within = tidy_is (length buffer) input t in
          omega (arith, ltb-false to input.have q, unread_length, index_most (unread buffer input))

      line : Bool → ℕ → ℕ → Found
      line v end at = cond v (Over (rest_of input at)) (Line input.at end (rest_of input at))

      go : (b : Bool) → ltb to input.have ≡ b → (f : Bool) → input.failed ≡ f → (e : Bool) → input.ended ≡ e
          → (v : Bool) → input.over ≡ v → (l : Bool) → ltb input.at input.have ≡ l
          → Next buffer input (cond b (line v to (to + 1)) (cond f Failed (cond e (cond (v || l) (line v input.have input.have) End) More)))
      go true q f qf e qe true qv l ql = a_dropped (there q) qv refl
      go true q f qf e qe false qv l ql = a_line (there q) qv refl
      go false q true qf e qe v qv l ql = unreadable (none q) qf refl
      go false q false qf true qe true qv l ql = last_dropped (none q) qf qe qv refl
      go false q false qf true qe false qv true ql = last_line (none q) qf qe qv (ltb-true input.at input.have ql) refl
      go false q false qf true qe false qv false ql = nothing qf qe qv (ltb-false input.at input.have ql) refl
      go false q false qf false qe v qv l ql = unended (none q) qe refl

-- what a caller goes by: a line that is found lies within the buffer
pub next_inside : (buffer : List ℕ) (input : Input) {from to : ℕ} {rest : Input} → next_of buffer input ≡ Line from to rest
    → (from ≤ to) × (to ≤ length buffer)
next_inside buffer input {from} {to} {rest} e = go (tidy_of (length buffer) input) refl
  where
    inside : tidy_of (length buffer) input ≡ true → Next buffer input (next_of buffer input) → (from ≤ to) × (to ≤ length buffer)
    inside t (a_line h v p) =
        let within = tidy_is (length buffer) input t in
        let start : from ≡ input.at = cc in
        let end : to ≡ input.at + stop buffer input = cc in
        omega (arith, unread_length buffer input t)
    inside t (last_line h f g v l p) =
        let within = tidy_is (length buffer) input t in
        let start : from ≡ input.at = cc in
        let end : to ≡ input.have = cc in
        omega arith
    inside t (a_dropped h v p) = clash (cc)
    inside t (last_dropped h f g v p) = clash (cc)
    inside t (unended h g p) = clash (cc)
    inside t (nothing f g v l p) = clash (cc)
    inside t (unreadable h f p) = clash (cc)

    go : (b : Bool) → tidy_of (length buffer) input ≡ b → (from ≤ to) × (to ≤ length buffer)
    go true t = inside t (next_cases buffer input t)
    go false t = let p = next_end input buffer t in clash (cc)
