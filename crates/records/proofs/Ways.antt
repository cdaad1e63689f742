-- What stands next, and what it says of the file, whatever comes behind the bytes that are unread. Assumes nothing.
use mathlib.Core.Path.{◌≡◌, refl, sym, ◌∙◌}
use mathlib.Core.Bool.{Bool, true, false, cond}
use mathlib.Core.List.{List, [], ◌∷◌, ◌++◌, append-nil}
use Prim.Native.Nat.{ℕ, ◌+◌, ◌-◌, ◌≤◌, ◌<◌}
use native.Mathlib.Omega.{arith}
use borrow.Author.Tests.{le-ltb, ltb-true, ltb-false, eqb-true, eqb-false}
use lib.Dec.{ltb, eqb}
use lib.ListN.{length, take, drop, length-append, length-drop}
use lib.Seq.{take-append-le, drop-append-le}
use Rattle.facts.proofs.Tests.{clash}
use Rattle.quantity.specs.Refusals.{FILE-HEAD, RECORD}
use Rattle.lines.specs.declared.Input as lines
use Rattle.lines.specs.Unread as pieces
use Rattle.lines.proofs.Laws.{tidy_is, slice_is, unread_length}
use Rattle.records.specs.declared.Input.{Input}
use Rattle.records.specs.declared.Order.{Order}
use Rattle.records.specs.declared.Found.{Found}
use Rattle.records.specs.declared.Found.TheVariants as found
use Rattle.records.specs.Heads.{captured_in, original_in, order_of}
use Rattle.records.specs.Unread.{LONGEST, ROOM, behind_of, opened_by, head_found, record_found, bytes_in, next_of}
use Rattle.records.specs.Files.{Report, kept, refused, whole, broken, first_of, records_of, report_by, reports_of}
use Rattle.records.proofs.Files.{number_front, first_head, first_long, first_cut, first_whole, records_broken, records_whole}

-- what is to be reported of a file from its start, or of an opened one from a record on
abbrev pub meant : Bool → Bool → List ℕ → List Report
meant true big bytes = records_of big bytes
meant false big bytes = reports_of bytes

-- where nothing more comes once the input is at its end
abbrev pub Coming : lines.Input → List ℕ → Type 0
Coming unread coming = unread.ended ≡ true → coming ≡ []

pub data Next (opened big : Bool) (unread : lines.Input) (bytes : List ℕ) (f : Found) : Type 0 where
  nothing : unread.ended ≡ true → unread.failed ≡ false → opened ≡ true → length bytes ≡ 0 → f ≡ found.End → Next opened big unread bytes f
  fails : unread.ended ≡ true → unread.failed ≡ true → opened ≡ true → length bytes ≡ 0 → f ≡ found.Refused RECORD → Next opened big unread bytes f
  waits : unread.ended ≡ false → length bytes < ROOM → f ≡ found.More → Next opened big unread bytes f
  breaks : (number : ℕ) → ((coming : List ℕ) → Coming unread coming → meant opened big (bytes ++ coming) ≡ refused number ∷ [])
      → f ≡ found.Refused number → Next opened big unread bytes f
  opens : (big' : Bool) → 24 ≤ length bytes
      → ((coming : List ℕ) → meant opened big (bytes ++ coming) ≡ records_of big' (drop 24 bytes ++ coming))
      → f ≡ found.Head (behind_of unread 24 big') → Next opened big unread bytes f
  finds : (captured original : ℕ) → opened ≡ true → 16 + captured ≤ length bytes
      → ((coming : List ℕ) → meant opened big (bytes ++ coming) ≡ kept original (take captured (drop 16 bytes)) ∷ records_of big (drop (16 + captured) bytes ++ coming))
      → f ≡ found.Record (unread.at + 16) (unread.at + 16 + captured) original (behind_of unread (16 + captured) big) → Next opened big unread bytes f

module _ (unread : lines.Input) (bytes : List ℕ) where
  -- nothing comes behind what is unread
  alone : (coming : List ℕ) → Coming unread coming → unread.ended ≡ true → bytes ++ coming ≡ bytes
  alone coming c e = rw (c e) (append-nil bytes)

  -- ---- the head

  module _ (big : Bool) where
    head_cases : Next false big unread bytes (head_found bytes unread)
    unfolding head_found reports_of
    head_cases = go (ltb (length bytes) 24) refl unread.ended refl (order_of (take 24 bytes)) refl
      where
        long : 24 ≤ length bytes → (coming : List ℕ) → ltb (length (bytes ++ coming)) 24 ≡ false
        long h coming = le-ltb (length (bytes ++ coming)) 24 (simp length-append (omega arith))

        told : 24 ≤ length bytes → (order : Order) → order_of (take 24 bytes) ≡ order → (coming : List ℕ)
            → cond (ltb (length (bytes ++ coming)) 24) (refused FILE-HEAD ∷ []) (report_by (order_of (take 24 (bytes ++ coming))) (drop 24 (bytes ++ coming)))
            ≡ report_by order (drop 24 bytes ++ coming)
        told h order e coming = rw (long h coming, take-append-le 24 bytes coming h, drop-append-le 24 bytes coming h, e)

        go : (a : Bool) → ltb (length bytes) 24 ≡ a → (ended : Bool) → unread.ended ≡ ended → (order : Order) → order_of (take 24 bytes) ≡ order
            → Next false big unread bytes (cond a (cond ended (found.Refused FILE-HEAD) found.More) (opened_by unread order))
        go true p true q order r =
            breaks FILE-HEAD (λ coming c. rw (alone coming c q, p)) refl
        go true p false q order r = waits q (let h = ltb-true (length bytes) 24 p in omega arith) refl
        go false p ended q Order.Bad r = breaks FILE-HEAD (λ coming c. told (ltb-false (length bytes) 24 p) Order.Bad r coming) refl
        go false p ended q Order.Little r =
            opens false (ltb-false (length bytes) 24 p) (λ coming. told (ltb-false (length bytes) 24 p) Order.Little r coming) refl
        go false p ended q Order.Big r =
            opens true (ltb-false (length bytes) 24 p) (λ coming. told (ltb-false (length bytes) 24 p) Order.Big r coming) refl

    -- ---- a record

    record_cases : Next true big unread bytes (record_found bytes unread big)
    unfolding record_found
    record_cases =
        go (eqb (length bytes) 0) refl (ltb (length bytes) 16) refl (ltb LONGEST (captured_in big bytes)) refl
        (ltb (length bytes - 16) (captured_in big bytes)) refl unread.ended refl unread.failed refl
      where
        captured : ℕ
        captured = captured_in big bytes

        same : 16 ≤ length bytes → (coming : List ℕ) → captured_in big (bytes ++ coming) ≡ captured
        same h coming = number_front big 8 bytes coming (omega arith)

        more : 16 ≤ length bytes → (coming : List ℕ) → 16 ≤ length (bytes ++ coming)
        more h coming = simp length-append (omega arith)

        ends : (coming : List ℕ) → Coming unread coming → unread.ended ≡ true → first_of big bytes ≡ broken → records_of big (bytes ++ coming) ≡ refused RECORD ∷ []
        ends coming c q e = rw (alone coming c q) (records_broken big bytes e)

        all_found : 16 ≤ length bytes → captured ≤ LONGEST → 16 + captured ≤ length bytes → (coming : List ℕ)
            → records_of big (bytes ++ coming) ≡ kept (original_in big bytes) (take captured (drop 16 bytes)) ∷ records_of big (drop (16 + captured) bytes ++ coming)
        all_found h k inside coming =
            let c = same h coming in
            let o : original_in big (bytes ++ coming) ≡ original_in big bytes = number_front big 12 bytes coming (omega arith) in
            let i : 16 + captured_in big (bytes ++ coming) ≤ length (bytes ++ coming) = rw c (simp length-append (omega arith)) in
            let s : captured_in big (bytes ++ coming) ≤ LONGEST = rw c k in
            let e : first_of big (bytes ++ coming) ≡ whole captured (original_in big bytes) = first_whole big (bytes ++ coming) i s ∙ rw (c, o) in
            let l : captured ≤ length (drop 16 bytes) = simp length-drop (omega arith) in
            records_whole big (bytes ++ coming) captured (original_in big bytes) e
            ∙ rw (drop-append-le 16 bytes coming h, take-append-le captured (drop 16 bytes) coming l, drop-append-le (16 + captured) bytes coming inside)

        go : (z : Bool) → eqb (length bytes) 0 ≡ z → (a : Bool) → ltb (length bytes) 16 ≡ a → (b : Bool) → ltb LONGEST captured ≡ b
            → (d : Bool) → ltb (length bytes - 16) captured ≡ d → (ended : Bool) → unread.ended ≡ ended → (failed : Bool) → unread.failed ≡ failed
            → Next true big unread bytes
            (cond z (cond ended (cond failed (found.Refused RECORD) found.End) found.More) (cond a (cond ended (found.Refused RECORD) found.More) (cond b (found.Refused RECORD) (cond d (cond ended (found.Refused RECORD) found.More)
            (found.Record (unread.at + 16) (unread.at + 16 + captured) (original_in big bytes) (behind_of unread (16 + captured) big))))))
        go true pz a pa b pb d pd true q true r = fails q r refl (eqb-true (length bytes) 0 pz) refl
        go true pz a pa b pb d pd true q false r = nothing q r refl (eqb-true (length bytes) 0 pz) refl
        go true pz a pa b pb d pd false q failed r = waits q (let h = eqb-true (length bytes) 0 pz in omega arith) refl
        go false pz true pa b pb d pd true q failed r =
            let o : length bytes ≡ 0 → ⊥ = eqb-false (length bytes) 0 pz in
            let h = ltb-true (length bytes) 16 pa in
            breaks RECORD (λ coming c. ends coming c q (first_head big bytes (omega arith) h)) refl
        go false pz true pa b pb d pd false q failed r = waits q (let h = ltb-true (length bytes) 16 pa in omega arith) refl
        go false pz false pa true pb d pd ended q failed r =
            let h = ltb-false (length bytes) 16 pa in
            let g = ltb-true LONGEST captured pb in
            breaks RECORD (λ coming c. records_broken big (bytes ++ coming) (first_long big (bytes ++ coming) (more h coming) (rw (same h coming) g))) refl
        go false pz false pa false pb true pd true q failed r =
            let h = ltb-false (length bytes) 16 pa in
            let g = ltb-true (length bytes - 16) captured pd in
            breaks RECORD (λ coming c. ends coming c q (first_cut big bytes h g)) refl
        go false pz false pa false pb true pd false q failed r =
            let h = ltb-false (length bytes) 16 pa in
            let k = ltb-false LONGEST captured pb in
            let g = ltb-true (length bytes - 16) captured pd in
            waits q (omega arith) refl
        go false pz false pa false pb false pd ended q failed r =
            let h : 16 ≤ length bytes = ltb-false (length bytes) 16 pa in
            let k : captured ≤ LONGEST = ltb-false LONGEST captured pb in
            let g : captured ≤ length bytes - 16 = ltb-false (length bytes - 16) captured pd in
            let inside : 16 + captured ≤ length bytes = omega arith in
            finds captured (original_in big bytes) refl inside (λ coming. all_found h k inside coming) refl

pub next_cases : (buffer : List ℕ) (input : Input) → pieces.tidy_of (length buffer) input.unread ≡ true
    → Next input.opened input.big input.unread (bytes_in buffer input) (next_of buffer input)
unfolding next_of
next_cases buffer input t = rw t (go input.opened)
  where
    go : (o : Bool) → Next o input.big input.unread (bytes_in buffer input)
        (cond o (record_found (bytes_in buffer input) input.unread input.big) (head_found (bytes_in buffer input) input.unread))
    go true = record_cases input.unread (bytes_in buffer input) input.big
    go false = head_cases input.unread (bytes_in buffer input) input.big

-- ---- what `next` answers, by its tests

module _ (buffer : List ℕ) (input : Input) where
  pub next_end : pieces.tidy_of (length buffer) input.unread ≡ false → found.End ≡ next_of buffer input
  unfolding next_of
  next_end t = rw t

  module _ (t : pieces.tidy_of (length buffer) input.unread ≡ true) where
    -- the part of the buffer that is lent
    part_is : take (input.unread.have - input.unread.at) (drop input.unread.at buffer) ≡ bytes_in buffer input
    part_is = let k = tidy_is (length buffer) input.unread t in sym (slice_is input.unread.at input.unread.have buffer k.0 k.1)

    pub part_fits : input.unread.at + length (take (input.unread.have - input.unread.at) (drop input.unread.at buffer)) ≤ input.unread.have
    part_fits = let k = tidy_is (length buffer) input.unread t in rw part_is (omega (arith, unread_length buffer input.unread t))

    pub next_record : input.opened ≡ true
        → record_found (take (input.unread.have - input.unread.at) (drop input.unread.at buffer)) input.unread input.big ≡ next_of buffer input
    unfolding next_of
    next_record o = rw (t, o, part_is)

    pub next_head : input.opened ≡ false
        → head_found (take (input.unread.have - input.unread.at) (drop input.unread.at buffer)) input.unread ≡ next_of buffer input
    unfolding next_of
    next_head o = rw (t, o, part_is)

-- what a caller goes by: a record that is found lies within the buffer
pub next_inside : (buffer : List ℕ) (input : Input) {from to original : ℕ} {rest : Input} → next_of buffer input ≡ found.Record from to original rest
    → (from ≤ to) × (to ≤ length buffer)
next_inside buffer input {from} {to} {original} {rest} e = go (pieces.tidy_of (length buffer) input.unread) refl
  where
    inside : pieces.tidy_of (length buffer) input.unread ≡ true → Next input.opened input.big input.unread (bytes_in buffer input) (next_of buffer input)
        → (from ≤ to) × (to ≤ length buffer)
    inside t (finds captured o opened l f p) =
        let within = tidy_is (length buffer) input.unread t in
        let start : from ≡ input.unread.at + 16 = cc in
        let end : to ≡ input.unread.at + 16 + captured = cc in
        omega (arith, unread_length buffer input.unread t)
    inside t (nothing g h o l p) = clash (cc)
    inside t (fails g h o l p) = clash (cc)
    inside t (waits g l p) = clash (cc)
    inside t (breaks number f p) = clash (cc)
    inside t (opens big l f p) = clash (cc)

    go : (b : Bool) → pieces.tidy_of (length buffer) input.unread ≡ b → (from ≤ to) × (to ≤ length buffer)
    go true t = inside t (next_cases buffer input t)
    go false t = let p = next_end buffer input t in clash (cc)
