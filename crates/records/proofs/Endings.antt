-- A file is refused by 25 and by 26 exactly when its bytes say so, and otherwise ends between records. Assumes nothing.
use mathlib.Core.Path.{◌≡◌, refl, sym, ap, ◌∙◌}
use mathlib.Core.Bool.{Bool, true, false, cond, ◌&&◌}
use mathlib.Core.List.{List, [], ◌∷◌, ◌++◌, append_assoc}
use mathlib.Core.Logic.{◌↔◌, ◌⊎◌, inl, inr}
use Prim.Native.Nat.{ℕ, zero, suc, ◌+◌, ◌≤◌, ◌<◌}
use native.Mathlib.Omega.{arith}
use borrow.Author.Tests.{le-ltb, ltb-true, ltb-false, eqb-true, eqb-false}
use lib.Dec.{ltb, eqb}
use lib.ListN.{length, get_or, take, drop, length-drop, length-append, take-append-drop}
use lib.Seq.{get_or-drop, length-take-le}
use Rattle.quantity.specs.Refusals.{FILE-HEAD}
use Rattle.records.specs.declared.Order.{Order}
use Rattle.records.specs.Heads.{pair_at, number_at, is_right, LITTLE-MAGIC, BIG-MAGIC, captured_in, original_in, order_of}
use Rattle.records.specs.Files.{Report, kept, refused, records_of, report_by, reports_of, closed}
use Rattle.records.specs.Endings.{refusal_in, refusal_of, failed_after, records_in, Bytes, magic, version, link_type, RightHead, BadHead, short_file, other_magic, other_version, other_link, WholeRecord, AllWhole, in_row, WholeThen, Broken, in_head, too_long, in_bytes, BrokenOff, EndsWhole, Headed, OneOf, the_first, the_second, the_third}
use Rattle.records.proofs.Files.{number_front, pair_front, records_none}
use Rattle.records.proofs.Exactly.{found, cut_head, long_record, cut_record}

-- ---- four bytes at an index

front : (l : List ℕ) → 4 ≤ length l → take 4 l ≡ get_or l 0 0 ∷ get_or l 1 0 ∷ get_or l 2 0 ∷ get_or l 3 0 ∷ []
front (a ∷ b ∷ c ∷ d ∷ l) h = refl
front (a ∷ b ∷ c ∷ []) h = absurd (omega arith)
front (a ∷ b ∷ []) h = absurd (omega arith)
front (a ∷ []) h = absurd (omega arith)
front [] h = absurd (omega arith)

record Four (l : List ℕ) (n p q r s : ℕ) : Type 0 where
  at_0 : get_or l n 0 ≡ p
  at_1 : get_or l (n + 1) 0 ≡ q
  at_2 : get_or l (n + 2) 0 ≡ r
  at_3 : get_or l (n + 3) 0 ≡ s

module _ (l : List ℕ) (n : ℕ) (h : n + 4 ≤ length l) where
  four : take 4 (drop n l) ≡ get_or l n 0 ∷ get_or l (n + 1) 0 ∷ get_or l (n + 2) 0 ∷ get_or l (n + 3) 0 ∷ []
  four =
      let same : n + 0 ≡ n = omega arith in
      front (drop n l) (rw length-drop (omega arith)) ∙ rw (get_or-drop n l 0 0, get_or-drop n l 1 0, get_or-drop n l 2 0, get_or-drop n l 3 0, same)

  module _ {p q r s : ℕ} where
    made : Four l n p q r s → take 4 (drop n l) ≡ p ∷ q ∷ r ∷ s ∷ []
    made k = four ∙ rw (k.at_0, k.at_1, k.at_2, k.at_3)

    told : take 4 (drop n l) ≡ p ∷ q ∷ r ∷ s ∷ [] → Four l n p q r s
    told e =
        let k = sym four ∙ e in
        record {
          at_0 = ap (λ (b : List ℕ). get_or b 0 0) k;
          at_1 = ap (λ (b : List ℕ). get_or b 1 0) k;
          at_2 = ap (λ (b : List ℕ). get_or b 2 0) k;
          at_3 = ap (λ (b : List ℕ). get_or b 3 0) k;
        }

-- ---- the file's head

module _ (file : List ℕ) (long : 24 ≤ length file) where
  -- what is tested of the first 24 bytes is tested of the file
  in_file : take 24 file ++ drop 24 file ≡ file
  in_file = take-append-drop 24 file

  size : length (take 24 file) ≡ 24
  size = length-take-le 24 file long

  pair_in : (big : Bool) (n : ℕ) → n + 2 ≤ 24 → pair_at big n (take 24 file) ≡ pair_at big n file
  pair_in big n h = sym (pair_front big n (take 24 file) (drop 24 file) (omega (arith, size))) ∙ ap (pair_at big n) in_file

  number_in : (big : Bool) (n : ℕ) → n + 4 ≤ 24 → number_at big n (take 24 file) ≡ number_at big n file
  number_in big n h = sym (number_front big n (take 24 file) (drop 24 file) (omega (arith, size))) ∙ ap (number_at big n) in_file

  version_made : (big : Bool) → pair_at big 4 file ≡ 2 → pair_at big 6 file ≡ 4 → take 4 (drop 4 file) ≡ version big
  unfolding pair_at
  version_made true e f = made file 4 (omega arith) (record { at_0 = omega arith; at_1 = omega arith; at_2 = omega arith; at_3 = omega arith })
  version_made false e f = made file 4 (omega arith) (record { at_0 = omega arith; at_1 = omega arith; at_2 = omega arith; at_3 = omega arith })

  link_made : (big : Bool) → number_at big 20 file ≡ 1 → take 4 (drop 20 file) ≡ link_type big
  unfolding number_at pair_at
  link_made true e = made file 20 (omega arith) (record { at_0 = omega arith; at_1 = omega arith; at_2 = omega arith; at_3 = omega arith })
  link_made false e = made file 20 (omega arith) (record { at_0 = omega arith; at_1 = omega arith; at_2 = omega arith; at_3 = omega arith })

  -- the magic number, the highest byte first
  magic_made : Bytes file → (big : Bool) → number_at true 0 file ≡ cond big BIG-MAGIC LITTLE-MAGIC → take 4 file ≡ magic big
  unfolding number_at pair_at
  magic_made bytes true e =
      let a = bytes 0 in
      let b = bytes 1 in
      let c = bytes 2 in
      let d = bytes 3 in
      made file 0 (omega arith) (record { at_0 = omega arith; at_1 = omega arith; at_2 = omega arith; at_3 = omega arith })
  magic_made bytes false e =
      let a = bytes 0 in
      let b = bytes 1 in
      let c = bytes 2 in
      let d = bytes 3 in
      made file 0 (omega arith) (record { at_0 = omega arith; at_1 = omega arith; at_2 = omega arith; at_3 = omega arith })

  magic_told : (big : Bool) → take 4 file ≡ magic big → number_at true 0 file ≡ cond big BIG-MAGIC LITTLE-MAGIC
  unfolding number_at pair_at
  magic_told true e = let k = told file 0 (omega arith) e in rw (k.at_0, k.at_1, k.at_2, k.at_3)
  magic_told false e = let k = told file 0 (omega arith) e in rw (k.at_0, k.at_1, k.at_2, k.at_3)

  version_told : (big : Bool) → take 4 (drop 4 file) ≡ version big → (pair_at big 4 file ≡ 2) × (pair_at big 6 file ≡ 4)
  unfolding pair_at
  version_told true e = let k = told file 4 (omega arith) e in (rw (k.at_0, k.at_1), rw (k.at_2, k.at_3))
  version_told false e = let k = told file 4 (omega arith) e in (rw (k.at_0, k.at_1), rw (k.at_2, k.at_3))

  link_told_lem : (big : Bool) → take 4 (drop 20 file) ≡ link_type big → number_at big 20 file ≡ 1
  unfolding number_at pair_at
  link_told_lem true e = let k = told file 20 (omega arith) e in rw (k.at_0, k.at_1, k.at_2, k.at_3)
  link_told_lem false e = let k = told file 20 (omega arith) e in rw (k.at_0, k.at_1, k.at_2, k.at_3)

-- version and link type, in the file's order
data Checked (big : Bool) (file : List ℕ) : Bool → Type 0 where
  right : take 4 (drop 4 file) ≡ version big → take 4 (drop 20 file) ≡ link_type big → Checked big file true
  no_version : (take 4 (drop 4 file) ≡ version big → ⊥) → Checked big file false
  no_link : (take 4 (drop 20 file) ≡ link_type big → ⊥) → Checked big file false

-- what a byte order says of the file
data Opened (file : List ℕ) : Order → Type 0 where
  little : RightHead false file → Opened file Order.Little
  big_one : RightHead true file → Opened file Order.Big
  bad : BadHead file → Opened file Order.Bad

module _ (file : List ℕ) (long : 24 ≤ length file) (bytes : Bytes file) where
  checked : (big : Bool) → Checked big file (is_right big (take 24 file))
  unfolding is_right
  checked big =
      rw (pair_in file long big 4 (omega arith), pair_in file long big 6 (omega arith), number_in file long big 20 (omega arith))
      (go (eqb (pair_at big 4 file) 2) refl (eqb (pair_at big 6 file) 4) refl (eqb (number_at big 20 file) 1) refl)
    where
      go : (a : Bool) → eqb (pair_at big 4 file) 2 ≡ a → (b : Bool) → eqb (pair_at big 6 file) 4 ≡ b → (c : Bool) → eqb (number_at big 20 file) 1 ≡ c → Checked big file (a && b && c)
      go false p b q c r = no_version (λ e. eqb-false _ _ p (version_told file long big e).0)
      go true p false q c r = no_version (λ e. eqb-false _ _ q (version_told file long big e).1)
      go true p true q false r = no_link (λ e. eqb-false _ _ r (link_told_lem file long big e))
      go true p true q true r = right (version_made file long big (eqb-true _ _ p) (eqb-true _ _ q)) (link_made file long big (eqb-true _ _ r))

  order_tells : Opened file (order_of (take 24 file))
  unfolding order_of
  order_tells =
      rw (number_in file long true 0 (omega arith))
      (go (eqb (number_at true 0 file) BIG-MAGIC) refl (eqb (number_at true 0 file) LITTLE-MAGIC) refl (is_right true (take 24 file)) (checked true) (is_right false (take 24 file)) (checked false))
    where
      go : (a : Bool) → eqb (number_at true 0 file) BIG-MAGIC ≡ a → (b : Bool) → eqb (number_at true 0 file) LITTLE-MAGIC ≡ b → (c : Bool) → Checked true file c → (d : Bool) → Checked false file d
          → Opened file (cond a (cond c Order.Big Order.Bad) (cond b (cond d Order.Little Order.Bad) Order.Bad))
      go true p b q true (right v l) d y = big_one (record { long = long; first = magic_made file long bytes true (eqb-true _ _ p); versioned = v; linked = l })
      go true p b q false (no_version v) d y = bad (other_version true (magic_made file long bytes true (eqb-true _ _ p)) v)
      go true p b q false (no_link l) d y = bad (other_link true (magic_made file long bytes true (eqb-true _ _ p)) l)
      go false p true q c x true (right v l) = little (record { long = long; first = magic_made file long bytes false (eqb-true _ _ q); versioned = v; linked = l })
      go false p true q c x false (no_version v) = bad (other_version false (magic_made file long bytes false (eqb-true _ _ q)) v)
      go false p true q c x false (no_link l) = bad (other_link false (magic_made file long bytes false (eqb-true _ _ q)) l)
      go false p false q c x d y = bad (other_magic (λ e. eqb-false _ _ q (magic_told file long false e)) (λ e. eqb-false _ _ p (magic_told file long true e)))

-- one order at most
same_order : (file : List ℕ) (a b : Bool) → take 4 file ≡ magic a → take 4 file ≡ magic b → a ≡ b
same_order file true true e f = refl
same_order file false false e f = refl
same_order file true false e f = let z : ◌≡◌ {A = ℕ} 161 212 = ap (λ (l : List ℕ). get_or l 0 0) (sym e ∙ f) in absurd (omega arith)
same_order file false true e f = let z : ◌≡◌ {A = ℕ} 212 161 = ap (λ (l : List ℕ). get_or l 0 0) (sym e ∙ f) in absurd (omega arith)

not_both : (file : List ℕ) (big : Bool) → RightHead big file → BadHead file → ⊥
not_both file big k (short_file h) = let l = k.long in absurd (omega arith)
not_both file true k (other_magic l b) = b k.first
not_both file false k (other_magic l b) = l k.first
not_both file big k (other_version b m v) = v (k.versioned ∙ ap version (same_order file big b k.first m))
not_both file big k (other_link b m v) = v (k.linked ∙ ap link_type (same_order file big b k.first m))

-- ---- the records

-- the number that is reported, by whether a read fails behind the bytes
abbrev refusal_by : Bool → List Report → ℕ
refusal_by failed reports = refusal_in (closed failed reports)

behind_kept : (failed : Bool) (original : ℕ) (bytes : List ℕ) (reports : List Report)
    → refusal_by failed (kept original bytes ∷ reports) ≡ refusal_by failed reports
behind_kept true original bytes reports = refl
behind_kept false original bytes reports = refl

refused_stays : (failed : Bool) {reports : List Report} (number : ℕ) → reports ≡ refused number ∷ [] → refusal_by failed reports ≡ number
refused_stays true number e = ap (refusal_by true) e
refused_stays false number e = ap (refusal_by false) e

module _ (failed big : Bool) where
  -- a whole record is kept, and the rest reported behind it
  one_kept : (bytes rest : List ℕ) → WholeRecord big bytes → refusal_by failed (records_of big (bytes ++ rest)) ≡ refusal_by failed (records_of big rest)
  one_kept bytes rest k =
      let far : length bytes ≡ 16 + captured_in big bytes = k.size in
      let frame : List ℕ = drop 16 bytes in
      let long : length frame ≡ captured_in big bytes = rw length-drop (omega arith) in
      ap (refusal_by failed)
      (found big (bytes ++ rest) frame rest (original_in big (bytes ++ rest)) (drop_front 16 bytes rest (omega arith))
      (simp length-append (omega arith))
      (number_front big 8 bytes rest (omega arith) ∙ sym long)
      refl
      (omega (arith, k.short)))
      ∙ behind_kept failed (original_in big (bytes ++ rest)) frame (records_of big rest)
    where
      drop_front : (n : ℕ) (l m : List ℕ) → n ≤ length l → drop n (l ++ m) ≡ drop n l ++ m
      drop_front zero l m h = refl
      drop_front (suc n) [] m h = absurd (omega arith)
      drop_front (suc n) (x ∷ l) m h = drop_front n l m (omega arith)

  all_kept : (records : List (List ℕ)) (left : List ℕ) → AllWhole big records → refusal_by failed (records_of big (in_row records ++ left)) ≡ refusal_by failed (records_of big left)
  all_kept [] left k = refl
  all_kept (bytes ∷ records) left k =
      ap (λ (l : List ℕ). refusal_by failed (records_of big l)) (append_assoc bytes (in_row records) left)
      ∙ one_kept bytes (in_row records ++ left) k.0
      ∙ all_kept records left k.1

  then_left : (bytes left : List ℕ) → WholeThen big left bytes → refusal_by failed (records_of big bytes) ≡ refusal_by failed (records_of big left)
  then_left bytes left k = ap (λ (l : List ℕ). refusal_by failed (records_of big l)) k.parts ∙ all_kept k.records left k.each

  broken_off : (left : List ℕ) → Broken big left → refusal_by failed (records_of big left) ≡ 26
  broken_off left (in_head o h) = refused_stays failed 26 (cut_head big left o h)
  broken_off left (too_long h g) = refused_stays failed 26 (long_record big left h g)
  broken_off left (in_bytes h g) = refused_stays failed 26 (cut_record big left h (omega arith))

module _ (big : Bool) where
  -- any bytes are whole records, and nothing or something broken behind them
  data Ending (bytes : List ℕ) : Type 0 where
    ended : WholeThen big [] bytes → Ending bytes
    breaks : (left : List ℕ) → WholeThen big left bytes → Broken big left → Ending bytes

  whole_more : (left bytes : List ℕ) (n : ℕ) → WholeRecord big (take n bytes) → WholeThen big left (drop n bytes) → WholeThen big left bytes
  whole_more left bytes n w k = record {
    records = take n bytes ∷ k.records;
    each = (w, k.each);
    parts = sym (take-append-drop n bytes) ∙ ap (λ (l : List ℕ). take n bytes ++ l) k.parts ∙ sym (append_assoc (take n bytes) (in_row k.records) left);
  }

  -- the first record, where shorter bytes are parted already
  first_ending : (bytes : List ℕ) → ((rest : List ℕ) → length rest < length bytes → Ending rest) → Ending bytes
  first_ending [] later = ended (record { records = []; each = tt; parts = refl })
  first_ending (x ∷ l) later = go (ltb (length (x ∷ l)) 16) refl (ltb 65536 (captured_in big (x ∷ l))) refl (ltb (length (x ∷ l)) (16 + captured_in big (x ∷ l))) refl
    where
      bytes : List ℕ
      bytes = x ∷ l

      nothing : WholeThen big bytes bytes
      nothing = record { records = []; each = tt; parts = refl }

      behind : Ending (drop (16 + captured_in big bytes) bytes) → WholeRecord big (take (16 + captured_in big bytes) bytes) → Ending bytes
      behind (ended k) w = ended (whole_more [] bytes (16 + captured_in big bytes) w k)
      behind (breaks left k b) w = breaks left (whole_more left bytes (16 + captured_in big bytes) w k) b

      go : (a : Bool) → ltb (length bytes) 16 ≡ a → (b : Bool) → ltb 65536 (captured_in big bytes) ≡ b → (c : Bool) → ltb (length bytes) (16 + captured_in big bytes) ≡ c → Ending bytes
      go true p b q c r = breaks bytes nothing (in_head (omega arith) (ltb-true _ _ p))
      go false p true q c r = breaks bytes nothing (too_long (ltb-false _ _ p) (ltb-true _ _ q))
      go false p false q true r = breaks bytes nothing (in_bytes (ltb-false _ _ p) (ltb-true _ _ r))
      go false p false q false r =
          let inside : 16 + captured_in big bytes ≤ length bytes = ltb-false _ _ r in
          let size : length (take (16 + captured_in big bytes) bytes) ≡ 16 + captured_in big bytes = length-take-le (16 + captured_in big bytes) bytes inside in
          let same : captured_in big (take (16 + captured_in big bytes) bytes) ≡ captured_in big bytes =
          sym (number_front big 8 (take (16 + captured_in big bytes) bytes) (drop (16 + captured_in big bytes) bytes) (omega arith)) ∙ ap (number_at big 8) (take-append-drop (16 + captured_in big bytes) bytes) in
          behind (later (drop (16 + captured_in big bytes) bytes) (rw length-drop (omega arith))) (record { size = omega arith; short = rw same (ltb-false _ _ q) })

  endings : (most : ℕ) (bytes : List ℕ) → length bytes ≤ most → Ending bytes
  endings zero bytes h = first_ending bytes (λ rest g. absurd (omega arith))
  endings (suc most) bytes h = first_ending bytes (λ rest g. endings most rest (omega arith))

-- ---- a file

-- behind a head that is right
module _ (file : List ℕ) (big : Bool) (bytes : Bytes file) (k : RightHead big file) where
  opens : reports_of file ≡ records_of big (drop 24 file)
  unfolding reports_of
  opens = rw (le-ltb (length file) 24 k.long) (go (order_of (take 24 file)) (order_tells file k.long bytes))
    where
      go : (order : Order) → Opened file order → report_by order (drop 24 file) ≡ records_of big (drop 24 file)
      go Order.Little (little r) = ap (λ (b : Bool). records_of b (drop 24 file)) (same_order file false big r.first k.first)
      go Order.Big (big_one r) = ap (λ (b : Bool). records_of b (drop 24 file)) (same_order file true big r.first k.first)
      go Order.Bad (bad b) = absurd (not_both file big k b)

module _ (file : List ℕ) (bytes : Bytes file) where
  module _ (failed : Bool) where
    bad_is : BadHead file → refusal_by failed (reports_of file) ≡ 25
    unfolding reports_of
    bad_is k = go (ltb (length file) 24) refl
      where
        by : (order : Order) → Opened file order → refusal_by failed (report_by order (drop 24 file)) ≡ 25
        by Order.Little (little r) = absurd (not_both file false r k)
        by Order.Big (big_one r) = absurd (not_both file true r k)
        by Order.Bad (bad b) = refused_stays failed 25 refl

        go : (short : Bool) → ltb (length file) 24 ≡ short
            → refusal_by failed (cond short (refused FILE-HEAD ∷ []) (report_by (order_of (take 24 file)) (drop 24 file))) ≡ 25
        go true p = refused_stays failed 25 refl
        go false p = by (order_of (take 24 file)) (order_tells file (ltb-false _ _ p) bytes)

    -- what is left behind whole records
    left_is : (big : Bool) (left : List ℕ) → RightHead big file → WholeThen big left (drop 24 file) → refusal_by failed (reports_of file) ≡ refusal_by failed (records_of big left)
    left_is big left h k = ap (refusal_by failed) (opens file big bytes h) ∙ then_left failed big (drop 24 file) left k

    broken_is : BrokenOff file → refusal_by failed (reports_of file) ≡ 26
    broken_is k = left_is k.big k.left k.head k.before ∙ broken_off failed k.big k.left k.broken

    whole_is : EndsWhole file → refusal_by failed (reports_of file) ≡ refusal_by failed []
    whole_is k = left_is k.big [] k.head k.whole ∙ ap (refusal_by failed) (records_none k.big [] refl)

  -- one of the three at least
  data Kind : Type 0 where
    is_bad : BadHead file → Kind
    is_broken : BrokenOff file → Kind
    is_whole : EndsWhole file → Kind

  kind : Kind
  kind = go (ltb (length file) 24) refl
    where
      behind : (big : Bool) → RightHead big file → Ending big (drop 24 file) → Kind
      behind big h (ended k) = is_whole (record { big = big; head = h; whole = k })
      behind big h (breaks left k b) = is_broken (record { big = big; left = left; head = h; before = k; broken = b })

      by : (order : Order) → Opened file order → Kind
      by Order.Little (little r) = behind false r (endings false (length (drop 24 file)) (drop 24 file) (omega arith))
      by Order.Big (big_one r) = behind true r (endings true (length (drop 24 file)) (drop 24 file) (omega arith))
      by Order.Bad (bad b) = is_bad b

      go : (short : Bool) → ltb (length file) 24 ≡ short → Kind
      go true p = is_bad (short_file (ltb-true _ _ p))
      go false p = by (order_of (take 24 file)) (order_tells file (ltb-false _ _ p) bytes)

  -- "25 bad file header or another link type": exactly then
  pub exactly_25 : (refusal_of file ≡ 25) ↔ BadHead file
  exactly_25 = (λ e. go e kind, bad_is false)
    where
      go : refusal_of file ≡ 25 → Kind → BadHead file
      go e (is_bad k) = k
      go e (is_broken k) = let z = broken_is false k in absurd (omega arith)
      go e (is_whole k) = let z = whole_is false k in absurd (omega arith)

  -- "26 record cut off or over 65,536 bytes": exactly then
  pub exactly_26 : (refusal_of file ≡ 26) ↔ BrokenOff file
  exactly_26 = (λ e. go e kind, broken_is false)
    where
      go : refusal_of file ≡ 26 → Kind → BrokenOff file
      go e (is_bad k) = let z = bad_is false k in absurd (omega arith)
      go e (is_broken k) = k
      go e (is_whole k) = let z = whole_is false k in absurd (omega arith)

  -- an end between records: exactly where the file isn't refused
  pub exactly_whole : (refusal_of file ≡ 0) ↔ EndsWhole file
  exactly_whole = (λ e. go e kind, whole_is false)
    where
      go : refusal_of file ≡ 0 → Kind → EndsWhole file
      go e (is_bad k) = let z = bad_is false k in absurd (omega arith)
      go e (is_broken k) = let z = broken_is false k in absurd (omega arith)
      go e (is_whole k) = k

  -- of every file one of the three is so, and one alone
  pub exactly_one : OneOf (BadHead file) (BrokenOff file) (EndsWhole file)
  exactly_one = go kind
    where
      bad_broken : BadHead file → BrokenOff file → ⊥
      bad_broken a b = let p = bad_is false a in let q = broken_is false b in absurd (omega arith)

      bad_whole : BadHead file → EndsWhole file → ⊥
      bad_whole a b = let p = bad_is false a in let q = whole_is false b in absurd (omega arith)

      broken_whole : BrokenOff file → EndsWhole file → ⊥
      broken_whole a b = let p = broken_is false a in let q = whole_is false b in absurd (omega arith)

      go : Kind → OneOf (BadHead file) (BrokenOff file) (EndsWhole file)
      go (is_bad k) = the_first k (bad_broken k) (bad_whole k)
      go (is_broken k) = the_second k (λ a. bad_broken a k) (broken_whole k)
      go (is_whole k) = the_third k (λ a. bad_whole a k) (λ b. broken_whole b k)

  -- ---- a read that fails behind the bytes

  -- within the file's first 24 bytes, and behind a head that isn't right: 25
  pub failed_25 : (failed_after file ≡ 25) ↔ BadHead file
  failed_25 = (λ e. go e kind, bad_is true)
    where
      go : failed_after file ≡ 25 → Kind → BadHead file
      go e (is_bad k) = k
      go e (is_broken k) = let z = broken_is true k in absurd (omega arith)
      go e (is_whole k) = let z = whole_is true k in absurd (omega arith)

  -- behind a right head: 26, within a record and between two of them
  pub failed_26 : (failed_after file ≡ 26) ↔ Headed file
  failed_26 = (λ e. go e kind, λ h. cut h.big h.head kind)
    where
      go : failed_after file ≡ 26 → Kind → Headed file
      go e (is_bad k) = let z = bad_is true k in absurd (omega arith)
      go e (is_broken k) = record { big = k.big; head = k.head }
      go e (is_whole k) = record { big = k.big; head = k.head }

      cut : (big : Bool) → RightHead big file → Kind → failed_after file ≡ 26
      cut big h (is_bad k) = absurd (not_both file big h k)
      cut big h (is_broken k) = broken_is true k
      cut big h (is_whole k) = whole_is true k

  -- never an end
  pub failed_refused : (failed_after file ≡ 25) ⊎ (failed_after file ≡ 26)
  failed_refused = go kind
    where
      go : Kind → (failed_after file ≡ 25) ⊎ (failed_after file ≡ 26)
      go (is_bad k) = inl (bad_is true k)
      go (is_broken k) = inr (broken_is true k)
      go (is_whole k) = inr (whole_is true k)

-- and the records are those of a file that ends there
pub failed_records : (reports : List Report) → records_in (closed true reports) ≡ records_in reports
failed_records [] = refl
failed_records (kept original bytes ∷ reports) = ap (λ (l : List Report). kept original bytes ∷ l) (failed_records reports)
failed_records (refused number ∷ reports) = refl
