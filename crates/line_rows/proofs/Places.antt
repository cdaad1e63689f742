-- What a caller goes by: the numbers that a line said stand at the places of its row, written out, each within its bound. Assumes nothing.
use Rattle.std.specs.Prelude.{Option, Some, None}
use mathlib.Core.Bool.{Bool, true, false, cond, ◌&&◌}
use mathlib.Core.Path.{◌≡◌, refl, sym, ap, ◌∙◌, subst, fun_ext}
use mathlib.Core.List.{List, [], ◌∷◌, ◌++◌, append-nil, append_assoc}
use Prim.Native.Nat.{ℕ, zero, suc, ◌+◌, ◌-◌, ◌*◌, ◌/◌, ◌≤◌, ◌<◌}
use native.Mathlib.Decide.{dec_le}
use native.Mathlib.Nat.{suc-mul}
use native.Mathlib.Omega.{arith}
use borrow.Author.Tests.{eq-eqb, ne_eqb, ltb-true, ltb-false, eqb-true, eqb-false}
use lib.Dec.{eqb, ltb}
use lib.ListN.{length, take, drop, get_or, get_or-append, get_or-eq_default, length-append}
use lib.Seq.{get_or-append-add, get_or-drop, take-nil}
use Rattle.text.specs.Words.{head_of, tail_of, word_of}
use Rattle.text.proofs.Bounds.{parse_most}
use Rattle.facts.proofs.Tests.{clash}
use Rattle.line_rows.specs.Rows.{NUMBER, LIST, spells_of, value_of, Said, item_of, items_of, list_of, last_number, item_or_list_of, left_out_of, row_of, read_by, good_by, over}
use Rattle.line_rows.specs.declared.table.Told.{Told}
use Rattle.line_rows.specs.Tables.{named_of, items_left, command_of, key_of, items_behind, said_in, key_in, Reads}
use Rattle.line_rows.specs.Places.{keyed_of, row_of_key, before, repeated, written_out, Within, paired, is_number}
use Rattle.line_rows.proofs.Laws.{item_idle, item_full, item_bad, item_value}

-- ---- a number for each item
data Fits : List ℕ → List ℕ → Type 0 where
  fits_none : Fits [] []
  fits_item : {a b v : ℕ} {row ns : List ℕ} → (a ≡ NUMBER → v ≤ b) → Fits row ns → Fits (a ∷ (b ∷ row)) (v ∷ ns)

fits_count : {row ns : List ℕ} → Fits row ns → length ns ≡ length row / 2
fits_count fits_none = refl
fits_count (fits_item f k) = let more = fits_count k in omega arith

fits_append : {row ns row' ns' : List ℕ} → Fits row ns → Fits row' ns' → Fits (row ++ row') (ns ++ ns')
fits_append fits_none k = k
fits_append (fits_item f l) k = fits_item f (fits_append l k)

fits_most : {row ns : List ℕ} → Fits row ns → (i : ℕ) → i * 2 < length row → get_or row (i * 2) 0 ≡ NUMBER → get_or ns i 0 ≤ get_or row (i * 2 + 1) 0
fits_most fits_none i h e = absurd (omega arith)
fits_most (fits_item f k) zero h e = f e
fits_most (fits_item f k) (suc i) h e =
    let z : suc i * 2 ≡ suc (suc (i * 2)) = omega arith in
    let y : suc i * 2 + 1 ≡ suc (suc (i * 2 + 1)) = omega arith in
    rw y (fits_most k i (omega arith) (rw z at e))

-- ---- what is said more
record Adds (items : List ℕ) (s s' : Said) : Type 0 where
  pub news : List ℕ
  pub are : s'.numbers ≡ s.numbers ++ news
  pub fit : Fits items news

adds_none : (s : Said) → Adds [] s s
adds_none s = record { news = []; are = sym (append-nil s.numbers); fit = fits_none }

adds_more : {items items' : List ℕ} {s s' s'' : Said} → Adds items s s' → Adds items' s' s'' → Adds (items ++ items') s s''
adds_more {s = s} k l = record {
  news = k.news ++ l.news;
  are = l.are ∙ ap (λ (x : List ℕ). x ++ l.news) k.are ∙ append_assoc s.numbers k.news l.news;
  fit = fits_append k.fit l.fit;
}

module _ (places size : ℕ) where
  item_adds : (a b : ℕ) (s : Said) → (item_of places size a b s).good ≡ true → Adds (a ∷ (b ∷ [])) s (item_of places size a b s)
  unfolding value_of
  item_adds a b s e = go s.good refl (ltb (length s.numbers) places) refl (value_of a b (size - length s.bytes) (word_of s.rest)) refl
    where
      go : (t : Bool) → s.good ≡ t → (u : Bool) → ltb (length s.numbers) places ≡ u → (x : Option ℕ) → value_of a b (size - length s.bytes) (word_of s.rest) ≡ x → Adds (a ∷ (b ∷ [])) s (item_of places size a b s)
      go false p u q x r = clash (sym (sym e ∙ ap (λ (y : Said). y.good) (item_idle places size a b s p) ∙ p))
      go true p false q x r = clash (sym (sym e ∙ ap (λ (y : Said). y.good) (item_full places size a b s p (ltb-false (length s.numbers) places q))))
      go true p true q None r = clash (sym (sym e ∙ ap (λ (y : Said). y.good) (item_bad places size a b s p (ltb-true (length s.numbers) places q) r)))
      go true p true q (Some v) r =
          let said = item_value places size a b s p (ltb-true (length s.numbers) places q) r in
          record {
            news = v ∷ [];
            are = ap (λ (y : Said). y.numbers) said;
            fit = fits_item (λ h. parse_most b (word_of s.rest) (rw (eq-eqb a NUMBER h) at r)) fits_none;
          }

  items_bad : (row : List ℕ) (s : Said) → s.good ≡ false → (items_of places size row s).good ≡ false
  unfolding items_of
  items_bad [] s e = e
  items_bad (a ∷ []) s e = e
  items_bad (a ∷ (b ∷ row)) s e = rw (item_idle places size a b s e) (items_bad row s e)

  items_adds : (row : List ℕ) (s : Said) → paired row ≡ true → (items_of places size row s).good ≡ true → Adds row s (items_of places size row s)
  unfolding items_of
  items_adds [] s p e = adds_none s
  items_adds (a ∷ []) s p e = clash p
  items_adds (a ∷ (b ∷ row)) s p e = go (item_of places size a b s).good refl (items_adds row (item_of places size a b s) p e)
    where
      go : (t : Bool) → (item_of places size a b s).good ≡ t → Adds row (item_of places size a b s) (items_of places size row (item_of places size a b s))
          → Adds (a ∷ (b ∷ row)) s (items_of places size row (item_of places size a b s))
      go false q k = clash (sym (sym e ∙ items_bad row (item_of places size a b s) q))
      go true q k = adds_more (item_adds a b s q) k

  list_bad : (count : ℕ) (row : List ℕ) (s : Said) → s.good ≡ false → (list_of places size count row s).good ≡ false
  unfolding list_of
  list_bad zero row s e = e
  list_bad (suc n) row s e = list_bad n row (items_of places size row s) (items_bad row s e)

  list_adds : (count : ℕ) (row : List ℕ) (s : Said) → paired row ≡ true → (list_of places size count row s).good ≡ true → Adds (repeated count row) s (list_of places size count row s)
  unfolding list_of repeated
  list_adds zero row s p e = adds_none s
  list_adds (suc n) row s p e = go (items_of places size row s).good refl (list_adds n row (items_of places size row s) p e)
    where
      go : (t : Bool) → (items_of places size row s).good ≡ t → Adds (repeated n row) (items_of places size row s) (list_of places size n row (items_of places size row s)) → Adds (row ++ repeated n row) s (list_of places size n row (items_of places size row s))
      go false q k = clash (sym (sym e ∙ list_bad n row (items_of places size row s) q))
      go true q k = adds_more (items_adds row s p q) k

-- ---- a whole row
paired_take : (b : ℕ) (row : List ℕ) → paired row ≡ true → paired (take (b * 2) row) ≡ true
paired_take zero row p = refl
paired_take (suc b) [] p = ap paired (take-nil (suc b * 2))
paired_take (suc b) (a ∷ []) p = clash p
paired_take (suc b) (x ∷ (y ∷ row)) p =
    let z : suc b * 2 ≡ suc (suc (b * 2)) = omega arith in
    ap (λ (n : ℕ). paired (take n (x ∷ (y ∷ row)))) z ∙ paired_take b row p

paired_even : (row : List ℕ) → paired row ≡ true → length row / 2 * 2 ≡ length row
paired_even [] p = refl
paired_even (a ∷ []) p = clash p
paired_even (a ∷ (b ∷ row)) p = let more = paired_even row p in omega arith

list_half : (count : ℕ) (row : List ℕ) → paired row ≡ true → length (repeated count row) / 2 ≡ count * (length row / 2)
unfolding repeated
list_half zero row p = let z : 0 * (length row / 2) ≡ 0 = omega arith in sym z
list_half (suc n) row p =
    let more = list_half n row p in
    let whole = paired_even row p in
    let split : length (row ++ repeated n row) ≡ length row + length (repeated n row) = length-append row (repeated n row) in
    let once : suc n * (length row / 2) ≡ n * (length row / 2) + length row / 2 = suc-mul n (length row / 2) in
    omega arith

last_before : (front news : List ℕ) {all : List ℕ} → all ≡ front ++ news → before (λ i. get_or all i 0) (length front) ≡ last_number front
unfolding last_number
last_before [] news e = refl
last_before (x ∷ front) news {all} e = rw e (get_or-append (x ∷ front) news 0 (length front) (omega arith))

module _ (places size : ℕ) where
  row_bad : (skip : ℕ) (row : List ℕ) (s : Said) → s.good ≡ false → (row_of places size skip row s).good ≡ false
  unfolding row_of item_or_list_of
  row_bad skip [] s e = e
  row_bad skip (a ∷ []) s e = e
  row_bad skip (a ∷ (b ∷ row)) s e = row_bad (left_out_of skip a b) row (item_or_list_of places size skip a b row s) (go (ltb 0 skip) refl (eqb a LIST) refl)
    where
      go : (t : Bool) → ltb 0 skip ≡ t → (u : Bool) → eqb a LIST ≡ u → (item_or_list_of places size skip a b row s).good ≡ false
      go true q u r = rw q e
      go false q true r = rw (q, r) (list_bad places size (last_number s.numbers) (take (b * 2) row) s e)
      go false q false r = rw (q, r) (ap (λ (y : Said). y.good) (item_idle places size a b s e) ∙ e)

  row_adds : (skip : ℕ) (row : List ℕ) (s final : Said) → paired row ≡ true → final.good ≡ true → final ≡ row_of places size skip row s
      → Adds (written_out skip (length s.numbers) row (λ i. get_or final.numbers i 0)) s final
  unfolding row_of item_or_list_of left_out_of written_out
  row_adds skip [] s final p g e = rw e (adds_none s)
  row_adds skip (a ∷ []) s final p g e = clash p
  row_adds skip (a ∷ (b ∷ row)) s final p g e =
      go (ltb 0 skip) refl (eqb a LIST) refl
      (row_adds (skip - 1) row s final p g) (row_adds b row (list_of places size (last_number s.numbers) (take (b * 2) row) s) final p g) (row_adds 0 row (item_of places size a b s) final p g)
    where
      n : ℕ → ℕ
      n i = get_or final.numbers i 0

      group : List ℕ
      group = take (b * 2) row

      listed : Said
      listed = list_of places size (last_number s.numbers) (take (b * 2) row) s

      one : Said
      one = item_of places size a b s

      as_list : {count count' place place' : ℕ} → count' ≡ count → place' ≡ place → Adds (repeated count group ++ written_out b place row n) s final → Adds (repeated count' group ++ written_out b place' row n) s final
      as_list c d k = rw (c, d) k

      with_list : (t : Bool) → listed.good ≡ t → final ≡ row_of places size b row listed → Adds (written_out b (length listed.numbers) row n) listed final
          → Adds (repeated (before n (length s.numbers)) group ++ written_out b (length s.numbers + before n (length s.numbers) * (length group / 2)) row n) s final
      with_list false q f k = clash (sym (sym g ∙ ap (λ (y : Said). y.good) f ∙ row_bad b row listed q))
      with_list true q f k =
          let first = list_adds places size (last_number s.numbers) group s (paired_take b row p) q in
          let both = adds_more first k in
          let count = last_before s.numbers both.news both.are in
          let places' : length listed.numbers ≡ length s.numbers + last_number s.numbers * (length group / 2) = ap length first.are ∙ length-append s.numbers first.news ∙ ap (λ (m : ℕ). length s.numbers + m) (fits_count first.fit ∙ list_half (last_number s.numbers) group (paired_take b row p)) in
          as_list count (ap (λ (m : ℕ). length s.numbers + m * (length group / 2)) count ∙ sym places') both

      with_item : (t : Bool) → one.good ≡ t → final ≡ row_of places size 0 row one → Adds (written_out 0 (length one.numbers) row n) one final
          → Adds (a ∷ (b ∷ written_out 0 (length s.numbers + 1) row n)) s final
      with_item false q f k = clash (sym (sym g ∙ ap (λ (y : Said). y.good) f ∙ row_bad 0 row one q))
      with_item true q f k =
          let first = item_adds places size a b s q in
          let place : length one.numbers ≡ length s.numbers + 1 = ap length first.are ∙ length-append s.numbers first.news ∙ ap (λ (m : ℕ). length s.numbers + m) (fits_count first.fit) in
          rw (← place) (adds_more first k)

      go : (t : Bool) → ltb 0 skip ≡ t → (u : Bool) → eqb a LIST ≡ u
          → (final ≡ row_of places size (skip - 1) row s → Adds (written_out (skip - 1) (length s.numbers) row n) s final)
          → (final ≡ row_of places size b row listed → Adds (written_out b (length listed.numbers) row n) listed final)
          → (final ≡ row_of places size 0 row one → Adds (written_out 0 (length one.numbers) row n) one final)
          → Adds (written_out skip (length s.numbers) (a ∷ (b ∷ row)) n) s final
      go true q u r x y z = rw q (x (rw q at e))
      go false q true r x y z = let f : final ≡ row_of places size b row listed = rw (q, r) at e in rw (q, r) (with_list listed.good refl f (y f))
      go false q false r x y z = let f : final ≡ row_of places size 0 row one = rw (q, r) at e in rw (q, r) (with_item one.good refl f (z f))

  -- ---- a rest of a line that is well said
  module _ (row rest : List ℕ) (p : paired row ≡ true) (g : good_by places size row rest ≡ true) where
    abbrev number_at : ℕ → ℕ
    number_at i = get_or (read_by places size row rest).numbers i 0

    said_good : (read_by places size row rest).good ≡ true
    unfolding good_by
    said_good = go (eqb (length (read_by places size row rest).rest) 0) (read_by places size row rest).good g
      where
        go : (t u : Bool) → cond t u false ≡ true → u ≡ true
        go true u e = e
        go false u e = clash e

    row_said : Adds (written_out 0 0 row number_at) (record { good = true; rest = rest; numbers = []; bytes = [] }) (read_by places size row rest)
    unfolding read_by
    row_said = row_adds 0 row (record { good = true; rest = rest; numbers = []; bytes = [] }) (read_by places size row rest) p said_good refl

    -- each number is within its bound
    row_within : Within (written_out 0 0 row number_at) number_at
    row_within =
        let same : (read_by places size row rest).numbers ≡ row_said.news = row_said.are in
        record { most = λ i h e. rw (ap (λ (l : List ℕ). get_or l i 0) same) (fits_most row_said.fit i h e) }

-- ---- the row of a command, by its key
named_spells : (skip : ℕ) (name table : List ℕ) {key : ℕ} → (key ≡ 0 → ⊥) → key_of (command_of skip name table) ≡ key → spells_of name key ≡ true
unfolding command_of key_of named_of
named_spells skip name [] z e = absurd (z (sym e))
named_spells skip name (k ∷ []) z e = absurd (z (sym e))
named_spells skip name (k ∷ (count ∷ table)) {key} z e = go (ltb 0 skip) refl (spells_of name k) refl (named_spells (items_left skip count) name table z)
  where
    go : (t : Bool) → ltb 0 skip ≡ t → (u : Bool) → spells_of name k ≡ u → (key_of (command_of (items_left skip count) name table) ≡ key → spells_of name key ≡ true) → spells_of name key ≡ true
    go true q u r more = more (rw q at e)
    go false q true r more = let same : k ≡ key = rw (q, r) at e in rw (← same) r
    go false q false r more = more (rw (q, r) at e)

command_keyed : (skip : ℕ) (name table : List ℕ) {key : ℕ} → (key ≡ 0 → ⊥) → key_of (command_of skip name table) ≡ key → command_of skip name table ≡ keyed_of skip key table
unfolding command_of keyed_of key_of named_of items_left
command_keyed skip name [] z e = refl
command_keyed skip name (k ∷ []) z e = refl
command_keyed skip name (k ∷ (count ∷ table)) {key} z e = go (ltb 0 skip) refl (spells_of name k) refl (eqb k key) refl (command_keyed (skip - 1) name table z) (command_keyed count name table z)
  where
    go : (t : Bool) → ltb 0 skip ≡ t → (u : Bool) → spells_of name k ≡ u → (v : Bool) → eqb k key ≡ v
        → (key_of (command_of (skip - 1) name table) ≡ key → command_of (skip - 1) name table ≡ keyed_of (skip - 1) key table)
        → (key_of (command_of count name table) ≡ key → command_of count name table ≡ keyed_of count key table)
        → command_of skip name (k ∷ (count ∷ table)) ≡ keyed_of skip key (k ∷ (count ∷ table))
    go true q u r v w x y = rw q (x (rw q at e))
    go false q true r v w x y = let same : k ≡ key = rw (q, r) at e in rw (q, r, eq-eqb k key same)
    go false q false r true w x y = clash (sym (sym (named_spells skip name (k ∷ (count ∷ table)) z e) ∙ sym (ap (spells_of name) (eqb-true k key w)) ∙ r))
    go false q false r false w x y = rw (q, r, w) (y (rw (q, r) at e))

paired_keyed : (skip key : ℕ) (table : List ℕ) → paired table ≡ true → paired (keyed_of skip key table) ≡ true
unfolding keyed_of
paired_keyed skip key [] p = refl
paired_keyed skip key (k ∷ []) p = refl
paired_keyed skip key (k ∷ (count ∷ table)) p = go (ltb 0 skip) (eqb k key) (paired_keyed (skip - 1) key table p) (paired_keyed count key table p)
  where
    go : (t u : Bool) → paired (keyed_of (skip - 1) key table) ≡ true → paired (keyed_of count key table) ≡ true
        → paired (cond t (keyed_of (skip - 1) key table) (cond u (k ∷ (count ∷ table)) (keyed_of count key table))) ≡ true
    go true u x y = x
    go false true x y = p
    go false false x y = y

paired_behind : (table : List ℕ) → paired table ≡ true → paired (items_behind table) ≡ true
unfolding items_behind
paired_behind [] p = refl
paired_behind (k ∷ []) p = clash p
paired_behind (k ∷ (count ∷ table)) p = paired_take count table p

-- ---- a line read by a table
module _ {table line lent room : List ℕ} {r : Told} {lent' room' : List ℕ} (k : Reads table line lent room r lent' room') (p : paired table ≡ true) where
  abbrev said_at : ℕ → ℕ
  said_at i = get_or (said_in (length lent) (length room) table line).numbers i 0

  module _ (z : r.key ≡ 0 → ⊥) where
    good_line : (good_by (length lent) (length room) (items_behind (command_of 0 (head_of line) table)) (tail_of line) ≡ true) × (key_of (command_of 0 (head_of line) table) ≡ r.key)
    unfolding key_in
    good_line = go (good_by (length lent) (length room) (items_behind (command_of 0 (head_of line) table)) (tail_of line)) refl k.key
      where
        go : (t : Bool) → good_by (length lent) (length room) (items_behind (command_of 0 (head_of line) table)) (tail_of line) ≡ t → r.key ≡ cond t (key_of (command_of 0 (head_of line) table)) 0
            → (good_by (length lent) (length room) (items_behind (command_of 0 (head_of line) table)) (tail_of line) ≡ true) × (key_of (command_of 0 (head_of line) table) ≡ r.key)
        go true q e = (q, sym e)
        go false q e = absurd (z e)

    row_of_lem : items_behind (command_of 0 (head_of line) table) ≡ row_of_key r.key table
    unfolding row_of_key
    row_of_lem = ap items_behind (command_keyed 0 (head_of line) table z good_line.1)

    row_paired : paired (row_of_key r.key table) ≡ true
    unfolding row_of_key
    row_paired = paired_behind (keyed_of 0 r.key table) (paired_keyed 0 r.key table p)

    row_good : good_by (length lent) (length room) (row_of_key r.key table) (tail_of line) ≡ true
    row_good = rw row_of_lem at good_line.0

    said_is : said_in (length lent) (length room) table line ≡ read_by (length lent) (length room) (row_of_key r.key table) (tail_of line)
    unfolding said_in
    said_is = ap (λ (row : List ℕ). read_by (length lent) (length room) row (tail_of line)) row_of_lem

    read_within : Within (written_out 0 0 (row_of_key r.key table) said_at) said_at
    read_within =
        subst (λ (s : Said). Within (written_out 0 0 (row_of_key r.key table) (λ i. get_or s.numbers i 0)) (λ i. get_or s.numbers i 0)) (sym said_is)
        (row_within (length lent) (length room) (row_of_key r.key table) (tail_of line) row_paired row_good)

  -- also for a line that is no command, where no command has the key 0
  pub reads_within : row_of_key 0 table ≡ [] → Within (written_out 0 0 (row_of_key r.key table) said_at) said_at
  unfolding written_out
  reads_within e = go (eqb r.key 0) refl
    where
      go : (t : Bool) → eqb r.key 0 ≡ t → Within (written_out 0 0 (row_of_key r.key table) said_at) said_at
      go true q = let z : row_of_key r.key table ≡ [] = ap (λ (i : ℕ). row_of_key i table) (eqb-true r.key 0 q) ∙ e in rw z (record { most = λ i h f. absurd (omega arith) })
      go false q = read_within (eqb-false r.key 0 q)

  -- where the lent numbers were all 0, they give what was said at every place
  pub reads_numbers : ((i : ℕ) → get_or lent i 0 ≡ 0) → (λ (i : ℕ). get_or lent' i 0) ≡ said_at
  reads_numbers h = fun_ext (λ i. ap (λ (l : List ℕ). get_or l i 0) k.numbers ∙ at (said_in (length lent) (length room) table line).numbers i)
    where
      at : (ns : List ℕ) (i : ℕ) → get_or (over ns lent) i 0 ≡ get_or ns i 0
      at ns i = elim (dec_le (length ns) i) [
        | yes g ↦
            let z : length ns + (i - length ns) ≡ i = omega arith in
            ap (λ (j : ℕ). get_or (over ns lent) j 0) (sym z) ∙ get_or-append-add ns (drop (length ns) lent) (i - length ns) 0 ∙ get_or-drop (length ns) lent (i - length ns) 0
            ∙ h (length ns + (i - length ns)) ∙ sym (get_or-eq_default ns 0 g)
        | no g ↦ get_or-append ns (drop (length ns) lent) 0 i (omega arith)
      ]

-- ---- a list that is written out
list_length : (count : ℕ) (items : List ℕ) → length (repeated count items) ≡ count * length items
unfolding repeated
list_length zero items = let z : 0 * length items ≡ 0 = omega arith in sym z
list_length (suc count) items =
    let more = list_length count items in
    let once = suc-mul count (length items) in
    length-append items (repeated count items) ∙ omega arith

behind_at : (count : ℕ) (items more : List ℕ) (j : ℕ) → get_or (repeated count items ++ more) (count * length items + j) 0 ≡ get_or more j 0
behind_at count items more j = ap (λ (m : ℕ). get_or (repeated count items ++ more) (m + j) 0) (sym (list_length count items)) ∙ get_or-append-add (repeated count items) more j 0

list_at : (count : ℕ) (items more : List ℕ) (i j : ℕ) → i < count → j < length items → get_or (repeated count items ++ more) (i * length items + j) 0 ≡ get_or items j 0
unfolding repeated
list_at zero items more i j h g = absurd (omega arith)
list_at (suc count) items more zero j h g =
    let z : 0 * length items + j ≡ j = omega arith in
    rw (z, append_assoc) (get_or-append items (repeated count items ++ more) 0 j g)
list_at (suc count) items more (suc i) j h g =
    let once = suc-mul i (length items) in
    let z : suc i * length items + j ≡ length items + (i * length items + j) = omega arith in
    rw (z, append_assoc) (get_or-append-add items (repeated count items ++ more) (i * length items + j) 0 ∙ list_at count items more i j (omega arith) g)

list_inside : (count : ℕ) (items more : List ℕ) (i j : ℕ) → i < count → j < length items → i * length items + j < length (repeated count items ++ more)
unfolding repeated
list_inside zero items more i j h g = absurd (omega arith)
list_inside (suc count) items more zero j h g = let z : 0 * length items ≡ 0 = omega arith in simp length-append (omega arith)
list_inside (suc count) items more (suc i) j h g =
    let once = suc-mul i (length items) in
    let rest = list_inside count items more i j (omega arith) g in
    let size : length ((items ++ repeated count items) ++ more) ≡ length items + length (repeated count items ++ more) = ap length (append_assoc items (repeated count items) more) ∙ length-append items (repeated count items ++ more) in
    omega arith

doubled : (i half j size : ℕ) → half * 2 ≡ size → (i * half + j) * 2 ≡ i * size + j * 2
doubled zero half j size e = let z : 0 * half ≡ 0 = omega arith in let y : 0 * size ≡ 0 = omega arith in omega arith
doubled (suc i) half j size e =
    let more = doubled i half j size e in
    let a = suc-mul i half in
    let b = suc-mul i size in
    omega arith

odd : (items : List ℕ) → paired items ≡ true → (j : ℕ) → j * 2 < length items → j * 2 + 1 < length items
odd items p j h = let even = paired_even items p in omega arith

-- ---- the parts of a row that is written out
module _ {items : List ℕ} {n : ℕ → ℕ} where
  within_first : {a b : ℕ} → Within (a ∷ (b ∷ items)) n → a ≡ NUMBER → n 0 ≤ b
  within_first k e = k.most 0 (omega arith) e

  pub within_rest : {a b : ℕ} → Within (a ∷ (b ∷ items)) n → Within items (λ i. n (suc i))
  within_rest k = record { most = λ i h e. let z : suc i * 2 ≡ suc (suc (i * 2)) = omega arith in let y : suc i * 2 + 1 ≡ suc (suc (i * 2 + 1)) = omega arith in rw y at (k.most (suc i) (omega arith) (rw z e)) }

module _ (count : ℕ) (items more : List ℕ) {n : ℕ → ℕ} (k : Within (repeated count items ++ more) n) (p : paired items ≡ true) where
  -- the items of a list, turn by turn
  pub within_list : (i : ℕ) → i < count → Within items (λ j. n (i * (length items / 2) + j))
  within_list i h = record {
    most = λ j g e.
        let even = paired_even items p in
        let place : (i * (length items / 2) + j) * 2 ≡ i * length items + j * 2 = doubled i (length items / 2) j (length items) even in
        let first = list_at count items more i (j * 2) h g in
        let second = list_at count items more i (j * 2 + 1) h (odd items p j g) in
        let far : i * length items + j * 2 < length (repeated count items ++ more) = list_inside count items more i (j * 2) h g in
        let next : (i * (length items / 2) + j) * 2 + 1 ≡ i * length items + (j * 2 + 1) = omega arith in
        rw (next, second) at (k.most (i * (length items / 2) + j) (omega arith) (rw (place, first) e));
  }

  -- and what stands behind the list
  pub within_behind : Within more (λ j. n (count * (length items / 2) + j))
  within_behind = record {
    most = λ j g e.
        let even = paired_even items p in
        let place : (count * (length items / 2) + j) * 2 ≡ count * length items + j * 2 = doubled count (length items / 2) j (length items) even in
        let next : (count * (length items / 2) + j) * 2 + 1 ≡ count * length items + (j * 2 + 1) = omega arith in
        let size : length (repeated count items ++ more) ≡ count * length items + length more = length-append (repeated count items) more ∙ ap (λ (m : ℕ). m + length more) (list_length count items) in
        rw (next, behind_at count items more (j * 2 + 1)) at (k.most (count * (length items / 2) + j) (omega arith) (rw (place, behind_at count items more (j * 2)) e));
  }

-- a number with no list before it
within_from : (place most from : ℕ) (row : List ℕ) (n m : ℕ → ℕ) → is_number place most row ≡ true → Within (written_out 0 from row n) m → m place ≤ most
unfolding written_out
within_from place most from [] n m e k = clash e
within_from place most from (a ∷ []) n m e k = clash e
within_from zero most from (a ∷ (b ∷ row)) n m e k = go (eqb a NUMBER) refl (eqb b most) refl e
  where
    go : (t : Bool) → eqb a NUMBER ≡ t → (u : Bool) → eqb b most ≡ u → t && u ≡ true → m 0 ≤ most
    go true q true r f =
        let list : eqb a LIST ≡ false = ne_eqb a LIST (omega (arith, eqb-true a NUMBER q)) in
        let first : Within (a ∷ (b ∷ written_out 0 (from + 1) row n)) m = rw list at k in
        omega (arith, within_first first (eqb-true a NUMBER q), eqb-true b most r)
    go true q false r f = clash f
    go false q u r f = clash f
within_from (suc place) most from (a ∷ (b ∷ row)) n m e k = go (eqb a LIST) refl e (within_from place most (from + 1) row n (λ i. m (suc i)))
  where
    go : (t : Bool) → eqb a LIST ≡ t → cond t false (is_number place most row) ≡ true
        → (is_number place most row ≡ true → Within (written_out 0 (from + 1) row n) (λ i. m (suc i)) → m (suc place) ≤ most) → m (suc place) ≤ most
    go true q f more = clash f
    go false q f more = let rest : Within (a ∷ (b ∷ written_out 0 (from + 1) row n)) m = rw q at k in more f (within_rest rest)

pub within_number : (place most : ℕ) (row : List ℕ) (n : ℕ → ℕ) → is_number place most row ≡ true → Within (written_out 0 0 row n) n → n place ≤ most
within_number place most row n e k = within_from place most 0 row n n e k
