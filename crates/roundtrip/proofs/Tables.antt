-- A table of a control message, written channel by channel and read back: one proof for the three tables. Assumes nothing.
use Prim.Native.Nat.{ℕ, suc, ◌+◌, ◌≤◌, ◌<◌}
use mathlib.Core.Path.{◌≡◌, refl, ◌∙◌}
use mathlib.Core.List.{List, [], ◌∷◌, ◌++◌, append_assoc}
use mathlib.Core.Bool.{true, false}
use native.Mathlib.Omega.{arith}
use native.Mathlib.Numerals.{add-one}
use borrow.Author.Tests.{lt-ltb}
use lib.ListN.{length, get_or, set, replicate, length-append}
use lib.Seq.{get_or-append_seam, set-append_seam}
use lib.Dec.{eqb}
use Rattle.quantity.specs.declared.count.DatalinkId.{DatalinkId}
use Rattle.quantity.specs.Limits.{CHANNEL-IDS, RESERVED-CHANNEL, LONGEST-NAME}
use Rattle.wire.specs.Options.{Options, option}
use Rattle.meaning.specs.declared.message.End.{End}
use Rattle.meaning.specs.declared.message.Plane.TheVariants as planes
use Rattle.meaning.specs.declared.message.Control.{Control}
use Rattle.meaning.specs.Kinds.{among, known, length_listed, value_listed, one_for_each, naming, PACKET-DATA}
use Rattle.read_control.specs.Message.{control_sort, control_unstated, control_state}
use Rattle.writable.specs.Allowed.{may}
use Rattle.write_option.specs.Parts.{table_then}
use Rattle.roundtrip.proofs.Adding.{Adds, adds_none, adds_option, adds_both}

-- ---- cells

-- what a cell puts for a channel: nothing, or the channel with what stands behind it, which makes the cell again
pub data Cell {C : Type 0} (end : End) (kind : ℕ) (absent : C) (from : List ℕ → C) (channel : ℕ) : (Options → Options) → C → Type 0 where
  nothing : Cell end kind absent from channel (λ more. more) absent
  stated : (cell : C) (behind : List ℕ) → may planes.Control end kind ≡ true → length_listed kind (suc (length behind)) ≡ true → length behind < LONGEST-NAME
      → from (channel ∷ behind) ≡ cell → Cell end kind absent from channel (option kind (channel ∷ behind)) cell

-- a table: its options' type, how a cell is put, the message with these cells in it, the cell that a content makes, and which cells may stand
pub record Column {C : Type 0} (end : End) (kind : ℕ) (put : ℕ → C → Options → Options) (absent : C) (holds : List C → Control) (from : List ℕ → C) (Fit : C → Type 0)
    : Type 0 where
  pub is_known : among kind known ≡ true
  pub one_for_each_lem : among kind (one_for_each planes.Control) ≡ true
  pub is_naming : among kind naming ≡ true
  pub no_packet : eqb kind PACKET-DATA ≡ false
  pub frees : (cells : List C) (channel : ℕ) → get_or cells channel absent ≡ absent → control_unstated kind channel (holds cells) ≡ true
  pub states : (cells : List C) (channel : ℕ) (content : List ℕ) → control_state kind channel content (holds cells) ≡ holds (set cells channel (from content))
  pub puts : (channel : ℕ) (cell : C) → Fit cell → Cell end kind absent from channel (put channel cell) cell

module _ (id : DatalinkId) {C : Type 0} {end : End} {kind : ℕ} {put : ℕ → C → Options → Options} {absent : C} {holds : List C → Control} {from : List ℕ → C} {Fit : C → Type 0}
    (t : Column end kind put absent holds from Fit) where
  adds_cell : (before after : List C) {put' : Options → Options} {cell : C} → length before < CHANNEL-IDS → Cell end kind absent from (length before) put' cell
      → Adds (control_sort end id) 1 put' (holds (before ++ (absent ∷ after))) (holds (before ++ (cell ∷ after)))
  unfolding value_listed
  adds_cell before after h nothing = adds_none (control_sort end id) 1 (holds (before ++ (absent ∷ after)))
  adds_cell before after h (stated cell behind m l s e) =
      adds_option (control_sort end id)
      (record {
        opened = refl;
        is_known = t.is_known;
        may_stand = m;
        length_listed_lem = l;
        value_listed_lem = rw (t.is_naming, lt-ltb (length before) RESERVED-CHANNEL h);
        is_free = rw t.one_for_each_lem (t.frees (before ++ (absent ∷ after)) (length before) (get_or-append_seam before absent after absent));
        states = rw t.one_for_each_lem (t.states (before ++ (absent ∷ after)) (length before) (length before ∷ behind) ∙ rw (set-append_seam, e));
      })
      (omega arith) t.no_packet

  -- the cells before this one are stated, the places from it on are absent
  adds_from : (cells before : List C) → length before + length cells ≤ CHANNEL-IDS → ((n : ℕ) → Fit (get_or cells n absent))
      → Adds (control_sort end id) (length cells) (table_then put (length before) cells) (holds (before ++ replicate (length cells) absent)) (holds (before ++ cells))
  unfolding table_then
  adds_from [] before h f = adds_none (control_sort end id) 0 (holds (before ++ []))
  adds_from (cell ∷ cells) before h f =
      let one : 1 + length cells ≡ suc (length cells) = omega arith in
      rw one at
      (adds_both (control_sort end id) (adds_cell before (replicate (length cells) absent) (omega arith) (t.puts (length before) cell (f 0)))
      (simp (append_assoc, length-append, add-one) at (adds_from cells (before ++ (cell ∷ [])) (rw length-append (omega arith)) (λ n. f (suc n)))))

  pub adds_column : (cells : List C) → length cells ≡ CHANNEL-IDS → ((n : ℕ) → Fit (get_or cells n absent))
      → Adds (control_sort end id) (length cells) (table_then put 0 cells) (holds (replicate (length cells) absent)) (holds cells)
  adds_column cells e f = adds_from cells [] (omega arith) f
