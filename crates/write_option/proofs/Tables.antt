-- The laws of a table's options, for any table. Assumes nothing.
use Rattle.std.specs.Prelude.{Option, None}
use Rattle.quantity.specs.declared.count.FlowSequence.{FlowSequence}
use Rattle.meaning.specs.declared.message.Window.{Window}
use Prim.Native.Nat.{ℕ, suc, ◌+◌, ◌-◌, ◌*◌, ◌≤◌, ◌<◌}
use mathlib.Core.Path.{◌≡◌}
use mathlib.Core.List.{List, [], ◌∷◌, ◌++◌}
use native.Mathlib.Omega.{arith}
use native.Mathlib.Numerals.{add-one}
use lib.ListN.{length, get_or, take, drop, drop_of_length-le}
use lib.Seq.{drop-cons}
use Rattle.quantity.specs.Limits.{CHANNEL-IDS}
use Rattle.meaning.proofs.Tables.{Full}
use Rattle.wire.specs.Options.{Options, done, Laid}
use Rattle.write_option.specs.Laying.{alone, size_of}
use Rattle.write_option.specs.Parts.{status_then, sequence_then, window_then, table_then, statuses_then, sequences_then, windows_then}
use Rattle.write_option.specs.Sizes.{LONGEST-OPTION, status_size, sequence_size, window_size, table_size, statuses_size, sequences_size, windows_size}
use Rattle.write_option.proofs.Laying.{Part, part_nothing, part_both, Standing, standing_start, standing_end, Lending, lending}
use Rattle.write_option.proofs.Parts.{status_part_lem, sequence_part_lem, window_part_lem}

abbrev pub status_at : ℕ → Option ℕ → Options → Options
status_at channel cell = status_then channel cell

abbrev pub sequence_at : ℕ → Option FlowSequence → Options → Options
sequence_at channel cell = sequence_then channel cell

abbrev pub window_at : ℕ → Option Window → Options → Options
window_at channel cell = window_then channel cell

-- a table: what a place of it puts, that part's size, and a place that is not there
pub record Table (A : Type 0) : Type 0 where
  pub put : ℕ → A → Options → Options
  pub size : A → ℕ
  pub part : (channel : ℕ) (cell : A) → Part (put channel cell) (size cell)
  pub none : A

abbrev pub status_table : Table (Option ℕ)
status_table = record { put = status_at; size = λ cell. status_size cell; part = λ channel cell. status_part_lem channel cell; none = None }

abbrev pub sequence_table : Table (Option FlowSequence)
sequence_table = record { put = sequence_at; size = λ cell. sequence_size cell; part = λ channel cell. sequence_part_lem channel cell; none = None }

abbrev pub window_table : Table (Option Window)
window_table = record { put = window_at; size = λ cell. window_size cell; part = λ channel cell. window_part_lem channel cell; none = None }

-- ---- a table before what follows

table_part : {A : Type 0} (t : Table A) (channel : ℕ) (cells : List A) → Part (table_then t.put channel cells) (table_size t.size cells)
unfolding table_then table_size
table_part t channel [] = part_nothing
table_part t channel (cell ∷ cells) = part_both (t.part channel cell) (table_part t (suc channel) cells)

pub statuses_part : (cells : List (Option ℕ)) → Part (statuses_then cells) (statuses_size cells)
statuses_part = table_part status_table 0

pub sequences_part : (cells : List (Option FlowSequence)) → Part (sequences_then cells) (sequences_size cells)
sequences_part = table_part sequence_table 0

pub windows_part : (cells : List (Option Window)) → Part (windows_then cells) (windows_size cells)
windows_part = table_part window_table 0

-- ---- laying a table down, channel by channel

module _ {A : Type 0} (t : Table A) (cells : List A) where
  -- the options of the channels from one on
  abbrev pub from : ℕ → Options
  from channel = table_then t.put channel (drop channel cells) done

  -- what a channel's place puts
  abbrev pub here : ℕ → Options → Options
  here channel = t.put channel (get_or cells channel t.none)

  from_step : (channel : ℕ) → channel < length cells → from channel ≡ here channel (from (channel + 1))
  unfolding table_then
  from_step channel h = rw (add-one, drop-cons cells channel t.none)

  from_end : (channel : ℕ) → length cells ≤ channel → from channel ≡ done
  unfolding table_then
  from_end channel h = rw (drop_of_length-le cells h)

  -- the options of the channels from this one on are left to be laid
  pub record Going (entry : List ℕ) (channel at : ℕ) (out : List ℕ) : Type 0 where
    pub full : length cells ≡ CHANNEL-IDS
    pub inside : channel ≤ CHANNEL-IDS
    pub standing : Standing (alone (table_then t.put 0 cells)) entry at (from channel) out

  -- the rest of the output is lent to the writer of a channel's option
  abbrev pub Turn : List ℕ → ℕ → ℕ → List ℕ → Type 0
  Turn entry channel at out = Lending (alone (table_then t.put 0 cells)) entry at (here channel) (from (channel + 1)) out

  pub going_start : {entry : List ℕ} → length cells ≡ CHANNEL-IDS → size_of (table_then t.put 0 cells) ≤ length entry → Going entry 0 0 entry
  going_start {entry} full h = record { full = full; inside = omega arith; standing = standing_start (table_then t.put 0 cells done) entry h }

  module _ {entry : List ℕ} {channel at : ℕ} {out : List ℕ} (g : Going entry channel at out) where
    pub going_lent : channel < CHANNEL-IDS → Turn entry channel at out
    going_lent h = let full = g.full in lending (t.part channel (get_or cells channel t.none)) (rw (← from_step channel (omega arith)) g.standing)

    pub going_on : {part : List ℕ} {r : ℕ} → channel < CHANNEL-IDS → Laid (alone (here channel)) (take (length out - at) (drop at out)) part r
        → Going entry (channel + 1) (at + r) (take at out ++ (part ++ drop (length out - at) (drop at out)))
    going_on {part} {r} h laid = record { full = g.full; inside = omega arith; standing = (going_lent h).back part r laid }

    pub going_end : CHANNEL-IDS ≤ channel → Laid (alone (table_then t.put 0 cells)) entry out at
    going_end h = let full = g.full in standing_end (rw (from_end channel (omega arith)) at g.standing)

-- ---- the tables' length, channel by channel

module _ {A : Type 0} (size : A → ℕ) (cells : List A) (none : A) (channel : ℕ) where
  size_step : channel < length cells → table_size size (drop channel cells) ≡ size (get_or cells channel none) + table_size size (drop (channel + 1) cells)
  unfolding table_size
  size_step h = rw (add-one, drop-cons cells channel none)

  size_end : length cells ≤ channel → table_size size (drop channel cells) ≡ 0
  unfolding table_size
  size_end h = rw (drop_of_length-le cells h)

module _ (statuses : List (Option ℕ)) (sequences : List (Option FlowSequence)) (windows : List (Option Window)) where
  abbrev pub size_from : ℕ → ℕ
  size_from channel = statuses_size (drop channel statuses) + (sequences_size (drop channel sequences) + windows_size (drop channel windows))

  abbrev pub size_at : ℕ → ℕ
  size_at channel = status_table.size (get_or statuses channel None) + (sequence_table.size (get_or sequences channel None) + window_table.size (get_or windows channel None))

  -- with the bytes of the channels from here on those counted are the whole
  pub record Counting (channel size : ℕ) : Type 0 where
    pub full : Full statuses sequences windows
    pub inside : channel ≤ CHANNEL-IDS
    pub few : size ≤ 3 * LONGEST-OPTION * channel
    pub whole : size + size_from channel ≡ size_from 0

  pub counting_start : Full statuses sequences windows → Counting 0 0
  counting_start full = record { full = full; inside = omega arith; few = omega arith; whole = omega arith }

  pub counting_turn : (channel size r : ℕ) → channel < CHANNEL-IDS → (r ≡ size_at channel) × (r ≤ 3 * LONGEST-OPTION) → Counting channel size → Counting (channel + 1) (size + r)
  counting_turn channel size r h e s =
      let full = s.full in
      let a = size_step status_table.size statuses None channel (omega arith) in
      let b = size_step sequence_table.size sequences None channel (omega arith) in
      let d = size_step window_table.size windows None channel (omega arith) in
      record { full = full; inside = omega arith; few = omega (arith, s.few); whole = omega (arith, s.whole) }

  pub counting_end : (channel size : ℕ) → CHANNEL-IDS ≤ channel → Counting channel size → (size ≡ size_from 0) × (size ≤ 3 * LONGEST-OPTION * CHANNEL-IDS)
  counting_end channel size h s =
      let full = s.full in
      let a = size_end status_table.size statuses None channel (omega arith) in
      let b = size_end sequence_table.size sequences None channel (omega arith) in
      let d = size_end window_table.size windows None channel (omega arith) in
      (omega (arith, s.whole), omega (arith, s.few, s.inside))
