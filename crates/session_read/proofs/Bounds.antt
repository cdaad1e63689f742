-- The bounds of a command's numbers, read off its row. Assumes nothing.
use mathlib.Core.Bool.{true, false}
use mathlib.Core.Path.{◌≡◌, refl, ap, subst, fun_ext}
use mathlib.Core.List.{List, [], ◌∷◌, ◌++◌}
use Prim.Native.Nat.{ℕ, suc, ◌+◌, ◌*◌, ◌≤◌, ◌<◌}
use native.Mathlib.Numerals.{add-one}
use native.Mathlib.Omega.{arith}
use lib.Dec.{eqb}
use lib.ListN.{get_or, drop}
use Rattle.line_rows.specs.Rows.{NUMBER, LIST}
use Rattle.line_rows.specs.Tables.{items_behind}
use Rattle.line_rows.specs.Places.{keyed_of, row_of_key, before, written_out, Within, is_number}
use Rattle.line_rows.proofs.Places.{within_rest, within_list, within_behind, within_number}
use Rattle.session_read.specs.Lines.{START, PLAIN, FLOW, CHANNELS, EXPIRIES, LENGTHS, OFFERS, HIGHEST-ID, HIGHEST-SEQUENCE, LATEST-TIME, MOST-ROOM, MOST-SETTINGS, COMMANDS, numbers_in, Bounded, StartFits, OffersFit}
use Rattle.session_read.specs.Start.{store_said}
use Rattle.session_read.specs.Offers.{channel_count, expiry_count, length_count}

-- a number with no list before it in the row
pub below : (key place : ℕ) {most : ℕ} {numbers : List ℕ} → is_number place most (row_of_key key COMMANDS) ≡ true → Bounded key numbers → get_or numbers place 0 ≤ most
below key place {most} {numbers} e k = within_number place most (row_of_key key COMMANDS) (numbers_in numbers) e k.within

-- ---- `start`, whose channels are a list; what stands behind them doesn't matter
abbrev channel_items : List ℕ
channel_items = NUMBER ∷ HIGHEST-ID ∷ PLAIN ∷ FLOW ∷ NUMBER ∷ HIGHEST-SEQUENCE ∷ NUMBER ∷ MOST-ROOM ∷ []

abbrev start_items : List ℕ → List ℕ
start_items behind = NUMBER ∷ HIGHEST-ID ∷ NUMBER ∷ MOST-SETTINGS ∷ LIST ∷ 4 ∷ channel_items ++ behind

channel_fits_lem : (behind : List ℕ) (n : ℕ → ℕ) → Within (written_out 0 0 (start_items behind) n) n → (i : ℕ) → i < n 1 → Within channel_items (λ j. n (suc (suc (i * 4 + j))))
unfolding written_out
channel_fits_lem behind n k i h = within_list (n 1) channel_items _ (within_rest (within_rest k)) refl i h

store_fits : (n : ℕ → ℕ) (i : ℕ) → Within channel_items (λ j. n (suc (suc (i * 4 + j)))) → store_said n i ≤ MOST-ROOM
store_fits n i k =
    let size : n (suc (suc (i * 4 + 3))) ≤ MOST-ROOM = k.most 3 (omega arith) refl in
    let place : n (suc (suc (i * 4 + 3))) ≡ store_said n i = ap n (omega arith) in
    omega arith

abbrev start_row : List ℕ
start_row = row_of_key START COMMANDS

start_row_lem : start_row ≡ start_items (drop 14 start_row)
unfolding row_of_key keyed_of items_behind
start_row_lem = refl

few_channels : {numbers : List ℕ} → Bounded START numbers → get_or numbers 1 0 ≤ MOST-SETTINGS
unfolding row_of_key keyed_of items_behind
few_channels k = below START 1 refl k

pub start_fits : {numbers : List ℕ} → Bounded START numbers → StartFits (numbers_in numbers)
start_fits {numbers} k =
    let n : ℕ → ℕ = numbers_in numbers in
    let items = subst (λ (row : List ℕ). Within (written_out 0 0 row n) n) start_row_lem k.within in
    record { few = few_channels k; each = λ i h. store_fits n i (channel_fits_lem (drop 14 start_row) n items i h) }

-- ---- `offers`, whose lists stand each behind a keyword and its count
abbrev list_items : (keyword most : ℕ) → List ℕ → List ℕ
list_items keyword most row = keyword ∷ keyword ∷ NUMBER ∷ MOST-SETTINGS ∷ LIST ∷ 1 ∷ NUMBER ∷ most ∷ row

-- the numbers given by their places otherwise
within_as : {items : List ℕ} {m m' : ℕ → ℕ} → Within items m → ((j : ℕ) → m j ≡ m' j) → Within items m'
within_as {items} k e = subst (λ (m : ℕ → ℕ). Within items m) (fun_ext e) k

module _ (n : ℕ → ℕ) where
  -- a row read from a place on
  abbrev From : ℕ → List ℕ → Type 0
  From place row = Within (written_out 0 place row n) (λ j. n (place + j))

  behind_list : (place count : ℕ) (row : List ℕ) → Within (written_out 0 (place + 1 + 1 + count * 1) row n) (λ j. n (place + suc (suc (count * 1 + j)))) → From (place + 2 + count) row
  behind_list place count row k =
      let at : place + 1 + 1 + count * 1 ≡ place + 2 + count = omega arith in
      within_as (rw at at k) (λ j. ap n (omega arith))

  list_from : (keyword most place : ℕ) (row : List ℕ) → eqb keyword LIST ≡ false → From place (list_items keyword most row) → (n (place + 1) ≤ MOST-SETTINGS) × From (place + 2 + n (place + 1)) row
  unfolding written_out
  list_from keyword most place row e k =
      let counted = within_rest (rw e at k) in
      let few : n (place + 1) ≤ MOST-SETTINGS = counted.most 0 (omega arith) refl in
      let said : before n (place + 1 + 1) ≡ n (place + 1) = ap (before n) (add-one (place + 1)) in
      let behind = within_behind (before n (place + 1 + 1)) (NUMBER ∷ most ∷ []) (written_out 0 (place + 1 + 1 + before n (place + 1 + 1) * 1) row n) (within_rest counted) refl in
      (few, behind_list place (n (place + 1)) row (rw said at behind))

abbrev offers_items : List ℕ → List ℕ
offers_items row = NUMBER ∷ LATEST-TIME ∷ list_items CHANNELS HIGHEST-ID (list_items EXPIRIES LATEST-TIME (list_items LENGTHS MOST-ROOM row))

lists_from_lem : (n : ℕ → ℕ) (row : List ℕ) → Within (written_out 0 0 (offers_items row) n) n → From n 1 (list_items CHANNELS HIGHEST-ID (list_items EXPIRIES LATEST-TIME (list_items LENGTHS MOST-ROOM row)))
unfolding written_out
lists_from_lem n row k = within_as (within_rest k) (λ j. ap n (omega arith))

abbrev offers_row : List ℕ
offers_row = row_of_key OFFERS COMMANDS

offers_row_lem : offers_row ≡ offers_items (drop 26 offers_row)
unfolding row_of_key keyed_of items_behind
offers_row_lem = refl

pub offers_fit : {numbers : List ℕ} → Bounded OFFERS numbers → OffersFit (numbers_in numbers)
unfolding channel_count expiry_count length_count
offers_fit {numbers} k =
    let n : ℕ → ℕ = numbers_in numbers in
    let items = subst (λ (row : List ℕ). Within (written_out 0 0 row n) n) offers_row_lem k.within in
    let channels = list_from n CHANNELS HIGHEST-ID 1 _ refl (lists_from_lem n _ items) in
    let expiries = list_from n EXPIRIES LATEST-TIME (3 + n 2) _ refl channels.1 in
    let lengths = list_from n LENGTHS MOST-ROOM (3 + n 2 + 2 + n (3 + n 2 + 1)) _ refl expiries.1 in
    let second : n (3 + n 2 + 1) ≡ n (4 + n 2) = ap n (omega arith) in
    let third : n (3 + n 2 + 2 + n (3 + n 2 + 1) + 1) ≡ n (6 + n 2 + n (4 + n 2)) = ap n (omega arith) in
    record { channels = channels.0; expiries = rw second at expiries.0; lengths = rw third at lengths.0 }
