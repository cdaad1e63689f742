-- Whole files in literal bytes, with what is reported of each. Assumes nothing.
use mathlib.Core.Path.{◌≡◌, refl}
use mathlib.Core.List.{List, [], ◌∷◌, ◌++◌}
use Prim.Native.Nat.{ℕ}
use Rattle.records.specs.Heads.{pair_at, number_at, is_right, order_of}
use Rattle.records.specs.Files.{Report, kept, refused, first_of, records_with, records_of, reports_of}

-- "d4 c3 b2 a1", 2.4, eight bytes of zone and figures, a snapshot length of 65,536, link type 1
abbrev little : List ℕ
little = 212 ∷ 195 ∷ 178 ∷ 161 ∷ 2 ∷ 0 ∷ 4 ∷ 0 ∷ 0 ∷ 0 ∷ 0 ∷ 0 ∷ 0 ∷ 0 ∷ 0 ∷ 0 ∷ 0 ∷ 0 ∷ 1 ∷ 0 ∷ 1 ∷ 0 ∷ 0 ∷ 0 ∷ []

-- "a1 b2 c3 d4", the same with the highest byte first
abbrev big : List ℕ
big = 161 ∷ 178 ∷ 195 ∷ 212 ∷ 0 ∷ 2 ∷ 0 ∷ 4 ∷ 0 ∷ 0 ∷ 0 ∷ 0 ∷ 0 ∷ 0 ∷ 0 ∷ 0 ∷ 0 ∷ 1 ∷ 0 ∷ 0 ∷ 0 ∷ 0 ∷ 0 ∷ 1 ∷ []

-- a time, 3 bytes kept of 258, 7 8 9
abbrev little_record : List ℕ
little_record = 10 ∷ 11 ∷ 12 ∷ 13 ∷ 14 ∷ 15 ∷ 16 ∷ 17 ∷ 3 ∷ 0 ∷ 0 ∷ 0 ∷ 2 ∷ 1 ∷ 0 ∷ 0 ∷ 7 ∷ 8 ∷ 9 ∷ []

abbrev big_record : List ℕ
big_record = 10 ∷ 11 ∷ 12 ∷ 13 ∷ 14 ∷ 15 ∷ 16 ∷ 17 ∷ 0 ∷ 0 ∷ 0 ∷ 3 ∷ 0 ∷ 0 ∷ 1 ∷ 2 ∷ 7 ∷ 8 ∷ 9 ∷ []

-- a file, and what is reported of it
pub record Row : Type 0 where
  pub file : List ℕ
  pub reports : List Report

abbrev pub row : List ℕ → List Report → Row
row file reports = record { file = file; reports = reports }

abbrev pub All : List Row → Type 0
All [] = Unit {0}
All (r ∷ rows) = (reports_of r.file ≡ r.reports) × All rows

-- a clean end: behind the head, behind a record, behind two
pub clean_ends : All (
    row little []
    ∷ row big []
    ∷ row (little ++ little_record) (kept 258 (7 ∷ 8 ∷ 9 ∷ []) ∷ [])
    ∷ row (big ++ big_record) (kept 258 (7 ∷ 8 ∷ 9 ∷ []) ∷ [])
    ∷ row (little ++ little_record ++ little_record) (kept 258 (7 ∷ 8 ∷ 9 ∷ []) ∷ kept 258 (7 ∷ 8 ∷ 9 ∷ []) ∷ [])
    ∷ [])
unfolding reports_of records_of records_with first_of order_of is_right number_at pair_at
clean_ends = (refl, (refl, (refl, (refl, (refl, tt)))))

-- "25 bad file header or another link type"
pub bad_heads : All (
    -- nothing at all
    row [] (refused 25 ∷ [])
    -- a byte too few
    ∷ row (212 ∷ 195 ∷ 178 ∷ 161 ∷ 2 ∷ 0 ∷ 4 ∷ 0 ∷ 0 ∷ 0 ∷ 0 ∷ 0 ∷ 0 ∷ 0 ∷ 0 ∷ 0 ∷ 0 ∷ 0 ∷ 1 ∷ 0 ∷ 1 ∷ 0 ∷ 0 ∷ []) (refused 25 ∷ [])
    -- the nanosecond form
    ∷ row (77 ∷ 60 ∷ 178 ∷ 161 ∷ 2 ∷ 0 ∷ 4 ∷ 0 ∷ 0 ∷ 0 ∷ 0 ∷ 0 ∷ 0 ∷ 0 ∷ 0 ∷ 0 ∷ 0 ∷ 0 ∷ 1 ∷ 0 ∷ 1 ∷ 0 ∷ 0 ∷ 0 ∷ []) (refused 25 ∷ [])
    -- one byte of the magic number
    ∷ row (212 ∷ 195 ∷ 178 ∷ 160 ∷ 2 ∷ 0 ∷ 4 ∷ 0 ∷ 0 ∷ 0 ∷ 0 ∷ 0 ∷ 0 ∷ 0 ∷ 0 ∷ 0 ∷ 0 ∷ 0 ∷ 1 ∷ 0 ∷ 1 ∷ 0 ∷ 0 ∷ 0 ∷ []) (refused 25 ∷ [])
    -- version 2.3
    ∷ row (212 ∷ 195 ∷ 178 ∷ 161 ∷ 2 ∷ 0 ∷ 3 ∷ 0 ∷ 0 ∷ 0 ∷ 0 ∷ 0 ∷ 0 ∷ 0 ∷ 0 ∷ 0 ∷ 0 ∷ 0 ∷ 1 ∷ 0 ∷ 1 ∷ 0 ∷ 0 ∷ 0 ∷ []) (refused 25 ∷ [])
    -- version 3.4
    ∷ row (212 ∷ 195 ∷ 178 ∷ 161 ∷ 3 ∷ 0 ∷ 4 ∷ 0 ∷ 0 ∷ 0 ∷ 0 ∷ 0 ∷ 0 ∷ 0 ∷ 0 ∷ 0 ∷ 0 ∷ 0 ∷ 1 ∷ 0 ∷ 1 ∷ 0 ∷ 0 ∷ 0 ∷ []) (refused 25 ∷ [])
    -- a version in the other order
    ∷ row (212 ∷ 195 ∷ 178 ∷ 161 ∷ 0 ∷ 2 ∷ 0 ∷ 4 ∷ 0 ∷ 0 ∷ 0 ∷ 0 ∷ 0 ∷ 0 ∷ 0 ∷ 0 ∷ 0 ∷ 0 ∷ 1 ∷ 0 ∷ 1 ∷ 0 ∷ 0 ∷ 0 ∷ []) (refused 25 ∷ [])
    -- link type 101
    ∷ row (212 ∷ 195 ∷ 178 ∷ 161 ∷ 2 ∷ 0 ∷ 4 ∷ 0 ∷ 0 ∷ 0 ∷ 0 ∷ 0 ∷ 0 ∷ 0 ∷ 0 ∷ 0 ∷ 0 ∷ 0 ∷ 1 ∷ 0 ∷ 101 ∷ 0 ∷ 0 ∷ 0 ∷ []) (refused 25 ∷ [])
    -- a link type in the other order
    ∷ row (212 ∷ 195 ∷ 178 ∷ 161 ∷ 2 ∷ 0 ∷ 4 ∷ 0 ∷ 0 ∷ 0 ∷ 0 ∷ 0 ∷ 0 ∷ 0 ∷ 0 ∷ 0 ∷ 0 ∷ 0 ∷ 1 ∷ 0 ∷ 0 ∷ 0 ∷ 0 ∷ 1 ∷ []) (refused 25 ∷ [])
    -- a link type by its highest byte
    ∷ row (212 ∷ 195 ∷ 178 ∷ 161 ∷ 2 ∷ 0 ∷ 4 ∷ 0 ∷ 0 ∷ 0 ∷ 0 ∷ 0 ∷ 0 ∷ 0 ∷ 0 ∷ 0 ∷ 0 ∷ 0 ∷ 1 ∷ 0 ∷ 1 ∷ 0 ∷ 0 ∷ 16 ∷ []) (refused 25 ∷ [])
    -- "a1 b2 c3 d4" with what follows as little-endian
    ∷ row (161 ∷ 178 ∷ 195 ∷ 212 ∷ 2 ∷ 0 ∷ 4 ∷ 0 ∷ 0 ∷ 0 ∷ 0 ∷ 0 ∷ 0 ∷ 0 ∷ 0 ∷ 0 ∷ 0 ∷ 0 ∷ 1 ∷ 0 ∷ 1 ∷ 0 ∷ 0 ∷ 0 ∷ []) (refused 25 ∷ [])
    ∷ [])
unfolding reports_of records_of records_with first_of order_of is_right number_at pair_at
bad_heads = (refl, (refl, (refl, (refl, (refl, (refl, (refl, (refl, (refl, (refl, (refl, tt)))))))))))

-- "26 record cut off or over 65,536 bytes"
pub broken_records : All (
    -- a byte of a head
    row (little ++ 10 ∷ []) (refused 26 ∷ [])
    -- a head that lacks its last byte
    ∷ row (little ++ 10 ∷ 11 ∷ 12 ∷ 13 ∷ 14 ∷ 15 ∷ 16 ∷ 17 ∷ 0 ∷ 0 ∷ 0 ∷ 0 ∷ 0 ∷ 0 ∷ 0 ∷ []) (refused 26 ∷ [])
    -- a record that lacks its last byte
    ∷ row (little ++ 10 ∷ 11 ∷ 12 ∷ 13 ∷ 14 ∷ 15 ∷ 16 ∷ 17 ∷ 3 ∷ 0 ∷ 0 ∷ 0 ∷ 3 ∷ 0 ∷ 0 ∷ 0 ∷ 7 ∷ 8 ∷ []) (refused 26 ∷ [])
    -- behind a whole record
    ∷ row (little ++ little_record ++ 10 ∷ 11 ∷ []) (kept 258 (7 ∷ 8 ∷ 9 ∷ []) ∷ refused 26 ∷ [])
    -- 65,537 bytes
    ∷ row (little ++ 10 ∷ 11 ∷ 12 ∷ 13 ∷ 14 ∷ 15 ∷ 16 ∷ 17 ∷ 1 ∷ 0 ∷ 1 ∷ 0 ∷ 1 ∷ 0 ∷ 1 ∷ 0 ∷ []) (refused 26 ∷ [])
    -- a big-endian record of 3 bytes, in a little-endian file
    ∷ row (little ++ big_record) (refused 26 ∷ [])
    -- and the other way round
    ∷ row (big ++ little_record) (refused 26 ∷ [])
    ∷ [])
unfolding reports_of records_of records_with first_of order_of is_right number_at pair_at
broken_records = (refl, (refl, (refl, (refl, (refl, (refl, (refl, tt)))))))
