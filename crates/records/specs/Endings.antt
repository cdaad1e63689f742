-- How a file ends, said of its bytes alone: "25 bad file header or another link type, 26 record cut off or over 65,536 bytes", or an end between records.
use Rattle.std.specs.Prelude.{◌≡◌, Bool, true, false, List, [], ◌∷◌, ◌++◌, ℕ, ◌+◌, ◌≤◌, ◌<◌, length, get_or, take, drop}
use Rattle.records.specs.Heads.{captured_in}
use Rattle.records.specs.Files.{Report, kept, refused, reports_of, closed}

-- the number by which a file is refused, or 0
abbrev pub refusal_in : List Report → ℕ
refusal_in [] = 0
refusal_in (kept original bytes ∷ reports) = refusal_in reports
refusal_in (refused number ∷ reports) = number

abbrev pub refusal_of : List ℕ → ℕ
refusal_of file = refusal_in (reports_of file)

-- the number that is reported where a read fails behind some bytes of a file
abbrev pub failed_after : List ℕ → ℕ
failed_after bytes = refusal_in (closed true (reports_of bytes))

-- the records that are reported
abbrev pub records_in : List Report → List Report
records_in [] = []
records_in (kept original bytes ∷ reports) = kept original bytes ∷ records_in reports
records_in (refused number ∷ reports) = records_in reports

-- what a file is made of
abbrev pub Bytes : List ℕ → Type 0
Bytes file = (n : ℕ) → get_or file n 0 < 256

-- ---- the file's head, by its byte order

-- "d4 c3 b2 a1" and "a1 b2 c3 d4"
abbrev pub magic : Bool → List ℕ
magic false = 212 ∷ 195 ∷ 178 ∷ 161 ∷ []
magic true = 161 ∷ 178 ∷ 195 ∷ 212 ∷ []

-- version 2.4, two numbers of two bytes
abbrev pub version : Bool → List ℕ
version false = 2 ∷ 0 ∷ 4 ∷ 0 ∷ []
version true = 0 ∷ 2 ∷ 0 ∷ 4 ∷ []

-- link type 1, all 32 bits
abbrev pub link_type : Bool → List ℕ
link_type false = 1 ∷ 0 ∷ 0 ∷ 0 ∷ []
link_type true = 0 ∷ 0 ∷ 0 ∷ 1 ∷ []

pub record RightHead (big : Bool) (file : List ℕ) : Type 0 where
  pub long : 24 ≤ length file
  pub first : take 4 file ≡ magic big
  pub versioned : take 4 (drop 4 file) ≡ version big
  pub linked : take 4 (drop 20 file) ≡ link_type big

-- 25: too short; neither order; another version or link type in the order that it states
pub data BadHead (file : List ℕ) : Type 0 where
  short_file : length file < 24 → BadHead file
  other_magic : (take 4 file ≡ magic false → ⊥) → (take 4 file ≡ magic true → ⊥) → BadHead file
  other_version : (big : Bool) → take 4 file ≡ magic big → (take 4 (drop 4 file) ≡ version big → ⊥) → BadHead file
  other_link : (big : Bool) → take 4 file ≡ magic big → (take 4 (drop 20 file) ≡ link_type big → ⊥) → BadHead file

-- ---- the records behind it

-- a head of 16 bytes, and as many bytes as it states, at most 65,536
pub record WholeRecord (big : Bool) (bytes : List ℕ) : Type 0 where
  pub size : length bytes ≡ 16 + captured_in big bytes
  pub short : captured_in big bytes ≤ 65536

abbrev pub AllWhole : Bool → List (List ℕ) → Type 0
AllWhole big [] = Unit {0}
AllWhole big (bytes ∷ records) = WholeRecord big bytes × AllWhole big records

abbrev pub in_row : List (List ℕ) → List ℕ
in_row [] = []
in_row (bytes ∷ records) = bytes ++ in_row records

-- the bytes are some whole records and what is left
pub record WholeThen (big : Bool) (left bytes : List ℕ) : Type 0 where
  pub records : List (List ℕ)
  pub each : AllWhole big records
  pub parts : bytes ≡ in_row records ++ left

-- no record can be taken of what is left: less than a head; a length over 65,536; fewer bytes than it states
pub data Broken (big : Bool) (left : List ℕ) : Type 0 where
  in_head : 0 < length left → length left < 16 → Broken big left
  too_long : 16 ≤ length left → 65536 < captured_in big left → Broken big left
  in_bytes : 16 ≤ length left → length left < 16 + captured_in big left → Broken big left

-- 26
pub record BrokenOff (file : List ℕ) : Type 0 where
  pub big : Bool
  pub left : List ℕ
  pub head : RightHead big file
  pub before : WholeThen big left (drop 24 file)
  pub broken : Broken big left

-- an end between two records, or behind the head
pub record EndsWhole (file : List ℕ) : Type 0 where
  pub big : Bool
  pub head : RightHead big file
  pub whole : WholeThen big [] (drop 24 file)

-- a file's head that is right, whatever stands behind it
pub record Headed (file : List ℕ) : Type 0 where
  pub big : Bool
  pub head : RightHead big file

-- one of three, and neither of the others
pub data OneOf (A B C : Type 0) : Type 0 where
  the_first : A → (B → ⊥) → (C → ⊥) → OneOf A B C
  the_second : B → (A → ⊥) → (C → ⊥) → OneOf A B C
  the_third : C → (A → ⊥) → (B → ⊥) → OneOf A B C
