-- Document 01, "Messages": "Status 0: not operational; 1 to 7: operational; 8 to 15: unknown, and not operational for us.", and document 02, §6, in plain numbers.
use Rattle.std.specs.Prelude.{ℕ, ◌+◌, ◌/◌, ◌%◌, ◌^◌, ◌≤◌, Bool, true, false, ◌&&◌, List, [], ◌∷◌, ◌≡◌, leb, Option, Some, None}
use Rattle.facts.specs.Tables.{tabulate}
use Rattle.meaning.specs.Statuses.{operational, unknown}

-- a status that is reported, and lies between two numbers
pub data Reported (least most : ℕ) : Option ℕ → Type 0 where
  reported : {status : ℕ} → least ≤ status → status ≤ most → Reported least most (Some status)

-- "Whether a status is operational": 1 to 7, or one of 8 to 15 that the setting's bit makes so
pub data MaySend (codes : ℕ) : Option ℕ → Type 0 where
  always : {status : ℕ} → 1 ≤ status → status ≤ 7 → MaySend codes (Some status)
  configured : {place : ℕ} → place ≤ 7 → codes / 2 ^ place % 2 ≡ 1 → MaySend codes (Some (8 + place))

-- "8 to 15: unknown", "unless configured otherwise": one of 8 to 15 whose bit the setting leaves at 0
pub data NotKnown (codes : ℕ) : Option ℕ → Type 0 where
  unconfigured : {place : ℕ} → place ≤ 7 → codes / 2 ^ place % 2 ≡ 0 → NotKnown codes (Some (8 + place))

-- document 01's sentence, which "the default" leaves as it was
abbrev pub operational_by_default : Option ℕ → Bool
operational_by_default None = false
operational_by_default (Some status) = leb 1 status && leb status 7

-- each of the sixteen under a setting, with whether it is operational, and whether it is unknown
pub data OneOfThree (codes : ℕ) : (status : ℕ) (is_operational is_unknown : Bool) → Type 0 where
  zero_status : OneOfThree codes 0 false false
  one_to_seven : {status : ℕ} → 1 ≤ status → status ≤ 7 → OneOfThree codes status true false
  made_operational : {place : ℕ} → place ≤ 7 → codes / 2 ^ place % 2 ≡ 1 → OneOfThree codes (8 + place) true false
  left_unknown : {place : ℕ} → place ≤ 7 → codes / 2 ^ place % 2 ≡ 0 → OneOfThree codes (8 + place) false true

-- a setting with the statuses 7 to 16 under it: whether each is operational, and whether each is unknown
pub record Row : Type 0 where
  pub codes : ℕ
  pub from_seven : List Bool
  pub unknown_from_seven : List Bool

abbrev pub Right : Row → Type 0
Right row =
    (tabulate 10 (λ place. operational (record { 0 = row.codes }) (Some (7 + place))) ≡ row.from_seven)
    × (tabulate 10 (λ place. unknown (record { 0 = row.codes }) (Some (7 + place))) ≡ row.unknown_from_seven)

abbrev pub AllRight : List Row → Type 0
AllRight [] = Unit {0}
AllRight (row ∷ rows) = Right row × AllRight rows

-- 2 is "status 9", 128 is 15, 5 is 8 and 10; 7 always is, and 16 never; the unknown ones are the others of 8 to 15
abbrev pub settings : List Row
settings =
    record {
      codes = 0;
      from_seven = true ∷ false ∷ false ∷ false ∷ false ∷ false ∷ false ∷ false ∷ false ∷ false ∷ [];
      unknown_from_seven = false ∷ true ∷ true ∷ true ∷ true ∷ true ∷ true ∷ true ∷ true ∷ false ∷ [];
    }
    ∷ record {
      codes = 1;
      from_seven = true ∷ true ∷ false ∷ false ∷ false ∷ false ∷ false ∷ false ∷ false ∷ false ∷ [];
      unknown_from_seven = false ∷ false ∷ true ∷ true ∷ true ∷ true ∷ true ∷ true ∷ true ∷ false ∷ [];
    }
    ∷ record {
      codes = 2;
      from_seven = true ∷ false ∷ true ∷ false ∷ false ∷ false ∷ false ∷ false ∷ false ∷ false ∷ [];
      unknown_from_seven = false ∷ true ∷ false ∷ true ∷ true ∷ true ∷ true ∷ true ∷ true ∷ false ∷ [];
    }
    ∷ record {
      codes = 5;
      from_seven = true ∷ true ∷ false ∷ true ∷ false ∷ false ∷ false ∷ false ∷ false ∷ false ∷ [];
      unknown_from_seven = false ∷ false ∷ true ∷ false ∷ true ∷ true ∷ true ∷ true ∷ true ∷ false ∷ [];
    }
    ∷ record {
      codes = 128;
      from_seven = true ∷ false ∷ false ∷ false ∷ false ∷ false ∷ false ∷ false ∷ true ∷ false ∷ [];
      unknown_from_seven = false ∷ true ∷ true ∷ true ∷ true ∷ true ∷ true ∷ true ∷ false ∷ false ∷ [];
    }
    ∷ record {
      codes = 255;
      from_seven = true ∷ true ∷ true ∷ true ∷ true ∷ true ∷ true ∷ true ∷ true ∷ false ∷ [];
      unknown_from_seven = false ∷ false ∷ false ∷ false ∷ false ∷ false ∷ false ∷ false ∷ false ∷ false ∷ [];
    }
    ∷ []
