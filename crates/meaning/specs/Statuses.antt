-- Document 01, "Messages": "Status 0: not operational; 1 to 7: operational; 8 to 15: unknown, and not operational for us." Document 02, §6: "Each datalink gets a
-- setting that says, for each of 8 to 15, operational or not; the default is not. Whether a status is operational now depends on that setting".
use Rattle.std.specs.Prelude.{ℕ, ◌-◌, ◌/◌, ◌%◌, ◌^◌, Bool, false, not, ◌&&◌, ◌||◌, eqb, leb, Option, Some, None}
use Rattle.quantity.specs.Limits.{HIGHEST-STATUS}
use Rattle.meaning.specs.declared.status.StatusCodes.{StatusCodes}

abbrev pub FIRST-OPERATIONAL : ℕ
FIRST-OPERATIONAL = 1

abbrev pub LAST-OPERATIONAL : ℕ
LAST-OPERATIONAL = 7

abbrev pub FIRST-CONFIGURED : ℕ
FIRST-CONFIGURED = 8

-- "the default is not"
abbrev pub DEFAULT-CODES : StatusCodes
DEFAULT-CODES = record { 0 = 0 }

-- one bit of the setting, by its place from the lowest
abbrev pub bit_of : StatusCodes → (place : ℕ) → ℕ
bit_of codes place = codes.0 / 2 ^ place % 2

-- 1 to 7; 8 to 15 as bit status - 8 of the setting has it; no other
unfoldable pub code_operational : StatusCodes → (status : ℕ) → Bool
code_operational codes status =
    (leb FIRST-OPERATIONAL status && leb status LAST-OPERATIONAL)
    || (leb FIRST-CONFIGURED status && (leb status HIGHEST-STATUS && eqb (bit_of codes (status - FIRST-CONFIGURED)) 1))

-- a status that is not reported is not operational
abbrev pub operational : StatusCodes → Option ℕ → Bool
operational codes None = false
operational codes (Some status) = code_operational codes status

-- 8 to 15, but for those that the setting makes operational (source document 000, Table 3-7: "unless configured otherwise")
abbrev pub unknown : StatusCodes → Option ℕ → Bool
unknown codes None = false
unknown codes (Some status) = leb FIRST-CONFIGURED status && (leb status HIGHEST-STATUS && not (code_operational codes status))
