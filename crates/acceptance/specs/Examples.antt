-- Document 01, "Examples": the starred ones, as rows of a single table. Those on messages are options of a radio's control message. Document 02, §6: "The example
-- 03 08 then reads "under the default".", which is 0.
use Rattle.std.specs.Prelude.{ℕ, ◌≡◌, List, [], ◌∷◌, Bool, true, false, ℤ, pos, negsuc, Some, Result, Ok, Err}
use Rattle.quantity.specs.Distance.{distance_of, fits_of, advance_of}
use Rattle.meaning.specs.declared.message.End.TheVariants.{Radio}
use Rattle.meaning.specs.declared.message.Plane.TheVariants as planes
use Rattle.meaning.specs.declared.message.Window.{Window}
use Rattle.meaning.specs.Kinds.{CHANNEL-STATUS, FLOW-WINDOW}
use Rattle.meaning.specs.Statuses.{DEFAULT-CODES, operational, unknown}
use Rattle.read_option.specs.declared.answer.Item.{Item}
use Rattle.read_option.specs.Items.{answer_of}

-- negsuc n is -(n + 1)
pub data Row : Type 0 where
  distance : (sequence window : ℕ) → ℤ → Row
  fits : (sequence window bytes : ℕ) → Bool → Row
  becomes : (sequence bytes after : ℕ) → Row
  status : (content : List ℕ) (channel number : ℕ) (is_unknown is_operational : Bool) → Row
  window : (content : List ℕ) → Result Item ℕ → Row

abbrev pub Right : Row → Type 0
Right (distance s w d) = distance_of (record { 0 = s }) (record { 0 = w }) ≡ d
Right (fits s w n answer) = fits_of (record { 0 = s }) (record { 0 = w }) (record { 0 = n }) ≡ answer
Right (becomes s n after) = advance_of (record { 0 = s }) (record { 0 = n }) ≡ record { 0 = after }
Right (status content channel number is_unknown is_operational) =
    (answer_of planes.Control Radio CHANNEL-STATUS content ≡ Ok (Item.Status channel number))
    × (unknown DEFAULT-CODES (Some number) ≡ is_unknown)
    × (operational DEFAULT-CODES (Some number) ≡ is_operational)
Right (window content answer) = answer_of planes.Control Radio FLOW-WINDOW content ≡ answer

abbrev pub AllRight : List Row → Type 0
AllRight [] = Unit {0}
AllRight (row ∷ rows) = Right row × AllRight rows

abbrev pub table : List Row
table =
    distance 4294967000 500 (pos 796)
    ∷ fits 4294967000 500 796 true
    ∷ becomes 4294967000 796 500
    ∷ fits 4294967000 500 797 false
    ∷ distance 100 100 (pos 0)
    ∷ fits 100 100 40 false
    ∷ distance 100 99 (negsuc 0)
    ∷ distance 100 2147483748 (negsuc 2147483647)
    ∷ distance 100 2147483747 (pos 2147483647)
    ∷ status (0x00 ∷ (0xF7 ∷ [])) 0 7 false true
    ∷ status (0x03 ∷ (0x08 ∷ [])) 3 8 true false
    ∷ window (0x02 ∷ []) (Ok (Item.Window 2 (Some Window.Empty)))
    ∷ window (0x02 ∷ (0x00 ∷ (0x00 ∷ (0x00 ∷ (0x00 ∷ []))))) (Ok (Item.Window 2 (Some (Window.Given (record { 0 = 0 })))))
    ∷ window (0xFF ∷ []) (Err 5)
    ∷ []
