-- What the radio's messages leave in the state over a whole run, and when a mobility message is due.
use Rattle.quantity.specs.declared.count.LinkInstanceId.{LinkInstanceId}
use Rattle.std.specs.Prelude.{ℕ, List, [], ◌∷◌, ◌++◌, ◌≡◌, Option, Some, None}
use Rattle.meaning.specs.declared.message.ContextBytes.{ContextBytes}
use Rattle.meaning.specs.declared.message.Control.{Control}

-- ---- what accepted messages give, in order, and the last of it
abbrev pub given_in : {A : Type 0} → (Control → List A) → List Control → List A
given_in gives [] = []
given_in gives (m ∷ ms) = gives m ++ given_in gives ms

abbrev pub last_or : {A : Type 0} → A → List A → A
last_or none [] = none
last_or none (x ∷ xs) = last_or x xs

-- "Link Instance is kept when given."
abbrev pub if_instance : Option (LinkInstanceId × ℕ) → List (Option (LinkInstanceId × ℕ))
if_instance None = []
if_instance (Some (id, length)) = Some (id, length) ∷ []

abbrev pub last_instance : List Control → Option (LinkInstanceId × ℕ)
last_instance ms = last_or None (given_in (λ m. if_instance m.instance) ms)

-- "the last Context received": messages without one are passed over
abbrev pub if_context : Option (ContextBytes × ℕ) → List (Option (ContextBytes × ℕ))
if_context None = []
if_context (Some (bytes, length)) = Some (bytes, length) ∷ []

abbrev pub last_context : List Control → Option (ContextBytes × ℕ)
last_context ms = last_or None (given_in (λ m. if_context m.context) ms)

-- what is kept: the Context of the accepted control message just before, absent where it had none, or where there was no message
abbrev pub context_before : List Control → Option (ContextBytes × ℕ)
context_before ms = last_or None (given_in (λ m. m.context ∷ []) ms)

-- Document 01: "a Context comes that differs from the last Context received (in length or bytes), or is the first"; said of `last_context` in `MobilityDue`, and of what is
-- kept in `due_when` and `due_mended`
pub data Comes : (before given : Option (ContextBytes × ℕ)) → Type 0 where
  is_first : {bytes : ContextBytes} {length : ℕ} → Comes None (Some (bytes, length))
  in_length : {before bytes : ContextBytes} {long length : ℕ} → (length ≡ long → ⊥) → Comes (Some (before, long)) (Some (bytes, length))
  in_bytes : {before bytes : ContextBytes} {long length : ℕ} → (bytes.0 ≡ before.0 → ⊥) → Comes (Some (before, long)) (Some (bytes, length))

-- Document 01's condition, or document 02 §2's: "a Context that follows an accepted control message without one is due even if equal to the older"
pub data MobilityDue (accepted : List Control) : (given : Option (ContextBytes × ℕ)) → Type 0 where
  first_or_differs : {given : Option (ContextBytes × ℕ)} → Comes (last_context accepted) given → MobilityDue accepted given
  after_gap : {bytes : ContextBytes} {length : ℕ} (earlier : List Control) (before : Control) → accepted ≡ earlier ++ (before ∷ []) → before.context ≡ None
      → MobilityDue accepted (Some (bytes, length))
