-- One thing that a message may state, as numbers and back.
use Rattle.quantity.specs.declared.count.DatalinkId.{DatalinkId}
use Rattle.quantity.specs.declared.count.LinkInstanceId.{LinkInstanceId}
use Rattle.quantity.specs.declared.count.FlowSequence.{FlowSequence}
use Rattle.meaning.specs.declared.message.ContextBytes.{ContextBytes}
use Rattle.std.specs.Prelude.{ℕ, Bool, cond, ◌&&◌, ◌||◌, eqb, ltb, Option, Some, None}
use Rattle.meaning.specs.declared.message.Window.{Window}
use Rattle.lent_messages.specs.declared.stated.Stated.{Stated}
use Rattle.lent_messages.specs.Layout.{ABSENT, GIVEN, FIELD-EMPTY, FIELD-GIVEN}

-- the numbers where nothing is stated, and where something is
abbrev pub unstated : Stated
unstated = record { tag = ABSENT; first = 0; second = 0 }

abbrev pub stated_as : (first second : ℕ) → Stated
stated_as first second = record { tag = GIVEN; first = first; second = second }

-- what is stated as one number, by the number of a value
abbrev pub one_stated : {A : Type 0} → (A → ℕ) → Option A → Stated
one_stated value None = unstated
one_stated value (Some stated) = stated_as (value stated) 0

abbrev pub datalink_stated : Option DatalinkId → Stated
datalink_stated = one_stated (λ (id : DatalinkId). id.0)

abbrev pub instance_stated : Option (LinkInstanceId × ℕ) → Stated
instance_stated None = unstated
instance_stated (Some (id, length)) = stated_as id.0 length

abbrev pub context_stated : Option (ContextBytes × ℕ) → Stated
context_stated None = unstated
context_stated (Some (bytes, length)) = stated_as bytes.0 length

abbrev pub status_stated : Option ℕ → Stated
status_stated = one_stated (λ (value : ℕ). value)

abbrev pub sequence_stated : Option FlowSequence → Stated
sequence_stated = one_stated (λ (sequence : FlowSequence). sequence.0)

abbrev pub counted_stated : Option (ℕ × FlowSequence) → Stated
counted_stated None = unstated
counted_stated (Some (channel, sequence)) = stated_as channel sequence.0

abbrev pub channel_stated : Option ℕ → Stated
channel_stated = one_stated (λ (id : ℕ). id)

abbrev pub expiration_stated : Option ℕ → Stated
expiration_stated = one_stated (λ (time : ℕ). time)

-- a Flow Window: nothing, without the field, or with it
abbrev pub window_stated : Option Window → Stated
window_stated None = unstated
window_stated (Some Window.Empty) = record { tag = FIELD-EMPTY; first = 0; second = 0 }
window_stated (Some (Window.Given window)) = record { tag = FIELD-GIVEN; first = window.0; second = 0 }

-- a tag that there is: one below the tag that gives a value, or that one, with a value no wider than what it is the value of
unfoldable pub fits : (tag given value limit : ℕ) → Bool
fits tag given value limit = ltb tag given || (eqb tag given && ltb value limit)

-- what numbers state: the words behind a tag that states nothing may hold anything
abbrev pub one_of : {A : Type 0} → (ℕ → A) → (tag value : ℕ) → Option A
one_of valued tag value = cond (eqb tag ABSENT) None (Some (valued value))

unfoldable pub datalink_of : (tag value : ℕ) → Option DatalinkId
datalink_of = one_of (λ number. record { 0 = number })

unfoldable pub instance_of : (tag value length : ℕ) → Option (LinkInstanceId × ℕ)
instance_of tag value length = cond (eqb tag ABSENT) None (Some (record { 0 = value }, length))

unfoldable pub context_of : (tag value length : ℕ) → Option (ContextBytes × ℕ)
context_of tag value length = cond (eqb tag ABSENT) None (Some (record { 0 = value }, length))

unfoldable pub status_of : (tag value : ℕ) → Option ℕ
status_of = one_of (λ number. number)

unfoldable pub sequence_of : (tag value : ℕ) → Option FlowSequence
sequence_of = one_of (λ number. record { 0 = number })

unfoldable pub counted_of : (tag channel sequence : ℕ) → Option (ℕ × FlowSequence)
counted_of tag channel sequence = cond (eqb tag ABSENT) None (Some (channel, record { 0 = sequence }))

unfoldable pub channel_of : (tag value : ℕ) → Option ℕ
channel_of = one_of (λ number. number)

unfoldable pub expiration_of : (tag value : ℕ) → Option ℕ
expiration_of = one_of (λ number. number)

unfoldable pub window_of : (tag value : ℕ) → Option Window
window_of tag value = cond (eqb tag ABSENT) None (cond (eqb tag FIELD-EMPTY) (Some Window.Empty) (Some (Window.Given (record { 0 = value }))))
