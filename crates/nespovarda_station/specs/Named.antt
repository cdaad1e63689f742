-- A Link Instance and a Context as two numbers, a value and the length that it is written at; 0 and 0 say that there is none. Other lengths, and values too big for
-- theirs, are for the call to refuse by 20.
use Rattle.quantity.specs.declared.count.LinkInstanceId.{LinkInstanceId}
use Rattle.meaning.specs.declared.message.ContextBytes.{ContextBytes}
use Rattle.std.specs.Prelude.{ℕ, Bool, cond, ◌&&◌, eqb, Option, Some, None}

abbrev pub says_none_of : (value length : ℕ) → Bool
says_none_of value length = eqb value 0 && eqb length 0

unfoldable pub instance_said : (value length : ℕ) → Option (LinkInstanceId × ℕ)
instance_said value length = cond (says_none_of value length) None (Some (record { 0 = value }, length))

unfoldable pub context_said : (value length : ℕ) → Option (ContextBytes × ℕ)
context_said value length = cond (says_none_of value length) None (Some (record { 0 = value }, length))
