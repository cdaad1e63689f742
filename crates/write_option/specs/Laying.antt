-- "Each option is written into the rest of the output behind the one before": what one part of a message puts there.
use Rattle.quantity.specs.declared.count.LinkInstanceId.{LinkInstanceId}
use Rattle.meaning.specs.declared.message.ContextBytes.{ContextBytes}
use Rattle.std.specs.Prelude.{ℕ, ◌≤◌, List, length, Option, Some, None}
use Rattle.quantity.specs.Limits.{LONGEST-NAME}
use Rattle.wire.specs.Options.{Options, done, bytes}
use Rattle.meaning.specs.declared.message.Control.{Control}

-- the bytes of what `f` puts before the options that follow
abbrev pub alone : (Options → Options) → List ℕ
alone f = bytes (f done)

abbrev pub size_of : (Options → Options) → ℕ
size_of f = length (alone f)

-- the longest Link Instance or Context is not passed
abbrev pub ShortInstance : Option (LinkInstanceId × ℕ) → Type 0
ShortInstance None = Unit {0}
ShortInstance (Some (v, n)) = n ≤ LONGEST-NAME

abbrev pub ShortContext : Option (ContextBytes × ℕ) → Type 0
ShortContext None = Unit {0}
ShortContext (Some (b, n)) = n ≤ LONGEST-NAME

abbrev pub ShortNames : Control → Type 0
ShortNames m = ShortInstance m.instance × ShortContext m.context
