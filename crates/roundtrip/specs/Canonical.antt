-- How a written message lies, in plain numbers: its header, and its options in order, by rising Channel ID, with unused bits 0. What else their contents
-- are is left open here; that they hold the meaning is the round trip's to say. "The writer's order: Datalink Identifier, Link Instance, Context, Channel Status,
-- Flow Sequence or Flow Window, each by rising Channel ID, then Channel Identifier, Expiration Time, Packet Data." "Unused bits are written as 0".
use Rattle.std.specs.Prelude.{ℕ, suc, ◌≤◌, ◌<◌, ◌≡◌, List, [], ◌∷◌, false}
use Rattle.wire.specs.Options.{Options, done, option, bytes, WholeOptions}
use Rattle.meaning.specs.Kinds.{among}

-- those of which there may be one for each channel, with the content behind the Channel ID: a Channel Status (5), its 4 unused bits 0;
-- a Flow Sequence (134); a Flow Window (6)
pub data ForChannel : (kind : ℕ) (content : List ℕ) → Type 0 where
  status : {n : ℕ} → n < 16 → ForChannel 5 (n ∷ [])
  sequence : {content : List ℕ} → ForChannel 134 content
  window : {content : List ℕ} → ForChannel 6 content

-- options whose types come in the order of a list: one of a type, or some for rising channels, the first of them not below `least`
pub data InOrder : (order : List ℕ) (least : ℕ) → Options → Type 0 where
  ended : {order : List ℕ} {least : ℕ} → InOrder order least done
  no_more : {kind : ℕ} {order : List ℕ} {least : ℕ} {options : Options} → InOrder order 0 options → InOrder (kind ∷ order) least options
  alone : {kind : ℕ} {order content : List ℕ} {least : ℕ} {more : Options} → among kind (5 ∷ 134 ∷ 6 ∷ []) ≡ false → InOrder order 0 more
      → InOrder (kind ∷ order) least (option kind content more)
  for_channel : {kind : ℕ} {order content : List ℕ} {least channel : ℕ} {more : Options} → ForChannel kind content → least ≤ channel
      → InOrder (kind ∷ order) (suc channel) more → InOrder (kind ∷ order) least (option kind (channel ∷ content) more)

-- Datalink Identifier, Link Instance, Context, Channel Status, Flow Sequence, Flow Window, Channel Identifier, Expiration Time, Packet Data
abbrev pub writers_order : List ℕ
writers_order = 1 ∷ 3 ∷ 4 ∷ 5 ∷ 134 ∷ 6 ∷ 129 ∷ 130 ∷ 128 ∷ []

-- section 3.1: a version of 4 bits, the Data Plane flag, 3 unused bits: 16 is version 1 with nothing else set, 24 is version 1 with the flag
pub record Canonical (header : ℕ) (message : List ℕ) : Type 0 where
  pub options : Options
  pub parts : message ≡ header ∷ bytes options
  pub whole : WholeOptions options
  pub in_order : InOrder writers_order 0 options
