-- A data message that is accepted: what its options state may be written, and is a value. Assumes nothing.
use Rattle.std.specs.Prelude.{Option, Some, None}
use Prim.Native.Nat.{ℕ, ◌^◌}
use mathlib.Core.Path.{◌≡◌, refl}
use mathlib.Core.List.{List}
use mathlib.Core.Bool.{true}
use native.Mathlib.Omega.{arith}
use borrow.Author.Tests.{eq-eqb, eqb-true, lt-ltb}
use lib.ListN.{length, get_or}
use Rattle.quantity.specs.declared.count.DatalinkId.{DatalinkId}
use Rattle.wire.specs.Numbers.{Octets}
use Rattle.wire.specs.Options.{Options}
use Rattle.wire.proofs.Numbers.{big_endian_below}
use Rattle.meaning.specs.declared.message.End.{End}
use Rattle.meaning.specs.declared.message.Plane.TheVariants as planes
use Rattle.meaning.specs.Kinds.{among, known, length_listed, value_listed, CHANNEL-IDENTIFIER, EXPIRATION-TIME, FLOW-SEQUENCE}
use Rattle.read_option.specs.Stated.{Table, channel_from, expiration_from, counted_from, data_stated}
use Rattle.reader.specs.Readings.{packet_of}
use Rattle.acceptance.specs.Account.{table_of, SameChannel, Accepts, data_meaning}
use Rattle.writable.specs.Allowed.{counted_allowed, channel_allowed, expiration_allowed, data_allowed}
use Rattle.roundtrip.specs.Values.{CountedWord, ExpirationWord, DataValue}
use Rattle.roundtrip.proofs.Shorter.{packet_short}
use Rattle.roundtrip.proofs.Held.{Holds, word_behind, table_holds}

-- ---- the parts of a data message

module _ (end : End) where
  counted_allowed_lem : (x y : Option (List ℕ)) → Holds planes.Data end FLOW-SEQUENCE x → SameChannel x y → counted_allowed end (counted_from x) (channel_from y) ≡ true
  counted_allowed_lem None y h p = refl
  counted_allowed_lem (Some sequence) None h p = absurd p
  counted_allowed_lem (Some sequence) (Some identifier) h p = rw h.may_stand (eq-eqb (get_or sequence 0 0) (get_or identifier 0 0) p)

  counted_word : (x : Option (List ℕ)) → Holds planes.Data end FLOW-SEQUENCE x → CountedWord (counted_from x)
  unfolding length_listed
  counted_word None h = tt
  counted_word (Some content) h = word_behind content (eqb-true (length content) 5 h.length_listed_lem) h.octets

  channel_allowed_lem : (x : Option (List ℕ)) → Holds planes.Data end CHANNEL-IDENTIFIER x → channel_allowed end (channel_from x) ≡ true
  unfolding value_listed
  channel_allowed_lem None h = refl
  channel_allowed_lem (Some content) h = rw h.may_stand h.value_listed_lem

  expiration_allowed_lem : (x : Option (List ℕ)) → Holds planes.Data end EXPIRATION-TIME x → expiration_allowed end (expiration_from x) ≡ true
  unfolding value_listed
  expiration_allowed_lem None h = refl
  expiration_allowed_lem (Some content) h = rw h.may_stand h.value_listed_lem

  expiration_word : (x : Option (List ℕ)) → Holds planes.Data end EXPIRATION-TIME x → ExpirationWord (expiration_from x)
  unfolding length_listed
  expiration_word None h = tt
  expiration_word (Some content) h = rw (eqb-true (length content) 4 h.length_listed_lem) at (big_endian_below content h.octets)

-- ---- a data message

module _ (end : End) (id : DatalinkId) (s : List ℕ) (o : Octets s) (f : Options) (a : Accepts planes.Data end id s f) where
  abbrev stated : Table
  stated = table_of planes.Data end f

  holds : (kind : ℕ) → among kind known ≡ true → Holds planes.Data end kind (stated kind 0)
  holds kind k = table_holds planes.Data end kind 0 k id s f o a

  pub data_allowed_lem : data_allowed end (data_meaning end f) (length (packet_of s)) ≡ true
  unfolding data_allowed data_stated
  data_allowed_lem =
      rw (
        a.ours,
        counted_allowed_lem end (stated FLOW-SEQUENCE 0) (stated CHANNEL-IDENTIFIER 0) (holds FLOW-SEQUENCE refl) a.paired,
        channel_allowed_lem end (stated CHANNEL-IDENTIFIER 0) (holds CHANNEL-IDENTIFIER refl),
        expiration_allowed_lem end (stated EXPIRATION-TIME 0) (holds EXPIRATION-TIME refl),
      )
      (lt-ltb (length (packet_of s)) (2 ^ 16) (omega (arith, packet_short end id s f a, a.short)))

  pub data_value : DataValue (data_meaning end f)
  unfolding data_stated
  data_value = record {
    sequence_word = counted_word end (stated FLOW-SEQUENCE 0) (holds FLOW-SEQUENCE refl);
    expiration_word = expiration_word end (stated EXPIRATION-TIME 0) (holds EXPIRATION-TIME refl);
  }
