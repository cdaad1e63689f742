-- A data message that is written from what was read is no longer than what was read. Assumes nothing.
use Rattle.std.specs.Prelude.{Option, Some, None}
use Prim.Native.Nat.{ℕ, ◌+◌, ◌≤◌, ◌<◌}
use mathlib.Core.Path.{◌≡◌, refl, ap}
use mathlib.Core.List.{List, [], ◌∷◌}
use mathlib.Core.Bool.{Bool, true, false, cond}
use native.Mathlib.Omega.{arith}
use borrow.Author.Tests.{eqb-true}
use lib.Dec.{eqb}
use lib.ListN.{length, length-append}
use Rattle.quantity.specs.declared.count.DatalinkId.{DatalinkId}
use Rattle.wire.specs.Numbers.{Octets}
use Rattle.wire.specs.Options.{Options, done, cut, option, bytes}
use Rattle.wire.proofs.Numbers.{length_bytes}
use Rattle.wire.proofs.Options.{option_length}
use Rattle.meaning.specs.declared.message.End.{End}
use Rattle.meaning.specs.declared.message.Plane.{Plane}
use Rattle.meaning.specs.declared.message.Plane.TheVariants as planes
use Rattle.meaning.specs.Kinds.{length_listed, DATALINK-IDENTIFIER, PACKET-DATA, CHANNEL-IDENTIFIER, EXPIRATION-TIME, FLOW-SEQUENCE}
use Rattle.meaning.proofs.Amongst.{Each}
use Rattle.read_option.specs.Stated.{Table, datalink_from, counted_from, channel_from, expiration_from, data_stated}
use Rattle.reader.specs.Readings.{packet_of}
use Rattle.acceptance.specs.Account.{is_at, speaks_for, the, table_of, Accepts, data_meaning}
use Rattle.acceptance.proofs.Data.{data_packet}
use Rattle.write_option.specs.Parts.{datalink_then, counted_then, channel_then, expiration_then}
use Rattle.writer.specs.Written.{data_options, data_written}
use Rattle.roundtrip.proofs.Held.{Holds, table_holds}

-- ---- the options of different types, together

-- the bytes of an option that may stand
abbrev size_of : Option (List ℕ) → ℕ
size_of None = 0
size_of (Some content) = 3 + length content

abbrev total : List ℕ → (ℕ → Option (List ℕ)) → ℕ
total [] τ = 0
total (kind ∷ kinds) τ = size_of (τ kind) + total kinds τ

abbrev Distinct : List ℕ → Type 0
Distinct [] = Unit {0}
Distinct (kind ∷ kinds) = Each (λ other. eqb other kind ≡ false) kinds × Distinct kinds

total_none : (kinds : List ℕ) → total kinds (λ kind. None) ≡ 0
total_none [] = refl
total_none (kind ∷ kinds) = omega (arith, total_none kinds)

size_set : (b : Bool) (content : List ℕ) (x : Option (List ℕ)) → size_of (cond b (Some content) x) ≤ (3 + length content) + size_of x
size_set true content x = omega arith
size_set false content x = omega arith

module _ (plane : Plane) (end : End) (n : ℕ) where
  abbrev row : Options → ℕ → Option (List ℕ)
  row f = λ kind. the plane end kind n f

  module _ (kind : ℕ) (content : List ℕ) (f : Options) where
    total_others : (kinds : List ℕ) → Each (λ other. eqb other kind ≡ false) kinds → total kinds (row (option kind content f)) ≡ total kinds (row f)
    unfolding the
    total_others [] d = refl
    total_others (other ∷ kinds) d = rw d.0 (ap (λ (size : ℕ). size_of (row f other) + size) (total_others kinds d.1))

    total_option : (kinds : List ℕ) → Distinct kinds → total kinds (row (option kind content f)) ≤ (3 + length content) + total kinds (row f)
    unfolding the
    total_option [] d = omega arith
    total_option (first ∷ kinds) d = go (eqb first kind) refl (total_option kinds d.1)
      where
        go : (b : Bool) → eqb first kind ≡ b → total kinds (row (option kind content f)) ≤ (3 + length content) + total kinds (row f)
            → size_of (cond (cond b (is_at n (speaks_for plane end kind content)) false) (Some content) (row f first)) + total kinds (row (option kind content f))
            ≤ (3 + length content) + (size_of (row f first) + total kinds (row f))
        go false e later = omega arith
        go true e later =
            let same : first ≡ kind = eqb-true first kind e in
            let others : total kinds (row (option kind content f)) ≡ total kinds (row f) = total_others kinds (rw same at d.0) in
            omega (arith, size_set (is_at n (speaks_for plane end kind content)) content (row f first), others)

  total_short : (kinds : List ℕ) → Distinct kinds → (f : Options) → total kinds (row f) ≤ length (bytes f)
  unfolding the bytes
  total_short kinds d done = omega (arith, total_none kinds)
  total_short kinds d (cut rest) = omega (arith, total_none kinds)
  total_short kinds d (option kind content f) = rw (length-append, option_length) (omega (arith, total_option kind content f kinds d, total_short kinds d f))

-- a packet is shorter than the message that carries it
pub packet_short : (end : End) (id : DatalinkId) (s : List ℕ) (f : Options) → Accepts planes.Data end id s f → length (packet_of s) < length s
packet_short end id s f a =
    omega (arith, ap size_of (data_packet end id s f a), total_short planes.Data end 0 (PACKET-DATA ∷ []) (tt, tt) f, ap length a.whole)

-- ---- a data message, option by option

-- an option before others
before : (kind size : ℕ) (content : List ℕ) (more : Options) → length content ≡ size → length (bytes (option kind content more)) ≡ (3 + size) + length (bytes more)
unfolding bytes
before kind size content more e = rw (length-append, option_length, e)

module _ (end : End) (more : Options) where
  -- where the content that is written has the length of the one that was read
  as_long : (kind : ℕ) (content read : List ℕ) → length content ≡ length read → length (bytes (option kind content more)) ≤ size_of (Some read) + length (bytes more)
  as_long kind content read e = omega (arith, before kind (length read) content more e)

  datalink_short : (x : Option (List ℕ)) → Holds planes.Data end DATALINK-IDENTIFIER x → length (bytes (datalink_then (datalink_from x) more)) ≤ size_of x + length (bytes more)
  unfolding length_listed
  datalink_short None h = omega arith
  datalink_short (Some read) h = as_long DATALINK-IDENTIFIER _ read (rw (eqb-true (length read) 1 h.length_listed_lem))

  counted_short : (x : Option (List ℕ)) → Holds planes.Data end FLOW-SEQUENCE x → length (bytes (counted_then (counted_from x) more)) ≤ size_of x + length (bytes more)
  unfolding length_listed
  counted_short None h = omega arith
  counted_short (Some read) h = as_long FLOW-SEQUENCE _ read (rw (length_bytes, eqb-true (length read) 5 h.length_listed_lem))

  channel_short : (x : Option (List ℕ)) → Holds planes.Data end CHANNEL-IDENTIFIER x → length (bytes (channel_then (channel_from x) more)) ≤ size_of x + length (bytes more)
  unfolding length_listed
  channel_short None h = omega arith
  channel_short (Some read) h = as_long CHANNEL-IDENTIFIER _ read (rw (eqb-true (length read) 1 h.length_listed_lem))

  expiration_short : (x : Option (List ℕ)) → Holds planes.Data end EXPIRATION-TIME x → length (bytes (expiration_then (expiration_from x) more)) ≤ size_of x + length (bytes more)
  unfolding length_listed
  expiration_short None h = omega arith
  expiration_short (Some read) h = as_long EXPIRATION-TIME _ read (rw (length_bytes, eqb-true (length read) 4 h.length_listed_lem))

abbrev kinds : List ℕ
kinds = DATALINK-IDENTIFIER ∷ FLOW-SEQUENCE ∷ CHANNEL-IDENTIFIER ∷ EXPIRATION-TIME ∷ PACKET-DATA ∷ []

pub no_longer : (end : End) (id : DatalinkId) (s : List ℕ) → Octets s → (f : Options) → Accepts planes.Data end id s f
    → length (data_written (data_meaning end f) (packet_of s)) ≤ length s
unfolding data_written data_options data_stated bytes
no_longer end id s o f a =
    let τ : Table = table_of planes.Data end f in
    let packet : Options = option PACKET-DATA (packet_of s) done in
    let timed : Options = expiration_then (expiration_from (table_of planes.Data end f EXPIRATION-TIME 0)) packet in
    let channeled : Options = channel_then (channel_from (table_of planes.Data end f CHANNEL-IDENTIFIER 0)) timed in
    let counted : Options = counted_then (counted_from (table_of planes.Data end f FLOW-SEQUENCE 0)) channeled in
    omega (
      arith,
      datalink_short end counted (τ DATALINK-IDENTIFIER 0) (table_holds planes.Data end DATALINK-IDENTIFIER 0 refl id s f o a),
      counted_short end channeled (τ FLOW-SEQUENCE 0) (table_holds planes.Data end FLOW-SEQUENCE 0 refl id s f o a),
      channel_short end timed (τ CHANNEL-IDENTIFIER 0) (table_holds planes.Data end CHANNEL-IDENTIFIER 0 refl id s f o a),
      expiration_short end packet (τ EXPIRATION-TIME 0) (table_holds planes.Data end EXPIRATION-TIME 0 refl id s f o a),
      before PACKET-DATA (length (packet_of s)) (packet_of s) done refl,
      ap size_of (data_packet end id s f a),
      total_short planes.Data end 0 kinds ((refl, (refl, (refl, (refl, tt)))), ((refl, (refl, (refl, tt))), ((refl, (refl, tt)), ((refl, tt), (tt, tt))))) f,
      ap length a.whole,
    )
