-- The query's bytes, Flow Sequence behind Flow Sequence. Assumes nothing.
use Prim.Native.Nat.{ℕ, zero, suc, ◌+◌, ◌-◌, ◌*◌, ◌/◌, ◌%◌, ◌≤◌, ◌<◌}
use mathlib.Core.Path.{◌≡◌, refl, sym, ap, ◌∙◌}
use mathlib.Core.List.{List, [], ◌∷◌, ◌++◌}
use native.Mathlib.Omega.{arith}
use native.Mathlib.Numerals.{add-one}
use lib.ListN.{length, get_or, take, drop, set, drop_of_length-le}
use lib.Seq.{length-take-le, drop-cons}
use Rattle.quantity.specs.Limits.{CHANNEL-IDS}
use Rattle.wire.specs.Numbers.{bytes_of}
use Rattle.wire.specs.Options.{Options, done, option, option_bytes, Laid}
use Rattle.wire.proofs.Numbers.{length_bytes}
use Rattle.meaning.specs.Kinds.{DATALINK-IDENTIFIER, FLOW-SEQUENCE}
use Rattle.write_option.specs.Laying.{alone, size_of}
use Rattle.write_option.proofs.Laying.{laid_option, room_for, Part, part_nothing, part_option, part_both, part_length, Standing, standing_start, standing_header, standing_end, Lending, lending}
use Rattle.writer.specs.Written.{CONTROL-HEADER}
use Rattle.ips_words_query.specs.Rising.{CONTENT-SIZE, CONTENT-VALUES, SEQUENCE-SIZE, query_size, id_in, RisingFrom, contents_then, query_written}

-- type and length, above the content's bytes
abbrev pub FRAME : ℕ
FRAME = (FLOW-SEQUENCE * 65536 + CONTENT-SIZE) * CONTENT-VALUES

-- one Flow Sequence is one number of 8 bytes
sequence_bytes : (n : ℕ) → n < CONTENT-VALUES → bytes_of 8 (FRAME + n) ≡ option_bytes FLOW-SEQUENCE (bytes_of CONTENT-SIZE n)
unfolding bytes_of option_bytes
sequence_bytes n h =
    let a : (FRAME + n) / 256 / 256 / 256 / 256 / 256 / 256 / 256 % 256 ≡ FLOW-SEQUENCE = omega arith in
    let b : (FRAME + n) / 256 / 256 / 256 / 256 / 256 / 256 % 256 ≡ 0 = omega arith in
    let d : (FRAME + n) / 256 / 256 / 256 / 256 / 256 % 256 ≡ CONTENT-SIZE = omega arith in
    let e : (FRAME + n) / 256 / 256 / 256 / 256 % 256 ≡ n / 256 / 256 / 256 / 256 % 256 = omega arith in
    let f : (FRAME + n) / 256 / 256 / 256 % 256 ≡ n / 256 / 256 / 256 % 256 = omega arith in
    let g : (FRAME + n) / 256 / 256 % 256 ≡ n / 256 / 256 % 256 = omega arith in
    let i : (FRAME + n) / 256 % 256 ≡ n / 256 % 256 = omega arith in
    let j : (FRAME + n) % 256 ≡ n % 256 = omega arith in
    rw (a, b, d, e, f, g, i, j)

pub sequence_room : (n : ℕ) {room : ℕ} → size_of (option FLOW-SEQUENCE (bytes_of CONTENT-SIZE n)) ≤ room → SEQUENCE-SIZE ≤ room
sequence_room n h = rw (length_bytes CONTENT-SIZE n) at (room_for FLOW-SEQUENCE (bytes_of CONTENT-SIZE n) h)

pub sequence_laid : (n : ℕ) (out part : List ℕ) → n < CONTENT-VALUES → SEQUENCE-SIZE ≤ length out → part ≡ bytes_of (length (take SEQUENCE-SIZE out)) (FRAME + n)
    → Laid (alone (option FLOW-SEQUENCE (bytes_of CONTENT-SIZE n))) out (part ++ drop SEQUENCE-SIZE out) SEQUENCE-SIZE
sequence_laid n out part h room e =
    let whole : part ≡ option_bytes FLOW-SEQUENCE (bytes_of CONTENT-SIZE n) = e ∙ rw (length-take-le SEQUENCE-SIZE out room) (sequence_bytes n h) in
    let size : length (option_bytes FLOW-SEQUENCE (bytes_of CONTENT-SIZE n)) ≡ SEQUENCE-SIZE = ap length (sym (sequence_bytes n h)) ∙ length_bytes 8 (FRAME + n) in
    laid_option FLOW-SEQUENCE (bytes_of CONTENT-SIZE n) (record { count_is = sym size; bytes_are = rw (size, whole) })

-- ---- one behind the other
sequence_part_lem : (n : ℕ) → Part (option FLOW-SEQUENCE (bytes_of CONTENT-SIZE n)) SEQUENCE-SIZE
sequence_part_lem n = part_option FLOW-SEQUENCE (bytes_of CONTENT-SIZE n) CONTENT-SIZE (length_bytes CONTENT-SIZE n)

pub contents_part : (ns : List ℕ) → Part (contents_then ns) (SEQUENCE-SIZE * length ns)
unfolding contents_then
contents_part [] = part_nothing
contents_part (n ∷ ns) =
    let size : SEQUENCE-SIZE + SEQUENCE-SIZE * length ns ≡ SEQUENCE-SIZE * length (n ∷ ns) = omega arith in
    rw size at (part_both (sequence_part_lem n) (contents_part ns))

-- each content fits its bytes
content_low : (id : ℕ) (ns : List ℕ) → RisingFrom id ns → (k : ℕ) → k < length ns → get_or ns k 0 < CONTENT-VALUES
unfolding RisingFrom
content_low id [] r k h = absurd (omega arith)
content_low id (n ∷ ns) r zero h = let a : id_in n < CHANNEL-IDS = r.1.0 in omega arith
content_low id (n ∷ ns) r (suc k) h = content_low (suc (id_in n)) ns r.1.1 k (omega arith)

module _ (ns : List ℕ) where
  -- the Flow Sequences from a place on
  abbrev pub from : ℕ → Options
  from place = contents_then (drop place ns) done

  abbrev pub here : ℕ → Options → Options
  here place = option FLOW-SEQUENCE (bytes_of CONTENT-SIZE (get_or ns place 0))

  from_step : (place : ℕ) → place < length ns → from place ≡ here place (from (place + 1))
  unfolding contents_then
  from_step place h = rw (add-one, drop-cons ns place 0)

  from_end : (place : ℕ) → length ns ≤ place → from place ≡ done
  unfolding contents_then
  from_end place h = rw (drop_of_length-le ns h)

  -- those from a place on are left to be laid
  pub record Going (entry : List ℕ) (place at : ℕ) (out : List ℕ) : Type 0 where
    pub rising : RisingFrom 0 ns
    pub inside : place ≤ length ns
    pub standing : Standing (alone (contents_then ns)) entry at (from place) out

  abbrev pub Turn : List ℕ → ℕ → ℕ → List ℕ → Type 0
  Turn entry place at out = Lending (alone (contents_then ns)) entry at (here place) (from (place + 1)) out

  pub going_start : (entry : List ℕ) → RisingFrom 0 ns → size_of (contents_then ns) ≤ length entry → Going entry 0 0 entry
  going_start entry r h = record { rising = r; inside = omega arith; standing = standing_start (contents_then ns done) entry h }

  module _ {entry : List ℕ} {place at : ℕ} {out : List ℕ} (g : Going entry place at out) where
    pub going_low : place < length ns → get_or ns place 0 < CONTENT-VALUES
    going_low h = content_low 0 ns g.rising place h

    pub going_lent : place < length ns → Turn entry place at out
    going_lent h = lending (sequence_part_lem (get_or ns place 0)) (rw (← from_step place h) g.standing)

    pub going_on : {part : List ℕ} {r : ℕ} → place < length ns → Laid (alone (here place)) (take (length out - at) (drop at out)) part r
        → Going entry (place + 1) (at + r) (take at out ++ (part ++ drop (length out - at) (drop at out)))
    going_on {part} {r} h laid = record { rising = g.rising; inside = omega arith; standing = (going_lent h).back part r laid }

    pub going_end : length ns ≤ place → Laid (alone (contents_then ns)) entry out at
    going_end h = standing_end (rw (from_end place h) at g.standing)

-- ---- the whole
pub datalink_part_lem : (datalink : ℕ) → Part (option DATALINK-IDENTIFIER (datalink ∷ [])) 4
datalink_part_lem datalink = part_option DATALINK-IDENTIFIER (datalink ∷ []) 1 refl

pub query_length : (datalink : ℕ) (ns : List ℕ) → length (query_written datalink ns) ≡ query_size (length ns)
unfolding query_written
query_length datalink ns =
    omega (arith, part_length (datalink_part_lem datalink) (contents_then ns done), (contents_part ns).size_is)

-- the header stands, and the options are left
pub query_header : (datalink : ℕ) (ns entry : List ℕ) → length (query_written datalink ns) ≤ length entry
    → Standing (query_written datalink ns) entry 1 (option DATALINK-IDENTIFIER (datalink ∷ []) (contents_then ns done)) (set entry 0 CONTROL-HEADER)
unfolding query_written
query_header datalink ns entry h = standing_header CONTROL-HEADER (option DATALINK-IDENTIFIER (datalink ∷ []) (contents_then ns done)) entry h
