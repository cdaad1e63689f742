-- The message of Query: its Flow Sequences channel by channel, and that it may be written. Assumes nothing.
use Rattle.std.specs.Prelude.{Option, Some, None}
use Rattle.quantity.specs.declared.count.FlowSequence.{FlowSequence}
use Prim.Native.Nat.{ℕ, zero, suc, ◌+◌, ◌*◌, ◌≤◌, ◌<◌}
use mathlib.Core.Path.{◌≡◌, refl, sym, ap, ◌∙◌}
use mathlib.Core.List.{List, [], ◌∷◌, ◌++◌, append-nil, map-append}
use mathlib.Core.Bool.{Bool, true, false, cond, not, ◌&&◌, and-false, and-true, and-eq-true_iff}
use native.Mathlib.Numerals.{add-one}
use native.Mathlib.Omega.{arith}
use borrow.Author.Tests.{eqb-true, eqb-false, eq-eqb, ne_eqb, not-true}
use lib.Dec.{eqb}
use lib.ListN.{length, get_or, take, drop, replicate, length-append}
use lib.Seq.{take-suc, split_at, get_or-append_seam}
use Rattle.facts.proofs.Tests.{clash}
use Rattle.facts.proofs.Tables.{get_d_tabulate, length_tabulate}
use Rattle.quantity.specs.Limits.{CHANNEL-IDS, LONGEST-DATAGRAM}
use Rattle.wire.specs.Numbers.{bytes_of}
use Rattle.wire.specs.Options.{Options, done, option, option_bytes, bytes}
use Rattle.wire.proofs.Numbers.{length_bytes}
use Rattle.wire.proofs.Options.{option_length}
use Rattle.meaning.specs.declared.message.End.TheVariants as ends
use Rattle.meaning.specs.Kinds.{among, DATALINK-IDENTIFIER, FLOW-SEQUENCE}
use Rattle.writable.specs.Allowed.{statuses_allowed, sequence_allowed, sequences_allowed, windows_allowed, control_allowed}
use Rattle.write_option.specs.Parts.{table_then, sequence_then}
use Rattle.write_option.proofs.Tables.{status_at, sequence_at, window_at}
use Rattle.writer.specs.Written.{control_options, control_written}
use Rattle.ips_channel.specs.declared.state.Channel.{Channel}
use Rattle.ips_state.specs.State.{State, channel_at, no_channel}
use Rattle.ips_state.specs.Limits.{state_fits, ids, distinct}
use Rattle.ips_query.specs.Query.{sequence_for, sequences_of, query_of}
use Rattle.ips_state.proofs.Channels.{stands_among}
use Rattle.ips_state.proofs.Places.{fit, channel_fitting_at}

-- ---- numbers that are all different
among_here : (xs rest : List ℕ) (m n : ℕ) → n ≡ m → among m (xs ++ (n ∷ rest)) ≡ true
among_here xs rest m n e = stands_among m (xs ++ (n ∷ rest)) (length xs) (record { inside = simp length-append (omega arith); is = get_or-append_seam xs n rest 0 ∙ e })

none_of : (n x : ℕ) (xs : List ℕ) → among n (x ∷ xs) ≡ false → (x ≡ n → ⊥) × (among n xs ≡ false)
none_of n x xs h = go (eqb n x) refl h
  where
    go : (b : Bool) → eqb n x ≡ b → cond b true (among n xs) ≡ false → (x ≡ n → ⊥) × (among n xs ≡ false)
    go true e k = clash (sym k)
    go false e k = (λ q. eqb-false n x e (sym q), k)

-- one of them is neither among those before it nor among those behind it
alone : (xs rest : List ℕ) (n : ℕ) → distinct (xs ++ (n ∷ rest)) ≡ true → (among n xs ≡ false) × (among n rest ≡ false)
unfolding distinct
alone [] rest n d = (refl, not-true (among n rest) ((and-eq-true_iff (not (among n rest)) (distinct rest)).0 d).0)
alone (x ∷ xs) rest n d =
    let parts = (and-eq-true_iff (not (among x (xs ++ (n ∷ rest)))) (distinct (xs ++ (n ∷ rest)))).0 d in
    let later = alone xs rest n parts.1 in
    (rw (ne_eqb n x (λ e. clash (sym (not-true _ parts.0) ∙ among_here xs rest x n e))) later.0, later.1)

-- ---- the Flow Sequence of a Channel ID
module _ (id : ℕ) where
  sequence_past : (xs ys : List Channel) → among id (ids xs) ≡ false → sequence_for id (xs ++ ys) ≡ sequence_for id ys
  unfolding sequence_for ids
  sequence_past [] ys h = refl
  sequence_past (x ∷ xs) ys h =
      let none = none_of id x.setting.id (ids xs) h in
      rw (ne_eqb x.setting.id id none.0, and-false) (sequence_past xs ys none.1)

  sequence_other : (xs : List Channel) (c : Channel) → (c.setting.controlled && eqb c.setting.id id) ≡ false → sequence_for id (xs ++ (c ∷ [])) ≡ sequence_for id xs
  unfolding sequence_for
  sequence_other [] c h = rw h
  sequence_other (x ∷ xs) c h = rw (sequence_other xs c h)

  pub sequence_none : (cs : List Channel) → among id (ids cs) ≡ false → sequence_for id cs ≡ None
  unfolding sequence_for
  sequence_none cs h = ap (sequence_for id) (sym (append-nil cs)) ∙ sequence_past cs [] h

none_among : (id : ℕ) → among id (ids []) ≡ false
unfolding ids
none_among id = refl

sequence_own : (xs rest : List Channel) (c : Channel) → among c.setting.id (ids xs) ≡ false → among c.setting.id (ids rest) ≡ false
    → sequence_for c.setting.id (xs ++ (c ∷ rest)) ≡ cond c.setting.controlled (Some c.sequence) None
unfolding sequence_for
sequence_own xs rest c before behind =
    sequence_past c.setting.id xs (c ∷ rest) before ∙ rw (eq-eqb c.setting.id c.setting.id refl, and-true, sequence_none c.setting.id rest behind)

-- with one channel more, whose ID is new
sequence_more : (id : ℕ) (xs : List Channel) (c : Channel) → among c.setting.id (ids xs) ≡ false
    → sequence_for id (xs ++ (c ∷ [])) ≡ cond (c.setting.controlled && eqb c.setting.id id) (Some c.sequence) (sequence_for id xs)
sequence_more id xs c new = go (c.setting.controlled && eqb c.setting.id id) refl
  where
    own : c.setting.controlled ≡ true → sequence_for c.setting.id (xs ++ (c ∷ [])) ≡ Some c.sequence
    own controlled = sequence_own xs [] c new (none_among c.setting.id) ∙ rw controlled

    go : (b : Bool) → (c.setting.controlled && eqb c.setting.id id) ≡ b → sequence_for id (xs ++ (c ∷ [])) ≡ cond b (Some c.sequence) (sequence_for id xs)
    go true e =
        let both = (and-eq-true_iff c.setting.controlled (eqb c.setting.id id)).0 e in
        ap (λ (n : ℕ). sequence_for n (xs ++ (c ∷ []))) (sym (eqb-true c.setting.id id both.1)) ∙ own both.0
    go false e = sequence_other id xs c e

-- ---- the channels of a state within the limits
module _ (s : State) (fits : state_fits s ≡ true) (index : ℕ) (inside : index < length s.channels) where
  around : s.channels ≡ take index s.channels ++ (channel_at s index ∷ drop (suc index) s.channels)
  unfolding channel_at
  around = split_at s.channels index no_channel inside

  one_more : take (index + 1) s.channels ≡ take index s.channels ++ (channel_at s index ∷ [])
  unfolding channel_at
  one_more = rw add-one (take-suc s.channels index no_channel inside)

  -- no other has its Channel ID
  alone_at : (among (channel_at s index).setting.id (ids (take index s.channels)) ≡ false) × (among (channel_at s index).setting.id (ids (drop (suc index) s.channels)) ≡ false)
  unfolding ids
  alone_at =
      alone (ids (take index s.channels)) (ids (drop (suc index) s.channels)) (channel_at s index).setting.id
      (ap distinct (sym (ap ids around ∙ map-append _ (take index s.channels) _)) ∙ (fit s fits).apart)

  pub id_inside : (channel_at s index).setting.id < CHANNEL-IDS
  id_inside = (channel_fitting_at s fits index inside).unreserved

  -- the Flow Sequences of the channels up to an index: its own is new, and comes in if the channel is flow-controlled
  pub sequence_new : sequence_for (channel_at s index).setting.id (take index s.channels) ≡ None
  sequence_new = sequence_none (channel_at s index).setting.id (take index s.channels) alone_at.0

  pub sequence_next : (id : ℕ) → sequence_for id (take (index + 1) s.channels)
      ≡ cond ((channel_at s index).setting.controlled && eqb (channel_at s index).setting.id id) (Some (channel_at s index).sequence) (sequence_for id (take index s.channels))
  sequence_next id = ap (sequence_for id) one_more ∙ sequence_more id (take index s.channels) (channel_at s index) alone_at.0

  -- the Flow Sequence of a configured channel
  pub sequence_at_lem : sequence_for (channel_at s index).setting.id s.channels ≡ cond (channel_at s index).setting.controlled (Some (channel_at s index).sequence) None
  sequence_at_lem = ap (sequence_for (channel_at s index).setting.id) around ∙ sequence_own (take index s.channels) (drop (suc index) s.channels) (channel_at s index) alone_at.0 alone_at.1

  pub sequence_controlled : (channel_at s index).setting.controlled ≡ true → sequence_for (channel_at s index).setting.id s.channels ≡ Some (channel_at s index).sequence
  sequence_controlled controlled = sequence_at_lem ∙ rw controlled

  pub sequence_plain : (channel_at s index).setting.controlled ≡ false → sequence_for (channel_at s index).setting.id s.channels ≡ None
  sequence_plain plain = sequence_at_lem ∙ rw plain

-- ---- the message, place by place
abbrev cell_of : Option FlowSequence → Option FlowSequence
cell_of sequence = sequence

pub query_place : (cs : List Channel) (id : ℕ) → id < CHANNEL-IDS → (get_or (sequences_of cs) id None) ≡ sequence_for id cs
unfolding sequences_of
query_place cs id h = ap (λ (cell : Option FlowSequence). cell) (get_d_tabulate CHANNEL-IDS (λ n. cell_of (sequence_for n cs)) id None h)

-- ---- it may always be written
sequence_allowed_lem : (sequence : Option FlowSequence) → sequence_allowed ends.Ips sequence ≡ true
sequence_allowed_lem None = refl
sequence_allowed_lem (Some s) = refl

sequences_allowed_lem : (cells : List (Option FlowSequence)) → sequences_allowed ends.Ips cells ≡ true
unfolding sequences_allowed
sequences_allowed_lem [] = refl
sequences_allowed_lem (cell ∷ cells) = rw (sequence_allowed_lem cell) (sequences_allowed_lem cells)

pub query_allowed : (s : State) → control_allowed ends.Ips (query_of s) ≡ true
unfolding control_allowed query_of statuses_allowed windows_allowed
query_allowed s = rw (sequences_allowed_lem (sequences_of s.channels))

-- ---- and fits every datagram
put_nothing : {C : Type 0} (put : ℕ → C → Options → Options) (absent : C) → ((channel : ℕ) (more : Options) → put channel absent more ≡ more)
    → (n channel : ℕ) (more : Options) → table_then put channel (replicate n absent) more ≡ more
unfolding table_then
put_nothing put absent none zero channel more = refl
put_nothing put absent none (suc n) channel more = none channel _ ∙ put_nothing put absent none n (suc channel) more

-- no statuses and no windows: the Datalink Identifier, and the Flow Sequences
pub query_options : (s : State) → control_options (query_of s) ≡ option DATALINK-IDENTIFIER (s.datalink.id.0 ∷ []) (table_then sequence_at 0 (sequences_of s.channels) done)
unfolding control_options query_of
query_options s =
    rw (put_nothing status_at None (λ n more. refl) CHANNEL-IDS 0 (table_then sequence_at 0 (sequences_of s.channels) (table_then window_at 0 (replicate CHANNEL-IDS None) done)), put_nothing window_at None (λ n more. refl) CHANNEL-IDS 0 done)

-- a Flow Sequence has a frame of 3 bytes, a Channel ID and 4 bytes
abbrev SEQUENCE-BYTES : ℕ
SEQUENCE-BYTES = 8

sequence_short : (channel : ℕ) (sequence : Option FlowSequence) (more : Options) → length (bytes (sequence_then channel sequence more)) ≤ SEQUENCE-BYTES + length (bytes more)
unfolding bytes
sequence_short channel None more = omega arith
sequence_short channel (Some s) more =
    simp length-append (omega (arith, option_length FLOW-SEQUENCE (channel ∷ bytes_of 4 s.0), length_bytes 4 s.0))

sequences_short : (cells : List (Option FlowSequence)) (channel : ℕ) (more : Options) → length (bytes (table_then sequence_at channel cells more)) ≤ SEQUENCE-BYTES * length cells + length (bytes more)
unfolding table_then
sequences_short [] channel more = omega arith
sequences_short (cell ∷ cells) channel more =
    omega (arith, sequence_short channel cell (table_then sequence_at (suc channel) cells more), sequences_short cells (suc channel) more)

pub sequences_length : (cs : List Channel) → length (sequences_of cs) ≡ CHANNEL-IDS
unfolding sequences_of
sequences_length cs = length_tabulate CHANNEL-IDS (λ id. cell_of (sequence_for id cs))

pub query_short : (s : State) → length (control_written (query_of s)) ≤ LONGEST-DATAGRAM
unfolding control_written bytes
query_short s =
    let cells = sequences_of s.channels in
    rw (query_options s)
    (omega (arith, length-append (option_bytes DATALINK-IDENTIFIER (s.datalink.id.0 ∷ [])) (bytes (table_then sequence_at 0 cells done)), option_length DATALINK-IDENTIFIER (s.datalink.id.0 ∷ []), sequences_short cells 0 done, sequences_length s.channels))
