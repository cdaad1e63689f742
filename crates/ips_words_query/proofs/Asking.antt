-- The query of a state is its flow-controlled channels' Flow Sequences, by rising Channel ID. Assumes nothing.
use Rattle.std.specs.Prelude.{None}
use Prim.Native.Nat.{ℕ, ◌+◌, ◌<◌}
use mathlib.Core.Path.{◌≡◌, refl, sym, ap, ◌∙◌}
use mathlib.Core.Bool.{true, false}
use mathlib.Core.List.{List, [], ◌∷◌}
use native.Mathlib.Omega.{arith}
use lib.ListN.{length, take}
use Rattle.quantity.specs.Limits.{CHANNEL-IDS}
use Rattle.wire.specs.Options.{Options, done, option, bytes}
use Rattle.meaning.specs.Kinds.{DATALINK-IDENTIFIER}
use Rattle.writer.specs.Written.{control_written, CONTROL-HEADER}
use Rattle.ips_state.specs.State.{State, channel_at}
use Rattle.ips_state.specs.Limits.{state_fits}
use Rattle.ips_query.specs.Query.{sequence_for, sequences_of, query_of}
use Rattle.ips_query.proofs.Queries.{id_inside, sequence_new, sequence_next, query_options}
use Rattle.ips_words_query.specs.Rising.{COUNT-VALUES, content_of, id_in, stated_in, RisingFrom, FlowSequences, inserted, query_written}
use Rattle.ips_words_query.proofs.Rising.{id_in_lem, sequence_in_lem, inserted_rising, inserted_stated, laid_same}

-- ---- the channels up to an index
pub sequences_none : FlowSequences [] []
unfolding stated_in RisingFrom sequence_for
sequences_none = record { rising = tt; stated = λ id. refl }

module _ (s : State) (fits : state_fits s ≡ true) (index : ℕ) (inside : index < length s.channels) (contents : List ℕ) (so_far : FlowSequences (take index s.channels) contents) where
  pub sequences_plain : (channel_at s index).setting.controlled ≡ false → FlowSequences (take (index + 1) s.channels) contents
  sequences_plain plain = record { rising = so_far.rising; stated = λ id. so_far.stated id ∙ sym (sequence_next s fits index inside id ∙ rw plain) }

  module _ (controlled : (channel_at s index).setting.controlled ≡ true) (low : (channel_at s index).sequence.0 < COUNT-VALUES) where
    content : ℕ
    content = content_of (channel_at s index).setting.id (channel_at s index).sequence.0

    id_is : id_in content ≡ (channel_at s index).setting.id
    unfolding content
    id_is = id_in_lem (channel_at s index).setting.id (channel_at s index).sequence.0 low

    new : stated_in (id_in content) contents ≡ None
    new = ap (λ (id : ℕ). stated_in id contents) id_is ∙ so_far.stated (channel_at s index).setting.id ∙ sequence_new s fits index inside

    pub sequences_more : FlowSequences (take (index + 1) s.channels) (inserted (content_of (channel_at s index).setting.id (channel_at s index).sequence.0) contents)
    unfolding content
    sequences_more = record {
      rising = inserted_rising content 0 contents (omega arith) (rw id_is (id_inside s fits index inside)) new so_far.rising;
      stated = λ id.
          inserted_stated content id contents new
          ∙ rw (id_is, sequence_in_lem (channel_at s index).setting.id (channel_at s index).sequence.0 low, so_far.stated id)
          (sym (sequence_next s fits index inside id ∙ rw controlled));
    }

-- ---- THE QUERY'S BYTES are the header, the Datalink Identifier, and the Flow Sequences by rising Channel ID
pub query_is : (s : State) (contents : List ℕ) → FlowSequences s.channels contents → control_written (query_of s) ≡ query_written s.datalink.id.0 contents
unfolding control_written query_written sequences_of
query_is s contents f =
    ap (λ (options : Options). CONTROL-HEADER ∷ bytes options)
    (query_options s
    ∙ ap (option DATALINK-IDENTIFIER (s.datalink.id.0 ∷ []))
    (laid_same CHANNEL-IDS 0 (λ id. sequence_for id s.channels) done contents refl
    (λ id. let z : 0 + id ≡ id = omega arith in rw z (sym (f.stated id))) f.rising))
