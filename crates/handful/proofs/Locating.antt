-- Where a channel stands, in words that 19 does not refuse. Assumes nothing.
use Rattle.std.specs.Prelude.{Ok, Err}
use Prim.Native.Nat.{ℕ, ◌+◌, ◌*◌, ◌≤◌, ◌<◌}
use mathlib.Core.Bool.{Bool, true, false}
use mathlib.Core.List.{List, []}
use mathlib.Core.Path.{◌≡◌, refl, sym}
use native.Mathlib.Omega.{arith}
use borrow.Author.Count.{below_more}
use borrow.Author.Tests.{eq-eqb}
use lib.Dec.{eqb}
use lib.ListN.{length, replicate, length-replicate}
use Rattle.quantity.specs.Limits.{MOST-CHANNELS, LARGEST-STORE}
use Rattle.quantity.specs.Refusals.{NO-CHANNEL}
use Rattle.meaning.specs.Kinds.{among}
use Rattle.ips_state.specs.State.{State, channel_at}
use Rattle.ips_state.specs.Limits.{ids, sizes, state_fits}
use Rattle.ips_state.specs.Memory.{memory_fits, start_of, World}
use Rattle.ips_state.proofs.Channels.{sizes_join, sizes_most}
use Rattle.ips_state.proofs.Places.{fit, index_one, found, store_room}
use Rattle.ips_run.proofs.Exact.{named}
use Rattle.ips_words.specs.Words.{SLOT, COUNT-WORD, ID, SIZE, word, slot_start, channel_in, state_in}
use Rattle.ips_words.proofs.Whole.{slot_word, fit_readable, readable_facts, fit_room, fit_channel}
use Rattle.ips_words_survey.specs.Places.{place_of}
use Rattle.ips_words_survey.proofs.Walking.{one_more}

-- the channels before an index are passed, and none has the ID
pub record Locating (words : List ℕ) (id start index : ℕ) : Type 0 where
  pub inside : index ≤ length (state_in words).channels
  pub start_is : start ≡ start_of (state_in words) index
  pub others : (k : ℕ) → k < index → (channel_at (state_in words) k).setting.id ≡ id → ⊥

module _ (words : List ℕ) (fits : state_fits (state_in words) ≡ true) where
  abbrev s : State
  s = state_in words

  pub head_long : COUNT-WORD < length words
  head_long = omega (arith, (readable_facts words (fit_readable words fits)).long)

  pub locating_start : (id : ℕ) → Locating words id 0 0
  unfolding start_of sizes
  locating_start id = record { inside = omega arith; start_is = refl; others = λ k h e. omega arith }

  whole : eqb (sizes s.channels) (sizes s.channels) ≡ true
  whole = eq-eqb (sizes s.channels) (sizes s.channels) refl

  module _ (id start index : ℕ) (v : Locating words id start index) where
    module _ (inside : index < length s.channels) where
      pub slot_ends : slot_start index + SLOT ≤ length words
      slot_ends = fit_room words fits index inside

      pub id_here : word words (slot_start index + ID) ≡ (channel_at s index).setting.id
      unfolding channel_in
      id_here = rw (fit_channel words fits index inside) (sym (slot_word words index ID (omega arith)))

      pub size_here : word words (slot_start index + SIZE) ≡ (channel_at s index).setting.size.0
      unfolding channel_in
      size_here = rw (fit_channel words fits index inside) (sym (slot_word words index SIZE (omega arith)))

      -- no sum of stores is large
      pub start_small : start + (channel_at s index).setting.size.0 ≤ LARGEST-STORE * MOST-CHANNELS
      unfolding memory_fits
      start_small =
          let memory : List ℕ = replicate (sizes s.channels) 0 in
          let long : length memory ≡ sizes s.channels = length-replicate (sizes s.channels) 0 in
          let room = store_room s memory (eq-eqb (length memory) (sizes s.channels) long) index inside in
          omega (arith, v.start_is, long, room, sizes_most s.channels (fit s fits).each, (fit s fits).few)

      starts_next : (size : ℕ) → size ≡ (channel_at s index).setting.size.0 → start + size ≡ start_of s (index + 1)
      unfolding start_of sizes
      starts_next size is = rw (one_more s index inside, sizes_join, v.start_is, is) (omega arith)

      pub locating_next : ((channel_at s index).setting.id ≡ id → ⊥) → (size : ℕ) → size ≡ (channel_at s index).setting.size.0 → Locating words id (start + size) (index + 1)
      locating_next other size is =
          record { inside = omega arith; start_is = starts_next size is; others = below_more _ index v.others other }

      pub locating_found : (channel_at s index).setting.id ≡ id → Ok (record { index = index; start = start }) ≡ place_of s id (sizes s.channels)
      unfolding place_of
      locating_found e =
          let w : World = record { state = s; memory = [] } in
          rw (fits, whole, named w index id inside e, index_one s fits index id inside e, v.start_is)

    pub locating_none : length s.channels ≤ index → Err NO-CHANNEL ≡ place_of s id (sizes s.channels)
    unfolding place_of
    locating_none over = go (among id (ids s.channels)) refl
      where
        go : (b : Bool) → among id (ids s.channels) ≡ b → Err NO-CHANNEL ≡ place_of s id (sizes s.channels)
        go true t = absurd (v.others _ (omega (arith, (found s id t).0)) (found s id t).1)
        go false t = rw (fits, whole, t)
