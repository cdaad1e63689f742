-- The pass over the words: what holds before a channel, where it starts, goes on and ends. The laws of the pass over channels serve. Assumes nothing.
use Rattle.std.specs.Prelude.{Some}
use Prim.Native.Nat.{ℕ, suc, ◌+◌, ◌*◌, ◌-◌, ◌≤◌, ◌<◌}
use mathlib.Core.Bool.{Bool, true, false, cond, ◌&&◌, and-eq-true_iff}
use mathlib.Core.List.{List, [], ◌∷◌, ◌++◌}
use mathlib.Core.Path.{◌≡◌, refl, sym, ◌∙◌}
use native.Mathlib.Numerals.{add-one}
use native.Mathlib.Omega.{arith}
use lib.ListN.{length, take, drop, set, get_or, replicate}
use lib.Seq.{take_all}
use Rattle.quantity.specs.Limits.{LARGEST-STORE}
use Rattle.ips_state.specs.State.{State, channel_at}
use Rattle.ips_state.specs.Limits.{channel_fits}
use Rattle.ips_state.proofs.Channels.{fitting}
use Rattle.ips_words.specs.Words.{SLOT, ID, SIZE, word, slot, slot_start, channel_in, state_of, spelled, all_spelled}
use Rattle.ips_words.proofs.Whole.{channels_length, channel_at_lem, all_spelled_at}
use Rattle.ips_words_survey.specs.Survey.{unfit, walked, Counted, walked_in}
use Rattle.ips_words_survey.proofs.Walking.{passed, upcoming, one_more, BYTES, Walking, walk_start, walk_most, walk_here, walk_other, walk_unfit, walk_twice, walk_none, walk_end}

pub record Surveying (words : List ℕ) (id count : ℕ) (seen : List Bool) (total index start at : ℕ) : Type 0 where
  pub inside : at ≤ count
  pub spell : all_spelled words at ≡ true
  pub walking : Walking id count (take at (state_of words).channels) seen total index start

pub survey_start : (words : List ℕ) (id count : ℕ) → Surveying words id count (replicate BYTES false) 0 count 0 0
unfolding all_spelled
survey_start words id count = record { inside = omega arith; spell = refl; walking = walk_start id count }

module _ (words : List ℕ) (count : ℕ) (counted : Counted words count) where
  abbrev s : State
  s = state_of words

  channels_are : length s.channels ≡ count
  channels_are = channels_length words ∙ sym counted.count_is

  -- ---- one channel
  module _ (at : ℕ) (inside : at < count) where
    within : at < length s.channels
    within = omega (arith, channels_are)

    channel_is : channel_at s at ≡ channel_in (slot words at)
    channel_is = channel_at_lem words at (omega (arith, counted.count_is))

    pub part_is : take (slot_start at + SLOT - slot_start at) (drop (slot_start at) words) ≡ slot words at
    unfolding slot
    part_is = let n : slot_start at + SLOT - slot_start at ≡ SLOT = omega arith in rw n

    pub id_is : word (slot words at) ID ≡ (channel_at s at).setting.id
    unfolding channel_in
    id_is = rw channel_is

    pub size_is : word (slot words at) SIZE ≡ (channel_at s at).setting.size.0
    unfolding channel_in
    size_is = rw channel_is

    module _ (id : ℕ) (seen : List Bool) (total index start : ℕ) (v : Surveying words id count seen total index start at) (fits : Bool) (judged : fits ≡ (spelled (slot words at) && channel_fits (channel_in (slot words at)))) where
      pub out_unfit : fits ≡ false → unfit ≡ walked_in words count id
      unfolding walked_in
      out_unfit f = go (all_spelled words count) refl
        where
          go : (b : Bool) → all_spelled words count ≡ b → unfit ≡ cond b (walked s.channels id) unfit
          go false e = refl
          go true e =
              let bad : channel_fits (channel_at s at) ≡ false = rw channel_is (sym (sym f ∙ judged ∙ rw (all_spelled_at words count e at inside))) in
              walk_unfit s.channels (take at s.channels) (drop (suc at) s.channels) (channel_at s at) id (upcoming s at within) bad

      module _ (good : fits ≡ true) where
        spelled_here : spelled (slot words at) ≡ true
        spelled_here = ((and-eq-true_iff (spelled (slot words at)) _).0 (sym judged ∙ good)).0

        fits_here : channel_fits (channel_at s at) ≡ true
        fits_here = rw channel_is ((and-eq-true_iff (spelled (slot words at)) _).0 (sym judged ∙ good)).1

        pub id_small : (channel_at s at).setting.id < BYTES
        id_small = omega (arith, (fitting (channel_at s at) fits_here).unreserved)

        more_spelled : all_spelled words (at + 1) ≡ true
        unfolding all_spelled
        more_spelled = rw (add-one at, v.spell, spelled_here)

        module _ (here : ℕ) (here-is : here ≡ (channel_at s at).setting.id) where
          pub out_twice : get_or seen here false ≡ true → unfit ≡ walked_in words count id
          unfolding walked_in
          out_twice e = go (all_spelled words count)
            where
              go : (b : Bool) → unfit ≡ cond b (walked s.channels id) unfit
              go false = refl
              go true =
                  walk_twice id count (take at s.channels) seen total index start v.walking (channel_at s at) id_small s.channels _
                  (upcoming s at within) (rw here-is at e)

          module _ (unseen : get_or seen here false ≡ false) (size index' start' : ℕ) (size_here : size ≡ (channel_at s at).setting.size.0) where
            goes_on : Walking id count (take at s.channels ++ (channel_at s at ∷ [])) (set seen here true) (total + size) index' start'
                → Surveying words id count (set seen here true) (total + size) index' start' (at + 1)
            goes_on w = record { inside = omega arith; spell = more_spelled; walking = rw (one_more s at within) w }

            pub on_here : here ≡ id → index' ≡ at → start' ≡ total → Surveying words id count (set seen here true) (total + size) index' start' (at + 1)
            on_here e i j =
                goes_on (rw (here-is, size_here) (walk_here id count _ seen total index start v.walking (channel_at s at) id_small fits_here (rw here-is at unseen) (sym here-is ∙ e) index' start'
                (i ∙ sym (passed s at within)) j))

            pub on_other : (here ≡ id → ⊥) → index' ≡ index → start' ≡ start → Surveying words id count (set seen here true) (total + size) index' start' (at + 1)
            on_other f i j =
                goes_on (rw (here-is, size_here) (walk_other id count _ seen total index start v.walking (channel_at s at) id_small fits_here (rw here-is at unseen) (λ e. f (here-is ∙ e)) index' start' i j))

  -- ---- all are passed
  module _ (id : ℕ) (seen : List Bool) (total index start at : ℕ) (v : Surveying words id count seen total index start at) where
    pub survey_most : total ≤ LARGEST-STORE * at
    survey_most = walk_most s.channels at id count seen total index start v.walking

    module _ (over : count ≤ at) where
      all_walked : Walking id count s.channels seen total index start
      all_walked = rw (take_all at s.channels (omega (arith, channels_are))) at v.walking

      all_spell : all_spelled words count ≡ true
      all_spell = let e : at ≡ count = omega (arith, v.inside) in rw e at v.spell

      pub out_none : get_or seen 0 false ≡ false → unfit ≡ walked_in words count id
      unfolding walked_in
      out_none e = rw all_spell (walk_none id count s.channels seen total index start all_walked e)

      pub survey_end : get_or seen 0 false ≡ true → Some (record { total = record { 0 = total }; index = index; start = record { 0 = start } }) ≡ walked_in words count id
      unfolding walked_in
      survey_end e = rw all_spell (walk_end id count s.channels seen total index start all_walked e (sym channels_are))
