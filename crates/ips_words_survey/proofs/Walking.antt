-- The pass over the channels: what holds before a channel, where it starts, goes on and ends. Assumes nothing.
use Rattle.std.specs.Prelude.{Some}
use Prim.Native.Nat.{ℕ, suc, ◌+◌, ◌*◌, ◌≤◌, ◌<◌}
use mathlib.Core.Bool.{Bool, true, false, cond, and-false}
use mathlib.Core.List.{List, [], ◌∷◌, ◌++◌}
use mathlib.Core.Logic.{⊎_elim}
use mathlib.Core.Path.{◌≡◌, refl, sym, ◌∙◌}
use native.Mathlib.Nat.{min-le_left}
use native.Mathlib.Numerals.{add-one}
use native.Mathlib.Omega.{arith}
use borrow.Author.Tests.{le-leb, lt-leb}
use lib.ListN.{length, get_or, take, drop, set, replicate, length-replicate, length-set, length-take, get_or-replicate}
use lib.Seq.{split_at, take-suc, length-take-le, take-append-le, take-append_seam, get_or-set_same, get_or-set_other}
use Rattle.quantity.specs.Limits.{FEWEST-CHANNELS, MOST-CHANNELS, LARGEST-STORE}
use Rattle.meaning.specs.Kinds.{among}
use Rattle.ips_channel.specs.declared.state.Channel.{Channel}
use Rattle.ips_state.specs.State.{State, no_channel, channel_at}
use Rattle.ips_state.specs.Limits.{channel_fits, all_fit_under, all_fit, ids, distinct, channels_fit_under, sizes, index_of, head_fits, state_fits_under}
use Rattle.ips_words_survey.specs.Survey.{unfit, surveyed, walked, survey_of}
use Rattle.ips_state.proofs.Channels.{among_first, among_later, among_join, index_first, index_here, index_past, index_none, index_stands, distinct_more, distinct_twice, all_join, ids_join, ids_length, sizes_join, sizes_most, same_or_not}

-- ---- the channels, one by one
module _ (s : State) (at : ℕ) (inside : at < length s.channels) where
  pub passed : length (take at s.channels) ≡ at
  passed = length-take-le at s.channels (omega arith)

  pub upcoming : s.channels ≡ take at s.channels ++ (channel_at s at ∷ drop (suc at) s.channels)
  unfolding channel_at
  upcoming = split_at s.channels at no_channel inside

  pub one_more : take (at + 1) s.channels ≡ take at s.channels ++ (channel_at s at ∷ [])
  unfolding channel_at
  one_more = rw add-one (take-suc s.channels at no_channel inside)

-- the values of a byte
abbrev pub BYTES : ℕ
BYTES = 256

-- ---- where the channels `done` are passed
pub record Walking (id count : ℕ) (done : List Channel) (seen : List Bool) (total index start : ℕ) : Type 0 where
  pub full : length seen ≡ BYTES
  pub fit : all_fit done ≡ true
  pub apart : distinct (ids done) ≡ true
  pub seen_is : (k : ℕ) → k < BYTES → get_or seen k false ≡ among k (ids done)
  pub total_is : total ≡ sizes done
  pub index_is : index ≡ cond (among id (ids done)) (index_of id (ids done)) count
  pub start_is : start ≡ cond (among id (ids done)) (sizes (take (index_of id (ids done)) done)) 0

pub walk_start : (id count : ℕ) → Walking id count [] (replicate BYTES false) 0 count 0
unfolding all_fit_under ids distinct sizes
walk_start id count = record { full = length-replicate BYTES false; fit = refl; apart = refl; seen_is = λ k h. get_or-replicate BYTES k false false h; total_is = refl; index_is = refl; start_is = refl }

pub walk_most : (cs : List Channel) (at id count : ℕ) (seen : List Bool) (total index start : ℕ) → Walking id count (take at cs) seen total index start → total ≤ LARGEST-STORE * at
walk_most cs at id count seen total index start w = omega (arith, w.total_is, sizes_most (take at cs) w.fit, length-take at cs, min-le_left at (length cs))

-- one channel more, whose ID is new
module _ (done : List Channel) (c : Channel) (new : among c.setting.id (ids done) ≡ false) where
  abbrev more : List Channel
  more = done ++ (c ∷ [])

  ids_more : ids more ≡ ids done ++ (c.setting.id ∷ [])
  unfolding ids
  ids_more = ids_join done (c ∷ [])

  among_new : among c.setting.id (ids more) ≡ true
  among_new = rw (ids_more, among_join c.setting.id (ids done) (c.setting.id ∷ []), new, among_first c.setting.id c.setting.id [] refl)

  among_other : (k : ℕ) → (c.setting.id ≡ k → ⊥) → among k (ids more) ≡ among k (ids done)
  among_other k f = rw (ids_more, among_join k (ids done) (c.setting.id ∷ []), among_later k c.setting.id [] f) (truth (among k (ids done)))
    where
      truth : (b : Bool) → cond b true false ≡ b
      truth true = refl
      truth false = refl

  index_new : index_of c.setting.id (ids more) ≡ length done
  index_new = rw (ids_more, index_past c.setting.id (ids done) (c.setting.id ∷ []) new, index_first c.setting.id c.setting.id [] refl, ids_length) (omega arith)

  start_new : sizes (take (index_of c.setting.id (ids more)) more) ≡ sizes done
  start_new = rw (index_new, take-append_seam)

  module _ (k : ℕ) (there : among k (ids done) ≡ true) where
    index_old : index_of k (ids more) ≡ index_of k (ids done)
    index_old = rw ids_more (index_here k (ids done) (c.setting.id ∷ []) there)

    start_old : sizes (take (index_of k (ids more)) more) ≡ sizes (take (index_of k (ids done)) done)
    start_old = rw (index_old, take-append-le (index_of k (ids done)) done (c ∷ []) (omega (arith, (index_stands k (ids done) there).inside, ids_length done)))

module _ (id count : ℕ) (done : List Channel) (seen : List Bool) (total index start : ℕ) (w : Walking id count done seen total index start) (c : Channel) (byte : c.setting.id < BYTES) where
  known : get_or seen c.setting.id false ≡ among c.setting.id (ids done)
  known = w.seen_is c.setting.id byte

  module _ (fits : channel_fits c ≡ true) (unseen : get_or seen c.setting.id false ≡ false) where
    new : among c.setting.id (ids done) ≡ false
    new = sym known ∙ unseen

    seen_more : (k : ℕ) → k < BYTES → get_or (set seen c.setting.id true) k false ≡ among k (ids (more done c new))
    seen_more k h =
        ⊎_elim (λ (e : c.setting.id ≡ k). rw (← e, get_or-set_same seen c.setting.id true false (omega (arith, w.full)), among_new done c new))
        (λ (f : c.setting.id ≡ k → ⊥). get_or-set_other seen c.setting.id k true false (λ e. f (sym e)) ∙ w.seen_is k h ∙ sym (among_other done c new k f)) (same_or_not c.setting.id k)

    walk_on : (index' start' : ℕ)
        → index' ≡ cond (among id (ids (more done c new))) (index_of id (ids (more done c new))) count
        → start' ≡ cond (among id (ids (more done c new))) (sizes (take (index_of id (ids (more done c new))) (more done c new))) 0
        → Walking id count (more done c new) (set seen c.setting.id true) (total + c.setting.size.0) index' start'
    unfolding all_fit_under sizes
    walk_on index' start' i j = record {
      full = simp length-set w.full;
      fit = all_join done (c ∷ []) ∙ rw (w.fit, fits);
      apart = rw (ids_more done c new) (distinct_more (ids done) c.setting.id w.apart new);
      seen_is = seen_more;
      total_is = rw (sizes_join done (c ∷ []), w.total_is) (omega arith);
      index_is = i;
      start_is = j;
    }

    pub walk_here : c.setting.id ≡ id → (index' start' : ℕ) → index' ≡ length done → start' ≡ total
        → Walking id count (done ++ (c ∷ [])) (set seen c.setting.id true) (total + c.setting.size.0) index' start'
    walk_here e index' start' i j =
        walk_on index' start' (rw (← e, among_new done c new, index_new done c new) i) (rw (← e, among_new done c new, start_new done c new) (j ∙ w.total_is))

    pub walk_other : (c.setting.id ≡ id → ⊥) → (index' start' : ℕ) → index' ≡ index → start' ≡ start
        → Walking id count (done ++ (c ∷ [])) (set seen c.setting.id true) (total + c.setting.size.0) index' start'
    walk_other f index' start' i j =
        walk_on index' start' (rw (among_other done c new id f) (i ∙ w.index_is ∙ same_index (among id (ids done)) refl)) (rw (among_other done c new id f) (j ∙ w.start_is ∙ same_start (among id (ids done)) refl))
      where
        same_index : (b : Bool) → among id (ids done) ≡ b → cond b (index_of id (ids done)) count ≡ cond b (index_of id (ids (more done c new))) count
        same_index true t = sym (index_old done c new id t)
        same_index false t = refl

        same_start : (b : Bool) → among id (ids done) ≡ b
            → cond b (sizes (take (index_of id (ids done)) done)) 0 ≡ cond b (sizes (take (index_of id (ids (more done c new))) (more done c new))) 0
        same_start true t = sym (start_old done c new id t)
        same_start false t = refl

  -- the way out at a channel whose ID was there before
  module _ (cs rest : List Channel) (d : cs ≡ done ++ (c ∷ rest)) where
    pub walk_twice : get_or seen c.setting.id false ≡ true → unfit ≡ walked cs id
    unfolding walked channels_fit_under ids
    walk_twice e = rw (d, ids_join done (c ∷ rest), distinct_twice (ids done) (ids rest) c.setting.id (sym known ∙ e), and-false)

-- a channel outside the limits, whatever its ID
pub walk_unfit : (cs done rest : List Channel) (c : Channel) (id : ℕ) → cs ≡ done ++ (c ∷ rest) → channel_fits c ≡ false → unfit ≡ walked cs id
unfolding walked channels_fit_under all_fit_under
walk_unfit cs done rest c id d e = rw (d, all_join done (c ∷ rest), e, and-false)

-- ---- all are passed
module _ (id count : ℕ) (cs : List Channel) (seen : List Bool) (total index start : ℕ) (w : Walking id count cs seen total index start) where
  pub walk_none : get_or seen 0 false ≡ false → unfit ≡ walked cs id
  unfolding walked channels_fit_under
  walk_none e = rw (w.fit, w.apart, sym (w.seen_is 0 (omega arith)) ∙ e)

  pub walk_end : get_or seen 0 false ≡ true → count ≡ length cs → Some (record { total = record { 0 = total }; index = index; start = record { 0 = start } }) ≡ walked cs id
  unfolding walked channels_fit_under surveyed
  walk_end e l = rw (w.fit, w.apart, sym (w.seen_is 0 (omega arith)) ∙ e, w.total_is, w.start_is, place)
    where
      last : (b : Bool) → among id (ids cs) ≡ b → cond b (index_of id (ids cs)) count ≡ index_of id (ids cs)
      last true t = refl
      last false t = l ∙ sym (index_none id (ids cs) t ∙ ids_length cs)

      place : index ≡ index_of id (ids cs)
      place = w.index_is ∙ last (among id (ids cs)) refl

-- ---- the state's other limits, before the pass
module _ (s : State) (id : ℕ) where
  pub survey_few : length s.channels < FEWEST-CHANNELS → unfit ≡ survey_of s id
  unfolding survey_of state_fits_under
  survey_few h = rw (lt-leb FEWEST-CHANNELS (length s.channels) h)

  pub survey_many : MOST-CHANNELS < length s.channels → unfit ≡ survey_of s id
  unfolding survey_of state_fits_under
  survey_many h = rw (lt-leb (length s.channels) MOST-CHANNELS h, and-false)

  pub survey_head : head_fits s ≡ false → unfit ≡ survey_of s id
  unfolding survey_of state_fits_under
  survey_head e = rw (e, and-false)

  pub survey_walk : FEWEST-CHANNELS ≤ length s.channels → length s.channels ≤ MOST-CHANNELS → head_fits s ≡ true → walked s.channels id ≡ survey_of s id
  unfolding survey_of state_fits_under walked
  survey_walk some few e = rw (le-leb FEWEST-CHANNELS (length s.channels) some, le-leb (length s.channels) MOST-CHANNELS few, e)
