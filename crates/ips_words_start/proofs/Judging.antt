-- The pass over a configuration's words: what holds before a channel, where it starts, goes on and ends; then the tests before it. Assumes nothing.
use Prim.Native.Nat.{ℕ, suc, ◌+◌, ◌*◌, ◌≤◌, ◌<◌}
use mathlib.Core.Bool.{Bool, true, false, cond, ◌&&◌, and-false, and-eq-true_iff}
use mathlib.Core.List.{List, [], ◌∷◌, ◌++◌, map}
use mathlib.Core.Logic.{⊎_elim}
use mathlib.Core.Path.{◌≡◌, refl, sym, ◌∙◌}
use native.Mathlib.Numerals.{add-one}
use native.Mathlib.Omega.{arith}
use borrow.Author.Tests.{le-leb, lt-ltb, le-ltb, eq-eqb, ne_eqb}
use lib.ListN.{length, get_or, take, drop, set, replicate, length-append, length-replicate, length-set, get_or-replicate}
use lib.Seq.{take_all, length-take-le, get_or-set_same, get_or-set_other}
use Rattle.std.specs.Prelude.{Option, Some}
use Rattle.quantity.specs.declared.count.ByteCount.{ByteCount}
use Rattle.quantity.specs.Limits.{FEWEST-CHANNELS, MOST-CHANNELS, LARGEST-STORE, CHANNEL-IDS}
use Rattle.meaning.specs.Kinds.{among}
use Rattle.ips_state.specs.State.{ChannelStart, fresh_of, blank_configuration}
use Rattle.ips_state.specs.Limits.{setting_fits, starts_fit, start_ids, distinct, sizes, count_fits, configuration_fits_under, configuration_fits}
use Rattle.ips_state.proofs.Channels.{same_or_not, among_first, among_later, among_join, distinct_more, distinct_twice}
use Rattle.ips_words.specs.Words.{word}
use Rattle.ips_words_start.specs.Start.{CONFIGURATION-HEAD, CONFIGURED-DATALINK, CONFIGURED-CODES, CONFIGURED-COUNT, START-ID, START-KIND, START-FIRST, START-SIZE, configuration_length, start_word, start_in, starts_of, start_spelled, starts_spelled, start_fits_of, configuration_of, configuration_readable, configuration_in, unfit, judged_by, together_fit, walked, judged_of}
use Rattle.ips_words_start.proofs.Starts.{starts_length, upcoming, one_more, starts_join, start_ids_join, stores_more, setting_fit, spelled_at}

-- ---- where the starts `done` are passed
pub record Walking (done : List ChannelStart) (seen : List Bool) (total : ℕ) : Type 0 where
  pub full : length seen ≡ CHANNEL-IDS
  pub fit : starts_fit done ≡ true
  pub apart : distinct (start_ids done) ≡ true
  pub seen_is : (k : ℕ) → k < CHANNEL-IDS → get_or seen k false ≡ among k (start_ids done)
  pub total_is : total ≡ sizes (map fresh_of done)
  pub most : total ≤ LARGEST-STORE * length done

walk_start : Walking [] (replicate CHANNEL-IDS false) 0
unfolding starts_fit start_ids distinct sizes
walk_start = record { full = length-replicate CHANNEL-IDS false; fit = refl; apart = refl; seen_is = λ k h. get_or-replicate CHANNEL-IDS k false false h; total_is = refl; most = omega arith }

module _ (done : List ChannelStart) (seen : List Bool) (total : ℕ) (v : Walking done seen total) (k : ChannelStart) (fits : setting_fits k.setting ≡ true) where
  abbrev id : ℕ
  id = k.setting.id

  known : get_or seen id false ≡ among id (start_ids done)
  known = v.seen_is id (omega (arith, (setting_fit k.setting fits).unreserved))

  -- one start more, whose ID is new
  module _ (unseen : get_or seen id false ≡ false) where
    ids_more : start_ids (done ++ (k ∷ [])) ≡ start_ids done ++ (id ∷ [])
    unfolding start_ids
    ids_more = start_ids_join done (k ∷ [])

    among_more : (n : ℕ) → among n (start_ids (done ++ (k ∷ []))) ≡ cond (among n (start_ids done)) true (among n (id ∷ []))
    among_more n = rw (ids_more, among_join n (start_ids done) (id ∷ []))

    truth : (b : Bool) → cond b true false ≡ b
    truth true = refl
    truth false = refl

    seen_more : (n : ℕ) → n < CHANNEL-IDS → get_or (set seen id true) n false ≡ among n (start_ids (done ++ (k ∷ [])))
    seen_more n h =
        ⊎_elim (λ (e : id ≡ n). rw (among_more n, ← e, get_or-set_same seen id true false (omega (arith, v.full)), sym known ∙ unseen, among_first id id [] refl))
        (λ (f : id ≡ n → ⊥). rw (among_more n, among_later n id [] f, truth (among n (start_ids done))) (get_or-set_other seen id n true false (λ e. f (sym e)) ∙ v.seen_is n h))
        (same_or_not id n)

    walk_on : Walking (done ++ (k ∷ [])) (set seen id true) (total + k.setting.size.0)
    unfolding starts_fit
    walk_on = record {
      full = simp length-set v.full;
      fit = starts_join done (k ∷ []) ∙ rw (v.fit, fits);
      apart = rw ids_more (distinct_more (start_ids done) id v.apart (sym known ∙ unseen));
      seen_is = seen_more;
      total_is = rw (stores_more done k, v.total_is);
      most = simp length-append (omega (arith, v.most, (setting_fit k.setting fits).largest));
    }

  -- an ID twice
  walk_twice : (starts rest : List ChannelStart) → starts ≡ done ++ (k ∷ rest) → get_or seen id false ≡ true → together_fit starts ≡ false
  unfolding together_fit start_ids
  walk_twice starts rest d e =
      rw (d, start_ids_join done (k ∷ rest), distinct_twice (start_ids done) (start_ids rest) id (sym known ∙ e), and-false)

-- a channel outside the limits, whatever its ID
walk_unfit : (starts done rest : List ChannelStart) (k : ChannelStart) → starts ≡ done ++ (k ∷ rest) → setting_fits k.setting ≡ false → together_fit starts ≡ false
unfolding together_fit starts_fit
walk_unfit starts done rest k d e = rw (d, starts_join done (k ∷ rest), e, and-false)

-- ---- the pass over the words
pub record Judging (w : List ℕ) (count : ℕ) (seen : List Bool) (total at : ℕ) : Type 0 where
  pub inside : at ≤ count
  pub spell : starts_spelled w at ≡ true
  pub walking : Walking (take at (starts_of w count)) seen total

-- a judgement that is not "fits"
out : (fits : Bool) (starts : List ChannelStart) → fits ≡ false → unfit ≡ judged_by fits starts
unfolding judged_by
out fits starts e = rw e

module _ (w : List ℕ) (count : ℕ) where
  pub judge_start : Judging w count (replicate CHANNEL-IDS false) 0 0
  unfolding starts_spelled
  judge_start = record { inside = omega arith; spell = refl; walking = walk_start }

  module _ (seen : List Bool) (total at : ℕ) (v : Judging w count seen total at) where
    passed : length (take at (starts_of w count)) ≡ at
    passed = length-take-le at (starts_of w count) (omega (arith, starts_length w count, v.inside))

    pub judge_most : total ≤ LARGEST-STORE * at
    judge_most = omega (arith, v.walking.most, passed)

    -- ---- one channel
    module _ (inside : at < count) (id kind first size : ℕ) (id_is : id ≡ start_word w at START-ID) (kind_is : kind ≡ start_word w at START-KIND)
        (first-is : first ≡ start_word w at START-FIRST) (size_is : size ≡ start_word w at START-SIZE) where
      judged_here : start_fits_of id kind first size ≡ (start_spelled (start_word w at START-KIND) (start_word w at START-FIRST) && setting_fits (start_in w at).setting)
      unfolding start_in
      judged_here = rw (id_is, kind_is, first-is, size_is)

      pub out_unfit : start_fits_of id kind first size ≡ false → unfit ≡ walked w count
      unfolding walked
      out_unfit f = go (starts_spelled w count) refl
        where
          bad : starts_spelled w count ≡ true → setting_fits (start_in w at).setting ≡ false
          bad e = sym (sym f ∙ judged_here ∙ rw (spelled_at w count at inside e))

          go : (b : Bool) → starts_spelled w count ≡ b → unfit ≡ judged_by (b && together_fit (starts_of w count)) (starts_of w count)
          go false e = out false (starts_of w count) refl
          go true e = out (together_fit (starts_of w count)) (starts_of w count) (walk_unfit (starts_of w count) (take at (starts_of w count)) (drop (suc at) (starts_of w count)) (start_in w at) (upcoming w count at inside) (bad e))

      module _ (good : start_fits_of id kind first size ≡ true) where
        parts : (start_spelled (start_word w at START-KIND) (start_word w at START-FIRST) ≡ true) × (setting_fits (start_in w at).setting ≡ true)
        parts = (and-eq-true_iff _ _).0 (sym judged_here ∙ good)

        pub id_small : id < CHANNEL-IDS
        unfolding start_in
        id_small = omega (arith, id_is, (setting_fit (start_in w at).setting parts.1).unreserved)

        pub out_twice : get_or seen id false ≡ true → unfit ≡ walked w count
        unfolding walked start_in
        out_twice e =
            out _ (starts_of w count)
            (rw (walk_twice (take at (starts_of w count)) seen total v.walking (start_in w at) parts.1 (starts_of w count) _ (upcoming w count at inside) (rw id_is at e), and-false))

        pub judge_on : get_or seen id false ≡ false → Judging w count (set seen id true) (total + size) (at + 1)
        unfolding starts_spelled start_in
        judge_on e = record {
          inside = omega arith;
          spell = rw (add-one at, v.spell, parts.0);
          walking = rw (one_more w count at inside, id_is, size_is) (walk_on (take at (starts_of w count)) seen total v.walking (start_in w at) parts.1 (rw id_is at e));
        }

    -- ---- all are passed
    module _ (over : count ≤ at) where
      all_walked : Walking (starts_of w count) seen total
      all_walked = rw (take_all at (starts_of w count) (omega (arith, starts_length w count))) at v.walking

      all_spelled_lem : starts_spelled w count ≡ true
      all_spelled_lem = let e : at ≡ count = omega (arith, v.inside) in rw e at v.spell

      pub out_none : get_or seen 0 false ≡ false → unfit ≡ walked w count
      unfolding walked together_fit
      out_none e = out _ _ (rw (all_spelled_lem, all_walked.fit, all_walked.apart, sym (all_walked.seen_is 0 (omega arith)) ∙ e))

      pub judge_end : get_or seen 0 false ≡ true → ◌≡◌ {A = Option ByteCount} (Some (record { 0 = total })) (walked w count)
      unfolding walked together_fit judged_by
      judge_end e = rw (all_spelled_lem, all_walked.fit, all_walked.apart, sym (all_walked.seen_is 0 (omega arith)) ∙ e, all_walked.total_is)

-- ---- the tests before the pass
module _ (w : List ℕ) where
  pub unfit_judged : configuration_fits (configuration_in w) ≡ false → unfit ≡ judged_of w
  unfolding judged_of
  unfit_judged e = out (configuration_fits (configuration_in w)) (configuration_in w).starts e

  pub unreadable : configuration_readable w ≡ false → configuration_fits (configuration_in w) ≡ false
  unfolding configuration_in blank_configuration configuration_fits_under
  unreadable e = rw e

  pub says : configuration_readable w ≡ true → configuration_in w ≡ configuration_of w
  unfolding configuration_in
  says e = rw e

  module _ (count : ℕ) (is : count ≡ word w CONFIGURED-COUNT) where
    other_length : (length w ≡ configuration_length count → ⊥) → configuration_readable w ≡ false
    unfolding configuration_readable
    other_length f = rw (← is, ne_eqb (length w) (configuration_length count) f)

    pub judge_short : length w < CONFIGURATION-HEAD → unfit ≡ judged_of w
    judge_short h = unfit_judged (unreadable (other_length (λ (e : length w ≡ configuration_length count). omega arith)))

    pub judge_long : (length w ≡ configuration_length count → ⊥) → unfit ≡ judged_of w
    judge_long f = unfit_judged (unreadable (other_length f))

    other_datalink : 256 ≤ word w CONFIGURED-DATALINK → configuration_readable w ≡ false
    unfolding configuration_readable
    other_datalink h = rw (le-ltb (word w CONFIGURED-DATALINK) 256 h, and-false)

    pub judge_datalink : 256 ≤ word w CONFIGURED-DATALINK → unfit ≡ judged_of w
    judge_datalink h = unfit_judged (unreadable (other_datalink h))

    other_codes : 256 ≤ word w CONFIGURED-CODES → configuration_readable w ≡ false
    unfolding configuration_readable
    other_codes h = rw (le-ltb (word w CONFIGURED-CODES) 256 h, and-false, and-false)

    pub judge_codes : 256 ≤ word w CONFIGURED-CODES → unfit ≡ judged_of w
    judge_codes h = unfit_judged (unreadable (other_codes h))

    pub counted : configuration_readable w ≡ true → configuration_fits (configuration_in w) ≡ (count_fits count && together_fit (starts_of w count))
    unfolding configuration_fits_under configuration_of together_fit
    counted e = rw (says e, ← is, starts_length w count)

    pub judge_count : count_fits count ≡ false → unfit ≡ judged_of w
    judge_count f = unfit_judged (go (configuration_readable w) refl)
      where
        go : (b : Bool) → configuration_readable w ≡ b → configuration_fits (configuration_in w) ≡ false
        go false e = unreadable e
        go true e = counted e ∙ rw f

    module _ (long : length w ≡ configuration_length count) (datalink : word w CONFIGURED-DATALINK < 256) (codes : word w CONFIGURED-CODES < 256) (some : FEWEST-CHANNELS ≤ count) (few : count ≤ MOST-CHANNELS) where
      spelled_readable : configuration_readable w ≡ starts_spelled w count
      unfolding configuration_readable
      spelled_readable = rw (← is, eq-eqb (length w) (configuration_length count) long, lt-ltb (word w CONFIGURED-DATALINK) 256 datalink, lt-ltb (word w CONFIGURED-CODES) 256 codes)

      in_range : count_fits count ≡ true
      in_range = rw (le-leb FEWEST-CHANNELS count some, le-leb count MOST-CHANNELS few)

      judged_spelled : starts_spelled w count ≡ true → judged_by (together_fit (starts_of w count)) (starts_of w count) ≡ judged_of w
      unfolding judged_of configuration_of
      judged_spelled e = let readable = spelled_readable ∙ e in rw (counted readable, in_range, says readable, is)

      pub judge_walk : walked w count ≡ judged_of w
      unfolding walked
      judge_walk = go (starts_spelled w count) refl
        where
          go : (b : Bool) → starts_spelled w count ≡ b → judged_by (b && together_fit (starts_of w count)) (starts_of w count) ≡ judged_of w
          go false e = sym (out false (starts_of w count) refl) ∙ unfit_judged (unreadable (spelled_readable ∙ e))
          go true e = judged_spelled e
