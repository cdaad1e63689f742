-- A start is not refused by 19 exactly where `StartsExactly` says so, and not by 22 where `WaitsExactly` does, fact by fact; and what it leaves. Assumes nothing.
use Rattle.std.specs.Prelude.{Result, Ok, Err}
use Prim.Native.Nat.{ℕ, zero, suc, ◌+◌, ◌*◌, ◌^◌, ◌≤◌, ◌<◌}
use mathlib.Core.Bool.{Bool, true, false, ◌&&◌, and-false, and-eq-true_iff}
use mathlib.Core.List.{List, [], ◌∷◌, map}
use mathlib.Core.Logic.{◌⊎◌, inl, inr, ⊎_elim}
use mathlib.Core.Path.{◌≡◌, refl, sym, ap, ◌∙◌}
use native.Mathlib.Numerals.{add-one}
use native.Mathlib.Omega.{arith}
use borrow.Author.Tests.{leb-true, ltb-true, eqb-true, le-leb, lt-ltb, eq-eqb}
use lib.Dec.{eqb, leb, ltb}
use lib.ListN.{length, get_or, take, replicate, length-map, get_or-map}
use lib.Seq.{take_all}
use Rattle.facts.proofs.Tests.{clash, by_le}
use Rattle.quantity.specs.Limits.{FEWEST-CHANNELS, MOST-CHANNELS}
use Rattle.quantity.specs.Refusals.{OUTSIDE-LIMITS, NO-WAIT}
use Rattle.quantity.specs.declared.refusal.Refusal.{Refusal}
use Rattle.meaning.specs.Kinds.{among}
use Rattle.ips_state.specs.State.{ChannelStart, no_start, fresh_of, fresh_state}
use Rattle.ips_state.specs.Limits.{setting_fits, starts_fit, start_ids, distinct, sizes, index_of, configuration_fits, waits_fit}
use Rattle.ips_state.specs.Memory.{memory_fits}
use Rattle.ips_state.proofs.Channels.{StandsAt, stands_among, index_stands, distinct_index, distinct_by}
use Rattle.ips_words.specs.Words.{CONTROLLED, word, words_for, state_in}
use Rattle.ips_words_start.specs.Start.{CONFIGURED-DATALINK, CONFIGURED-COUNT, CONFIGURED-CODES, START-KIND, START-FIRST, configuration_length, start_word, start_in, starts_of, starts_spelled, configuration_of, configuration_readable, configuration_in, fresh_words, starts_in_under, starts_in, not_started, StartedIn, together_fit}
use Rattle.ips_words_start.specs.Exactly.{stores_in, StartsExactly, WaitsExactly}
use Rattle.ips_words_start.proofs.Starts.{starts_length, starts_at, one_more, stores_more, setting_fit, starts_fit_at, spelled_at, first_at}
use Rattle.ips_words_start.proofs.Judging.{says, counted}
use Rattle.ips_words_start.proofs.Beginning.{said, fits_readable, starts_are, count_is}
use Rattle.ips_words_start.proofs.FreshWords.{fresh_in_words}

module _ (w : List ℕ) (count : ℕ) where
  -- ---- the IDs and the stores by their places
  ids_long : length (start_ids (starts_of w count)) ≡ count
  unfolding start_ids
  ids_long = length-map (starts_of w count) _ ∙ starts_length w count

  id_at_lem : (i : ℕ) → i < count → get_or (start_ids (starts_of w count)) i 0 ≡ get_or w (5 + 4 * i) 0
  unfolding start_ids start_in
  id_at_lem i h =
      let none : 5 + 4 * i + 0 ≡ 5 + 4 * i = omega arith in
      get_or-map (λ (k : ChannelStart). k.setting.id) (starts_of w count) i no_start ∙ rw (starts_at w count i h, none)

  stores_to : (n : ℕ) → n ≤ count → sizes (map fresh_of (take n (starts_of w count))) ≡ stores_in w n
  unfolding sizes stores_in start_in
  stores_to zero h = refl
  stores_to (suc n) h = rw (← add-one n, one_more w count n (omega arith), stores_more (take n (starts_of w count)) (start_in w n), stores_to n (omega arith))

  stores_all : sizes (map fresh_of (starts_of w count)) ≡ stores_in w count
  stores_all = rw (← take_all count (starts_of w count) (omega (arith, starts_length w count))) (stores_to count (omega arith))

  -- ---- facts from the tests
  module _ (together : together_fit (starts_of w count) ≡ true) where
    parts : (starts_fit (starts_of w count) ≡ true) × (distinct (start_ids (starts_of w count)) ≡ true) × (among 0 (start_ids (starts_of w count)) ≡ true)
    unfolding together_fit
    parts = let a = (and-eq-true_iff (starts_fit (starts_of w count)) _).0 together in let b = (and-eq-true_iff (distinct (start_ids (starts_of w count))) _).0 a.1 in (a.0, b.0, b.1)

    setting_at : (i : ℕ) → i < count → setting_fits (start_in w i).setting ≡ true
    setting_at i h = rw (starts_at w count i h) at (starts_fit_at (starts_of w count) i (omega (arith, starts_length w count)) parts.0)

    id_below : (i : ℕ) → i < count → get_or w (5 + 4 * i) 0 < 255
    unfolding start_in
    id_below i h = let none : 5 + 4 * i + 0 ≡ 5 + 4 * i = omega arith in rw none at (setting_fit (start_in w i).setting (setting_at i h)).unreserved

    size_within : (i : ℕ) → i < count → (1500 ≤ get_or w (5 + 4 * i + 3) 0) × (get_or w (5 + 4 * i + 3) 0 ≤ 65536)
    unfolding start_in
    size_within i h = let f = setting_fit (start_in w i).setting (setting_at i h) in (f.smallest, f.largest)

    ids_apart : (i j : ℕ) → i < count → j < count → get_or w (5 + 4 * i) 0 ≡ get_or w (5 + 4 * j) 0 → i ≡ j
    ids_apart i j h l e =
        sym (distinct_index (start_ids (starts_of w count)) (get_or w (5 + 4 * i) 0) i parts.1 (record { inside = omega (arith, ids_long); is = id_at_lem i h }))
        ∙ distinct_index (start_ids (starts_of w count)) (get_or w (5 + 4 * i) 0) j parts.1 (record { inside = omega (arith, ids_long); is = id_at_lem j l ∙ sym e })

    primary_stands : StandsAt 0 (start_ids (starts_of w count)) (index_of 0 (start_ids (starts_of w count)))
    primary_stands = index_stands 0 (start_ids (starts_of w count)) parts.2

-- ---- the tests from facts
spelled_by : (w : List ℕ) (n : ℕ) → ((i : ℕ) → i < n → start_word w i START-KIND ≤ CONTROLLED) → ((i : ℕ) → i < n → start_word w i START-FIRST < 2 ^ 32) → starts_spelled w n ≡ true
unfolding starts_spelled
spelled_by w zero kinds firsts = refl
spelled_by w (suc n) kinds firsts =
    rw (spelled_by w n (λ i h. kinds i (omega arith)) (λ i h. firsts i (omega arith)), le-leb _ _ (kinds n (omega arith)), lt-ltb _ _ (firsts n (omega arith)))

starts_fit_by : (ks : List ChannelStart) → ((i : ℕ) → i < length ks → setting_fits (get_or ks i no_start).setting ≡ true) → starts_fit ks ≡ true
unfolding starts_fit
starts_fit_by [] h = refl
starts_fit_by (k ∷ ks) h = rw (h 0 (omega arith), starts_fit_by ks (λ i l. h (suc i) (omega arith)))

abbrev numbered : Result (Unit {0}) Refusal → ℕ
numbered (Ok tt) = 0
numbered (Err refusal) = refusal.number

-- what a start that is not refused leaves
pub record StartLeaves (w memory words' memory' : List ℕ) : Type 0 where
  pub configuration_fits_lem : configuration_fits (configuration_in w) ≡ true
  pub waits_fit_lem : waits_fit (configuration_in w) ≡ true
  pub memory_long : length memory ≡ sizes (fresh_state (configuration_in w)).channels
  pub words_are : words' ≡ fresh_words (configuration_in w)
  pub state_is : state_in words' ≡ fresh_state (configuration_in w)
  pub zeros : memory' ≡ replicate (length memory) 0

module _ (w words memory : List ℕ) where
  abbrev number : ℕ
  number = word w CONFIGURED-COUNT

  pub starts_exactly : starts_in w words memory ≡ true → StartsExactly w words memory
  unfolding starts_in_under memory_fits fresh_state
  starts_exactly e =
      let a = (and-eq-true_iff (configuration_fits (configuration_in w)) _).0 e in
      let b = (and-eq-true_iff (eqb (length memory) (sizes (map fresh_of (configuration_in w).starts))) _).0 a.1 in
      let readable = fits_readable w a.0 in
      let s = said w readable in
      let d = (and-eq-true_iff (leb FEWEST-CHANNELS number && leb number MOST-CHANNELS) _).0 (sym (counted w number refl readable) ∙ a.0) in
      let f = (and-eq-true_iff (leb FEWEST-CHANNELS number) _).0 d.0 in
      let there = primary_stands w number d.1 in
      record {
        long = s.long;
        datalink = s.datalink;
        codes = s.codes;
        some = leb-true _ _ f.0;
        few = leb-true _ _ f.1;
        ids = id_below w number d.1;
        kinds = λ i h. leb-true _ _ ((and-eq-true_iff (leb (start_word w i START-KIND) CONTROLLED) _).0 (spelled_at w number i h s.spelled)).0;
        firsts = λ i h. first_at w number i h s.spelled;
        smallest = λ i h. (size_within w number d.1 i h).0;
        largest = λ i h. (size_within w number d.1 i h).1;
        apart = ids_apart w number d.1;
        primary = index_of 0 (start_ids (starts_of w number));
        primary_inside = omega (arith, there.inside, ids_long w number);
        primary_is = sym (id_at_lem w number (index_of 0 (start_ids (starts_of w number))) (omega (arith, there.inside, ids_long w number))) ∙ there.is;
        stores = eqb-true _ _ b.0 ∙ ap (λ ks. sizes (map fresh_of ks)) (starts_are w a.0) ∙ stores_all w number;
        room = eqb-true _ _ b.1 ∙ ap words_for (count_is w a.0);
      }

  module _ (x : StartsExactly w words memory) where
    readable_by : configuration_readable w ≡ true
    unfolding configuration_readable
    readable_by = rw (eq-eqb (length w) (configuration_length number) x.long, lt-ltb (word w CONFIGURED-DATALINK) 256 x.datalink, lt-ltb (word w CONFIGURED-CODES) 256 x.codes, spelled_by w number x.kinds x.firsts)

    setting_by : (i : ℕ) → i < length (starts_of w number) → setting_fits (get_or (starts_of w number) i no_start).setting ≡ true
    unfolding start_in
    setting_by i h =
        let inside : i < number = omega (arith, starts_length w number) in
        let none : 5 + 4 * i + 0 ≡ 5 + 4 * i = omega arith in
        rw (starts_at w number i inside, none, lt-ltb _ _ (x.ids i inside), le-leb _ _ (x.smallest i inside), le-leb _ _ (x.largest i inside))

    together_by : together_fit (starts_of w number) ≡ true
    unfolding together_fit
    together_by = rw (starts_fit_by (starts_of w number) setting_by, distinct_by (start_ids (starts_of w number)) alone, stands_among 0 (start_ids (starts_of w number)) x.primary first)
      where
        alone : (i j : ℕ) → i < length (start_ids (starts_of w number)) → j < length (start_ids (starts_of w number)) → get_or (start_ids (starts_of w number)) i 0 ≡ get_or (start_ids (starts_of w number)) j 0 → i ≡ j
        alone i j h l e =
            let a : i < number = omega (arith, ids_long w number) in
            let b : j < number = omega (arith, ids_long w number) in
            x.apart i j a b (sym (id_at_lem w number i a) ∙ e ∙ id_at_lem w number j b)

        first : StandsAt 0 (start_ids (starts_of w number)) x.primary
        first = record { inside = omega (arith, x.primary_inside, ids_long w number); is = id_at_lem w number x.primary x.primary_inside ∙ x.primary_is }

    fits_by : configuration_fits (configuration_in w) ≡ true
    fits_by = counted w number refl readable_by ∙ rw (le-leb FEWEST-CHANNELS number x.some, le-leb number MOST-CHANNELS x.few, together_by)

    pub exactly_starts : starts_in w words memory ≡ true
    unfolding starts_in_under memory_fits fresh_state
    exactly_starts =
        rw (fits_by, starts_are w fits_by, starts_length w number, stores_all w number, eq-eqb (length memory) (stores_in w number) x.stores, eq-eqb (length words) (words_for number) x.room)

  starts_parts : starts_in w words memory ≡ true → (configuration_fits (configuration_in w) ≡ true) × (length memory ≡ sizes (fresh_state (configuration_in w)).channels)
  unfolding starts_in_under memory_fits
  starts_parts e =
      let a = (and-eq-true_iff (configuration_fits (configuration_in w)) _).0 e in
      let b = (and-eq-true_iff (eqb (length memory) (sizes (fresh_state (configuration_in w)).channels)) _).0 a.1 in
      (a.0, eqb-true _ _ b.0)

  -- ---- the two waits, of words that say a configuration
  module _ (starts : starts_in w words memory ≡ true) where
    waits_are : waits_fit (configuration_in w) ≡ (ltb 0 (get_or w 2 0) && ltb 0 (get_or w 3 0))
    unfolding configuration_of
    waits_are = rw (says w (fits_readable w (starts_parts starts).0))

    waits_exactly : waits_fit (configuration_in w) ≡ true → WaitsExactly w
    waits_exactly e =
        let a = (and-eq-true_iff (ltb 0 (get_or w 2 0)) (ltb 0 (get_or w 3 0))).0 (sym waits_are ∙ e) in
        record { hello = ltb-true 0 (get_or w 2 0) a.0; limit = ltb-true 0 (get_or w 3 0) a.1 }

    exactly_waits : WaitsExactly w → waits_fit (configuration_in w) ≡ true
    exactly_waits x = waits_are ∙ rw (lt-ltb 0 (get_or w 2 0) x.hello, lt-ltb 0 (get_or w 3 0) x.limit)

    wait_missing : waits_fit (configuration_in w) ≡ false → (get_or w 2 0 ≡ 0) ⊎ (get_or w 3 0 ≡ 0)
    wait_missing e = by_le (get_or w 2 0) 0 (λ (h : get_or w 2 0 ≤ 0). inl (omega arith)) (λ (h : 0 < get_or w 2 0).
        by_le (get_or w 3 0) 0 (λ (l : get_or w 3 0 ≤ 0). inr (omega arith)) (λ (l : 0 < get_or w 3 0). clash (sym e ∙ exactly_waits (record { hello = h; limit = l }))))

    missing_wait : (get_or w 2 0 ≡ 0) ⊎ (get_or w 3 0 ≡ 0) → waits_fit (configuration_in w) ≡ false
    missing_wait =
        ⊎_elim (λ (e : get_or w 2 0 ≡ 0). waits_are ∙ rw e) (λ (e : get_or w 3 0 ≡ 0). waits_are ∙ rw (e, and-false))

  -- ---- of the call: started, 22 and 19, each exactly when
  module _ {answer : Result (Unit {0}) Refusal} {words' memory' : List ℕ} (started : StartedIn w words memory answer words' memory') where
    by_way : {X : Type 0} → (starts_in w words memory ≡ true → waits_fit (configuration_in w) ≡ true → answer ≡ Ok tt → X)
        → (starts_in w words memory ≡ true → waits_fit (configuration_in w) ≡ false → answer ≡ not_started NO-WAIT → X)
        → (starts_in w words memory ≡ false → answer ≡ not_started OUTSIDE-LIMITS → X) → X
    by_way {X = X} begins no_wait outside = go (starts_in w words memory) (waits_fit (configuration_in w)) refl refl
      where
        go : (a b : Bool) → starts_in w words memory ≡ a → waits_fit (configuration_in w) ≡ b → X
        go true true e f = begins e f (started.answer_is ∙ rw (e, f))
        go true false e f = no_wait e f (started.answer_is ∙ rw (e, f))
        go false b e f = outside e (started.answer_is ∙ rw e)

    -- two answers with other numbers
    apart_answers : {X : Type 0} (a b : Result (Unit {0}) Refusal) → answer ≡ a → answer ≡ b → (numbered a ≡ numbered b → ⊥) → X
    apart_answers a b e f g = absurd (g (ap numbered (sym e ∙ f)))

    pub started_exactly : (answer ≡ Ok tt → StartsExactly w words memory × WaitsExactly w) × (StartsExactly w words memory → WaitsExactly w → answer ≡ Ok tt)
    started_exactly = (
      λ e. by_way (λ s t a. (starts_exactly s, waits_exactly s t)) (λ s t a. apart_answers _ _ e a (λ n. omega arith)) (λ s a. apart_answers _ _ e a (λ n. omega arith)),
      λ x y. started.answer_is ∙ rw (exactly_starts x, exactly_waits (exactly_starts x) y),
    )

    pub no_wait_exactly : (answer ≡ Err (record { number = 22; place = 0 }) → StartsExactly w words memory × ((get_or w 2 0 ≡ 0) ⊎ (get_or w 3 0 ≡ 0)))
        × (StartsExactly w words memory → (get_or w 2 0 ≡ 0) ⊎ (get_or w 3 0 ≡ 0) → answer ≡ Err (record { number = 22; place = 0 }))
    no_wait_exactly = (
      λ e. by_way (λ s t a. apart_answers _ _ e a (λ n. omega arith)) (λ s t a. (starts_exactly s, wait_missing s t)) (λ s a. apart_answers _ _ e a (λ n. omega arith)),
      λ x y. started.answer_is ∙ rw (exactly_starts x, missing_wait (exactly_starts x) y),
    )

    pub outside_exactly : (answer ≡ Err (record { number = 19; place = 0 }) → StartsExactly w words memory → ⊥)
        × ((StartsExactly w words memory → ⊥) → answer ≡ Err (record { number = 19; place = 0 }))
    outside_exactly = (
      λ e x. by_way (λ s t a. apart_answers _ _ e a (λ n. omega arith)) (λ s t a. apart_answers _ _ e a (λ n. omega arith)) (λ s a. clash (sym s ∙ exactly_starts x)),
      λ f. by_way (λ s t a. absurd (f (starts_exactly s))) (λ s t a. absurd (f (starts_exactly s))) (λ s a. a),
    )

    -- what a start leaves, and that a refusal is 19 or 22 and leaves every word and byte
    pub started_leaves : answer ≡ Ok tt → StartLeaves w memory words' memory'
    started_leaves e = by_way left (λ s t a. apart_answers _ _ e a (λ n. omega arith)) (λ s a. apart_answers _ _ e a (λ n. omega arith))
      where
        left : starts_in w words memory ≡ true → waits_fit (configuration_in w) ≡ true → answer ≡ Ok tt → StartLeaves w memory words' memory'
        left s t a =
            let fits = starts_parts s in
            let words_are : words' ≡ fresh_words (configuration_in w) = rw (s, t) at started.words_are in
            record {
              configuration_fits_lem = fits.0;
              waits_fit_lem = t;
              memory_long = fits.1;
              words_are = words_are;
              state_is = rw words_are (fresh_in_words w);
              zeros = rw (s, t) at started.memory_is;
            }

    pub refused_leaves : (refusal : Refusal) → answer ≡ Err refusal
        → ((refusal ≡ record { number = OUTSIDE-LIMITS; place = 0 }) ⊎ (refusal ≡ record { number = NO-WAIT; place = 0 })) × (words' ≡ words) × (memory' ≡ memory)
    refused_leaves refusal e =
        by_way (λ s t a. let yes : Ok tt ≡ Err refusal = sym a ∙ e in clash (cc)) (λ s t a. (inr (cc), started.words_are ∙ rw (s, t), started.memory_is ∙ rw (s, t))) (λ s a. (inl (cc), started.words_are ∙ rw s, started.memory_is ∙ rw s))
