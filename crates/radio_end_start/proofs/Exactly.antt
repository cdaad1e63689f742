-- Each answer of a start exactly when `AnswersExactly` says so, fact by fact; what a start is made of and leaves; and that two outcomes coincide. Assumes nothing.
use Rattle.std.specs.Prelude.{Result, Ok, Err}
use Prim.Native.Nat.{ℕ, zero, suc, ◌+◌, ◌*◌, ◌≤◌, ◌<◌}
use mathlib.Core.Bool.{Bool, true, false, and-eq-true_iff}
use mathlib.Core.List.{List, [], ◌∷◌}
use mathlib.Core.Logic.{◌⊎◌, inl, inr, ⊎_elim}
use mathlib.Core.Path.{◌≡◌, refl, sym, ap, ◌∙◌}
use native.Mathlib.Omega.{arith}
use borrow.Author.Tests.{leb-true, ltb-true, eqb-true, le-leb, lt-ltb, eq-eqb}
use lib.Dec.{eqb, leb}
use lib.ListN.{length, get_or}
use Rattle.facts.proofs.Tests.{clash, by_le}
use Rattle.quantity.specs.Limits.{MOST-ALLOWANCE, RESERVED-CHANNEL}
use Rattle.quantity.specs.Refusals.{OUTSIDE-LIMITS, LARGE-ALLOWANCE}
use Rattle.quantity.specs.declared.refusal.Refusal.{Refusal}
use Rattle.radio_end_state.specs.declared.channel.Setting.{Setting}
use Rattle.radio_end_state.specs.State.{no_setting, fresh_state}
use Rattle.radio_end_state.specs.Limits.{up_to, index_of, has_id, stands_first, ids_fit, setting_fits, allowance_fits, settings_fit, setting_ids, allowances_fit, configuration_fits, state_fits}
use Rattle.radio_end_state.proofs.UpTo.{up_to_at, up_to_by}
use Rattle.radio_end_words.specs.Words.{CONTROLLED, word, words_for, state_words, state_in}
use Rattle.radio_end_start.specs.Start.{CONFIGURED-COUNT, START-KIND, start_word, setting_in, settings_of, configuration_of, kinds_spelled, configuration_in, walked, starts_in, not_started, StartedIn}
use Rattle.radio_end_start.specs.Exactly.{StartsExactly, AllowancesExactly, LargeExactly, AnswersExactly, ConfigurationSays}
use Rattle.radio_end_start.proofs.Settings.{settings_length, settings_at, numbers_length, number_at}
use Rattle.radio_end_start.proofs.Walking.{fits_at}
use Rattle.radio_end_start.proofs.Looking.{says, in_walk}
use Rattle.radio_end_start.proofs.Allowing.{allowed_in, allowed_at_lem}
use Rattle.radio_end_start.proofs.Beginning.{Fitting, fitting, readable_parts, fits_readable, settings_are, count_is, few_are, configuration_long, id_below}
use Rattle.radio_end_start.proofs.Standing.{fresh_fits, fresh_said}

-- ---- the first place of a number in a list
found : (id : ℕ) (ns : List ℕ) → index_of id ns < length ns → get_or ns (index_of id ns) 0 ≡ id
unfolding index_of
found id [] h = absurd (omega arith)
found id (n ∷ ns) h = go (eqb n id) refl (λ l. found id ns l)
  where
    go : (b : Bool) → eqb n id ≡ b → (index_of id ns < length ns → get_or ns (index_of id ns) 0 ≡ id) → get_or (n ∷ ns) (index_of id (n ∷ ns)) 0 ≡ id
    go true e later = rw e (eqb-true n id e)
    go false e later =
        let inside : suc (index_of id ns) < suc (length ns) = rw e at h in
        rw e (later (omega arith))

first_below : (ns : List ℕ) (i : ℕ) → i < length ns → index_of (get_or ns i 0) ns ≤ i
unfolding index_of
first_below [] i h = absurd (omega arith)
first_below (n ∷ ns) zero h = rw (eq-eqb n n refl) (omega arith)
first_below (n ∷ ns) (suc i) h = go (eqb n (get_or ns i 0)) refl (first_below ns i (omega arith))
  where
    go : (b : Bool) → eqb n (get_or ns i 0) ≡ b → index_of (get_or ns i 0) ns ≤ i → index_of (get_or (n ∷ ns) (suc i) 0) (n ∷ ns) ≤ suc i
    go true e low = rw e (omega arith)
    go false e low = rw e (omega arith)

-- a test that fails for some number below another
record Failing (test : ℕ → Bool) (n : ℕ) : Type 0 where
  place : ℕ
  inside : place < n
  fails : test place ≡ false

up_to_fails : (test : ℕ → Bool) (n : ℕ) → up_to test n ≡ false → Failing test n
unfolding up_to
up_to_fails test zero e = clash (sym e)
up_to_fails test (suc n) e = go (test n) (up_to test n) refl refl (λ g. up_to_fails test n g)
  where
    go : (a b : Bool) → test n ≡ a → up_to test n ≡ b → (up_to test n ≡ false → Failing test n) → Failing test (suc n)
    go false b f g earlier = record { place = n; inside = omega arith; fails = f }
    go true true f g earlier = clash (sym e ∙ rw (g, f))
    go true false f g earlier = let less = earlier g in record { place = less.place; inside = omega (arith, less.inside); fails = less.fails }

abbrev numbered : Result (Unit {0}) Refusal → ℕ
numbered (Ok tt) = 0
numbered (Err refusal) = refusal.number

-- what a start that is not refused leaves
pub record StartLeaves (w words' : List ℕ) : Type 0 where
  pub words_are : words' ≡ state_words (fresh_state (configuration_in w))
  pub state_is : state_in words' ≡ fresh_state (configuration_in w)
  pub state_fits_lem : state_fits (state_in words') ≡ true

module _ (w words : List ℕ) where
  abbrev number : ℕ
  number = word w CONFIGURED-COUNT

  abbrev numbers : List ℕ
  numbers = setting_ids (settings_of w number)

  id_here : (i : ℕ) → i < number → get_or numbers i 0 ≡ get_or w (2 + 4 * i) 0
  id_here i h =
      let none : 2 + 4 * i + 0 ≡ 2 + 4 * i = omega arith in
      rw none at (number_at w number i h)

  -- ---- 19: facts from the tests
  starts_parts : starts_in w words ≡ true → (configuration_fits (configuration_in w) ≡ true) × (length words ≡ words_for (length (configuration_in w).settings))
  unfolding starts_in
  starts_parts e = let a = (and-eq-true_iff (configuration_fits (configuration_in w)) _).0 e in (a.0, eqb-true _ _ a.1)

  module _ (fits : configuration_fits (configuration_in w) ≡ true) where
    facts : Fitting (configuration_in w)
    facts = fitting (configuration_in w) fits

    first_stands : (i : ℕ) → i < number → index_of (get_or numbers i 0) numbers ≡ i
    first_stands i h = eqb-true _ i (up_to_at (stands_first numbers) (length numbers) (rw (settings_are w fits) at facts.apart) i (omega (arith, numbers_length w number)))

    ids_apart : (i j : ℕ) → i < number → j < number → get_or w (2 + 4 * i) 0 ≡ get_or w (2 + 4 * j) 0 → i ≡ j
    ids_apart i j h l e = sym (first_stands i h) ∙ ap (λ (n : ℕ). index_of n numbers) (id_here i h ∙ e ∙ sym (id_here j l)) ∙ first_stands j l

    zero_inside : index_of 0 numbers < length numbers
    unfolding has_id
    zero_inside = ltb-true _ _ (rw (settings_are w fits) at facts.primary)

    kind_at : (i : ℕ) → i < number → start_word w i START-KIND ≤ 1
    unfolding kinds_spelled
    kind_at i h = leb-true _ CONTROLLED (up_to_at (λ index. leb (start_word w index START-KIND) CONTROLLED) number (readable_parts w (fits_readable w fits)).1 i h)

    datalink_below : get_or w 0 0 < 256
    unfolding configuration_of
    datalink_below = rw (says w (fits_readable w fits)) at facts.datalink

    id_low : (i : ℕ) → i < number → get_or w (2 + 4 * i) 0 < 255
    id_low i h = let none : 2 + 4 * i + 0 ≡ 2 + 4 * i = omega arith in rw none at (id_below w fits i h)

  starts_exactly : starts_in w words ≡ true → StartsExactly w words
  starts_exactly e =
      let fits = (starts_parts e).0 in
      let there : index_of 0 numbers < number = omega (arith, zero_inside fits, numbers_length w number) in
      record {
        long = configuration_long w fits;
        datalink = datalink_below fits;
        some = rw (count_is w fits) at (facts fits).some;
        few = few_are w fits;
        ids = id_low fits;
        kinds = kind_at fits;
        apart = ids_apart fits;
        primary = index_of 0 numbers;
        primary_inside = there;
        primary_is = sym (id_here (index_of 0 numbers) there) ∙ found 0 numbers (zero_inside fits);
        room = (starts_parts e).1 ∙ ap words_for (count_is w fits);
      }

  -- ---- what the words of a configuration within the limits say
  module _ (fits : configuration_fits (configuration_in w) ≡ true) where
    said_at_lem : (i : ℕ) → i < number → get_or (configuration_in w).settings i no_setting ≡ setting_in w i
    said_at_lem i h = ap (λ (ks : List Setting). get_or ks i no_setting) (settings_are w fits) ∙ settings_at w number i h

    words_say_lem : ConfigurationSays w (configuration_in w)
    unfolding setting_in configuration_of
    words_say_lem = record {
      datalink = rw (says w (fits_readable w fits));
      many = count_is w fits;
      ids = λ i h. let none : 2 + 4 * i + 0 ≡ 2 + 4 * i = omega arith in rw (said_at_lem i h, none);
      plain = λ i h t. rw (said_at_lem i h, t);
      controlled = λ i h t. rw (said_at_lem i h, t);
      watermarks = λ i h. rw (said_at_lem i h);
      throughputs = λ i h. rw (said_at_lem i h);
    }

  -- ---- and the tests from facts
  module _ (x : StartsExactly w words) where
    setting_by : (i : ℕ) → i < length (settings_of w number) → setting_fits (get_or (settings_of w number) i no_setting) ≡ true
    setting_by i h =
        let inside : i < number = omega (arith, settings_length w number) in
        let none : 2 + 4 * i + 0 ≡ 2 + 4 * i = omega arith in
        fits_at w number i inside ∙ rw none (lt-ltb _ RESERVED-CHANNEL (x.ids i inside))

    first_by : (i : ℕ) → i < length numbers → stands_first numbers i ≡ true
    first_by i h =
        let inside : i < number = omega (arith, numbers_length w number) in
        let low : index_of (get_or numbers i 0) numbers ≤ i = first_below numbers i h in
        let there : index_of (get_or numbers i 0) numbers < number = omega arith in
        eq-eqb _ i (x.apart (index_of (get_or numbers i 0) numbers) i there inside (sym (id_here (index_of (get_or numbers i 0) numbers) there) ∙ found (get_or numbers i 0) numbers (omega (arith, numbers_length w number)) ∙ id_here i inside))

    zero_by : has_id 0 numbers ≡ true
    unfolding has_id
    zero_by =
        let is : get_or numbers x.primary 0 ≡ 0 = id_here x.primary x.primary_inside ∙ x.primary_is in
        let low : index_of 0 numbers ≤ x.primary = rw is at (first_below numbers x.primary (omega (arith, numbers_length w number, x.primary_inside))) in
        lt-ltb (index_of 0 numbers) (length numbers) (omega (arith, numbers_length w number, x.primary_inside))

    walked_by : walked w number ≡ true
    unfolding walked kinds_spelled settings_fit ids_fit
    walked_by =
        rw (up_to_by (λ index. leb (start_word w index START-KIND) CONTROLLED) number (λ i h. le-leb _ CONTROLLED (x.kinds i h)), up_to_by (λ index. setting_fits (get_or (settings_of w number) index no_setting)) (length (settings_of w number)) setting_by, up_to_by (stands_first numbers) (length numbers) first_by, zero_by)

    fits_by : configuration_fits (configuration_in w) ≡ true
    fits_by = sym (in_walk w number refl x.long x.some x.few x.datalink) ∙ walked_by

    exactly_starts : starts_in w words ≡ true
    unfolding starts_in
    exactly_starts = rw (fits_by, count_is w fits_by, eq-eqb (length words) (words_for number) x.room)

  -- ---- 23, of words that say a configuration
  module _ (starts : starts_in w words ≡ true) where
    allowances_are : allowances_fit (configuration_in w).settings ≡ allowances_fit (settings_of w number)
    allowances_are = ap allowances_fit (settings_are w (starts_parts starts).0)

    allowances_exactly : allowances_fit (configuration_in w).settings ≡ true → AllowancesExactly w
    unfolding allowances_fit
    allowances_exactly e = record { watermarks = λ i h. leb-true _ MOST-ALLOWANCE (both i h).0; throughputs = λ i h. leb-true _ MOST-ALLOWANCE (both i h).1 }
      where
        both : (i : ℕ) → i < number → (leb (get_or w (2 + 4 * i + 2) 0) MOST-ALLOWANCE ≡ true) × (leb (get_or w (2 + 4 * i + 3) 0) MOST-ALLOWANCE ≡ true)
        both i h =
            (and-eq-true_iff (leb (get_or w (2 + 4 * i + 2) 0) MOST-ALLOWANCE) (leb (get_or w (2 + 4 * i + 3) 0) MOST-ALLOWANCE)).0
            (sym (allowed_at_lem w number i h) ∙ up_to_at (λ index. allowance_fits (get_or (settings_of w number) index no_setting)) (length (settings_of w number)) (sym allowances_are ∙ e) i (omega (arith, settings_length w number)))

    exactly_allowances : AllowancesExactly w → allowances_fit (configuration_in w).settings ≡ true
    unfolding allowances_fit
    exactly_allowances x = allowances_are ∙ up_to_by (λ index. allowance_fits (get_or (settings_of w number) index no_setting)) (length (settings_of w number)) each
      where
        each : (i : ℕ) → i < length (settings_of w number) → allowance_fits (get_or (settings_of w number) i no_setting) ≡ true
        each i h =
            let inside : i < number = omega (arith, settings_length w number) in
            allowed_at_lem w number i inside ∙ rw (le-leb (get_or w (2 + 4 * i + 2) 0) MOST-ALLOWANCE (x.watermarks i inside), le-leb (get_or w (2 + 4 * i + 3) 0) MOST-ALLOWANCE (x.throughputs i inside))

    large_exactly : allowances_fit (configuration_in w).settings ≡ false → LargeExactly w
    unfolding allowances_fit
    large_exactly e =
        let f = up_to_fails (λ index. allowance_fits (get_or (settings_of w number) index no_setting)) (length (settings_of w number)) (sym allowances_are ∙ e) in
        let inside : f.place < number = omega (arith, f.inside, settings_length w number) in
        record { channel = f.place; inside = inside; large = either f.place (sym (allowed_at_lem w number f.place inside) ∙ f.fails) }
      where
        either : (i : ℕ) → allowed_in w i ≡ false → (2147483647 < get_or w (2 + 4 * i + 2) 0) ⊎ (2147483647 < get_or w (2 + 4 * i + 3) 0)
        either i g = by_le (get_or w (2 + 4 * i + 2) 0) 2147483647 (λ (h : get_or w (2 + 4 * i + 2) 0 ≤ 2147483647).
            by_le (get_or w (2 + 4 * i + 3) 0) 2147483647 (λ (l : get_or w (2 + 4 * i + 3) 0 ≤ 2147483647). clash (sym g ∙ rw (le-leb (get_or w (2 + 4 * i + 2) 0) MOST-ALLOWANCE h, le-leb (get_or w (2 + 4 * i + 3) 0) MOST-ALLOWANCE l))) inr) inl

    exactly_large : LargeExactly w → allowances_fit (configuration_in w).settings ≡ false
    exactly_large x = go (allowances_fit (configuration_in w).settings) refl
      where
        go : (b : Bool) → allowances_fit (configuration_in w).settings ≡ b → b ≡ false
        go false e = refl
        go true e =
            let all = allowances_exactly e in
            absurd (⊎_elim (λ (h : 2147483647 < get_or w (2 + 4 * x.channel + 2) 0). omega (arith, all.watermarks x.channel x.inside)) (λ (h : 2147483647 < get_or w (2 + 4 * x.channel + 3) 0). omega (arith, all.throughputs x.channel x.inside)) x.large)

  -- ---- of the call: started, 23 and 19, each exactly when
  module _ {answer : Result (Unit {0}) Refusal} {words' : List ℕ} (started : StartedIn w words answer words') where
    by_way : {X : Type 0} → (starts_in w words ≡ true → allowances_fit (configuration_in w).settings ≡ true → answer ≡ Ok tt → X)
        → (starts_in w words ≡ true → allowances_fit (configuration_in w).settings ≡ false → answer ≡ not_started LARGE-ALLOWANCE → X)
        → (starts_in w words ≡ false → answer ≡ not_started OUTSIDE-LIMITS → X) → X
    by_way {X = X} begins large outside = go (starts_in w words) (allowances_fit (configuration_in w).settings) refl refl
      where
        go : (a b : Bool) → starts_in w words ≡ a → allowances_fit (configuration_in w).settings ≡ b → X
        go true true e f = begins e f (started.answer_is ∙ rw (e, f))
        go true false e f = large e f (started.answer_is ∙ rw (e, f))
        go false b e f = outside e (started.answer_is ∙ rw e)

    -- two answers with other numbers
    apart_answers : {X : Type 0} (a b : Result (Unit {0}) Refusal) → answer ≡ a → answer ≡ b → (numbered a ≡ numbered b → ⊥) → X
    apart_answers a b e f g = absurd (g (ap numbered (sym e ∙ f)))

    pub start_exactly : AnswersExactly w words answer
    start_exactly = record {
      started = λ e. by_way (λ s t a. (starts_exactly s, allowances_exactly s t)) (λ s t a. apart_answers _ _ e a (λ n. omega arith)) (λ s a. apart_answers _ _ e a (λ n. omega arith));
      starts = λ x y. started.answer_is ∙ rw (exactly_starts x, exactly_allowances (exactly_starts x) y);
      large = λ e. by_way (λ s t a. apart_answers _ _ e a (λ n. omega arith)) (λ s t a. (starts_exactly s, large_exactly s t)) (λ s a. apart_answers _ _ e a (λ n. omega arith));
      larges = λ x y. started.answer_is ∙ rw (exactly_starts x, exactly_large (exactly_starts x) y);
      outside = λ e x. by_way (λ s t a. apart_answers _ _ e a (λ n. omega arith)) (λ s t a. apart_answers _ _ e a (λ n. omega arith)) (λ s a. clash (sym s ∙ exactly_starts x));
      outsides = λ f. by_way (λ s t a. absurd (f (starts_exactly s))) (λ s t a. absurd (f (starts_exactly s))) (λ s a. a);
    }

    -- what a start leaves, and that a refusal is 19 or 23 and leaves every word
    pub started_leaves : answer ≡ Ok tt → StartLeaves w words'
    started_leaves e = by_way left (λ s t a. apart_answers _ _ e a (λ n. omega arith)) (λ s a. apart_answers _ _ e a (λ n. omega arith))
      where
        left : starts_in w words ≡ true → allowances_fit (configuration_in w).settings ≡ true → answer ≡ Ok tt → StartLeaves w words'
        left s t a =
            let words_are : words' ≡ state_words (fresh_state (configuration_in w)) = rw (s, t) at started.words_are in
            let state_is : state_in words' ≡ fresh_state (configuration_in w) = rw words_are (fresh_said (configuration_in w)) in
            record { words_are = words_are; state_is = state_is; state_fits_lem = rw state_is (fresh_fits (configuration_in w) (starts_parts s).0 t) }

    -- and the configuration that it is made of
    pub start_says : answer ≡ Ok tt → ConfigurationSays w (configuration_in w)
    start_says e = by_way (λ s t a. words_say_lem (starts_parts s).0) (λ s t a. apart_answers _ _ e a (λ n. omega arith)) (λ s a. apart_answers _ _ e a (λ n. omega arith))

    pub refused_leaves : (refusal : Refusal) → answer ≡ Err refusal
        → ((refusal ≡ record { number = OUTSIDE-LIMITS; place = 0 }) ⊎ (refusal ≡ record { number = LARGE-ALLOWANCE; place = 0 })) × (words' ≡ words)
    refused_leaves refusal e =
        by_way (λ s t a. let yes : Ok tt ≡ Err refusal = sym a ∙ e in clash (cc)) (λ s t a. (inr (cc), started.words_are ∙ rw (s, t))) (λ s a. (inl (cc), started.words_are ∙ rw s))

-- ANY TWO OUTCOMES THAT THE CONTRACT ALLOWS COINCIDE
pub starts_coincide : {w words words' words'' : List ℕ} {answer answer' : Result (Unit {0}) Refusal} → StartedIn w words answer words' → StartedIn w words answer' words'' → (answer ≡ answer') × (words' ≡ words'')
starts_coincide h k = (h.answer_is ∙ sym k.answer_is, h.words_are ∙ sym k.words_are)
