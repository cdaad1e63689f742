-- The ways out of a start on words. Assumes nothing.
use Rattle.quantity.specs.declared.refusal.Refusal.{Refusal}
use Rattle.std.specs.Prelude.{None, Some, Result, Ok}
use Prim.Native.Nat.{ℕ, ◌≤◌, ◌<◌}
use mathlib.Core.Bool.{Bool, true, false, and-false, and-eq-true_iff}
use mathlib.Core.List.{List, ◌++◌, map}
use mathlib.Core.Path.{◌≡◌, refl, sym, ap, ◌∙◌}
use native.Mathlib.Omega.{arith}
use borrow.Author.Tests.{leb-true, ltb-true, eqb-true, eq-eqb, ne_eqb}
use lib.Dec.{eqb, leb, ltb}
use lib.ListN.{length, replicate}
use Rattle.facts.proofs.Tests.{clash}
use Rattle.quantity.specs.Limits.{FEWEST-CHANNELS, MOST-CHANNELS, RESERVED-CHANNEL}
use Rattle.quantity.specs.Refusals.{OUTSIDE-LIMITS, NO-WAIT}
use Rattle.pacer.specs.Pacing.{fresh_pacer, pacer_fits}
use Rattle.ips_state.specs.State.{fresh_of, fresh_state}
use Rattle.ips_state.specs.Limits.{starts_fit, sizes, count_fits, configuration_fits_under, configuration_fits, waits_fit}
use Rattle.ips_state.specs.Memory.{memory_fits}
use Rattle.ips_words.specs.Words.{word, words_for}
use Rattle.quantity.specs.declared.count.ByteCount.{ByteCount}
use Rattle.ips_words_start.specs.Start.{CONFIGURED-DATALINK, CONFIGURED-COUNT, CONFIGURED-HELLO, CONFIGURED-LIMIT, CONFIGURED-CODES, START-ID, configuration_length, start_word, start_in, starts_of, starts_spelled, configuration_of, configuration_readable, configuration_in, head_words, slots_of, fresh_words, starts_in_under, starts_in, not_started, StartedIn, judged_by, judged_of, Startable}
use Rattle.ips_words_start.proofs.Starts.{starts_length, starts_at, setting_fit, starts_fit_at, first_at}
use Rattle.ips_words_start.proofs.Judging.{says, unreadable}

-- ---- what is known of words that say a configuration
pub record Said (w : List ℕ) : Type 0 where
  pub long : length w ≡ configuration_length (word w CONFIGURED-COUNT)
  pub datalink : word w CONFIGURED-DATALINK < 256
  pub codes : word w CONFIGURED-CODES < 256
  pub spelled : starts_spelled w (word w CONFIGURED-COUNT) ≡ true

pub said : (w : List ℕ) → configuration_readable w ≡ true → Said w
unfolding configuration_readable
said w e =
    let a = (and-eq-true_iff (eqb (length w) (configuration_length (word w CONFIGURED-COUNT))) _).0 e in
    let b = (and-eq-true_iff (ltb (word w CONFIGURED-DATALINK) 256) _).0 a.1 in
    let c = (and-eq-true_iff (ltb (word w CONFIGURED-CODES) 256) _).0 b.1 in
    record { long = eqb-true _ _ a.0; datalink = ltb-true _ _ b.0; codes = ltb-true _ _ c.0; spelled = c.1 }

module _ (w : List ℕ) where
  abbrev count : ℕ
  count = word w CONFIGURED-COUNT

  -- ---- what is known of one within the limits
  module _ (fits : configuration_fits (configuration_in w) ≡ true) where
    pub fits_readable : configuration_readable w ≡ true
    fits_readable = go (configuration_readable w) refl
      where
        go : (b : Bool) → configuration_readable w ≡ b → b ≡ true
        go true e = refl
        go false e = clash (sym (unreadable w e) ∙ fits)

    pub starts_are : (configuration_in w).starts ≡ starts_of w count
    unfolding configuration_of
    starts_are = rw (says w fits_readable)

    pub count_is : length (configuration_in w).starts ≡ count
    count_is = rw starts_are (starts_length w count)

    parts : (count_fits count ≡ true) × (starts_fit (starts_of w count) ≡ true)
    unfolding configuration_fits_under
    parts =
        let a = (and-eq-true_iff (count_fits (length (configuration_in w).starts)) _).0 fits in
        let b = (and-eq-true_iff (starts_fit (configuration_in w).starts) _).0 a.1 in
        (rw count_is at a.0, rw starts_are at b.0)

    pub counted_few : count ≤ MOST-CHANNELS
    counted_few = leb-true _ _ ((and-eq-true_iff (leb FEWEST-CHANNELS count) _).0 parts.0).1

    pub configuration_long : length w ≡ configuration_length count
    configuration_long = (said w fits_readable).long

    id_at_lem : (index : ℕ) → index < count → start_word w index START-ID < RESERVED-CHANNEL
    unfolding start_in
    id_at_lem index inside =
        (setting_fit (start_in w index).setting (rw (starts_at w count index inside) at (starts_fit_at (starts_of w count) index (omega (arith, starts_length w count)) parts.1))).unreserved

    pub startable : (counted : ℕ) → counted ≡ count → Startable w counted
    startable counted is = rw is record { long = configuration_long; few = counted_few; ids = id_at_lem; firsts = λ index inside. first_at w count index inside (said w fits_readable).spelled }

  judged_none : None ≡ judged_of w → configuration_fits (configuration_in w) ≡ false
  unfolding judged_of judged_by
  judged_none e = go (configuration_fits (configuration_in w)) refl
    where
      go : (b : Bool) → configuration_fits (configuration_in w) ≡ b → b ≡ false
      go true f = clash (cc (rw f at e))
      go false f = refl

  module _ (total : ByteCount) (is : Some total ≡ judged_of w) where
    pub judged_fits : configuration_fits (configuration_in w) ≡ true
    unfolding judged_of judged_by
    judged_fits = go (configuration_fits (configuration_in w)) refl
      where
        go : (b : Bool) → configuration_fits (configuration_in w) ≡ b → b ≡ true
        go true f = refl
        go false f = clash (cc (rw f at is))

    stores_are : total.0 ≡ sizes (fresh_state (configuration_in w)).channels
    unfolding judged_of judged_by fresh_state
    stores_are =
        let same : total ≡ record { 0 = sizes (map fresh_of (configuration_in w).starts) } = cc (rw judged_fits at is) in
        ap (λ (t : ByteCount). t.0) same

  -- ---- the ways out
  module _ (words memory : List ℕ) where
    refused_start : starts_in w words memory ≡ false → (r : Result (Unit {0}) Refusal) → r ≡ not_started OUTSIDE-LIMITS → StartedIn w words memory r words memory
    refused_start e r not-started = record { answer_is = not-started ∙ rw e; words_are = rw e; memory_is = rw e }

    pub begin_unfit : None ≡ judged_of w → (r : Result (Unit {0}) Refusal) → r ≡ not_started OUTSIDE-LIMITS → StartedIn w words memory r words memory
    unfolding starts_in_under
    begin_unfit e = refused_start (rw (judged_none e))

    module _ (total : ByteCount) (is : Some total ≡ judged_of w) where
      fits : configuration_fits (configuration_in w) ≡ true
      fits = judged_fits total is

      pub begin_memory : (total.0 ≡ length memory → ⊥) → (r : Result (Unit {0}) Refusal) → r ≡ not_started OUTSIDE-LIMITS → StartedIn w words memory r words memory
      unfolding starts_in_under memory_fits
      begin_memory f =
          refused_start (rw (ne_eqb (length memory) (sizes (fresh_state (configuration_in w)).channels) (λ e. f (stores_are total is ∙ sym e)), and-false))

      module _ (held : total.0 ≡ length memory) (counted : ℕ) (counted_is : counted ≡ count) where
        pub begin_words : (length words ≡ words_for counted → ⊥) → (r : Result (Unit {0}) Refusal) → r ≡ not_started OUTSIDE-LIMITS → StartedIn w words memory r words memory
        unfolding starts_in_under
        begin_words f =
            refused_start (rw (count_is fits, ne_eqb (length words) (words_for count) (λ e. f (e ∙ ap words_for (sym counted_is))), and-false, and-false))

        module _ (room : length words ≡ words_for counted) where
          starts : starts_in w words memory ≡ true
          unfolding starts_in_under memory_fits
          starts =
              rw (fits, count_is fits, eq-eqb (length memory) (sizes (fresh_state (configuration_in w)).channels) (sym held ∙ stores_are total is), eq-eqb (length words) (words_for count) (room ∙ ap words_for counted_is))

          words_fresh : head_words (word w CONFIGURED-DATALINK) count (word w CONFIGURED-HELLO) (word w CONFIGURED-LIMIT) (word w CONFIGURED-CODES) ++ slots_of (map fresh_of (starts_of w count)) ≡ fresh_words (configuration_in w)
          unfolding fresh_words configuration_of
          words_fresh = rw (count_is fits, says w (fits_readable fits))

          module _ (waits : Bool) (tested : waits ≡ pacer_fits (fresh_pacer (word w CONFIGURED-HELLO) (word w CONFIGURED-LIMIT))) where
            waits_are : waits_fit (configuration_in w) ≡ waits
            unfolding configuration_of
            waits_are = rw (says w (fits_readable fits)) (sym tested)

            pub begin_waits : waits ≡ false → (r : Result (Unit {0}) Refusal) → r ≡ not_started NO-WAIT → StartedIn w words memory r words memory
            begin_waits e r not-started =
                let none : waits_fit (configuration_in w) ≡ false = waits_are ∙ e in
                record { answer_is = not-started ∙ rw (starts, none); words_are = rw (starts, none); memory_is = rw (starts, none) }

            pub begun : waits ≡ true → (words' memory' : List ℕ)
                → words' ≡ head_words (word w CONFIGURED-DATALINK) counted (word w CONFIGURED-HELLO) (word w CONFIGURED-LIMIT) (word w CONFIGURED-CODES) ++ slots_of (map fresh_of (starts_of w counted))
                → memory' ≡ replicate (length memory) 0 → StartedIn w words memory (Ok tt) words' memory'
            begun e words' memory' written zeros =
                let both : waits_fit (configuration_in w) ≡ true = waits_are ∙ e in
                record {
                  answer_is = rw (starts, both);
                  words_are = rw (starts, both) (written ∙ rw counted_is words_fresh);
                  memory_is = rw (starts, both) zeros;
                }
