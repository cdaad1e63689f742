-- The pass over a configuration's channels. Assumes nothing.
use Prim.Native.Nat.{ℕ, ◌+◌, ◌<◌}
use mathlib.Core.Bool.{Bool, true, false, ◌&&◌, and-false, and-eq-true_iff}
use mathlib.Core.List.{List}
use mathlib.Core.Path.{◌≡◌, refl, sym, ap, ◌∙◌}
use native.Mathlib.Omega.{arith}
use lib.Dec.{leb, ltb}
use lib.ListN.{length, get_or}
use Rattle.quantity.specs.Limits.{RESERVED-CHANNEL}
use Rattle.radio_end_state.specs.declared.channel.Setting.{Setting}
use Rattle.radio_end_state.specs.State.{no_setting}
use Rattle.radio_end_state.specs.Limits.{up_to, ids_fit, setting_fits, settings_fit, setting_ids}
use Rattle.radio_end_state.proofs.UpTo.{up_to_by, up_to_out}
use Rattle.radio_end_words.specs.Words.{CONTROLLED, word}
use Rattle.std.proofs.Math.Bool.{and_assoc}
use Rattle.lent_messages.proofs.Saying.{and_on, and_off}
use lib.Seq.{ext_get_or}
use Rattle.radio_end_words.specs.Rows.{Rows}
use Rattle.radio_end_words.specs.Rows as rows
use Rattle.radio_end_words.proofs.Numbered as numbered
use Rattle.radio_end_start.specs.Start.{CONFIGURATION-HEAD, CONFIGURATION-SLOT, START-ID, START-KIND, configuration_length, start_word, setting_in, settings_of, kinds_spelled, walked, Configured}
use Rattle.radio_end_start.proofs.Settings.{settings_length, numbers_length, settings_at, number_at}

-- what one channel has to pass, but for its ID's place
abbrev pub said_in : List ℕ → ℕ → Bool
said_in w i = leb (start_word w i START-KIND) CONTROLLED && ltb (start_word w i START-ID) RESERVED-CHANNEL

module _ (w : List ℕ) (count : ℕ) where
  abbrev settings : List Setting
  settings = settings_of w count

  abbrev numbers : List ℕ
  numbers = setting_ids settings

  pub fits_at : (i : ℕ) → i < count → setting_fits (get_or settings i no_setting) ≡ ltb (start_word w i START-ID) RESERVED-CHANNEL
  unfolding setting_in
  fits_at i h = rw (settings_at w count i h)

  pub all_said : ((i : ℕ) → i < count → said_in w i ≡ true) → (kinds_spelled w count && settings_fit settings) ≡ true
  unfolding kinds_spelled settings_fit
  all_said each =
      let two = λ (i : ℕ) (h : i < count). (and-eq-true_iff (leb (start_word w i START-KIND) CONTROLLED) (ltb (start_word w i START-ID) RESERVED-CHANNEL)).0 (each i h) in
      let spells : up_to (λ i. leb (start_word w i START-KIND) CONTROLLED) count ≡ true = up_to_by (λ i. leb (start_word w i START-KIND) CONTROLLED) count (λ i h. (two i h).0) in
      let fit : up_to (λ i. setting_fits (get_or settings i no_setting)) (length settings) ≡ true =
      up_to_by (λ i. setting_fits (get_or settings i no_setting)) (length settings) (λ i h. let low : i < count = omega (arith, settings_length w count) in fits_at i low ∙ (two i low).1) in
      rw (spells, fit)

  pub one_unsaid : (i : ℕ) → i < count → said_in w i ≡ false → (kinds_spelled w count && settings_fit settings) ≡ false
  unfolding kinds_spelled settings_fit
  one_unsaid i h e = go (leb (start_word w i START-KIND) CONTROLLED) refl
    where
      go : (b : Bool) → leb (start_word w i START-KIND) CONTROLLED ≡ b → (kinds_spelled w count && settings_fit settings) ≡ false
      go false f = rw (up_to_out (λ k. leb (start_word w k START-KIND) CONTROLLED) count i h f)
      go true f =
          let unfit : ltb (start_word w i START-ID) RESERVED-CHANNEL ≡ false = rw f at e in
          let all : up_to (λ k. setting_fits (get_or settings k no_setting)) (length settings) ≡ false = up_to_out (λ k. setting_fits (get_or settings k no_setting)) (length settings) i (omega (arith, settings_length w count)) (fits_at i h ∙ unfit) in
          rw (all, and-false)

  -- the channels stand in rows
  pub in_rows : Configured w count → Rows CONFIGURATION-HEAD CONFIGURATION-SLOT w count
  in_rows c = record { long = c.long; some = omega arith; few = c.few }

  pub numbers_are : rows.numbers CONFIGURATION-HEAD CONFIGURATION-SLOT w count ≡ numbers
  numbers_are =
      ext_get_or 0 (rows.numbers CONFIGURATION-HEAD CONFIGURATION-SLOT w count) numbers (numbered.numbers_length CONFIGURATION-HEAD CONFIGURATION-SLOT w count ∙ sym (numbers_length w count))
      (λ i h.
      let low : i < count = omega (arith, numbered.numbers_length CONFIGURATION-HEAD CONFIGURATION-SLOT w count) in
      let first : configuration_length i + START-ID ≡ configuration_length i = omega arith in
      numbered.number_at CONFIGURATION-HEAD CONFIGURATION-SLOT w count i low ∙ sym (number_at w count i low ∙ ap (word w) first))

  pub walked_is : (a b : Bool) → a ≡ (kinds_spelled w count && settings_fit settings) → b ≡ ids_fit (rows.numbers CONFIGURATION-HEAD CONFIGURATION-SLOT w count) → a ≡ true → b ≡ walked w count
  unfolding walked
  walked_is a b said first e =
      rw (← and_assoc (kinds_spelled w count) (settings_fit settings) (ids_fit numbers)) (and_on _ _ _ _ said e (first ∙ ap ids_fit numbers_are))

  pub unwalked : (a : Bool) → a ≡ (kinds_spelled w count && settings_fit settings) → a ≡ false → a ≡ walked w count
  unfolding walked
  unwalked a said e = rw (← and_assoc (kinds_spelled w count) (settings_fit settings) (ids_fit numbers)) (and_off _ _ _ said e)
