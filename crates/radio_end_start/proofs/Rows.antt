-- Starts in numbers, each computed. Assumes nothing.
use Rattle.quantity.specs.declared.refusal.Refusal.{Refusal}
use Rattle.std.specs.Prelude.{Result, Ok, Err}
use Prim.Native.Nat.{ℕ}
use mathlib.Core.List.{List, [], ◌∷◌}
use mathlib.Core.Path.{◌≡◌}
use lib.ListN.{replicate}
use Rattle.facts.specs.Tables.{tabulate}
use Rattle.radio_end_state.specs.State.{fresh_state}
use Rattle.radio_end_state.specs.Limits.{up_to, index_of, has_id, ids_fit, settings_fit, setting_ids, allowances_fit, configuration_fits}
use Rattle.radio_end_words.specs.Words.{channel_words, slots_of, head_words, state_words}
use Rattle.radio_end_start.specs.Start.{setting_in, settings_of, configuration_of, kinds_spelled, configuration_readable, blank_configuration, configuration_in, starts_in, StartedIn}

-- Datalink ID 7, two channels: 0 is plain, 3 is flow-controlled with the largest watermark
abbrev two : List ℕ
two = 7 ∷ 2 ∷ 0 ∷ 0 ∷ 1000 ∷ 500 ∷ 3 ∷ 1 ∷ 2147483647 ∷ 0 ∷ []

pub two_channels : {answer : Result (Unit {0}) Refusal} {words' : List ℕ} → StartedIn two (replicate 24 9) answer words'
    → (answer ≡ Ok tt)
    × (words' ≡ 7 ∷ 2 ∷ 0 ∷ 0 ∷ 0 ∷ 0 ∷ 0 ∷ 0 ∷ 0 ∷ 0 ∷ 1000 ∷ 500 ∷ 0 ∷ 0 ∷ 0 ∷ 0 ∷ 3 ∷ 1 ∷ 2147483647 ∷ 0 ∷ 0 ∷ 0 ∷ 0 ∷ 0 ∷ [])
unfolding tabulate fresh_state up_to index_of has_id ids_fit settings_fit setting_ids allowances_fit configuration_fits channel_words slots_of head_words state_words setting_in settings_of configuration_of kinds_spelled configuration_readable blank_configuration configuration_in starts_in
two_channels s = (s.answer_is, s.words_are)

-- 23 for a plain channel's throughput, though 19 would refuse nothing; the words stay
pub plain_large : {answer : Result (Unit {0}) Refusal} {words' : List ℕ} → StartedIn (7 ∷ 1 ∷ 0 ∷ 0 ∷ 1000 ∷ 2147483648 ∷ []) (replicate 16 9) answer words'
    → (answer ≡ Err (record { number = 23; place = 0 })) × (words' ≡ replicate 16 9)
unfolding tabulate fresh_state up_to index_of has_id ids_fit settings_fit setting_ids allowances_fit configuration_fits channel_words slots_of head_words state_words setting_in settings_of configuration_of kinds_spelled configuration_readable blank_configuration configuration_in starts_in
plain_large s = (s.answer_is, s.words_are)

-- 19 before 23: ID 255, and a watermark above the largest
pub outside_first : {answer : Result (Unit {0}) Refusal} {words' : List ℕ} → StartedIn (7 ∷ 2 ∷ 0 ∷ 0 ∷ 2147483648 ∷ 0 ∷ 255 ∷ 1 ∷ 0 ∷ 0 ∷ []) (replicate 24 9) answer words'
    → (answer ≡ Err (record { number = 19; place = 0 })) × (words' ≡ replicate 24 9)
unfolding tabulate fresh_state up_to index_of has_id ids_fit settings_fit setting_ids allowances_fit configuration_fits channel_words slots_of head_words state_words setting_in settings_of configuration_of kinds_spelled configuration_readable blank_configuration configuration_in starts_in
outside_first s = (s.answer_is, s.words_are)
