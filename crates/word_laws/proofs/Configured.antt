-- What a start takes of a configuration's words is what they say, word by word; and how many words a state needs. Assumes nothing.
use Prim.Native.Nat.{ℕ, ◌+◌, ◌*◌, ◌≤◌, ◌<◌}
use mathlib.Core.Bool.{true, and-false, and-eq-true_iff}
use mathlib.Core.List.{List}
use mathlib.Core.Logic.{◌⊎◌, inl, inr}
use mathlib.Core.Path.{◌≡◌, ◌∙◌}
use native.Mathlib.Omega.{arith}
use borrow.Author.Tests.{le-leb, lt-leb}
use lib.ListN.{get_or}
use Rattle.quantity.specs.Limits.{FEWEST-CHANNELS, MOST-CHANNELS}
use Rattle.ips_state.specs.State.{start_at}
use Rattle.ips_state.specs.Limits.{configuration_fits}
use Rattle.ips_words_start.specs.Start.{start_with, start_in, configuration_of, configuration_readable, configuration_in, starts_in_under}
use Rattle.ips_words_start.specs.Exactly.{StartsExactly}
use Rattle.ips_words_start.proofs.Starts.{starts_length, starts_at}
use Rattle.ips_words_start.proofs.Beginning.{fits_readable}
use Rattle.ips_words_start.proofs.Exactly.{exactly_starts}
use Rattle.endpoint.specs.Shown.{words_needed}
use Rattle.word_laws.specs.ConfigurationSays.{ConfigurationSays}

module _ (w : List ℕ) (readable : configuration_readable w ≡ true) where
  said : configuration_in w ≡ configuration_of w
  unfolding configuration_in
  said = rw readable

  start_says : (i : ℕ) → i < get_or w 1 0
      → start_at (configuration_in w) i ≡ start_with (get_or w (5 + 4 * i) 0) (get_or w (5 + 4 * i + 1) 0) (get_or w (5 + 4 * i + 2) 0) (get_or w (5 + 4 * i + 3) 0)
  unfolding configuration_of start_in
  start_says i inside =
      let first : 5 + 4 * i + 0 ≡ 5 + 4 * i = omega arith in
      rw said (starts_at w (get_or w 1 0) i inside ∙ rw first)

  -- WHAT THE WORDS OF A CONFIGURATION SAY
  pub configuration_says : ConfigurationSays w (configuration_in w)
  unfolding configuration_of
  configuration_says = record {
    datalink = rw said;
    hello = rw said;
    limit = rw said;
    codes = rw said;
    many = rw said (starts_length w (get_or w 1 0));
    ids = λ i inside. rw (start_says i inside);
    plain = λ i inside zero. rw (start_says i inside, zero);
    controlled = λ i inside one. rw (start_says i inside, one);
    firsts = λ i inside. rw (start_says i inside);
    stores = λ i inside. rw (start_says i inside);
  }

-- of every configuration that a start takes
pub started_says : (w words memory : List ℕ) → StartsExactly w words memory → ConfigurationSays w (configuration_in w)
unfolding starts_in_under
started_says w words memory x = configuration_says w (fits_readable w ((and-eq-true_iff (configuration_fits (configuration_in w)) _).0 (exactly_starts w words memory x)).0)

-- ---- how many words a state of so many channels needs
pub needed_exactly : (n : ℕ) → (1 ≤ n → n ≤ 64 → words_needed n ≡ 14 + 74 * n) × ((n < 1) ⊎ (64 < n) → words_needed n ≡ 0)
unfolding words_needed
needed_exactly n = (λ some few. rw (le-leb FEWEST-CHANNELS n some, le-leb n MOST-CHANNELS few), none)
  where
    none : (n < 1) ⊎ (64 < n) → words_needed n ≡ 0
    none (inl h) = rw (lt-leb FEWEST-CHANNELS n h)
    none (inr h) = rw (lt-leb n MOST-CHANNELS h, and-false)
