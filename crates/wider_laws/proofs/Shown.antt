-- What is shown of words that fitted under the limits before. Assumes nothing.
use Rattle.std.specs.Prelude.{Ok, Err}
use Prim.Native.Nat.{ℕ}
use mathlib.Core.Bool.{true, false}
use mathlib.Core.Path.{◌≡◌}
use Rattle.meaning.specs.Kinds.{among}
use Rattle.ips_state.specs.State.{State, no_start, channel_at, fresh_of}
use Rattle.ips_state.specs.Limits.{ids, index_of, state_fits_under}
use Rattle.ips_words_survey.specs.Places.{found_at}
use Rattle.endpoint.specs.Shown.{shown_of, kept_of}
use Rattle.endpoint.proofs.Showing.{shown_twelve, shown_channel}
use Rattle.wider_laws.specs.Earlier.{EARLIER-LIMITS}
use Rattle.wider_laws.proofs.Widened.{widened_state}

module _ (s : State) (fits : state_fits_under EARLIER-LIMITS s ≡ true) where
  -- Link Instance and Context as they are kept
  pub widened_kept : kept_of s ≡ Ok (record { instance = s.instance; context = s.context })
  unfolding kept_of
  widened_kept = rw (widened_state s fits)

  -- a configured channel as it stands
  pub widened_shown : (id : ℕ) → among id (ids s.channels) ≡ true
      → let index = index_of id (ids s.channels) in shown_of s id ≡ record { place = Ok (found_at s index); channel = channel_at s index }
  widened_shown id known = shown_channel s id (widened_state s fits) known

  -- 12 where no channel has the ID, and no channel's numbers
  pub widened_unknown : (id : ℕ) → among id (ids s.channels) ≡ false → shown_of s id ≡ record { place = Err 12; channel = fresh_of no_start }
  widened_unknown id unknown = shown_twelve s id (widened_state s fits) unknown
