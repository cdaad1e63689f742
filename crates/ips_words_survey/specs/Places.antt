-- Where the code finds a channel and its store: 19, then 12.
use Rattle.std.specs.Prelude.{ℕ, ◌<◌, true, cond, not, ◌&&◌, ◌≡◌, eqb, length, Result, Ok, Err}
use Rattle.quantity.specs.Refusals.{NO-CHANNEL, OUTSIDE-LIMITS}
use Rattle.meaning.specs.Kinds.{among}
use Rattle.ips_state.specs.State.{State}
use Rattle.ips_state.specs.Limits.{ids, index_of, sizes, state_fits}
use Rattle.ips_state.specs.Memory.{start_of, World, world_fits}
use Rattle.ips_words_survey.specs.declared.place.Found.{Found}

abbrev pub found_at : State → ℕ → Found
found_at s index = record { index = index; start = start_of s index }

unfoldable pub place_of : State → ℕ → ℕ → Result Found ℕ
place_of s id size =
    cond (not (state_fits s && eqb size (sizes s.channels))) (Err OUTSIDE-LIMITS)
    (cond (not (among id (ids s.channels))) (Err NO-CHANNEL) (Ok (found_at s (index_of id (ids s.channels)))))

-- what has been tested where a channel was found
pub record Located (w : World) (found : Found) : Type 0 where
  pub fits : world_fits w ≡ true
  pub within : found.index < length w.state.channels
  pub starts : found.start ≡ start_of w.state found.index
