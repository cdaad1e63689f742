-- A fresh start: 19, then 22, "tested last in configuration". "A fresh start fills each store with zeros."
use Rattle.quantity.specs.declared.refusal.Refusal.{Refusal}
use Rattle.std.specs.Prelude.{ℕ, Bool, cond, ◌&&◌, List, ◌≡◌, length, replicate, eqb, Result, Ok, Err}
use Rattle.quantity.specs.Refusals.{OUTSIDE-LIMITS, NO-WAIT}
use Rattle.ips_state.specs.State.{Configuration, fresh_state}
use Rattle.ips_state.specs.Limits.{sizes, configuration_fits, waits_fit}
use Rattle.ips_state.specs.Memory.{World}

-- "the sum of the stores"
unfoldable pub stores_of : Configuration → ℕ
stores_of k = sizes (fresh_state k).channels

-- 19. `room`: what is lent for the state is as long as the configuration's channels ask
unfoldable pub start_fits_of : Configuration → (room : Bool) → List ℕ → Bool
start_fits_of k room memory = configuration_fits k && (eqb (length memory) (stores_of k) && room)

abbrev pub not_started : ℕ → Result (Unit {0}) Refusal
not_started number = Err (record { number = number; place = 0 })

abbrev pub start_answer : Configuration → (room : Bool) → List ℕ → Result (Unit {0}) Refusal
start_answer k room memory = cond (start_fits_of k room memory) (cond (waits_fit k) (Ok tt) (not_started NO-WAIT)) (not_started OUTSIDE-LIMITS)

abbrev pub starts : Configuration → (room : Bool) → List ℕ → Bool
starts k room memory = start_fits_of k room memory && waits_fit k

-- a refused start leaves the state and the memory that were lent, whatever they hold
abbrev pub started_world : Configuration → (room : Bool) → World → World
started_world k room w = cond (starts k room w.memory) (record { state = fresh_state k; memory = replicate (length w.memory) 0 }) w

-- A START AS IT SHOULD BE, on a state (the contract of the code, on words, is `StartedIn` of `ips_words_start`)
pub record Started (k : Configuration) (room : Bool) (w : World) (answer : Result (Unit {0}) Refusal) (w' : World) : Type 0 where
  pub answer_is : answer ≡ start_answer k room w.memory
  pub world_is : w' ≡ started_world k room w
