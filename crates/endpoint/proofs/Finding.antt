-- What the place of a channel says of a call. Assumes nothing.
use Rattle.std.specs.Prelude.{Err}
use Prim.Native.Nat.{ℕ}
use mathlib.Core.Bool.{true, false}
use mathlib.Core.Logic.{⊎_elim}
use mathlib.Core.Path.{◌≡◌}
use lib.ListN.{length}
use Rattle.quantity.specs.Refusals.{NO-CHANNEL, OUTSIDE-LIMITS}
use Rattle.ips_channel_rules.specs.Rules.{ChannelCall}
use Rattle.ips_state.specs.Memory.{World, world_fits, is_configured}
use Rattle.ips_run.specs.Calling.{refusing, at_channel, calling}
use Rattle.ips_run.proofs.Exact.{gives_configuration, gives_no_channel, serves_at}
use Rattle.ips_words_survey.specs.declared.place.Found.{Found}
use Rattle.ips_words_survey.specs.Places.{place_of}
use Rattle.ips_words_survey.proofs.Finding.{Finds, place_refused}

module _ (w : World) (id : ℕ) (c : ChannelCall) where
  pub calls_found : (found : Found) → Finds w id found → calling id c w ≡ at_channel c w found.index
  calls_found found f = serves_at id c w f.located.fits found.index f.located.within f.named

  pub calls_refused : (number : ℕ) → place_of w.state id (length w.memory) ≡ Err number → calling id c w ≡ refusing number w
  calls_refused number e =
      ⊎_elim (λ (h : (world_fits w ≡ false) × (number ≡ OUTSIDE-LIMITS)). rw h.1 (gives_configuration id c w h.0))
      (λ (h : (world_fits w ≡ true) × (is_configured w id ≡ false) × (number ≡ NO-CHANNEL)). rw h.2 (gives_no_channel id c w h.0 h.1))
      (place_refused w id number e)
