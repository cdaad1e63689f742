-- One packet of a handful offered, where 19 has been tested: the world that it leaves fits again. Assumes nothing.
use Rattle.std.specs.Prelude.{Result, Ok, Err}
use Prim.Native.Nat.{ℕ}
use mathlib.Core.Bool.{true, false, and-eq-true_iff}
use mathlib.Core.Logic.{⊎_elim}
use mathlib.Core.Path.{◌≡◌, sym, ◌∙◌}
use borrow.Author.Tests.{eqb-true}
use lib.ListN.{length}
use Rattle.facts.proofs.Tests.{clash}
use Rattle.quantity.specs.declared.count.ByteCount.{ByteCount}
use Rattle.quantity.specs.Refusals.{NO-CHANNEL, OUTSIDE-LIMITS}
use Rattle.ips_channel_rules.specs.Rules.{offer}
use Rattle.ips_state.specs.State.{State}
use Rattle.ips_state.specs.Limits.{sizes, state_fits}
use Rattle.ips_state.specs.Memory.{World, memory_fits, world_fits, is_configured}
use Rattle.ips_run.specs.Calling.{calling}
use Rattle.ips_run.specs.Run.{after_under}
use Rattle.ips_run.specs.Demand.{InOrder}
use Rattle.ips_run.proofs.Exact.{named, judged}
use Rattle.ips_run.proofs.Ordered.{in_order, order_fits, called_order}
use Rattle.ips_words.specs.Words.{state_in}
use Rattle.ips_words_survey.specs.declared.place.Found.{Found}
use Rattle.ips_words_survey.specs.Places.{place_of}
use Rattle.ips_words_survey.proofs.Finding.{Finds, place_found, place_refused}
use Rattle.endpoint.specs.Lent.{Lent, world_in, after_in}
use Rattle.endpoint.specs.Calls.{MovedAt}
use Rattle.endpoint.proofs.Simulating.{step_in}
use Rattle.handful.specs.Handful.{Offer, call_of}
use Rattle.handful.specs.Offering.{moved_in}

-- ---- what one offer leaves
pub after_is : (time : ℕ) (o : Offer) (l : Lent) → world_in (after_in (call_of time o) l) ≡ (calling o.id (offer o.packet time) (world_in l)).world
unfolding after_under
after_is time o l = step_in (call_of time o) tt l

-- "19 isn't tested again": it does not refuse what an offer leaves
pub after_order : (count time : ℕ) (o : Offer) (l : Lent) → InOrder count (world_in l) → InOrder count (world_in (after_in (call_of time o) l))
after_order count time o l order = rw (after_is time o l) (called_order count (world_in l) order o.id (offer o.packet time) (judged o.id (offer o.packet time) (world_in l)))

pub after_fits : (time : ℕ) (o : Offer) (l : Lent) → world_fits (world_in l) ≡ true → world_fits (world_in (after_in (call_of time o) l)) ≡ true
after_fits time o l fits = order_fits (after_order _ time o l (in_order (world_in l) fits))

-- ---- where its channel is
module _ (l : Lent) (fits : world_fits (world_in l) ≡ true) where
  abbrev s : State
  s = state_in l.words

  abbrev w : World
  w = world_in l

  parts : (state_fits s ≡ true) × (memory_fits s l.memory ≡ true)
  parts = (and-eq-true_iff (state_fits s) (memory_fits s l.memory)).0 fits

  pub state_fits_lem : state_fits s ≡ true
  state_fits_lem = parts.0

  memory_long : length l.memory ≡ sizes s.channels
  unfolding memory_fits
  memory_long = eqb-true (length l.memory) (sizes s.channels) parts.1

  module _ (id : ℕ) (place : Result Found ℕ) (is : place ≡ place_of s id (sizes s.channels)) where
    place_is : place_of s id (length l.memory) ≡ place
    place_is = rw memory_long (sym is)

    pub one_finds : (found : Found) → place ≡ Ok found → Finds w id found
    one_finds found e = place_found w id found (place_is ∙ e)

    pub one_lost : (number : ℕ) → place ≡ Err number → place_of s id (length l.memory) ≡ Err number
    one_lost number e = place_is ∙ e

    none_known : (number : ℕ) → place ≡ Err number → is_configured w id ≡ false
    none_known number e =
        ⊎_elim (λ (h : (world_fits w ≡ false) × (number ≡ OUTSIDE-LIMITS)). clash (sym h.0 ∙ fits))
        (λ (h : (world_fits w ≡ true) × (is_configured w id ≡ false) × (number ≡ NO-CHANNEL)). h.1)
        (place_refused w id number (one_lost number e))

-- ---- the bytes that it moves
module _ (l : Lent) (fits : world_fits (world_in l) ≡ true) (time : ℕ) (o : Offer) (place : Result Found ℕ) (is : place ≡ place_of (state_in l.words) o.id (sizes (state_in l.words).channels)) where
  pub one_moved : (found : Found) → place ≡ Ok found → (moved : ByteCount) → MovedAt (offer o.packet time) (world_in l) found.index moved
      → moved ≡ record { 0 = moved_in time o (world_in l) }
  unfolding moved_in
  one_moved found e moved h =
      let f = one_finds l fits o.id place is found e in
      h ∙ rw (named (world_in l) found.index o.id f.located.within f.named, f.at_index)

  pub one_still : (number : ℕ) → place ≡ Err number → ◌≡◌ {A = ByteCount} (record { 0 = 0 }) (record { 0 = moved_in time o (world_in l) })
  unfolding moved_in
  one_still number e = rw (none_known l fits o.id place is number e)
