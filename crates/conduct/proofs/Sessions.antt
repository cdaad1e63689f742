-- Three sessions of channel 0 in literal numbers: one that passes, and the same with two faults that look right. Assumes nothing.
use Rattle.std.specs.Prelude.{Option, Some}
use Rattle.quantity.specs.declared.count.FlowSequence.{FlowSequence}
use mathlib.Core.Path.{◌≡◌, refl, sym, ◌∙◌}
use mathlib.Core.Bool.{true, false}
use mathlib.Core.List.{List, [], ◌∷◌}
use Prim.Native.Nat.{ℕ, ◌≤◌}
use native.Mathlib.Omega.{arith}
use Rattle.facts.proofs.Tests.{clash}
use Rattle.quantity.specs.declared.count.ByteCount.{ByteCount}
use Rattle.quantity.specs.Distance.{distance_of, fits_of}
use Rattle.meaning.specs.declared.message.Window.{Window}
use Rattle.conduct_rules.specs.declared.Flow.{Flow}
use Rattle.conduct_rules.specs.Rules.{obeys_within, obeys_of}
use Rattle.conduct_rules.proofs.Exactly.{obeys_is, is_obeyed}
use Rattle.conduct.specs.Outcomes.{control, packet}
use Rattle.conduct.specs.Account.{Numbered, ObeysUnder, Stands, here, later, Passing, Breached}
use Rattle.conduct.proofs.Lists.{none_stands, all_on, least_on, least_here}

-- the radio's control message of a record, with a Flow Window option for channel 0 or without; a data message of channel 0, of n bytes and with a sequence
abbrev hears : ℕ → Option Window → Numbered
hears number window = record { number = number; message = control (window ∷ []) }

abbrev sends : (number n sequence : ℕ) → Numbered
sends number n sequence = record { number = number; message = packet 0 (record { 0 = n }) (Some (record { 0 = sequence })) }

abbrev given : ℕ → Option Window
given number = Some (Window.Given (record { 0 = number }))

module _ (flow : Flow) (base : Option FlowSequence) (bytes : ByteCount) (carried : Option FlowSequence) where
  keeps : obeys_of flow base bytes carried ≡ true → ObeysUnder 0 flow base (packet 0 bytes carried)
  keeps e own = obeys_is flow base bytes carried e

  breaks : obeys_of flow base bytes carried ≡ false → ObeysUnder 0 flow base (packet 0 bytes carried) → ⊥
  breaks e k = clash (sym e ∙ is_obeyed (k refl))

-- window 500 is ahead of 4294966960: 40 bytes go to 4294967000, 796 more to 500, and under window 540 another 40
pub across_the_wrap : Passing 0 (hears 1 (given 500) ∷ sends 2 40 4294967000 ∷ sends 4 796 500 ∷ hears 5 (given 540) ∷ sends 6 40 540 ∷ [])
unfolding obeys_within fits_of distance_of
across_the_wrap =
    all_on 0 _ _ _ _ tt
    (all_on 0 _ _ _ _ (keeps _ _ _ _ refl)
    (all_on 0 _ _ _ _ (keeps _ _ _ _ refl) (all_on 0 _ _ _ _ tt (all_on 0 _ _ _ _ (keeps _ _ _ _ refl) (none_stands _)))))

behind_it : {before : List Numbered} {m : Numbered} → Stands before m (hears 5 (given 540) ∷ sends 6 39 540 ∷ []) → 4 ≤ m.number
behind_it here = omega arith
behind_it (later here) = omega arith
behind_it {m = m} (later (later {before = before} x12)) = elim x12 [ ]

-- one byte more than fits, which plain numbers don't tell: 501 is far below 4294967000
pub past_the_window : Breached 0 (hears 1 (given 500) ∷ sends 2 40 4294967000 ∷ sends 4 797 501 ∷ hears 5 (given 540) ∷ sends 6 39 540 ∷ []) 4
unfolding obeys_within fits_of distance_of
past_the_window =
    least_on 0 _ _ _ _ tt
    (least_on 0 _ _ _ _ (keeps _ _ _ _ refl) (least_here 0 _ _ (sends 4 797 501) (hears 5 (given 540) ∷ sends 6 39 540 ∷ []) (breaks _ _ _ _ refl) (λ before m s. behind_it s)))

-- the radio withdraws the window, and it is used on
pub withdrawn_window : Breached 0 (hears 1 (given 500) ∷ sends 2 40 4294967000 ∷ hears 3 (Some Window.Empty) ∷ sends 4 796 500 ∷ []) 4
unfolding obeys_within fits_of distance_of
withdrawn_window =
    least_on 0 _ _ _ _ tt (least_on 0 _ _ _ _ (keeps _ _ _ _ refl) (least_on 0 _ _ _ _ tt (least_here 0 _ _ (sends 4 796 500) [] (breaks _ _ _ _ refl) (λ before m s. absurd (none_stands (λ b stated. ⊥) before m s)))))
