-- The pacer in plain numbers, field by field and case by case; and rows that the checker computes. Assumes nothing.
use Rattle.std.specs.Prelude.{Ok}
use Prim.Native.Nat.{ℕ, ◌+◌, ◌≤◌, ◌<◌}
use mathlib.Core.Bool.{true, and-eq-true_iff}
use mathlib.Core.List.{[], ◌∷◌, map}
use mathlib.Core.Logic.{◌↔◌}
use mathlib.Core.Path.{◌≡◌, refl}
use borrow.Author.Tests.{ltb-true, leb-true, lt-ltb, le-leb, lt-leb}
use lib.Dec.{ltb}
use Rattle.pacer.specs.declared.Pacer.{Pacer}
use Rattle.pacer.specs.declared.PaceAnswer.{PaceAnswer}
use Rattle.pacer.specs.Pacing.{fresh_pacer, pacer_fits, is_earlier, is_due, is_silent, asked, heard_at, moved_to, answer_of}

-- "both waits first run from 0"
pub fresh_times : (hello limit : ℕ) → ((fresh_pacer hello limit).clock ≡ 0) × ((fresh_pacer hello limit).due ≡ 0) × ((fresh_pacer hello limit).heard ≡ 0)
fresh_times hello limit = (refl, refl, refl)

module _ (p : Pacer) where
  -- "22, HelloTime or silence limit of 0"
  pub fits_exactly : (pacer_fits p ≡ true) ↔ ((0 < p.hello) × (0 < p.limit))
  fits_exactly = (
    λ e. let a = (and-eq-true_iff (ltb 0 p.hello) (ltb 0 p.limit)).0 e in (ltb-true 0 p.hello a.0, ltb-true 0 p.limit a.1),
    λ h. rw (lt-ltb 0 p.hello h.0, lt-ltb 0 p.limit h.1),
  )

  module _ (time : ℕ) where
    -- "21, pacer time earlier than its latest"
    pub earlier_exactly : (is_earlier time p ≡ true) ↔ (time < p.clock)
    earlier_exactly = (ltb-true time p.clock, lt-ltb time p.clock)

    -- "the configured HelloTime or more has passed since the last due one"
    pub due_exactly : (is_due time p ≡ true) ↔ (p.due + p.hello ≤ time)
    due_exactly = (leb-true (p.due + p.hello) time, le-leb (p.due + p.hello) time)

    -- "no radio control message was accepted for a configured silence limit or longer"
    pub silent_exactly : (is_silent time p ≡ true) ↔ (p.heard + p.limit ≤ time)
    silent_exactly = (leb-true (p.heard + p.limit) time, le-leb (p.heard + p.limit) time)

    -- an ask that is due, and one that isn't
    pub asked_due : p.due + p.hello ≤ time → asked time p ≡ record { hello = p.hello; limit = p.limit; clock = time; due = time; heard = p.heard }
    unfolding asked
    asked_due over = rw (le-leb (p.due + p.hello) time over)

    pub asked_early : time < p.due + p.hello → asked time p ≡ record { hello = p.hello; limit = p.limit; clock = time; due = p.due; heard = p.heard }
    unfolding asked
    asked_early on = rw (lt-leb (p.due + p.hello) time on)

    -- a radio control message, and a data message
    pub control_heard_lem : heard_at time p ≡ record { hello = p.hello; limit = p.limit; clock = time; due = p.due; heard = time }
    unfolding heard_at
    control_heard_lem = refl

    pub data_heard_lem : moved_to time p ≡ record { hello = p.hello; limit = p.limit; clock = time; due = p.due; heard = p.heard }
    unfolding moved_to
    data_heard_lem = refl

-- HelloTime 5,000 and silence limit 9,000; the last query due at 2,000, the last control message at 3,000: both borders from both sides
abbrev sample : Pacer
sample = record { hello = 5000; limit = 9000; clock = 4000; due = 2000; heard = 3000 }

pub answers_rows : map (λ time. answer_of (is_due time sample) (is_silent time sample)) (4000 ∷ 6999 ∷ 7000 ∷ 11999 ∷ 12000 ∷ [])
    ≡ Ok PaceAnswer.Quiet ∷ Ok PaceAnswer.Quiet ∷ Ok PaceAnswer.Due ∷ Ok PaceAnswer.Due ∷ Ok PaceAnswer.DueSilent ∷ []
answers_rows = refl

-- silent alone: asked at 7,000 the next query is due at 12,000
pub silent_row : answer_of (is_due 11999 (asked 7000 (record { hello = 5000; limit = 8000; clock = 4000; due = 2000; heard = 3000 })))
    (is_silent 11999 (asked 7000 (record { hello = 5000; limit = 8000; clock = 4000; due = 2000; heard = 3000 }))) ≡ Ok PaceAnswer.Silent
unfolding asked
silent_row = refl
