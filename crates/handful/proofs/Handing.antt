-- The ways out of a handful. Assumes nothing.
use Rattle.quantity.specs.declared.refusal.Refusal.{Refusal}
use Rattle.std.specs.Prelude.{None, Some, Result, Ok}
use Prim.Native.Nat.{ℕ}
use mathlib.Core.Bool.{true, false, and-false}
use mathlib.Core.List.{List}
use mathlib.Core.Path.{◌≡◌, sym, ◌∙◌}
use borrow.Author.Tests.{eq-eqb, ne_eqb}
use lib.ListN.{length}
use Rattle.quantity.specs.declared.count.ByteCount.{ByteCount}
use Rattle.quantity.specs.Refusals.{OUTSIDE-LIMITS, NOT-A-HANDFUL}
use Rattle.ips_state.specs.Limits.{sizes}
use Rattle.ips_state.specs.Memory.{memory_fits, world_fits}
use Rattle.ips_words.specs.Words.{state_in}
use Rattle.ips_words_survey.specs.declared.survey.Survey.{Survey}
use Rattle.ips_words_survey.specs.Survey.{surveyed, survey_of}
use Rattle.ips_words_survey.proofs.Finding.{survey_unfit, survey_fits, survey_at}
use Rattle.endpoint.specs.Lent.{Lent, world_in}
use Rattle.handful.specs.Handful.{Handful, is_handful, refused_handful, HandedIn}
use Rattle.handful.specs.Offering.{OfferedEach}

-- ---- what one survey tells of the words and the memory
module _ (l : Lent) (id : ℕ) where
  pub words_unfit : None ≡ survey_of (state_in l.words) id → world_fits (world_in l) ≡ false
  words_unfit e = rw (survey_unfit (state_in l.words) id e)

  module _ (r : Survey) (is : Some r ≡ survey_of (state_in l.words) id) where
    total_is : r.total.0 ≡ sizes (state_in l.words).channels
    unfolding surveyed
    total_is = rw (survey_at (state_in l.words) id r is)

    pub memory_unfit : (r.total.0 ≡ length l.memory → ⊥) → world_fits (world_in l) ≡ false
    unfolding memory_fits
    memory_unfit other = rw (ne_eqb (length l.memory) (sizes (state_in l.words).channels) (λ e. other (total_is ∙ sym e)), and-false)

    pub both_fit : r.total.0 ≡ length l.memory → world_fits (world_in l) ≡ true
    unfolding memory_fits
    both_fit e = rw (survey_fits (state_in l.words) id r is, eq-eqb (length l.memory) (sizes (state_in l.words).channels) (sym e ∙ total_is))

-- ---- 19, 24, and the offers
module _ (h : Handful) (l : Lent) (answers : List ℕ) (x : Result (Unit {0}) Refusal) where
  pub handed_unfit : world_fits (world_in l) ≡ false → x ≡ refused_handful OUTSIDE-LIMITS → HandedIn h l answers x l answers
  handed_unfit e is = record { answer_is = is ∙ rw e; lent_is = rw e; answers_are = rw e }

  module _ (fits : world_fits (world_in l) ≡ true) where
    pub handed_faulty : is_handful h (length answers) ≡ false → x ≡ refused_handful NOT-A-HANDFUL → HandedIn h l answers x l answers
    handed_faulty e is = record { answer_is = is ∙ rw (fits, e); lent_is = rw (fits, e); answers_are = rw (fits, e) }

    pub handed_each : is_handful h (length answers) ≡ true → x ≡ Ok tt → (moved : ByteCount) (l' : Lent) (answers' : List ℕ) → OfferedEach h l moved l' answers'
        → HandedIn h l answers x l' answers'
    handed_each e is moved l' answers' each =
        record { answer_is = is ∙ rw (fits, e); lent_is = rw (fits, e) each.lent_is; answers_are = rw (fits, e) each.answers_are }
