-- `survey::walk` meets its contract. Assumes nothing.
use mathlib.Core.Path.{◌≡◌, refl}
use mathlib.Core.Bool.{◌&&◌}
use Rattle.std.proofs.Common.{rules}
use Rattle.std.proofs.Math.Bool.{and_assoc}
use Rattle.lent_messages.proofs.Ranges.{all_from_Range}
use Rattle.lent_messages.proofs.Saying.{and_on, and_off}
use Rattle.radio_end_state.specs.Limits.{channel_fits, all_fit, ids, ids_fit}
use Rattle.radio_end_words.specs.Words.{slot, channel_in, spelled, state_of, all_spelled}
use Rattle.radio_end_words.proofs.Placing.{numbers_are}
use Rattle.radio_end_survey.proofs.Walking.{all_passed, one_unfit}
use Rattle.radio_end_survey.proofs.survey.walk.Goals as goal

pub returns-then-all : goal.returns-then-all
returns-then-all c =
    let words = c.args.words.now in
    let passed : c.all.result ≡ (all_spelled words c.args.count && all_fit (state_of words).channels) =
    all_from_Range (λ i. spelled (slot words i) && channel_fits (channel_in (slot words i))) c.args.count _ _ c.all.result _ c.all.ensures.ran refl (λ x a q k. search rules) (all_passed words c.args.count c.requires) (one_unfit words c.args.count c.requires) in
    let said : c.ids_fit.result ≡ ids_fit (ids (state_of words).channels) = rw (numbers_are words c.args.count c.requires) at c.ids_fit.ensures in
    rw (← and_assoc (all_spelled words c.args.count) (all_fit (state_of words).channels) (ids_fit (ids (state_of words).channels))) (and_on _ _ _ _ passed c.if-all.true said)

pub returns-else-all : goal.returns-else-all
returns-else-all c =
    let words = c.args.words.now in
    let passed : c.all.result ≡ (all_spelled words c.args.count && all_fit (state_of words).channels) =
    all_from_Range (λ i. spelled (slot words i) && channel_fits (channel_in (slot words i))) c.args.count _ _ c.all.result _ c.all.ensures.ran refl (λ x a q k. search rules) (all_passed words c.args.count c.requires) (one_unfit words c.args.count c.requires) in
    rw (← and_assoc (all_spelled words c.args.count) (all_fit (state_of words).channels) (ids_fit (ids (state_of words).channels))) (and_off _ _ _ passed c.if-all.false)
