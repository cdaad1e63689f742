-- `survey::walk` meets its contract: the law of each turn is `Surveying`'s. Assumes nothing.
use Prim.Native.Nat.{◌+◌, ◌-◌, ◌<◌}
use mathlib.Core.Bool.{true, ◌&&◌}
use mathlib.Core.Path.{◌≡◌, sym, ◌∙◌}
use native.Mathlib.Omega.{arith}
use lib.ListN.{set, take, drop}
use Rattle.ips_state.specs.State.{channel_at}
use Rattle.ips_state.specs.Limits.{channel_fits}
use Rattle.ips_words.specs.Words.{SLOT, ID, SIZE, word, slot, slot_start, channel_in, state_of, spelled}
use Rattle.ips_words_survey.proofs.Surveying.{Surveying, survey_start, part_is, id_is, size_is, out_unfit, id_small, out_twice, on_here, on_other, survey_most, out_none, survey_end}
use Rattle.ips_words_survey.proofs.survey.walk.Goals as goal
use Rattle.ips_words_survey.proofs.survey.walk.Goals.{then-here-from, else-here-from}

pub loop-at-init : goal.loop-at-init
loop-at-init c = survey_start _ _ _

pub returns-then-not-channel_fits : goal.returns-then-not-channel_fits
returns-then-not-channel_fits c =
    let words = c.args.words.now in
    let count = c.args.count in
    let i = c.loop-at.invariant in
    let inside : c.loop-at.at < count = c.loop-at-test.true in
    let judged : c.channel_fits.result ≡ (spelled (slot words c.loop-at.at) && channel_fits (channel_in (slot words c.loop-at.at))) =
    rw (part_is words count c.requires c.loop-at.at inside) at c.channel_fits.ensures in
    out_unfit words count c.requires c.loop-at.at inside _ _ _ _ _ i _ judged c.if-not-channel_fits.true

pub bounds-seen-here : goal.bounds-seen-here
bounds-seen-here c =
    let words = c.args.words.now in
    let count = c.args.count in
    let i = c.loop-at.invariant in
    let inside : c.loop-at.at < count = c.loop-at-test.true in
    let judged : c.channel_fits.result ≡ (spelled (slot words c.loop-at.at) && channel_fits (channel_in (slot words c.loop-at.at))) =
    rw (part_is words count c.requires c.loop-at.at inside) at c.channel_fits.ensures in
    let id_here : word (take (slot_start c.loop-at.at + SLOT - slot_start c.loop-at.at) (drop (slot_start c.loop-at.at) words)) ID ≡ (channel_at (state_of words) c.loop-at.at).setting.id = rw (part_is words count c.requires c.loop-at.at inside) (id_is words count c.requires c.loop-at.at inside) in
    rw (c.narrow-here.ensures, id_here) (id_small words count c.requires c.loop-at.at inside _ _ _ _ _ i _ judged c.if-not-channel_fits.false)

pub returns-then-seen-here : goal.returns-then-seen-here
returns-then-seen-here c =
    let words = c.args.words.now in
    let count = c.args.count in
    let i = c.loop-at.invariant in
    let inside : c.loop-at.at < count = c.loop-at-test.true in
    let judged : c.channel_fits.result ≡ (spelled (slot words c.loop-at.at) && channel_fits (channel_in (slot words c.loop-at.at))) =
    rw (part_is words count c.requires c.loop-at.at inside) at c.channel_fits.ensures in
    let id_here : word (take (slot_start c.loop-at.at + SLOT - slot_start c.loop-at.at) (drop (slot_start c.loop-at.at) words)) ID ≡ (channel_at (state_of words) c.loop-at.at).setting.id = rw (part_is words count c.requires c.loop-at.at inside) (id_is words count c.requires c.loop-at.at inside) in
    out_twice words count c.requires c.loop-at.at inside _ _ _ _ _ i _ judged c.if-not-channel_fits.false _ (c.narrow-here.ensures ∙ id_here) c.if-seen-here.true

pub bounds-seen-here-in-loop-at : goal.bounds-seen-here-in-loop-at
bounds-seen-here-in-loop-at c =
    let words = c.args.words.now in
    let count = c.args.count in
    let i = c.loop-at.invariant in
    let inside : c.loop-at.at < count = c.loop-at-test.true in
    let judged : c.channel_fits.result ≡ (spelled (slot words c.loop-at.at) && channel_fits (channel_in (slot words c.loop-at.at))) =
    rw (part_is words count c.requires c.loop-at.at inside) at c.channel_fits.ensures in
    let id_here : word (take (slot_start c.loop-at.at + SLOT - slot_start c.loop-at.at) (drop (slot_start c.loop-at.at) words)) ID ≡ (channel_at (state_of words) c.loop-at.at).setting.id = rw (part_is words count c.requires c.loop-at.at inside) (id_is words count c.requires c.loop-at.at inside) in
    rw (c.narrow-here.ensures, id_here) (id_small words count c.requires c.loop-at.at inside _ _ _ _ _ i _ judged c.if-not-channel_fits.false)

pub overflow_add-total : goal.overflow_add-total
overflow_add-total c =
    let words = c.args.words.now in
    let count = c.args.count in
    let i = c.loop-at.invariant in
    let inside : c.loop-at.at < count = c.loop-at-test.true in
    let judged : c.channel_fits.result ≡ (spelled (slot words c.loop-at.at) && channel_fits (channel_in (slot words c.loop-at.at))) =
    rw (part_is words count c.requires c.loop-at.at inside) at c.channel_fits.ensures in
    let id_here : word (take (slot_start c.loop-at.at + SLOT - slot_start c.loop-at.at) (drop (slot_start c.loop-at.at) words)) ID ≡ (channel_at (state_of words) c.loop-at.at).setting.id = rw (part_is words count c.requires c.loop-at.at inside) (id_is words count c.requires c.loop-at.at inside) in
    let size_here : word (take (slot_start c.loop-at.at + SLOT - slot_start c.loop-at.at) (drop (slot_start c.loop-at.at) words)) SIZE ≡ (channel_at (state_of words) c.loop-at.at).setting.size.0 = rw (part_is words count c.requires c.loop-at.at inside) (size_is words count c.requires c.loop-at.at inside) in
    let next : Surveying words c.args.id count (set c.loop-at.seen c.narrow-here.result true) (c.loop-at.total + c.narrow-total.result) c.if-here-from.index c.if-here-from.start (c.loop-at.at + 1) =
    elim c.if-here-from.branch [
      | then-here-from w ↦ on_here words count c.requires c.loop-at.at inside _ _ _ _ _ i _ judged c.if-not-channel_fits.false _ (c.narrow-here.ensures ∙ id_here) c.if-seen-here.false _ _ _ (c.narrow-total.ensures ∙ size_here) (w.if-here-from.true ∙ c.from.ensures) w.index-is w.start-is
      | else-here-from w ↦ on_other words count c.requires c.loop-at.at inside _ _ _ _ _ i _ judged c.if-not-channel_fits.false _ (c.narrow-here.ensures ∙ id_here) c.if-seen-here.false _ _ _ (c.narrow-total.ensures ∙ size_here) (λ e. w.if-here-from.false (e ∙ sym c.from.ensures)) w.index-is w.start-is
    ] in
    omega (arith, next.inside, c.requires.few, survey_most words count c.requires _ _ _ _ _ _ next)

pub loop-at-preserved : goal.loop-at-preserved
loop-at-preserved c =
    let words = c.args.words.now in
    let count = c.args.count in
    let i = c.loop-at.invariant in
    let inside : c.loop-at.at < count = c.loop-at-test.true in
    let judged : c.channel_fits.result ≡ (spelled (slot words c.loop-at.at) && channel_fits (channel_in (slot words c.loop-at.at))) =
    rw (part_is words count c.requires c.loop-at.at inside) at c.channel_fits.ensures in
    let id_here : word (take (slot_start c.loop-at.at + SLOT - slot_start c.loop-at.at) (drop (slot_start c.loop-at.at) words)) ID ≡ (channel_at (state_of words) c.loop-at.at).setting.id = rw (part_is words count c.requires c.loop-at.at inside) (id_is words count c.requires c.loop-at.at inside) in
    let size_here : word (take (slot_start c.loop-at.at + SLOT - slot_start c.loop-at.at) (drop (slot_start c.loop-at.at) words)) SIZE ≡ (channel_at (state_of words) c.loop-at.at).setting.size.0 = rw (part_is words count c.requires c.loop-at.at inside) (size_is words count c.requires c.loop-at.at inside) in
    elim c.if-here-from.branch [
      | then-here-from w ↦ on_here words count c.requires c.loop-at.at inside _ _ _ _ _ i _ judged c.if-not-channel_fits.false _ (c.narrow-here.ensures ∙ id_here) c.if-seen-here.false _ _ _ (c.narrow-total.ensures ∙ size_here) (w.if-here-from.true ∙ c.from.ensures) w.index-is w.start-is
      | else-here-from w ↦ on_other words count c.requires c.loop-at.at inside _ _ _ _ _ i _ judged c.if-not-channel_fits.false _ (c.narrow-here.ensures ∙ id_here) c.if-seen-here.false _ _ _ (c.narrow-total.ensures ∙ size_here) (λ e. w.if-here-from.false (e ∙ sym c.from.ensures)) w.index-is w.start-is
    ]

pub returns-then-not-seen : goal.returns-then-not-seen
returns-then-not-seen c = out_none _ _ c.requires _ _ _ _ _ _ c.loop-at.invariant c.loop-at-test.false c.if-not-seen.true

pub returns : goal.returns
returns c = survey_end _ _ c.requires _ _ _ _ _ _ c.loop-at.invariant c.loop-at-test.false c.if-not-seen.false
