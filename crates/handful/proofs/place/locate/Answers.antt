-- `place::locate` meets its contract: the law of each turn is `Locating`'s. Assumes nothing.
use Prim.Native.Nat.{◌+◌, ◌<◌, ◌≤◌}
use mathlib.Core.Path.{sym, ◌∙◌}
use native.Mathlib.Omega.{arith}
use lib.ListN.{length}
use Rattle.ips_words.specs.Words.{SLOT, slot_start, state_in}
use Rattle.ips_words.proofs.Whole.{fit_count}
use Rattle.handful.proofs.Locating.{head_long, locating_start, slot_ends, id_here, size_here, start_small, locating_next, locating_found, locating_none}
use Rattle.handful.proofs.place.locate.Goals as goal

pub bounds-words-1 : goal.bounds-words-1
bounds-words-1 c = head_long _ c.requires

pub loop-index-init : goal.loop-index-init
loop-index-init c = locating_start _ c.requires _

pub returns : goal.returns
returns c = locating_none _ c.requires _ _ _ c.loop-index.invariant (omega (arith, fit_count c.args.words.now c.requires, c.narrow-count.ensures, c.loop-index-test.false))

pub overflow_add-from : goal.overflow_add-from
overflow_add-from c =
    let inside : c.loop-index.index < length (state_in c.args.words.now).channels = omega (arith, fit_count c.args.words.now c.requires, c.narrow-count.ensures, c.loop-index-test.true) in
    let ends : slot_start c.loop-index.index + SLOT ≤ length c.args.words.now = slot_ends _ c.requires _ _ _ c.loop-index.invariant inside in
    omega (arith, ends)

pub offset_bounds-words-from : goal.offset_bounds-words-from
offset_bounds-words-from c =
    let inside : c.loop-index.index < length (state_in c.args.words.now).channels = omega (arith, fit_count c.args.words.now c.requires, c.narrow-count.ensures, c.loop-index-test.true) in
    let ends : slot_start c.loop-index.index + SLOT ≤ length c.args.words.now = slot_ends _ c.requires _ _ _ c.loop-index.invariant inside in
    omega (arith, ends)

pub bounds-words-from : goal.bounds-words-from
bounds-words-from c =
    let inside : c.loop-index.index < length (state_in c.args.words.now).channels = omega (arith, fit_count c.args.words.now c.requires, c.narrow-count.ensures, c.loop-index-test.true) in
    let ends : slot_start c.loop-index.index + SLOT ≤ length c.args.words.now = slot_ends _ c.requires _ _ _ c.loop-index.invariant inside in
    omega (arith, ends)

pub returns-then-narrow-from : goal.returns-then-narrow-from
returns-then-narrow-from c =
    let inside : c.loop-index.index < length (state_in c.args.words.now).channels = omega (arith, fit_count c.args.words.now c.requires, c.narrow-count.ensures, c.loop-index-test.true) in
    locating_found _ c.requires _ _ _ c.loop-index.invariant inside (sym (id_here _ c.requires _ _ _ c.loop-index.invariant inside) ∙ sym c.narrow.ensures ∙ c.if-narrow-from.true ∙ c.from.ensures)

pub overflow_add-from-in-loop-index : goal.overflow_add-from-in-loop-index
overflow_add-from-in-loop-index c =
    let inside : c.loop-index.index < length (state_in c.args.words.now).channels = omega (arith, fit_count c.args.words.now c.requires, c.narrow-count.ensures, c.loop-index-test.true) in
    let ends : slot_start c.loop-index.index + SLOT ≤ length c.args.words.now = slot_ends _ c.requires _ _ _ c.loop-index.invariant inside in
    omega (arith, ends)

pub offset_bounds-words-from-in-loop-index : goal.offset_bounds-words-from-in-loop-index
offset_bounds-words-from-in-loop-index c =
    let inside : c.loop-index.index < length (state_in c.args.words.now).channels = omega (arith, fit_count c.args.words.now c.requires, c.narrow-count.ensures, c.loop-index-test.true) in
    let ends : slot_start c.loop-index.index + SLOT ≤ length c.args.words.now = slot_ends _ c.requires _ _ _ c.loop-index.invariant inside in
    omega (arith, ends)

pub bounds-words-from-in-loop-index : goal.bounds-words-from-in-loop-index
bounds-words-from-in-loop-index c =
    let inside : c.loop-index.index < length (state_in c.args.words.now).channels = omega (arith, fit_count c.args.words.now c.requires, c.narrow-count.ensures, c.loop-index-test.true) in
    let ends : slot_start c.loop-index.index + SLOT ≤ length c.args.words.now = slot_ends _ c.requires _ _ _ c.loop-index.invariant inside in
    omega (arith, ends)

pub overflow_add-start : goal.overflow_add-start
overflow_add-start c =
    let inside : c.loop-index.index < length (state_in c.args.words.now).channels = omega (arith, fit_count c.args.words.now c.requires, c.narrow-count.ensures, c.loop-index-test.true) in
    omega (arith, c.narrow-start.ensures, size_here _ c.requires _ _ _ c.loop-index.invariant inside, start_small _ c.requires _ _ _ c.loop-index.invariant inside)

pub overflow_add-from-in-loop-index-2 : goal.overflow_add-from-in-loop-index-2
overflow_add-from-in-loop-index-2 c =
    let inside : c.loop-index.index < length (state_in c.args.words.now).channels = omega (arith, fit_count c.args.words.now c.requires, c.narrow-count.ensures, c.loop-index-test.true) in
    let ends : slot_start c.loop-index.index + SLOT ≤ length c.args.words.now = slot_ends _ c.requires _ _ _ c.loop-index.invariant inside in
    omega (arith, ends)

pub loop-index-preserved : goal.loop-index-preserved
loop-index-preserved c =
    let inside : c.loop-index.index < length (state_in c.args.words.now).channels = omega (arith, fit_count c.args.words.now c.requires, c.narrow-count.ensures, c.loop-index-test.true) in
    locating_next _ c.requires _ _ _ c.loop-index.invariant inside (λ e. c.if-narrow-from.false (c.narrow.ensures ∙ id_here _ c.requires _ _ _ c.loop-index.invariant inside ∙ e ∙ sym c.from.ensures)) _ (c.narrow-start.ensures ∙ size_here _ c.requires _ _ _ c.loop-index.invariant inside)

pub overflow_mul-from : goal.overflow_mul-from
overflow_mul-from c =
    let inside : c.loop-index.index < length (state_in c.args.words.now).channels = omega (arith, fit_count c.args.words.now c.requires, c.narrow-count.ensures, c.loop-index-test.true) in
    let ends : slot_start c.loop-index.index + SLOT ≤ length c.args.words.now = slot_ends _ c.requires _ _ _ c.loop-index.invariant inside in
    omega (arith, ends)
