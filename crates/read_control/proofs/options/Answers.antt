-- `options` meets its contract. The invariant: at the place reached, with what is stated so far, the rest decides the whole; the measure
-- is what is left. Assumes nothing.
use Rattle.std.specs.Prelude.{Ok}
use mathlib.Core.Path.{◌≡◌, refl, sym, ap, ◌∙◌}
use native.Mathlib.Omega.{arith}
use Prim.Native.Nat.{◌+◌, ◌≤◌}
use lib.ListN.{length}
use Rattle.read_option.specs.declared.answer.Item.{Item}
use Rattle.read_rules.specs.declared.answer.Verdict.{Verdict}
use Rattle.read_rules.specs.Sorts.{finish_of, unstated_datalink}
use Rattle.read_rules.proofs.Turn.{ends, cuts}
use Rattle.read_control.specs.Message.{unstated_instance, unstated_context, unstated_status, unstated_sequence, control_accepted, control_sort, unstated_window}
use Rattle.read_control.proofs.Message.{whole_of, room, refusing, stating, passing, window_repeated, refuses_whole, accepts_whole}
use Rattle.read_control.proofs.options.Goals as goal

pub loop-at-init : goal.loop-at-init
loop-at-init c = (refl, rw c.blank.ensures refl)

pub returns-in_default : goal.returns-in_default
returns-in_default c =
    c.refused.ensures ∙ sym (cuts _ _ c.loop-at.at c.loop-at.reading.message c.loop-at.invariant.1 c.loop-at-test.true (sym c.in_default.is ∙ c.first.ensures))

pub overflow_add-to : goal.overflow_add-to
overflow_add-to c =
    let fits : c.loop-at.at + 3 + c.in-Some.size ≤ length c.args.datagram.now = room c.args.end c.args.id c.args.datagram.now c.loop-at.at c.in-Some.kind c.in-Some.size c.loop-at.reading.message c.loop-at.invariant.1 c.loop-at-test.true c.first.ensures c.in-Some.is in
    omega arith

pub slice_bounds-of_control-end : goal.slice_bounds-of_control-end
slice_bounds-of_control-end c =
    room c.args.end c.args.id c.args.datagram.now c.loop-at.at c.in-Some.kind c.in-Some.size c.loop-at.reading.message c.loop-at.invariant.1 c.loop-at-test.true c.first.ensures c.in-Some.is

pub returns-in_default-answer : goal.returns-in_default-answer
returns-in_default-answer c =
    c.refused-in_default-answer.ensures ∙ rw c.number_of.ensures (refusing c.args.end c.args.id c.args.datagram.now c.loop-at.at c.in-Some.kind c.in-Some.size c.loop-at.reading.message c.loop-at.invariant.1 c.loop-at-test.true c.first.ensures c.in-Some.is c.of_control-answer.ensures.value c.in_default-answer.is)

pub returns-in_default-datalink : goal.returns-in_default-datalink
returns-in_default-datalink c =
    let arm = stating c.args.end c.args.id c.args.datagram.now c.loop-at.at c.in-Some.kind c.in-Some.size c.loop-at.reading.message c.loop-at.invariant.1 c.loop-at-test.true c.first.ensures c.in-Some.is c.of_control-answer.ensures.value c.of_control-answer.ensures.placed (Item.Datalink c.in-Datalink.stated) (c.in-Ok.is ∙ ap Ok c.in-Datalink.is) in
    c.refused-in_default-datalink.ensures ∙ arm.repeated (ap unstated_datalink c.in_default-datalink.is)

pub returns-in_default-instance : goal.returns-in_default-instance
returns-in_default-instance c =
    let arm = stating c.args.end c.args.id c.args.datagram.now c.loop-at.at c.in-Some.kind c.in-Some.size c.loop-at.reading.message c.loop-at.invariant.1 c.loop-at-test.true c.first.ensures c.in-Some.is c.of_control-answer.ensures.value c.of_control-answer.ensures.placed (Item.Instance c.in-Instance.number c.in-Instance.length) (c.in-Ok.is ∙ ap Ok c.in-Instance.is) in
    c.refused-in_default-instance.ensures ∙ arm.repeated (ap unstated_instance c.in_default-instance.is)

pub returns-in_default-context : goal.returns-in_default-context
returns-in_default-context c =
    let arm = stating c.args.end c.args.id c.args.datagram.now c.loop-at.at c.in-Some.kind c.in-Some.size c.loop-at.reading.message c.loop-at.invariant.1 c.loop-at-test.true c.first.ensures c.in-Some.is c.of_control-answer.ensures.value c.of_control-answer.ensures.placed (Item.Context c.in-Context.bytes c.in-Context.length) (c.in-Ok.is ∙ ap Ok c.in-Context.is) in
    c.refused-in_default-context.ensures ∙ arm.repeated (ap unstated_context c.in_default-context.is)

pub returns-in_default-statuses : goal.returns-in_default-statuses
returns-in_default-statuses c =
    let arm = stating c.args.end c.args.id c.args.datagram.now c.loop-at.at c.in-Some.kind c.in-Some.size c.loop-at.reading.message c.loop-at.invariant.1 c.loop-at-test.true c.first.ensures c.in-Some.is c.of_control-answer.ensures.value c.of_control-answer.ensures.placed (Item.Status c.in-Status.channel c.in-Status.status) (c.in-Ok.is ∙ ap Ok c.in-Status.is) in
    c.refused-in_default-statuses.ensures ∙ arm.repeated (ap unstated_status c.in_default-statuses.is)

pub returns-in_default-sequences : goal.returns-in_default-sequences
returns-in_default-sequences c =
    let arm = stating c.args.end c.args.id c.args.datagram.now c.loop-at.at c.in-Some.kind c.in-Some.size c.loop-at.reading.message c.loop-at.invariant.1 c.loop-at-test.true c.first.ensures c.in-Some.is c.of_control-answer.ensures.value c.of_control-answer.ensures.placed (Item.Sequence c.in-Sequence.channel c.in-Sequence.sequence) (c.in-Ok.is ∙ ap Ok c.in-Sequence.is) in
    c.refused-in_default-sequences.ensures ∙ arm.repeated (ap unstated_sequence c.in_default-sequences.is)

pub returns-in_default-windows : goal.returns-in_default-windows
returns-in_default-windows c =
    let arm = stating c.args.end c.args.id c.args.datagram.now c.loop-at.at c.in-Some.kind c.in-Some.size c.loop-at.reading.message c.loop-at.invariant.1 c.loop-at-test.true c.first.ensures c.in-Some.is c.of_control-answer.ensures.value c.of_control-answer.ensures.placed (Item.Window c.in-Window.channel c.in-Window.window) (c.in-Ok.is ∙ ap Ok c.in-Window.is) in
    c.refused-in_default-windows.ensures ∙ window_repeated arm c.in_default-windows.not-None

pub loop-at-preserved-in-None : goal.loop-at-preserved-in-None
loop-at-preserved-in-None c =
    let arm = stating c.args.end c.args.id c.args.datagram.now c.loop-at.at c.in-Some.kind c.in-Some.size c.loop-at.reading.message c.loop-at.invariant.1 c.loop-at-test.true c.first.ensures c.in-Some.is c.of_control-answer.ensures.value c.of_control-answer.ensures.placed (Item.Datalink c.in-Datalink.stated) (c.in-Ok.is ∙ ap Ok c.in-Datalink.is) in
    (c.loop-at.invariant.0, arm.taken (ap unstated_datalink c.in-None.is))

pub loop-at-preserved-in-None-instance : goal.loop-at-preserved-in-None-instance
loop-at-preserved-in-None-instance c =
    let arm = stating c.args.end c.args.id c.args.datagram.now c.loop-at.at c.in-Some.kind c.in-Some.size c.loop-at.reading.message c.loop-at.invariant.1 c.loop-at-test.true c.first.ensures c.in-Some.is c.of_control-answer.ensures.value c.of_control-answer.ensures.placed (Item.Instance c.in-Instance.number c.in-Instance.length) (c.in-Ok.is ∙ ap Ok c.in-Instance.is) in
    (c.loop-at.invariant.0, arm.taken (ap unstated_instance c.in-None-instance.is))

pub loop-at-preserved-in-None-context : goal.loop-at-preserved-in-None-context
loop-at-preserved-in-None-context c =
    let arm = stating c.args.end c.args.id c.args.datagram.now c.loop-at.at c.in-Some.kind c.in-Some.size c.loop-at.reading.message c.loop-at.invariant.1 c.loop-at-test.true c.first.ensures c.in-Some.is c.of_control-answer.ensures.value c.of_control-answer.ensures.placed (Item.Context c.in-Context.bytes c.in-Context.length) (c.in-Ok.is ∙ ap Ok c.in-Context.is) in
    (c.loop-at.invariant.0, arm.taken (ap unstated_context c.in-None-context.is))

pub loop-at-preserved-in-None-statuses : goal.loop-at-preserved-in-None-statuses
loop-at-preserved-in-None-statuses c =
    let arm = stating c.args.end c.args.id c.args.datagram.now c.loop-at.at c.in-Some.kind c.in-Some.size c.loop-at.reading.message c.loop-at.invariant.1 c.loop-at-test.true c.first.ensures c.in-Some.is c.of_control-answer.ensures.value c.of_control-answer.ensures.placed (Item.Status c.in-Status.channel c.in-Status.status) (c.in-Ok.is ∙ ap Ok c.in-Status.is) in
    (c.loop-at.invariant.0, arm.taken (ap unstated_status c.in-None-statuses.is))

pub loop-at-preserved-in-None-sequences : goal.loop-at-preserved-in-None-sequences
loop-at-preserved-in-None-sequences c =
    let arm = stating c.args.end c.args.id c.args.datagram.now c.loop-at.at c.in-Some.kind c.in-Some.size c.loop-at.reading.message c.loop-at.invariant.1 c.loop-at-test.true c.first.ensures c.in-Some.is c.of_control-answer.ensures.value c.of_control-answer.ensures.placed (Item.Sequence c.in-Sequence.channel c.in-Sequence.sequence) (c.in-Ok.is ∙ ap Ok c.in-Sequence.is) in
    (c.loop-at.invariant.0, arm.taken (ap unstated_sequence c.in-None-sequences.is))

pub loop-at-preserved-in-None-windows : goal.loop-at-preserved-in-None-windows
loop-at-preserved-in-None-windows c =
    let arm = stating c.args.end c.args.id c.args.datagram.now c.loop-at.at c.in-Some.kind c.in-Some.size c.loop-at.reading.message c.loop-at.invariant.1 c.loop-at-test.true c.first.ensures c.in-Some.is c.of_control-answer.ensures.value c.of_control-answer.ensures.placed (Item.Window c.in-Window.channel c.in-Window.window) (c.in-Ok.is ∙ ap Ok c.in-Window.is) in
    (c.loop-at.invariant.0, rw c.window_cell.ensures (arm.taken (ap unstated_window c.in-None-windows.is)))

pub loop-at-preserved : goal.loop-at-preserved
loop-at-preserved c =
    let arm = stating c.args.end c.args.id c.args.datagram.now c.loop-at.at c.in-Some.kind c.in-Some.size c.loop-at.reading.message c.loop-at.invariant.1 c.loop-at-test.true c.first.ensures c.in-Some.is c.of_control-answer.ensures.value c.of_control-answer.ensures.placed (c.in-Ok.item) c.in-Ok.is in
    (c.loop-at.invariant.0, passing c.in-Ok.item c.in_default-item.not-Datalink c.in_default-item.not-Instance c.in_default-item.not-Context c.in_default-item.not-Status c.in_default-item.not-Sequence c.in_default-item.not-Window arm)

pub returns-then-number-ne0 : goal.returns-then-number-ne0
returns-then-number-ne0 c =
    let ended : whole_of c.args.end c.args.id c.args.datagram.now ≡ finish_of (control_sort c.args.end c.args.id) c.loop-at.at c.loop-at.reading.message =
    ends _ _ c.loop-at.at c.loop-at.reading.message c.loop-at.invariant.1 c.loop-at-test.false in
    c.refused-then-number-ne0.ensures ∙ refuses_whole _ _ _ c.loop-at.reading.message c.fault-number.ensures c.if-number-ne0.true ∙ sym ended

pub returns : goal.returns
unfolding control_accepted
returns c =
    let ended : whole_of c.args.end c.args.id c.args.datagram.now ≡ finish_of (control_sort c.args.end c.args.id) c.loop-at.at c.loop-at.reading.message =
    ends _ _ c.loop-at.at c.loop-at.reading.message c.loop-at.invariant.1 c.loop-at-test.false in
    ap (λ (v : Verdict). record { verdict = v; message = c.loop-at.reading.message }) c.loop-at.invariant.0 ∙ accepts_whole _ _ _ c.loop-at.reading.message c.fault-number.ensures c.if-number-ne0.false ∙ sym ended
