-- `note` meets its contract: the reader's invariant, of a message that the tables tell. Assumes nothing.
use Rattle.std.specs.Prelude.{Ok}
use Prim.Native.Nat.{◌+◌, ◌≤◌}
use mathlib.Core.Path.{◌≡◌, refl, sym, ap, ◌∙◌}
use native.Mathlib.Omega.{arith}
use lib.ListN.{length}
use Rattle.read_option.specs.declared.answer.Item.{Item}
use Rattle.read_rules.specs.Sorts.{finish_of, unstated_datalink}
use Rattle.read_rules.proofs.Turn.{ends, cuts}
use Rattle.read_control.specs.Message.{unstated_instance, unstated_context, control_sort}
use Rattle.read_control.proofs.Message.{whole_of, room, refusing, stating, passing, refuses_whole, accepts_whole}
use Rattle.note_control.proofs.Told.{told_nothing, status_free, status_there, window_free, window_there, sequence_free, sequence_there, told_datalink, told_instance, told_context, told_status, told_sequence, told_window, unnoted_is, noted_is, fault_told}
use Rattle.note_control.proofs.note.Goals as goal

pub loop-at-init : goal.loop-at-init
loop-at-init c =
    record { stated = _; reached = refl; told = rw (c.requires.0, c.requires.1, c.requires.2) told_nothing }

pub returns-in_default : goal.returns-in_default
returns-in_default c =
    unnoted_is c.unnoted.ensures (sym (cuts _ _ c.loop-at.at c.loop-at.invariant.stated c.loop-at.invariant.reached c.loop-at-test.true (sym c.in_default.is ∙ c.first.ensures)))

pub overflow_add-to : goal.overflow_add-to
overflow_add-to c =
    let fits : c.loop-at.at + 3 + c.in-Some.size ≤ length c.args.datagram.now = room c.args.end c.args.id c.args.datagram.now c.loop-at.at c.in-Some.kind c.in-Some.size c.loop-at.invariant.stated c.loop-at.invariant.reached c.loop-at-test.true c.first.ensures c.in-Some.is in
    omega arith

pub slice_bounds-of_noted-end : goal.slice_bounds-of_noted-end
slice_bounds-of_noted-end c =
    room c.args.end c.args.id c.args.datagram.now c.loop-at.at c.in-Some.kind c.in-Some.size c.loop-at.invariant.stated c.loop-at.invariant.reached c.loop-at-test.true c.first.ensures c.in-Some.is

pub returns-in_default-answer : goal.returns-in_default-answer
returns-in_default-answer c =
    unnoted_is c.unnoted-in_default-answer.ensures (rw c.number_of.ensures (refusing c.args.end c.args.id c.args.datagram.now c.loop-at.at c.in-Some.kind c.in-Some.size c.loop-at.invariant.stated c.loop-at.invariant.reached c.loop-at-test.true c.first.ensures c.in-Some.is c.of_noted-answer.ensures.value c.in_default-answer.is))

pub returns-in_default-datalink : goal.returns-in_default-datalink
returns-in_default-datalink c =
    let arm = stating c.args.end c.args.id c.args.datagram.now c.loop-at.at c.in-Some.kind c.in-Some.size c.loop-at.invariant.stated c.loop-at.invariant.reached c.loop-at-test.true c.first.ensures c.in-Some.is c.of_noted-answer.ensures.value c.of_noted-answer.ensures.placed (Item.Datalink c.in-Datalink.stated) (c.in-Ok.is ∙ ap Ok c.in-Datalink.is) in
    unnoted_is c.unnoted-in_default-datalink.ensures (arm.repeated (ap unstated_datalink (c.loop-at.invariant.told.datalink_is ∙ c.in_default-datalink.is)))

pub returns-in_default-instance : goal.returns-in_default-instance
returns-in_default-instance c =
    let arm = stating c.args.end c.args.id c.args.datagram.now c.loop-at.at c.in-Some.kind c.in-Some.size c.loop-at.invariant.stated c.loop-at.invariant.reached c.loop-at-test.true c.first.ensures c.in-Some.is c.of_noted-answer.ensures.value c.of_noted-answer.ensures.placed (Item.Instance c.in-Instance.number c.in-Instance.length) (c.in-Ok.is ∙ ap Ok c.in-Instance.is) in
    unnoted_is c.unnoted-in_default-instance.ensures (arm.repeated (ap unstated_instance (c.loop-at.invariant.told.instance_is ∙ c.in_default-instance.is)))

pub returns-in_default-context : goal.returns-in_default-context
returns-in_default-context c =
    let arm = stating c.args.end c.args.id c.args.datagram.now c.loop-at.at c.in-Some.kind c.in-Some.size c.loop-at.invariant.stated c.loop-at.invariant.reached c.loop-at-test.true c.first.ensures c.in-Some.is c.of_noted-answer.ensures.value c.of_noted-answer.ensures.placed (Item.Context c.in-Context.bytes c.in-Context.length) (c.in-Ok.is ∙ ap Ok c.in-Context.is) in
    unnoted_is c.unnoted-in_default-context.ensures (arm.repeated (ap unstated_context (c.loop-at.invariant.told.context_is ∙ c.in_default-context.is)))

pub returns-then-statuses-i-ne-ABSENT_STATUS : goal.returns-then-statuses-i-ne-ABSENT_STATUS
returns-then-statuses-i-ne-ABSENT_STATUS c =
    let arm = stating c.args.end c.args.id c.args.datagram.now c.loop-at.at c.in-Some.kind c.in-Some.size c.loop-at.invariant.stated c.loop-at.invariant.reached c.loop-at-test.true c.first.ensures c.in-Some.is c.of_noted-answer.ensures.value c.of_noted-answer.ensures.placed (Item.Status c.in-Status.channel c.in-Status.status) (c.in-Ok.is ∙ ap Ok c.in-Status.is) in
    unnoted_is c.unnoted-then-statuses-i-ne-ABSENT_STATUS.ensures (arm.repeated (status_there c.loop-at.invariant.told c.in-Status.channel c.if-statuses-i-ne-ABSENT_STATUS.true))

pub returns-then-sequences-i : goal.returns-then-sequences-i
returns-then-sequences-i c =
    let arm = stating c.args.end c.args.id c.args.datagram.now c.loop-at.at c.in-Some.kind c.in-Some.size c.loop-at.invariant.stated c.loop-at.invariant.reached c.loop-at-test.true c.first.ensures c.in-Some.is c.of_noted-answer.ensures.value c.of_noted-answer.ensures.placed (Item.Sequence c.in-Sequence.channel c.in-Sequence.field-1) (c.in-Ok.is ∙ ap Ok c.in-Sequence.is) in
    unnoted_is c.unnoted-then-sequences-i.ensures (arm.repeated (sequence_there c.loop-at.invariant.told c.in-Sequence.channel c.if-sequences-i.true))

pub returns-then-tags-i-ne-ABSENT_WINDOW : goal.returns-then-tags-i-ne-ABSENT_WINDOW
returns-then-tags-i-ne-ABSENT_WINDOW c =
    let arm = stating c.args.end c.args.id c.args.datagram.now c.loop-at.at c.in-Some.kind c.in-Some.size c.loop-at.invariant.stated c.loop-at.invariant.reached c.loop-at-test.true c.first.ensures c.in-Some.is c.of_noted-answer.ensures.value c.of_noted-answer.ensures.placed (Item.Window c.in-Window.channel c.in-Window.window) (c.in-Ok.is ∙ ap Ok c.in-Window.is) in
    unnoted_is c.unnoted-then-tags-i-ne-ABSENT_WINDOW.ensures (arm.repeated (window_there c.loop-at.invariant.told c.in-Window.channel c.if-tags-i-ne-ABSENT_WINDOW.true))

pub loop-at-preserved-in-None : goal.loop-at-preserved-in-None
loop-at-preserved-in-None c =
    let arm = stating c.args.end c.args.id c.args.datagram.now c.loop-at.at c.in-Some.kind c.in-Some.size c.loop-at.invariant.stated c.loop-at.invariant.reached c.loop-at-test.true c.first.ensures c.in-Some.is c.of_noted-answer.ensures.value c.of_noted-answer.ensures.placed (Item.Datalink c.in-Datalink.stated) (c.in-Ok.is ∙ ap Ok c.in-Datalink.is) in
    record { stated = _; reached = arm.taken (ap unstated_datalink (c.loop-at.invariant.told.datalink_is ∙ c.in-None.is)); told = told_datalink c.loop-at.invariant.told c.in-Datalink.stated }

pub loop-at-preserved-in-None-instance : goal.loop-at-preserved-in-None-instance
loop-at-preserved-in-None-instance c =
    let arm = stating c.args.end c.args.id c.args.datagram.now c.loop-at.at c.in-Some.kind c.in-Some.size c.loop-at.invariant.stated c.loop-at.invariant.reached c.loop-at-test.true c.first.ensures c.in-Some.is c.of_noted-answer.ensures.value c.of_noted-answer.ensures.placed (Item.Instance c.in-Instance.number c.in-Instance.length) (c.in-Ok.is ∙ ap Ok c.in-Instance.is) in
    record { stated = _; reached = arm.taken (ap unstated_instance (c.loop-at.invariant.told.instance_is ∙ c.in-None-instance.is)); told = told_instance c.loop-at.invariant.told c.in-Instance.number c.in-Instance.length }

pub loop-at-preserved-in-None-context : goal.loop-at-preserved-in-None-context
loop-at-preserved-in-None-context c =
    let arm = stating c.args.end c.args.id c.args.datagram.now c.loop-at.at c.in-Some.kind c.in-Some.size c.loop-at.invariant.stated c.loop-at.invariant.reached c.loop-at-test.true c.first.ensures c.in-Some.is c.of_noted-answer.ensures.value c.of_noted-answer.ensures.placed (Item.Context c.in-Context.bytes c.in-Context.length) (c.in-Ok.is ∙ ap Ok c.in-Context.is) in
    record { stated = _; reached = arm.taken (ap unstated_context (c.loop-at.invariant.told.context_is ∙ c.in-None-context.is)); told = told_context c.loop-at.invariant.told c.in-Context.bytes c.in-Context.length }

pub loop-at-preserved-else-statuses-i-ne-ABSENT_STATUS : goal.loop-at-preserved-else-statuses-i-ne-ABSENT_STATUS
loop-at-preserved-else-statuses-i-ne-ABSENT_STATUS c =
    let arm = stating c.args.end c.args.id c.args.datagram.now c.loop-at.at c.in-Some.kind c.in-Some.size c.loop-at.invariant.stated c.loop-at.invariant.reached c.loop-at-test.true c.first.ensures c.in-Some.is c.of_noted-answer.ensures.value c.of_noted-answer.ensures.placed (Item.Status c.in-Status.channel c.in-Status.status) (c.in-Ok.is ∙ ap Ok c.in-Status.is) in
    record { stated = _; reached = arm.taken (status_free c.loop-at.invariant.told c.in-Status.channel c.if-statuses-i-ne-ABSENT_STATUS.false); told = told_status c.loop-at.invariant.told c.in-Status.channel c.in-Status.status arm.in_table }

pub loop-at-preserved-else-sequences-i : goal.loop-at-preserved-else-sequences-i
loop-at-preserved-else-sequences-i c =
    let arm = stating c.args.end c.args.id c.args.datagram.now c.loop-at.at c.in-Some.kind c.in-Some.size c.loop-at.invariant.stated c.loop-at.invariant.reached c.loop-at-test.true c.first.ensures c.in-Some.is c.of_noted-answer.ensures.value c.of_noted-answer.ensures.placed (Item.Sequence c.in-Sequence.channel c.in-Sequence.field-1) (c.in-Ok.is ∙ ap Ok c.in-Sequence.is) in
    record { stated = _; reached = arm.taken (sequence_free c.loop-at.invariant.told c.in-Sequence.channel c.if-sequences-i.false); told = told_sequence c.loop-at.invariant.told c.in-Sequence.channel c.in-Sequence.field-1 arm.in_table }

pub loop-at-preserved-else-tags-i-ne-ABSENT_WINDOW : goal.loop-at-preserved-else-tags-i-ne-ABSENT_WINDOW
loop-at-preserved-else-tags-i-ne-ABSENT_WINDOW c =
    let arm = stating c.args.end c.args.id c.args.datagram.now c.loop-at.at c.in-Some.kind c.in-Some.size c.loop-at.invariant.stated c.loop-at.invariant.reached c.loop-at-test.true c.first.ensures c.in-Some.is c.of_noted-answer.ensures.value c.of_noted-answer.ensures.placed (Item.Window c.in-Window.channel c.in-Window.window) (c.in-Ok.is ∙ ap Ok c.in-Window.is) in
    record { stated = _; reached = arm.taken (window_free c.loop-at.invariant.told c.in-Window.channel c.if-tags-i-ne-ABSENT_WINDOW.false); told = rw (c.window_tag.ensures, c.window_word.ensures) (told_window c.loop-at.invariant.told c.in-Window.channel c.in-Window.window arm.in_table) }

pub loop-at-preserved : goal.loop-at-preserved
loop-at-preserved c =
    let arm = stating c.args.end c.args.id c.args.datagram.now c.loop-at.at c.in-Some.kind c.in-Some.size c.loop-at.invariant.stated c.loop-at.invariant.reached c.loop-at-test.true c.first.ensures c.in-Some.is c.of_noted-answer.ensures.value c.of_noted-answer.ensures.placed (c.in-Ok.item) c.in-Ok.is in
    record { stated = _; reached = passing c.in-Ok.item c.in_default-item.not-Datalink c.in_default-item.not-Instance c.in_default-item.not-Context c.in_default-item.not-Status c.in_default-item.not-Sequence c.in_default-item.not-Window arm; told = c.loop-at.invariant.told }

pub returns-then-number-ne0 : goal.returns-then-number-ne0
returns-then-number-ne0 c =
    let ended : whole_of c.args.end c.args.id c.args.datagram.now ≡ finish_of (control_sort c.args.end c.args.id) c.loop-at.at c.loop-at.invariant.stated =
    ends _ _ c.loop-at.at c.loop-at.invariant.stated c.loop-at.invariant.reached c.loop-at-test.false in
    unnoted_is c.unnoted-then-number-ne0.ensures (refuses_whole _ _ _ c.loop-at.invariant.stated (fault_told c.loop-at.invariant.told c.args.end c.args.id c.fault-number.ensures) c.if-number-ne0.true ∙ sym ended)

pub returns : goal.returns
returns c =
    let ended : whole_of c.args.end c.args.id c.args.datagram.now ≡ finish_of (control_sort c.args.end c.args.id) c.loop-at.at c.loop-at.invariant.stated =
    ends _ _ c.loop-at.at c.loop-at.invariant.stated c.loop-at.invariant.reached c.loop-at-test.false in
    noted_is c.loop-at.invariant.told (accepts_whole _ _ _ c.loop-at.invariant.stated (fault_told c.loop-at.invariant.told c.args.end c.args.id c.fault-number.ensures) c.if-number-ne0.false ∙ sym ended)
