-- `packet::packet` meets its contract. The loop's invariant: the packet is the one that the options from here on have. Assumes nothing.
use mathlib.Core.Path.{refl, sym, ◌∙◌}
use native.Mathlib.Omega.{arith}
use Rattle.read_data.specs.Packet.{packet_of}
use Rattle.read_data.proofs.Carried.{none_left, cut_off_lem, Turned, inside, here, further}
use Rattle.read_data.proofs.packet.packet.Goals as goal

pub loop-at-init : goal.loop-at-init
unfolding packet_of
loop-at-init c =
    refl

pub returns-in_default : goal.returns-in_default
returns-in_default c =
    cut_off_lem _ c.loop-at.at c.loop-at.invariant c.loop-at-test.true (sym c.in_default.is ∙ c.first.ensures)

pub overflow_add-to : goal.overflow_add-to
overflow_add-to c =
    let turned : Turned (packet_of c.args.datagram.now) c.args.datagram.now c.loop-at.at c.in-Some.kind c.in-Some.size = record { so_far = c.loop-at.invariant; frame = sym c.in-Some.is ∙ c.first.ensures } in
    omega (arith, inside turned)

pub slice_bounds-result-end-then-kind : goal.slice_bounds-result-end-then-kind
slice_bounds-result-end-then-kind c =
    let turned : Turned (packet_of c.args.datagram.now) c.args.datagram.now c.loop-at.at c.in-Some.kind c.in-Some.size = record { so_far = c.loop-at.invariant; frame = sym c.in-Some.is ∙ c.first.ensures } in
    inside turned

pub returns-then-kind : goal.returns-then-kind
returns-then-kind c =
    let turned : Turned (packet_of c.args.datagram.now) c.args.datagram.now c.loop-at.at c.in-Some.kind c.in-Some.size = record { so_far = c.loop-at.invariant; frame = sym c.in-Some.is ∙ c.first.ensures } in
    here turned c.if-kind.true

pub loop-at-preserved : goal.loop-at-preserved
loop-at-preserved c =
    let turned : Turned (packet_of c.args.datagram.now) c.args.datagram.now c.loop-at.at c.in-Some.kind c.in-Some.size = record { so_far = c.loop-at.invariant; frame = sym c.in-Some.is ∙ c.first.ensures } in
    further turned c.if-kind.false

pub returns : goal.returns
returns c =
    none_left _ c.loop-at.at c.loop-at.invariant c.loop-at-test.false
