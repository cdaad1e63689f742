-- `option::of_control` meets its contract, arm by arm: what the message may hold and no other arm takes is Flow Sequence. Assumes nothing.
use mathlib.Core.Path.{◌≡◌, sym, ◌∙◌}
use mathlib.Core.Bool.{true, false}
use native.Mathlib.Omega.{arith}
use Rattle.std.proofs.lemmas.Grind.{common_steps}
use Rattle.meaning.specs.declared.message.Plane.{Plane}
use Rattle.meaning.specs.Kinds.{among, may_hold}
use Rattle.read_option.specs.Items.{stated_of}
use Rattle.read_option.proofs.Contents.{answer_listed, answer_unlisted, control_keys, control_left}
use Rattle.read_option.proofs.option.of_control.Goals as goal

pub returns-then-not-may_hold : goal.returns-then-not-may_hold
returns-then-not-may_hold c =
    let both = answer_unlisted Plane.Control c.args.end c.args.kind c.args.content.now (sym c.may_hold.ensures ∙ c.if-not-may_hold.true) c.unlisted.ensures in
    record { value = both.0; placed = both.1 }

pub returns-in-1 : goal.returns-in-1
returns-in-1 c =
    let held : among c.args.kind (may_hold Plane.Control c.args.end) ≡ true = sym c.may_hold.ensures ∙ c.if-not-may_hold.false in
    let stated : c.datalink.result ≡ stated_of c.args.kind c.args.content.now = rw c.in-1.is c.datalink.ensures in
    let both = answer_listed Plane.Control c.args.end c.args.kind c.args.content.now held stated in
    record { value = both.0; placed = both.1 }

pub returns-in-3 : goal.returns-in-3
returns-in-3 c =
    let held : among c.args.kind (may_hold Plane.Control c.args.end) ≡ true = sym c.may_hold.ensures ∙ c.if-not-may_hold.false in
    let stated : c.instance.result ≡ stated_of c.args.kind c.args.content.now = rw c.in-3.is c.instance.ensures in
    let both = answer_listed Plane.Control c.args.end c.args.kind c.args.content.now held stated in
    record { value = both.0; placed = both.1 }

pub returns-in-4 : goal.returns-in-4
returns-in-4 c =
    let held : among c.args.kind (may_hold Plane.Control c.args.end) ≡ true = sym c.may_hold.ensures ∙ c.if-not-may_hold.false in
    let stated : c.context.result ≡ stated_of c.args.kind c.args.content.now = rw c.in-4.is c.context.ensures in
    let both = answer_listed Plane.Control c.args.end c.args.kind c.args.content.now held stated in
    record { value = both.0; placed = both.1 }

pub returns-in-5 : goal.returns-in-5
returns-in-5 c =
    let held : among c.args.kind (may_hold Plane.Control c.args.end) ≡ true = sym c.may_hold.ensures ∙ c.if-not-may_hold.false in
    let stated : c.status.result ≡ stated_of c.args.kind c.args.content.now = rw c.in-5.is c.status.ensures in
    let both = answer_listed Plane.Control c.args.end c.args.kind c.args.content.now held stated in
    record { value = both.0; placed = both.1 }

pub returns-in-6 : goal.returns-in-6
returns-in-6 c =
    let held : among c.args.kind (may_hold Plane.Control c.args.end) ≡ true = sym c.may_hold.ensures ∙ c.if-not-may_hold.false in
    let stated : c.window.result ≡ stated_of c.args.kind c.args.content.now = rw c.in-6.is c.window.ensures in
    let both = answer_listed Plane.Control c.args.end c.args.kind c.args.content.now held stated in
    record { value = both.0; placed = both.1 }

pub returns-in_default : goal.returns-in_default
returns-in_default c =
    let held : among c.args.kind (may_hold Plane.Control c.args.end) ≡ true = sym c.may_hold.ensures ∙ c.if-not-may_hold.false in
    let none : among c.args.kind control_keys ≡ false = grind (arith, common_steps) in
    let stated : c.sequence.result ≡ stated_of c.args.kind c.args.content.now = rw (control_left c.args.end c.args.kind held none) c.sequence.ensures in
    let both = answer_listed Plane.Control c.args.end c.args.kind c.args.content.now held stated in
    record { value = both.0; placed = both.1 }
