-- `option::of_data` meets its contract, arm by arm: what the message may hold and no other arm takes is Flow Sequence. Assumes nothing.
use Rattle.std.specs.Prelude.{Ok}
use mathlib.Core.Path.{◌≡◌, sym, ◌∙◌}
use mathlib.Core.Bool.{true, false}
use native.Mathlib.Omega.{arith}
use Rattle.std.proofs.lemmas.Grind.{common_steps}
use Rattle.meaning.specs.declared.message.Plane.{Plane}
use Rattle.meaning.specs.Kinds.{among, may_hold, length_listed, value_listed}
use Rattle.read_option.specs.declared.answer.Item.{Item}
use Rattle.read_option.specs.Items.{item_of, stated_of}
use Rattle.read_option.proofs.Contents.{answer_listed, answer_unlisted, data_keys, data_left}
use Rattle.read_option.proofs.option.of_data.Goals as goal

pub returns-then-not-may_hold : goal.returns-then-not-may_hold
returns-then-not-may_hold c =
    let both = answer_unlisted Plane.Data c.args.end c.args.kind c.args.content.now (sym c.may_hold.ensures ∙ c.if-not-may_hold.true) c.unlisted.ensures in
    record { value = both.0; placed = both.1 }

pub returns-in-1 : goal.returns-in-1
returns-in-1 c =
    let held : among c.args.kind (may_hold Plane.Data c.args.end) ≡ true = sym c.may_hold.ensures ∙ c.if-not-may_hold.false in
    let stated : c.datalink.result ≡ stated_of c.args.kind c.args.content.now = rw c.in-1.is c.datalink.ensures in
    let both = answer_listed Plane.Data c.args.end c.args.kind c.args.content.now held stated in
    record { value = both.0; placed = both.1 }

pub returns-in-128 : goal.returns-in-128
unfolding stated_of length_listed value_listed item_of
returns-in-128 c =
    let held : among c.args.kind (may_hold Plane.Data c.args.end) ≡ true = sym c.may_hold.ensures ∙ c.if-not-may_hold.false in
    let stated : Ok Item.Packet ≡ stated_of c.args.kind c.args.content.now = rw c.in-128.is in
    let both = answer_listed Plane.Data c.args.end c.args.kind c.args.content.now held stated in
    record { value = both.0; placed = both.1 }

pub returns-in-129 : goal.returns-in-129
returns-in-129 c =
    let held : among c.args.kind (may_hold Plane.Data c.args.end) ≡ true = sym c.may_hold.ensures ∙ c.if-not-may_hold.false in
    let stated : c.channel.result ≡ stated_of c.args.kind c.args.content.now = rw c.in-129.is c.channel.ensures in
    let both = answer_listed Plane.Data c.args.end c.args.kind c.args.content.now held stated in
    record { value = both.0; placed = both.1 }

pub returns-in-130 : goal.returns-in-130
returns-in-130 c =
    let held : among c.args.kind (may_hold Plane.Data c.args.end) ≡ true = sym c.may_hold.ensures ∙ c.if-not-may_hold.false in
    let stated : c.expiration.result ≡ stated_of c.args.kind c.args.content.now = rw c.in-130.is c.expiration.ensures in
    let both = answer_listed Plane.Data c.args.end c.args.kind c.args.content.now held stated in
    record { value = both.0; placed = both.1 }

pub returns-in_default : goal.returns-in_default
returns-in_default c =
    let held : among c.args.kind (may_hold Plane.Data c.args.end) ≡ true = sym c.may_hold.ensures ∙ c.if-not-may_hold.false in
    let none : among c.args.kind data_keys ≡ false = grind (arith, common_steps) in
    let stated : c.sequence.result ≡ stated_of c.args.kind c.args.content.now = rw (data_left c.args.end c.args.kind held none) c.sequence.ensures in
    let both = answer_listed Plane.Data c.args.end c.args.kind c.args.content.now held stated in
    record { value = both.0; placed = both.1 }
