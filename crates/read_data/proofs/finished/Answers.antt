-- `finished` makes the tests on the whole, 9, 10, 11. Assumes nothing.
use Rattle.std.specs.Prelude.{Some}
use borrow.Author.Tests.{eq-eqb, ne_eqb}
use mathlib.Core.Path.{◌≡◌, sym}
use mathlib.Core.Bool.{true}
use Rattle.read_rules.specs.Sorts.{finish_of}
use Rattle.read_data.specs.Message.{pairs, data_unstated, data_accepted}
use Rattle.read_data.proofs.finished.Goals as goal

pub returns-in_default : goal.returns-in_default
unfolding finish_of data_unstated
returns-in_default c = λ end. rw c.in_default.is c.refused.ensures

pub returns-then-not-packet : goal.returns-then-not-packet
unfolding finish_of data_unstated
returns-then-not-packet c = λ end. rw (c.in-Some.is, c.if-not-packet.true) c.refused-then-not-packet.ensures

pub returns-then-not-is_paired : goal.returns-then-not-is_paired
unfolding finish_of data_unstated
returns-then-not-is_paired c = let p = (let the_paired : let args = c.args in let m = args.message in (m.datalink ≡ Some c.in-Some.named) × (args.packet ≡ true) × (pairs m.sequence m.channel ≡ c.is_paired.result) = (c.in-Some.is, c.if-not-packet.false, sym c.is_paired.ensures) in the_paired) in λ end. rw (p.0, p.1, p.2, c.if-not-is_paired.true) c.refused-then-not-is_paired.ensures

pub returns-then-named-id : goal.returns-then-named-id
unfolding finish_of data_unstated
returns-then-named-id c =
    let p = (let the_paired : let args = c.args in let m = args.message in (m.datalink ≡ Some c.in-Some.named) × (args.packet ≡ true) × (pairs m.sequence m.channel ≡ c.is_paired.result) = (c.in-Some.is, c.if-not-packet.false, sym c.is_paired.ensures) in the_paired) in
    λ end. rw (p.0, p.1, p.2, c.if-not-is_paired.false, ne_eqb _ _ c.if-named-id.true) c.refused-then-named-id.ensures

pub returns : goal.returns
unfolding finish_of data_unstated data_accepted
returns c =
    let p = (let the_paired : let args = c.args in let m = args.message in (m.datalink ≡ Some c.in-Some.named) × (args.packet ≡ true) × (pairs m.sequence m.channel ≡ c.is_paired.result) = (c.in-Some.is, c.if-not-packet.false, sym c.is_paired.ensures) in the_paired) in
    λ end. rw (p.0, p.1, p.2, c.if-not-is_paired.false, eq-eqb _ _ c.if-named-id.false)
