use Rattle.std.proofs.Common.{◌≡◌, ◌-◌, take, drop, length, length-drop, length-take-le, arith, sym}
use Rattle.octets.proofs.Search.{index_found, index_absent, slice_is}
use Rattle.octets.proofs.find.Goals as goal

pub returns-in-Some-clause-place : goal.returns-in-Some-clause-place
returns-in-Some-clause-place c =
    let at = index_found c.args.byte c.in-Some.at _ (sym c.in-Some.ensures) in
    rw (slice_is c.args.from c.args.to c.args.text.now c.requires.in_order) (omega (arith, at))

pub returns-in-None-clause-place : goal.returns-in-None-clause-place
returns-in-None-clause-place c =
    let part = take (c.args.to - c.args.from) (drop c.args.from c.args.text.now) in
    let all = index_absent c.args.byte part (sym c.in-None.ensures) in
    let whole : length part ≡ c.args.to - c.args.from = length-take-le (c.args.to - c.args.from) (drop c.args.from c.args.text.now) (simp length-drop (omega arith)) in
    rw (slice_is c.args.from c.args.to c.args.text.now c.requires.in_order) (omega (arith, all, whole))
