-- `option::first` meets its contract: each way out is a law of `frame_of`. Assumes nothing.
use mathlib.Core.Path.{◌≡◌, ap, ◌∙◌}
use native.Mathlib.Omega.{arith}
use lib.ListN.{get_or}
use Rattle.wire.specs.Options.{length_at}
use Rattle.wire.proofs.Options.{whole, frame_short, frame_past, frame_whole}
use Rattle.wire.proofs.option.first.Goals as goal

pub returns-then-rest-lt-FRAME_SIZE : goal.returns-then-rest-lt-FRAME_SIZE
returns-then-rest-lt-FRAME_SIZE c = frame_short _ c.if-rest-lt-FRAME_SIZE.true

pub returns-then-rest-size : goal.returns-then-rest-size
returns-then-rest-size c =
    let rest = c.args.rest.now in
    let size : c.read-size.result ≡ length_at rest = c.read-size.ensures.value in
    frame_past rest c.if-rest-lt-FRAME_SIZE.false (omega (arith, c.if-rest-size.true))

pub returns : goal.returns
returns c =
    let rest = c.args.rest.now in
    let size : c.read-size.result ≡ length_at rest = c.read-size.ensures.value in
    ap (whole (get_or rest 0 0)) size ∙ frame_whole rest (omega (arith, c.if-rest-size.false, c.if-rest-lt-FRAME_SIZE.false))
