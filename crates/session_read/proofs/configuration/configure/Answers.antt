-- `configuration::configure` meets its contract. Assumes nothing.
use native.Mathlib.Omega.{arith}
use Rattle.session_read.specs.Start.{hello_of, limit_of}
use Rattle.session_read.proofs.Configuring.{pace_fits, configured}
use Rattle.session_read.proofs.configuration.configure.Goals as goal

pub perhaps-hello-requires : goal.perhaps-hello-requires
perhaps-hello-requires c = omega (arith, c.pace_place-pace.ensures, pace_fits c.requires.start_fits)

pub perhaps-limit-requires : goal.perhaps-limit-requires
perhaps-limit-requires c = omega (arith, c.pace_place-pace.ensures, pace_fits c.requires.start_fits)

pub returns : goal.returns
unfolding hello_of limit_of
returns c =
    let hello = rw c.pace_place-pace.ensures at c.perhaps-hello.ensures in
    let limit = rw c.pace_place-pace.ensures at c.perhaps-limit.ensures in
    configured _ c.args.words.now hello limit c.codes-codes.ensures c.write_head.ensures c.lay.ensures
