-- `offering::withdraw` meets its contract. Assumes nothing.
use Rattle.ips_channel_calls.proofs.Leaving.{withdraws, withdraw_moves}
use Rattle.ips_channel_calls.proofs.offering.withdraw.Goals as goal

pub returns : goal.returns
returns c =
    let ready = c.requires in
    record { serves_anywhere = withdraws _ _ ready _ _ _ c.clear-left.ensures.holds c.with_queue.ensures; moves_anywhere = withdraw_moves _ _ ready _ c.clear-left.ensures.moved_value }
