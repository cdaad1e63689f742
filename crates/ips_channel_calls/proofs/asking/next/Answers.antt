-- `asking::next` meets its contract: each way out is a law of `NextWays`. Assumes nothing.
use mathlib.Core.Bool.{true}
use mathlib.Core.Path.{◌≡◌, sym, ◌∙◌}
use Rattle.meaning.specs.Statuses.{operational}
use Rattle.flow.specs.Counting.{may_go}
use Rattle.ips_channel_calls.proofs.NextWays.{asks_early, asks_nothing, asks_not_operational, asks_shut, asks_no_room, asks_sent}
use Rattle.ips_channel_calls.proofs.asking.next.Goals as goal

pub returns-then-time-channel : goal.returns-then-time-channel
returns-then-time-channel c =
    let w = asks_early _ _ _ _ _ c.if-time-channel.true _ c.refused.ensures in
    record { serves = w.0; moves = w.1 }

pub returns-then-bytes-eq0 : goal.returns-then-bytes-eq0
returns-then-bytes-eq0 c =
    let w = asks_nothing _ _ _ _ _ c.if-time-channel.false _ c.first_length-bytes.ensures c.if-bytes-eq0.true c.requires _ _ c.expired.ensures in
    record { serves = w.0; moves = w.1 }

pub returns-then-not-is_operational : goal.returns-then-not-is_operational
returns-then-not-is_operational c =
    let w = asks_not_operational _ _ _ _ _ c.if-time-channel.false _ c.first_length-bytes.ensures c.if-bytes-eq0.false (sym c.is_operational.ensures ∙ c.if-not-is_operational.true) _ _ c.expired-then-not-is_operational.ensures in
    record { serves = w.0; moves = w.1 }

pub returns-then-not-may_go : goal.returns-then-not-may_go
returns-then-not-may_go c =
    let up : operational c.args.datalink.codes c.args.channel.status ≡ true = sym c.is_operational.ensures ∙ c.if-not-is_operational.false in
    let w = asks_shut _ _ _ _ _ c.if-time-channel.false _ c.first_length-bytes.ensures c.if-bytes-eq0.false up (sym c.may_go.ensures ∙ c.if-not-may_go.true) _ _ c.expired-then-not-may_go.ensures in
    record { serves = w.0; moves = w.1 }

pub returns-in_default : goal.returns-in_default
returns-in_default c =
    let up : operational c.args.datalink.codes c.args.channel.status ≡ true = sym c.is_operational.ensures ∙ c.if-not-is_operational.false in
    let go : may_go c.args.channel.flow c.args.channel.sequence c.first_length-bytes.result ≡ true = sym c.may_go.ensures ∙ c.if-not-may_go.false in
    let w = asks_no_room _ _ _ _ _ c.if-time-channel.false _ c.first_length-bytes.ensures c.if-bytes-eq0.false up go _ c.counted-after.ensures _ c.carried-carried.ensures _ _ c.write_first.ensures _ c.in_default.is _ c.refused-in_default.ensures in
    record { serves = w.0; moves = w.1 }

pub returns : goal.returns
returns c =
    let up : operational c.args.datalink.codes c.args.channel.status ≡ true = sym c.is_operational.ensures ∙ c.if-not-is_operational.false in
    let go : may_go c.args.channel.flow c.args.channel.sequence c.first_length-bytes.result ≡ true = sym c.may_go.ensures ∙ c.if-not-may_go.false in
    let w = asks_sent _ _ _ _ _ c.if-time-channel.false _ c.first_length-bytes.ensures c.if-bytes-eq0.false up go _ c.counted-after.ensures _ c.carried-carried.ensures _ _ c.write_first.ensures _ c.in-Ok.is _ _ c.sent.ensures in
    record { serves = w.0; moves = w.1 }
