-- `offering::offer` meets its contract: each way out is a law of `OfferWays`. Assumes nothing.
use Rattle.std.proofs.Common.{true, ◌≡◌, sym, ◌∙◌}
use Rattle.ipv6.specs.Ipv6.{is_ipv6}
use Rattle.ips_channel_calls.proofs.Leaving.{ready_sound}
use Rattle.ips_channel_calls.proofs.OfferWays.{offers_not_ipv6, offers_long, offers_early, offers_past, offers_full, offers_taken}
use Rattle.ips_channel_calls.proofs.offering.offer.Goals as goal

pub returns-then-not-is_ipv6 : goal.returns-then-not-is_ipv6
returns-then-not-is_ipv6 c =
    let w = offers_not_ipv6 _ _ _ _ (sym c.is_ipv6.ensures ∙ c.if-not-is_ipv6.true) _ c.refused.ensures in
    record { serves_anywhere = w.0; moves_anywhere = w.1 }

pub returns-then-packet-longest_on : goal.returns-then-packet-longest_on
returns-then-packet-longest_on c =
    let ipv6 : is_ipv6 c.args.packet.now ≡ true = sym c.is_ipv6.ensures ∙ c.if-not-is_ipv6.false in
    let w = offers_long _ _ _ _ ipv6 c.requires _ c.longest_on.ensures c.if-packet-longest_on.true _ c.refused-then-packet-longest_on.ensures in
    record { serves_anywhere = w.0; moves_anywhere = w.1 }

pub returns-then-time-channel : goal.returns-then-time-channel
returns-then-time-channel c =
    let ipv6 : is_ipv6 c.args.packet.now ≡ true = sym c.is_ipv6.ensures ∙ c.if-not-is_ipv6.false in
    let w = offers_early _ _ _ _ ipv6 c.requires _ c.longest_on.ensures c.if-packet-longest_on.false c.if-time-channel.true _ c.refused-then-time-channel.ensures in
    record { serves_anywhere = w.0; moves_anywhere = w.1 }

pub returns-then-expiry-time : goal.returns-then-expiry-time
returns-then-expiry-time c =
    let ipv6 : is_ipv6 c.args.packet.now ≡ true = sym c.is_ipv6.ensures ∙ c.if-not-is_ipv6.false in
    let w = offers_past _ _ _ _ ipv6 c.requires _ c.longest_on.ensures c.if-packet-longest_on.false c.if-time-channel.false c.if-expiry-time.true _ c.refused-then-expiry-time.ensures in
    record { serves_anywhere = w.0; moves_anywhere = w.1 }

pub offer-requires : goal.offer-requires
offer-requires c = ready_sound _ _ c.requires

pub returns-in_default : goal.returns-in_default
returns-in_default c =
    let ipv6 : is_ipv6 c.args.packet.now ≡ true = sym c.is_ipv6.ensures ∙ c.if-not-is_ipv6.false in
    let w = offers_full _ _ _ _ ipv6 c.requires _ c.longest_on.ensures c.if-packet-longest_on.false c.if-time-channel.false c.if-expiry-time.false _ c.in_default.ensures.offering _ c.refused-in_default.ensures in
    record { serves_anywhere = w.0; moves_anywhere = w.1 }

pub returns : goal.returns
returns c =
    let ipv6 : is_ipv6 c.args.packet.now ≡ true = sym c.is_ipv6.ensures ∙ c.if-not-is_ipv6.false in
    let w = offers_taken _ _ _ _ ipv6 c.requires _ c.longest_on.ensures c.if-packet-longest_on.false c.if-time-channel.false c.if-expiry-time.false _ _ c.in-Some.ensures.offering _ c.with_queue.ensures c.in-Some.ensures.moved_value in
    record { serves_anywhere = w.0; moves_anywhere = w.1 }
