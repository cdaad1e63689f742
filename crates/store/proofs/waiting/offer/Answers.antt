-- `waiting::offer` meets its contract: what is judged, and each way out, are laws of `Changes`. Assumes nothing.
use Rattle.std.proofs.Common.{refl, ◌∙◌, ◌<◌, arith}
use Rattle.quantity.specs.Limits.{MOST-WAITING}
use Rattle.store.specs.Packets.{packet_for}
use Rattle.store.proofs.Held.{holds_count}
use Rattle.store.proofs.Changes.{load_fits, judged, room_for, pushed}
use Rattle.store.proofs.Moved.{offered_moves}
use Rattle.store.proofs.waiting.offer.Goals as goal

pub is_full-requires : goal.is_full-requires
is_full-requires c = omega (arith, load_fits _ _ _ _ c.requires c.load-amount.ensures)

pub returns-then-is_full : goal.returns-then-is_full
returns-then-is_full c = record { offering = (judged _ _ _ _ c.requires c.load-amount.ensures (packet_for c.args.packet.now c.args.expiry) _ c.is_full.ensures ∙ c.if-is_full.true, refl); moved_value = tt }

pub join-queue-requires : goal.join-queue-requires
join-queue-requires c =
    let room = room_for _ _ _ _ c.requires c.load-amount.ensures (packet_for c.args.packet.now c.args.expiry) _ c.is_full.ensures c.if-is_full.false in
    let few : c.expire-left.result.queue.count < MOST-WAITING = omega (arith, room.few, holds_count _ _ _ _ c.expire-left.ensures.holds) in
    (few, omega (arith, room.fits, c.expire-left.auto.store))

pub returns : goal.returns
returns c =
    let room = room_for _ _ _ _ c.requires c.load-amount.ensures (packet_for c.args.packet.now c.args.expiry) _ c.is_full.ensures c.if-is_full.false in
    record {
      offering = (room.not_full, pushed _ _ _ _ _ _ _ _ _ c.expire-left.ensures.holds room.used room.few c.join-queue.ensures.value c.join-queue.ensures.store_after);
      moved_value = offered_moves _ _ _ _ room.not_full _ c.expire-left.ensures.moved_value;
    }
