use lib.ListN.{length, drop}
use Rattle.store.specs.Packets.{alive, joined}
use Rattle.store.specs.Waiting.{waiting}
use Rattle.store.specs.Parts.{packets_from, displaced_between, leaving}
use Rattle.store.proofs.Turns.{Going}
use Rattle.store.proofs.Moved.{Counting}
use Rattle.store.proofs.waiting.compact.Given as goal

abbrev pub invariant-loop-at : goal.invariant-loop-at
invariant-loop-at l = Going l.time (joined (alive l.time (packets_from l.queue l.initial.store l.index l.start))) (length l.initial.store) (drop l.at (waiting l.queue)) l.store l.from l.to
    × Counting l.time (displaced_between l.start 0 (leaving l.time (drop l.index (waiting l.queue)))) (drop l.at (waiting l.queue)) l.from l.to l.moved
