-- What a call of the endpoint says that it moved within the store of its channel: Offer, Next and Withdraw alike. Assumes nothing.
use Prim.Native.Nat.{ℕ, ◌≤◌, ◌<◌}
use mathlib.Core.Bool.{true}
use mathlib.Core.List.{List}
use mathlib.Core.Path.{◌≡◌, ◌∙◌}
use lib.ListN.{length}
use Rattle.quantity.specs.declared.count.ByteCount.{ByteCount}
use Rattle.store.specs.Waiting.{packets_of}
use Rattle.store.proofs.Moved.{displaced_withdrawing}
use Rattle.store_moves.specs.Moving.{Move, ToStart}
use Rattle.call_moves.specs.CallMoves.{stretches_by}
use Rattle.call_moves.proofs.CallMoves.{call_least, refused_none}
use Rattle.ips_channel_rules.specs.Rules.{ChannelCall, withdraw, refused}
use Rattle.ips_channel_rules.specs.Machine.{machine}
use Rattle.ips_channel_rules.proofs.Exact.{withdraw_is}
use Rattle.ips_channel_calls.specs.Calls.{Moves}
use Rattle.ips_state.specs.Memory.{World, world_fits, channel_in, store_in}
use Rattle.ips_run.specs.Calling.{terms_in, condition_in, result_in}
use Rattle.ips_run.proofs.Ordered.{in_order}
use Rattle.ips_run.proofs.Serving.{ready}
use Rattle.endpoint.specs.Calls.{moved_at, MovedAt}

module _ (w : World) (index : ℕ) (moved : ByteCount) where
  module _ (call : ChannelCall) (said : MovedAt call w index moved) where
    -- what it says is the count of the channel's own call: the bytes that have to move, by its definition
    pub said_moves : Moves w.state.datalink call (channel_in w index) (store_in w index) moved
    unfolding moved_at
    said_moves = said

    -- "Move each surviving byte at most once in a call": no list of moves that brings the packets that stay to the store's start is shorter
    pub said_least : world_fits w ≡ true → index < length w.state.channels → (ms : List Move)
        → ToStart (channel_in w index).setting.size.0 (stretches_by w.state.datalink call (channel_in w index) (store_in w index)) ms → moved.0 ≤ length ms
    said_least fits inside ms start =
        call_least (channel_in w index) (store_in w index) w.state.datalink call moved said_moves (ready (length w.state.channels) w (in_order w fits) index inside) ms start

    -- a refused call says 0
    pub said_none : (number : ℕ) → (result_in call w index).answer ≡ refused number → moved ≡ record { 0 = 0 }
    said_none number refuses = refused_none (channel_in w index) (store_in w index) w.state.datalink call moved said_moves number refuses

  -- and so does Withdraw, after which no packet stays
  pub withdraw_said_lem : MovedAt withdraw w index moved → moved ≡ record { 0 = 0 }
  unfolding moved_at
  withdraw_said_lem said = said ∙ rw (withdraw_is machine (terms_in w index) (condition_in w index), displaced_withdrawing (packets_of (channel_in w index).queue (store_in w index)))
