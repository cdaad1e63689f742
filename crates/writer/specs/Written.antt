-- The one way in which a meaning is written. "The writer's order: Datalink Identifier, Link Instance, Context, Channel Status, Flow Sequence or
-- Flow Window, each by rising Channel ID, then Channel Identifier, Expiration Time, Packet Data."
use Rattle.quantity.specs.declared.count.ByteCount.{ByteCount}
use Rattle.quantity.specs.declared.refusal.Refusal.{Refusal}
use Rattle.std.specs.Prelude.{ℕ, List, ◌∷◌, ◌≡◌, Bool, cond, ◌||◌, length, ltb, Result, Ok, Err}
use Rattle.quantity.specs.Limits.{LONGEST-DATAGRAM}
use Rattle.quantity.specs.Refusals.{NO-ROOM, NOT-WRITABLE}
use Rattle.wire.specs.Options.{Options, done, option, bytes, over}
use Rattle.meaning.specs.declared.message.Control.{Control}
use Rattle.meaning.specs.declared.message.Data.{Data}
use Rattle.meaning.specs.Kinds.{PACKET-DATA}
pub use Rattle.write_option.specs.Parts.{datalink_then, instance_then, context_then, status_then, sequence_then, window_then, statuses_then, sequences_then, windows_then, counted_then, channel_then, expiration_then}
unfoldable pub use Rattle.write_option.specs.Parts.{table_then}

unfoldable pub control_options : Control → Options
control_options m =
    datalink_then m.datalink
    (instance_then m.instance
    (context_then m.context (statuses_then m.statuses (sequences_then m.sequences (windows_then m.windows done)))))

unfoldable pub data_options : Data → List ℕ → Options
data_options m packet =
    datalink_then m.datalink (counted_then m.sequence (channel_then m.channel (expiration_then m.expiration (option PACKET-DATA packet done))))

-- section 3.1: version 1, the Data Plane flag, three unused bits
abbrev pub CONTROL-HEADER : ℕ
CONTROL-HEADER = 16

abbrev pub DATA-HEADER : ℕ
DATA-HEADER = 24

unfoldable pub control_written : Control → List ℕ
control_written m = CONTROL-HEADER ∷ bytes (control_options m)

unfoldable pub data_written : Data → List ℕ → List ℕ
data_written m packet = DATA-HEADER ∷ bytes (data_options m packet)

-- number 18: "the output is shorter than it or it is over 65,507 bytes"
abbrev pub no_room_of : ℕ → ℕ → Bool
no_room_of size room = ltb room size || ltb LONGEST-DATAGRAM size

-- WRITING: 20, then 18, then the message over the first bytes of the output; "bytes behind the message stay"
abbrev pub answer_to : Bool → List ℕ → ℕ → Result ByteCount Refusal
answer_to allowed message room =
    cond allowed
    (cond (no_room_of (length message) room) (Err (record { number = NO-ROOM; place = 0 })) (Ok (record { 0 = length message })))
    (Err (record { number = NOT-WRITABLE; place = 0 }))

abbrev pub out_after : Bool → List ℕ → List ℕ → List ℕ
out_after allowed message out = cond allowed (cond (no_room_of (length message) (length out)) out (over message out)) out

-- the outcome of writing a message that is allowed or not into an output: the answer, and every byte of the output
pub record Outcome (allowed : Bool) (message out : List ℕ) (answer : Result ByteCount Refusal) (out' : List ℕ) : Type 0 where
  pub answers : answer ≡ answer_to allowed message (length out)
  pub bytes_are : out' ≡ out_after allowed message out
