-- Next: what its code knows at each way out gives the rules' result. Assumes nothing.
use Rattle.std.specs.Prelude.{Option, Result, Ok, Err}
use Prim.Native.Nat.{ℕ, ◌<◌, ◌≤◌}
use mathlib.Core.Bool.{Bool, true, false, cond}
use mathlib.Core.Path.{◌≡◌, refl, sym, ap, ◌∙◌}
use mathlib.Core.List.{List, [], ◌∷◌, tail}
use lib.ListN.{length}
use Rattle.quantity.specs.declared.count.ByteCount.{ByteCount}
use Rattle.quantity.specs.declared.count.FlowSequence.{FlowSequence}
use Rattle.quantity.specs.declared.refusal.Refusal.{Refusal}
use Rattle.quantity.specs.Refusals.{EARLIER-TIME, NO-ROOM}
use Rattle.meaning.specs.Statuses.{operational}
use Rattle.writer.specs.Written.{no_room_of, Outcome}
use Rattle.store.specs.Packets.{Packet, alive, first_bytes}
use Rattle.store.specs.Moves.{expiring, sending}
use Rattle.store.specs.Waiting.{packets_of}
use Rattle.store.proofs.Held.{first_none}
use Rattle.store.proofs.Moved.{displaced_unchanging}
use Rattle.flow.specs.Counting.{may_go, sequence_on, carried_by}
use Rattle.ips_channel_rules.specs.Rules.{next, refusal, message_bytes}
use Rattle.ips_channel_rules.specs.Machine.{machine}
use Rattle.ips_channel_rules.proofs.Exact.{next_early, next_nothing, next_not_operational, next_shut, next_no_room, next_sent}
use Rattle.ips_channel.specs.declared.state.DatalinkSetting.{DatalinkSetting}
use Rattle.ips_channel.specs.declared.state.Channel.{Channel}
use Rattle.ips_channel_calls.specs.declared.asking.NextAnswer.{NextAnswer}
use Rattle.ips_channel_calls.specs.declared.outcome.CallOutcome.{CallOutcome}
use Rattle.ips_channel.specs.Channel.{terms_of, condition_of}
use Rattle.ips_channel_calls.specs.Calls.{refused_with, asked, channel_after, store_after, Ready, result_of, Serves, Moves, AnsweredWith}
use Rattle.ips_channel_calls.proofs.Leaving.{ready_alive}

-- a refusal, as the code gives it
abbrev pub Refused : Channel → ℕ → CallOutcome NextAnswer → Type 0
Refused c number r = r ≡ record { answer = Err (refused_with number); channel = c; moved = record { 0 = 0 } }

-- the first of the packets that wait
record SomeWaiting (ps : List Packet) : Type 0 where
  first : Packet
  rest : List Packet
  is : ps ≡ first ∷ rest
  bytes_are : first.bytes ≡ first_bytes ps

some : (ps : List Packet) → (length (first_bytes ps) ≡ 0 → ⊥) → SomeWaiting ps
unfolding first_bytes
some [] n = absurd (n refl)
some (p ∷ ps) n = record { first = p; rest = ps; is = refl; bytes_are = refl }

-- what a writer's answer to an allowed message tells of the room
answered : Bool → ByteCount → Result ByteCount Refusal
answered full n = cond full (Err (record { number = NO-ROOM; place = 0 })) (Ok n)

full_refused : (full : Bool) (n : ByteCount) (x : Refusal) → Err x ≡ answered full n → full ≡ true
unfolding answered
full_refused true n x e = refl
full_refused false n x e = cc

room_wrote : (full : Bool) (n m : ByteCount) → Ok m ≡ answered full n → (full ≡ false) × (m ≡ n)
unfolding answered
room_wrote true n m e = ((cc), (cc))
room_wrote false n m e = (refl, (cc))

module _ (c : Channel) (store : List ℕ) (datalink : DatalinkSetting) (time : ℕ) (out : List ℕ) where
  abbrev pub Asks : CallOutcome NextAnswer → (store' out' : List ℕ) → Type 0
  Asks r store' out' = Serves datalink (next time out) c store (asked r.answer out') r.channel store' × Moves datalink (next time out) c store r.moved

  refuses : (number : ℕ) (r : CallOutcome NextAnswer) → Refused c number r → result_of datalink (next time out) c store ≡ refusal machine number (condition_of c store)
      → Asks r store out
  unfolding channel_after store_after
  refuses number r k e = (record { reply_is = rw (k, e); channel_is = rw (k, e); store_is = rw e }, rw (k, e, displaced_unchanging (packets_of c.queue store)))

  pub asks_early : time < c.latest → (r : CallOutcome NextAnswer) → Refused c EARLIER-TIME r → Asks r store out
  unfolding condition_of
  asks_early t r k = refuses EARLIER-TIME r k (next_early machine (terms_of datalink c.setting) time (length out) (condition_of c store) t)

  -- the expired packets have left, and no other
  abbrev pub Expired : Result NextAnswer Refusal → CallOutcome NextAnswer → List ℕ → Type 0
  Expired answer r store' = AnsweredWith c answer (alive time (packets_of c.queue store)) c.sequence time (expiring time (packets_of c.queue store)) r store'

  -- the packets that are not expired, and the bytes of the first
  module _ (t : c.latest ≤ time) (bytes : ByteCount) (b : bytes ≡ record { 0 = length (first_bytes (alive time (packets_of c.queue store))) }) where
    pub asks_nothing : bytes.0 ≡ 0 → Ready c store → (r : CallOutcome NextAnswer) (store' : List ℕ) → Expired (Ok NextAnswer.NothingWaiting) r store' → Asks r store' out
    unfolding condition_of channel_after store_after
    asks_nothing n ready r store' x =
        let none = first_none c.setting.size.0 (alive time (packets_of c.queue store)) (ready_alive c store ready time) (ap (λ (x : ByteCount). x.0) (sym b) ∙ n) in
        let result = next_nothing machine (terms_of datalink c.setting) time (length out) (condition_of c store) t none in
        (record { reply_is = rw (result, x.answer_is); channel_is = rw result x.left.channel_is; store_is = rw result x.left.store_is }, rw result x.moved_is)

    module _ (n : bytes.0 ≡ 0 → ⊥) where
      here : SomeWaiting (alive time (packets_of c.queue store))
      here = some (alive time (packets_of c.queue store)) (λ z. n (ap (λ (x : ByteCount). x.0) b ∙ z))

      bytes_here : bytes ≡ record { 0 = length here.first.bytes }
      bytes_here = rw here.bytes_are b

      pub asks_not_operational : operational datalink.codes c.status ≡ false → (r : CallOutcome NextAnswer) (store' : List ℕ) → Expired (Ok NextAnswer.NotOperational) r store' → Asks r store' out
      unfolding condition_of channel_after store_after
      asks_not_operational o r store' x =
          let result = next_not_operational machine (terms_of datalink c.setting) time (length out) (condition_of c store) t here.first here.rest here.is o in
          (record { reply_is = rw (result, x.answer_is); channel_is = rw result x.left.channel_is; store_is = rw result x.left.store_is }, rw result x.moved_is)

      module _ (o : operational datalink.codes c.status ≡ true) where
        pub asks_shut : may_go c.flow c.sequence bytes ≡ false → (r : CallOutcome NextAnswer) (store' : List ℕ) → Expired (Ok NextAnswer.WindowShut) r store' → Asks r store' out
        unfolding condition_of channel_after store_after
        asks_shut f r store' x =
            let result = next_shut machine (terms_of datalink c.setting) time (length out) (condition_of c store) t here.first here.rest here.is o (rw bytes_here at f) in
            (record { reply_is = rw (result, x.answer_is); channel_is = rw result x.left.channel_is; store_is = rw result x.left.store_is }, rw result x.moved_is)

        -- the sequence after the packet, the one that is carried, and what was written
        module _ (f : may_go c.flow c.sequence bytes ≡ true) (after : FlowSequence) (a : after ≡ sequence_on c.flow c.sequence bytes)
            (carried : Option FlowSequence) (s : carried ≡ carried_by c.flow after) (w : Result ByteCount Refusal) (out' : List ℕ)
            (h : Outcome true (message_bytes (terms_of datalink c.setting) carried (first_bytes (alive time (packets_of c.queue store)))) out w out') where
          abbrev Sent : List ℕ
          Sent = message_bytes (terms_of datalink c.setting) (carried_by c.flow (sequence_on c.flow c.sequence (record { 0 = length here.first.bytes }))) here.first.bytes

          written : Outcome true Sent out w out'
          written = rw (s, a, bytes_here, ← here.bytes_are) at h

          pub asks_no_room : (x : Refusal) → w ≡ Err x → (r : CallOutcome NextAnswer) → Refused c NO-ROOM r → Asks r store out'
          unfolding condition_of answered
          asks_no_room x k r e =
              let full = full_refused (no_room_of (length Sent) (length out)) (record { 0 = length Sent }) x (sym k ∙ written.answers) in
              let same : out' ≡ out = rw full at written.bytes_are in
              rw same
              (refuses NO-ROOM r e (next_no_room machine (terms_of datalink c.setting) time (length out) (condition_of c store) t here.first here.rest here.is o (rw bytes_here at f) full))

          pub asks_sent : (m : ByteCount) → w ≡ Ok m → (r : CallOutcome NextAnswer) (store' : List ℕ)
              → AnsweredWith c (Ok (NextAnswer.Sent m)) (tail (alive time (packets_of c.queue store))) after time (sending time (packets_of c.queue store)) r store' → Asks r store' out'
          unfolding condition_of channel_after store_after answered
          asks_sent m k r store' x =
              let room = room_wrote (no_room_of (length Sent) (length out)) (record { 0 = length Sent }) m (sym k ∙ written.answers) in
              let result = next_sent machine (terms_of datalink c.setting) time (length out) (condition_of c store) t here.first here.rest here.is o (rw bytes_here at f) room.0 in (
                record {
                  reply_is = rw (result, x.answer_is, room.1, rw room.0 at written.bytes_are);
                  channel_is = rw result (rw (a, bytes_here) at x.left.channel_is);
                  store_is = rw result x.left.store_is;
                },
                rw result x.moved_is,
              )
