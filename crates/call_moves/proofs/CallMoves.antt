-- The packets that count as leaving by a call are those that leave, and no way to have them leave moves fewer bytes. Assumes nothing.
use Prim.Native.Nat.{ℕ, ◌≤◌}
use mathlib.Core.Path.{◌≡◌, refl, sym, ◌∙◌}
use mathlib.Core.List.{List, [], ◌∷◌, ◌++◌, tail, append_assoc, append-nil}
use native.Mathlib.Nat.{add-zero}
use lib.ListN.{length, length-append}
use lib.Seq.{take-append_seam}
use Rattle.quantity.specs.declared.count.ByteCount.{ByteCount}
use Rattle.store.specs.Packets.{Packet, alive, joined}
use Rattle.store.specs.Moves.{Stretch, expiring, unchanging}
use Rattle.store.specs.Waiting.{packets_of, store_of}
use Rattle.store.proofs.Held.{well_fit, joined_append}
use Rattle.store.proofs.Moved.{displaced_unchanging}
use Rattle.store_moves.specs.Moving.{Move, ToStart, Marked}
use Rattle.store_moves.proofs.Waiting.{marked_expiring, marked_sending, marked_withdrawing, marked_unchanging, staying_marked, joined_start, remaining_kept, marked_least}
use Rattle.ips_channel_rules.specs.Rules.{ChannelCall, offer, next, withdraw, Taken, Tried, Terms, refused, AfterCall, refusal, left}
use Rattle.ips_channel_rules.specs.Machine.{WordCounter, machine}
use Rattle.ips_channel_rules.specs.Exactly.{Offered, offered_not_ipv6, offered_long, offered_early, offered_past, offered_full, offered_taken, Asked, asked_early, asked_nothing, asked_not_operational, asked_shut, asked_no_room, asked_sent}
use Rattle.ips_channel_rules.proofs.Exact.{offered, asked, withdraw_is}
use Rattle.ips_channel.specs.declared.state.DatalinkSetting.{DatalinkSetting}
use Rattle.ips_channel.specs.declared.state.Channel.{Channel}
use Rattle.ips_channel.specs.Channel.{terms_of, condition_of}
use Rattle.ips_channel_calls.specs.Calls.{store_after, Ready, result_of, leaving_by, Moves}
use Rattle.call_moves.specs.CallMoves.{joining_by, Leaves, stretches_by, LeavesBy}

module _ (c : Channel) (store : List ℕ) where
  -- after a refusal all wait that waited
  unchanged : {A : Type 0} (number : ℕ) → Leaves {A = A} c store (unchanging (packets_of c.queue store)) [] (refusal machine number (condition_of c store))
  unfolding store_after condition_of joined
  unchanged number =
      let ps = packets_of c.queue store in
      let m = marked_unchanging ps in
      record {
        kept = ps;
        marked = m;
        waiting_is = sym (append-nil ps);
        count_is = rw (staying_marked m, add-zero);
        start_is = rw (staying_marked m, remaining_kept c.queue store m) (joined_start c.queue store);
      }

  -- after an answer those wait that stay, and the one that joined
  changed : {A : Type 0} (says : A) (counting : WordCounter) (time : ℕ) {xs : List Stretch} {kept : List Packet} → Marked (packets_of c.queue store) xs kept
      → (keeping joining : List Packet) → keeping ≡ kept ++ joining → Leaves c store xs joining (left machine says counting keeping time (condition_of c store))
  unfolding store_after store_of
  changed says counting time {xs} {kept} m keeping joining e = record {
    kept = kept;
    marked = m;
    waiting_is = e;
    count_is = rw (staying_marked m, e, joined_append kept joining, length-append);
    start_is = rw (staying_marked m, remaining_kept c.queue store m, e, joined_append kept joining, append_assoc, take-append_seam);
  }

  module _ (k : Terms) where
    expired : (says : Tried) (counting : WordCounter) (time : ℕ)
        → Leaves c store (expiring time (packets_of c.queue store)) [] (left machine says counting (alive time (packets_of c.queue store)) time (condition_of c store))
    expired says counting time =
        changed says counting time (marked_expiring time (packets_of c.queue store)) _ [] (sym (append-nil (alive time (packets_of c.queue store))))

    by_offer : {p : Packet} {time : ℕ} (r : AfterCall machine Taken) → Offered machine k p time (condition_of c store) r
        → Leaves c store (leaving_by (offer p time) r.answer (packets_of c.queue store)) (joining_by (offer p time) r.answer) r
    unfolding condition_of
    by_offer _ (offered_not_ipv6 v) = unchanged _
    by_offer _ (offered_long v l) = unchanged _
    by_offer _ (offered_early v l t) = unchanged _
    by_offer _ (offered_past v l t x) = unchanged _
    by_offer _ (offered_full v l t x f) = unchanged _
    by_offer {p} {time} _ (offered_taken v l t x f) = changed _ _ _ (marked_expiring time (packets_of c.queue store)) _ (p ∷ []) refl

    by_next : {time : ℕ} (out : List ℕ) (r : AfterCall machine Tried) → Asked machine k time (length out) (condition_of c store) r
        → Leaves c store (leaving_by (next time out) r.answer (packets_of c.queue store)) [] r
    unfolding condition_of
    by_next out _ (asked_early t) = unchanged _
    by_next {time} out _ (asked_nothing t w) = expired _ _ time
    by_next {time} out _ (asked_not_operational t w o) = expired _ _ time
    by_next {time} out _ (asked_shut t w o f) = expired _ _ time
    by_next out _ (asked_no_room t w o f r) = unchanged _
    by_next {time} out _ (asked_sent t w o f r) =
        changed _ _ _ (marked_sending time (packets_of c.queue store)) _ [] (sym (append-nil (tail (alive time (packets_of c.queue store)))))

  module _ (datalink : DatalinkSetting) where
    -- the packets that count as leaving by a call are those that leave by the rules, and the others are what the store then starts with
    pub call_leaves : (call : ChannelCall) → LeavesBy datalink call c store
    call_leaves (offer p time) = by_offer (terms_of datalink c.setting) _ (offered machine (terms_of datalink c.setting) p time (condition_of c store))
    call_leaves (next time out) = by_next (terms_of datalink c.setting) out _ (asked machine (terms_of datalink c.setting) time (length out) (condition_of c store))
    call_leaves withdraw =
        rw (withdraw_is machine (terms_of datalink c.setting) (condition_of c store)) (changed _ _ _ (marked_withdrawing (packets_of c.queue store)) [] [] refl)

    module _ (call : ChannelCall) (moved : ByteCount) (e : Moves datalink call c store moved) where
      -- "Move each surviving byte at most once in a call": no list of moves that brings the packets that stay to the store's start is shorter than what the call moved
      pub call_least : Ready c store → (ms : List Move) → ToStart c.setting.size.0 (stretches_by datalink call c store) ms → moved.0 ≤ length ms
      call_least ready ms start =
          let size = c.setting.size.0 in
          rw e (marked_least size (well_fit c.queue size ready.well store ready.size) (call_leaves call).marked ms start)

      -- a refused call moves none
      pub refused_none : (number : ℕ) → (result_of datalink call c store).answer ≡ refused number → moved ≡ record { 0 = 0 }
      refused_none number h = e ∙ rw (h, none call, displaced_unchanging (packets_of c.queue store))
        where
          none : (call : ChannelCall) → leaving_by call (refused number) (packets_of c.queue store) ≡ unchanging (packets_of c.queue store)
          none (offer p time) = refl
          none (next time out) = refl
          none withdraw = refl
