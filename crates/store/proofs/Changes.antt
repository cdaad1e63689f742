-- The parts of a change together: what the proofs of `waiting` cite. Assumes nothing.
use mathlib.Core.Bool.{Bool, false}
use mathlib.Core.Path.{◌≡◌, refl, sym, ap, ◌∙◌}
use mathlib.Core.List.{List, [], ◌∷◌, ◌++◌, map}
use Prim.Native.Nat.{ℕ, zero, suc, ◌+◌, ◌-◌, ◌<◌, ◌≤◌}
use native.Mathlib.Nat.{sub-zero, zero-sub, suc-sub-suc, sub-add-eq}
use native.Mathlib.Omega.{arith}
use lib.ListN.{length, take, drop, replicate, length-append, length-drop, length-map}
use lib.Seq.{take-append_seam, drop-append-add, take-length, length-take-le}
use Rattle.quantity.specs.Limits.{MOST-WAITING}
use Rattle.store.specs.declared.queue.Queue.{Queue}
use Rattle.store.specs.declared.queue.Amount.{Amount}
use Rattle.store.specs.Packets.{Packet, packet_for, alive, joined, full, is_full}
use Rattle.store.specs.Waiting.{waiting, packets_of, listed, entry_of, queue_of, store_of, Holds, Sound}
use Rattle.store.specs.Parts.{pasted, kept, appended, entry_for, amount_of, packets_from, Left}
use Rattle.store.proofs.Bytes.{rest_zeroed}
use Rattle.store.proofs.Entries.{entries_alive, total_kept}
use Rattle.store.proofs.Turns.{listed_more}
use Rattle.store.proofs.Held.{joined_join, room_left, load_packets}

-- ---- `retain`: bytes moved to the front, zeros behind them, and the entries that stay
module _ (t : ℕ) (q : Queue) (s : List ℕ) (index start : ℕ) (h : Left q s index start) where
  pub retained : (n : ℕ) (s₁ y : List ℕ) (r : Queue) → length s₁ ≡ length s → n ≤ length s → take n s₁ ≡ joined (alive t (packets_from q s index start))
      → y ≡ replicate (length (take (length s₁ - n) (drop n s₁))) 0 → r ≡ listed (kept t (drop index (waiting q)))
      → Holds (length s) (alive t (packets_from q s index start)) r (take n s₁ ++ (y ++ drop (length s₁ - n) (drop n s₁)))
  unfolding queue_of store_of packets_from
  retained n s₁ y r l k e z p = record {
    queue_is = p ∙ ap listed (sym (entries_alive t (drop index (waiting q)) (drop start s) (simp length-drop (omega (arith, h.room)))));
    store_is = rest_zeroed s₁ y n z ∙ rw (e, l, count);
  }
    where
      count : n ≡ length (joined (alive t (packets_from q s index start)))
      count = sym (length-take-le n s₁ (omega arith)) ∙ ap length e

-- ---- `clear`
pub cleared : (size : ℕ) (r : Queue) (s : List ℕ) → r ≡ queue_of [] → s ≡ replicate size 0 → Holds size [] r s
unfolding store_of joined
cleared size r s e z = record { queue_is = e; store_is = z ∙ rw sub-zero }

-- ---- `offer`
map_join : (ps : List Packet) (p : Packet) → map entry_of (ps ++ (p ∷ [])) ≡ map entry_of ps ++ (entry_of p ∷ [])
map_join [] p = refl
map_join (x ∷ ps) p = rw (map_join ps p)

drop_zeros : (n k : ℕ) → drop k (replicate {A = ℕ} n 0) ≡ replicate (n - k) 0
drop_zeros n zero = rw sub-zero
drop_zeros zero (suc k) = rw zero-sub
drop_zeros (suc n) (suc k) = rw suc-sub-suc (drop_zeros n k)

pub pushed : (size : ℕ) (ps : List Packet) (q q' : Queue) (s s' b : List ℕ) (used t : ℕ) → Holds size ps q s → used ≡ length (joined ps) → length ps < MOST-WAITING
    → q' ≡ appended q (entry_for (length b) t) → s' ≡ pasted s used b (length b) → Holds size (ps ++ (packet_for b t ∷ [])) q' s'
unfolding queue_of store_of entry_of pasted
pushed size ps q q' s s' b used t h u few e e' = record {
  queue_is = e ∙ rw (h.queue_is, listed_more (map entry_of ps) (entry_for (length b) t) (rw length-map few), map_join ps (packet_for b t));
  store_is = e' ∙ rw (h.store_is, u, take-append_seam, take-length, drop-append-add, drop_zeros, joined_join, length-append, sub-add-eq);
}

-- what `offer` knows once `is_full` says no
pub record Room (q : Queue) (s : List ℕ) (t : ℕ) (l : Amount) (p : Packet) : Type 0 where
  pub not_full : is_full (length s) (alive t (packets_of q s)) p ≡ false
  pub few : length (alive t (packets_of q s)) < MOST-WAITING
  pub used : l.bytes.0 ≡ length (joined (alive t (packets_of q s)))
  pub fits : l.bytes.0 + length p.bytes ≤ length s

module _ (q : Queue) (s : List ℕ) (t : ℕ) (l : Amount) (so : Sound q s) (e : l ≡ amount_of (kept t (waiting q))) where
  counted : l ≡ record { packets = length (alive t (packets_of q s)); bytes = record { 0 = length (joined (alive t (packets_of q s))) } }
  counted = e ∙ load_packets q s t so

  pub load_fits : l.bytes.0 ≤ length s
  unfolding amount_of
  load_fits = rw e (omega (arith, total_kept t (waiting q), so.room))

  module _ (p : Packet) (b : Bool) (d : b ≡ full l.packets l.bytes.0 (length p.bytes) (length s)) where
    pub judged : is_full (length s) (alive t (packets_of q s)) p ≡ b
    unfolding is_full
    judged = sym (d ∙ rw counted)

    pub room_for : b ≡ false → Room q s t l p
    room_for h =
        let room = room_left (length s) (alive t (packets_of q s)) p (judged ∙ h) in
        let used : l.bytes.0 ≡ length (joined (alive t (packets_of q s))) = ap (λ (x : Amount). x.bytes.0) counted in
        record { not_full = judged ∙ h; few = room.0; used = used; fits = omega (arith, room.1) }
