-- The packets that wait, as stretches: which of them stay by each call, that these are the bytes so brought, and that `least_moves` holds of them. Assumes nothing.
use mathlib.Core.Bool.{Bool, true, false, cond, and-eq-true_iff}
use mathlib.Core.Path.{◌≡◌, refl, sym, ap, ◌∙◌}
use mathlib.Core.List.{List, [], ◌∷◌, ◌++◌, map, tail, append_assoc}
use Prim.Native.Nat.{ℕ, ◌+◌, ◌<◌, ◌≤◌}
use native.Mathlib.Omega.{arith}
use lib.ListN.{length, take, drop, length-append, take-append-drop}
use lib.Seq.{take-append_seam, drop-append_seam, drop-drop}
use Rattle.store.specs.declared.queue.Entry.{Entry}
use Rattle.store.specs.declared.queue.Queue.{Queue}
use Rattle.store.specs.Packets.{Packet, lasts_at, lasting, alive, joined}
use Rattle.store.specs.Moves.{Stretch, stretch_of, staying, displaced, expiring, sending, withdrawing, unchanging}
use Rattle.store.specs.Waiting.{waiting, total, cut, packets_of, entry_of, within, all_within_under, all_within}
use Rattle.store.proofs.Entries.{within_limits}
use Rattle.store.proofs.Held.{Fit}
use Rattle.store_moves.specs.Moving.{Move, remaining, span, Filled, none, more, ToStart, Marked, none_waits, this_stays, this_leaves}
use Rattle.store_moves.proofs.LeastMoves.{least_moves}

-- ---- which packets stay
module _ (t : ℕ) where
  -- where some expire, those that last
  pub marked_expiring : (ps : List Packet) → Marked ps (expiring t ps) (alive t ps)
  unfolding expiring lasting
  marked_expiring [] = none_waits
  marked_expiring (p ∷ ps) = each (lasts_at t p.expiry) (marked_expiring ps)
    where
      each : (b : Bool) → Marked ps (expiring t ps) (alive t ps) → Marked (p ∷ ps) (stretch_of p b ∷ expiring t ps) (cond b (p ∷ alive t ps) (alive t ps))
      each true m = this_stays m
      each false m = this_leaves m

  -- where a packet is sent, those behind the first that lasts
  pub marked_sending : (ps : List Packet) → Marked ps (sending t ps) (tail (alive t ps))
  unfolding sending lasting
  marked_sending [] = none_waits
  marked_sending (p ∷ ps) = each (lasts_at t p.expiry) (marked_sending ps)
    where
      each : (b : Bool) → Marked ps (sending t ps) (tail (alive t ps))
          → Marked (p ∷ ps) (stretch_of p false ∷ cond b (expiring t ps) (sending t ps)) (tail (cond b (p ∷ alive t ps) (alive t ps)))
      each true m = this_leaves (marked_expiring ps)
      each false m = this_leaves m

-- where all are withdrawn none, where a call is refused all
pub marked_withdrawing : (ps : List Packet) → Marked ps (withdrawing ps) []
unfolding withdrawing
marked_withdrawing [] = none_waits
marked_withdrawing (p ∷ ps) = this_leaves (marked_withdrawing ps)

pub marked_unchanging : (ps : List Packet) → Marked ps (unchanging ps) ps
unfolding unchanging
marked_unchanging [] = none_waits
marked_unchanging (p ∷ ps) = this_stays (marked_unchanging ps)

-- ---- their bytes, and how many all have
remaining_marked : {ps kept : List Packet} {xs : List Stretch} → Marked ps xs kept → (behind : List ℕ) → remaining xs (joined ps ++ behind) ≡ joined kept
unfolding remaining joined
remaining_marked none_waits behind = refl
remaining_marked (this_stays m) behind = rw (append_assoc, take-append_seam, drop-append_seam, remaining_marked m behind)
remaining_marked (this_leaves m) behind = rw (append_assoc, drop-append_seam, remaining_marked m behind)

pub staying_marked : {ps kept : List Packet} {xs : List Stretch} → Marked ps xs kept → staying xs ≡ length (joined kept)
unfolding staying joined
staying_marked none_waits = refl
staying_marked (this_stays m) = rw (length-append, staying_marked m)
staying_marked (this_leaves m) = staying_marked m

span_marked : {ps kept : List Packet} {xs : List Stretch} → Marked ps xs kept → span xs ≡ length (joined ps)
unfolding span joined
span_marked none_waits = refl
span_marked (this_stays m) = rw (length-append, span_marked m)
span_marked (this_leaves m) = rw (length-append, span_marked m)

-- packets have 40 bytes at least
first_within : (p : Packet) (ps : List Packet) → all_within (map entry_of (p ∷ ps)) ≡ true → (0 < length p.bytes) × (all_within (map entry_of ps) ≡ true)
unfolding all_within_under entry_of
first_within p ps e =
    let h = (and-eq-true_iff (within (length p.bytes)) (all_within (map entry_of ps))).0 e in
    ((omega (arith, within_limits (length p.bytes) h.0)), h.1)

filled_marked : {ps kept : List Packet} {xs : List Stretch} → Marked ps xs kept → all_within (map entry_of ps) ≡ true → Filled xs
filled_marked none_waits e = none
filled_marked (this_stays {p} {ps} m) e = let h = first_within p ps e in more h.0 (filled_marked m h.1)
filled_marked (this_leaves {p} {ps} m) e = let h = first_within p ps e in more h.0 (filled_marked m h.1)

-- ---- of a queue and its store
joined_cut : (es : List Entry) (s : List ℕ) → joined (cut es s) ++ drop (total es) s ≡ s
unfolding joined cut total
joined_cut [] s = refl
joined_cut (e ∷ es) s =
    let rest : joined (cut es (drop e.length.0 s)) ++ drop (e.length.0 + total es) s ≡ drop e.length.0 s = rw drop-drop at (joined_cut es (drop e.length.0 s)) in
    rw (append_assoc, rest, take-append-drop)

module _ (q : Queue) (s : List ℕ) where
  -- "A store holds the waiting packets end to end in order from its start"
  pub joined_start : take (length (joined (packets_of q s))) s ≡ joined (packets_of q s)
  unfolding packets_of
  joined_start =
      let ps = cut (waiting q) s in
      ap (take (length (joined ps))) (sym (joined_cut (waiting q) s)) ∙ take-append_seam (joined ps) (drop (total (waiting q)) s)

  -- what the moves bring to the start are the bytes of the packets that stay
  pub remaining_kept : {xs : List Stretch} {kept : List Packet} → Marked (packets_of q s) xs kept → remaining xs s ≡ joined kept
  unfolding packets_of
  remaining_kept {xs} m = ap (remaining xs) (sym (joined_cut (waiting q) s)) ∙ remaining_marked m (drop (total (waiting q)) s)

  pub remaining_alive : (t : ℕ) → remaining (expiring t (packets_of q s)) s ≡ joined (alive t (packets_of q s))
  remaining_alive t = remaining_kept (marked_expiring t (packets_of q s))

  pub remaining_sent : (t : ℕ) → remaining (sending t (packets_of q s)) s ≡ joined (tail (alive t (packets_of q s)))
  remaining_sent t = remaining_kept (marked_sending t (packets_of q s))

-- whichever packets leave of those that a store of this size may hold: no way to bring the others to its start has fewer moves
pub marked_least : (size : ℕ) {ps kept : List Packet} {xs : List Stretch} → Fit size ps → Marked ps xs kept → (ms : List Move) → ToStart size xs ms → displaced xs ≤ length ms
marked_least size {xs} fit m ms start =
    least_moves size xs ms (record { filled = filled_marked m fit.sizes; room = omega (arith, fit.room, span_marked m); start = start })
