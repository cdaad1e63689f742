-- One channel's words judged: what the tests on words say of the channel. Assumes nothing.
use Prim.Native.Nat.{ℕ, ◌+◌, ◌*◌, ◌≤◌, ◌<◌}
use mathlib.Core.Bool.{Bool, true, false, cond, ◌&&◌}
use mathlib.Core.List.{List, ◌∷◌}
use mathlib.Core.Path.{◌≡◌, refl}
use native.Mathlib.Omega.{arith}
use lib.Dec.{eqb, leb, ltb}
use lib.ListN.{drop}
use Rattle.quantity.specs.Limits.{MOST-WAITING, RESERVED-CHANNEL, SMALLEST-STORE, LARGEST-STORE}
use Rattle.meaning.specs.declared.message.End.TheVariants as ends
use Rattle.writable.specs.Allowed.{status_allowed}
use Rattle.store.specs.declared.queue.Queue.{Queue}
use Rattle.store.specs.Waiting.{waiting, within, well_formed}
use Rattle.store.proofs.Entries.{upcoming, nothing_left}
use Rattle.store.proofs.Turns.{Judging, judge_start, judge_on, judge_out, judge_end, ill_many, ill_length}
use Rattle.flow.specs.declared.Flow.{Flow}
use Rattle.ips_state.specs.Limits.{flow_fits, channel_fits_under, channel_fits}
use Rattle.ips_words.specs.Words.{CONTROLLED, FREE, NO-WINDOW, FIXED, ENTRY, WAITING, ID, SIZE, KIND, STATUS-TAG, STATUS-VALUE, FLOW-TAG, FLOW-WINDOW, word, status_of, flow_of, entry_at, queue_in, channel_in}
use Rattle.ips_words.proofs.Entries.{entries_length, entries_waiting}
use Rattle.ips_words_survey.specs.Survey.{plain_free}

plain_free_lem : (kind tag window : ℕ) → flow_fits (eqb kind CONTROLLED) (flow_of tag window) ≡ plain_free kind tag
unfolding flow_of
plain_free_lem kind tag window = go (eqb kind CONTROLLED) (eqb tag FREE) (eqb tag NO-WINDOW)
  where
    go : (a b d : Bool) → flow_fits a (cond b Flow.Free (cond d Flow.NoWindow (Flow.InForce (record { 0 = window })))) ≡ cond a true b
    go true b d = refl
    go false true d = refl
    go false false true = refl
    go false false false = refl

pub fits_in : (w : List ℕ) → channel_fits (channel_in w)
    ≡ ((ltb (word w ID) RESERVED-CHANNEL && (leb SMALLEST-STORE (word w SIZE) && leb (word w SIZE) LARGEST-STORE))
    && (status_allowed ends.Radio (status_of (word w STATUS-TAG) (word w STATUS-VALUE)) && (plain_free (word w KIND) (word w FLOW-TAG) && well_formed (queue_in w) (word w SIZE))))
unfolding channel_fits_under channel_in
fits_in w = rw (plain_free_lem (word w KIND) (word w FLOW-TAG) (word w FLOW-WINDOW))

-- ---- the waiting entries, one by one
count_is : (w : List ℕ) → (queue_in w).count ≡ word w WAITING
unfolding queue_in
count_is w = refl

in_queue : (w : List ℕ) (at : ℕ) → word w WAITING ≤ MOST-WAITING → at < word w WAITING
    → drop at (waiting (queue_in w)) ≡ entry_at w at ∷ drop (at + 1) (waiting (queue_in w))
unfolding queue_in
in_queue w at few h =
    let q : Queue = queue_in w in
    rw (entries_waiting w (word w WAITING) at (omega arith) h) at (upcoming q at (entries_length w (word w WAITING)) few h)

pub record Summing (w : List ℕ) (count bytes at : ℕ) : Type 0 where
  pub counted : count ≡ word w WAITING
  pub few : count ≤ MOST-WAITING
  pub judging : Judging (waiting (queue_in w)) (drop at (waiting (queue_in w))) bytes at

module _ (w : List ℕ) (count : ℕ) (counted : count ≡ word w WAITING) where
  pub sum_many : (size : ℕ) → MOST-WAITING < count → false ≡ well_formed (queue_in w) size
  sum_many size h = ill_many (queue_in w) size (omega (arith, count_is w))

  pub sum_start : count ≤ MOST-WAITING → Summing w count 0 0
  sum_start few = record { counted = counted; few = few; judging = judge_start (waiting (queue_in w)) }

module _ (w : List ℕ) (count bytes at : ℕ) (s : Summing w count bytes at) where
  module _ (h : at < count) (length : ℕ) (is : length ≡ word w (FIXED + ENTRY * at)) where
    step : drop at (waiting (queue_in w)) ≡ entry_at w at ∷ drop (at + 1) (waiting (queue_in w))
    step = in_queue w at (omega (arith, s.counted, s.few)) (omega (arith, s.counted))

    pub sum_out : (size : ℕ) → within length ≡ false → false ≡ well_formed (queue_in w) size
    sum_out size e = ill_length (queue_in w) size (omega (arith, count_is w, s.counted, s.few)) (judge_out _ _ _ (entry_at w at) _ _ step s.judging (rw is at e))

    pub sum_on : within length ≡ true → Summing w count (bytes + length) (at + 1)
    sum_on e = record { counted = s.counted; few = s.few; judging = rw is (judge_on _ _ _ (entry_at w at) _ _ step s.judging (rw is at e)) }

  pub sum_end : count ≤ at → (size : ℕ) → leb bytes size ≡ well_formed (queue_in w) size
  sum_end h size =
      judge_end (queue_in w) _ bytes at size (omega (arith, count_is w, s.counted, s.few)) (nothing_left (queue_in w) at (omega (arith, count_is w, s.counted))) s.judging
