-- No list of moves that brings the packets that stay to the store's start has fewer than the displaced bytes, and one that has as few moves each of them once and no other.
-- Assumes nothing.
use mathlib.Core.Bool.{Bool, true, false, cond, ◌||◌}
use mathlib.Core.Path.{◌≡◌, refl, sym, ap, ◌∙◌}
use mathlib.Core.List.{List, [], ◌∷◌}
use Prim.Native.Nat.{ℕ, zero, suc, ◌+◌, ◌-◌, ◌<◌, ◌≤◌}
use native.Mathlib.Omega.{arith}
use borrow.Author.Tests.{eqb-true, eqb-false}
use lib.Dec.{eqb}
use lib.ListN.{length, get_or, set, replicate, length-set, length-replicate}
use lib.Seq.{get_or-set_same, get_or-set_other, get_or-take, set_out}
use Rattle.facts.proofs.Tests.{by_le, neither, clash}
use Rattle.store.specs.Moves.{Stretch, staying, displaced}
use Rattle.store.proofs.Moved.{displaced_within}
use Rattle.store_moves.specs.Moving.{Move, moving, ends, writes, reads, AreBytes, Brings, Displaced}
use Rattle.store_moves.proofs.Sources.{source, source_rising, Sourced, sourced, zeros_at, one, one_long, one_here, one_other, one_bytes}

-- ---- the places at one end of the moves: those that are written to, or read from
module _ (end : Move → ℕ) where
  touched : ℕ → List Move → Bool
  touched place [] = false
  touched place (m ∷ ms) = eqb (end m) place || touched place ms

  without : ℕ → List Move → List Move
  without place [] = []
  without place (m ∷ ms) = cond (eqb (end m) place) (without place ms) (m ∷ without place ms)

  without_ends : (place : ℕ) (ms : List Move) → length (without place ms) + ends end place ms ≡ length ms
  unfolding without ends
  without_ends place [] = refl
  without_ends place (m ∷ ms) = each (eqb (end m) place) (without_ends place ms)
    where
      each : (b : Bool) → length (without place ms) + ends end place ms ≡ length ms
          → length (cond b (without place ms) (m ∷ without place ms)) + (cond b 1 0 + ends end place ms) ≡ suc (length ms)
      each true h = omega arith
      each false h = omega arith

  touched_ends : (place : ℕ) (ms : List Move) → touched place ms ≡ true → 0 < ends end place ms
  unfolding touched ends
  touched_ends place [] e = clash e
  touched_ends place (m ∷ ms) e = each (eqb (end m) place) e (touched_ends place ms)
    where
      each : (b : Bool) → (b || touched place ms) ≡ true → (touched place ms ≡ true → 0 < ends end place ms) → 0 < cond b 1 0 + ends end place ms
      each true e h = omega arith
      each false e h = omega (arith, h e)

  touched_without : (place gone : ℕ) (ms : List Move) → (place ≡ gone → ⊥) → touched place ms ≡ true → touched place (without gone ms) ≡ true
  unfolding touched without
  touched_without place gone [] q e = e
  touched_without place gone (m ∷ ms) q e = each (eqb (end m) gone) refl (eqb (end m) place) refl e (touched_without place gone ms q)
    where
      each : (a : Bool) → eqb (end m) gone ≡ a → (b : Bool) → eqb (end m) place ≡ b → (b || touched place ms) ≡ true
          → (touched place ms ≡ true → touched place (without gone ms) ≡ true) → touched place (cond a (without gone ms) (m ∷ without gone ms)) ≡ true
      each true f true g e h = absurd (q (sym (eqb-true (end m) place g) ∙ eqb-true (end m) gone f))
      each true f false g e h = h e
      each false f true g e h = rw g
      each false f false g e h = rw g (h e)

  -- places in rising order that are all touched are no more than the moves
  module _ (at : ℕ → ℕ) (rising : (i j : ℕ) → i < j → at i < at j) where
    places : (n : ℕ) (ms : List Move) → ((i : ℕ) → i < n → touched (at i) ms ≡ true) → n ≤ length ms
    places zero ms h = omega arith
    places (suc n) ms h =
        let fewer = places n (without (at n) ms) (λ i k. touched_without (at i) (at n) ms (λ q. omega (arith, rising i n k)) (h i (omega arith))) in
        omega (arith, fewer, without_ends (at n) ms, touched_ends (at n) ms (h n (omega arith)))

    -- all of them but one
    most_places : (n but : ℕ) (ms : List Move) → ((i : ℕ) → i < n → (at i ≡ but → ⊥) → touched (at i) ms ≡ true) → n ≤ suc (length ms)
    most_places zero but ms h = omega arith
    most_places (suc n) but ms h =
        each (eqb (at n) but) refl (most_places n but (without (at n) ms) (λ i k q. touched_without (at i) (at n) ms (λ p. omega (arith, rising i n k)) (h i (omega arith) q)))
      where
        each : (b : Bool) → eqb (at n) but ≡ b → n ≤ suc (length (without (at n) ms)) → suc n ≤ suc (length ms)
        each true e fewer =
            let last = eqb-true (at n) but e in
            omega (arith, places n ms (λ i k. h i (omega arith) (λ q. omega (arith, rising i n k))))
        each false e fewer = omega (arith, without_ends (at n) ms, touched_ends (at n) ms (h n (omega arith) (eqb-false (at n) but e)))

    -- as many moves as such places touch none of all places twice
    once : (n : ℕ) (ms : List Move) → ((i : ℕ) → i < n → touched (at i) ms ≡ true) → length ms ≡ n → (place : ℕ) → ends end place ms ≤ 1
    once n ms h few place =
        let rest = most_places n place (without place ms) (λ i k q. touched_without (at i) place ms q (h i k)) in
        omega (arith, rest, without_ends place ms)

written : ℕ → List Move → Bool
written = touched (λ m. m.to)

read : ℕ → List Move → Bool
read = touched (λ m. m.from)

-- ---- a place that isn't written to keeps its byte
unwritten : (place : ℕ) (ms : List Move) (store : List ℕ) → written place ms ≡ false → get_or (moving ms store) place 0 ≡ get_or store place 0
unfolding moving written touched
unwritten place [] store e = refl
unwritten place (m ∷ ms) store e =
    let h = neither (eqb m.to place) (written place ms) e in
    unwritten place ms (set store m.to (get_or store m.from 0)) h.1
    ∙ get_or-set_other store m.to place (get_or store m.from 0) 0 (λ q. eqb-false m.to place h.0 (sym q))

-- ---- the byte of a place that isn't read from makes no difference at another: two stores that differ there alone
record Alike (place : ℕ) (store other : List ℕ) : Type 0 where
  long : length store ≡ length other
  elsewhere : (q : ℕ) → (q ≡ place → ⊥) → get_or store q 0 ≡ get_or other q 0

alike_set : (place : ℕ) (store other : List ℕ) → Alike place store other → (to byte : ℕ) → Alike place (set store to byte) (set other to byte)
alike_set place store other a to byte = record { long = simp length-set a.long; elsewhere = λ q n. each q n (eqb q to) refl }
  where
    each : (q : ℕ) → (q ≡ place → ⊥) → (b : Bool) → eqb q to ≡ b → get_or (set store to byte) q 0 ≡ get_or (set other to byte) q 0
    each q n true e =
        by_le (length store) to (λ out. rw (set_out store to byte out, set_out other to byte (omega (arith, a.long))) (a.elsewhere q n))
        (λ within. rw (eqb-true q to e, get_or-set_same store to byte 0 within, get_or-set_same other to byte 0 (omega (arith, a.long))))
    each q n false e = rw (get_or-set_other store to q byte 0 (eqb-false q to e), get_or-set_other other to q byte 0 (eqb-false q to e)) (a.elsewhere q n)

unread : (place : ℕ) (ms : List Move) (store other : List ℕ) → read place ms ≡ false → Alike place store other → Alike place (moving ms store) (moving ms other)
unfolding moving read touched
unread place [] store other e a = a
unread place (m ∷ ms) store other e a =
    let h = neither (eqb m.from place) (read place ms) e in
    let byte = get_or other m.from 0 in
    let same : get_or store m.from 0 ≡ byte = a.elsewhere m.from (eqb-false m.from place h.0) in
    unread place ms (set store m.to (get_or store m.from 0)) (set other m.to byte) h.1 (rw same (alike_set place store other a m.to byte))

module _ (size : ℕ) (xs : List Stretch) (ms : List Move) (b : Brings size xs ms) where
  module _ (place : ℕ) (d : Displaced xs place) where
    s : Sourced xs place
    s = sourced xs place b.filled d.below

    within : s.from < size
    within = omega (arith, s.inside, b.room)

    tells : List ℕ
    tells = one size s.from within

    brought : (store : List ℕ) → length store ≡ size → AreBytes store → get_or (moving ms store) place 0 ≡ get_or store s.from 0
    brought store l bytes =
        sym (get_or-take (staying xs) (moving ms store) place 0 d.below) ∙ ap (λ (l : List ℕ). get_or l place 0) (b.start store l bytes) ∙ s.is store (omega (arith, b.room))

    one_brought : get_or (moving ms tells) place 0 ≡ 1
    unfolding tells
    one_brought = brought tells (one_long size s.from within) (one_bytes size s.from within) ∙ one_here size s.from within

    -- a displaced place keeps its byte unless it is written to
    all_written : written place ms ≡ true
    unfolding tells
    all_written = each (written place ms) refl
      where
        each : (t : Bool) → written place ms ≡ t → t ≡ true
        each true e = refl
        each false e =
            let stayed : get_or (moving ms tells) place 0 ≡ 0 = unwritten place ms tells e ∙ one_other size s.from within place (λ q. omega (arith, s.other d)) in
            absurd (omega (arith, stayed, one_brought))

    -- and the place that its byte comes from is read
    all_read : read (source xs place) ms ≡ true
    unfolding tells
    all_read = rw s.from_is (each (read s.from ms) refl)
      where
        zeros : List ℕ
        zeros = replicate size 0

        alike : Alike s.from zeros tells
        alike = record { long = rw (one_long size s.from within) (length-replicate size 0); elsewhere = λ q n. zeros_at size q ∙ sym (one_other size s.from within q n) }

        each : (t : Bool) → read s.from ms ≡ t → t ≡ true
        each true e = refl
        each false e =
            let same = (unread s.from ms zeros tells e alike).elsewhere place (λ q. omega (arith, s.other d)) in
            let none : get_or (moving ms zeros) place 0 ≡ 0 =
            brought zeros (length-replicate size 0) (λ q. rw (zeros_at size q) (omega arith)) ∙ zeros_at size s.from in
            absurd (omega (arith, same, none, one_brought))

  -- the displaced places, one after the other
  place_at : ℕ → ℕ
  place_at i = staying xs - displaced xs + i

  displaced_at : (i : ℕ) → i < displaced xs → Displaced xs (place_at i)
  unfolding place_at
  displaced_at i h = record { above = omega (arith, displaced_within xs); below = omega (arith, displaced_within xs) }

  at_rising : (i j : ℕ) → i < j → place_at i < place_at j
  unfolding place_at
  at_rising i j h = omega arith

  at_written : (i : ℕ) → i < displaced xs → written (place_at i) ms ≡ true
  at_written i h = all_written (place_at i) (displaced_at i h)

  -- each list of moves that brings the packets that stay to the store's start, whatever bytes it holds, has a move at least for each displaced byte
  pub least_moves : displaced xs ≤ length ms
  unfolding written
  least_moves = places (λ m. m.to) place_at at_rising (displaced xs) ms at_written

  -- "Move each surviving byte at most once in a call": with no more moves than that, no place is written to twice, none needlessly, and none is read from twice
  module _ (few : length ms ≡ displaced xs) where
    pub moved_once : (place : ℕ) → writes place ms ≤ 1
    unfolding written
    moved_once = once (λ m. m.to) place_at at_rising (displaced xs) ms at_written few

    pub read_once : (place : ℕ) → reads place ms ≤ 1
    unfolding read
    read_once =
        once (λ m. m.from) (λ i. source xs (place_at i)) (λ i j h. source_rising xs (place_at i) (place_at j) (at_rising i j h)) (displaced xs) ms
        (λ i h. all_read (place_at i) (displaced_at i h)) few

    pub moved_needed : (place : ℕ) → 0 < writes place ms → Displaced xs place
    unfolding written place_at
    moved_needed place w =
        by_le (staying xs) (place + displaced xs) (λ above. by_le (staying xs) place (λ far. absurd (omega (arith, outside (λ i q h. omega (arith, displaced_within xs))))) (λ below. record { above = above; below = below }))
        (λ low. absurd (omega (arith, outside (λ i q h. omega (arith, displaced_within xs)))))
      where
        outside : ((i : ℕ) → place_at i ≡ place → i < displaced xs → ⊥) → displaced xs + writes place ms ≤ length ms
        outside far =
            let rest = places (λ m. m.to) place_at at_rising (displaced xs) (without (λ m. m.to) place ms)
            (λ i h. touched_without (λ m. m.to) (place_at i) place ms (λ q. far i q h) (at_written i h)) in
            omega (arith, rest, without_ends (λ m. m.to) place ms)
