-- Where the byte of a place comes from, once those that stay are brought to the store's start. Assumes nothing.
use mathlib.Core.Bool.{Bool, true, false, cond}
use mathlib.Core.Logic.{◌↔◌}
use mathlib.Core.Path.{◌≡◌, refl, sym, ap, ◌∙◌}
use mathlib.Core.List.{List, [], ◌∷◌, ◌++◌}
use Prim.Native.Nat.{ℕ, zero, suc, ◌+◌, ◌-◌, ◌<◌, ◌≤◌, ◌^◌}
use native.Mathlib.Omega.{arith}
use borrow.Author.Tests.{eqb-true, eqb-false, lt-ltb, le-ltb}
use lib.Dec.{eqb, ltb}
use lib.ListN.{length, get_or, take, drop, set, replicate, length-set, length-replicate, length-drop, get_or-append}
use lib.Seq.{get_or-set_same, get_or-set_other, get_or-take, get_or-drop, get_or-append-add, length-take-le}
use Rattle.facts.proofs.Tests.{by_le}
use Rattle.store.specs.Moves.{Stretch, staying, displaced}
use Rattle.store.proofs.Moved.{displaced_within}
use Rattle.store_moves.specs.Moving.{remaining, span, Filled, none, more, AreBytes, Displaced, Elsewhere}

pub source : List Stretch → ℕ → ℕ
source [] place = place
source (x ∷ xs) place = cond x.stays (cond (ltb place x.length) place (x.length + source xs (place - x.length))) (x.length + source xs place)

-- the bytes keep their order
pub source_rising : (xs : List Stretch) (i j : ℕ) → i < j → source xs i < source xs j
unfolding source
source_rising [] i j h = h
source_rising (x ∷ xs) i j h = each x.stays (source_rising xs)
  where
    n : ℕ
    n = x.length

    each : (b : Bool) → ((i j : ℕ) → i < j → source xs i < source xs j)
        → cond b (cond (ltb i n) i (n + source xs (i - n))) (n + source xs i) < cond b (cond (ltb j n) j (n + source xs (j - n))) (n + source xs j)
    each false r = omega (arith, r i j h)
    each true r =
        by_le n i (λ l. rw (le-ltb i n l, le-ltb j n (omega arith)) (omega (arith, r (i - n) (j - n) (omega arith))))
        (λ l. by_le n j (λ m. rw (lt-ltb i n l, le-ltb j n m) (omega arith)) (λ m. rw (lt-ltb i n l, lt-ltb j n m) h))

pub record Sourced (xs : List Stretch) (place : ℕ) : Type 0 where
  pub from : ℕ
  pub from_is : source xs place ≡ from
  pub inside : from < span xs
  pub above : place ≤ from
  pub other : Displaced xs place → place < from
  pub home : place + displaced xs < staying xs → from ≡ place
  pub is : (store : List ℕ) → span xs ≤ length store → get_or (remaining xs store) place 0 ≡ get_or store from 0

module _ (x : Stretch) (xs : List Stretch) (place : ℕ) where
  -- behind a packet that leaves
  gone : x.stays ≡ false → 0 < x.length → Sourced xs place → Sourced (x ∷ xs) place
  unfolding source staying displaced span remaining
  gone e n s = record {
    from = x.length + s.from;
    from_is = rw (e, s.from_is);
    inside = omega (arith, s.inside);
    above = omega (arith, s.above);
    other = λ d. omega (arith, s.above);
    home = λ h. let low : place + staying xs < staying xs = rw e at h in absurd (omega arith);
    is = λ store h. rw e (s.is (drop x.length store) (simp length-drop (omega arith)) ∙ get_or-drop x.length store s.from 0);
  }

  -- within a packet that stays
  here : x.stays ≡ true → place < x.length → Sourced (x ∷ xs) place
  unfolding source staying displaced span remaining
  here e h = record {
    from = place;
    from_is = rw (e, lt-ltb place x.length h);
    inside = omega arith;
    above = omega arith;
    other = λ d. let above : x.length + staying xs ≤ place + displaced xs = rw e at d.above in absurd (omega (arith, displaced_within xs));
    home = λ k. refl;
    is = λ store k. rw e (get_or-append (take x.length store) (remaining xs (drop x.length store)) 0 place (rw (length-take-le x.length store (omega arith)) h) ∙ get_or-take x.length store place 0 h);
  }

  -- behind it
  behind : x.stays ≡ true → x.length ≤ place → Sourced xs (place - x.length) → Sourced (x ∷ xs) place
  unfolding source staying displaced span remaining
  behind e h s = record {
    from = x.length + s.from;
    from_is = rw (e, le-ltb place x.length h, s.from_is);
    inside = omega (arith, s.inside);
    above = omega (arith, s.above);
    other = λ d.
        let above : x.length + staying xs ≤ place + displaced xs = rw e at d.above in
        let below : place < x.length + staying xs = rw e at d.below in
        omega (arith, s.other (record { above = omega arith; below = omega arith }));
    home = λ k. let low : place + displaced xs < x.length + staying xs = rw e at k in omega (arith, s.home (omega arith));
    is = λ store k. rw e (on store (omega arith) ∙ s.is (drop x.length store) (simp length-drop (omega arith)) ∙ get_or-drop x.length store s.from 0);
  }
    where
      on : (store : List ℕ) → x.length ≤ length store
          → get_or (take x.length store ++ remaining xs (drop x.length store)) place 0 ≡ get_or (remaining xs (drop x.length store)) (place - x.length) 0
      on store k =
          let long : length (take x.length store) ≡ x.length = length-take-le x.length store k in
          let at : place ≡ length (take x.length store) + (place - x.length) = omega arith in
          ap (λ (n : ℕ). get_or (take x.length store ++ remaining xs (drop x.length store)) n 0) at
          ∙ get_or-append-add (take x.length store) (remaining xs (drop x.length store)) (place - x.length) 0

pub sourced : (xs : List Stretch) (place : ℕ) → Filled xs → place < staying xs → Sourced xs place
unfolding staying
sourced _ place none h = absurd (omega arith)
sourced _ place (more {x} {xs} n f) h = each x.stays refl h (λ q. sourced xs q f)
  where
    each : (b : Bool) → x.stays ≡ b → place < cond b (x.length + staying xs) (staying xs) → ((q : ℕ) → q < staying xs → Sourced xs q) → Sourced (x ∷ xs) place
    each false e k r = gone x xs place e n (r place k)
    each true e k r = by_le x.length place (λ l. behind x xs place e l (r (place - x.length) (omega arith))) (λ l. here x xs place e l)

-- ---- two stores that tell places apart: zeros, and zeros with a 1 at a place
pub zeros_at : (n i : ℕ) → ◌≡◌ {A = ℕ} (get_or (replicate n 0) i 0) 0
zeros_at zero i = refl
zeros_at (suc n) zero = refl
zeros_at (suc n) (suc i) = zeros_at n i

module _ (size from : ℕ) (h : from < size) where
  pub one : List ℕ
  one = set (replicate size 0) from 1

  pub one_long : length one ≡ size
  unfolding one
  one_long = simp (length-set, length-replicate)

  pub one_here : get_or one from 0 ≡ 1
  unfolding one
  one_here = get_or-set_same (replicate size 0) from 1 0 (simp length-replicate h)

  pub one_other : (place : ℕ) → (place ≡ from → ⊥) → get_or one place 0 ≡ 0
  unfolding one
  one_other place q = get_or-set_other (replicate size 0) from place 1 0 q ∙ zeros_at size place

  pub one_bytes : AreBytes one
  one_bytes place = each (eqb place from) refl
    where
      each : (b : Bool) → eqb place from ≡ b → get_or one place 0 < 2 ^ 8
      each true e = rw (eqb-true place from e, one_here) (omega arith)
      each false e = rw (one_other place (eqb-false place from e)) (omega arith)

-- `Displaced` a second time: a place whose byte stands at another
pub displaced_iff : (xs : List Stretch) (place : ℕ) → Filled xs → Displaced xs place ↔ Elsewhere xs place
displaced_iff xs place f = (away, back)
  where
    away : Displaced xs place → Elsewhere xs place
    away d =
        let s = sourced xs place f d.below in
        record { below = d.below; from = s.from; other = λ q. omega (arith, s.other d); inside = s.inside; is = s.is }

    back : Elsewhere xs place → Displaced xs place
    back e = by_le (staying xs) (place + displaced xs) (λ above. record { above = above; below = e.below }) (λ near. absurd (same near))
      where
        same : place + displaced xs < staying xs → ⊥
        same near =
            let s = sourced xs place f e.below in
            let size = span xs in
            let store = one size e.from e.inside in
            let long : span xs ≤ length store = omega (arith, one_long size e.from e.inside) in
            let home : get_or store s.from 0 ≡ 0 = rw (s.home near) (one_other size e.from e.inside place (λ q. e.other (sym q))) in
            omega (arith, home, s.is store long, e.is store long, one_here size e.from e.inside)
