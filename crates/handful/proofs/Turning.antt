-- The packets of a handful offered one after the other: what holds before a packet, where it starts, goes on and ends. Assumes nothing.
use Rattle.quantity.specs.declared.refusal.Refusal.{Refusal}
use Rattle.std.specs.Prelude.{Result}
use Prim.Native.Nat.{ℕ, ◌+◌, ◌-◌, ◌*◌, ◌≤◌, ◌<◌}
use mathlib.Core.Bool.{true, and-eq-true_iff}
use mathlib.Core.List.{List, [], ◌∷◌, ◌++◌, map, append_assoc, append-nil}
use mathlib.Core.Path.{◌≡◌, refl, sym, ap, ◌∙◌}
use native.Mathlib.Numerals.{add-one}
use native.Mathlib.Omega.{arith}
use borrow.Author.Tests.{eqb-true, leb-true}
use lib.Dec.{eqb, leb}
use lib.ListN.{length, take, drop, get_or, set, length-set, drop_of_length-le}
use lib.Seq.{drop-cons, drop-drop, take_all, take-suc-set}
use Rattle.quantity.specs.declared.count.ByteCount.{ByteCount}
use Rattle.quantity.specs.Limits.{LARGEST-STORE, MOST-AT-ONCE}
use Rattle.ips_channel_calls.specs.Calls.{offered, number_of}
use Rattle.ips_state.specs.Memory.{world_fits}
use Rattle.ips_calls.specs.Replies.{of_channel}
use Rattle.endpoint.specs.Lent.{Lent, world_in, after_in}
use Rattle.endpoint.specs.Calls.{PerformedIn}
use Rattle.handful.specs.Handful.{Handful, Offer, offer_for, cut, offers_of, call_of, answer_to, answers_to, left_by, sum_of, is_handful}
use Rattle.handful.specs.Offering.{moved_in, moved_by, Tested, OfferedEach}
use Rattle.handful.proofs.Summing.{sum_next}
use Rattle.handful.proofs.Offering.{after_fits}
use Rattle.handful.proofs.Bounds.{moved_most}

-- ---- what number 24 has tested
pub record Even (h : Handful) (answers : ℕ) : Type 0 where
  pub few : length h.channels ≤ MOST-AT-ONCE
  pub expiries : length h.expiries ≡ length h.channels
  pub lengths : length h.lengths ≡ length h.channels
  pub answers_too : answers ≡ length h.channels
  pub sum : sum_of h.lengths ≡ length h.packets

pub even : (h : Handful) (answers : ℕ) → is_handful h answers ≡ true → Even h answers
unfolding is_handful
even h answers e =
    let a = (and-eq-true_iff (leb (length h.channels) MOST-AT-ONCE) _).0 e in
    let b = (and-eq-true_iff (eqb (length h.expiries) (length h.channels)) _).0 a.1 in
    let c = (and-eq-true_iff (eqb (length h.lengths) (length h.channels)) _).0 b.1 in
    let d = (and-eq-true_iff (eqb answers (length h.channels)) _).0 c.1 in
    record {
      few = leb-true (length h.channels) MOST-AT-ONCE a.0;
      expiries = eqb-true (length h.expiries) (length h.channels) b.0;
      lengths = eqb-true (length h.lengths) (length h.channels) c.0;
      answers_too = eqb-true answers (length h.channels) d.0;
      sum = eqb-true (sum_of h.lengths) (length h.packets) d.1;
    }

-- ---- the packets that are still to be offered
abbrev upcoming : Handful → (from at : ℕ) → List Offer
upcoming h from at = cut (drop at h.channels) (drop at h.expiries) (drop at h.lengths) (drop from h.packets)

abbrev offer_at : Handful → (from at : ℕ) → Offer
offer_at h from at = offer_for (get_or h.channels at 0) (get_or h.expiries at 0) (take (get_or h.lengths at 0) (drop from h.packets))

pub record Turning (h : Handful) (first : Lent) (l : Lent) (answers : List ℕ) (moved from at : ℕ) : Type 0 where
  pub inside : at ≤ length h.channels
  pub long : length answers ≡ length h.channels
  pub bytes : from + sum_of (drop at h.lengths) ≡ length h.packets
  pub fits : world_fits (world_in l) ≡ true
  pub moved_is : moved + moved_by h.time (upcoming h from at) l ≡ moved_by h.time (offers_of h) first
  pub moved_small : moved ≤ LARGEST-STORE * at
  pub lent_is : left_by h.time (upcoming h from at) l ≡ left_by h.time (offers_of h) first
  pub answers_are : take at answers ++ map number_of (answers_to h.time (upcoming h from at) l) ≡ map number_of (answers_to h.time (offers_of h) first)

module _ (h : Handful) (first : Lent) (given : List ℕ) (tested : Tested h first given) where
  e : Even h (length given)
  e = even h (length given) tested.handful

  pub turning_start : Turning h first first given 0 0 0
  turning_start = record {
    inside = omega arith;
    long = e.answers_too;
    bytes = omega (arith, e.sum);
    fits = tested.fits;
    moved_is = omega arith;
    moved_small = omega arith;
    lent_is = refl;
    answers_are = refl;
  }

  module _ (l : Lent) (answers : List ℕ) (moved from at : ℕ) (v : Turning h first l answers moved from at) where
    module _ (inside : at < length h.channels) where
      pub within_lists : (at < length h.expiries) × (at < length h.lengths) × (at < length answers)
      within_lists = (omega (arith, e.expiries), omega (arith, e.lengths), omega (arith, v.long))

      pub stretch_ends : from + get_or h.lengths at 0 ≤ length h.packets
      stretch_ends = omega (arith, v.bytes, sum_next h.lengths at within_lists.1)

      pub few_turns : at < MOST-AT-ONCE
      few_turns = omega (arith, e.few)

      coming : upcoming h from at ≡ offer_at h from at ∷ upcoming h (from + get_or h.lengths at 0) (at + 1)
      unfolding cut
      coming =
          rw (drop-cons h.channels at 0 inside, drop-cons h.expiries at 0 within_lists.0, drop-cons h.lengths at 0 within_lists.1, add-one at, ← drop-drop (get_or h.lengths at 0) from h.packets)

      module _ (answer : Result (Unit {0}) Refusal) (one : ByteCount) (l' : Lent) (performed : PerformedIn (call_of h.time (offer_at h from at)) l (of_channel (offered answer)) l')
          (counted : one ≡ record { 0 = moved_in h.time (offer_at h from at) (world_in l) }) where
        answer_is : answer ≡ answer_to h.time (offer_at h from at) (world_in l)
        answer_is = cc performed.reply_is

        one_most : one.0 ≤ LARGEST-STORE
        one_most = rw counted (moved_most h.time (offer_at h from at) (world_in l) v.fits)

        turning_next : (number : ℕ) → number ≡ number_of answer → Turning h first l' (set answers at number) (moved + one.0) (from + get_or h.lengths at 0) (at + 1)
        unfolding moved_by
        turning_next number is =
            let m : moved + (moved_in h.time (offer_at h from at) (world_in l) + moved_by h.time (upcoming h (from + get_or h.lengths at 0) (at + 1)) (after_in (call_of h.time (offer_at h from at)) l)) ≡ moved_by h.time (offers_of h) first = rw coming at v.moved_is in
            let t : take (at + 1) (set answers at number) ≡ take at answers ++ (number ∷ []) = rw (add-one at) (take-suc-set answers at number within_lists.2) in
            record {
              inside = omega arith;
              long = simp length-set v.long;
              bytes = omega (arith, v.bytes, sum_next h.lengths at within_lists.1);
              fits = rw performed.lent_is (after_fits h.time (offer_at h from at) l v.fits);
              moved_is = rw (performed.lent_is, counted) (omega (arith, m));
              moved_small = omega (arith, v.moved_small, one_most);
              lent_is = rw performed.lent_is (rw coming at v.lent_is);
              answers_are = rw (t, append_assoc, is, answer_is, performed.lent_is) (rw coming at v.answers_are);
            }

      -- the same of the stretch as the code lends it
      module _ (n : ℕ) (n-is : n ≡ get_or h.lengths at 0) (answer : Result (Unit {0}) Refusal) (one : ByteCount) (l' : Lent)
          (performed : PerformedIn (call_of h.time (offer_for (get_or h.channels at 0) (get_or h.expiries at 0) (take (from + n - from) (drop from h.packets)))) l (of_channel (offered answer)) l')
          (counted : one ≡ record { 0 = moved_in h.time (offer_for (get_or h.channels at 0) (get_or h.expiries at 0) (take (from + n - from) (drop from h.packets))) (world_in l) }) where
        long_is : from + n - from ≡ get_or h.lengths at 0
        long_is = omega arith

        performed_here : PerformedIn (call_of h.time (offer_at h from at)) l (of_channel (offered answer)) l'
        performed_here = rw long_is at performed

        counted_here : one ≡ record { 0 = moved_in h.time (offer_at h from at) (world_in l) }
        counted_here = rw long_is at counted

        pub moved_fits : moved + one.0 ≤ LARGEST-STORE * MOST-AT-ONCE
        moved_fits = omega (arith, v.moved_small, few_turns, one_most answer one l' performed_here counted_here)

        pub turning_again : (number : ℕ) → number ≡ number_of answer → Turning h first l' (set answers at number) (moved + one.0) (from + n) (at + 1)
        turning_again number is = rw n-is (turning_next answer one l' performed_here counted_here number is)

    pub answers_long : length answers ≡ length given
    answers_long = v.long ∙ sym e.answers_too

    -- all are offered
    module _ (over : length h.channels ≤ at) where
      none_left : upcoming h from at ≡ []
      unfolding cut
      none_left = rw (drop_of_length-le h.channels over)

      pub turning_end : OfferedEach h first (record { 0 = moved }) l answers
      unfolding moved_by
      turning_end =
          let m : moved + 0 ≡ moved_by h.time (offers_of h) first = rw none_left at v.moved_is in
          let a : take at answers ++ [] ≡ map number_of (answers_to h.time (offers_of h) first) = rw none_left at v.answers_are in
          let n : moved ≡ moved_by h.time (offers_of h) first = omega (arith, m) in
          record {
            moved_is = ap {B = ByteCount} (λ (k : ℕ). record { 0 = k }) n;
            lent_is = rw none_left at v.lent_is;
            answers_are = sym (append-nil answers) ∙ (rw (take_all at answers (omega (arith, v.long))) at a);
          }
