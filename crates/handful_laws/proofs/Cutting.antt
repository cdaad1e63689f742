-- "End to end in one buffer, with a length for each": which bytes are the packet at an index, and that all of them together are the buffer. Assumes nothing.
use Prim.Native.Nat.{ℕ, zero, suc, ◌+◌, ◌<◌, ◌≤◌}
use mathlib.Core.List.{List, [], ◌∷◌, ◌++◌, map}
use mathlib.Core.Path.{◌≡◌, refl, sym, ap, ◌∙◌}
use native.Mathlib.Omega.{arith}
use lib.ListN.{length, get_or, take, drop, length-take, length-drop, take-append-drop, length-map, get_or-map}
use lib.Seq.{drop-drop, ext_get_or}
use Rattle.facts.proofs.Tables.{length_tabulate, get_d_tabulate}
use Rattle.handful.specs.Handful.{Handful, Offer, cut, offers_of, call_of}
use Rattle.handful_laws.specs.Plain.{summed, packet_at, call_at, offers_in, rejoined, Proper}

pub cut_at : (channels expiries lengths packets : List ℕ) (i : ℕ) (none : Offer) → i < length channels → i < length expiries → i < length lengths
    → get_or (cut channels expiries lengths packets) i none
    ≡ record { id = get_or channels i 0; packet = record { bytes = take (get_or lengths i 0) (drop (summed (take i lengths)) packets); expiry = get_or expiries i 0 } }
unfolding cut
cut_at [] expiries lengths packets i none a b c = absurd (omega arith)
cut_at (id ∷ channels) [] lengths packets i none a b c = absurd (omega arith)
cut_at (id ∷ channels) (expiry ∷ expiries) [] packets i none a b c = absurd (omega arith)
cut_at (id ∷ channels) (expiry ∷ expiries) (n ∷ lengths) packets zero none a b c = refl
cut_at (id ∷ channels) (expiry ∷ expiries) (n ∷ lengths) packets (suc i) none a b c =
    cut_at channels expiries lengths (drop n packets) i none (omega arith) (omega arith) (omega arith)
    ∙ rw (drop-drop (summed (take i lengths)) n packets)

pub cut_count : (channels expiries lengths packets : List ℕ) → length expiries ≡ length channels → length lengths ≡ length channels
    → length (cut channels expiries lengths packets) ≡ length channels
unfolding cut
cut_count [] expiries lengths packets a b = refl
cut_count (id ∷ channels) [] lengths packets a b = absurd (omega arith)
cut_count (id ∷ channels) (expiry ∷ expiries) [] packets a b = absurd (omega arith)
cut_count (id ∷ channels) (expiry ∷ expiries) (n ∷ lengths) packets a b = ap suc (cut_count channels expiries lengths (drop n packets) (omega arith) (omega arith))

pub cut_whole : (channels expiries lengths packets : List ℕ) → length expiries ≡ length channels → length lengths ≡ length channels → summed lengths ≡ length packets
    → rejoined (cut channels expiries lengths packets) ≡ packets
unfolding cut
cut_whole [] expiries [] [] a b s = refl
cut_whole [] expiries [] (x ∷ packets) a b s = absurd (omega arith)
cut_whole [] expiries (n ∷ lengths) packets a b s = absurd (omega arith)
cut_whole (id ∷ channels) [] lengths packets a b s = absurd (omega arith)
cut_whole (id ∷ channels) (expiry ∷ expiries) [] packets a b s = absurd (omega arith)
cut_whole (id ∷ channels) (expiry ∷ expiries) (n ∷ lengths) packets a b s =
    ap (λ (rest : List ℕ). take n packets ++ rest) (cut_whole channels expiries lengths (drop n packets) (omega arith) (omega arith) (simp length-drop (omega arith)))
    ∙ take-append-drop n packets

-- ---- of a handful without a fault
within : (lengths : List ℕ) (i : ℕ) → summed (take i lengths) + get_or lengths i 0 ≤ summed lengths
within [] zero = omega arith
within [] (suc i) = omega arith
within (n ∷ lengths) zero = omega arith
within (n ∷ lengths) (suc i) = omega (arith, within lengths i)

module _ (h : Handful) {answers : ℕ} (proper : Proper h answers) where
  -- a packet for each channel
  pub offers_count : length (offers_of h) ≡ length h.channels
  offers_count = cut_count h.channels h.expiries h.lengths h.packets proper.expiries_count proper.lengths_count

  -- no byte of the buffer is in none of them, none is in two, and they stand in it in their order
  pub offers_whole : rejoined (offers_of h) ≡ h.packets
  offers_whole = cut_whole h.channels h.expiries h.lengths h.packets proper.expiries_count proper.lengths_count proper.whole

  module _ (i : ℕ) (inside : i < length h.channels) where
    -- each is as long as its length says
    pub packet_long : length (packet_at h i) ≡ get_or h.lengths i 0
    packet_long = simp (length-take, length-drop) (omega (arith, within h.lengths i, proper.whole))

    -- and is offered as the call at its index says
    pub offer_at_lem : (none : Offer) → call_of h.time (get_or (offers_of h) i none) ≡ call_at h i
    offer_at_lem none =
        rw (cut_at h.channels h.expiries h.lengths h.packets i none inside (omega (arith, proper.expiries_count)) (omega (arith, proper.lengths_count)))

  -- so the contract's offers are those calls
  pub offers_plain : map (call_of h.time) (offers_of h) ≡ offers_in h
  offers_plain =
      let count = length h.channels in
      let none : Offer = record { id = 0; packet = record { bytes = []; expiry = 0 } } in
      let long = length-map (offers_of h) (call_of h.time) ∙ offers_count in
      ext_get_or (call_of h.time none) _ _ (long ∙ sym (length_tabulate count (call_at h)))
      (λ i inside.
      let there : i < count = omega (arith, long, inside) in
      get_or-map (call_of h.time) (offers_of h) i none ∙ offer_at_lem i there none ∙ sym (get_d_tabulate count (call_at h) i (call_of h.time none) there))

-- ---- three packets of 2, 0 and 3 bytes, for the channels 7, 9 and 7
abbrev sample : Handful
sample = record { channels = 7 ∷ 9 ∷ 7 ∷ []; expiries = 100 ∷ 200 ∷ 300 ∷ []; lengths = 2 ∷ 0 ∷ 3 ∷ []; packets = 96 ∷ 11 ∷ 96 ∷ 13 ∷ 14 ∷ []; time = 50 }

pub sample_cut : offers_of sample
    ≡ record { id = 7; packet = record { bytes = 96 ∷ 11 ∷ []; expiry = 100 } }
    ∷ record { id = 9; packet = record { bytes = []; expiry = 200 } } ∷ record { id = 7; packet = record { bytes = 96 ∷ 13 ∷ 14 ∷ []; expiry = 300 } } ∷ []
unfolding cut
sample_cut = refl
