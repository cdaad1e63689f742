-- Which three numbers are taken, as they stand, and which not, in literal numbers. Assumes nothing.
use Rattle.std.specs.Prelude.{Some}
use mathlib.Core.Bool.{Bool, true, false, not, ◌&&◌, and-eq-true_iff}
use mathlib.Core.Path.{◌≡◌, refl, sym}
use Prim.Native.Nat.{ℕ, ◌≤◌, ◌<◌}
use lib.Dec.{leb, eqb}
use borrow.Author.Tests.{leb-true, eqb-false, not-true, le-leb, lt-leb, eq-eqb, ne_eqb}
use Rattle.facts.proofs.Tests.{clash}
use Rattle.capture_words.specs.Settings.{setting_of, refused_of, allowed, numbers_say, words_say}

module _ (radio ips datalink : ℕ) where
  pub radio_over : 65535 < radio → refused_of ≡ numbers_say radio ips datalink
  unfolding numbers_say
  radio_over h = rw (lt-leb radio 65535 h)

  pub ips_over : radio ≤ 65535 → 65535 < ips → refused_of ≡ numbers_say radio ips datalink
  unfolding numbers_say
  ips_over r h = rw (le-leb radio 65535 r, lt-leb ips 65535 h)

  pub datalink_over : radio ≤ 65535 → ips ≤ 65535 → 255 < datalink → refused_of ≡ numbers_say radio ips datalink
  unfolding numbers_say
  datalink_over r i h = rw (le-leb radio 65535 r, le-leb ips 65535 i, lt-leb datalink 255 h)

  pub ports_equal : radio ≤ 65535 → ips ≤ 65535 → datalink ≤ 255 → radio ≡ ips → refused_of ≡ numbers_say radio ips datalink
  unfolding numbers_say
  ports_equal r i d e = rw (le-leb radio 65535 r, le-leb ips 65535 i, le-leb datalink 255 d, eq-eqb radio ips e)

  -- "ports 0 to 65535 and not equal, DATALINK 0 to 255": taken as they stand
  pub numbers_taken : radio ≤ 65535 → ips ≤ 65535 → datalink ≤ 255 → (radio ≡ ips → ⊥) → setting_of true radio ips datalink ≡ numbers_say radio ips datalink
  unfolding numbers_say
  numbers_taken r i d n = rw (le-leb radio 65535 r, le-leb ips 65535 i, le-leb datalink 255 d, ne_eqb radio ips n)

  -- RADIO-PORT IPS-PORT DATALINK: which word is whose
  pub words_taken : radio ≤ 65535 → ips ≤ 65535 → datalink ≤ 255 → (radio ≡ ips → ⊥)
      → words_say (Some radio) (Some ips) (Some datalink) ≡ record { good = true; ports = record { radio = radio; ips = ips }; id = record { 0 = datalink } }
  unfolding words_say
  words_taken r i d n = sym (numbers_taken r i d n)

  -- and nothing else is taken
  pub taken_within : (numbers_say radio ips datalink).good ≡ true → (radio ≤ 65535) × (ips ≤ 65535) × (datalink ≤ 255) × (radio ≡ ips → ⊥)
  unfolding numbers_say
  taken_within e = go (allowed radio ips datalink) refl
    where
      go : (t : Bool) → allowed radio ips datalink ≡ t → (radio ≤ 65535) × (ips ≤ 65535) × (datalink ≤ 255) × (radio ≡ ips → ⊥)
      go true a =
          let last = (and-eq-true_iff (leb radio 65535 && leb ips 65535 && leb datalink 255) (not (eqb radio ips))).0 a in
          let third = (and-eq-true_iff (leb radio 65535 && leb ips 65535) (leb datalink 255)).0 last.0 in
          let second = (and-eq-true_iff (leb radio 65535) (leb ips 65535)).0 third.0 in
          (leb-true radio 65535 second.0, leb-true ips 65535 second.1, leb-true datalink 255 third.1, eqb-false radio ips (not-true (eqb radio ips) last.1))
      go false a = clash (cc)
