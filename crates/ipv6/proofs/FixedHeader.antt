-- Number 13 is given exactly when one of the three facts fails. Assumes nothing.
use Prim.Native.Nat.{ℕ, ◌+◌, ◌*◌, ◌≤◌}
use mathlib.Core.Bool.{true, and-eq-true_iff}
use mathlib.Core.List.{List, [], ◌∷◌}
use mathlib.Core.Logic.{◌↔◌}
use mathlib.Core.Path.{◌≡◌}
use native.Mathlib.Omega.{arith}
use lib.ListN.{length, get_or}
use lib.Dec.{leb, eqb}
use borrow.Author.Tests.{leb-true, eqb-true, le-leb, eq-eqb}
use Rattle.wire.specs.Numbers.{number_from}
use Rattle.ipv6.specs.Ipv6.{is_ipv6, version_in, payload_length}
use Rattle.ipv6.specs.FixedHeader.{FixedHeader}

-- bytes 4 and 5 of a packet that has them
payload_is : (packet : List ℕ) → 40 ≤ length packet → payload_length packet ≡ get_or packet 4 0 * 256 + get_or packet 5 0
unfolding number_from
payload_is [] h = absurd (omega arith)
payload_is (a ∷ []) h = absurd (omega arith)
payload_is (a ∷ (b ∷ [])) h = absurd (omega arith)
payload_is (a ∷ (b ∷ (c ∷ []))) h = absurd (omega arith)
payload_is (a ∷ (b ∷ (c ∷ (d ∷ [])))) h = absurd (omega arith)
payload_is (a ∷ (b ∷ (c ∷ (d ∷ (e ∷ []))))) h = absurd (omega arith)
payload_is (a ∷ (b ∷ (c ∷ (d ∷ (e ∷ (f ∷ more)))))) h = omega arith

-- "packet isn't IPv6: .." is not so, if and only if the three facts hold
pub ipv6_exactly : (packet : List ℕ) → (is_ipv6 packet ≡ true) ↔ FixedHeader packet
unfolding is_ipv6
ipv6_exactly packet = (only, then)
  where
    only : is_ipv6 packet ≡ true → FixedHeader packet
    only e =
        let long = (and-eq-true_iff (leb 40 (length packet)) _).0 e in
        let rest = (and-eq-true_iff (eqb (version_in packet) 6) _).0 long.1 in
        let whole = leb-true 40 (length packet) long.0 in
        record { whole = whole; version = eqb-true (version_in packet) 6 rest.0; payload = rw (payload_is packet whole) at (eqb-true (length packet) (40 + payload_length packet) rest.1) }

    then : FixedHeader packet → is_ipv6 packet ≡ true
    then h = rw (le-leb 40 (length packet) h.whole, eq-eqb (version_in packet) 6 h.version, payload_is packet h.whole) (eq-eqb (length packet) _ h.payload)
