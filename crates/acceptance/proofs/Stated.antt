-- What each option states, byte by byte in plain numbers. Assumes nothing.
use Rattle.std.specs.Prelude.{Some, None}
use Prim.Native.Nat.{ℕ, ◌+◌, ◌*◌}
use mathlib.Core.Path.{◌≡◌, refl, ap}
use mathlib.Core.List.{[], ◌∷◌}
use native.Mathlib.Omega.{arith}
use Rattle.wire.specs.Numbers.{number_from, big_endian}
use Rattle.read_option.specs.Stated.{datalink_from, channel_from, sequence_from, counted_from, expiration_from}

-- "Multi-byte numbers are big-endian"
pub four_bytes : (b c d e : ℕ) → big_endian (b ∷ c ∷ d ∷ e ∷ []) ≡ b * 16777216 + (c * 65536 + (d * 256 + e))
unfolding number_from
four_bytes b c d e = omega arith

-- sections 3.3.1 and 3.3.8: one byte
pub datalink_states : (a : ℕ) → datalink_from (Some (a ∷ [])) ≡ Some (record { 0 = a })
datalink_states a = refl

pub channel_states : (a : ℕ) → channel_from (Some (a ∷ [])) ≡ Some a
channel_states a = refl

-- "Channel ID, 32-bit sequence"
pub sequence_states : (a b c d e : ℕ) → sequence_from (Some (a ∷ b ∷ c ∷ d ∷ e ∷ [])) ≡ Some (record { 0 = b * 16777216 + (c * 65536 + (d * 256 + e)) })
sequence_states a b c d e = ap (λ (n : ℕ). Some (record { 0 = n })) (four_bytes b c d e)

pub counted_states : (a b c d e : ℕ) → counted_from (Some (a ∷ b ∷ c ∷ d ∷ e ∷ [])) ≡ Some (a, record { 0 = b * 16777216 + (c * 65536 + (d * 256 + e)) })
counted_states a b c d e = ap (λ (n : ℕ). Some (a, record { 0 = n })) (four_bytes b c d e)

-- section 3.3.9: "32-bit unsigned integer"
pub expiration_states : (b c d e : ℕ) → expiration_from (Some (b ∷ c ∷ d ∷ e ∷ [])) ≡ Some (b * 16777216 + (c * 65536 + (d * 256 + e)))
expiration_states b c d e = ap Some (four_bytes b c d e)

-- where no option stands, nothing is stated
pub nothing_states : (datalink_from None ≡ None) × (channel_from None ≡ None) × (sequence_from None ≡ None) × (counted_from None ≡ None) × (expiration_from None ≡ None)
nothing_states = (refl, refl, refl, refl, refl)
