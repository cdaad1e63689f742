-- The options of an accepted datagram are its own: there are no others that it could be said to have. Assumes nothing.
use Prim.Native.Nat.{ℕ, ◌+◌, ◌^◌, ◌<◌}
use mathlib.Core.Path.{◌≡◌, sym, ap, ◌∙◌}
use mathlib.Core.List.{List}
use native.Mathlib.Omega.{arith}
use lib.ListN.{length, drop, length-append}
use Rattle.quantity.specs.declared.count.DatalinkId.{DatalinkId}
use Rattle.wire.specs.Options.{Options, done, cut, option, bytes, split, WholeOptions}
use Rattle.wire.proofs.Options.{split_bytes, option_length}
use Rattle.meaning.specs.declared.message.End.{End}
use Rattle.meaning.specs.declared.message.Plane.{Plane}
use Rattle.acceptance.specs.Account.{All, Listed, Accepts}

module _ (plane : Plane) (end : End) where
  -- the options of a short datagram have lengths of 16 bits
  pub fits : (f : Options) → All (Listed plane end) f → length (bytes f) < 2 ^ 16 → WholeOptions f
  unfolding WholeOptions bytes
  fits done l h = tt
  fits (cut rest) l h = l
  fits (option kind content f) l h =
      let n : length content + length (bytes f) < 2 ^ 16 = omega (arith, rw (length-append, option_length) at h) in
      (omega arith, fits f l.1 (omega arith))

  module _ (id : DatalinkId) (s : List ℕ) where
    pub own : (f : Options) → Accepts plane end id s f → split (drop 1 s) ≡ f
    own f a = let h = ap length a.whole in rw a.whole (split_bytes f (fits f a.listed (omega (arith, a.short))))

    -- The options of an accepted datagram are unique.
    pub options_unique : (f g : Options) → Accepts plane end id s f → Accepts plane end id s g → f ≡ g
    options_unique f g a b = sym (own f a) ∙ own g b
