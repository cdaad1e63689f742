-- One channel's words judged. Assumes nothing.
use Prim.Native.Nat.{ℕ}
use mathlib.Core.Bool.{Bool, true, false, ◌&&◌}
use mathlib.Core.List.{List}
use mathlib.Core.Path.{◌≡◌, refl}
use lib.Dec.{leb, ltb}
use Rattle.quantity.specs.Limits.{RESERVED-CHANNEL, HIGHEST-STATUS, MOST-ALLOWANCE}
use Rattle.radio_end_state.specs.Limits.{highest_fits, channel_fits}
use Rattle.radio_end_words.specs.Words.{ID, WATERMARK, THROUGHPUT, STATUS, HIGHEST-TAG, HIGHEST-VALUE, word, highest_of, channel_in}

and_join : (a b c : Bool) → a && (b && c) ≡ (a && b) && c
and_join true b c = refl
and_join false b c = refl

-- the limits of a channel, in the order of the tests
pub channel_is : (w : List ℕ)
    → channel_fits (channel_in w)
    ≡ (ltb (word w ID) RESERVED-CHANNEL && (leb (word w WATERMARK) MOST-ALLOWANCE && leb (word w THROUGHPUT) MOST-ALLOWANCE))
    && (leb (word w STATUS) HIGHEST-STATUS && highest_fits (highest_of (word w HIGHEST-TAG) (word w HIGHEST-VALUE)))
unfolding channel_fits channel_in
channel_is w = and_join (ltb (word w ID) RESERVED-CHANNEL) (leb (word w WATERMARK) MOST-ALLOWANCE && leb (word w THROUGHPUT) MOST-ALLOWANCE) _
