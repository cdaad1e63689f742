-- Words that say something, and a message from them. Assumes nothing.
use Prim.Native.Nat.{ℕ, zero, suc, ◌+◌, ◌≤◌, ◌<◌}
use mathlib.Core.Path.{◌≡◌, refl, sym, ◌∙◌}
use mathlib.Core.Bool.{Bool, true, false, ◌&&◌, and-eq-true_iff, and-false}
use mathlib.Core.Logic.{⊎_elim}
use mathlib.Core.List.{List}
use native.Mathlib.Nat.{eq-or-lt_of_le}
use native.Mathlib.Omega.{arith}
use borrow.Author.Tests.{ltb-true, le-ltb, eqb-true}
use lib.Dec.{eqb}
use lib.ListN.{length}
use Rattle.quantity.specs.Limits.{CHANNEL-IDS}
use Rattle.lent_messages.specs.Layout as layout
use Rattle.lent_messages.specs.Layout.{ABSENT, FIELD-EMPTY, BYTE, HALF, GIVEN, FIELD-GIVEN, CHANNEL-WORDS, CONTROL-WORDS, DATA-WORDS}
use Rattle.lent_messages.specs.Words.{word, channel_start, head_spelled, channel_spelled, channels_spelled, ChannelSays, ControlSays, control_spelled, parts_spelled, data_spelled, DataSays}
use Rattle.lent_messages.specs.Stated.{fits}

-- both of two tests
pub both : (a b : Bool) → (a && b) ≡ true → (a ≡ true) × (b ≡ true)
both a b = (and-eq-true_iff a b).0

-- ---- a tag and what stands behind it
pub fits_value : (tag given value limit : ℕ) → fits tag given value limit ≡ true → given ≤ tag → value < limit
unfolding fits
fits_value tag given value limit e h = ltb-true value limit (both (eqb tag given) _ (rw (le-ltb tag given h) at e)).1

pub fits_given : (tag value limit : ℕ) → fits tag GIVEN value limit ≡ true → (tag ≡ ABSENT → ⊥) → value < limit
fits_given tag value limit e h = fits_value tag GIVEN value limit e (omega (arith, h))

pub fits_field : (tag value limit : ℕ) → fits tag FIELD-GIVEN value limit ≡ true → (tag ≡ ABSENT → ⊥) → (tag ≡ FIELD-EMPTY → ⊥) → value < limit
fits_field tag value limit e h k = fits_value tag FIELD-GIVEN value limit e (omega (arith, h, k))

-- ---- a test behind another: it is asked only where the first holds
pub and_on : (a b r s : Bool) → r ≡ a → r ≡ true → s ≡ b → s ≡ (a && b)
and_on a b r s e t f = rw (sym e ∙ t) f

pub and_off : (a b r : Bool) → r ≡ a → r ≡ false → r ≡ (a && b)
and_off a b r e t = rw (sym e ∙ t) t

-- ---- the words of the Channel IDs
pub channel_says : (w : List ℕ) (from : ℕ) → from + CHANNEL-WORDS ≤ length w → channel_spelled w from ≡ true → ChannelSays w from
unfolding channel_spelled
channel_says w from inside e =
    let status = both (fits (word w (from + layout.STATUS-TAG)) GIVEN (word w (from + layout.STATUS-VALUE)) BYTE) _ e in
    let later = both (fits (word w (from + layout.SEQUENCE-TAG)) GIVEN (word w (from + layout.SEQUENCE-VALUE)) HALF) _ status.1 in
    record { inside = inside; status = status.0; sequence = later.0; window = later.1 }

pub channel_of_channels : (w : List ℕ) (n id : ℕ) → id < n → channels_spelled w n ≡ true → channel_spelled w (channel_start id) ≡ true
unfolding channels_spelled
channel_of_channels w zero id h e = absurd (omega arith)
channel_of_channels w (suc n) id h e =
    ⊎_elim (λ (last : id ≡ n). rw last (both (channels_spelled w n) _ e).1) (λ (less : id < n). channel_of_channels w n id less (both (channels_spelled w n) _ e).0) (eq-or-lt_of_le (omega arith))

pub channels_hold : (w : List ℕ) (n : ℕ) → ((id : ℕ) → id < n → channel_spelled w (channel_start id) ≡ true) → channels_spelled w n ≡ true
unfolding channels_spelled
channels_hold w zero h = refl
channels_hold w (suc n) h = rw (channels_hold w n (λ id less. h id (omega arith))) (h n (omega arith))

pub channels_fail : (w : List ℕ) (n id : ℕ) → id < n → channel_spelled w (channel_start id) ≡ false → channels_spelled w n ≡ false
unfolding channels_spelled
channels_fail w zero id h e = absurd (omega arith)
channels_fail w (suc n) id h e =
    ⊎_elim (λ (last : id ≡ n). rw (sym last, e, and-false)) (λ (less : id < n). rw (channels_fail w n id less e)) (eq-or-lt_of_le (omega arith))

pub control_says : (w : List ℕ) → control_spelled w ≡ true → ControlSays w
unfolding control_spelled head_spelled
control_says w e =
    let whole = both (eqb (length w) CONTROL-WORDS) (head_spelled w && channels_spelled w CHANNEL-IDS) e in
    let rest = both (head_spelled w) (channels_spelled w CHANNEL-IDS) whole.1 in
    let long : length w ≡ CONTROL-WORDS = eqb-true _ _ whole.0 in
    record {
      long = long;
      datalink = (both (fits (word w layout.DATALINK-TAG) GIVEN (word w layout.DATALINK-VALUE) BYTE) _ rest.0).0;
      channels = λ id h. channel_says w (channel_start id) (omega arith) (channel_of_channels w CHANNEL-IDS id h rest.1);
    }

-- ---- a data message
pub data_says : (w : List ℕ) → data_spelled w ≡ true → DataSays w
unfolding data_spelled parts_spelled
data_says w e =
    let whole = both (eqb (length w) DATA-WORDS) (parts_spelled w) e in
    let datalink = both (fits (word w layout.DATALINK-TAG) GIVEN (word w layout.DATALINK-VALUE) BYTE) _ whole.1 in
    let counted = both (fits (word w layout.COUNTED-TAG) GIVEN (word w layout.COUNTED-CHANNEL) BYTE) _ datalink.1 in
    let sequence = both (fits (word w layout.COUNTED-TAG) GIVEN (word w layout.COUNTED-SEQUENCE) HALF) _ counted.1 in
    let later = both (fits (word w layout.CHANNEL-TAG) GIVEN (word w layout.CHANNEL-VALUE) BYTE) _ sequence.1 in
    record { long = eqb-true _ _ whole.0; datalink = datalink.0; counted = counted.0; sequence = sequence.0; channel = later.0; expiration = later.1 }
