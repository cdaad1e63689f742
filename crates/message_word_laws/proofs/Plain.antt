-- Which words say something, in plain numbers; and that words behind an absent tag may hold anything. Assumes nothing.
use Prim.Native.Nat.{ℕ, zero, suc, ◌+◌, ◌*◌, ◌≤◌, ◌<◌}
use mathlib.Core.Path.{◌≡◌, refl, sym, ◌∙◌}
use mathlib.Core.Bool.{Bool, true, false, ◌&&◌, ◌||◌}
use mathlib.Core.List.{List}
use native.Mathlib.Omega.{arith}
use borrow.Author.Tests.{ltb-true, ltb-false, leb-true, eqb-true, lt-ltb, le-leb, eq-eqb}
use lib.Dec.{eqb, leb, ltb}
use lib.ListN.{length}
use Rattle.quantity.specs.Limits.{CHANNEL-IDS}
use Rattle.lent_messages.specs.Layout.{CONTROL-WORDS, DATA-WORDS, BYTE, HALF}
use Rattle.lent_messages.specs.Stated.{fits}
use Rattle.lent_messages.specs.Words.{word, channel_start, head_spelled, channel_spelled, channels_spelled, control_spelled, parts_spelled, data_spelled}
use Rattle.lent_messages.proofs.Saying.{both, fits_value, channel_of_channels}
use Rattle.message_word_laws.specs.Plain.{Fits, PlainChannel, PlainControl, PlainData, Alike, AlikeControl, AlikeData}

-- ---- a tag and its value
pub fits_plain : (tag given value limit : ℕ) → fits tag given value limit ≡ true → Fits tag given value limit
unfolding fits
fits_plain tag given value limit e = record {
  tag_is = go (ltb tag given) refl e;
  value_is = λ same. fits_value tag given value limit e (omega (arith, same));
}
  where
    go : (b : Bool) → ltb tag given ≡ b → (b || (eqb tag given && ltb value limit)) ≡ true → tag ≤ given
    go true below e = let h = ltb-true tag given below in omega arith
    go false below e = let h : tag ≡ given = eqb-true tag given (both (eqb tag given) (ltb value limit) e).0 in omega arith

pub plain_fits : (tag given value limit : ℕ) → Fits tag given value limit → fits tag given value limit ≡ true
unfolding fits
plain_fits tag given value limit f = go (ltb tag given) refl
  where
    go : (b : Bool) → ltb tag given ≡ b → (b || (eqb tag given && ltb value limit)) ≡ true
    go true below = refl
    go false above =
        let h = ltb-false tag given above in
        let same : tag ≡ given = omega (arith, f.tag_is) in
        rw (eq-eqb tag given same, lt-ltb value limit (f.value_is same))

all : (a b : Bool) → a ≡ true → b ≡ true → (a && b) ≡ true
all a b e f = rw (e, f)

-- ---- a Channel ID
channel_plain : (w : List ℕ) (from : ℕ) → channel_spelled w from ≡ true → PlainChannel w from
unfolding channel_spelled
channel_plain w from e =
    let status = both (fits (word w (from + 0)) 1 (word w (from + 1)) BYTE) _ e in
    let later = both (fits (word w (from + 2)) 1 (word w (from + 3)) HALF) _ status.1 in
    record { status = fits_plain _ _ _ _ status.0; sequence = fits_plain _ _ _ _ later.0; window = fits_plain _ _ _ _ later.1 }

plain_channel : (w : List ℕ) (from : ℕ) → PlainChannel w from → channel_spelled w from ≡ true
unfolding channel_spelled
plain_channel w from p = all _ _ (plain_fits _ _ _ _ p.status) (all _ _ (plain_fits _ _ _ _ p.sequence) (plain_fits _ _ _ _ p.window))

plain_channels : (w : List ℕ) (n : ℕ) → ((id : ℕ) → id < n → PlainChannel w (8 + 6 * id)) → channels_spelled w n ≡ true
unfolding channels_spelled
plain_channels w zero each = refl
plain_channels w (suc n) each = all (channels_spelled w n) (channel_spelled w (channel_start n)) (plain_channels w n (λ id h. each id (omega arith))) (plain_channel w (channel_start n) (each n (omega arith)))

-- ---- the words of a control message say something if and only if these plain facts hold
pub spelled_exactly : (w : List ℕ) → (control_spelled w ≡ true → PlainControl w) × (PlainControl w → control_spelled w ≡ true)
unfolding control_spelled head_spelled
spelled_exactly w = (
  λ e. let whole = both (eqb (length w) CONTROL-WORDS) (head_spelled w && channels_spelled w CHANNEL-IDS) e in
      let rest = both (head_spelled w) (channels_spelled w CHANNEL-IDS) whole.1 in
      let head = both (fits (word w 0) 1 (word w 1) BYTE) (leb (word w 2) 1 && leb (word w 5) 1) rest.0 in
      let tags = both (leb (word w 2) 1) (leb (word w 5) 1) head.1 in
      record {
        long = eqb-true (length w) CONTROL-WORDS whole.0;
        datalink = fits_plain _ _ _ _ head.0;
        instance = leb-true _ _ tags.0;
        context = leb-true _ _ tags.1;
        channels = λ id h. channel_plain w (channel_start id) (channel_of_channels w CHANNEL-IDS id h rest.1);
      },
  λ p. all (eqb (length w) CONTROL-WORDS) (head_spelled w && channels_spelled w CHANNEL-IDS) (eq-eqb (length w) CONTROL-WORDS p.long)
      (all (head_spelled w) (channels_spelled w CHANNEL-IDS)
      (all _ _ (plain_fits _ _ _ _ p.datalink) (all _ _ (le-leb _ _ p.instance) (le-leb _ _ p.context)))
      (plain_channels w CHANNEL-IDS p.channels)),
)

-- ---- and those of a data message
pub data_exactly : (w : List ℕ) → (data_spelled w ≡ true → PlainData w) × (PlainData w → data_spelled w ≡ true)
unfolding data_spelled parts_spelled
data_exactly w = (
  λ e. let whole = both (eqb (length w) DATA-WORDS) (parts_spelled w) e in
      let datalink = both (fits (word w 0) 1 (word w 1) BYTE) _ whole.1 in
      let counted = both (fits (word w 2) 1 (word w 3) BYTE) _ datalink.1 in
      let sequence = both (fits (word w 2) 1 (word w 4) HALF) _ counted.1 in
      let later = both (fits (word w 5) 1 (word w 6) BYTE) _ sequence.1 in
      record {
        long = eqb-true (length w) DATA-WORDS whole.0;
        datalink = fits_plain _ _ _ _ datalink.0;
        counted_channel_lem = fits_plain _ _ _ _ counted.0;
        counted_sequence_lem = fits_plain _ _ _ _ sequence.0;
        channel = fits_plain _ _ _ _ later.0;
        expiration = fits_plain _ _ _ _ later.1;
      },
  λ p. all (eqb (length w) DATA-WORDS) (parts_spelled w) (eq-eqb (length w) DATA-WORDS p.long)
      (all _ _ (plain_fits _ _ _ _ p.datalink)
      (all _ _ (plain_fits _ _ _ _ p.counted_channel_lem)
      (all _ _ (plain_fits _ _ _ _ p.counted_sequence_lem) (all _ _ (plain_fits _ _ _ _ p.channel) (plain_fits _ _ _ _ p.expiration))))),
)

-- ---- words behind an absent tag: whether words say something does not rest on them
fits_alike : (given tag tag' value value' limit : ℕ) → Alike given tag tag' value value' → Fits tag given value limit → Fits tag' given value' limit
fits_alike given tag tag' value value' limit a f = record {
  tag_is = rw (sym a.tags) f.tag_is;
  value_is = λ same. let here : tag ≡ given = a.tags ∙ same in rw (sym (a.values (omega (arith, here)))) (f.value_is here);
}

pub spelled_free : (w w' : List ℕ) → AlikeControl w w' → control_spelled w ≡ true → control_spelled w' ≡ true
spelled_free w w' a e =
    let p = (spelled_exactly w).0 e in
    (spelled_exactly w').1 (record {
      long = sym a.long ∙ p.long;
      datalink = fits_alike _ _ _ _ _ _ a.datalink p.datalink;
      instance = rw (sym a.instance.tags) p.instance;
      context = rw (sym a.context.tags) p.context;
      channels = λ id h. record {
        status = fits_alike _ _ _ _ _ _ (a.channels id h).status (p.channels id h).status;
        sequence = fits_alike _ _ _ _ _ _ (a.channels id h).sequence (p.channels id h).sequence;
        window = fits_alike _ _ _ _ _ _ (a.channels id h).window (p.channels id h).window;
      };
    })

pub data_spelled_free : (w w' : List ℕ) → AlikeData w w' → data_spelled w ≡ true → data_spelled w' ≡ true
data_spelled_free w w' a e =
    let p = (data_exactly w).0 e in
    (data_exactly w').1 (record {
      long = sym a.long ∙ p.long;
      datalink = fits_alike _ _ _ _ _ _ a.datalink p.datalink;
      counted_channel_lem = fits_alike _ _ _ _ _ _ a.counted_channel_lem p.counted_channel_lem;
      counted_sequence_lem = fits_alike _ _ _ _ _ _ a.counted_sequence_lem p.counted_sequence_lem;
      channel = fits_alike _ _ _ _ _ _ a.channel p.channel;
      expiration = fits_alike _ _ _ _ _ _ a.expiration p.expiration;
    })
