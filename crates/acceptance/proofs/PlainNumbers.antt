-- The lists of `Kinds` are those of document 01, in plain numbers. Assumes nothing.
use Prim.Native.Nat.{ℕ, ◌+◌, ◌*◌, ◌≤◌, ◌<◌}
use mathlib.Core.Path.{◌≡◌, refl, sym, ap, ◌∙◌}
use mathlib.Core.Logic.{◌↔◌}
use mathlib.Core.List.{List, [], ◌∷◌}
use mathlib.Core.Bool.{true, not, ◌&&◌, and-eq-true_iff}
use native.Mathlib.Omega.{arith}
use borrow.Author.Tests.{leb-true, le-leb, ltb-true, lt-ltb, eqb-true, ne_eqb}
use lib.Dec.{eqb, leb, ltb}
use lib.ListN.{length, get_or, take, drop}
use Rattle.facts.proofs.Tests.{clash}
use Rattle.wire.specs.Numbers.{big_endian}
use Rattle.wire.specs.Options.{cut, option, length_at, split}
use Rattle.wire.proofs.Options.{whole, length_at_lem, frame_short, frame_past, frame_whole, split_cut, split_whole}
use Rattle.meaning.specs.declared.message.End.TheVariants.{Ips, Radio}
use Rattle.meaning.specs.declared.message.Plane.TheVariants.{Control, Data}
use Rattle.meaning.specs.Kinds.{among, known, length_listed, value_listed, may_hold, one_for_each, stands_last, must_hold}
use Rattle.meaning.proofs.Amongst.{amongst}
use Rattle.read_rules.specs.Sorts.{channel_of}
use Rattle.acceptance.specs.PlainNumbers.{LengthOf, datalink_identifier, link_instance, datalink_context, channel_status, no_window_lem, window, packet_data, channel_identifier, expiration_time, flow_sequence, ValueOf, any_datalink, any_instance, any_context, status_channel, window_channel, any_packet, own_channel, not_zero, sequence_channel}

-- ---- the lengths

one : {kind n k : ℕ} → LengthOf kind k → eqb n k ≡ true → LengthOf kind n
one {kind} {n} {k} h e = rw (eqb-true n k e) h

-- "1 to 8"
one_to_eight : {kind : ℕ} {n : ℕ} → (1 ≤ n → n ≤ 8 → LengthOf kind n) → leb 1 n && leb n 8 ≡ true → LengthOf kind n
one_to_eight {kind} {n} h e = let both = (and-eq-true_iff (leb 1 n) (leb n 8)).0 e in h (leb-true 1 n both.0) (leb-true n 8 both.1)

-- "1 or 5"
either : (n : ℕ) → among n (1 ∷ 5 ∷ []) ≡ true → LengthOf 6 n
either = amongst (LengthOf 6) (1 ∷ 5 ∷ []) (no_window_lem, (window, tt))

-- A known option has a listed length exactly where the table of document 01 has it.
pub lengths_exactly : (kind n : ℕ) → ((among kind known ≡ true) × (length_listed kind n ≡ true)) ↔ LengthOf kind n
unfolding length_listed
lengths_exactly kind n = ((λ h. only kind h.0 n h.1), then kind n)
  where
    only : (kind : ℕ) → among kind known ≡ true → (n : ℕ) → length_listed kind n ≡ true → LengthOf kind n
    only =
        amongst (λ k. (n : ℕ) → length_listed k n ≡ true → LengthOf k n) known
        ((λ n. one datalink_identifier), ((λ n. one_to_eight link_instance), ((λ n. one_to_eight datalink_context), ((λ n. one channel_status), (either, ((λ n e. packet_data), ((λ n. one channel_identifier), ((λ n. one expiration_time), ((λ n. one flow_sequence), tt)))))))))

    then : (kind n : ℕ) → LengthOf kind n → (among kind known ≡ true) × (length_listed kind n ≡ true)
    then _ _ datalink_identifier = (refl, refl)
    then _ n (link_instance h k) = (refl, rw (le-leb 1 n h, le-leb n 8 k))
    then _ n (datalink_context h k) = (refl, rw (le-leb 1 n h, le-leb n 8 k))
    then _ _ channel_status = (refl, refl)
    then _ _ no_window_lem = (refl, refl)
    then _ _ window = (refl, refl)
    then _ _ packet_data = (refl, refl)
    then _ _ channel_identifier = (refl, refl)
    then _ _ expiration_time = (refl, refl)
    then _ _ flow_sequence = (refl, refl)

-- ---- the values

channel : {kind : ℕ} {content : List ℕ} → (get_or content 0 0 ≤ 254 → ValueOf kind content) → ltb (get_or content 0 0) 255 ≡ true → ValueOf kind content
channel {kind} {content} h e = let below = ltb-true (get_or content 0 0) 255 e in h (omega arith)

below : (content : List ℕ) → get_or content 0 0 ≤ 254 → ltb (get_or content 0 0) 255 ≡ true
below content h = lt-ltb (get_or content 0 0) 255 (omega arith)

time : (content : List ℕ) → not (eqb (big_endian content) 0) ≡ true → ValueOf 130 content
time content e = not_zero {content = content} (λ z. clash (rw z at e))

-- A known option's value has a meaning exactly where its Channel ID isn't 255, and its time not 0.
pub values_exactly : (kind : ℕ) (content : List ℕ) → ((among kind known ≡ true) × (value_listed kind content ≡ true)) ↔ ValueOf kind content
unfolding value_listed
values_exactly kind content = ((λ h. only kind h.0 content h.1), then kind content)
  where
    only : (kind : ℕ) → among kind known ≡ true → (content : List ℕ) → value_listed kind content ≡ true → ValueOf kind content
    only =
        amongst (λ k. (content : List ℕ) → value_listed k content ≡ true → ValueOf k content) known
        ((λ c e. any_datalink), ((λ c e. any_instance), ((λ c e. any_context), ((λ c. channel status_channel), ((λ c. channel window_channel), ((λ c e. any_packet), ((λ c. channel own_channel), (time, ((λ c. channel sequence_channel), tt)))))))))

    then : (kind : ℕ) (content : List ℕ) → ValueOf kind content → (among kind known ≡ true) × (value_listed kind content ≡ true)
    then _ _ any_datalink = (refl, refl)
    then _ _ any_instance = (refl, refl)
    then _ _ any_context = (refl, refl)
    then _ content (status_channel h) = (refl, below content h)
    then _ content (window_channel h) = (refl, below content h)
    then _ _ any_packet = (refl, refl)
    then _ content (own_channel h) = (refl, below content h)
    then _ content (not_zero h) = (refl, rw (ne_eqb (big_endian content) 0 h))
    then _ content (sequence_channel h) = (refl, below content h)

-- ---- the lists

pub known_plainly : known ≡ 1 ∷ 3 ∷ 4 ∷ 5 ∷ 6 ∷ 128 ∷ 129 ∷ 130 ∷ 134 ∷ []
known_plainly = refl

-- "What each message may hold"
pub ips_control_plainly : (may_hold Control Ips ≡ 1 ∷ 134 ∷ []) × (must_hold Control Ips ≡ 1 ∷ [])
ips_control_plainly = (refl, refl)

pub ips_data_plainly : (may_hold Data Ips ≡ 1 ∷ 128 ∷ 129 ∷ 130 ∷ 134 ∷ []) × (must_hold Data Ips ≡ 1 ∷ 128 ∷ [])
ips_data_plainly = (refl, refl)

pub radio_control_plainly : (may_hold Control Radio ≡ 1 ∷ 5 ∷ 3 ∷ 4 ∷ 6 ∷ []) × (must_hold Control Radio ≡ 1 ∷ 5 ∷ [])
radio_control_plainly = (refl, refl)

pub radio_data_plainly : (may_hold Data Radio ≡ 1 ∷ 128 ∷ 129 ∷ []) × (must_hold Data Radio ≡ 1 ∷ 128 ∷ [])
radio_data_plainly = (refl, refl)

-- "at most one for each channel", and "Packet Data is the last option"
pub each_and_last_plainly : (one_for_each Control ≡ 5 ∷ 6 ∷ 134 ∷ []) × (one_for_each Data ≡ []) × (stands_last Control ≡ []) × (stands_last Data ≡ 128 ∷ [])
each_and_last_plainly = (refl, refl, refl, refl)

-- Of these the content's first byte is the channel that an option speaks for; every other speaks for no channel, which is 0 here.
pub channels_plainly : (channel : ℕ) (content : List ℕ)
    → (channel_of Control 5 (channel ∷ content) ≡ channel)
    × (channel_of Control 6 (channel ∷ content) ≡ channel)
    × (channel_of Control 134 (channel ∷ content) ≡ channel)
channels_plainly channel content = (refl, refl, refl)

pub no_channel_plainly : (content : List ℕ)
    → (channel_of Control 1 content ≡ 0)
    × (channel_of Control 3 content ≡ 0)
    × (channel_of Control 4 content ≡ 0)
    × ((kind : ℕ) → channel_of Data kind content ≡ 0)
no_channel_plainly content = (refl, refl, refl, λ kind. refl)

-- ---- number 3, and what a whole option is

-- "its frame does": fewer than three bytes are left
pub frame_cut_plainly : (rest : List ℕ) → 0 < length rest → length rest < 3 → split rest ≡ cut rest
frame_cut_plainly rest h k = split_cut rest h (sym (frame_short rest k))

-- "an option runs past the end": its second and third byte count more than is left behind them
pub option_cut_plainly : (rest : List ℕ) → 3 ≤ length rest → length rest < 3 + (get_or rest 1 0 * 256 + get_or rest 2 0) → split rest ≡ cut rest
option_cut_plainly rest h k =
    let size = length_at_lem rest h in
    split_cut rest (omega arith) (sym (frame_past rest h (omega arith)))

-- otherwise the first byte is its type, and as many bytes as they count are its content
pub option_plainly : (rest : List ℕ) (n : ℕ) → 3 ≤ length rest → n ≡ get_or rest 1 0 * 256 + get_or rest 2 0 → 3 + n ≤ length rest
    → split rest ≡ option (get_or rest 0 0) (take n (drop 3 rest)) (split (drop (3 + n) rest))
option_plainly rest n h e k =
    let size : n ≡ length_at rest = e ∙ length_at_lem rest h in
    let fits : 3 + length_at rest ≤ length rest = omega arith in
    split_whole rest (get_or rest 0 0) n (sym (frame_whole rest fits) ∙ ap (whole (get_or rest 0 0)) (sym size))
