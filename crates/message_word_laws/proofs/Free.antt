-- What the words of a message state does not rest on words behind an absent tag. Assumes nothing.
use Rattle.std.specs.Prelude.{Option, Some, None}
use Rattle.quantity.specs.declared.count.FlowSequence.{FlowSequence}
use Prim.Native.Nat.{ℕ, zero, suc, ◌<◌}
use mathlib.Core.Path.{◌≡◌, refl, sym, ap, ap₂}
use mathlib.Core.Bool.{Bool, true, false, cond}
use mathlib.Core.List.{List, ◌∷◌}
use native.Mathlib.Omega.{arith}
use borrow.Author.Tests.{eqb-false}
use lib.Dec.{eqb}
use Rattle.facts.specs.Tables.{tabulate}
use Rattle.quantity.specs.Limits.{CHANNEL-IDS}
use Rattle.meaning.specs.declared.message.Window.{Window}
use Rattle.lent_messages.specs.Stated.{datalink_of, instance_of, context_of, status_of, sequence_of, window_of, counted_of, channel_of, expiration_of}
use Rattle.lent_messages.specs.Words.{word, channel_start, status_at, sequence_at, window_at, control_of, control_spelled, data_of, data_spelled}
use Rattle.message_word_laws.specs.Plain.{Alike, AlikeChannel, AlikeControl, AlikeData}
use Rattle.message_word_laws.proofs.Plain.{spelled_free, data_spelled_free}

-- ---- one thing that may be stated
one_alike : {A : Type 0} (none : A) (some : ℕ → A) (tag tag' value value' : ℕ) → Alike 1 tag tag' value value' → cond (eqb tag 0) none (some value) ≡ cond (eqb tag' 0) none (some value')
one_alike none some tag tag' value value' a = rw (sym a.tags) (go (eqb tag 0) refl)
  where
    go : (b : Bool) → eqb tag 0 ≡ b → cond b none (some value) ≡ cond b none (some value')
    go true e = refl
    go false e = ap some (a.values (omega (arith, eqb-false tag 0 e)))

two_alike : {A : Type 0} (none : A) (some : ℕ → ℕ → A) (tag tag' value value' size size' : ℕ) → Alike 1 tag tag' value value' → Alike 1 tag tag' size size'
    → cond (eqb tag 0) none (some value size) ≡ cond (eqb tag' 0) none (some value' size')
two_alike none some tag tag' value value' size size' a b = rw (sym a.tags) (go (eqb tag 0) refl)
  where
    go : (t : Bool) → eqb tag 0 ≡ t → cond t none (some value size) ≡ cond t none (some value' size')
    go true e = refl
    go false e = ap₂ some (a.values (omega (arith, eqb-false tag 0 e))) (b.values (omega (arith, eqb-false tag 0 e)))

window_alike : (tag tag' value value' : ℕ) → Alike 2 tag tag' value value' → window_of tag value ≡ window_of tag' value'
unfolding window_of
window_alike tag tag' value value' a = rw (sym a.tags) (go (eqb tag 0) (eqb tag 1) refl refl)
  where
    go : (s t : Bool) → eqb tag 0 ≡ s → eqb tag 1 ≡ t
        → cond s None (cond t (Some Window.Empty) (Some (Window.Given (record { 0 = value })))) ≡ cond s None (cond t (Some Window.Empty) (Some (Window.Given (record { 0 = value' }))))
    go true t e f = refl
    go false true e f = refl
    go false false e f = ap (λ (v : ℕ). Some (Window.Given (record { 0 = v }))) (a.values (omega (arith, eqb-false tag 0 e, eqb-false tag 1 f)))

tabulate_alike : {A : Type 0} (size : ℕ) (f g : ℕ → A) → ((n : ℕ) → n < size → f n ≡ g n) → tabulate size f ≡ tabulate size g
unfolding tabulate
tabulate_alike zero f g h = refl
tabulate_alike {A} (suc size) f g h = ap₂ (λ (x : A) (xs : List A). x ∷ xs) (h 0 (omega arith)) (tabulate_alike size (λ n. f (suc n)) (λ n. g (suc n)) (λ n less. h (suc n) (omega arith)))

module _ (w w' : List ℕ) where
  datalink_free : AlikeControl w w' → datalink_of (word w 0) (word w 1) ≡ datalink_of (word w' 0) (word w' 1)
  unfolding datalink_of
  datalink_free a = one_alike None (λ v. Some (record { 0 = v })) _ _ _ _ a.datalink

  instance_free : AlikeControl w w' → instance_of (word w 2) (word w 3) (word w 4) ≡ instance_of (word w' 2) (word w' 3) (word w' 4)
  unfolding instance_of
  instance_free a = two_alike None (λ v n. Some (record { 0 = v }, n)) _ _ _ _ _ _ a.instance a.instance_length_lem

  context_free : AlikeControl w w' → context_of (word w 5) (word w 6) (word w 7) ≡ context_of (word w' 5) (word w' 6) (word w' 7)
  unfolding context_of
  context_free a = two_alike None (λ v n. Some (record { 0 = v }, n)) _ _ _ _ _ _ a.context a.context_length_lem

  status_free : (from : ℕ) → AlikeChannel w w' from → status_at w from ≡ status_at w' from
  unfolding status_at status_of
  status_free from a = ap (λ (s : Option ℕ). s) (one_alike None (λ v. Some v) _ _ _ _ a.status)

  sequence_free : (from : ℕ) → AlikeChannel w w' from → sequence_at w from ≡ sequence_at w' from
  unfolding sequence_at sequence_of
  sequence_free from a = ap (λ (s : Option FlowSequence). s) (one_alike None (λ v. Some (record { 0 = v })) _ _ _ _ a.sequence)

  window_free : (from : ℕ) → AlikeChannel w w' from → window_at w from ≡ window_at w' from
  unfolding window_at
  window_free from a = ap (λ (s : Option Window). s) (window_alike _ _ _ _ a.window)

  pub meaning_free : AlikeControl w w' → control_of w ≡ control_of w'
  unfolding control_of
  meaning_free a =
      let statuses = tabulate_alike CHANNEL-IDS (λ id. status_at w (channel_start id)) (λ id. status_at w' (channel_start id)) (λ id h. status_free (channel_start id) (a.channels id h)) in
      let sequences = tabulate_alike CHANNEL-IDS (λ id. sequence_at w (channel_start id)) (λ id. sequence_at w' (channel_start id)) (λ id h. sequence_free (channel_start id) (a.channels id h)) in
      let windows = tabulate_alike CHANNEL-IDS (λ id. window_at w (channel_start id)) (λ id. window_at w' (channel_start id)) (λ id h. window_free (channel_start id) (a.channels id h)) in
      rw (statuses, sequences, windows, datalink_free a, instance_free a, context_free a)

-- ---- the same the other way round
back : (given tag tag' value value' : ℕ) → Alike given tag tag' value value' → Alike given tag' tag value' value
back given tag tag' value value' a = record { tags = sym a.tags; values = λ h. sym (a.values (omega (arith, a.tags))) }

alike_back : (w w' : List ℕ) → AlikeControl w w' → AlikeControl w' w
alike_back w w' a = record {
  long = sym a.long;
  datalink = back _ _ _ _ _ a.datalink;
  instance = back _ _ _ _ _ a.instance;
  instance_length_lem = back _ _ _ _ _ a.instance_length_lem;
  context = back _ _ _ _ _ a.context;
  context_length_lem = back _ _ _ _ _ a.context_length_lem;
  channels = λ id h. record { status = back _ _ _ _ _ (a.channels id h).status; sequence = back _ _ _ _ _ (a.channels id h).sequence; window = back _ _ _ _ _ (a.channels id h).window };
}

same_test : (a b : Bool) → (a ≡ true → b ≡ true) → (b ≡ true → a ≡ true) → a ≡ b
same_test true b f g = sym (f refl)
same_test false true f g = g refl
same_test false false f g = refl

-- words behind an absent tag may hold anything
pub absent_free : (w w' : List ℕ) → AlikeControl w w' → (control_of w ≡ control_of w') × (control_spelled w ≡ control_spelled w')
absent_free w w' a = (meaning_free w w' a, same_test (control_spelled w) (control_spelled w') (spelled_free w w' a) (spelled_free w' w (alike_back w w' a)))

-- ---- a data message
module _ (w w' : List ℕ) (a : AlikeData w w') where
  link_free : datalink_of (word w 0) (word w 1) ≡ datalink_of (word w' 0) (word w' 1)
  unfolding datalink_of
  link_free = one_alike None (λ v. Some (record { 0 = v })) _ _ _ _ a.datalink

  counted_free : counted_of (word w 2) (word w 3) (word w 4) ≡ counted_of (word w' 2) (word w' 3) (word w' 4)
  unfolding counted_of
  counted_free = two_alike None (λ v n. Some (v, record { 0 = n })) _ _ _ _ _ _ a.counted_channel_lem a.counted_sequence_lem

  channel_free : channel_of (word w 5) (word w 6) ≡ channel_of (word w' 5) (word w' 6)
  unfolding channel_of
  channel_free = one_alike None (λ v. Some v) _ _ _ _ a.channel

  expiration_free : expiration_of (word w 7) (word w 8) ≡ expiration_of (word w' 7) (word w' 8)
  unfolding expiration_of
  expiration_free = one_alike None (λ v. Some v) _ _ _ _ a.expiration

  pub parts_free : data_of w ≡ data_of w'
  unfolding data_of
  parts_free = rw (link_free, counted_free, channel_free, expiration_free)

parts_back : (w w' : List ℕ) → AlikeData w w' → AlikeData w' w
parts_back w w' a = record {
  long = sym a.long;
  datalink = back _ _ _ _ _ a.datalink;
  counted_channel_lem = back _ _ _ _ _ a.counted_channel_lem;
  counted_sequence_lem = back _ _ _ _ _ a.counted_sequence_lem;
  channel = back _ _ _ _ _ a.channel;
  expiration = back _ _ _ _ _ a.expiration;
}

pub data_absent_free : (w w' : List ℕ) → AlikeData w w' → (data_of w ≡ data_of w') × (data_spelled w ≡ data_spelled w')
data_absent_free w w' a = (parts_free w w' a, same_test (data_spelled w) (data_spelled w') (data_spelled_free w w' a) (data_spelled_free w' w (parts_back w w' a)))
