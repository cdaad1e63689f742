-- The starts that a configuration's words say, one by one. Assumes nothing.
use Prim.Native.Nat.{ℕ, zero, suc, ◌+◌, ◌^◌, ◌≤◌, ◌<◌}
use mathlib.Core.Bool.{true, ◌&&◌, and_assoc, and-eq-true_iff}
use mathlib.Core.List.{List, [], ◌∷◌, ◌++◌, map, map-append}
use mathlib.Core.Logic.{⊎_elim}
use mathlib.Core.Path.{◌≡◌, refl, sym}
use native.Mathlib.Nat.{eq-or-lt_of_le}
use native.Mathlib.Numerals.{add-one}
use native.Mathlib.Omega.{arith}
use borrow.Author.Tests.{leb-true, ltb-true}
use lib.Dec.{leb, ltb}
use lib.ListN.{length, get_or, take, drop}
use lib.Seq.{split_at, take-suc}
use Rattle.facts.proofs.Tables.{length_tabulate, get_d_tabulate}
use Rattle.quantity.specs.Limits.{RESERVED-CHANNEL, SMALLEST-STORE, LARGEST-STORE}
use Rattle.ips_channel.specs.declared.state.Setting.{Setting}
use Rattle.ips_channel.specs.Channel.{fresh_channel}
use Rattle.ips_state.specs.State.{ChannelStart, no_start, fresh_of}
use Rattle.ips_state.specs.Limits.{setting_fits, starts_fit, start_ids, sizes}
use Rattle.ips_state.proofs.Channels.{sizes_join}
use Rattle.ips_words.specs.Words.{CONTROLLED}
use Rattle.ips_words_start.specs.Start.{START-KIND, START-FIRST, start_word, start_in, starts_of, start_spelled, starts_spelled}

module _ (w : List ℕ) (count : ℕ) where
  pub starts_length : length (starts_of w count) ≡ count
  unfolding starts_of
  starts_length = length_tabulate count (start_in w)

  module _ (at : ℕ) (inside : at < count) where
    pub starts_at : get_or (starts_of w count) at no_start ≡ start_in w at
    unfolding starts_of
    starts_at = get_d_tabulate count (start_in w) at no_start inside

    pub upcoming : starts_of w count ≡ take at (starts_of w count) ++ (start_in w at ∷ drop (suc at) (starts_of w count))
    upcoming = rw (← starts_at) (split_at (starts_of w count) at no_start (omega (arith, starts_length)))

    pub one_more : take (at + 1) (starts_of w count) ≡ take at (starts_of w count) ++ (start_in w at ∷ [])
    one_more = rw (add-one, ← starts_at) (take-suc (starts_of w count) at no_start (omega (arith, starts_length)))

-- ---- joined to others
pub starts_join : (xs ys : List ChannelStart) → starts_fit (xs ++ ys) ≡ (starts_fit xs && starts_fit ys)
unfolding starts_fit
starts_join [] ys = refl
starts_join (x ∷ xs) ys = rw (starts_join xs ys) (sym (and_assoc (setting_fits x.setting) (starts_fit xs) (starts_fit ys)))

pub start_ids_join : (xs ys : List ChannelStart) → start_ids (xs ++ ys) ≡ start_ids xs ++ start_ids ys
unfolding start_ids
start_ids_join xs ys = map-append _ xs ys

pub stores_more : (xs : List ChannelStart) (k : ChannelStart) → sizes (map fresh_of (xs ++ (k ∷ []))) ≡ sizes (map fresh_of xs) + k.setting.size.0
unfolding sizes fresh_channel
stores_more xs k = rw (map-append fresh_of xs (k ∷ []), sizes_join (map fresh_of xs) (map fresh_of (k ∷ []))) (omega arith)

-- ---- the parts of the tests, as facts
pub record SettingFit (k : Setting) : Type 0 where
  pub unreserved : k.id < RESERVED-CHANNEL
  pub smallest : SMALLEST-STORE ≤ k.size.0
  pub largest : k.size.0 ≤ LARGEST-STORE

pub setting_fit : (k : Setting) → setting_fits k ≡ true → SettingFit k
setting_fit k e =
    let a = (and-eq-true_iff (ltb k.id RESERVED-CHANNEL) _).0 e in
    let b = (and-eq-true_iff (leb SMALLEST-STORE k.size.0) _).0 a.1 in
    record { unreserved = ltb-true _ _ a.0; smallest = leb-true _ _ b.0; largest = leb-true _ _ b.1 }

pub starts_fit_at : (ks : List ChannelStart) (i : ℕ) → i < length ks → starts_fit ks ≡ true → setting_fits (get_or ks i no_start).setting ≡ true
unfolding starts_fit
starts_fit_at [] i h e = absurd (omega arith)
starts_fit_at (k ∷ ks) zero h e = ((and-eq-true_iff (setting_fits k.setting) (starts_fit ks)).0 e).0
starts_fit_at (k ∷ ks) (suc i) h e = starts_fit_at ks i (omega arith) ((and-eq-true_iff (setting_fits k.setting) (starts_fit ks)).0 e).1

pub spelled_at : (w : List ℕ) (n i : ℕ) → i < n → starts_spelled w n ≡ true → start_spelled (start_word w i START-KIND) (start_word w i START-FIRST) ≡ true
unfolding starts_spelled
spelled_at w zero i h e = absurd (omega arith)
spelled_at w (suc n) i h e =
    let b = (and-eq-true_iff (starts_spelled w n) _).0 e in
    ⊎_elim (λ (p : i ≡ n). rw p b.1) (λ (l : i < n). spelled_at w n i l b.0) (eq-or-lt_of_le (omega arith))

pub first_at : (w : List ℕ) (n i : ℕ) → i < n → starts_spelled w n ≡ true → start_word w i START-FIRST < 2 ^ 32
first_at w n i h e = ltb-true _ _ ((and-eq-true_iff (leb (start_word w i START-KIND) CONTROLLED) _).0 (spelled_at w n i h e)).1
