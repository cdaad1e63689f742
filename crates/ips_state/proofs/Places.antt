-- Where a channel and its store stand in a state, and what a change of one leaves as it was: for the crates above. Assumes nothing.
use Prim.Native.Nat.{ℕ, zero, suc, ◌+◌, ◌-◌, ◌≤◌, ◌<◌}
use mathlib.Core.Bool.{Bool, true, false, ◌&&◌, and-true, and-false, and-eq-true_iff}
use mathlib.Core.List.{List, [], ◌∷◌, ◌++◌, map, append_assoc}
use mathlib.Core.Logic.{◌⊎◌, inl, inr, ⊎_elim}
use mathlib.Core.Path.{◌≡◌, refl, sym, ap, ◌∙◌}
use native.Mathlib.Decide.{dec_lt}
use native.Mathlib.Nat.{eq-or-lt_of_le}
use native.Mathlib.Omega.{arith}
use borrow.Author.Tests.{eqb-true, leb-true, le-leb}
use lib.Dec.{leb, leb-zero}
use lib.ListN.{length, get_or, take, drop, set, length-set, length-append, length-drop, length-map, take-append-drop}
use lib.Seq.{length-take-le, get_or-take, get_or-set_same, get_or-set_other, set-get_or, take-take, take_at, drop_at, take-append-le, drop-append-le, drop-append-add, drop-drop}
use Rattle.quantity.specs.declared.count.ByteCount.{ByteCount}
use Rattle.quantity.specs.Limits.{FEWEST-CHANNELS, MOST-CHANNELS}
use Rattle.meaning.specs.Kinds.{among}
use Rattle.store.specs.Waiting.{waiting, total, listed, queue_of, all_within_under, well_formed_under}
use Rattle.flow.specs.Counting.{first_flow}
use Rattle.ips_channel.specs.declared.state.Channel.{Channel}
use Rattle.ips_channel.specs.Channel.{fresh_channel}
use Rattle.pacer.specs.declared.Pacer.{Pacer}
use Rattle.pacer.specs.Pacing.{pacer_fits}
use Rattle.ips_state.specs.State.{ChannelStart, Configuration, State, no_start, no_channel, channel_at, with_channel, with_pacer, fresh_of, fresh_state, blank_state}
use Rattle.ips_state.specs.Limits.{flow_fits, channel_fits_under, channel_fits, all_fit_under, all_fit, ids, distinct, channels_fit_under, count_fits, names_fit, head_fits, state_fits_under, state_fits, setting_fits, starts_fit, start_ids, configuration_fits_under, waits_fit, configuration_taken, sizes, index_of}
use Rattle.ips_state.specs.Memory.{memory_fits, start_of, store_at, with_store}
use Rattle.ips_state.proofs.Channels.{get_d_mapped, index_none, index_stands, distinct_index, all_at, all_set, ids_length, ids_at, ids_set, sizes_room, sizes_set, sizes_all, ChannelFit, fitting}

-- ---- one channel replaced
module _ (s : State) (index : ℕ) (c : Channel) where
  pub with_count : length (with_channel s index c).channels ≡ length s.channels
  unfolding with_channel
  with_count = length-set s.channels index c

  pub at_with_same : index < length s.channels → channel_at (with_channel s index c) index ≡ c
  unfolding with_channel channel_at
  at_with_same inside = get_or-set_same s.channels index c no_channel (omega arith)

  pub at_with_other : (other : ℕ) → (other ≡ index → ⊥) → channel_at (with_channel s index c) other ≡ channel_at s other
  unfolding with_channel channel_at
  at_with_other other f = get_or-set_other s.channels index other c no_channel f

pub with_back : (s : State) (index : ℕ) → with_channel s index (channel_at s index) ≡ s
unfolding with_channel channel_at
with_back s index = rw (set-get_or s.channels index no_channel)

-- ---- the parts of `state_fits`, as facts
pub record StateFit (s : State) : Type 0 where
  pub some : FEWEST-CHANNELS ≤ length s.channels
  pub few : length s.channels ≤ MOST-CHANNELS
  pub names : names_fit s ≡ true
  pub waits : pacer_fits s.pacer ≡ true
  pub each : all_fit s.channels ≡ true
  pub apart : distinct (ids s.channels) ≡ true
  pub primary : among 0 (ids s.channels) ≡ true

pub fit : (s : State) → state_fits s ≡ true → StateFit s
unfolding state_fits_under head_fits channels_fit_under
fit s e =
    let a = (and-eq-true_iff (count_fits (length s.channels)) _).0 e in
    let b = (and-eq-true_iff (leb FEWEST-CHANNELS (length s.channels)) _).0 a.0 in
    let d = (and-eq-true_iff (head_fits s) _).0 a.1 in
    let h = (and-eq-true_iff (names_fit s) _).0 d.0 in
    let f = (and-eq-true_iff (all_fit s.channels) _).0 d.1 in
    let g = (and-eq-true_iff (distinct (ids s.channels)) _).0 f.1 in
    record { some = leb-true _ _ b.0; few = leb-true _ _ b.1; names = h.0; waits = h.1; each = f.0; apart = g.0; primary = g.1 }

pub fit_fits : (s : State) → StateFit s → state_fits s ≡ true
unfolding state_fits_under head_fits channels_fit_under
fit_fits s f = rw (le-leb _ _ f.some, le-leb _ _ f.few, f.names, f.waits, f.each, f.apart, f.primary)

-- another pacer with both its waits
pub paced_fits : (s : State) (p : Pacer) → pacer_fits p ≡ true → state_fits s ≡ true → state_fits (with_pacer s p) ≡ true
unfolding with_pacer names_fit
paced_fits s p waits fits =
    let f = fit s fits in
    fit_fits (with_pacer s p) (record { some = f.some; few = f.few; names = f.names; waits = waits; each = f.each; apart = f.apart; primary = f.primary })

-- a state with no channel is outside the limits
pub blank_unfit : state_fits blank_state ≡ false
unfolding state_fits_under blank_state
blank_unfit = refl

module _ (s : State) (fits : state_fits s ≡ true) where
  pub channel_fits_at : (index : ℕ) → index < length s.channels → channel_fits (channel_at s index) ≡ true
  unfolding channel_at
  channel_fits_at index inside = all_at s.channels index inside (fit s fits).each

  pub channel_fitting_at : (index : ℕ) → index < length s.channels → ChannelFit (channel_at s index)
  channel_fitting_at index inside = fitting (channel_at s index) (channel_fits_at index inside)

  pub index_one : (index id : ℕ) → index < length s.channels → (channel_at s index).setting.id ≡ id → index_of id (ids s.channels) ≡ index
  unfolding channel_at
  index_one index id inside e =
      distinct_index (ids s.channels) id index (fit s fits).apart (record { inside = omega (arith, ids_length s.channels); is = ids_at s.channels index ∙ e })

-- ---- a channel that is configured, and one that is not
module _ (s : State) (id : ℕ) where
  pub found : among id (ids s.channels) ≡ true
      → (index_of id (ids s.channels) < length s.channels) × ((channel_at s (index_of id (ids s.channels))).setting.id ≡ id)
  unfolding channel_at
  found e =
      let stands = index_stands id (ids s.channels) e in
      (omega (arith, stands.inside, ids_length s.channels), sym (ids_at s.channels (index_of id (ids s.channels))) ∙ stands.is)

  pub lost : among id (ids s.channels) ≡ false → index_of id (ids s.channels) ≡ length s.channels
  lost e = index_none id (ids s.channels) e ∙ ids_length s.channels

size_set : (cs : List Channel) (i : ℕ) (c : Channel) (j : ℕ) → c.setting.size.0 ≡ (get_or cs i no_channel).setting.size.0 → (get_or (set cs i c) j no_channel).setting.size.0 ≡ (get_or cs j no_channel).setting.size.0
size_set [] i c j e = refl
size_set (x ∷ cs) zero c zero e = e
size_set (x ∷ cs) zero c (suc j) e = refl
size_set (x ∷ cs) (suc i) c zero e = refl
size_set (x ∷ cs) (suc i) c (suc j) e = size_set cs i c j e

-- ---- what a change of one channel leaves, if it keeps its ID and its size
module _ (s : State) (index : ℕ) (c : Channel) where
  pub ids_kept : c.setting.id ≡ (channel_at s index).setting.id → ids (with_channel s index c).channels ≡ ids s.channels
  unfolding with_channel channel_at
  ids_kept e = ids_set s.channels index c e

  pub fits_kept : state_fits s ≡ true → channel_fits c ≡ true → c.setting.id ≡ (channel_at s index).setting.id → state_fits (with_channel s index c) ≡ true
  unfolding with_channel names_fit
  fits_kept fits new e = fit_fits (with_channel s index c) (record {
    some = rw (with_count s index c) (fit s fits).some;
    few = rw (with_count s index c) (fit s fits).few;
    names = (fit s fits).names;
    waits = (fit s fits).waits;
    each = all_set s.channels index c (fit s fits).each new;
    apart = rw (ids_kept e) (fit s fits).apart;
    primary = rw (ids_kept e) (fit s fits).primary;
  })

  module _ (e : c.setting.size ≡ (channel_at s index).setting.size) where
    bytes : c.setting.size.0 ≡ (channel_at s index).setting.size.0
    bytes = ap (λ (n : ByteCount). n.0) e

    pub sizes_kept : sizes (with_channel s index c).channels ≡ sizes s.channels
    unfolding with_channel channel_at
    sizes_kept = sizes_all s.channels index c bytes

    pub start_kept : (other : ℕ) → start_of (with_channel s index c) other ≡ start_of s other
    unfolding start_of with_channel channel_at
    start_kept other = sizes_set s.channels index c other bytes

    pub memory_kept : (memory : List ℕ) → memory_fits (with_channel s index c) memory ≡ memory_fits s memory
    unfolding memory_fits
    memory_kept memory = rw sizes_kept

    pub size_kept : (other : ℕ) → (channel_at (with_channel s index c) other).setting.size.0 ≡ (channel_at s other).setting.size.0
    unfolding channel_at with_channel
    size_kept other = size_set s.channels index c other bytes

    pub store_at_kept : (other : ℕ) (memory : List ℕ) → store_at (with_channel s index c) other memory ≡ store_at s other memory
    unfolding store_at
    store_at_kept other memory = rw (size_kept other, start_kept other)

-- ---- a stretch of a memory, or of words, replaced
module _ (memory store : List ℕ) (start size : ℕ) (room : start + size ≤ length memory) (long : length store ≡ size) where
  abbrev pub changed : List ℕ
  changed = take start memory ++ (store ++ drop (start + size) memory)

  pub front_long : length (take start memory) ≡ start
  front_long = length-take-le start memory (omega arith)

  pub changed_length : length changed ≡ length memory
  changed_length = simp (length-append, length-drop) (omega (arith, front_long))

  pub changed_here : take size (drop start changed) ≡ store
  changed_here = rw (drop_at (take start memory) (store ++ drop (start + size) memory) start front_long) (take_at store (drop (start + size) memory) size long)

  -- a part of the first of two lists
  part : (first second : List ℕ) (from bytes : ℕ) → from + bytes ≤ length first → take bytes (drop from (first ++ second)) ≡ take bytes (drop from first)
  part first second from bytes h = rw (drop-append-le from first second (omega arith)) (take-append-le bytes (drop from first) second (simp length-drop (omega arith)))

  pub changed_before : (from bytes : ℕ) → from + bytes ≤ start → take bytes (drop from changed) ≡ take bytes (drop from memory)
  changed_before from bytes h =
      let inside : from + bytes ≤ length (take start memory) = omega (arith, front_long) in
      part (take start memory) _ from bytes inside
      ∙ sym (part (take start memory) (drop start memory) from bytes inside)
      ∙ rw take-append-drop

  pub changed_behind : (from : ℕ) → start + size ≤ from → drop from changed ≡ drop from memory
  changed_behind from h =
      rw (← append_assoc (take start memory) store (drop (start + size) memory), ends)
      (drop-append-add (take start memory ++ store) (drop (start + size) memory) (from - (start + size)) ∙ rw (drop-drop, back) (ap (λ (n : ℕ). drop n memory) ends))
    where
      ends : from ≡ length (take start memory ++ store) + (from - (start + size))
      ends = simp length-append (omega (arith, front_long))

      back : start + size + (from - (start + size)) ≡ from
      back = omega arith

pub apart : (m n : ℕ) → (m ≡ n → ⊥) → (m < n) ⊎ (n < m)
apart m n f = go (dec_lt m n)
  where
    go : Dec (m < n) → (m < n) ⊎ (n < m)
    go (yes h) = inl h
    go (no h) = ⊎_elim (λ (e : n ≡ m). absurd (f (sym e))) (λ (l : n < m). inr l) (eq-or-lt_of_le (omega arith))

-- ---- the stores
-- a store ends before the memory does, and before a later one starts
module _ (s : State) where
  pub store_room : (memory : List ℕ) → memory_fits s memory ≡ true → (index : ℕ) → index < length s.channels
      → start_of s index + (channel_at s index).setting.size.0 ≤ length memory
  unfolding memory_fits start_of channel_at
  store_room memory fits index inside = let all : length memory ≡ sizes s.channels = eqb-true _ _ fits in rw all (sizes_room s.channels index inside)

  pub stores_ordered : (i j : ℕ) → i < j → j < length s.channels → start_of s i + (channel_at s i).setting.size.0 ≤ start_of s j
  unfolding start_of channel_at
  stores_ordered i j before inside =
      let long : length (take j s.channels) ≡ j = length-take-le j s.channels (omega arith) in
      rw (← (take-take i j s.channels (omega arith)), ← (get_or-take j s.channels i no_channel before)) (sizes_room (take j s.channels) i (omega arith))

module _ (s : State) (index : ℕ) (memory : List ℕ) where
  pub store_back : with_store s index memory (store_at s index memory) ≡ memory
  unfolding with_store store_at
  store_back = rw (← (drop-drop (channel_at s index).setting.size.0 (start_of s index) memory), take-append-drop, take-append-drop)

  module _ (fits : memory_fits s memory ≡ true) (inside : index < length s.channels) where
    room : start_of s index + (channel_at s index).setting.size.0 ≤ length memory
    room = store_room s memory fits index inside

    pub store_length : length (store_at s index memory) ≡ (channel_at s index).setting.size.0
    unfolding store_at
    store_length = length-take-le (channel_at s index).setting.size.0 (drop (start_of s index) memory) (simp length-drop (omega (arith, room)))

    module _ (store : List ℕ) (long : length store ≡ (channel_at s index).setting.size.0) where
      pub with_length : length (with_store s index memory store) ≡ length memory
      unfolding with_store
      with_length = changed_length memory store (start_of s index) (channel_at s index).setting.size.0 room long

      pub store_with_same : store_at s index (with_store s index memory store) ≡ store
      unfolding store_at with_store
      store_with_same = changed_here memory store (start_of s index) (channel_at s index).setting.size.0 room long

      pub store_with_other : (other : ℕ) → other < length s.channels → (other ≡ index → ⊥) → store_at s other (with_store s index memory store) ≡ store_at s other memory
      unfolding store_at with_store
      store_with_other other there f =
          ⊎_elim (λ (before : other < index). changed_before memory store _ _ room long (start_of s other) (channel_at s other).setting.size.0 (stores_ordered s other index before inside))
          (λ (behind : index < other). ap (take (channel_at s other).setting.size.0) (changed_behind memory store _ _ room long (start_of s other) (stores_ordered s index other behind there)))
          (apart other index f)

-- ---- a fresh start is within the limits exactly where its configuration is
fresh_fits_one : (k : ChannelStart) → channel_fits (fresh_of k) ≡ setting_fits k.setting
unfolding channel_fits_under fresh_channel well_formed_under waiting queue_of listed all_within_under total
fresh_fits_one k = rw (leb-zero k.setting.size.0, plain k.setting.controlled) (and-true (setting_fits k.setting))
  where
    plain : (controlled : Bool) → flow_fits controlled (first_flow controlled) ≡ true
    plain true = refl
    plain false = refl

fresh_fits_all : (ks : List ChannelStart) → all_fit (map fresh_of ks) ≡ starts_fit ks
unfolding all_fit_under starts_fit
fresh_fits_all [] = refl
fresh_fits_all (k ∷ ks) = rw (fresh_fits_one k, fresh_fits_all ks)

fresh_ids : (ks : List ChannelStart) → ids (map fresh_of ks) ≡ start_ids ks
unfolding ids start_ids fresh_channel
fresh_ids [] = refl
fresh_ids (k ∷ ks) = rw (fresh_ids ks)

waits_last : (few waits channels : Bool) → (few && (waits && channels)) ≡ ((few && channels) && waits)
waits_last false waits channels = refl
waits_last true false channels = sym (and-false channels)
waits_last true true channels = sym (and-true channels)

module _ (k : Configuration) where
  pub fresh_count : length (fresh_state k).channels ≡ length k.starts
  unfolding fresh_state
  fresh_count = length-map k.starts fresh_of

  pub fresh_at_lem : (index : ℕ) → index < length k.starts → channel_at (fresh_state k) index ≡ fresh_of (get_or k.starts index no_start)
  unfolding channel_at fresh_state
  fresh_at_lem index inside = get_d_mapped fresh_of k.starts index no_start no_channel inside

  -- a fresh start is within the limits exactly if neither 19 nor 22 refuses its configuration
  pub fresh_fits : state_fits (fresh_state k) ≡ configuration_taken k
  unfolding state_fits_under head_fits names_fit fresh_state channels_fit_under configuration_fits_under
  fresh_fits =
      rw (length-map k.starts fresh_of, fresh_fits_all k.starts, fresh_ids k.starts)
      (waits_last (count_fits (length k.starts)) (waits_fit k) (starts_fit k.starts && (distinct (start_ids k.starts) && among 0 (start_ids k.starts))))
