-- Which channel has an ID; one channel of a state within the limits is changed, the others stand. Assumes nothing.
use Prim.Native.Nat.{ℕ, zero, suc, ◌<◌}
use mathlib.Core.Bool.{Bool, true, false, cond}
use mathlib.Core.List.{List, [], ◌∷◌, map}
use mathlib.Core.Path.{◌≡◌, refl, sym, ap, ◌∙◌}
use native.Mathlib.Omega.{arith}
use borrow.Author.Tests.{eqb-true, eqb-false, ltb-true, lt-ltb}
use lib.Dec.{eqb}
use lib.ListN.{length, get_or}
use lib.Seq.{get_or-set_same, get_or-set_other}
use Rattle.radio_end_state.specs.declared.channel.Channel.{Channel}
use Rattle.radio_end_state.specs.State.{State, no_channel, channel_at, with_channels, with_channel}
use Rattle.radio_end_state.specs.Limits.{index_of, has_id, stands_first, ids, is_configured, index_in, state_fits}
use Rattle.radio_end_state.proofs.UpTo.{up_to_at}
use Rattle.radio_end_state.proofs.Fit.{fit_facts, ids_at, ids_length}

-- ---- the place of an ID has that ID
id_there : (id : ℕ) (ns : List ℕ) → index_of id ns < length ns → get_or ns (index_of id ns) 0 ≡ id
unfolding index_of
id_there id [] h = absurd (omega arith)
id_there id (n ∷ ns) h = go (eqb n id) refl (id_there id ns)
  where
    go : (b : Bool) → eqb n id ≡ b → (index_of id ns < length ns → get_or ns (index_of id ns) 0 ≡ id) → get_or (n ∷ ns) (index_of id (n ∷ ns)) 0 ≡ id
    go true e more = rw e (eqb-true n id e)
    go false e more =
        let inside : suc (index_of id ns) < suc (length ns) = rw e at h in
        rw e (more (omega arith))

pub id_at_lem : (s : State) (id : ℕ) → is_configured s id ≡ true → (channel_at s (index_in s id)).setting.id ≡ id
unfolding has_id channel_at
id_at_lem s id has = sym (ids_at s.channels (index_in s id)) ∙ id_there id (ids s.channels) (ltb-true _ _ has)

-- an ID that no channel has is not configured
pub lacks_it : (s : State) (id : ℕ) → ((index : ℕ) → index < length s.channels → (channel_at s index).setting.id ≡ id → ⊥) → is_configured s id ≡ false
unfolding has_id
lacks_it s id none = go (is_configured s id) refl
  where
    go : (b : Bool) → is_configured s id ≡ b → is_configured s id ≡ false
    go true e =
        let inside : index_in s id < length (ids s.channels) = ltb-true (index_in s id) (length (ids s.channels)) e in
        absurd (none (index_in s id) (omega (arith, inside, ids_length s.channels)) (id_at_lem s id e))
    go false e = e

pub get_d_map : (f : Channel → Channel) (cs : List Channel) (i : ℕ) → i < length cs → get_or (map f cs) i no_channel ≡ f (get_or cs i no_channel)
get_d_map f [] i h = absurd (omega arith)
get_d_map f (c ∷ cs) zero h = refl
get_d_map f (c ∷ cs) (suc i) h = get_d_map f cs i (omega arith)

pub map_length : (f : Channel → Channel) (cs : List Channel) → length (map f cs) ≡ length cs
map_length f [] = refl
map_length f (c ∷ cs) = ap suc (map_length f cs)

at_same : (s : State) (i : ℕ) (c : Channel) → i < length s.channels → channel_at (with_channel s i c) i ≡ c
unfolding channel_at with_channel with_channels
at_same s i c h = get_or-set_same s.channels i c no_channel h

at_other : (s : State) (j i : ℕ) (c : Channel) → (i ≡ j → ⊥) → channel_at (with_channel s j c) i ≡ channel_at s i
unfolding channel_at with_channel with_channels
at_other s j i c h = get_or-set_other s.channels j i c no_channel h

-- ---- where no ID stands twice, a change of the channel of an ID is one of that channel alone
module _ (s : State) (fits : state_fits s ≡ true) where
  own_place : (i : ℕ) → i < length s.channels → index_in s (channel_at s i).setting.id ≡ i
  unfolding channel_at
  own_place i h =
      let inside : i < length (ids s.channels) = omega (arith, ids_length s.channels) in
      rw (← (ids_at s.channels i)) (eqb-true _ _ (up_to_at (stands_first (ids s.channels)) (length (ids s.channels)) (fit_facts s fits).apart i inside))

  -- the channel at an index is found by its ID
  pub has_it : (index : ℕ) → index < length s.channels → (is_configured s (channel_at s index).setting.id ≡ true) × (index_in s (channel_at s index).setting.id ≡ index)
  unfolding has_id
  has_it index h =
      let here = own_place index h in
      (lt-ltb (index_in s (channel_at s index).setting.id) (length (ids s.channels)) (omega (arith, here, h, ids_length s.channels)), here)

  pub change_at : (id : ℕ) → is_configured s id ≡ true → (f : Channel → Channel) (i : ℕ) → i < length s.channels
      → channel_at (with_channel s (index_in s id) (f (channel_at s (index_in s id)))) i ≡ cond (eqb id (channel_at s i).setting.id) (f (channel_at s i)) (channel_at s i)
  change_at id has f i h = go (eqb id (channel_at s i).setting.id) refl
    where
      go : (b : Bool) → eqb id (channel_at s i).setting.id ≡ b
          → channel_at (with_channel s (index_in s id) (f (channel_at s (index_in s id)))) i ≡ cond b (f (channel_at s i)) (channel_at s i)
      go true e =
          let here : index_in s id ≡ i = ap (index_in s) (eqb-true id (channel_at s i).setting.id e) ∙ own_place i h in
          ap (λ (j : ℕ). channel_at (with_channel s j (f (channel_at s j))) i) here ∙ at_same s i (f (channel_at s i)) h
      go false e =
          at_other s (index_in s id) i (f (channel_at s (index_in s id)))
          (λ p. eqb-false id (channel_at s i).setting.id e (sym (ap (λ (j : ℕ). (channel_at s j).setting.id) p ∙ id_at_lem s id has)))
