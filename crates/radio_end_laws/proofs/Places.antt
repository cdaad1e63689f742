-- Where the channel of an ID stands. Assumes nothing.
use Prim.Native.Nat.{ℕ, zero, suc, ◌≤◌, ◌<◌}
use mathlib.Core.Bool.{Bool, true, false, cond}
use mathlib.Core.List.{List, [], ◌∷◌}
use mathlib.Core.Logic.{◌↔◌}
use mathlib.Core.Path.{◌≡◌, refl, sym, ◌∙◌}
use native.Mathlib.Omega.{arith}
use borrow.Author.Tests.{eqb-true, eq-eqb, ltb-true, lt-ltb}
use lib.Dec.{eqb}
use lib.ListN.{length, get_or}
use Rattle.radio_end_state.specs.State.{State, channel_at}
use Rattle.radio_end_state.specs.Limits.{index_of, has_id, stands_first, ids, state_fits, is_configured, index_in}
use Rattle.radio_end_state.proofs.UpTo.{up_to_at}
use Rattle.radio_end_state.proofs.Fit.{fit_facts, ids_at, ids_length}
use Rattle.radio_end_laws.specs.Plain.{Stands, Has}

-- ---- the first place of a number in a list
pub index_is : (id : ℕ) (ns : List ℕ) → index_of id ns < length ns → get_or ns (index_of id ns) 0 ≡ id
unfolding index_of
index_is id [] h = absurd (omega arith)
index_is id (n ∷ ns) h = go (eqb n id) refl h (index_is id ns)
  where
    go : (b : Bool) → eqb n id ≡ b → cond b 0 (suc (index_of id ns)) < suc (length ns) → (index_of id ns < length ns → get_or ns (index_of id ns) 0 ≡ id)
        → get_or (n ∷ ns) (cond b 0 (suc (index_of id ns))) 0 ≡ id
    go true e l f = eqb-true n id e
    go false e l f = f (omega arith)

pub index_least : (id : ℕ) (ns : List ℕ) (i : ℕ) → i < length ns → get_or ns i 0 ≡ id → index_of id ns ≤ i
unfolding index_of
index_least id [] i h e = absurd (omega arith)
index_least id (n ∷ ns) zero h e = rw (eq-eqb n id e) (omega arith)
index_least id (n ∷ ns) (suc i) h e = go (eqb n id) (index_least id ns i (omega arith) e)
  where
    go : (b : Bool) → index_of id ns ≤ i → cond b 0 (suc (index_of id ns)) ≤ suc i
    go true l = omega arith
    go false l = omega arith

-- ---- in a state
module _ (s : State) where
  pub stands_there : (id : ℕ) → is_configured s id ≡ true → Stands s id (index_in s id)
  unfolding has_id channel_at
  stands_there id e =
      let inside = ltb-true (index_in s id) (length (ids s.channels)) e in
      record { inside = omega (arith, inside, ids_length s.channels); is = sym (ids_at s.channels (index_in s id)) ∙ index_is id (ids s.channels) inside }

  -- number 12's test is whether a channel has the ID
  pub has_exactly : (id : ℕ) → (is_configured s id ≡ true) ↔ Has s id
  unfolding has_id channel_at
  has_exactly id = (
    λ e. (index_in s id, stands_there id e),
    λ h.
        let i = h.0 in
        let inside : i < length (ids s.channels) = omega (arith, h.1.inside, ids_length s.channels) in
        lt-ltb (index_in s id) (length (ids s.channels)) (omega (arith, inside, index_least id (ids s.channels) i inside (ids_at s.channels i ∙ h.1.is))),
  )

  -- within the limits it is the only one
  pub stands_first_lem : state_fits s ≡ true → (id index : ℕ) → Stands s id index → index_in s id ≡ index
  unfolding channel_at
  stands_first_lem fits id index h =
      let inside : index < length (ids s.channels) = omega (arith, h.inside, ids_length s.channels) in
      let first = eqb-true (index_of (get_or (ids s.channels) index 0) (ids s.channels)) index (up_to_at (stands_first (ids s.channels)) (length (ids s.channels)) (fit_facts s fits).apart index inside) in
      let named : get_or (ids s.channels) index 0 ≡ id = ids_at s.channels index ∙ h.is in
      rw named at first
