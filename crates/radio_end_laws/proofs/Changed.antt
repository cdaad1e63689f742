-- The states that calls make, as plain facts say them. Assumes nothing.
use Rattle.std.specs.Prelude.{Ok}
use Prim.Native.Nat.{ℕ, zero, suc, ◌<◌}
use mathlib.Core.Bool.{Bool, true, false, cond}
use mathlib.Core.List.{List, [], ◌∷◌, map}
use mathlib.Core.Logic.{⊎_elim}
use mathlib.Core.Path.{◌≡◌, refl, sym, ap, ◌∙◌}
use native.Mathlib.Omega.{arith}
use borrow.Author.Tests.{eq-eqb, ne_eqb}
use lib.ListN.{length, get_or, set, length-set, length-map}
use lib.Seq.{ext_get_or}
use Rattle.quantity.specs.Refusals.{NO-CHANNEL, OUTSIDE-LIMITS, NOT-WRITABLE}
use Rattle.writer.specs.Written.{no_room_of}
use Rattle.radio_end_state.specs.declared.answer.Answer.{Answer}
use Rattle.radio_end_state.specs.declared.channel.Channel.{Channel}
use Rattle.radio_end_state.specs.State.{State, no_channel, channel_at, with_channel, with_channels}
use Rattle.radio_end_state.specs.Limits.{state_fits, is_configured, index_in}
use Rattle.radio_end_state.specs.Message.{message_bytes, differs}
use Rattle.radio_end_state.specs.Calls.{refused_by, telling, settling, changing}
use Rattle.radio_end_message.proofs.Filling.{same_or_not, taken_place, kept_place}
use Rattle.radio_end_laws.specs.Plain.{on_channel, of_id}
use Rattle.radio_end_laws.proofs.Places.{stands_there, stands_first_lem}
use Rattle.radio_end_laws.proofs.Ordered.{ordered}

pub get_d_map : (f : Channel → Channel) (cs : List Channel) (at : ℕ) → at < length cs → get_or (map f cs) at no_channel ≡ f (get_or cs at no_channel)
get_d_map f [] at h = absurd (omega arith)
get_d_map f (c ∷ cs) zero h = refl
get_d_map f (c ∷ cs) (suc at) h = get_d_map f cs at (omega arith)

-- ---- the channel at the place of an ID replaced is the channel of that ID changed
module _ (s : State) (fits : state_fits s ≡ true) (id : ℕ) (named : is_configured s id ≡ true) (change : Channel → Channel) where
  abbrev there : ℕ
  there = index_in s id

  own : (i : ℕ) → i ≡ there → on_channel id change (channel_at s i) ≡ change (channel_at s there)
  own i p = rw (p, eq-eqb (channel_at s there).setting.id id (stands_there s id named).is)

  other : (i : ℕ) → i < length s.channels → (i ≡ there → ⊥) → on_channel id change (channel_at s i) ≡ channel_at s i
  other i h f = rw (ne_eqb (channel_at s i).setting.id id (λ e. f (sym (stands_first_lem s fits id i (record { inside = h; is = e })))))

  places : (i : ℕ) → i < length s.channels → get_or (set s.channels there (change (channel_at s there))) i no_channel ≡ get_or (map (on_channel id change) s.channels) i no_channel
  unfolding channel_at
  places i h =
      ⊎_elim
      (λ (p : i ≡ there). sym (taken_place s.channels i there (change (channel_at s there)) h p) ∙ sym (own i p) ∙ sym (get_d_map (on_channel id change) s.channels i h))
      (λ (f : i ≡ there → ⊥). sym (kept_place s.channels i there (change (channel_at s there)) f) ∙ sym (other i h f) ∙ sym (get_d_map (on_channel id change) s.channels i h))
      (same_or_not i there)

  pub changed_is : with_channel s there (change (channel_at s there)) ≡ of_id s id change
  unfolding with_channel with_channels
  changed_is =
      let long = length-set s.channels there (change (channel_at s there)) in
      ap (λ (cs : List Channel). record { datalink = s.datalink; channels = cs; instance = s.instance; context = s.context })
      (ext_get_or no_channel (set s.channels there (change (channel_at s there))) (map (on_channel id change) s.channels) (long ∙ sym (length-map s.channels (on_channel id change)))
      (λ i h. places i (omega (arith, h, long))))

-- 19, 12, 20, then the change and its message
pub changing_ordered : (s : State) (id : ℕ) (change : Channel → Channel) (out : List ℕ) (f n w : Bool) → state_fits s ≡ f → is_configured s id ≡ n
    → cond f (cond n (cond w (changing s (index_in s id) change out) (refused_by NOT-WRITABLE s out)) (refused_by NO-CHANNEL s out)) (refused_by OUTSIDE-LIMITS s out)
    ≡ ordered (λ n. Ok (Answer.Unasked n)) s (of_id s id change) out f n w (differs s (of_id s id change)) (no_room_of (length (message_bytes (of_id s id change))) (length out))
unfolding settling telling
changing_ordered s id change out false n w fits named = refl
changing_ordered s id change out true false w fits named = refl
changing_ordered s id change out true true w fits named = rw (changed_is s fits id named change)
