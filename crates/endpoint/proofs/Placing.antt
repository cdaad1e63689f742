-- The words of the channel at an index, where number 19 was tested. Assumes nothing.
use Prim.Native.Nat.{ℕ, ◌+◌, ◌-◌, ◌≤◌, ◌<◌}
use mathlib.Core.Bool.{true}
use mathlib.Core.List.{List}
use mathlib.Core.Path.{◌≡◌, sym, ap, ◌∙◌}
use native.Mathlib.Omega.{arith}
use borrow.Rule.Slice.PartMut.{put_mid}
use lib.ListN.{length, take, drop}
use lib.Seq.{drop-drop}
use Rattle.quantity.specs.Limits.{MOST-CHANNELS}
use Rattle.ips_channel.specs.declared.state.Channel.{Channel}
use Rattle.ips_state.specs.State.{State, channel_at}
use Rattle.ips_state.specs.Limits.{state_fits}
use Rattle.ips_state.proofs.Places.{fit}
use Rattle.ips_words.specs.Words.{SLOT, slot, slot_start, channel_in, channel_words, state_of, state_in, put_slot, put_channel, Loadable}
use Rattle.ips_words.proofs.Whole.{slot_length, says, fit_readable, fit_room, fit_channel, fit_loadable}
use Rattle.endpoint.specs.Calls.{Placed}

-- ---- the endpoint's own words
module _ (words : List ℕ) (fits : state_fits (state_in words) ≡ true) where
  pub says_so : {A : Type 0} (field : State → A) (x : A) → x ≡ field (state_of words) → x ≡ field (state_in words)
  says_so field x e = e ∙ ap field (sym (says words (fit_readable words fits)))

-- ---- a channel's
module _ (words : List ℕ) (index : ℕ) (p : Placed words index) where
  pub few : index < MOST-CHANNELS
  few = omega (arith, p.within, (fit (state_in words) p.fits).few)

  pub slot_ends : slot_start index + SLOT ≤ length words
  slot_ends = fit_room words p.fits index p.within

  abbrev part : List ℕ
  part = take (slot_start index + SLOT - slot_start index) (drop (slot_start index) words)

  size_is : slot_start index + SLOT - slot_start index ≡ SLOT
  size_is = omega arith

  part_is : part ≡ slot words index
  unfolding slot
  part_is = rw size_is

  pub part_long : length part ≡ SLOT
  part_long = rw part_is (slot_length words index slot_ends)

  pub part_loadable : Loadable part
  part_loadable = rw part_is (fit_loadable words p.fits index p.within)

  pub part_loaded : (c : Channel) → c ≡ channel_in part → c ≡ channel_at (state_in words) index
  part_loaded c e = e ∙ rw (part_is, fit_channel words p.fits index p.within)

  pub part_saved : (c : Channel) (saved : List ℕ) → saved ≡ channel_words c → put_mid (slot_start index) (slot_start index + SLOT - slot_start index) words saved ≡ put_channel words index c
  unfolding put_channel put_slot
  part_saved c saved e = rw (size_is, e, drop-drop)
