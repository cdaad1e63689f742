-- Promises: a call on a channel leaves every word outside that channel's, and behind the waiting packets of the channel that it leaves stand zeros. Assumes nothing.
use Prim.Native.Nat.{ℕ, ◌+◌, ◌≤◌, ◌<◌}
use mathlib.Core.Bool.{true, false}
use mathlib.Core.List.{List, ◌++◌}
use mathlib.Core.Logic.{◌⊎◌, inl, inr}
use mathlib.Core.Path.{◌≡◌, refl, sym, ap, ◌∙◌}
use native.Mathlib.Omega.{arith}
use lib.ListN.{length, take, drop, get_or, get_or-append, get_or-eq_default}
use lib.Seq.{get_or-take, get_or-drop}
use Rattle.facts.proofs.Tests.{clash}
use Rattle.quantity.specs.Limits.{MOST-WAITING}
use Rattle.store.specs.declared.queue.Queue.{Queue}
use Rattle.store.specs.Waiting.{no_entry}
use Rattle.ips_channel_rules.specs.Rules.{ChannelCall, Says, Answer, refused, answered, unless_refused}
use Rattle.ips_channel.specs.declared.state.Channel.{Channel}
use Rattle.ips_channel_calls.specs.Calls.{Reply, reply_to, channel_after}
use Rattle.ips_state.specs.State.{State, channel_at}
use Rattle.ips_state.specs.Memory.{index_in, channel_in}
use Rattle.ips_state.proofs.Places.{front_long, changed_behind}
use Rattle.ips_run.specs.Calling.{terms_in, result_in, WorldResult, calling, Judged, outside, unknown, served}
use Rattle.ips_run.specs.Run.{on}
use Rattle.ips_run.proofs.Exact.{judged}
use Rattle.ips_calls.specs.Replies.{of_channel}
use Rattle.ips_words.specs.Words.{SLOT, word, slot, slot_start, entry_at, fixed_words, channel_words, state_in, put_slot, put_channel, Tidy}
use Rattle.ips_words.proofs.Entries.{entries_waiting, tidy_back}
use Rattle.ips_words.proofs.Slots.{channel_length}
use Rattle.ips_words.proofs.Whole.{fit_room, fit_put, put_same}
use Rattle.endpoint.specs.Lent.{Lent, world_in, words_called_under, after_in_under}
use Rattle.endpoint.specs.Calls.{PerformedIn, is_refused}
use Rattle.endpoint.proofs.Calling.{unless_told}
use Rattle.endpoint.proofs.Simulating.{served_placed, served_narrow, served_same}

-- ---- one channel's words written anew
module _ (words : List ℕ) (index : ℕ) (room : slot_start index + SLOT ≤ length words) (c : Channel) (tidy : Tidy c.queue) where
  long : length (channel_words c) ≡ SLOT
  long = channel_length c tidy.places

  pub put_outside : (k : ℕ) → (k < slot_start index) ⊎ (slot_start index + SLOT ≤ k) → word (put_channel words index c) k ≡ word words k
  unfolding put_channel put_slot
  put_outside k (inl before) =
      get_or-append (take (slot_start index) words) (channel_words c ++ drop (slot_start index + SLOT) words) 0 k (omega (arith, front_long words (channel_words c) (slot_start index) SLOT room long))
      ∙ get_or-take (slot_start index) words k 0 before
  put_outside k (inr behind) =
      let changed = put_slot words index (channel_words c) in
      let at : k + 0 ≡ k = omega arith in
      rw (← at) (sym (get_or-drop k changed 0 0) ∙ ap (λ (rest : List ℕ). get_or rest 0 0) (changed_behind words (channel_words c) (slot_start index) SLOT room long k behind) ∙ get_or-drop k words 0 0)

-- every place of a channel's words is written: behind what waits no length and no expiry
pub zeros_behind : (c : Channel) → Tidy c.queue → (k : ℕ) → c.queue.count ≤ k → k < MOST-WAITING → entry_at (channel_words c) k ≡ no_entry
unfolding channel_words
zeros_behind c tidy k behind few =
    let all : Queue = record { entries = c.queue.entries; count = MOST-WAITING } in
    let every : Tidy all = record { places = tidy.places; behind = λ i h. get_or-eq_default c.queue.entries no_entry (omega (arith, tidy.places)) } in
    sym (entries_waiting (channel_words c) MOST-WAITING k few few)
    ∙ ap (λ es. get_or es k no_entry) (tidy_back (fixed_words c) all refl every)
    ∙ tidy.behind k behind

-- ---- a call on the channel of an ID
module _ {l l' : Lent} {id : ℕ} {call : ChannelCall} {x : Reply} (h : PerformedIn (on id call) l (of_channel x) l') where
  abbrev index : ℕ
  index = index_in (world_in l) id

  abbrev left_by : WorldResult (Says call) → List ℕ
  left_by r = unless_refused r.answer l.words (put_channel l.words index (channel_in r.world index))

  by_judged : {r : WorldResult (Says call)} → Judged id call (world_in l) r → (k : ℕ) → (k < slot_start index) ⊎ (slot_start index + SLOT ≤ k) → word (left_by r) k ≡ word l.words k
  by_judged (outside f) k o = refl
  by_judged (unknown f t) k o = refl
  by_judged (served f t) k o = rw (served_same l id call f t) (by (result_in call (world_in l) index).answer)
    where
      left : Channel
      left = channel_after (channel_in (world_in l) index) (result_in call (world_in l) index)

      by : (a : Answer (Says call)) → word (unless_refused a l.words (put_channel l.words index left)) k ≡ word l.words k
      by (refused number) = refl
      by (answered says) =
          let p = served_placed l id call f t in
          put_outside l.words index (fit_room l.words p.fits index p.within) left (served_narrow l id call f t).tidy k o

  -- EVERY OTHER WORD STANDS: the endpoint's own, and those of every other channel
  pub other_words : (k : ℕ) → (k < slot_start index) ⊎ (slot_start index + SLOT ≤ k) → word l'.words k ≡ word l.words k
  unfolding after_in_under words_called_under
  other_words k o = rw h.lent_is (by_judged (judged id call (world_in l)) k o)

  -- the channel that a call leaves, unless it refuses: no length and no expiry behind what waits
  abbrev Zeros : List ℕ → Type 0
  Zeros words' = (k : ℕ) → (channel_at (state_in words') index).queue.count ≤ k → k < MOST-WAITING → entry_at (slot words' index) k ≡ no_entry

  zeros_judged : {r : WorldResult (Says call)} → Judged id call (world_in l) r → ((number : ℕ) → r.answer ≡ refused number → ⊥) → Zeros (left_by r)
  zeros_judged (outside f) n = absurd (n _ refl)
  zeros_judged (unknown f t) n = absurd (n _ refl)
  zeros_judged (served f t) n = rw (served_same l id call f t) (by (result_in call (world_in l) index).answer n)
    where
      left : Channel
      left = channel_after (channel_in (world_in l) index) (result_in call (world_in l) index)

      by : (a : Answer (Says call)) → ((number : ℕ) → a ≡ refused number → ⊥) → Zeros (unless_refused a l.words (put_channel l.words index left))
      by (refused number) m k behind few = absurd (m number refl)
      by (answered says) m k behind few =
          let p = served_placed l id call f t in
          let narrow = served_narrow l id call f t in
          let said : channel_at (state_in (put_channel l.words index left)) index ≡ left =
          ap (λ (s : State). channel_at s index) (fit_put l.words p.fits index p.within left narrow) ∙ served_same l id call f t in
          rw (put_same l.words index (fit_room l.words p.fits index p.within) left narrow.tidy) (zeros_behind left narrow.tidy k (rw said at behind) few)

  pub zeros_left : is_refused x ≡ false → Zeros l'.words
  unfolding after_in_under words_called_under
  zeros_left e = rw h.lent_is (zeros_judged (judged id call (world_in l)) none)
    where
      none : (number : ℕ) → (calling id call (world_in l)).answer ≡ refused number → ⊥
      none number a =
          let k = terms_in (world_in l) index in
          let said : x ≡ reply_to k call (calling id call (world_in l)).answer = cc h.reply_is in
          let told : is_refused (reply_to k call (refused number)) ≡ false = rw (said, a) at e in
          clash (sym (unless_told k call (refused number) true false ∙ rw told))
