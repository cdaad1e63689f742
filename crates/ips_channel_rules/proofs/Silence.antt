-- A silence, in the words of document 02, §1: what it changes of a channel, what it leaves, and that nothing goes after it. Assumes nothing.
use Rattle.std.specs.Prelude.{Some, None}
use Prim.Native.Nat.{ℕ}
use mathlib.Core.Bool.{Bool, true, false, cond}
use mathlib.Core.List.{List, [], ◌∷◌}
use mathlib.Core.Path.{◌≡◌, refl}
use lib.ListN.{length}
use Rattle.facts.proofs.Tests.{clash}
use Rattle.meaning.specs.declared.message.Window.{Window}
use Rattle.store.specs.Packets.{Packet}
use Rattle.flow.specs.declared.Flow.{Flow}
use Rattle.ips_channel_rules.specs.Rules.{offer, next, withdraw, Taken, taken, Tried, Emptied, emptied, Answer, refused, answered, Event, call, radio, silence, called, Happened, Terms, ChannelParts, Condition, AfterCall, offer_at, withdraw_at, radio_at, step, happens, history}
use Rattle.ips_channel_rules.specs.Machine.{machine}
use Rattle.ips_channel_rules.specs.Simple.{simple}
use Rattle.ips_channel_rules.specs.Account.{handed_by, handed_over, is_quiet, Quiet}
use Rattle.ips_channel_rules.specs.Exactly.{Asked, asked_early, asked_nothing, asked_not_operational, asked_shut, asked_no_room, asked_sent}
use Rattle.ips_channel_rules.proofs.Exact.{asked}
use Rattle.ips_channel_rules.proofs.Leaves.{Leaves, stays, joins, looks, sends, clears, hears, leaves}

module _ (P : ChannelParts) (k : Terms) where
  -- "every channel becomes not reported"; "Packets stay waiting"; "a channel's own clock is untouched"
  module _ (st : Condition P) where
    pub silence_leaves : ((step P k silence st).status ≡ None) × ((step P k silence st).keeping ≡ st.keeping) × ((step P k silence st).latest ≡ st.latest)
    unfolding radio_at
    silence_leaves = (refl, refl, refl)

    -- "every flow-controlled one has no window", and plain ones stay as they are
    pub silence_counting : (step P k silence st).counting ≡ cond k.controlled (P.hear (Some Window.Empty) st.counting) st.counting
    unfolding radio_at
    silence_counting = refl

  -- ---- nothing goes while a channel is not reported
  next_hands : (time : ℕ) (out : List ℕ) (st : Condition P) (r : AfterCall P Tried) → Asked P k time (length out) st r → st.status ≡ None
      → handed_by (called (next time out) r.answer) ≡ []
  next_hands time out st _ (asked_early t) e = refl
  next_hands time out st _ (asked_nothing t w) e = refl
  next_hands time out st _ (asked_not_operational t w o) e = refl
  next_hands time out st _ (asked_shut t w o f) e = refl
  next_hands time out st _ (asked_no_room t w o f r) e = refl
  next_hands time out st _ (asked_sent t w o f r) e = clash (rw e at o)

  offer_hands : (p : Packet) (time : ℕ) (a : Answer Taken) → handed_by (called (offer p time) a) ≡ []
  offer_hands p time (refused number) = refl
  offer_hands p time (answered taken) = refl

  withdraw_hands : (a : Answer Emptied) → handed_by (called withdraw a) ≡ []
  withdraw_hands (refused number) = refl
  withdraw_hands (answered emptied) = refl

  hands_none : (e : Event) (st : Condition P) → st.status ≡ None → handed_by (happens P k e st) ≡ []
  hands_none (call (offer p time)) st e = offer_hands p time (offer_at P k p time st).answer
  hands_none (call (next time out)) st e = next_hands time out st _ (asked P k time (length out) st) e
  hands_none (call withdraw) st e = withdraw_hands (withdraw_at P k st).answer
  hands_none (radio status window) st e = refl

  stays_unreported : {e : Event} {st : Condition P} {h : Happened} {st' : Condition P} → Leaves P k e st h st' → is_quiet e → st.status ≡ None → st'.status ≡ None
  stays_unreported stays q e = e
  stays_unreported (joins t x) q e = e
  stays_unreported (looks n t) q e = e
  stays_unreported (sends t w f) q e = e
  stays_unreported clears q e = e
  stays_unreported hears q e = q

  pub quiet_sends : (es : List Event) → Quiet es → (st : Condition P) → st.status ≡ None → handed_over (history P k es st) ≡ []
  quiet_sends [] q st e = refl
  quiet_sends (v ∷ es) q st e = rw (hands_none v st e) (quiet_sends es q.1 (step P k v st) (stays_unreported (leaves P k v st) q.0 e))

-- ---- "every flow-controlled one has no window", whatever it had; a plain one, which is always free, keeps its flow state; the count and the sequence stand still
module _ (k : Terms) (st : Condition machine) where
  pub silence_controlled : k.controlled ≡ true → (step machine k silence st).counting.flow ≡ Flow.NoWindow
  unfolding radio_at
  silence_controlled e = rw e

  pub silence_plain : k.controlled ≡ false → (step machine k silence st).counting.flow ≡ st.counting.flow
  unfolding radio_at
  silence_plain e = rw e

  pub silence_sequence : (step machine k silence st).counting.sequence ≡ st.counting.sequence
  unfolding radio_at
  silence_sequence = go k.controlled
    where
      go : (b : Bool) → (cond b (machine.hear (Some Window.Empty) st.counting) st.counting).sequence ≡ st.counting.sequence
      go true = refl
      go false = refl

pub silence_count : (k : Terms) (st : Condition simple) → (step simple k silence st).counting.count ≡ st.counting.count
unfolding radio_at
silence_count k st = go k.controlled
  where
    go : (b : Bool) → (cond b (simple.hear (Some Window.Empty) st.counting) st.counting).count ≡ st.counting.count
    go true = refl
    go false = refl

-- a silence twice is a silence once
pub silence_again : (k : Terms) (st : Condition machine) → step machine k silence (step machine k silence st) ≡ step machine k silence st
unfolding radio_at
silence_again k st = go k.controlled refl
  where
    go : (b : Bool) → k.controlled ≡ b → step machine k silence (step machine k silence st) ≡ step machine k silence st
    go true e = rw e
    go false e = rw e
