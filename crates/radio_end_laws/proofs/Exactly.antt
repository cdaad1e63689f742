-- "Given exactly when": each answer of the calls by which the radio's own side tells, and of Tell. Assumes nothing.
use Rattle.std.specs.Prelude.{Option, Ok}
use Rattle.quantity.specs.declared.count.LinkInstanceId.{LinkInstanceId}
use Rattle.meaning.specs.declared.message.ContextBytes.{ContextBytes}
use Prim.Native.Nat.{ℕ, ◌≤◌}
use mathlib.Core.Bool.{Bool, true, false}
use mathlib.Core.List.{List}
use mathlib.Core.Logic.{◌↔◌}
use mathlib.Core.Path.{◌≡◌, refl}
use borrow.Author.Tests.{leb-true, le-leb}
use lib.Dec.{leb}
use lib.ListN.{length}
use Rattle.facts.proofs.Tests.{clash}
use Rattle.quantity.specs.Limits.{HIGHEST-STATUS}
use Rattle.meaning.specs.declared.message.End.TheVariants as ends
use Rattle.writable.specs.Allowed.{instance_allowed, context_allowed}
use Rattle.writer.specs.Written.{no_room_of}
use Rattle.radio_end_state.specs.declared.answer.Answer.{Answer}
use Rattle.radio_end_state.specs.Channel.{with_queued, with_status}
use Rattle.radio_end_state.specs.State.{State, with_context, with_instance}
use Rattle.radio_end_state.specs.Limits.{state_fits, is_configured}
use Rattle.radio_end_state.specs.Message.{message_bytes, differs}
use Rattle.radio_end_state.specs.Calls.{telling, settling, status_told, queued_told, context_told, link_told, told}
use Rattle.radio_end_laws.specs.Plain.{Has, of_id, status_set, queued_set, context_set, instance_set, StatusChanges, QueuedChanges, ContextWritable, InstanceWritable}
use Rattle.radio_end_laws.specs.Limits.{WithinLimits}
use Rattle.radio_end_laws.specs.Given.{Exactly}
use Rattle.radio_end_laws.proofs.Places.{has_exactly}
use Rattle.radio_end_laws.proofs.Limits.{always, context_writable, instance_writable, limits_exactly}
use Rattle.radio_end_laws.proofs.Differs.{status_differs, queued_differs, context_differs}
use Rattle.radio_end_laws.proofs.Ordered.{answered_speaks, unasked_speaks, ordered, exactly}
use Rattle.radio_end_laws.proofs.Changed.{changing_ordered}

-- a test that never passes
never : (false ≡ true) ↔ ⊥
never = (λ e. clash e, λ x. absurd x)

-- ---- each call in the order of its tests
module _ (s : State) (out : List ℕ) where
  abbrev short : State → Bool
  short after = no_room_of (length (message_bytes after)) (length out)

  pub status_ordered : (id value : ℕ)
      → status_told s id value out
      ≡ ordered (λ n. Ok (Answer.Unasked n)) s (of_id s id (status_set value)) out (state_fits s) (is_configured s id) (leb value HIGHEST-STATUS) (differs s (of_id s id (status_set value))) (short (of_id s id (status_set value)))
  unfolding status_told with_status
  status_ordered id value = changing_ordered s id (status_set value) out (state_fits s) (is_configured s id) (leb value HIGHEST-STATUS) refl refl

  pub queued_ordered : (id bytes : ℕ)
      → queued_told s id (record { 0 = bytes }) out
      ≡ ordered (λ n. Ok (Answer.Unasked n)) s (of_id s id (queued_set bytes)) out (state_fits s) (is_configured s id) true (differs s (of_id s id (queued_set bytes))) (short (of_id s id (queued_set bytes)))
  unfolding queued_told with_queued
  queued_ordered id bytes = changing_ordered s id (queued_set bytes) out (state_fits s) (is_configured s id) true refl refl

  pub context_ordered : (context : Option (ContextBytes × ℕ))
      → context_told s context out
      ≡ ordered (λ n. Ok (Answer.Unasked n)) s (context_set s context) out (state_fits s) true (context_allowed ends.Radio context) (differs s (context_set s context)) (short (context_set s context))
  unfolding context_told settling telling with_context
  context_ordered context = refl

  pub link_ordered : (instance : Option (LinkInstanceId × ℕ))
      → link_told s instance out ≡ ordered (λ n. Ok (Answer.Unasked n)) s (instance_set s instance) out (state_fits s) true (instance_allowed ends.Radio instance) false (short (instance_set s instance))
  unfolding link_told with_instance
  link_ordered instance = refl

  pub tell_ordered : told s out ≡ ordered (λ n. Ok (Answer.Answered n)) s s out (state_fits s) true true true (short s)
  unfolding told telling
  tell_ordered = refl

  -- A STATUS TOLD: 19, 12, 20 above 15, 18; the message goes exactly if the status differs from before
  pub status_exactly : (id value : ℕ)
      → Exactly (WithinLimits s) (Has s id) (value ≤ 15) (StatusChanges s id value) (λ n. Ok (Answer.Unasked n)) s (of_id s id (status_set value)) out (status_told s id value out)
  status_exactly id value =
      exactly (λ n. Ok (Answer.Unasked n)) s (of_id s id (status_set value)) out unasked_speaks (state_fits s) (is_configured s id) (leb value HIGHEST-STATUS) (differs s (of_id s id (status_set value)))
      (limits_exactly s) (has_exactly s id) (leb-true value HIGHEST-STATUS, le-leb value HIGHEST-STATUS) (status_differs s id value) (status_ordered id value)

  -- BYTES QUEUED TOLD: 19, 12, 18; the number is kept in any case, the message goes exactly if the channel is flow-controlled, has heard a sequence, and the
  -- allowance is another
  pub queued_exactly : (id bytes : ℕ)
      → Exactly (WithinLimits s) (Has s id) (Unit {0}) (QueuedChanges s id bytes) (λ n. Ok (Answer.Unasked n)) s (of_id s id (queued_set bytes)) out (queued_told s id (record { 0 = bytes }) out)
  queued_exactly id bytes =
      exactly (λ n. Ok (Answer.Unasked n)) s (of_id s id (queued_set bytes)) out unasked_speaks (state_fits s) (is_configured s id) true (differs s (of_id s id (queued_set bytes)))
      (limits_exactly s) (has_exactly s id) always (queued_differs s id bytes) (queued_ordered id bytes)

  -- A CONTEXT TOLD: 19, 20 outside 1 to 8 bytes, 18; the message goes exactly if it differs from before
  pub context_exactly : (context : Option (ContextBytes × ℕ))
      → Exactly (WithinLimits s) (Unit {0}) (ContextWritable context) (s.context ≡ context → ⊥) (λ n. Ok (Answer.Unasked n)) s (context_set s context) out (context_told s context out)
  context_exactly context =
      exactly (λ n. Ok (Answer.Unasked n)) s (context_set s context) out unasked_speaks (state_fits s) true (context_allowed ends.Radio context) (differs s (context_set s context))
      (limits_exactly s) always (context_writable context) (context_differs s context) (context_ordered context)

  -- A LINK INSTANCE TOLD is kept without a message: 19, 20
  pub link_exactly : (instance : Option (LinkInstanceId × ℕ))
      → Exactly (WithinLimits s) (Unit {0}) (InstanceWritable instance) ⊥ (λ n. Ok (Answer.Unasked n)) s (instance_set s instance) out (link_told s instance out)
  link_exactly instance =
      exactly (λ n. Ok (Answer.Unasked n)) s (instance_set s instance) out unasked_speaks (state_fits s) true (instance_allowed ends.Radio instance) false
      (limits_exactly s) always (instance_writable instance) never (link_ordered instance)

  -- TELL, the message as it stands, changes nothing: 19, 18
  pub tell_exactly : Exactly (WithinLimits s) (Unit {0}) (Unit {0}) (Unit {0}) (λ n. Ok (Answer.Answered n)) s s out (told s out)
  tell_exactly = exactly (λ n. Ok (Answer.Answered n)) s s out answered_speaks (state_fits s) true true true (limits_exactly s) always always always tell_ordered
