-- Document 01, "A channel's life": "Radio control message accepted", and document 02, §1, a silence, in the lent words: which of them are written, and that every other
-- one stands.
use Rattle.quantity.specs.declared.count.LinkInstanceId.{LinkInstanceId}
use Rattle.meaning.specs.declared.message.ContextBytes.{ContextBytes}
use Rattle.std.specs.Prelude.{ℕ, zero, suc, ◌^◌, ◌<◌, cond, List, set, eqb, Option, Some, None}
use Rattle.meaning.specs.declared.message.Window.{Window}
use Rattle.meaning.specs.declared.message.Control.{Control}
use Rattle.flow.specs.Counting.{flow_after}
use Rattle.pacer.specs.Pacing.{is_silent, asked, heard_at, moved_to}
use Rattle.ips_radio.specs.Heard.{status_in, window_in}
use Rattle.ips_run.specs.Run.{Received, dropped, carried, stated}
use Rattle.ips_words.specs.Words.{ID, KIND, CONTROLLED, STATUS-TAG, STATUS-VALUE, FLOW-TAG, FLOW-WINDOW, COUNT-WORD, ABSENT, GIVEN, INSTANCE-TAG, INSTANCE-VALUE, INSTANCE-LENGTH, CONTEXT-TAG, CONTEXT-VALUE, CONTEXT-LENGTH, word, slot, pacer_in, put_slot, put_pacer, status_tag, status_value, flow_tag, flow_window}

-- ---- one channel's words: "a configured channel that it names takes its Status; one that it doesn't name is not reported"
abbrev pub status_heard : Option ℕ → List ℕ → List ℕ
status_heard status w = set (set w STATUS-TAG (status_tag status)) STATUS-VALUE (status_value status)

-- "For each flow-controlled channel: no Flow Window option makes it free; .."
abbrev pub flow_heard : Option Window → List ℕ → List ℕ
flow_heard window w =
    cond (eqb (word w KIND) CONTROLLED) (set (set w FLOW-TAG (flow_tag (flow_after window))) FLOW-WINDOW (flow_window (flow_after window))) w

unfoldable pub heard_part : Option ℕ → Option Window → List ℕ → List ℕ
heard_part status window w = flow_heard window (status_heard status w)

-- a channel is told something by its own Channel ID
abbrev pub told_slot : (status : ℕ → Option ℕ) (window : ℕ → Option Window) → List ℕ → List ℕ
told_slot status window w = heard_part (status (word w ID)) (window (word w ID)) w

-- the first channels, so many: "Unconfigured channels are skipped."
unfoldable pub told_slots : (status : ℕ → Option ℕ) (window : ℕ → Option Window) → List ℕ → ℕ → List ℕ
told_slots status window words zero = words
told_slots status window words (suc n) = let before = told_slots status window words n in put_slot before n (told_slot status window (slot before n))

-- what a message states of each Channel ID
abbrev pub heard_slot : Control → List ℕ → List ℕ
heard_slot message w = told_slot (status_in message) (window_in message) w

abbrev pub heard_slots : Control → List ℕ → ℕ → List ℕ
heard_slots message words n = told_slots (status_in message) (window_in message) words n

-- THE WORDS AFTER A SILENCE, document 02, §1: "every channel becomes not reported and every flow-controlled one has no window"
abbrev pub silenced_slot : List ℕ → List ℕ
silenced_slot w = heard_part None (Some Window.Empty) w

abbrev pub silenced_slots : List ℕ → ℕ → List ℕ
silenced_slots words n = told_slots (λ id. None) (λ id. (Some Window.Empty)) words n

unfoldable pub silenced_words : List ℕ → List ℕ
silenced_words words = silenced_slots words (word words COUNT-WORD)

-- ---- the endpoint's own words: "Link Instance is kept when given."
abbrev pub instance_heard : Option (LinkInstanceId × ℕ) → List ℕ → List ℕ
instance_heard None words = words
instance_heard (Some (id, size)) words = set (set (set words INSTANCE-TAG GIVEN) INSTANCE-VALUE id.0) INSTANCE-LENGTH size

-- Document 02 §2: the accepted message's own Context, "no Context at all" too, by which the next one is judged; its three words are written in either case
abbrev pub context_tag : Option (ContextBytes × ℕ) → ℕ
context_tag None = ABSENT
context_tag (Some (bytes, size)) = GIVEN

abbrev pub context_value : Option (ContextBytes × ℕ) → ℕ
context_value None = 0
context_value (Some (bytes, size)) = bytes.0

abbrev pub context_size : Option (ContextBytes × ℕ) → ℕ
context_size None = 0
context_size (Some (bytes, size)) = size

unfoldable pub context_heard : Option (ContextBytes × ℕ) → List ℕ → List ℕ
context_heard given words = set (set (set words CONTEXT-TAG (context_tag given)) CONTEXT-VALUE (context_value given)) CONTEXT-LENGTH (context_size given)

-- THE WORDS AFTER AN ACCEPTED RADIO CONTROL MESSAGE
unfoldable pub heard_words : Control → List ℕ → List ℕ
heard_words message words = context_heard message.context (instance_heard message.instance (heard_slots message words (word words COUNT-WORD)))

-- ---- with the pacer's times: a datagram from the radio, as `received` has it of the state
abbrev pub received_words : (time : ℕ) → Received → List ℕ → List ℕ
received_words time dropped words = words
received_words time carried words = put_pacer words (moved_to time (pacer_in words))
received_words time (stated message) words = put_pacer (heard_words message words) (heard_at time (pacer_in words))

-- and the pacer asked, as `paced_by` has it
unfoldable pub paced_words : (time : ℕ) → List ℕ → List ℕ
paced_words time words = put_pacer (cond (is_silent time (pacer_in words)) (silenced_words words) words) (asked time (pacer_in words))

-- ---- a message whose numbers are no wider than their words are read
pub record Slender (message : Control) : Type 0 where
  pub statuses : (id : ℕ) → status_value (status_in message id) < 256
  pub windows : (id : ℕ) → flow_window (flow_after (window_in message id)) < 2 ^ 32
