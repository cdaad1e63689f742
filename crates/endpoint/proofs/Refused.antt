-- Promises: a refusal "changes no state and no lent byte", and any two outcomes that a contract allows coincide, in reply, words and memory. Assumes nothing.
use Rattle.std.specs.Prelude.{Result, Ok, Err}
use Prim.Native.Nat.{ℕ, ◌≤◌}
use mathlib.Core.Bool.{Bool, true, false}
use mathlib.Core.List.{List}
use mathlib.Core.Path.{◌≡◌, refl, sym, ◌∙◌}
use native.Mathlib.Omega.{arith}
use borrow.Author.Tests.{lt-ltb, le-ltb}
use lib.ListN.{set}
use lib.Seq.{get_or-set_other, set-get_or}
use Rattle.facts.proofs.Tests.{clash}
use Rattle.quantity.specs.declared.refusal.Refusal.{Refusal}
use Rattle.ips_channel_rules.specs.Rules.{ChannelCall, next, Says, Answer, refused, answered, Terms}
use Rattle.ips_channel_calls.specs.Calls.{Reply, asked, reply_to}
use Rattle.pacer.specs.declared.PaceAnswer.{PaceAnswer}
use Rattle.pacer.specs.Pacing.{is_due, is_silent, moved_to}
use Rattle.ips_state.specs.Limits.{state_fits, waits_fit}
use Rattle.ips_state.specs.Memory.{index_in}
use Rattle.ips_radio.specs.Heard.{due_of}
use Rattle.ips_run.specs.Calling.{terms_in, calling}
use Rattle.ips_run.specs.Run.{Call, on, radio, pace, query, carried, received_in}
use Rattle.ips_run.proofs.Exact.{refused_world}
use Rattle.ips_calls.specs.Radio.{AfterRadio}
use Rattle.ips_calls.specs.Replies.{EndpointReply, of_channel, of_radio, of_pace, of_query}
use Rattle.ips_calls.proofs.Refused.{not_refused, answered_so, next_refused_same, query_refused_same}
use Rattle.ips_calls.proofs.Exactly.{unheard, Handed, outside, earlier, unread, heard, passed, handed, Paced, asked_outside, asked_earlier, asked_in_time, paced}
use Rattle.ips_words.specs.Words.{CLOCK-WORD, DUE-WORD, HEARD-WORD, word, state_in, put_pacer}
use Rattle.ips_words_start.specs.Start.{configuration_in, starts_in, StartedIn}
use Rattle.endpoint.specs.Lent.{Lent, lent, world_in, words_called_under, after_in_under, after_in}
use Rattle.endpoint.specs.Calls.{PerformedIn, PerformedInAt, is_refused}
use Rattle.endpoint.proofs.Calling.{unless_told}
use Rattle.endpoint.proofs.Simulating.{performed_in}

-- ---- any two outcomes coincide
pub calls_coincide_in : {c : Call} {l l' l'' : Lent} {x x' : EndpointReply} → PerformedIn c l x l' → PerformedIn c l x' l'' → (x ≡ x') × (l' ≡ l'')
calls_coincide_in h k = (h.reply_is ∙ sym k.reply_is, h.lent_is ∙ sym k.lent_is)

pub found_coincide_in : {c : ChannelCall} {l l' l'' : Lent} {index : ℕ} {x x' : Reply} → PerformedInAt c l index x l' → PerformedInAt c l index x' l'' → (x ≡ x') × (l' ≡ l'')
found_coincide_in h k = (h.reply_is ∙ sym k.reply_is, h.lent_is ∙ sym k.lent_is)

pub starts_coincide_in : {configuration words memory words' words'' memory' memory'' : List ℕ} {answer answer' : Result (Unit {0}) Refusal} → StartedIn configuration words memory answer words' memory'
    → StartedIn configuration words memory answer' words'' memory'' → (answer ≡ answer') × (words' ≡ words'') × (memory' ≡ memory'')
starts_coincide_in h k = (h.answer_is ∙ sym k.answer_is, h.words_are ∙ sym k.words_are, h.memory_is ∙ sym k.memory_is)

-- ---- Offer, Next and Withdraw
refused_told : (k : Terms) (call : ChannelCall) (a : Answer (Says call)) → is_refused (reply_to k call a) ≡ true → (number : ℕ) × (a ≡ refused number)
refused_told k call (refused number) e = (number, refl)
refused_told k call (answered says) e = clash (unless_told k call (answered says) true false ∙ rw e)

module _ {l l' : Lent} {id : ℕ} {call : ChannelCall} {x : Reply} (h : PerformedIn (on id call) l (of_channel x) l') where
  reply_told : x ≡ reply_to (terms_in (world_in l) (index_in (world_in l) id)) call (calling id call (world_in l)).answer
  reply_told = cc h.reply_is

  pub refused_in_lem : is_refused x ≡ true → l' ≡ l
  unfolding after_in_under words_called_under
  refused_in_lem e =
      let told = refused_told (terms_in (world_in l) (index_in (world_in l) id)) call (calling id call (world_in l)).answer (rw reply_told at e) in
      h.lent_is ∙ rw (refused_world id call (world_in l) told.0 told.1, told.1)

-- and Next leaves the output
pub next_refused_in : {l l' : Lent} {id time : ℕ} {out out' : List ℕ} {refusal : Refusal} → PerformedIn (on id (next time out)) l (of_channel (asked (Err refusal) out')) l'
    → (l' ≡ l) × (out' ≡ out)
next_refused_in {l} {l'} {id} {time} {out} {out'} {refusal} h =
    (refused_in_lem h refl, (next_refused_same (world_in l) id refusal (world_in l') time out out' (Err refusal) (performed_in tt h) refl).1)

-- ---- a radio message
-- a word written back over itself
set_back : (words : List ℕ) (at time k : ℕ) → (k ≡ at → ⊥) → set (set words at time) k (word words k) ≡ set words at time
set_back words at time k apart = rw (← (get_or-set_other words at k time 0 apart)) (set-get_or (set words at time) k 0)

refused_dropped : (l : Lent) (time : ℕ) (datagram : List ℕ) {h : AfterRadio} → Handed (state_in l.words) time datagram h → (refusal : Refusal) → h.answer ≡ Err refusal
    → after_in (radio time datagram) l ≡ l
unfolding after_in_under
refused_dropped l time datagram (outside f) refusal e = rw f
refused_dropped l time datagram (earlier f early) refusal e = rw (f, lt-ltb time (state_in l.words).pacer.clock early)
refused_dropped l time datagram (unread why f w) refusal e = rw (f, unheard (state_in l.words).datalink.id datagram why w)
refused_dropped l time datagram (heard m f a) refusal e = absurd (not_refused (state_in l.words) (due_of (state_in l.words).context m.context) refusal e)
refused_dropped l time datagram (passed f a) refusal e = clash (cc)

module _ {l l' : Lent} {time : ℕ} {datagram : List ℕ} where
  pub radio_refused_in : {refusal : Refusal} → PerformedIn (radio time datagram) l (of_radio (Err refusal)) l' → l' ≡ l
  radio_refused_in {refusal} h = h.lent_is ∙ refused_dropped l time datagram (handed (state_in l.words) time datagram) refusal (cc h.reply_is)

  -- a data message "changes nothing else" than the clock's word
  pub radio_data_in : state_fits (state_in l.words) ≡ true → (state_in l.words).pacer.clock ≤ time → received_in (state_in l.words).datalink.id datagram ≡ carried
      → {x : EndpointReply} → PerformedIn (radio time datagram) l x l' → l' ≡ lent (set l.words CLOCK-WORD time) l.memory
  unfolding after_in_under put_pacer moved_to
  radio_data_in fits on_time is h =
      h.lent_is ∙ rw (fits, le-ltb time (state_in l.words).pacer.clock on_time, is, set_back l.words CLOCK-WORD time DUE-WORD (λ e. omega arith), set_back l.words CLOCK-WORD time HEARD-WORD (λ e. omega arith))

-- ---- the pacer asked
pub pace_refused_in : {l l' : Lent} {time : ℕ} {refusal : Refusal} → PerformedIn (pace time) l (of_pace (Err refusal)) l' → l' ≡ l
unfolding after_in_under
pace_refused_in {l} {l'} {time} {refusal} h = h.lent_is ∙ go (paced (state_in l.words) time) (cc h.reply_is)
  where
    go : {a : Result PaceAnswer Refusal} → Paced (state_in l.words) time a → Err refusal ≡ a → after_in (pace time) l ≡ l
    go (asked_outside f) e = rw f
    go (asked_earlier f early) e = rw (f, lt-ltb time (state_in l.words).pacer.clock early)
    go (asked_in_time f on_time) e = absurd (answered_so (is_due time (state_in l.words).pacer) (is_silent time (state_in l.words).pacer) refusal (sym e))

-- ---- a query, whatever its answer; refused, it leaves the output too
pub query_in : {l l' : Lent} {out : List ℕ} {x : EndpointReply} → PerformedIn (query out) l x l' → l' ≡ l
unfolding after_in_under
query_in h = h.lent_is

pub query_refused_in : {l l' : Lent} {out out' : List ℕ} {refusal : Refusal} → PerformedIn (query out) l (of_query (Err refusal) out') l' → out' ≡ out
query_refused_in {l} {l'} {out} {out'} {refusal} h =
    (query_refused_same (world_in l) out (Err refusal) out' (world_in l') refusal (performed_in tt h) refl).1

-- ---- a start
pub start_refused_in : {configuration words memory words' memory' : List ℕ} {refusal : Refusal} → StartedIn configuration words memory (Err refusal) words' memory'
    → (words' ≡ words) × (memory' ≡ memory)
start_refused_in {configuration} {words} {memory} {words'} {memory'} {refusal} h = go (starts_in configuration words memory) refl (waits_fit (configuration_in configuration)) refl
  where
    go : (fits : Bool) → starts_in configuration words memory ≡ fits → (waits : Bool) → waits_fit (configuration_in configuration) ≡ waits → (words' ≡ words) × (memory' ≡ memory)
    go true f true l = let started : Err refusal ≡ Ok tt = rw (f, l) at h.answer_is in clash (cc)
    go true f false l = (h.words_are ∙ rw (f, l), h.memory_is ∙ rw (f, l))
    go false f waits l = (h.words_are ∙ rw f, h.memory_is ∙ rw f)
