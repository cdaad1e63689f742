-- What a radio message writes: four words of a channel, and the endpoint's Link Instance and Context. Assumes nothing.
use Rattle.std.specs.Prelude.{Option, Some, None}
use Rattle.quantity.specs.declared.count.LinkInstanceId.{LinkInstanceId}
use Rattle.meaning.specs.declared.message.ContextBytes.{ContextBytes}
use Prim.Native.Nat.{ℕ, ◌+◌, ◌*◌, ◌^◌, ◌≤◌, ◌<◌}
use mathlib.Core.Bool.{Bool, true, false, cond}
use mathlib.Core.List.{List}
use mathlib.Core.Path.{◌≡◌, refl, ap, ◌∙◌}
use native.Mathlib.Omega.{arith}
use lib.Dec.{eqb, ltb}
use lib.ListN.{length, set, length-set}
use lib.Seq.{get_or-set_same, get_or-set_other}
use Rattle.facts.specs.Tables.{tabulate}
use Rattle.quantity.specs.Limits.{MOST-WAITING}
use Rattle.meaning.specs.declared.message.Window.{Window}
use Rattle.store.specs.Waiting.{no_entry}
use Rattle.flow.specs.declared.Flow.{Flow}
use Rattle.flow.specs.Counting.{flow_after}
use Rattle.ips_channel.specs.Channel.{heard_of}
use Rattle.ips_radio.specs.Heard.{kept_instance}
use Rattle.ips_words.specs.Words.{HEAD, FIXED, ENTRY, EXPIRY, SLOT, ID, KIND, CONTROLLED, SIZE, STATUS-TAG, STATUS-VALUE, FLOW-TAG, FLOW-WINDOW, IN-FORCE, SEQUENCE, LATEST, WAITING, GIVEN, INSTANCE-TAG, INSTANCE-VALUE, INSTANCE-LENGTH, CONTEXT-TAG, CONTEXT-VALUE, CONTEXT-LENGTH, word, slot, entry_at, entries_in, queue_in, flow_of, instance_of, context_of, channel_in, spelled, status_tag, status_value, flow_tag, flow_window}
use Rattle.ips_words.proofs.Slots.{status_back, flow_back, status_few, flow_few, spelled_facts, spelled_by}
use Rattle.ips_words.proofs.Pacers.{three_other, three_slot, three_first, three_second, three_third}
use Rattle.ips_words_radio.specs.HeardWords.{status_heard, flow_heard, heard_part, instance_heard, context_tag, context_value, context_size, context_heard}

-- ---- one channel's words
pub part_length : (status : Option ℕ) (window : Option Window) (w : List ℕ) → length (heard_part status window w) ≡ length w
unfolding heard_part
part_length status window w = go (eqb (word (status_heard status w) KIND) CONTROLLED)
  where
    go : (b : Bool) → length (cond b (set (set (status_heard status w) FLOW-TAG (flow_tag (flow_after window))) FLOW-WINDOW (flow_window (flow_after window))) (status_heard status w)) ≡ length w
    go true = simp length-set
    go false = simp length-set

module _ (status : Option ℕ) (window : Option Window) (w : List ℕ) (long : length w ≡ SLOT) where
  abbrev first : List ℕ
  first = status_heard status w

  abbrev flow : Flow
  flow = flow_after window

  first_long : length first ≡ SLOT
  first_long = simp length-set long

  first_other : (k : ℕ) → (k ≡ STATUS-TAG → ⊥) → (k ≡ STATUS-VALUE → ⊥) → word first k ≡ word w k
  first_other k a b = get_or-set_other (set w STATUS-TAG (status_tag status)) STATUS-VALUE k (status_value status) 0 b ∙ get_or-set_other w STATUS-TAG k (status_tag status) 0 a

  first_tag : word first STATUS-TAG ≡ status_tag status
  first_tag =
      get_or-set_other (set w STATUS-TAG (status_tag status)) STATUS-VALUE STATUS-TAG (status_value status) 0 (λ e. omega arith)
      ∙ get_or-set_same w STATUS-TAG (status_tag status) 0 (omega (arith, long))

  first_value : word first STATUS-VALUE ≡ status_value status
  first_value = get_or-set_same (set w STATUS-TAG (status_tag status)) STATUS-VALUE (status_value status) 0 (simp length-set (omega (arith, long)))

  abbrev second : List ℕ
  second = set (set first FLOW-TAG (flow_tag flow)) FLOW-WINDOW (flow_window flow)

  second_other : (k : ℕ) → (k ≡ FLOW-TAG → ⊥) → (k ≡ FLOW-WINDOW → ⊥) → word second k ≡ word first k
  second_other k a b = get_or-set_other (set first FLOW-TAG (flow_tag flow)) FLOW-WINDOW k (flow_window flow) 0 b ∙ get_or-set_other first FLOW-TAG k (flow_tag flow) 0 a

  second_tag : word second FLOW-TAG ≡ flow_tag flow
  second_tag =
      get_or-set_other (set first FLOW-TAG (flow_tag flow)) FLOW-WINDOW FLOW-TAG (flow_window flow) 0 (λ e. omega arith)
      ∙ get_or-set_same first FLOW-TAG (flow_tag flow) 0 (omega (arith, first_long))

  second_window : word second FLOW-WINDOW ≡ flow_window flow
  second_window = get_or-set_same (set first FLOW-TAG (flow_tag flow)) FLOW-WINDOW (flow_window flow) 0 (simp length-set (omega (arith, long)))

  abbrev whole : List ℕ
  whole = heard_part status window w

  whole_first : (k : ℕ) → (k ≡ FLOW-TAG → ⊥) → (k ≡ FLOW-WINDOW → ⊥) → word whole k ≡ word first k
  unfolding heard_part
  whole_first k a b = go (eqb (word first KIND) CONTROLLED)
    where
      go : (x : Bool) → word (cond x second first) k ≡ word first k
      go true = second_other k a b
      go false = refl

  part_tag : word whole STATUS-TAG ≡ status_tag status
  part_tag = whole_first STATUS-TAG (λ e. omega arith) (λ e. omega arith) ∙ first_tag

  part_value : word whole STATUS-VALUE ≡ status_value status
  part_value = whole_first STATUS-VALUE (λ e. omega arith) (λ e. omega arith) ∙ first_value

  -- every word but the four of status and flow state stands: what waits, the sequence, the latest time
  pub part_before : (k : ℕ) → k < STATUS-TAG → word whole k ≡ word w k
  part_before k h = whole_first k (λ e. omega arith) (λ e. omega arith) ∙ first_other k (λ e. omega arith) (λ e. omega arith)

  pub part_behind : (k : ℕ) → FLOW-WINDOW < k → word whole k ≡ word w k
  part_behind k h = whole_first k (λ e. omega arith) (λ e. omega arith) ∙ first_other k (λ e. omega arith) (λ e. omega arith)

  part_flow : flow_of (word whole FLOW-TAG) (word whole FLOW-WINDOW) ≡ cond (eqb (word w KIND) CONTROLLED) flow (flow_of (word w FLOW-TAG) (word w FLOW-WINDOW))
  unfolding heard_part
  part_flow = go (eqb (word first KIND) CONTROLLED) ∙ rw (first_other KIND (λ e. omega arith) (λ e. omega arith))
    where
      go : (x : Bool) → flow_of (word (cond x second first) FLOW-TAG) (word (cond x second first) FLOW-WINDOW) ≡ cond x flow (flow_of (word w FLOW-TAG) (word w FLOW-WINDOW))
      go true = rw (second_tag, second_window) (flow_back flow)
      go false = rw (first_other FLOW-TAG (λ e. omega arith) (λ e. omega arith), first_other FLOW-WINDOW (λ e. omega arith) (λ e. omega arith))

  part_queue : queue_in whole ≡ queue_in w
  unfolding queue_in entries_in
  part_queue = rw (part_behind WAITING (omega arith), ap (tabulate MOST-WAITING) (λ i k. each k i))
    where
      each : (k : ℕ) → cond (ltb k (word w WAITING)) (entry_at whole k) no_entry ≡ cond (ltb k (word w WAITING)) (entry_at w k) no_entry
      each k = rw (part_behind (FIXED + ENTRY * k) (omega arith), part_behind (FIXED + ENTRY * k + EXPIRY) (omega arith))

  -- the channel that they say has heard the message
  pub part_heard_lem : channel_in (heard_part status window w) ≡ heard_of (channel_in w) status window
  unfolding channel_in heard_of
  part_heard_lem =
      rw (part_flow, part_queue, part_before ID (omega arith), part_before KIND (omega arith), part_before SIZE (omega arith), part_behind SEQUENCE (omega arith), part_behind LATEST (omega arith), part_tag, part_value, status_back status)

  -- and they say something, where the message has no number wider than it may be
  module _ (says : spelled w ≡ true) (narrow : status_value status < 256) (low : flow_window flow < 2 ^ 32) where
    tag_few : word w FLOW-TAG ≤ IN-FORCE → word whole FLOW-TAG ≤ IN-FORCE
    unfolding heard_part
    tag_few h = go (eqb (word first KIND) CONTROLLED)
      where
        go : (x : Bool) → word (cond x second first) FLOW-TAG ≤ IN-FORCE
        go true = rw second_tag (flow_few flow)
        go false = rw (first_other FLOW-TAG (λ e. omega arith) (λ e. omega arith)) h

    window_low : word w FLOW-WINDOW < 2 ^ 32 → word whole FLOW-WINDOW < 2 ^ 32
    unfolding heard_part
    window_low h = go (eqb (word first KIND) CONTROLLED)
      where
        go : (x : Bool) → word (cond x second first) FLOW-WINDOW < 2 ^ 32
        go true = rw second_window low
        go false = rw (first_other FLOW-WINDOW (λ e. omega arith) (λ e. omega arith)) h

    pub part_spelled : spelled (heard_part status window w) ≡ true
    part_spelled =
        let s = spelled_facts w says in
        spelled_by (heard_part status window w) (record {
          kind = rw (part_before KIND (omega arith)) s.kind;
          status_tag_lem = rw part_tag (status_few status);
          status = rw part_value narrow;
          flow_tag_lem = tag_few s.flow_tag_lem;
          window = window_low s.window;
          sequence = rw (part_behind SEQUENCE (omega arith)) s.sequence;
        })

-- what the code writes there
pub flow_set : (w : List ℕ) (window : Option Window) (flow : Flow) (tag limit : ℕ) → word w KIND ≡ CONTROLLED → flow ≡ flow_after window → tag ≡ flow_tag flow → limit ≡ flow_window flow
    → set (set w FLOW-TAG tag) FLOW-WINDOW limit ≡ flow_heard window w
flow_set w window flow tag limit one e t l = rw (one, t, l, e)

-- ---- the Link Instance
module _ (w : List ℕ) where
  pub instance_length_lem : (given : Option (LinkInstanceId × ℕ)) → length (instance_heard given w) ≡ length w
  instance_length_lem None = refl
  instance_length_lem (Some (id, size)) = simp length-set

  pub instance_slot : (given : Option (LinkInstanceId × ℕ)) (i : ℕ) → slot (instance_heard given w) i ≡ slot w i
  instance_slot None i = refl
  instance_slot (Some (id, size)) i = three_slot w INSTANCE-TAG GIVEN id.0 size (omega arith) i

  pub instance_before : (given : Option (LinkInstanceId × ℕ)) (k : ℕ) → k < INSTANCE-TAG → word (instance_heard given w) k ≡ word w k
  instance_before None k h = refl
  instance_before (Some (id, size)) k h = three_other w INSTANCE-TAG GIVEN id.0 size k (λ e. omega arith) (λ e. omega arith) (λ e. omega arith)

  pub instance_behind : (given : Option (LinkInstanceId × ℕ)) (k : ℕ) → INSTANCE-LENGTH < k → word (instance_heard given w) k ≡ word w k
  instance_behind None k h = refl
  instance_behind (Some (id, size)) k h = three_other w INSTANCE-TAG GIVEN id.0 size k (λ e. omega arith) (λ e. omega arith) (λ e. omega arith)

  module _ (room : HEAD ≤ length w) where
    pub instance_said_lem : (given : Option (LinkInstanceId × ℕ))
        → instance_of (word (instance_heard given w) INSTANCE-TAG) (word (instance_heard given w) INSTANCE-VALUE) (word (instance_heard given w) INSTANCE-LENGTH)
        ≡ kept_instance (instance_of (word w INSTANCE-TAG) (word w INSTANCE-VALUE) (word w INSTANCE-LENGTH)) given
    unfolding instance_of
    instance_said_lem None = refl
    instance_said_lem (Some (id, size)) =
        rw (three_first w INSTANCE-TAG GIVEN id.0 size (omega arith), three_second w INSTANCE-TAG GIVEN id.0 size (omega arith), three_third w INSTANCE-TAG GIVEN id.0 size (omega arith))

    pub instance_tag : (given : Option (LinkInstanceId × ℕ)) → word w INSTANCE-TAG ≤ GIVEN → word (instance_heard given w) INSTANCE-TAG ≤ GIVEN
    instance_tag None h = h
    instance_tag (Some (id, size)) h = rw (three_first w INSTANCE-TAG GIVEN id.0 size (omega arith)) (omega arith)

-- ---- the Context
context_back : (given : Option (ContextBytes × ℕ)) → context_of (context_tag given) (context_value given) (context_size given) ≡ given
unfolding context_of
context_back None = refl
context_back (Some (bytes, size)) = refl

context_few : (given : Option (ContextBytes × ℕ)) → context_tag given ≤ GIVEN
context_few None = omega arith
context_few (Some (bytes, size)) = omega arith

module _ (w : List ℕ) (given : Option (ContextBytes × ℕ)) where
  pub context_length_lem : length (context_heard given w) ≡ length w
  unfolding context_heard
  context_length_lem = simp length-set

  pub context_slot : (i : ℕ) → slot (context_heard given w) i ≡ slot w i
  unfolding context_heard
  context_slot i = three_slot w CONTEXT-TAG _ _ _ (omega arith) i

  pub context_before_lem : (k : ℕ) → k < CONTEXT-TAG → word (context_heard given w) k ≡ word w k
  unfolding context_heard
  context_before_lem k h = three_other w CONTEXT-TAG _ _ _ k (λ e. omega arith) (λ e. omega arith) (λ e. omega arith)

  pub context_behind : (k : ℕ) → CONTEXT-LENGTH < k → word (context_heard given w) k ≡ word w k
  unfolding context_heard
  context_behind k h = three_other w CONTEXT-TAG _ _ _ k (λ e. omega arith) (λ e. omega arith) (λ e. omega arith)

  module _ (room : HEAD ≤ length w) where
    pub tag_written : word (context_heard given w) CONTEXT-TAG ≡ context_tag given
    unfolding context_heard
    tag_written = three_first w CONTEXT-TAG _ _ _ (omega arith)

    pub value_written : word (context_heard given w) CONTEXT-VALUE ≡ context_value given
    unfolding context_heard
    value_written = three_second w CONTEXT-TAG _ _ _ (omega arith)

    pub size_written : word (context_heard given w) CONTEXT-LENGTH ≡ context_size given
    unfolding context_heard
    size_written = three_third w CONTEXT-TAG _ _ _ (omega arith)

    pub context_said_lem : context_of (word (context_heard given w) CONTEXT-TAG) (word (context_heard given w) CONTEXT-VALUE) (word (context_heard given w) CONTEXT-LENGTH) ≡ given
    context_said_lem = rw (tag_written, value_written, size_written) (context_back given)

    pub context_tag_lem : word (context_heard given w) CONTEXT-TAG ≤ GIVEN
    context_tag_lem = rw tag_written (context_few given)
