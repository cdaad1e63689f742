-- The pacer's times in the endpoint's own words: what is written reads back, and every other word stands. Assumes nothing.
use Prim.Native.Nat.{ℕ, ◌+◌, ◌≤◌, ◌<◌}
use mathlib.Core.Bool.{true}
use mathlib.Core.List.{List}
use mathlib.Core.Path.{◌≡◌, ap, sym, ◌∙◌}
use native.Mathlib.Omega.{arith}
use lib.ListN.{length, set, length-set}
use lib.Seq.{drop-set-lt, get_or-set_same, get_or-set_other}
use Rattle.facts.specs.Tables.{tabulate}
use Rattle.pacer.specs.declared.Pacer.{Pacer}
use Rattle.ips_state.specs.State.{State, with_pacer}
use Rattle.ips_state.specs.Limits.{state_fits}
use Rattle.ips_words.specs.Words.{HEAD, DATALINK-WORD, COUNT-WORD, INSTANCE-TAG, INSTANCE-VALUE, INSTANCE-LENGTH, CONTEXT-TAG, CONTEXT-VALUE, CONTEXT-LENGTH, HELLO-WORD, LIMIT-WORD, CLOCK-WORD, HEARD-WORD, CODES-WORD, word, slot, slot_start, channel_in, pacer_in, state_of, readable, state_in, put_pacer}
use Rattle.ips_words.proofs.Whole.{Readable, readable_facts, readable_by, says, fit_readable}

-- ---- three of the endpoint's own words, one behind another
module _ (w : List ℕ) (at a b d : ℕ) where
  abbrev three : List ℕ
  three = set (set (set w at a) (at + 1) b) (at + 2) d

  pub three_other : (k : ℕ) → (k ≡ at → ⊥) → (k ≡ at + 1 → ⊥) → (k ≡ at + 2 → ⊥) → word three k ≡ word w k
  three_other k e f g = get_or-set_other (set (set w at a) (at + 1) b) (at + 2) k d 0 g ∙ get_or-set_other (set w at a) (at + 1) k b 0 f ∙ get_or-set_other w at k a 0 e

  pub three_slot : at + 2 < HEAD → (i : ℕ) → slot three i ≡ slot w i
  unfolding slot
  three_slot h i =
      rw (drop-set-lt (slot_start i) (set (set w at a) (at + 1) b) (at + 2) d (omega arith), drop-set-lt (slot_start i) (set w at a) (at + 1) b (omega arith), drop-set-lt (slot_start i) w at a (omega arith))

  module _ (room : at + 3 ≤ length w) where
    pub three_first : word three at ≡ a
    three_first =
        get_or-set_other (set (set w at a) (at + 1) b) (at + 2) at d 0 (λ e. omega arith)
        ∙ get_or-set_other (set w at a) (at + 1) at b 0 (λ e. omega arith)
        ∙ get_or-set_same w at a 0 (omega arith)

    pub three_second : word three (at + 1) ≡ b
    three_second = get_or-set_other (set (set w at a) (at + 1) b) (at + 2) (at + 1) d 0 (λ e. omega arith) ∙ get_or-set_same (set w at a) (at + 1) b 0 (simp length-set (omega arith))

    pub three_third : word three (at + 2) ≡ d
    three_third = get_or-set_same (set (set w at a) (at + 1) b) (at + 2) d 0 (simp length-set (omega arith))

-- ---- the pacer's three
module _ (words : List ℕ) (p : Pacer) where
  pub paced_length : length (put_pacer words p) ≡ length words
  unfolding put_pacer
  paced_length = simp length-set

  pub paced_slot : (i : ℕ) → slot (put_pacer words p) i ≡ slot words i
  unfolding put_pacer
  paced_slot i = three_slot words CLOCK-WORD p.clock p.due p.heard (omega arith) i

  pub paced_before : (k : ℕ) → k < CLOCK-WORD → word (put_pacer words p) k ≡ word words k
  unfolding put_pacer
  paced_before k h = three_other words CLOCK-WORD p.clock p.due p.heard k (λ e. omega arith) (λ e. omega arith) (λ e. omega arith)

  pub paced_behind : (k : ℕ) → HEARD-WORD < k → word (put_pacer words p) k ≡ word words k
  unfolding put_pacer
  paced_behind k h = three_other words CLOCK-WORD p.clock p.due p.heard k (λ e. omega arith) (λ e. omega arith) (λ e. omega arith)

  -- the state that the words say then has that pacer, where its waits are theirs
  module _ (room : HEAD ≤ length words) (hello : p.hello ≡ word words HELLO-WORD) (limit : p.limit ≡ word words LIMIT-WORD) where
    pub paced_pacer : pacer_in (put_pacer words p) ≡ p
    unfolding put_pacer
    paced_pacer =
        rw (three_first words CLOCK-WORD p.clock p.due p.heard (omega arith), three_second words CLOCK-WORD p.clock p.due p.heard (omega arith), three_third words CLOCK-WORD p.clock p.due p.heard (omega arith), three_other words CLOCK-WORD p.clock p.due p.heard HELLO-WORD (λ e. omega arith) (λ e. omega arith) (λ e. omega arith), three_other words CLOCK-WORD p.clock p.due p.heard LIMIT-WORD (λ e. omega arith) (λ e. omega arith) (λ e. omega arith), ← hello, ← limit)

    channels_paced : (count : ℕ) → tabulate count (λ i. channel_in (slot (put_pacer words p) i)) ≡ tabulate count (λ i. channel_in (slot words i))
    channels_paced count = ap (tabulate count) (λ j i. channel_in (paced_slot i j))

    pub paced_state : state_of (put_pacer words p) ≡ with_pacer (state_of words) p
    unfolding state_of with_pacer
    paced_state =
        rw (paced_pacer, paced_before DATALINK-WORD (omega arith), paced_before COUNT-WORD (omega arith), paced_before INSTANCE-TAG (omega arith), paced_before INSTANCE-VALUE (omega arith), paced_before INSTANCE-LENGTH (omega arith), paced_before CONTEXT-TAG (omega arith), paced_before CONTEXT-VALUE (omega arith), paced_before CONTEXT-LENGTH (omega arith), paced_behind CODES-WORD (omega arith), channels_paced (word words COUNT-WORD))

  -- ---- and readable words stay so
  module _ (e : readable words ≡ true) where
    facts : Readable words
    facts = readable_facts words e

    pub paced_readable : readable (put_pacer words p) ≡ true
    paced_readable = readable_by (put_pacer words p) (record {
      long = paced_length ∙ facts.long ∙ rw (paced_before COUNT-WORD (omega arith));
      head = record { datalink = rw (paced_before DATALINK-WORD (omega arith)) facts.head.datalink; instance = rw (paced_before INSTANCE-TAG (omega arith)) facts.head.instance; context = rw (paced_before CONTEXT-TAG (omega arith)) facts.head.context; codes = rw (paced_behind CODES-WORD (omega arith)) facts.head.codes };
      each = λ i h. rw (paced_slot i) (facts.each i (rw (paced_before COUNT-WORD (omega arith)) at h));
    })

    -- THE LAW: words with the pacer's times written stand for the state with that pacer
    pub paced_in : p.hello ≡ word words HELLO-WORD → p.limit ≡ word words LIMIT-WORD → state_in (put_pacer words p) ≡ with_pacer (state_in words) p
    paced_in hello limit =
        says (put_pacer words p) paced_readable
        ∙ paced_state (omega (arith, facts.long)) hello limit
        ∙ ap (λ (s : State). with_pacer s p) (sym (says words e))

-- words that stand for a state within the limits say its pacer
pub fit_pacer : (words : List ℕ) → state_fits (state_in words) ≡ true → (state_in words).pacer ≡ pacer_in words
unfolding state_of
fit_pacer words fits = rw (says words (fit_readable words fits))
