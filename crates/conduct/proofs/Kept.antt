-- What is kept of a channel while its records are judged, and that a breach stands. Assumes nothing.
use Rattle.meaning.specs.declared.message.Window.{Window}
use Rattle.std.specs.Prelude.{Option, Some, None}
use Rattle.quantity.specs.declared.count.FlowSequence.{FlowSequence}
use mathlib.Core.Path.{◌≡◌, refl, ◌∙◌}
use mathlib.Core.Bool.{Bool, true, false, cond}
use mathlib.Core.List.{List}
use Prim.Native.Nat.{ℕ, zero, suc, ◌+◌, ◌*◌, ◌≤◌, ◌<◌}
use native.Mathlib.Omega.{arith}
use borrow.Author.Tests.{ne_eqb, eqb-true, eqb-false}
use lib.Dec.{eqb}
use lib.ListN.{length, set, replicate, length-set, length-replicate, get_or-replicate}
use lib.Seq.{get_or-set_same, get_or-set_other}
use Rattle.facts.proofs.Tests.{by_le, clash}
use Rattle.quantity.specs.declared.count.ByteCount.{ByteCount}
use Rattle.quantity.specs.Limits.{CHANNEL-IDS}
use Rattle.conduct_rules.specs.declared.Flow.{Flow}
use Rattle.conduct_rules.specs.Rules.{flow_of, obeys_of}
use Rattle.conduct_rules.specs.Kept.{flow_word, flow_in, base_in, base_after, breach_after}
use Rattle.conduct_rules.proofs.Exactly.{obeyed_narrow}
use Rattle.conduct_rules.proofs.Alike.{flow_alike, base_back}
use Rattle.conduct.specs.declared.verdict.Finding.{Finding}
use Rattle.conduct.specs.Outcomes.{control, packet, Outcome, nothing, undecides, message}
use Rattle.conduct.specs.Account.{window_in, last_or, if_given}
use Rattle.conduct.specs.Words.{UNDECIDED, BREACH, FLOW, BASE, EACH, WORDS, word, obeyed_in, heard_up_to, packet_judged, undecided, judged_by, finding_of}

-- ---- each word after a radio control message

module _ (cells : List (Option Window)) (words : List ℕ) where
  pub heard_length : (n : ℕ) → length (heard_up_to n cells words) ≡ length words
  unfolding heard_up_to
  heard_length zero = refl
  heard_length (suc n) = simp length-set (heard_length n)

  pub heard_beside : (place : ℕ) → ((channel : ℕ) → place ≡ FLOW + EACH * channel → ⊥) → (n : ℕ) → word (heard_up_to n cells words) place ≡ word words place
  unfolding heard_up_to
  heard_beside place b zero = refl
  heard_beside place b (suc n) = get_or-set_other (heard_up_to n cells words) (FLOW + EACH * n) place (flow_word (window_in n cells)) 0 (b n) ∙ heard_beside place b n

  heard_at_lem : (channel : ℕ) → FLOW + EACH * channel < length words → (n : ℕ) → channel < n → word (heard_up_to n cells words) (FLOW + EACH * channel) ≡ flow_word (window_in channel cells)
  unfolding heard_up_to
  heard_at_lem channel inside zero h = absurd (omega arith)
  heard_at_lem channel inside (suc n) h = go (heard_at_lem channel inside n) (eqb channel n) refl
    where
      go : (channel < n → word (heard_up_to n cells words) (FLOW + EACH * channel) ≡ flow_word (window_in channel cells)) → (b : Bool) → eqb channel n ≡ b
          → word (set (heard_up_to n cells words) (FLOW + EACH * n) (flow_word (window_in n cells))) (FLOW + EACH * channel) ≡ flow_word (window_in channel cells)
      go earlier true e =
          let same : channel ≡ n = eqb-true channel n e in
          rw same (get_or-set_same (heard_up_to n cells words) (FLOW + EACH * n) (flow_word (window_in n cells)) 0 (rw (heard_length n) (omega arith)))
      go earlier false e =
          let other : channel ≡ n → ⊥ = eqb-false channel n e in
          get_or-set_other (heard_up_to n cells words) (FLOW + EACH * n) (FLOW + EACH * channel) (flow_word (window_in n cells)) 0 (λ q. other (omega arith))
          ∙ earlier (by_le n channel (λ l. absurd (other (omega arith))) (λ l. l))

-- ---- each word after a data message

module _ (number own : ℕ) (bytes : ByteCount) (carried : Option FlowSequence) (words : List ℕ) where
  pub packet_length : length (packet_judged number own bytes carried words) ≡ length words
  unfolding packet_judged
  packet_length = simp length-set

  abbrev breached : ℕ
  breached = breach_after (word words (BREACH + EACH * own)) number (obeyed_in words own bytes carried)

  abbrev between : List ℕ
  between = set words (BREACH + EACH * own) breached

  abbrev based : ℕ
  based = base_after (word words (BASE + EACH * own)) carried

  -- other channels' words are left
  pub packet_beside : (place : ℕ) → (place ≡ BREACH + EACH * own → ⊥) → (place ≡ BASE + EACH * own → ⊥) → word (packet_judged number own bytes carried words) place ≡ word words place
  unfolding packet_judged
  packet_beside place a b = get_or-set_other between (BASE + EACH * own) place based 0 b ∙ get_or-set_other words (BREACH + EACH * own) place breached 0 a

  packet_breach : BREACH + EACH * own < length words → word (packet_judged number own bytes carried words) (BREACH + EACH * own) ≡ breached
  unfolding packet_judged
  packet_breach inside =
      get_or-set_other between (BASE + EACH * own) (BREACH + EACH * own) based 0 (λ e. omega arith) ∙ get_or-set_same words (BREACH + EACH * own) breached 0 inside

  packet_base : BASE + EACH * own < length words → word (packet_judged number own bytes carried words) (BASE + EACH * own) ≡ based
  unfolding packet_judged
  packet_base inside = get_or-set_same between (BASE + EACH * own) based 0 (simp length-set inside)

pub judged_length : (number : ℕ) (outcome : Outcome) (words : List ℕ) → length (judged_by number outcome words) ≡ length words
judged_length number nothing words = refl
judged_length number undecides words = simp length-set
judged_length number (message (control cells)) words = heard_length cells words CHANNEL-IDS
judged_length number (message (packet own bytes carried)) words = packet_length number own bytes carried words

-- ---- a channel without a breach so far: the words hold its flow and its base

pub record Holds (channel : ℕ) (flow : Flow) (base : Option FlowSequence) (words : List ℕ) : Type 0 where
  pub known : channel < CHANNEL-IDS
  pub long : WORDS ≤ length words
  pub clean : word words (BREACH + EACH * channel) ≡ 0
  pub flow_alike : (last : Option FlowSequence) (bytes : ByteCount) (carried : Option FlowSequence) → obeys_of (flow_in (word words (FLOW + EACH * channel))) last bytes carried ≡ obeys_of flow last bytes carried
  pub base_is : base_in (word words (BASE + EACH * channel)) ≡ base

pub holds_fresh : (channel n : ℕ) → channel < CHANNEL-IDS → WORDS ≤ n → Holds channel Flow.Unseen None (replicate n 0)
unfolding flow_in base_in
holds_fresh channel n h long =
    let at : (place : ℕ) → place < n → word (replicate n 0) place ≡ 0 = λ place l. get_or-replicate {A = ℕ} n place 0 0 l in
    record {
      known = h;
      long = rw (length-replicate {A = ℕ} n 0) long;
      clean = at (BREACH + EACH * channel) (omega arith);
      flow_alike = λ last bytes carried. rw (at (FLOW + EACH * channel) (omega arith)) refl;
      base_is = rw (at (BASE + EACH * channel) (omega arith)) refl;
    }

-- words that agree on a channel's three hold the same of it
holds_same : {channel : ℕ} {flow : Flow} {base : Option FlowSequence} {words words' : List ℕ} → Holds channel flow base words → length words' ≡ length words
    → word words' (BREACH + EACH * channel) ≡ word words (BREACH + EACH * channel) → word words' (FLOW + EACH * channel) ≡ word words (FLOW + EACH * channel)
    → word words' (BASE + EACH * channel) ≡ word words (BASE + EACH * channel) → Holds channel flow base words'
holds_same k l a b c =
    record {
      known = k.known;
      long = rw l k.long;
      clean = a ∙ k.clean;
      flow_alike = λ last bytes carried. rw b (k.flow_alike last bytes carried);
      base_is = rw c k.base_is;
    }

pub holds_undecided : {channel : ℕ} {flow : Flow} {base : Option FlowSequence} {words : List ℕ} → Holds channel flow base words → Holds channel flow base (undecided words)
holds_undecided {channel} {words = words} k =
    let beside : (place : ℕ) → (place ≡ UNDECIDED → ⊥) → word (undecided words) place ≡ word words place = λ place b. get_or-set_other words UNDECIDED place 1 0 b in
    holds_same k (simp length-set) (beside (BREACH + EACH * channel) (λ e. omega arith)) (beside (FLOW + EACH * channel) (λ e. omega arith)) (beside (BASE + EACH * channel) (λ e. omega arith))

pub holds_heard : {channel : ℕ} {flow : Flow} {base : Option FlowSequence} {words : List ℕ} (cells : List (Option Window)) → Holds channel flow base words
    → Holds channel (flow_of (window_in channel cells)) base (heard_up_to CHANNEL-IDS cells words)
holds_heard {channel} {words = words} cells k =
    let at = heard_at_lem cells words channel (omega (arith, k.known, k.long)) CHANNEL-IDS k.known in
    record {
      known = k.known;
      long = rw (heard_length cells words CHANNEL-IDS) k.long;
      clean = heard_beside cells words (BREACH + EACH * channel) (λ other e. omega arith) CHANNEL-IDS ∙ k.clean;
      flow_alike = λ last bytes carried. rw at (flow_alike (window_in channel cells) last bytes carried);
      base_is = rw (heard_beside cells words (BASE + EACH * channel) (λ other e. omega arith) CHANNEL-IDS) k.base_is;
    }

-- ---- a data message: of another channel, one that obeys, one that doesn't

module _ {channel : ℕ} {flow : Flow} {base : Option FlowSequence} {words : List ℕ} (k : Holds channel flow base words) (number : ℕ) (bytes : ByteCount) (carried : Option FlowSequence) where
  pub holds_other : (own : ℕ) → (own ≡ channel → ⊥) → Holds channel flow base (packet_judged number own bytes carried words)
  holds_other own n =
      let beside = packet_beside number own bytes carried words in
      holds_same k (packet_length number own bytes carried words)
      (beside (BREACH + EACH * channel) (λ e. n (omega arith)) (λ e. omega arith))
      (beside (FLOW + EACH * channel) (λ e. omega arith) (λ e. omega arith))
      (beside (BASE + EACH * channel) (λ e. omega arith) (λ e. n (omega arith)))

  -- the test that the words make is that of what they hold
  tested : obeys_of (flow_in (word words (FLOW + EACH * channel))) (base_in (word words (BASE + EACH * channel))) bytes carried ≡ obeys_of flow base bytes carried
  tested = rw k.base_is (k.flow_alike base bytes carried)

  breach_is : word (packet_judged number channel bytes carried words) (BREACH + EACH * channel) ≡ cond (obeys_of flow base bytes carried) 0 number
  breach_is = packet_breach number channel bytes carried words (omega (arith, k.known, k.long)) ∙ rw (k.clean, tested) refl

  base_after_lem : (carried' : Option FlowSequence) → carried ≡ carried' → obeys_of flow base bytes carried ≡ true → base_in (base_after (word words (BASE + EACH * channel)) carried') ≡ last_or base (if_given carried')
  base_after_lem None e o = k.base_is
  base_after_lem (Some own) e o = base_back own (obeyed_narrow flow base bytes own (rw (← e) o))

  pub holds_obeyed : obeys_of flow base bytes carried ≡ true → Holds channel flow (last_or base (if_given carried)) (packet_judged number channel bytes carried words)
  holds_obeyed o =
      record {
        known = k.known;
        long = rw (packet_length number channel bytes carried words) k.long;
        clean = breach_is ∙ rw o refl;
        flow_alike = λ last bytes' carried'. rw (packet_beside number channel bytes carried words (FLOW + EACH * channel) (λ e. omega arith) (λ e. omega arith)) (k.flow_alike last bytes' carried');
        base_is = rw (packet_base number channel bytes carried words (omega (arith, k.known, k.long))) (base_after_lem carried refl o);
      }

  pub breach_first : obeys_of flow base bytes carried ≡ false → word (packet_judged number channel bytes carried words) (BREACH + EACH * channel) ≡ number
  breach_first o = breach_is ∙ rw o refl

-- ---- a breach stands, whatever follows

pub breach_stands : (channel breach : ℕ) (words : List ℕ) → channel < CHANNEL-IDS → WORDS ≤ length words → 1 ≤ breach → word words (BREACH + EACH * channel) ≡ breach
    → (number : ℕ) (outcome : Outcome) → word (judged_by number outcome words) (BREACH + EACH * channel) ≡ breach
breach_stands channel breach words h long some e number nothing = e
breach_stands channel breach words h long some e number undecides = get_or-set_other words UNDECIDED (BREACH + EACH * channel) 1 0 (λ q. omega arith) ∙ e
breach_stands channel breach words h long some e number (message (control cells)) = heard_beside cells words (BREACH + EACH * channel) (λ other q. omega arith) CHANNEL-IDS ∙ e
breach_stands channel breach words h long some e number (message (packet own bytes carried)) = go (eqb own channel) refl
  where
    go : (b : Bool) → eqb own channel ≡ b → word (packet_judged number own bytes carried words) (BREACH + EACH * channel) ≡ breach
    go true q =
        let same : own ≡ channel = eqb-true own channel q in
        rw same (packet_breach number channel bytes carried words (omega arith) ∙ rw (e, ne_eqb breach 0 (λ z. omega arith)) refl)
    go false q =
        let other : own ≡ channel → ⊥ = eqb-false own channel q in
        packet_beside number own bytes carried words (BREACH + EACH * channel) (λ z. other (omega arith)) (λ z. omega arith) ∙ e

-- ---- as it is found

-- what undecides sets the word of it, all else leaves it
pub left_decided : (number : ℕ) (outcome : Outcome) (words : List ℕ) → (outcome ≡ undecides → ⊥) → word (judged_by number outcome words) UNDECIDED ≡ word words UNDECIDED
left_decided number nothing words n = refl
left_decided number undecides words n = absurd (n refl)
left_decided number (message (control cells)) words n = heard_beside cells words UNDECIDED (λ channel e. omega arith) CHANNEL-IDS
left_decided number (message (packet own bytes carried)) words n = packet_beside number own bytes carried words UNDECIDED (λ e. omega arith) (λ e. omega arith)

-- a breach is found again, and another channel's data message leaves what is found

pub finding_stands : (channel breach : ℕ) (words : List ℕ) → channel < CHANNEL-IDS → WORDS ≤ length words → finding_of words channel ≡ Finding.Breach breach
    → (number : ℕ) (outcome : Outcome) → (outcome ≡ undecides → ⊥) → finding_of (judged_by number outcome words) channel ≡ Finding.Breach breach
finding_stands channel breach words h long e number outcome n =
    go (eqb (word words UNDECIDED) 0) refl (eqb (word words (BREACH + EACH * channel)) 0) refl e
  where
    go : (decided : Bool) → eqb (word words UNDECIDED) 0 ≡ decided → (clean : Bool) → eqb (word words (BREACH + EACH * channel)) 0 ≡ clean
        → cond decided (cond clean Finding.Passes (Finding.Breach (word words (BREACH + EACH * channel)))) Finding.Undecided ≡ Finding.Breach breach
        → finding_of (judged_by number outcome words) channel ≡ Finding.Breach breach
    go false d clean c q = clash (cc)
    go true d true c q = clash (cc)
    go true d false c q =
        let some : word words (BREACH + EACH * channel) ≡ 0 → ⊥ = eqb-false (word words (BREACH + EACH * channel)) 0 c in
        rw (left_decided number outcome words n, d, breach_stands channel (word words (BREACH + EACH * channel)) words h long (by_le (word words (BREACH + EACH * channel)) 0 (λ l. absurd (some (omega arith))) (λ l. l)) refl number outcome, c) q

pub finding_other : (channel own number : ℕ) (bytes : ByteCount) (carried : Option FlowSequence) (words : List ℕ) → (own ≡ channel → ⊥)
    → finding_of (packet_judged number own bytes carried words) channel ≡ finding_of words channel
finding_other channel own number bytes carried words n =
    let beside = packet_beside number own bytes carried words in
    rw (beside UNDECIDED (λ e. omega arith) (λ e. omega arith), beside (BREACH + EACH * channel) (λ e. n (omega arith)) (λ e. omega arith))
