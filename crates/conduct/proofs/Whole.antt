-- The promises: what is found of a channel after all records of a capture is what the papers say of the list of its accepted messages. Assumes nothing.
use Rattle.std.specs.Prelude.{Option, None}
use Rattle.quantity.specs.declared.count.FlowSequence.{FlowSequence}
use mathlib.Core.Path.{◌≡◌, refl, sym, ap, ◌∙◌}
use mathlib.Core.Bool.{Bool, true, false}
use mathlib.Core.List.{List, [], ◌∷◌, ◌++◌}
use Prim.Native.Nat.{ℕ, suc, ◌+◌, ◌*◌, ◌≤◌, ◌<◌}
use native.Mathlib.Omega.{arith}
use borrow.Author.Tests.{eq-eqb, ne_eqb, eqb-true, eqb-false}
use lib.Dec.{eqb}
use lib.ListN.{length, replicate, length-replicate, get_or-replicate}
use lib.Seq.{get_or-set_same}
use Rattle.facts.proofs.Tests.{clash}
use Rattle.quantity.specs.declared.count.ByteCount.{ByteCount}
use Rattle.quantity.specs.declared.count.DatalinkId.{DatalinkId}
use Rattle.quantity.specs.Limits.{CHANNEL-IDS}
use Rattle.meaning.specs.declared.message.End.{End}
use Rattle.reader.specs.Readings.{Verdict, read_control, read_data}
use Rattle.records.specs.Files.{Report, kept, refused, reports_of, closed, Turns}
use Rattle.records.specs.Unread.{ROOM, start_of}
use Rattle.records.proofs.Whole.{every_record}
use Rattle.ethernet.specs.declared.Kind.{Kind}
use Rattle.ethernet.specs.declared.Ports.{Ports}
use Rattle.ethernet.specs.Kinds.{kind_of}
use Rattle.ethernet.specs.Layers.{datagram_of}
use Rattle.conduct_rules.specs.declared.Flow.{Flow}
use Rattle.conduct_rules.specs.Rules.{obeys_of}
use Rattle.conduct_rules.proofs.Exactly.{obeys_is, is_obeyed}
use Rattle.conduct.specs.declared.verdict.Finding.{Finding}
use Rattle.conduct.specs.Outcomes.{Message, control, packet, Outcome, nothing, undecides, message, if_accepted, heard_in, sent_in, outcome_by, outcome_of}
use Rattle.conduct.specs.Account.{Numbered, numbered, messages_from, messages_of, ObeysUnder, Stands, here, later, AllObey, LeastBreach, Unclear, fragment, shortened, stopped, behind, Says}
use Rattle.conduct.specs.Words.{UNDECIDED, BREACH, EACH, WORDS, word, packet_judged, undecided, judged_by, finding_of, judged_all}
use Rattle.conduct.proofs.Kept.{packet_length, judged_length, left_decided, Holds, holds_fresh, holds_undecided, holds_heard, holds_other, holds_obeyed, breach_first, breach_stands}
use Rattle.conduct.proofs.Lists.{none_stands, ObeysFrom, flow_by, base_by, all_on, least_on, least_here}

-- ---- the numbers of the messages rise

module _ (ports : Ports) (id : DatalinkId) where
  numbers_rise : (reports : List Report) (number : ℕ) {before : List Numbered} {m : Numbered} → Stands before m (messages_from ports id number reports) → number ≤ m.number
  unfolding messages_from
  numbers_rise [] number {before = before} {m = m} s = elim s [ ]
  numbers_rise (kept original frame ∷ reports) number s = go (outcome_of ports id original frame) (λ before m s. numbers_rise reports (suc number) s) s
    where
      go : (outcome : Outcome) → ((before : List Numbered) (m : Numbered) → Stands before m (messages_from ports id (suc number) reports) → suc number ≤ m.number)
          → {before : List Numbered} {m : Numbered} → Stands before m (numbered number outcome ++ messages_from ports id (suc number) reports) → number ≤ m.number
      go nothing rest s = omega (arith, rest _ _ s)
      go undecides rest s = omega (arith, rest _ _ s)
      go (message stated) rest here = omega arith
      go (message stated) rest (later s) = omega (arith, rest _ _ s)
  numbers_rise (refused refusal ∷ reports) number s = numbers_rise reports number s

  -- ---- a breach stands to the end

  stands_on : (channel breach : ℕ) → channel < CHANNEL-IDS → 1 ≤ breach → (reports : List Report) (number : ℕ) (words : List ℕ) → WORDS ≤ length words
      → word words (BREACH + EACH * channel) ≡ breach → word (judged_all ports id number reports words) (BREACH + EACH * channel) ≡ breach
  unfolding judged_all
  stands_on channel breach h some [] number words long e = e
  stands_on channel breach h some (kept original frame ∷ reports) number words long e =
      let outcome : Outcome = outcome_of ports id original frame in
      stands_on channel breach h some reports (suc number) (judged_by number outcome words) (rw (judged_length number outcome words) long) (breach_stands channel breach words h long some e number outcome)
  stands_on channel breach h some (refused refusal ∷ reports) number words long e =
      stands_on channel breach h some reports number (undecided words) (rw (judged_length number undecides words) long) (breach_stands channel breach words h long some e number undecides)

  -- ---- the walk over the records, from words that hold a flow and a base

  data Walked (channel : ℕ) (flow : Flow) (base : Option FlowSequence) (messages : List Numbered) (words : List ℕ) : Type 0 where
    passed : word words (BREACH + EACH * channel) ≡ 0 → AllObey (ObeysFrom channel flow base) messages → Walked channel flow base messages words
    broke : (breach : ℕ) → word words (BREACH + EACH * channel) ≡ breach → 1 ≤ breach → LeastBreach (ObeysFrom channel flow base) messages breach
        → Walked channel flow base messages words

  walked_on : (channel : ℕ) (flow : Flow) (base : Option FlowSequence) (x : Numbered) (ms : List Numbered) {words : List ℕ} → ObeysUnder channel flow base x.message
      → Walked channel (flow_by channel flow x.message) (base_by channel base x.message) ms words → Walked channel flow base (x ∷ ms) words
  walked_on channel flow base x ms o (passed e k) = passed e (all_on channel flow base x ms o k)
  walked_on channel flow base x ms o (broke breach e some k) = broke breach e some (least_on channel flow base x ms o k)

  -- what the records behind make of words that hold a flow and a base
  abbrev Onward : (channel : ℕ) → List Report → (number : ℕ) → Type 0
  Onward channel reports number = (flow : Flow) (base : Option FlowSequence) (words : List ℕ) → Holds channel flow base words
      → Walked channel flow base (messages_from ports id number reports) (judged_all ports id number reports words)

  module _ (channel : ℕ) (reports : List Report) (number : ℕ) (some : 1 ≤ number) (flow : Flow) (base : Option FlowSequence) (words : List ℕ) (k : Holds channel flow base words)
      (on : Onward channel reports (suc number)) where
    abbrev rest : List Numbered
    rest = messages_from ports id (suc number) reports

    abbrev Step : Outcome → Type 0
    Step outcome = Walked channel flow base (numbered number outcome ++ rest) (judged_all ports id (suc number) reports (judged_by number outcome words))

    packet_step : (own : ℕ) (bytes : ByteCount) (carried : Option FlowSequence) (own_is : Bool) → eqb own channel ≡ own_is → (obeyed : Bool) → obeys_of flow base bytes carried ≡ obeyed
        → Step (message (packet own bytes carried))
    packet_step own bytes carried true e true o =
        let same : own ≡ channel = eqb-true own channel e in
        let held : Holds channel flow (base_by channel base (packet own bytes carried)) (packet_judged number own bytes carried words)
        = rw (same, eq-eqb channel channel refl) (holds_obeyed k number bytes carried o) in
        walked_on channel flow base (record { number = number; message = packet own bytes carried }) rest (λ q. obeys_is flow base bytes carried o) (on flow _ _ held)
    packet_step own bytes carried true e false o =
        let same : own ≡ channel = eqb-true own channel e in
        let here-is : word (packet_judged number own bytes carried words) (BREACH + EACH * channel) ≡ number = rw same (breach_first k number bytes carried o) in
        broke number
        (stands_on channel number k.known some reports (suc number) (packet_judged number own bytes carried words) (rw (packet_length number own bytes carried words) k.long) here-is)
        some
        (least_here channel flow base (record { number = number; message = packet own bytes carried }) rest (λ f. clash (sym o ∙ is_obeyed (f same)))
        (λ before m s. omega (arith, numbers_rise reports (suc number) s)))
    packet_step own bytes carried false e obeyed o =
        let other : own ≡ channel → ⊥ = eqb-false own channel e in
        let held : Holds channel flow (base_by channel base (packet own bytes carried)) (packet_judged number own bytes carried words)
        = rw e (holds_other k number bytes carried own other) in
        walked_on channel flow base (record { number = number; message = packet own bytes carried }) rest (λ q. absurd (other q)) (on flow _ _ held)

    step : (outcome : Outcome) → Step outcome
    step nothing = on flow base words k
    step undecides = on flow base (undecided words) (holds_undecided k)
    step (message (control cells)) = walked_on channel flow base (record { number = number; message = control cells }) rest tt (on _ base _ (holds_heard cells k))
    step (message (packet own bytes carried)) = packet_step own bytes carried (eqb own channel) refl (obeys_of flow base bytes carried) refl

  walk : (channel : ℕ) (reports : List Report) (number : ℕ) → 1 ≤ number → Onward channel reports number
  unfolding judged_all messages_from
  walk channel [] number some flow base words k = passed k.clean (none_stands (ObeysFrom channel flow base))
  walk channel (refused refusal ∷ reports) number some flow base words k = walk channel reports number some flow base (undecided words) (holds_undecided k)
  walk channel (kept original frame ∷ reports) number some flow base words k =
      step channel reports number some flow base words k (walk channel reports (suc number) (omega arith)) (outcome_of ports id original frame)

-- ---- undecided exactly when

-- a record undecides by its kind alone
if_never : (verdict : Verdict) (stated : Message) → if_accepted verdict stated ≡ undecides → ⊥
if_never Verdict.Accepted stated e = let z : ◌≡◌ {A = ℕ} 0 1 = cc in omega arith
if_never (Verdict.Refused refusal) stated e = let z : ◌≡◌ {A = ℕ} 0 1 = cc in omega arith
if_never Verdict.OtherPlane stated e = let z : ◌≡◌ {A = ℕ} 0 1 = cc in omega arith

sent_never : (id : DatalinkId) (datagram : List ℕ) → sent_in id datagram ≡ undecides → ⊥
sent_never id datagram e = if_never (read_data End.Ips id datagram).verdict _ e

heard_never : (id : DatalinkId) (datagram : List ℕ) → heard_in id datagram ≡ undecides → ⊥
heard_never id datagram e = if_never (read_control End.Radio id datagram).verdict _ e

module _ (ports : Ports) (id : DatalinkId) where
  undecided_by : (original : ℕ) (frame : List ℕ) (reports : List Report) → outcome_of ports id original frame ≡ undecides → Unclear ports (kept original frame ∷ reports)
  unfolding outcome_by
  undecided_by original frame reports e = go (kind_of ports original frame) refl e
    where
      never : nothing ≡ undecides → Unclear ports (kept original frame ∷ reports)
      never q = let z : ◌≡◌ {A = ℕ} 0 1 = cc in absurd (omega arith)

      go : (kind : Kind) → kind_of ports original frame ≡ kind → outcome_by kind id (datagram_of frame) ≡ undecides → Unclear ports (kept original frame ∷ reports)
      go Kind.Ips k q = absurd (sent_never id (datagram_of frame) q)
      go Kind.Radio k q = absurd (heard_never id (datagram_of frame) q)
      go Kind.Shortened k q = shortened k
      go Kind.Fragment k q = fragment k
      go Kind.Short k q = never q
      go Kind.OtherType k q = never q
      go Kind.NotIpv4 k q = never q
      go Kind.OtherProtocol k q = never q
      go Kind.Ipv4Length k q = never q
      go Kind.UdpLength k q = never q
      go Kind.OtherPort k q = never q

  -- the word of it: set by what undecides, left by all else
  set_undecided : (words : List ℕ) → 1 ≤ length words → word (undecided words) UNDECIDED ≡ 1
  set_undecided words long = get_or-set_same words UNDECIDED 1 0 (omega arith)

  keeps_undecided : (number : ℕ) (outcome : Outcome) (words : List ℕ) → 1 ≤ length words → word words UNDECIDED ≡ 1 → word (judged_by number outcome words) UNDECIDED ≡ 1
  keeps_undecided number nothing words long e = e
  keeps_undecided number undecides words long e = set_undecided words long
  keeps_undecided number (message stated) words long e = left_decided number (message stated) words (λ q. let z : ◌≡◌ {A = ℕ} 0 1 = cc in omega arith) ∙ e

  stays_undecided : (reports : List Report) (number : ℕ) (words : List ℕ) → 1 ≤ length words → word words UNDECIDED ≡ 1 → word (judged_all ports id number reports words) UNDECIDED ≡ 1
  unfolding judged_all
  stays_undecided [] number words long e = e
  stays_undecided (kept original frame ∷ reports) number words long e =
      let outcome : Outcome = outcome_of ports id original frame in
      stays_undecided reports (suc number) (judged_by number outcome words) (rw (judged_length number outcome words) long) (keeps_undecided number outcome words long e)
  stays_undecided (refused refusal ∷ reports) number words long e =
      stays_undecided reports number (undecided words) (rw (judged_length number undecides words) long) (set_undecided words long)

  undecided_when : {reports : List Report} → Unclear ports reports → (number : ℕ) (words : List ℕ) → 1 ≤ length words → word (judged_all ports id number reports words) UNDECIDED ≡ 1
  unfolding judged_all outcome_by
  undecided_when (fragment {reports = reports} k) number words long =
      rw k (stays_undecided reports (suc number) (undecided words) (rw (judged_length number undecides words) long) (set_undecided words long))
  undecided_when (shortened {reports = reports} k) number words long =
      rw k (stays_undecided reports (suc number) (undecided words) (rw (judged_length number undecides words) long) (set_undecided words long))
  undecided_when (stopped {reports = reports}) number words long =
      stays_undecided reports number (undecided words) (rw (judged_length number undecides words) long) (set_undecided words long)
  undecided_when (behind {report = kept original frame} u) number words long =
      undecided_when u (suc number) (judged_by number (outcome_of ports id original frame) words) (rw (judged_length number (outcome_of ports id original frame) words) long)
  undecided_when (behind {report = refused refusal} u) number words long = undecided_when u number (undecided words) (rw (judged_length number undecides words) long)

  data Clarity (reports : List Report) (words : List ℕ) (was : ℕ) : Type 0 where
    unclear : Unclear ports reports → Clarity reports words was
    clear : word words UNDECIDED ≡ was → Clarity reports words was

  clarity : (reports : List Report) (number : ℕ) (words : List ℕ) → Clarity reports (judged_all ports id number reports words) (word words UNDECIDED)
  unfolding judged_all
  clarity [] number words = clear refl
  clarity (refused refusal ∷ reports) number words = unclear stopped
  clarity (kept original frame ∷ reports) number words =
      go (outcome_of ports id original frame) refl (clarity reports (suc number) (judged_by number (outcome_of ports id original frame) words))
    where
      later_on : (outcome : Outcome) → outcome_of ports id original frame ≡ outcome → (outcome ≡ undecides → ⊥)
          → Clarity reports (judged_all ports id (suc number) reports (judged_by number (outcome_of ports id original frame) words)) (word (judged_by number (outcome_of ports id original frame) words) UNDECIDED)
          → Clarity (kept original frame ∷ reports) (judged_all ports id (suc number) reports (judged_by number (outcome_of ports id original frame) words)) (word words UNDECIDED)
      later_on outcome q n (unclear u) = unclear (behind u)
      later_on outcome q n (clear e) = clear (e ∙ left_decided number (outcome_of ports id original frame) words (λ z. n (sym q ∙ z)))

      go : (outcome : Outcome) → outcome_of ports id original frame ≡ outcome
          → Clarity reports (judged_all ports id (suc number) reports (judged_by number (outcome_of ports id original frame) words)) (word (judged_by number (outcome_of ports id original frame) words) UNDECIDED)
          → Clarity (kept original frame ∷ reports) (judged_all ports id (suc number) reports (judged_by number (outcome_of ports id original frame) words)) (word words UNDECIDED)
      go nothing q rest = later_on nothing q (λ z. let y : ◌≡◌ {A = ℕ} 0 1 = cc in omega arith) rest
      go undecides q rest = unclear (undecided_by original frame reports q)
      go (message stated) q rest = later_on (message stated) q (λ z. let y : ◌≡◌ {A = ℕ} 0 1 = cc in omega arith) rest

-- ---- the promises

-- both can't be, and there is one least number
pub breach_passes : {Asked : List Numbered → Message → Type 0} {messages : List Numbered} {number : ℕ} → LeastBreach Asked messages number → AllObey Asked messages → ⊥
breach_passes k all = k.breaks (all k.before k.breach k.stands)

pub breach_one : {Asked : List Numbered → Message → Type 0} {messages : List Numbered} {m n : ℕ} → LeastBreach Asked messages m → LeastBreach Asked messages n → m ≡ n
breach_one a b =
    omega (arith, a.least b.before b.breach b.stands b.breaks, b.least a.before a.breach a.stands a.breaks, a.named, b.named)

module _ (ports : Ports) (id : DatalinkId) (reports : List Report) (channel : ℕ) where
  -- any two findings that say so are one
  pub says_one : (f g : Finding) → Says ports id reports channel f → Says ports id reports channel g → f ≡ g
  says_one Finding.Passes Finding.Passes a b = refl
  says_one Finding.Passes (Finding.Breach number) a b = absurd (breach_passes b.1 a.1)
  says_one Finding.Passes Finding.Undecided a b = absurd (a.0 b)
  says_one (Finding.Breach number) Finding.Passes a b = absurd (breach_passes a.1 b.1)
  says_one (Finding.Breach number) (Finding.Breach other) a b = ap Finding.Breach (breach_one a.1 b.1)
  says_one (Finding.Breach number) Finding.Undecided a b = absurd (a.0 b)
  says_one Finding.Undecided Finding.Passes a b = absurd (b.0 a)
  says_one Finding.Undecided (Finding.Breach number) a b = absurd (b.0 a)
  says_one Finding.Undecided Finding.Undecided a b = refl

  module _ (n : ℕ) (known : channel < CHANNEL-IDS) (room : WORDS ≤ n) where
    abbrev left : List ℕ
    left = judged_all ports id 1 reports (replicate n 0)

    -- what is found of a channel after all records, from zeros on, is so
    pub finding_says : Says ports id reports channel (finding_of left channel)
    finding_says =
        go (clarity ports id reports 1 (replicate n 0))
        (walk ports id channel reports 1 (omega arith) Flow.Unseen None (replicate n 0) (holds_fresh channel n known room))
      where
        long : 1 ≤ length {A = ℕ} (replicate n 0)
        long = rw (length-replicate {A = ℕ} n 0) (omega arith)

        zeros : word (replicate n 0) UNDECIDED ≡ 0
        zeros = get_or-replicate {A = ℕ} n UNDECIDED 0 0 (omega arith)

        clear_not : word left UNDECIDED ≡ 0 → Unclear ports reports → ⊥
        clear_not e u = let one = undecided_when ports id u 1 (replicate n 0) long in omega arith

        go : Clarity ports id reports left (word (replicate n 0) UNDECIDED) → Walked ports id channel Flow.Unseen None (messages_of ports id reports) left
            → Says ports id reports channel (finding_of left channel)
        go (unclear u) k = rw (undecided_when ports id u 1 (replicate n 0) long) u
        go (clear e) (passed b k) = rw (e ∙ zeros, b) (clear_not (e ∙ zeros), k)
        go (clear e) (broke breach b some k) = rw (e ∙ zeros, b, ne_eqb breach 0 (λ z. omega arith)) (clear_not (e ∙ zeros), k)

    -- "A channel passes exactly when ..", and so a breach and undecided
    pub finding_exactly : (f : Finding) → (finding_of left channel ≡ f → Says ports id reports channel f) × (Says ports id reports channel f → finding_of left channel ≡ f)
    finding_exactly f = (λ e. rw (← e) finding_says, λ s. says_one (finding_of left channel) f finding_says s)

-- the same of a file that comes in whatever pieces, or whose reading fails, each record found being judged
pub whole_finding : {failed : Bool} (ports : Ports) (id : DatalinkId) (buffer file : List ℕ) (reports : List Report) → ROOM ≤ length buffer → Turns failed buffer start_of file reports
    → (channel n : ℕ) → channel < CHANNEL-IDS → WORDS ≤ n → Says ports id (closed failed (reports_of file)) channel (finding_of (judged_all ports id 1 reports (replicate n 0)) channel)
whole_finding ports id buffer file reports room turns channel n known words =
    rw (← (every_record buffer file reports room turns)) (finding_says ports id reports channel n known words)
