-- Messages without their numbers: each obeys by what those before it left, and so do those of a capture of them. Assumes nothing.
use Rattle.std.specs.Prelude.{Option}
use Rattle.quantity.specs.declared.count.FlowSequence.{FlowSequence}
use mathlib.Core.Path.{◌≡◌, refl, sym, ap, ◌∙◌}
use mathlib.Core.List.{List, [], ◌∷◌, ◌++◌, append_assoc}
use Prim.Native.Nat.{ℕ, suc}
use native.Mathlib.Omega.{arith}
use Rattle.quantity.specs.declared.count.DatalinkId.{DatalinkId}
use Rattle.records.specs.Files.{Report}
use Rattle.ethernet.specs.declared.Ports.{Ports}
use Rattle.conduct_rules.specs.declared.Flow.{Flow}
use Rattle.conduct.specs.Outcomes.{Message, Outcome, nothing, undecides, message, heard_in, sent_in, outcome_by}
use Rattle.conduct.specs.Account.{Numbered, numbered, messages_from, ObeysUnder, AllObey, Unclear, fragment, shortened, stopped, behind}
use Rattle.conduct.proofs.Lists.{none_stands, ObeysFrom, flow_by, base_by, all_on}
use Rattle.own_conduct.specs.Captured.{Passed, to_ips, to_radio, Captured, ends, heard, handed, beside}

-- ---- what passed, as the judge reads it

abbrev pub if_message : Outcome → List Message
if_message nothing = []
if_message undecides = []
if_message (message stated) = stated ∷ []

abbrev pub read_as : DatalinkId → Passed → Outcome
read_as id (to_ips datagram) = heard_in id datagram
read_as id (to_radio datagram) = sent_in id datagram

abbrev pub messages_in : DatalinkId → List Passed → List Message
messages_in id [] = []
messages_in id (p ∷ ps) = if_message (read_as id p) ++ messages_in id ps

pub messages_append : (id : DatalinkId) (ps qs : List Passed) → messages_in id (ps ++ qs) ≡ messages_in id ps ++ messages_in id qs
messages_append id [] qs = refl
messages_append id (p ∷ ps) qs =
    ap (λ (l : List Message). if_message (read_as id p) ++ l) (messages_append id ps qs) ∙ sym (append_assoc (if_message (read_as id p)) (messages_in id ps) (messages_in id qs))

module _ (channel : ℕ) where
  abbrev pub Obeying : Flow → Option FlowSequence → List Message → Type 0
  Obeying flow base [] = Unit {0}
  Obeying flow base (m ∷ ms) = ObeysUnder channel flow base m × Obeying (flow_by channel flow m) (base_by channel base m) ms

  -- ---- a capture of them

  module _ (ports : Ports) (id : DatalinkId) where
    record_obeys : (outcome : Outcome) (number : ℕ) (flow : Flow) (base : Option FlowSequence) (ms : List Message) (rest : List Numbered) → Obeying flow base (if_message outcome ++ ms)
        → ((flow : Flow) (base : Option FlowSequence) → Obeying flow base ms → AllObey (ObeysFrom channel flow base) rest) → AllObey (ObeysFrom channel flow base) (numbered number outcome ++ rest)
    record_obeys nothing number flow base ms rest o on = on flow base o
    record_obeys undecides number flow base ms rest o on = on flow base o
    record_obeys (message stated) number flow base ms rest o on =
        all_on channel flow base (record { number = number; message = stated }) rest o.0 (on (flow_by channel flow stated) (base_by channel base stated) o.1)

    pub captured_obeys : {passed : List Passed} {reports : List Report} → Captured ports id passed reports → (number : ℕ) (flow : Flow) (base : Option FlowSequence)
        → Obeying flow base (messages_in id passed) → AllObey (ObeysFrom channel flow base) (messages_from ports id number reports)
    unfolding messages_from outcome_by
    captured_obeys ends number flow base o = none_stands (ObeysFrom channel flow base)
    captured_obeys (heard {original} {frame} {datagram} {rest} {reports} k d c) number flow base o =
        rw (k, d) (record_obeys (heard_in id datagram) number flow base (messages_in id rest) (messages_from ports id (suc number) reports) o (captured_obeys c (suc number)))
    captured_obeys (handed {original} {frame} {datagram} {rest} {reports} k d c) number flow base o =
        rw (k, d) (record_obeys (sent_in id datagram) number flow base (messages_in id rest) (messages_from ports id (suc number) reports) o (captured_obeys c (suc number)))
    captured_obeys (beside {original} {frame} {rest} {reports} e c) number flow base o = rw e (captured_obeys c (suc number) flow base o)

-- no record of it leaves the capture undecided
module _ (ports : Ports) (id : DatalinkId) where
  pub captured_clear : {passed : List Passed} {reports : List Report} → Unclear ports reports → Captured ports id passed reports → ⊥
  unfolding outcome_by
  captured_clear (fragment k) (heard q d c) = let z : ◌≡◌ {A = ℕ} 0 1 = cc in omega arith
  captured_clear (fragment k) (handed q d c) = let z : ◌≡◌ {A = ℕ} 0 1 = cc in omega arith
  captured_clear (fragment k) (beside e c) = let f = rw k at e in let z : ◌≡◌ {A = ℕ} 0 1 = cc in omega arith
  captured_clear (shortened k) (heard q d c) = let z : ◌≡◌ {A = ℕ} 0 1 = cc in omega arith
  captured_clear (shortened k) (handed q d c) = let z : ◌≡◌ {A = ℕ} 0 1 = cc in omega arith
  captured_clear (shortened k) (beside e c) = let f = rw k at e in let z : ◌≡◌ {A = ℕ} 0 1 = cc in omega arith
  captured_clear {passed = passed} (stopped {number = number} {reports = reports}) c = elim c [ ]
  captured_clear (behind u) (heard q d c) = captured_clear u c
  captured_clear (behind u) (handed q d c) = captured_clear u c
  captured_clear (behind u) (beside e c) = captured_clear u c
