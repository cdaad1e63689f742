-- A flow-controlled channel of ours beside what a judge has seen of it: what it sends obeys. Assumes nothing.
use Rattle.std.specs.Prelude.{Option, Some, None}
use mathlib.Core.Path.{◌≡◌, refl, ap}
use mathlib.Core.Bool.{true}
use mathlib.Core.List.{List}
use Prim.Native.Nat.{ℕ, ◌^◌, ◌<◌}
use native.Mathlib.Omega.{arith}
use borrow.Author.Tests.{eq-eqb}
use lib.ListN.{length}
use Rattle.facts.proofs.Tests.{clash}
use Rattle.quantity.specs.declared.count.FlowSequence.{FlowSequence}
use Rattle.quantity.specs.declared.count.FlowWindow.{FlowWindow}
use Rattle.quantity.specs.declared.count.ByteCount.{ByteCount}
use Rattle.quantity.specs.Distance.{fits_of, advance_of}
use Rattle.meaning.specs.declared.message.Window.{Window}
use Rattle.flow.specs.declared.Flow as ours
use Rattle.flow.specs.Counting.{may_go, sequence_on, carried_by, flow_after}
use Rattle.ips_channel_rules.specs.Rules.{offer, next, withdraw, nothing_waiting, not_operational, window_shut, sent, refused, answered, taken, emptied, Event, Happened, called, heard, Terms, Condition}
use Rattle.ips_channel_rules.specs.Machine.{WordCounter, machine}
use Rattle.ips_channel_rules.proofs.Leaves.{Leaves, stays, joins, looks, sends, clears, hears}
use Rattle.conduct_rules.specs.declared.Flow.{Flow}
use Rattle.conduct_rules.specs.Rules.{flow_of, Obeys, less_of, obeys_within}
use Rattle.conduct_rules.proofs.Exactly.{obeys_is}
use Rattle.conduct.specs.Account.{last_or, if_given}

-- ---- the judge's flow and base beside the channel's own

pub data FlowAgrees : Flow → ours.Flow → Type 0 where
  -- without a window nothing goes, whatever the judge saw last: nobody records a silence
  shut : {flow : Flow} → FlowAgrees flow ours.Flow.NoWindow
  free : FlowAgrees Flow.Free ours.Flow.Free
  in_force : {window : FlowWindow} → FlowAgrees (Flow.InForce window) (ours.Flow.InForce window)

pub data BaseAgrees : Option FlowSequence → FlowSequence → Type 0 where
  first : {sequence : FlowSequence} → BaseAgrees None sequence
  last : {sequence : FlowSequence} → BaseAgrees (Some sequence) sequence

pub record Agrees (flow : Flow) (base : Option FlowSequence) (counter : WordCounter) : Type 0 where
  pub of_flow : FlowAgrees flow counter.flow
  pub of_base : BaseAgrees base counter.sequence
  pub small : counter.sequence.0 < 2 ^ 32

-- ---- a radio control message

pub heard_agrees : {flow : Flow} {base : Option FlowSequence} {counter : WordCounter} (window : Option Window) → Agrees flow base counter
    → Agrees (flow_of window) base (record { flow = flow_after window; sequence = counter.sequence })
heard_agrees None k = record { of_flow = free; of_base = k.of_base; small = k.small }
heard_agrees (Some Window.Empty) k = record { of_flow = shut; of_base = k.of_base; small = k.small }
heard_agrees (Some (Window.Given window)) k = record { of_flow = in_force; of_base = k.of_base; small = k.small }

-- ---- a silence

pub silence_agrees : {flow : Flow} {base : Option FlowSequence} {counter : WordCounter} → Agrees flow base counter → Agrees flow base (record { flow = flow_after (Some Window.Empty); sequence = counter.sequence })
silence_agrees k = record { of_flow = shut; of_base = k.of_base; small = k.small }

-- ---- a packet that goes

-- a sequence and the bytes, less the bytes
less_back : (sequence : FlowSequence) (bytes : ByteCount) → sequence.0 < 2 ^ 32 → less_of (advance_of sequence bytes) bytes ≡ sequence
less_back sequence bytes h = ap {B = FlowSequence} (λ (n : ℕ). record { 0 = n }) (omega arith)

within : (window : FlowWindow) (sequence : FlowSequence) (bytes : ByteCount) → fits_of sequence window bytes ≡ true → obeys_within window sequence bytes (advance_of sequence bytes) ≡ true
unfolding obeys_within
within window sequence bytes f = rw (eq-eqb (advance_of sequence bytes).0 (advance_of sequence bytes).0 refl, f)

under : (window : FlowWindow) {base : Option FlowSequence} {sequence : FlowSequence} (bytes : ByteCount) → BaseAgrees base sequence → sequence.0 < 2 ^ 32 → fits_of sequence window bytes ≡ true
    → Obeys (Flow.InForce window) base bytes (Some (advance_of sequence bytes))
under window {sequence = sequence} bytes first h f =
    obeys_is (Flow.InForce window) None bytes (Some (advance_of sequence bytes)) (rw (less_back sequence bytes h) (within window sequence bytes f))
under window {sequence = sequence} bytes last h f =
    obeys_is (Flow.InForce window) (Some sequence) bytes (Some (advance_of sequence bytes)) (within window sequence bytes f)

pub record Goes (flow : Flow) (base : Option FlowSequence) (bytes : ByteCount) (carried : Option FlowSequence) (counter : WordCounter) : Type 0 where
  pub obeys : Obeys flow base bytes carried
  pub agrees : Agrees flow (last_or base (if_given carried)) counter

goes_by : {flow : Flow} {own : ours.Flow} {base : Option FlowSequence} {sequence : FlowSequence} (bytes : ByteCount) → FlowAgrees flow own → BaseAgrees base sequence → sequence.0 < 2 ^ 32
    → may_go own sequence bytes ≡ true → Goes flow base bytes (carried_by own (sequence_on own sequence bytes)) (record { flow = own; sequence = sequence_on own sequence bytes })
goes_by bytes shut b h f = clash f
goes_by bytes free b h f = record { obeys = Obeys.free; agrees = record { of_flow = free; of_base = b; small = h } }
goes_by bytes (in_force {window}) b h f = record { obeys = under window bytes b h f; agrees = record { of_flow = in_force; of_base = last; small = omega arith } }

pub goes : {flow : Flow} {base : Option FlowSequence} {counter : WordCounter} (bytes : ByteCount) → Agrees flow base counter → may_go counter.flow counter.sequence bytes ≡ true
    → Goes flow base bytes (machine.carried (machine.grow bytes counter)) (machine.grow bytes counter)
goes bytes k f = goes_by bytes k.of_flow k.of_base k.small f

-- ---- what happened on the channel: its count stands still, but where a packet went

pub record Went (packet : List ℕ) (carried : Option FlowSequence) (counter counter' : WordCounter) : Type 0 where
  pub fits : may_go counter.flow counter.sequence (record { 0 = length packet }) ≡ true
  pub carried_is : carried ≡ machine.carried (machine.grow (record { 0 = length packet }) counter)
  pub counter_is : counter' ≡ machine.grow (record { 0 = length packet }) counter

abbrev pub After : Happened → (counter counter' : WordCounter) → Type 0
After (called c (refused number)) counter counter' = counter' ≡ counter
After (called (offer packet time) (answered taken)) counter counter' = counter' ≡ counter
After (called (next time out) (answered nothing_waiting)) counter counter' = counter' ≡ counter
After (called (next time out) (answered not_operational)) counter counter' = counter' ≡ counter
After (called (next time out) (answered window_shut)) counter counter' = counter' ≡ counter
After (called (next time out) (answered (sent packet carried))) counter counter' = Went packet carried counter counter'
After (called withdraw (answered emptied)) counter counter' = counter' ≡ counter
After (heard status window) counter counter' = Unit {0}

pub leaves_after : {k : Terms} {e : Event} {st st' : Condition machine} {h : Happened} → Leaves machine k e st h st' → After h st.counting st'.counting
leaves_after stays = refl
leaves_after (joins t x) = refl
leaves_after (looks {says = nothing_waiting} n t) = refl
leaves_after (looks {says = not_operational} n t) = refl
leaves_after (looks {says = window_shut} n t) = refl
leaves_after (looks {says = sent packet carried} n t) = clash (cc)
leaves_after (sends t w f) = record { fits = f; carried_is = refl; counter_is = refl }
leaves_after clears = refl
leaves_after hears = tt
