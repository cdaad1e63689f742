-- A list of messages by its first: all obey, or the least number that doesn't. Assumes nothing.
use Rattle.std.specs.Prelude.{Option}
use Rattle.quantity.specs.declared.count.FlowSequence.{FlowSequence}
use mathlib.Core.Path.{◌≡◌, refl}
use mathlib.Core.List.{List, [], ◌∷◌, ◌++◌}
use Prim.Native.Nat.{ℕ, ◌≤◌}
use native.Mathlib.Omega.{arith}
use Rattle.conduct_rules.specs.declared.Flow.{Flow}
use Rattle.conduct.specs.Outcomes.{Message}
use Rattle.conduct.specs.Account.{Numbered, stated_in, last_or, flows_by, sequences_by, ObeysUnder, Stands, here, later, AllObey, LeastBreach}

-- nothing stands in an empty list
abbrev Filled : List Numbered → Type 0
Filled [] = ⊥
Filled (x ∷ ms) = Unit {0}

stands_in : {before ms : List Numbered} {m : Numbered} → Stands before m ms → Filled ms
stands_in here = tt
stands_in (later s) = tt

pub none_stands : (Asked : List Numbered → Message → Type 0) → AllObey Asked []
none_stands Asked before m s = absurd (stands_in s)

-- the last of two lists
last_append : {A : Type 0} (none : A) (xs ys : List A) → last_or none (xs ++ ys) ≡ last_or (last_or none xs) ys
last_append none [] ys = refl
last_append none (x ∷ xs) ys = last_append x xs ys

module _ (channel : ℕ) where
  -- the same question, from a flow and a base on
  abbrev pub ObeysFrom : Flow → Option FlowSequence → (before : List Numbered) → Message → Type 0
  ObeysFrom flow base before stated = ObeysUnder channel (last_or flow (stated_in (flows_by channel) before)) (last_or base (stated_in (sequences_by channel) before)) stated

  -- what a message leaves of them
  abbrev pub flow_by : Flow → Message → Flow
  flow_by flow stated = last_or flow (flows_by channel stated)

  abbrev pub base_by : Option FlowSequence → Message → Option FlowSequence
  base_by base stated = last_or base (sequences_by channel stated)

  module _ (flow : Flow) (base : Option FlowSequence) (x : Numbered) where
    behind_first : (before : List Numbered) (stated : Message) → ObeysFrom (flow_by flow x.message) (base_by base x.message) before stated → ObeysFrom flow base (x ∷ before) stated
    behind_first before stated k =
        rw (last_append flow (flows_by channel x.message) (stated_in (flows_by channel) before), last_append base (sequences_by channel x.message) (stated_in (sequences_by channel) before)) k

    first_behind : (before : List Numbered) (stated : Message) → ObeysFrom flow base (x ∷ before) stated → ObeysFrom (flow_by flow x.message) (base_by base x.message) before stated
    first_behind before stated k =
        rw (last_append flow (flows_by channel x.message) (stated_in (flows_by channel) before), last_append base (sequences_by channel x.message) (stated_in (sequences_by channel) before)) at k

    module _ (ms : List Numbered) where
      pub all_on : ObeysUnder channel flow base x.message → AllObey (ObeysFrom (flow_by flow x.message) (base_by base x.message)) ms → AllObey (ObeysFrom flow base) (x ∷ ms)
      all_on o k before m s = go s
        where
          go : {before : List Numbered} {m : Numbered} → Stands before m (x ∷ ms) → ObeysFrom flow base before m.message
          go here = o
          go {m = m} (later {before = before} s) = behind_first before m.message (k before m s)

      pub least_on : {number : ℕ} → ObeysUnder channel flow base x.message → LeastBreach (ObeysFrom (flow_by flow x.message) (base_by base x.message)) ms number
          → LeastBreach (ObeysFrom flow base) (x ∷ ms) number
      least_on {number} o k =
          record {
            before = x ∷ k.before;
            breach = k.breach;
            stands = later k.stands;
            named = k.named;
            breaks = λ q. k.breaks (first_behind k.before k.breach.message q);
            least = λ before m s n. go s n;
          }
        where
          go : {before : List Numbered} {m : Numbered} → Stands before m (x ∷ ms) → (ObeysFrom flow base before m.message → ⊥) → number ≤ m.number
          go here n = absurd (n o)
          go {m = m} (later {before = before} s) n = k.least before m s (λ q. n (behind_first before m.message q))

      pub least_here : (ObeysUnder channel flow base x.message → ⊥) → ((before : List Numbered) (m : Numbered) → Stands before m ms → x.number ≤ m.number)
          → LeastBreach (ObeysFrom flow base) (x ∷ ms) x.number
      least_here n rising =
          record {
            before = [];
            breach = x;
            stands = here;
            named = refl;
            breaks = n;
            least = λ before m s q. go s;
          }
        where
          go : {before : List Numbered} {m : Numbered} → Stands before m (x ∷ ms) → x.number ≤ m.number
          go here = omega arith
          go {m = m} (later {before = before} s) = rising before m s
