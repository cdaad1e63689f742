-- What stood before a message, by the message that it comes from: the latest radio control message, and the last data message with a sequence. Assumes nothing.
use Rattle.meaning.specs.declared.message.Window.{Window}
use Rattle.std.specs.Prelude.{Option, Some, None}
use mathlib.Core.Path.{◌≡◌, refl, ap}
use mathlib.Core.Bool.{Bool, true, false, cond}
use mathlib.Core.List.{List, [], ◌∷◌, ◌++◌}
use Prim.Native.Nat.{ℕ}
use borrow.Author.Tests.{eq-eqb, ne_eqb}
use lib.Dec.{eqb}
use Rattle.quantity.specs.declared.count.ByteCount.{ByteCount}
use Rattle.quantity.specs.declared.count.FlowSequence.{FlowSequence}
use Rattle.conduct_rules.specs.declared.Flow.{Flow}
use Rattle.conduct_rules.specs.Rules.{flow_of}
use Rattle.conduct.specs.Outcomes.{Message, control, packet}
use Rattle.conduct.specs.Account.{Numbered, window_in, stated_in, last_or, flows_by, sequences_by, flow_before, base_before}

abbrev at : ℕ → Message → Numbered
at number stated = record { number = number; message = stated }

-- each of some messages
abbrev Each : (Message → Type 0) → List Numbered → Type 0
Each P [] = Unit {0}
Each P (m ∷ ms) = P m.message × Each P ms

-- a message that states nothing leaves the last that was stated
module _ {A : Type 0} (states : Message → List A) (none : A) where
  unstated : (ms : List Numbered) → Each (λ stated. states stated ≡ []) ms → last_or none (stated_in states ms) ≡ none
  unstated [] k = refl
  unstated (m ∷ ms) k = rw k.0 (unstated ms k.1)

last_stated : {A : Type 0} (states : Message → List A) (none x : A) (earlier : List Numbered) (m : Numbered) (later : List Numbered) → states m.message ≡ x ∷ []
    → Each (λ stated. states stated ≡ []) later → last_or none (stated_in states (earlier ++ (m ∷ later))) ≡ x
last_stated states none x [] m later e k = rw e (unstated states x later k)
last_stated {A} states none x (first ∷ earlier) m later e k = go (states first.message) none (λ none. last_stated states none x earlier m later e k)
  where
    go : (xs : List A) (none : A) → ((none : A) → last_or none (stated_in states (earlier ++ (m ∷ later))) ≡ x) → last_or none (xs ++ stated_in states (earlier ++ (m ∷ later))) ≡ x
    go [] none rest = rest none
    go (y ∷ xs) none rest = go xs y rest

-- ---- the flow

-- no radio control message
abbrev pub NoControl : List Numbered → Type 0
NoControl ms = Each (λ stated. (cells : List (Option Window)) → stated ≡ control cells → ⊥) ms

no_flow : (channel : ℕ) (ms : List Numbered) → NoControl ms → Each (λ stated. flows_by channel stated ≡ []) ms
no_flow channel [] k = tt
no_flow channel (m ∷ ms) k = (go m.message k.0, no_flow channel ms k.1)
  where
    go : (stated : Message) → ((cells : List (Option Window)) → stated ≡ control cells → ⊥) → flows_by channel stated ≡ []
    go (control cells) n = absurd (n cells refl)
    go (packet own bytes carried) n = refl

-- "before any radio control message"
pub unseen : (channel : ℕ) (before : List Numbered) → NoControl before → flow_before channel before ≡ Flow.Unseen
unseen channel before k = unstated (flows_by channel) Flow.Unseen before (no_flow channel before k)

-- "the window last seen": what the latest radio control message states, whatever came earlier
pub latest_flow : (channel number : ℕ) (earlier later : List Numbered) (cells : List (Option Window)) → NoControl later
    → flow_before channel (earlier ++ (at number (control cells) ∷ later)) ≡ flow_of (window_in channel cells)
latest_flow channel number earlier later cells k =
    last_stated (flows_by channel) Flow.Unseen (flow_of (window_in channel cells)) earlier (at number (control cells)) later refl (no_flow channel later k)

-- ---- the base

-- no data message of a channel with a sequence
abbrev pub NoSequence : ℕ → List Numbered → Type 0
NoSequence channel ms = Each (λ stated. (bytes : ByteCount) (own : FlowSequence) → stated ≡ packet channel bytes (Some own) → ⊥) ms

no_base : (channel : ℕ) (ms : List Numbered) → NoSequence channel ms → Each (λ stated. sequences_by channel stated ≡ []) ms
no_base channel [] k = tt
no_base channel (m ∷ ms) k = (go m.message k.0, no_base channel ms k.1)
  where
    go : (stated : Message) → ((bytes : ByteCount) (own : FlowSequence) → stated ≡ packet channel bytes (Some own) → ⊥) → sequences_by channel stated ≡ []
    go (control cells) n = refl
    go (packet own bytes None) n = either (eqb own channel)
      where
        either : (b : Bool) → cond {A = List (Option FlowSequence)} b [] [] ≡ []
        either true = refl
        either false = refl
    go (packet own bytes (Some sequence)) n =
        rw (ne_eqb own channel (λ e. n bytes sequence (ap (λ (c : ℕ). packet c bytes (Some sequence)) e)))

-- the first with a sequence has no base before it
pub first_base : (channel : ℕ) (before : List Numbered) → NoSequence channel before → base_before channel before ≡ None
first_base channel before k = unstated (sequences_by channel) None before (no_base channel before k)

-- "the last sequence carried"
pub last_base : (channel number : ℕ) (earlier later : List Numbered) (bytes : ByteCount) (own : FlowSequence) → NoSequence channel later
    → base_before channel (earlier ++ (at number (packet channel bytes (Some own)) ∷ later)) ≡ Some own
last_base channel number earlier later bytes own k =
    last_stated (sequences_by channel) None (Some own) earlier (at number (packet channel bytes (Some own))) later (rw (eq-eqb channel channel refl)) (no_base channel later k)
