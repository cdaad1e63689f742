-- Reading, option by option, is what the account says, for any sort of message whose cells do what they must. Assumes nothing.
use Rattle.std.specs.Prelude.{Option, Some, None}
use Prim.Native.Nat.{ℕ, ◌<◌}
use mathlib.Core.Path.{◌≡◌, refl, sym, ap}
use mathlib.Core.Logic.{◌↔◌}
use mathlib.Core.List.{List, [], ◌∷◌}
use mathlib.Core.Bool.{Bool, true, false, cond}
use native.Mathlib.Omega.{arith}
use borrow.Author.Tests.{ltb-true}
use lib.Dec.{ltb, lit<}
use lib.ListN.{length, get_or}
use Rattle.facts.proofs.Tests.{clash}
use Rattle.quantity.specs.declared.count.DatalinkId.{DatalinkId}
use Rattle.quantity.specs.Limits.{CHANNEL-IDS, RESERVED-CHANNEL}
use Rattle.quantity.specs.Refusals.{LENGTH, VALUE, UNLISTED, REPEATED}
use Rattle.meaning.specs.declared.message.End.{End}
use Rattle.meaning.specs.declared.message.Plane.{Plane}
use Rattle.meaning.specs.Kinds.{among, known, naming, length_listed, value_listed, may_hold, one_for_each, must_hold}
use Rattle.meaning.proofs.Amongst.{Each}
use Rattle.read_option.specs.Stated.{Table, nothing}
use Rattle.read_rules.specs.declared.answer.Verdict.{Verdict}
use Rattle.read_rules.specs.Judging.{Step, next, stop}
use Rattle.read_rules.specs.Sorts.{Sort, fault_of, channel_of, step_of, missing, finish_of}
use Rattle.acceptance.specs.Account.{Listed, Filled, Paired, Ours}
use Rattle.acceptance.proofs.Lists.{each_names, must_may, unknown_listed}
use Rattle.acceptance.proofs.Seats.{taken_free, vacant, put, adding, adding_silent, adding_puts, of_free}
use Rattle.acceptance.proofs.Body.{Open, Admitted, Complete}

-- what the cells of a message have to do, where `stated` fills them from a table of contents
pub record Cells {A B : Type 0} (S : Sort A B) (id : DatalinkId) (stated : Table → A) : Type 0 where
  pub verdict : B → Verdict
  pub accepted : (m : A) → verdict (S.accept m) ≡ Verdict.Accepted
  pub refused : (number place : ℕ) → verdict (S.refuse number place) ≡ Verdict.Refused (record { number = number; place = place })
  pub other : verdict S.other ≡ Verdict.OtherPlane
  pub blank : S.blank ≡ stated nothing
  pub unstated : (τ : Table) (kind : ℕ) → among kind (may_hold S.plane S.end) ≡ true → (content : List ℕ) → channel_of S.plane kind content < CHANNEL-IDS
      → S.unstated kind (channel_of S.plane kind content) (stated τ) ≡ vacant (τ kind (channel_of S.plane kind content))
  pub state : (τ : Table) (kind : ℕ) → among kind (may_hold S.plane S.end) ≡ true → (content : List ℕ)
      → S.state kind (channel_of S.plane kind content) content (stated τ) ≡ stated (put kind (channel_of S.plane kind content) content τ)
  pub opens : (τ : Table) → Open S.plane τ ↔ S.closed (stated τ) ≡ false
  pub paired : (τ : Table) → Paired S.plane τ ↔ S.paired (stated τ) ≡ true
  pub ours : (τ : Table) → Ours id τ ↔ S.ours (stated τ) ≡ true

-- ---- 6, 4, 5

module _ (plane : Plane) (end : End) (kind : ℕ) (content : List ℕ) where
  no_fault : Listed plane end kind content → fault_of (may_hold plane end) kind content ≡ 0
  unfolding fault_of
  no_fault l = go (among kind known) refl
    where
      go : (u : Bool) → among kind known ≡ u
          → ◌≡◌ {A = ℕ} (cond u (cond (among kind (may_hold plane end)) (cond (length_listed kind (length content)) (cond (value_listed kind content) 0 VALUE) LENGTH) UNLISTED) 0) 0
      go false p = refl
      go true p = rw (l.kind_listed p, l.length_listed_lem p, l.value_listed_lem p)

  pub listed : fault_of (may_hold plane end) kind content ≡ 0 → Listed plane end kind content
  unfolding fault_of
  listed e = go (among kind known) refl (among kind (may_hold plane end)) refl (length_listed kind (length content)) refl (value_listed kind content) refl e
    where
      go : (u : Bool) → among kind known ≡ u → (v : Bool) → among kind (may_hold plane end) ≡ v
          → (w : Bool) → length_listed kind (length content) ≡ w → (x : Bool) → value_listed kind content ≡ x
          → ◌≡◌ {A = ℕ} (cond u (cond v (cond w (cond x 0 VALUE) LENGTH) UNLISTED) 0) 0 → Listed plane end kind content
      go false p v q w r x s z = unknown_listed plane end kind content p
      go true p true q true r true s z = record { kind_listed = λ k. q; length_listed_lem = λ k. r; value_listed_lem = λ k. s }
      go true p true q true r false s z = absurd (omega arith)
      go true p true q false r x s z = absurd (omega arith)
      go true p false q w r x s z = absurd (omega arith)

  -- its channel is one of a table's places
  pub in_range : Listed plane end kind content → among kind known ≡ true → channel_of plane kind content < CHANNEL-IDS
  unfolding value_listed
  in_range l u = go (among kind (one_for_each plane)) refl
    where
      named : (b x : Bool) → b ≡ true → cond b (ltb (get_or content 0 0) RESERVED-CHANNEL) x ≡ true → get_or content 0 0 < CHANNEL-IDS
      named true x e v = ltb-true (get_or content 0 0) RESERVED-CHANNEL v
      named false x e v = clash e

      go : (b : Bool) → among kind (one_for_each plane) ≡ b → cond b (get_or content 0 0) 0 < CHANNEL-IDS
      go true e = named (among kind naming) _ (each_names plane kind e) (l.value_listed_lem u)
      go false e = lit< tt

module _ {A B : Type 0} (S : Sort A B) (id : DatalinkId) (stated : Table → A) (C : Cells S id stated) where
  -- ---- 8; 6, 4, 5; 7

  module _ (τ : Table) (kind : ℕ) (content : List ℕ) where
    abbrev channel : ℕ
    channel = channel_of S.plane kind content

    -- an option without a fault, known or not
    abbrev taking : Bool → Step A
    taking u = cond u (cond (S.unstated kind channel (stated τ)) (next (S.state kind channel content (stated τ))) (stop REPEATED)) (next (stated τ))

    -- an option that may follow is taken in
    pub forth : Admitted S.plane S.end τ kind content → step_of S kind content (stated τ) ≡ next (stated (adding S.plane S.end kind content τ))
    unfolding step_of
    forth k = rw ((C.opens τ).0 k.opens, no_fault S.plane S.end kind content k.listed) (go (among kind known) refl)
      where
        go : (u : Bool) → among kind known ≡ u → taking u ≡ next (stated (adding S.plane S.end kind content τ))
        go false p = ap (λ (σ : Table). next (stated σ)) (sym (adding_silent S.plane S.end kind content p τ))
        go true p =
            let a : among kind (may_hold S.plane S.end) ≡ true = k.listed.kind_listed p in
            let v : τ kind channel ≡ None = of_free S.plane S.end kind content p a τ k.free in
            rw (C.unstated τ kind a content (in_range S.plane S.end kind content k.listed p), v, C.state τ kind a content, adding_puts S.plane S.end kind content p a τ)

  -- ---- 9, 10, 11

  module _ (τ : Table) where
    unstated_zero : (kind : ℕ) → among kind (may_hold S.plane S.end) ≡ true → S.unstated kind 0 (stated τ) ≡ vacant (τ kind 0)
    unstated_zero kind a = go (channel_of S.plane kind (0 ∷ [])) (zero_is (among kind (one_for_each S.plane))) (C.unstated τ kind a (0 ∷ []))
      where
        zero_is : (b : Bool) → ◌≡◌ {A = ℕ} (cond b 0 0) 0
        zero_is true = refl
        zero_is false = refl

        go : (n : ℕ) → n ≡ 0 → (n < CHANNEL-IDS → S.unstated kind n (stated τ) ≡ vacant (τ kind n)) → S.unstated kind 0 (stated τ) ≡ vacant (τ kind 0)
        go n e h = (rw e at h) (lit< tt)

    full : (kinds : List ℕ) → Each (λ kind. among kind (may_hold S.plane S.end) ≡ true) kinds → Filled kinds τ ↔ missing S kinds (stated τ) ≡ false
    full [] may = ((λ f. refl), λ e. tt)
    full (kind ∷ kinds) may = rw (unstated_zero kind may.0) (go (full kinds may.1) (τ kind 0))
      where
        go : Filled kinds τ ↔ missing S kinds (stated τ) ≡ false
            → (x : Option (List ℕ)) → (x ≡ None → ⊥) × Filled kinds τ ↔ cond (vacant x) true (missing S kinds (stated τ)) ≡ false
        go later None = ((λ f. absurd (f.0 refl)), λ q. clash (sym q))
        go later (Some content) = ((λ f. later.0 f.1), λ q. ((λ r. taken_free r), later.1 q))

    pub must : Filled (must_hold S.plane S.end) τ ↔ missing S (must_hold S.plane S.end) (stated τ) ≡ false
    must = full (must_hold S.plane S.end) (must_may S.plane S.end)

    pub ends : (place : ℕ) → Complete S.plane S.end id τ → finish_of S place (stated τ) ≡ S.accept (stated τ)
    unfolding finish_of
    ends place w = rw (must.0 w.filled, (C.paired τ).0 w.paired, (C.ours τ).0 w.ours)
