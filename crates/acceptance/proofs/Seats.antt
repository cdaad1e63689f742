-- What one option adds to a table of contents. Assumes nothing.
use Rattle.std.specs.Prelude.{Option, Some, None}
use Prim.Native.Nat.{ℕ}
use mathlib.Core.Path.{◌≡◌, refl, sym, ◌∙◌}
use mathlib.Core.List.{List}
use mathlib.Core.Bool.{Bool, true, false, cond}
use borrow.Author.Tests.{eq-eqb, eqb-true}
use lib.Dec.{eqb}
use Rattle.facts.proofs.Tests.{clash}
use Rattle.meaning.specs.declared.message.End.{End}
use Rattle.meaning.specs.declared.message.Plane.{Plane}
use Rattle.meaning.specs.Kinds.{among, known, may_hold}
use Rattle.read_option.specs.Stated.{Table}
use Rattle.read_rules.specs.Sorts.{channel_of}
use Rattle.acceptance.specs.Account.{speaks}

-- ---- a place of a table

pub taken_free : {A : Type 0} {content : List ℕ} → Some content ≡ None → A
taken_free e = clash (cc)

abbrev pub vacant : Option (List ℕ) → Bool
vacant None = true
vacant (Some content) = false

pub of_vacant : (x : Option (List ℕ)) → vacant x ≡ true → x ≡ None
of_vacant None e = refl
of_vacant (Some content) e = clash e

-- a content more, at a type and a channel
abbrev pub put : ℕ → ℕ → List ℕ → Table → Table
put kind channel content τ = λ k n. cond (cond (eqb k kind) (eqb n channel) false) (Some content) (τ k n)

-- ---- one option more

module _ (plane : Plane) (end : End) (kind : ℕ) (content : List ℕ) where
  -- nothing is stated yet where it speaks
  abbrev pub Free : Table → Type 0
  Free τ = (k n : ℕ) → speaks plane end k n kind content ≡ true → τ k n ≡ None

  abbrev pub adding : Table → Table
  adding τ = λ k n. cond (speaks plane end k n kind content) (Some content) (τ k n)

  -- an unknown option speaks for nothing
  pub silent : among kind known ≡ false → (k n : ℕ) → speaks plane end k n kind content ≡ false
  silent u k n = rw u (go (eqb k kind))
    where
      go : (b : Bool) → cond b false false ≡ false
      go true = refl
      go false = refl

  pub adding_silent : among kind known ≡ false → (τ : Table) → adding τ ≡ τ
  adding_silent u τ = λ i k n. cond (silent u k n i) (Some content) (τ k n)

  -- a known one that the message may hold speaks for its channel
  module _ (u : among kind known ≡ true) (a : among kind (may_hold plane end) ≡ true) (τ : Table) where
    abbrev channel : ℕ
    channel = channel_of plane kind content

    speaking : (k n : ℕ) → speaks plane end k n kind content ≡ cond (eqb k kind) (eqb n channel) false
    speaking k n = rw (u, a)

    pub adding_puts : adding τ ≡ put kind (channel_of plane kind content) content τ
    adding_puts = λ i k n. cond (speaking k n i) (Some content) (τ k n)

    pub of_free : Free τ → τ kind (channel_of plane kind content) ≡ None
    of_free f = f kind channel (speaking kind channel ∙ rw (eq-eqb kind kind refl, eq-eqb channel channel refl))

    pub free_of : τ kind (channel_of plane kind content) ≡ None → Free τ
    free_of e k n s = go (eqb k kind) refl (sym (speaking k n) ∙ s)
      where
        go : (b : Bool) → eqb k kind ≡ b → cond b (eqb n channel) false ≡ true → τ k n ≡ None
        go true p q = rw (eqb-true k kind p, eqb-true n channel q) e
        go false p q = clash q
