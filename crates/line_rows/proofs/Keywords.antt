-- A word spells the key of a keyword exactly if it is that keyword. Assumes nothing.
use mathlib.Core.Bool.{Bool, true, false, cond, ◌&&◌}
use mathlib.Core.Path.{◌≡◌, refl, sym, ◌∙◌}
use mathlib.Core.List.{List, [], ◌∷◌}
use Prim.Native.Nat.{ℕ, ◌+◌, ◌*◌, ◌/◌, ◌%◌, ◌<◌}
use native.Mathlib.Omega.{arith}
use borrow.Author.Tests.{eq-eqb, ne_eqb, eqb-true, ltb-true}
use lib.Dec.{eqb, ltb}
use Rattle.line_rows.specs.Rows.{key_text, spells_of}
use Rattle.facts.proofs.Tests.{clash}

-- no byte of a keyword is 0
abbrev pub is_keyword : List ℕ → Bool
is_keyword [] = true
is_keyword (byte ∷ word) = cond (ltb 0 byte && ltb byte 256) (is_keyword word) false

record First (byte : ℕ) (word : List ℕ) : Type 0 where
  pub above : 0 < byte
  pub below : byte < 256
  pub rest : is_keyword word ≡ true

first : (byte : ℕ) (word : List ℕ) → is_keyword (byte ∷ word) ≡ true → First byte word
first byte word e = go (ltb 0 byte) refl (ltb byte 256) refl e
  where
    go : (t : Bool) → ltb 0 byte ≡ t → (u : Bool) → ltb byte 256 ≡ u → cond (t && u) (is_keyword word) false ≡ true → First byte word
    go true p true q f = record { above = ltb-true 0 byte p; below = ltb-true byte 256 q; rest = f }
    go true p false q f = clash f
    go false p u q f = clash f

module _ (byte : ℕ) (text : List ℕ) (k : First byte text) where
  key_some : eqb (key_text (byte ∷ text)) 0 ≡ false
  key_some = ne_eqb (byte + 256 * key_text text) 0 (λ e. omega (arith, k.above))

  key_first : key_text (byte ∷ text) % 256 ≡ byte
  key_first = omega (arith, k.below)

  key_rest : key_text (byte ∷ text) / 256 ≡ key_text text
  key_rest = omega (arith, k.below)

  -- one byte of a word, and the rest
  spells_first : (x : ℕ) (word : List ℕ) → spells_of (x ∷ word) (key_text (byte ∷ text)) ≡ cond (eqb x byte) (spells_of word (key_text text)) false
  unfolding spells_of
  spells_first x word = rw (key_some, key_first, key_rest)

pub spells_itself : (text : List ℕ) → is_keyword text ≡ true → spells_of text (key_text text) ≡ true
unfolding spells_of
spells_itself [] e = refl
spells_itself (byte ∷ text) e =
    let k = first byte text e in
    spells_first byte text k byte text ∙ rw (eq-eqb byte byte refl) (spells_itself text k.rest)

pub spells_only : (word text : List ℕ) → is_keyword text ≡ true → spells_of word (key_text text) ≡ true → word ≡ text
unfolding spells_of
spells_only [] [] e f = refl
spells_only [] (byte ∷ text) e f = clash (sym (sym f ∙ key_some byte text (first byte text e)))
spells_only (x ∷ word) [] e f = clash f
spells_only (x ∷ word) (byte ∷ text) e f = go (eqb x byte) refl (sym (spells_first byte text k x word) ∙ f) (spells_only word text k.rest)
  where
    k : First byte text
    k = first byte text e

    go : (t : Bool) → eqb x byte ≡ t → cond t (spells_of word (key_text text)) false ≡ true → (spells_of word (key_text text) ≡ true → word ≡ text) → x ∷ word ≡ byte ∷ text
    go true q g more = rw (eqb-true x byte q, more g)
    go false q g more = clash g
