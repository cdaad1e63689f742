-- A datagram and a number leave one place. Assumes nothing.
use Prim.Native.Nat.{ℕ, ◌+◌, ◌≤◌, ◌<◌, ◌^◌}
use mathlib.Core.Path.{◌≡◌, refl, sym, ap, ◌∙◌}
use mathlib.Core.List.{List, ◌++◌, append_assoc}
use mathlib.Core.Bool.{Bool, true, false}
use native.Mathlib.Omega.{arith}
use borrow.Author.Tests.{ltb-true, ltb-false}
use lib.Dec.{ltb}
use lib.ListN.{length, drop, length-append}
use Rattle.facts.proofs.Tests.{clash}
use Rattle.quantity.specs.declared.refusal.Refusal.{Refusal}
use Rattle.quantity.specs.Refusals.{CUT, MISSING}
use Rattle.wire.specs.Options.{Options, done, cut, option, option_bytes, bytes, split, WholeOptions}
use Rattle.wire.proofs.Options.{split_front}
use Rattle.meaning.specs.declared.message.End.{End}
use Rattle.meaning.specs.declared.message.Plane.{Plane}
use Rattle.read_option.specs.Stated.{Table, nothing}
use Rattle.acceptance.specs.Account.{All, Listed, count, Ending}
use Rattle.acceptance.specs.Numbers.{OfReading}
use Rattle.acceptance.specs.Places.{Fault, cut_off_lem, other_length, meaningless, unlisted, repeated, behind_packet_lem, AtOption, PlacedAt}
use Rattle.acceptance.proofs.Seats.{adding, of_free}
use Rattle.acceptance.proofs.Body.{plus, Opens, plus_done, plus_option, Admitted, Faultless, faultless_option}
use Rattle.acceptance.proofs.Outcome.{not_behind}

module _ (plane : Plane) (end : End) where
  -- the first option of a rest may follow
  abbrev Follows : Table → Options → Type 0
  Follows τ done = ⊥
  Follows τ (cut rest) = ⊥
  Follows τ (option kind content more) = Admitted plane end τ kind content

  -- an option at fault may not follow
  refuted : {τ : Table} {number : ℕ} {rest : Options} → Fault plane end τ number rest → Follows τ rest → ⊥
  refuted cut_off_lem a = a
  refuted {τ} (behind_packet_lem b) a = not_behind plane τ a.opens b
  refuted (unlisted o u h) a = clash (sym h ∙ a.listed.kind_listed u)
  refuted (other_length o u m h) a = clash (sym h ∙ a.listed.length_listed_lem u)
  refuted (meaningless o u m l h) a = clash (sym h ∙ a.listed.value_listed_lem u)
  refuted {τ} (repeated {kind} {content} o u l h) a = h (of_free plane end kind content u (a.listed.kind_listed u) τ a.free)

  -- options without a fault, behind what a table holds already
  pub record Sound (τ : Table) (f : Options) : Type 0 where
    pub whole : WholeOptions f
    pub faultless : Faultless plane end τ f

  module _ (τ : Table) (kind : ℕ) (content : List ℕ) (f : Options) (s : Sound τ (option kind content f)) where
    fits : length content < 2 ^ 16
    unfolding WholeOptions
    fits = s.whole.0

    pub first : Admitted plane end τ kind content
    first = ((faultless_option plane end τ kind content f).0 s.faultless).0

    pub later : Sound (adding plane end kind content τ) f
    unfolding WholeOptions
    later = record { whole = s.whole.1; faultless = ((faultless_option plane end τ kind content f).0 s.faultless).1 }

    pub found : (rest : List ℕ) → split (bytes (option kind content f) ++ rest) ≡ option kind content (split (bytes f ++ rest))
    unfolding bytes
    found rest = ap split (append_assoc (option_bytes kind content) (bytes f) rest) ∙ split_front kind content (bytes f ++ rest) fits

    -- no fault stands where it stands
    passed : (number : ℕ) (x rest : List ℕ) → Fault plane end (plus plane end τ done) number (split x) → split x ≡ split (bytes (option kind content f) ++ rest) → ⊥
    passed number x rest h e = refuted (rw (plus_done plane end τ, e, found rest) at h) first

  one : (f g : Options) (τ : Table) (x y : List ℕ) (n m : ℕ) → Sound τ f → Sound τ g
      → Fault plane end (plus plane end τ f) n (split x) → Fault plane end (plus plane end τ g) m (split y)
      → split (bytes f ++ x) ≡ split (bytes g ++ y) → length (bytes f) ≡ length (bytes g)
  unfolding bytes
  one (cut rest) g τ x y n m s t h k e = absurd s.faultless.listed
  one done done τ x y n m s t h k e = refl
  one done (cut rest) τ x y n m s t h k e = absurd t.faultless.listed
  one done (option kind content g) τ x y n m s t h k e = absurd (passed τ kind content g t n x y h e)
  one (option kind content f) done τ x y n m s t h k e = absurd (passed τ kind content f s m y x k (sym e))
  one (option kind content f) (cut rest) τ x y n m s t h k e = absurd t.faultless.listed
  one (option kind content f) (option kind' content' g) τ x y n m s t h k e =
      let both : option kind content (split (bytes f ++ x)) ≡ option kind' content' (split (bytes g ++ y)) = sym (found τ kind content f s x) ∙ e ∙ found τ kind' content' g t y in
      let kinds : kind ≡ kind' = cc in
      let contents : content ≡ content' = cc in
      let rests : split (bytes f ++ x) ≡ split (bytes g ++ y) = cc in
      let σ : Table = adding plane end kind content τ in
      let behind : Sound σ g = rw (← kinds, ← contents) at (later τ kind' content' g t) in
      let h' : Fault plane end (plus plane end σ f) n (split x) = rw (plus_option plane end τ kind content f s.faultless.room) h in
      let k' : Fault plane end (plus plane end (adding plane end kind' content' τ) g) m (split y) = rw (plus_option plane end τ kind' content' g t.faultless.room) k in
      let same = one f g σ x y n m (later τ kind content f s) behind h' (rw (← kinds, ← contents) at k') rests in
      rw (kinds, contents) (length-append (option_bytes kind' content') (bytes f) ∙ ap (λ (z : ℕ). length (option_bytes kind' content') + z) same ∙ sym (length-append (option_bytes kind' content') (bytes g)))

  opens_all : (f : Options) → Opens plane end nothing f
  opens_all done = tt
  opens_all (cut rest) = tt
  opens_all (option kind content f) = λ k q. refl

  pub clean_sound : (f : Options) → WholeOptions f → All (Listed plane end) f → ((kind channel : ℕ) → count plane end kind channel f ≤ 1) → Ending plane f → Sound nothing f
  clean_sound f whole listed once ending = record {
    whole = whole;
    faultless = record { listed = listed; room = λ k n. let o = once k n in omega arith; opens = opens_all f; ending = ending };
  }

  module _ (datagram : List ℕ) (r s : Refusal) where
    sound : {t : Refusal} (a : AtOption plane end datagram t) → Sound nothing a.before
    sound a = clean_sound a.before a.whole a.listed a.once a.ending

    -- the first fault stands at one place
    pub option_one : AtOption plane end datagram r → AtOption plane end datagram s → r.place ≡ s.place
    option_one a b =
        let e : bytes a.before ++ a.rest ≡ bytes b.before ++ b.rest = ap (drop 1) (sym a.parts ∙ b.parts) in
        let n = one a.before b.before nothing a.rest b.rest r.number s.number (sound a) (sound b) a.fault b.fault (ap split e) in
        let p = a.first_byte in
        let q = b.first_byte in
        omega arith

    -- Of a datagram that is refused by a number, the place is one.
    pub place_one : OfReading r.number → r.number ≡ s.number → PlacedAt plane end datagram r → PlacedAt plane end datagram s → r.place ≡ s.place
    place_one o e a b = go (ltb r.number CUT) refl (ltb r.number MISSING) refl
      where
        go : (early : Bool) → ltb r.number CUT ≡ early → (inner : Bool) → ltb r.number MISSING ≡ inner → r.place ≡ s.place
        go true p inner q = let h = ltb-true r.number CUT p in a.in_header (omega arith) ∙ sym (b.in_header (omega arith))
        go false p true q =
            let h = ltb-false r.number CUT p in
            let k = ltb-true r.number MISSING q in
            option_one (a.in_option (omega arith) (omega arith)) (b.in_option (omega arith) (omega arith))
        go false p false q =
            let h = ltb-false r.number MISSING q in
            a.in_whole (omega arith) o.1 ∙ sym (b.in_whole (omega arith) (omega (arith, o.1)))
