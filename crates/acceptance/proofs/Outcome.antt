-- What a reader says of a datagram, whatever it is. One induction over the order of tests, for any property of verdicts: it holds of the reading
-- if it holds of each verdict that the tests can give, with what is then known. For every sort of message whose cells do what they must. Assumes nothing.
use Prim.Native.Nat.{ℕ, suc, ◌+◌, ◌≤◌, ◌<◌, ◌^◌}
use mathlib.Core.Path.{◌≡◌, refl, sym, ap, ◌∙◌, subst}
use mathlib.Core.List.{List, [], ◌∷◌, ◌++◌, append_assoc}
use mathlib.Core.Bool.{Bool, true, false, cond}
use native.Mathlib.Omega.{arith}
use borrow.Author.Tests.{eqb-true, eqb-false, ltb-true, ltb-false}
use lib.Dec.{eqb, ltb}
use lib.ListN.{length, get_or, drop, length-append}
use Rattle.facts.proofs.Tests.{clash}
use Rattle.quantity.specs.declared.count.DatalinkId.{DatalinkId}
use Rattle.quantity.specs.Limits.{LONGEST-DATAGRAM}
use Rattle.quantity.specs.Refusals.{LONG-DATAGRAM, HEADER, CUT, LENGTH, VALUE, UNLISTED, REPEATED, BEHIND-PACKET, MISSING, UNPAIRED, OTHER-DATALINK}
use Rattle.wire.specs.Options.{Options, done, cut, option, option_bytes, bytes, split, WholeOptions}
use Rattle.wire.proofs.Options.{split_end, split_front, option_length}
use Rattle.meaning.specs.declared.message.End.{End}
use Rattle.meaning.specs.declared.message.Plane.{Plane}
use Rattle.meaning.specs.declared.message.Plane.TheVariants as planes
use Rattle.meaning.specs.Kinds.{among, known, length_listed, value_listed, may_hold, must_hold, stands_last, PACKET-DATA}
use Rattle.meaning.proofs.Amongst.{amongst}
use Rattle.read_option.specs.Stated.{Table, nothing}
use Rattle.read_rules.specs.declared.answer.Verdict.{Verdict}
use Rattle.read_rules.specs.Judging.{Step, next, stop, after_step, judge}
use Rattle.read_rules.specs.Sorts.{Sort, fault_of, channel_of, step_of, missing, finish_of, rules_of}
use Rattle.reader.specs.Header.{CURRENT-VERSION, version_of, flag_of, flag, read_with}
use Rattle.acceptance.specs.Account.{Listed}
use Rattle.acceptance.specs.Places.{Behind, Fault, cut_off_lem, other_length, meaningless, unlisted, repeated, behind_packet_lem}
use Rattle.acceptance.specs.Refused.{InHeader, too_long, no_header, other_version, Lack, unfilled, unpaired, other_datalink}
use Rattle.acceptance.proofs.Seats.{vacant, of_vacant, silent, adding, adding_silent, adding_puts, free_of}
use Rattle.acceptance.proofs.Body.{Open, plus, plus_done, plus_option, Admitted, Faultless, faultless_done, faultless_option, Allowed, allowed_done, allowed_option}
use Rattle.acceptance.proofs.Cells.{Cells, listed, in_range, must}

-- ---- the option at fault

-- 8: something is stated that stands last
behind : (plane : Plane) (τ : Table) → (Open plane τ → ⊥) → Behind plane τ
behind planes.Control τ shut = shut (λ k q. clash q)
behind planes.Data τ shut = λ e. shut (amongst _ (stands_last planes.Data) (e, tt))

pub not_behind : (plane : Plane) (τ : Table) → Open plane τ → Behind plane τ → ⊥
not_behind planes.Control τ o b = b
not_behind planes.Data τ o b = b (o PACKET-DATA refl)

-- 6, 4 or 5
module _ (plane : Plane) (end : End) (τ : Table) (kind : ℕ) (content : List ℕ) (more : Options) (first : Behind plane τ → ⊥) where
  own_fault : (fault_of (may_hold plane end) kind content ≡ 0 → ⊥) → Fault plane end τ (fault_of (may_hold plane end) kind content) (option kind content more)
  unfolding fault_of
  own_fault = go (among kind known) refl (among kind (may_hold plane end)) refl (length_listed kind (length content)) refl (value_listed kind content) refl
    where
      go : (u : Bool) → among kind known ≡ u → (v : Bool) → among kind (may_hold plane end) ≡ v
          → (w : Bool) → length_listed kind (length content) ≡ w → (x : Bool) → value_listed kind content ≡ x
          → (cond u (cond v (cond w (cond x 0 VALUE) LENGTH) UNLISTED) 0 ≡ 0 → ⊥)
          → Fault plane end τ (cond u (cond v (cond w (cond x 0 VALUE) LENGTH) UNLISTED) 0) (option kind content more)
      go false p v q w r x s n = absurd (n refl)
      go true p false q w r x s n = unlisted first p q
      go true p true q false r x s n = other_length first p q r
      go true p true q true r false s n = meaningless first p q r s
      go true p true q true r true s n = absurd (n refl)

-- the first fault of a body that begins at a place, behind what a table holds already
pub record Found (plane : Plane) (end : End) (τ : Table) (f : Options) (start number place : ℕ) : Type 0 where
  pub before : Options
  pub rest : Options
  pub parts : bytes f ≡ bytes before ++ bytes rest
  pub whole : length (bytes f) < 2 ^ 16 → WholeOptions before
  pub faultless : Faultless plane end τ before
  pub fault : Fault plane end (plus plane end τ before) number rest
  pub rest_own : split (bytes f) ≡ f → length (bytes f) < 2 ^ 16 → (split (bytes rest) ≡ rest) × (0 < length (bytes rest))
  pub place_is : place ≡ start + length (bytes before)

module _ (plane : Plane) (end : End) (τ : Table) where
  -- the first option is at fault
  found_here : (f : Options) (start number : ℕ) → (split (bytes f) ≡ f → 0 < length (bytes f)) → Fault plane end τ number f → Found plane end τ f start number start
  unfolding bytes WholeOptions
  found_here f start number filled h = record {
    before = done;
    rest = f;
    parts = refl;
    whole = λ short. tt;
    faultless = faultless_done plane end τ;
    fault = rw (plus_done plane end τ) h;
    rest_own = λ own short. (own, filled own);
    place_is = omega arith;
  }

  -- the first may follow, and one behind it is at fault
  found_later : (kind : ℕ) (content : List ℕ) (f : Options) (start number place : ℕ) → Admitted plane end τ kind content
      → Found plane end (adding plane end kind content τ) f (start + (3 + length content)) number place → Found plane end τ (option kind content f) start number place
  unfolding bytes WholeOptions
  found_later kind content f start number place a later =
      let size : length (option_bytes kind content ++ bytes f) ≡ 3 + length content + length (bytes f) = rw (length-append, option_length) in
      let whole = (faultless_option plane end τ kind content later.before).1 (a, later.faultless) in
      record {
        before = option kind content later.before;
        rest = later.rest;
        parts = ap (λ (l : List ℕ). option_bytes kind content ++ l) later.parts ∙ sym (append_assoc (option_bytes kind content) (bytes later.before) (bytes later.rest));
        whole = λ short. (omega arith, later.whole (omega arith));
        faultless = whole;
        fault = rw (plus_option plane end τ kind content later.before whole.room) at later.fault;
        rest_own = λ own short.
            let small : length content < 2 ^ 16 = omega arith in
            let own-more : split (bytes f) ≡ f = cc (split_front kind content (bytes f) small) in
            later.rest_own own-more (omega arith);
        place_is = later.place_is ∙ rw (length-append, option_length) (omega arith);
      }

-- ---- the options of a body

module _ {A B : Type 0} (S : Sort A B) (id : DatalinkId) (stated : Table → A) (C : Cells S id stated) where
  -- what one option's test tells: it may follow and is taken in, or it is at fault
  abbrev Tells : Table → ℕ → List ℕ → Options → Step A → Type 0
  Tells τ kind content more (next m) = Admitted S.plane S.end τ kind content × (m ≡ stated (adding S.plane S.end kind content τ))
  Tells τ kind content more (stop number) = Fault S.plane S.end τ number (option kind content more)

  module _ (τ : Table) (kind : ℕ) (content : List ℕ) (more : Options) where
    abbrev channel : ℕ
    channel = channel_of S.plane kind content

    -- 8; 6, 4, 5; 7
    tells : Tells τ kind content more (step_of S kind content (stated τ))
    unfolding step_of
    tells = go (S.closed (stated τ)) refl (eqb (fault_of (may_hold S.plane S.end) kind content) 0) refl (among kind known) refl (S.unstated kind channel (stated τ)) refl
      where
        go : (shut : Bool) → S.closed (stated τ) ≡ shut → (sound : Bool) → eqb (fault_of (may_hold S.plane S.end) kind content) 0 ≡ sound
            → (told : Bool) → among kind known ≡ told → (free : Bool) → S.unstated kind channel (stated τ) ≡ free
            → Tells τ kind content more
            (cond shut (stop BEHIND-PACKET)
            (cond sound (cond told (cond free (next (S.state kind channel content (stated τ))) (stop REPEATED)) (next (stated τ)))
            (stop (fault_of (may_hold S.plane S.end) kind content))))
        go true p sound q told r free s = behind_packet_lem (behind S.plane τ (λ o. clash (sym ((C.opens τ).0 o) ∙ p)))
        go false p false q told r free s = own_fault S.plane S.end τ kind content more (not_behind S.plane τ ((C.opens τ).1 p)) (eqb-false _ _ q)
        go false p true q false r free s = (
          record {
            listed = listed S.plane S.end kind content (eqb-true _ _ q);
            free = λ k n t. clash (sym (silent S.plane S.end kind content r k n) ∙ t);
            opens = (C.opens τ).1 p;
          },
          ap stated (sym (adding_silent S.plane S.end kind content r τ)),
        )
        go false p true q true r free s =
            let l : Listed S.plane S.end kind content = listed S.plane S.end kind content (eqb-true _ _ q) in
            let held : among kind (may_hold S.plane S.end) ≡ true = l.kind_listed r in
            seat l held free (sym (C.unstated τ kind held content (in_range S.plane S.end kind content l r)) ∙ s)
          where
            seat : Listed S.plane S.end kind content → among kind (may_hold S.plane S.end) ≡ true → (free : Bool) → vacant (τ kind channel) ≡ free
                → Tells τ kind content more (cond free (next (S.state kind channel content (stated τ))) (stop REPEATED))
            seat l held true v = (
              record { listed = l; free = free_of S.plane S.end kind content r held τ (of_vacant (τ kind channel) v); opens = (C.opens τ).1 p },
              C.state τ kind held content ∙ ap stated (sym (adding_puts S.plane S.end kind content r held τ)),
            )
            seat l held false v = repeated (not_behind S.plane τ ((C.opens τ).1 p)) r l (λ z. clash (sym v ∙ ap vacant z))

  -- a property holds of each verdict on the options of a body that begins at a place, behind what a table holds already
  pub record Judged (P : Verdict → Type 0) (τ : Table) (f : Options) (start : ℕ) : Type 0 where
    pub accepted : Allowed S.plane S.end id τ f → P Verdict.Accepted
    pub at_option : (number place : ℕ) → Found S.plane S.end τ f start number place → P (Verdict.Refused (record { number = number; place = place }))
    pub at_end : (number place : ℕ) → Faultless S.plane S.end τ f → Lack S.plane S.end id (plus S.plane S.end τ f) number → place ≡ start + length (bytes f) → P (Verdict.Refused (record { number = number; place = place }))

  module _ (P : Verdict → Type 0) where
    -- 9, 10, 11
    finished : (τ : Table) (start : ℕ) → Judged P τ done start → P (C.verdict (finish_of S start (stated τ)))
    unfolding finish_of bytes
    finished τ start j = go (missing S (must_hold S.plane S.end) (stated τ)) refl (S.paired (stated τ)) refl (S.ours (stated τ)) refl
      where
        lacks : (number : ℕ) → Lack S.plane S.end id τ number → P (C.verdict (S.refuse number start))
        lacks number l = rw C.refused (j.at_end number start (faultless_done S.plane S.end τ) (rw (plus_done S.plane S.end τ) l) (omega arith))

        go : (lacking : Bool) → missing S (must_hold S.plane S.end) (stated τ) ≡ lacking → (pairs : Bool) → S.paired (stated τ) ≡ pairs → (own : Bool) → S.ours (stated τ) ≡ own
            → P (C.verdict (cond lacking (S.refuse MISSING start) (cond pairs (cond own (S.accept (stated τ)) (S.refuse OTHER-DATALINK start)) (S.refuse UNPAIRED start))))
        go true p pairs q own r = lacks MISSING (unfilled (λ f. clash (sym ((must S id stated C τ).0 f) ∙ p)))
        go false p false q own r = lacks UNPAIRED (unpaired ((must S id stated C τ).1 p) (λ x. clash (sym q ∙ (C.paired τ).0 x)))
        go false p true q false r = lacks OTHER-DATALINK (other_datalink ((must S id stated C τ).1 p) ((C.paired τ).1 q) (λ x. clash (sym r ∙ (C.ours τ).0 x)))
        go false p true q true r =
            rw C.accepted
            (j.accepted ((allowed_done S.plane S.end id τ).1 (record { filled = (must S id stated C τ).1 p; paired = (C.paired τ).1 q; ours = (C.ours τ).1 r })))

    -- the options one after another
    judged : (f : Options) (τ : Table) (start : ℕ) → Judged P τ f start → P (C.verdict (judge (rules_of S) f start (stated τ)))
    unfolding judge bytes
    judged done τ start j = finished τ start j
    judged (cut rest) τ start j = rw C.refused (j.at_option CUT start (found_here S.plane S.end τ (cut rest) start CUT (filled rest) cut_off_lem))
      where
        filled : (xs : List ℕ) → split xs ≡ cut xs → 0 < length xs
        filled [] e = clash (cc (split_end [] refl))
        filled (x ∷ xs) e = omega arith
    judged (option kind content more) τ start j =
        go (λ m e k. rw e (judged more (adding S.plane S.end kind content τ) (start + (3 + length content)) k)) (step_of S kind content (stated τ)) (tells τ kind content more)
      where
        go : ((m : A) → m ≡ stated (adding S.plane S.end kind content τ) → Judged P (adding S.plane S.end kind content τ) more (start + (3 + length content))
            → P (C.verdict (judge (rules_of S) more (start + (3 + length content)) m)))
            → (step : Step A) → Tells τ kind content more step
            → P (C.verdict (after_step (λ m. judge (rules_of S) more (start + (3 + length content)) m) (λ number. S.refuse number start) step))
        go later (next m) h =
            later m h.1
            (record {
              accepted = λ w. j.accepted ((allowed_option S.plane S.end id τ kind content more).1 (h.0, w));
              at_option = λ number place w. j.at_option number place (found_later S.plane S.end τ kind content more start number place h.0 w);
              at_end = λ number place w l e.
                  let whole = (faultless_option S.plane S.end τ kind content more).1 (h.0, w) in
                  j.at_end number place whole (rw (plus_option S.plane S.end τ kind content more whole.room) at l) (e ∙ rw (length-append, option_length) (omega arith));
            })
        go later (stop number) h =
            rw C.refused
            (j.at_option number start (found_here S.plane S.end τ (option kind content more) start number (λ own. rw (length-append, option_length) (omega arith)) h))

    -- behind the header, with nothing stated yet
    pub judged_body : (f : Options) → Judged P nothing f 1 → P (C.verdict (judge (rules_of S) f 1 S.blank))
    judged_body f j = subst (λ (m : A). P (C.verdict (judge (rules_of S) f 1 m))) (sym C.blank) (judged f nothing 1 j)

  -- ---- a datagram

  -- a property holds of each verdict on a datagram: of another plane; refused by its length or header; judged by its options
  pub record Reads (P : Verdict → Type 0) (s : List ℕ) : Type 0 where
    pub other : P Verdict.OtherPlane
    pub in_header : (number : ℕ) → InHeader s number → P (Verdict.Refused (record { number = number; place = 0 }))
    pub in_body : (header : ℕ) (body : List ℕ) → s ≡ header ∷ body → suc (length body) ≤ LONGEST-DATAGRAM → version_of header ≡ CURRENT-VERSION → flag_of header ≡ flag S.plane
        → Judged P nothing (split body) 1

  -- 1, 2
  pub reads : (P : Verdict → Type 0) (s : List ℕ) → Reads P s → P (C.verdict (read_with (rules_of S) s))
  unfolding read_with
  reads P s r =
      go s refl (ltb LONGEST-DATAGRAM (length s)) refl (eqb (length s) 0) refl (eqb (version_of (get_or s 0 0)) CURRENT-VERSION) refl (eqb (flag_of (get_or s 0 0)) (flag S.plane)) refl
    where
      go : (xs : List ℕ) → s ≡ xs → (long : Bool) → ltb LONGEST-DATAGRAM (length xs) ≡ long → (empty : Bool) → eqb (length xs) 0 ≡ empty
          → (version : Bool) → eqb (version_of (get_or xs 0 0)) CURRENT-VERSION ≡ version → (own : Bool) → eqb (flag_of (get_or xs 0 0)) (flag S.plane) ≡ own
          → P (C.verdict (cond long (S.refuse LONG-DATAGRAM 0) (cond empty (S.refuse HEADER 0) (cond version (cond own (judge (rules_of S) (split (drop 1 xs)) 1 S.blank) S.other) (S.refuse HEADER 0)))))
      go xs e true p empty q version v own f = rw C.refused (r.in_header LONG-DATAGRAM (too_long (rw e (ltb-true _ _ p))))
      go [] e false p true q version v own f = rw C.refused (r.in_header HEADER (no_header e))
      go [] e false p false q version v own f = clash (sym q)
      go (header ∷ body) e false p true q version v own f = let none : suc (length body) ≡ 0 = eqb-true _ _ q in absurd (omega arith)
      go (header ∷ body) e false p false q false v own f = rw C.refused (r.in_header HEADER (other_version (rw e (ltb-false _ _ p)) e (eqb-false _ _ v)))
      go (header ∷ body) e false p false q true v false f = rw C.other r.other
      go (header ∷ body) e false p false q true v true f = judged_body P (split body) (r.in_body header body e (ltb-false _ _ p) (eqb-true _ _ v) (eqb-true _ _ f))
