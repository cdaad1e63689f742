-- Each number of reading is given exactly when its line says, at its place, and no other number or place would do. Proved once for every sort of
-- message whose cells do what they must. Assumes nothing.
use Rattle.std.specs.Prelude.{Option, Some, None, Result, Ok, Err}
use Prim.Native.Nat.{ℕ, suc, ◌+◌, ◌≤◌}
use mathlib.Core.Path.{◌≡◌, refl, sym, ap, ◌∙◌, subst}
use mathlib.Core.Logic.{◌↔◌}
use mathlib.Core.List.{List, [], ◌∷◌, ◌++◌, append-nil}
use mathlib.Core.Bool.{Bool, true, false, cond}
use native.Mathlib.Omega.{arith}
use borrow.Author.Tests.{lt-ltb, le-ltb, eq-eqb, ne_eqb}
use lib.Dec.{eqb}
use lib.ListN.{length, get_or, length-append}
use Rattle.facts.proofs.Tests.{clash}
use Rattle.quantity.specs.declared.count.DatalinkId.{DatalinkId}
use Rattle.quantity.specs.declared.refusal.Refusal.{Refusal}
use Rattle.wire.specs.Numbers.{Octets}
use Rattle.wire.specs.Options.{Options, done, cut, option, option_bytes, bytes, split}
use Rattle.wire.proofs.Options.{bytes_split, split_end, option_length}
use Rattle.meaning.specs.declared.message.End.{End}
use Rattle.meaning.specs.declared.message.Plane.{Plane}
use Rattle.meaning.specs.declared.message.Plane.TheVariants as planes
use Rattle.meaning.specs.Kinds.{must_hold, stands_last, PACKET-DATA}
use Rattle.meaning.proofs.Amongst.{amongst}
use Rattle.read_option.specs.Stated.{Table, nothing, control_stated}
use Rattle.read_rules.specs.declared.answer.Verdict.{Verdict}
use Rattle.read_rules.specs.Judging.{judge}
use Rattle.read_rules.specs.Sorts.{Sort, fault_of, channel_of, step_of, missing, finish_of, rules_of}
use Rattle.read_control.specs.Message.{control_other, control_sort}
use Rattle.read_data.specs.Message.{data_other, data_sort}
use Rattle.reader.specs.Header.{CURRENT-VERSION, version_of, flag_of, flag, read_with}
use Rattle.reader.specs.Readings.{ControlReading, DataReading, read_control, read_data, plane_of}
use Rattle.reader.proofs.Planes.{by_plane_lem}
use Rattle.acceptance.specs.Account.{table_of}
use Rattle.acceptance.specs.Places.{Behind, Fault, cut_off_lem, other_length, meaningless, unlisted, repeated, behind_packet_lem}
use Rattle.acceptance.specs.Refused.{InHeader, too_long, no_header, other_version, plane_bit, Opened, Lack, unfilled, unpaired, other_datalink, RefusedBy, in_header, in_option, in_whole}
use Rattle.acceptance.proofs.Seats.{of_vacant, adding}
use Rattle.acceptance.proofs.Body.{Open, plus, plus_done, plus_option}
use Rattle.acceptance.proofs.Cells.{Cells, forth, in_range, must}
use Rattle.acceptance.proofs.Own.{fits}
use Rattle.acceptance.proofs.Outcome.{not_behind, reads}
use Rattle.acceptance.proofs.OnePlace.{Sound, first, later, found, clean_sound}
use Rattle.acceptance.proofs.Places.{option_placed}
use Rattle.acceptance.proofs.Control.{control_cells}
use Rattle.acceptance.proofs.Data.{gathered, data_cells}

-- a test that isn't passed fails
fails : (b : Bool) → (b ≡ true → ⊥) → b ≡ false
fails true h = absurd (h refl)
fails false h = refl

passes : (b : Bool) → (b ≡ false → ⊥) → b ≡ true
passes true h = refl
passes false h = absurd (h refl)

-- nothing that stands last is stated, where number 8 doesn't apply
still_open : (plane : Plane) (τ : Table) → (Behind plane τ → ⊥) → Open plane τ
still_open planes.Control τ o = λ k q. clash q
still_open planes.Data τ o = amongst _ (stands_last planes.Data) (unheld (τ PACKET-DATA 0) o, tt)
  where
    unheld : (x : Option (List ℕ)) → ((x ≡ None → ⊥) → ⊥) → x ≡ None
    unheld None h = refl
    unheld (Some content) h = absurd (h (λ e. clash (cc)))

-- the flag, as the header's test takes it
flag_is : (plane : Plane) → plane_bit plane ≡ flag plane
flag_is planes.Control = refl
flag_is planes.Data = refl

module _ {A B : Type 0} (S : Sort A B) (id : DatalinkId) (stated : Table → A) (C : Cells S id stated) where
  -- ---- what its line says is refused by the number

  module _ (τ : Table) where
    shut : Behind S.plane τ → S.closed (stated τ) ≡ true
    shut b = passes (S.closed (stated τ)) (λ e. not_behind S.plane τ ((C.opens τ).1 e) b)

    unshut : (Behind S.plane τ → ⊥) → S.closed (stated τ) ≡ false
    unshut o = (C.opens τ).0 (still_open S.plane τ o)

    -- 3, 8, 6, 4, 5, 7
    faulty : (place : ℕ) {number : ℕ} {rest : Options} → Fault S.plane S.end τ number rest → judge (rules_of S) rest place (stated τ) ≡ S.refuse number place
    unfolding judge step_of fault_of
    faulty place cut_off_lem = refl
    faulty place (behind_packet_lem b) = rw (shut b)
    faulty place (unlisted o u h) = rw (unshut o, u, h)
    faulty place (other_length o u m h) = rw (unshut o, u, m, h)
    faulty place (meaningless o u m l h) = rw (unshut o, u, m, l, h)
    faulty place (repeated {kind} {content} o u l h) =
        let held = l.kind_listed u in
        let taken : S.unstated kind (channel_of S.plane kind content) (stated τ) ≡ false =
        C.unstated τ kind held content (in_range S.plane S.end kind content l u) ∙ fails _ (λ v. h (of_vacant (τ kind (channel_of S.plane kind content)) v)) in
        rw (unshut o, u, held, l.length_listed_lem u, l.value_listed_lem u, taken)

    -- 9, 10, 11
    lacking : (place : ℕ) {number : ℕ} → Lack S.plane S.end id τ number → finish_of S place (stated τ) ≡ S.refuse number place
    unfolding finish_of
    lacking place (unfilled f) = rw (passes (missing S (must_hold S.plane S.end) (stated τ)) (λ e. f ((must S id stated C τ).1 e)))
    lacking place (unpaired f p) = rw ((must S id stated C τ).0 f, fails (S.paired (stated τ)) (λ e. p ((C.paired τ).1 e)))
    lacking place (other_datalink f p o) = rw ((must S id stated C τ).0 f, (C.paired τ).0 p, fails (S.ours (stated τ)) (λ e. o ((C.ours τ).1 e)))

  -- options without a fault are passed: what stands behind them is judged with what they state
  passed : (f : Options) (τ : Table) (place : ℕ) (rest : List ℕ) → Sound S.plane S.end τ f
      → judge (rules_of S) (split (bytes f ++ rest)) place (stated τ) ≡ judge (rules_of S) (split rest) (place + length (bytes f)) (stated (plus S.plane S.end τ f))
  unfolding judge bytes
  passed done τ place rest s = rw (plus_done S.plane S.end τ) (ap (λ (n : ℕ). judge (rules_of S) (split rest) n (stated τ)) (omega arith))
  passed (cut other) τ place rest s = absurd s.faultless.listed
  passed (option kind content f) τ place rest s =
      let size : length (option_bytes kind content ++ bytes f) ≡ 3 + length content + length (bytes f) = rw (length-append, option_length) in
      let next : place + (3 + length content) + length (bytes f) ≡ place + length (option_bytes kind content ++ bytes f) = omega arith in
      rw (found S.plane S.end τ kind content f s rest, forth S id stated C τ kind content (first S.plane S.end τ kind content f s))
      (passed f (adding S.plane S.end kind content τ) (place + (3 + length content)) rest (later S.plane S.end τ kind content f s)
      ∙ rw (plus_option S.plane S.end τ kind content f s.faultless.room, next))

  -- 1, 2
  in_front : (s : List ℕ) {number : ℕ} → InHeader s number → read_with (rules_of S) s ≡ S.refuse number 0
  unfolding read_with
  in_front s (too_long h) = rw (lt-ltb 65507 (length s) h)
  in_front s (no_header e) = rw e
  in_front s (other_version {header} {body} short e v) =
      let h : length (header ∷ body) ≤ 65507 = rw e at short in
      let n : suc (length body) ≡ 0 → ⊥ = λ x. omega arith in
      rw (e, le-ltb 65507 (length (header ∷ body)) h, ne_eqb (suc (length body)) 0 n, ne_eqb (version_of header) CURRENT-VERSION v)

  -- neither, and of this plane: the options are judged
  opened : (s : List ℕ) (header : ℕ) (body : List ℕ) → s ≡ header ∷ body → Opened S.plane s header → read_with (rules_of S) s ≡ judge (rules_of S) (split body) 1 (stated nothing)
  unfolding read_with
  opened s header body d o =
      let h : length (header ∷ body) ≤ 65507 = rw d at o.short in
      let n : suc (length body) ≡ 0 → ⊥ = λ x. omega arith in
      rw (
        d,
        le-ltb 65507 (length (header ∷ body)) h,
        ne_eqb (suc (length body)) 0 n,
        eq-eqb (version_of header) CURRENT-VERSION o.version,
        eq-eqb (flag_of header) (flag S.plane) (o.of_plane ∙ flag_is S.plane),
      )
      (ap (judge (rules_of S) (split body) 1) C.blank)

  whole_judged : (f : Options) → Sound S.plane S.end nothing f → judge (rules_of S) (split (bytes f)) 1 (stated nothing) ≡ finish_of S (1 + length (bytes f)) (stated (table_of S.plane S.end f))
  unfolding judge
  whole_judged f s =
      ap (λ (xs : List ℕ). judge (rules_of S) (split xs) 1 (stated nothing)) (sym (append-nil (bytes f)))
      ∙ passed f nothing 1 [] s
      ∙ rw (split_end [] refl)

  refused : (s : List ℕ) (r : Refusal) → RefusedBy S.plane S.end id s r → read_with (rules_of S) s ≡ S.refuse r.number r.place
  refused s r (in_header h e) = in_front s h ∙ ap (S.refuse r.number) (sym e)
  refused s r (in_option a o) =
      opened s a.header (bytes a.before ++ a.rest) a.parts o
      ∙ passed a.before nothing 1 a.rest (clean_sound S.plane S.end a.before a.whole a.listed a.once a.ending)
      ∙ faulty (table_of S.plane S.end a.before) (1 + length (bytes a.before)) a.fault
      ∙ ap (S.refuse r.number) (sym a.first_byte)
  refused s r (in_whole a o) =
      let long : length s ≡ suc (length (bytes a.options)) = ap length a.parts in
      let ends : 1 + length (bytes a.options) ≡ r.place = omega (arith, a.behind_all) in
      opened s a.header (bytes a.options) a.parts o
      ∙ whole_judged a.options (clean_sound S.plane S.end a.options a.whole a.listed a.once a.ending)
      ∙ lacking (table_of S.plane S.end a.options) (1 + length (bytes a.options)) a.lack
      ∙ ap (S.refuse r.number) ends

  -- ---- what is refused is so by what its line says

  exact : {s : List ℕ} {number place : ℕ} → RefusedBy S.plane S.end id s (record { number = number; place = place })
      → (r : Refusal) → Verdict.Refused (record { number = number; place = place }) ≡ Verdict.Refused r → RefusedBy S.plane S.end id s r
  exact {s} {number} {place} h r e = let same : record { number = number; place = place } ≡ r = cc in subst (RefusedBy S.plane S.end id s) same h

  given : (s : List ℕ) → Octets s → (r : Refusal) → C.verdict (read_with (rules_of S) s) ≡ Verdict.Refused r → RefusedBy S.plane S.end id s r
  given s o =
      reads S id stated C (λ verdict. (r : Refusal) → verdict ≡ Verdict.Refused r → RefusedBy S.plane S.end id s r) s
      (record {
        other = λ r e. clash (cc);
        in_header = λ number h. exact (in_header h refl);
        in_body = λ header body d short version own.
            let front : Opened S.plane s header = record { short = rw d short; version = version; of_plane = own ∙ sym (flag_is S.plane) } in
            let back : bytes (split body) ≡ body = bytes_split body (rw d at o).1 in
            let size : length (bytes (split body)) ≡ length body = ap length back in
            let long : length s ≡ suc (length body) = ap length d in
            record {
              accepted = λ w r e. clash (cc);
              at_option = λ number place w.
                  let a = option_placed S.plane S.end s header body d short number place w o in
                  let same : header ≡ a.header = ap (λ (xs : List ℕ). get_or xs 0 0) (sym d ∙ a.parts) in
                  exact (in_option a (subst (Opened S.plane s) same front));
              at_end = λ number place w l p. exact
                  (in_whole
                  (record {
                    header = header;
                    options = split body;
                    parts = d ∙ ap (λ (xs : List ℕ). header ∷ xs) (sym back);
                    whole = fits S.plane S.end (split body) w.listed (omega arith);
                    listed = w.listed;
                    once = λ k n. let room = w.room k n in omega arith;
                    ending = w.ending;
                    lack = l;
                    behind_all = omega (arith, p);
                  })
                  front);
            };
      })

  exactly : (s : List ℕ) → Octets s → (r : Refusal) → C.verdict (read_with (rules_of S) s) ≡ Verdict.Refused r ↔ RefusedBy S.plane S.end id s r
  exactly s o r = (given s o r, λ h. ap C.verdict (refused s r h) ∙ C.refused r.number r.place)

  only : (s : List ℕ) (r t : Refusal) → RefusedBy S.plane S.end id s r → RefusedBy S.plane S.end id s t → r ≡ t
  only s r t h k =
      let a : C.verdict (read_with (rules_of S) s) ≡ Verdict.Refused r = ap C.verdict (refused s r h) ∙ C.refused r.number r.place in
      let b : C.verdict (read_with (rules_of S) s) ≡ Verdict.Refused t = ap C.verdict (refused s t k) ∙ C.refused t.number t.place in
      let both : Verdict.Refused r ≡ Verdict.Refused t = sym a ∙ b in
      cc

-- ---- the readers

module _ (end : End) (id : DatalinkId) (datagram : List ℕ) (o : Octets datagram) (refusal : Refusal) where
  -- "Reading: 1, 2, then the options one after another, each tested in the order 3, 8, 6, 4, 5, 7; then 9, 10, 11."
  pub control_refused_lem : (read_control end id datagram).verdict ≡ Verdict.Refused refusal ↔ RefusedBy planes.Control end id datagram refusal
  unfolding read_control control_cells
  control_refused_lem = exactly (control_sort end id) id control_stated (control_cells end id) datagram o refusal

  pub data_refused_lem : (read_data end id datagram).verdict ≡ Verdict.Refused refusal ↔ RefusedBy planes.Data end id datagram refusal
  unfolding read_data data_cells
  data_refused_lem = exactly (data_sort end id) id gathered (data_cells end id) datagram o refusal

abbrev plane_answer : Plane → Result Plane Refusal
plane_answer planes.Control = Ok Plane.Control
plane_answer planes.Data = Ok Plane.Data

-- the plane alone: 1 or 2, else the plane of its flag
pub plane_refused : (datagram : List ℕ) (number : ℕ) → InHeader datagram number → plane_of datagram ≡ Err (record { number = number; place = 0 })
unfolding plane_of
plane_refused datagram _ (too_long h) = rw (lt-ltb 65507 (length datagram) h)
plane_refused datagram _ (no_header e) = rw e
plane_refused datagram _ (other_version {header} {body} short e v) =
    let h : length (header ∷ body) ≤ 65507 = rw e at short in
    let n : suc (length body) ≡ 0 → ⊥ = λ x. omega arith in
    rw (e, le-ltb 65507 (length (header ∷ body)) h, ne_eqb (suc (length body)) 0 n, ne_eqb (version_of header) CURRENT-VERSION v)

pub plane_opened : (plane : Plane) (header : ℕ) (body : List ℕ) → Opened plane (header ∷ body) header → plane_of (header ∷ body) ≡ plane_answer plane
unfolding plane_of
plane_opened plane header body o =
    let n : suc (length body) ≡ 0 → ⊥ = λ x. omega arith in
    rw (le-ltb 65507 (length (header ∷ body)) o.short, ne_eqb (suc (length body)) 0 n, eq-eqb (version_of header) CURRENT-VERSION o.version) (go plane o.of_plane)
  where
    go : (plane : Plane) → flag_of header ≡ plane_bit plane → cond (eqb (flag_of header) 0) (Ok Plane.Control) (Ok Plane.Data) ≡ plane_answer plane
    go planes.Control e = rw e
    go planes.Data e = rw e

-- a message of the other plane is neither accepted nor refused
module _ (end : End) (id : DatalinkId) (header : ℕ) (body : List ℕ) where
  pub control_other_lem : Opened planes.Data (header ∷ body) header → (read_control end id (header ∷ body)).verdict ≡ Verdict.OtherPlane
  unfolding read_control control_other
  control_other_lem o = ap (λ (r : ControlReading). r.verdict) (sym (by_plane_lem (rules_of (control_sort end id)) (header ∷ body) (plane_opened planes.Data header body o)))

  pub data_other_lem : Opened planes.Control (header ∷ body) header → (read_data end id (header ∷ body)).verdict ≡ Verdict.OtherPlane
  unfolding read_data data_other
  data_other_lem o = ap (λ (r : DataReading). r.verdict) (sym (by_plane_lem (rules_of (data_sort end id)) (header ∷ body) (plane_opened planes.Control header body o)))

-- Of one datagram these lines allow one number and one place.
pub refusal_one : (plane : Plane) (end : End) (id : DatalinkId) (datagram : List ℕ) (r t : Refusal) → RefusedBy plane end id datagram r → RefusedBy plane end id datagram t → r ≡ t
refusal_one planes.Control end id = only (control_sort end id) id control_stated (control_cells end id)
refusal_one planes.Data end id = only (data_sort end id) id gathered (data_cells end id)
