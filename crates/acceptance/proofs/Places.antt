-- By which number a reader refuses, and where it says that the fault stands. Proved once for every sort of message whose cells do what they must.
-- Assumes nothing.
use Rattle.std.specs.Prelude.{Ok, Err, Result}
use Prim.Native.Nat.{ℕ, suc, ◌+◌, ◌≤◌}
use mathlib.Core.Path.{◌≡◌, refl, sym, ap, ◌∙◌, subst}
use mathlib.Core.List.{List, ◌∷◌, ◌++◌}
use mathlib.Core.Bool.{Bool, true, false, cond}
use native.Mathlib.Omega.{arith}
use lib.Dec.{eqb, ltb}
use lib.ListN.{length, get_or, length-append}
use Rattle.facts.proofs.Tests.{clash}
use Rattle.quantity.specs.declared.count.DatalinkId.{DatalinkId}
use Rattle.quantity.specs.declared.refusal.Refusal.{Refusal}
use Rattle.quantity.specs.Limits.{LONGEST-DATAGRAM}
use Rattle.quantity.specs.Refusals.{LONG-DATAGRAM, HEADER, CUT, BEHIND-PACKET, MISSING, OTHER-DATALINK}
use Rattle.wire.specs.Numbers.{Octets}
use Rattle.wire.specs.Options.{Options, bytes, split}
use Rattle.wire.proofs.Options.{bytes_split}
use Rattle.meaning.specs.declared.message.End.{End}
use Rattle.meaning.specs.declared.message.Plane.{Plane}
use Rattle.meaning.specs.declared.message.Plane.TheVariants as planes
use Rattle.read_option.specs.Stated.{Table, control_stated, nothing}
use Rattle.read_rules.specs.declared.answer.Verdict.{Verdict}
use Rattle.read_rules.specs.Sorts.{Sort, rules_of}
use Rattle.read_control.specs.Message.{control_sort}
use Rattle.read_data.specs.Message.{data_sort}
use Rattle.reader.specs.Header.{CURRENT-VERSION, version_of, flag_of, read_with}
use Rattle.reader.specs.Readings.{read_control, read_data, plane_of}
use Rattle.acceptance.specs.Numbers.{OfReading}
use Rattle.acceptance.specs.Places.{Fault, cut_off_lem, other_length, meaningless, unlisted, repeated, behind_packet_lem, AtOption, PlacedAt}
use Rattle.acceptance.specs.Refused.{InHeader, too_long, no_header, other_version, Lack, unfilled, unpaired, other_datalink}
use Rattle.acceptance.proofs.Cells.{Cells}
use Rattle.acceptance.proofs.Outcome.{Found, reads}
use Rattle.acceptance.proofs.Control.{control_cells}
use Rattle.acceptance.proofs.Data.{gathered, data_cells}

-- 1 and 2
header_range : {datagram : List ℕ} {number : ℕ} → InHeader datagram number → (LONG-DATAGRAM ≤ number) × (number ≤ HEADER)
header_range (too_long h) = (omega arith, omega arith)
header_range (no_header e) = (omega arith, omega arith)
header_range (other_version h e v) = (omega arith, omega arith)

-- 3 to 8
fault_range : {plane : Plane} {e : End} {τ : Table} {number : ℕ} {rest : Options} → Fault plane e τ number rest → (CUT ≤ number) × (number ≤ BEHIND-PACKET)
fault_range cut_off_lem = (omega arith, omega arith)
fault_range (behind_packet_lem b) = (omega arith, omega arith)
fault_range (unlisted o u h) = (omega arith, omega arith)
fault_range (other_length o u m h) = (omega arith, omega arith)
fault_range (meaningless o u m l h) = (omega arith, omega arith)
fault_range (repeated o u l h) = (omega arith, omega arith)

-- 9 to 11
lack_range : {plane : Plane} {e : End} {id : DatalinkId} {τ : Table} {number : ℕ} → Lack plane e id τ number → (MISSING ≤ number) × (number ≤ OTHER-DATALINK)
lack_range (unfilled f) = (omega arith, omega arith)
lack_range (unpaired f p) = (omega arith, omega arith)
lack_range (other_datalink f p o) = (omega arith, omega arith)

-- what a refusal says: one of a reader's numbers, and of bytes the place that document 01 asks for
abbrev pub Said : Plane → End → List ℕ → Refusal → Type 0
Said plane end s refusal = OfReading refusal.number × (Octets s → PlacedAt plane end s refusal)

module _ (plane : Plane) (end : End) (s : List ℕ) where
  in_front : (number : ℕ) → LONG-DATAGRAM ≤ number → number ≤ HEADER → Said plane end s (record { number = number; place = 0 })
  in_front number h k =
      ((omega arith, omega arith), λ o. record { in_header = λ a. refl; in_option = λ a b. absurd (omega arith); in_whole = λ a b. absurd (omega arith) })

  module _ (header : ℕ) (body : List ℕ) (d : s ≡ header ∷ body) (short : suc (length body) ≤ LONGEST-DATAGRAM) where
    back : Octets s → bytes (split body) ≡ body
    back o = bytes_split body (rw d at o).1

    pub option_placed : (number place : ℕ) → Found plane end nothing (split body) 1 number place → Octets s → AtOption plane end s (record { number = number; place = place })
    option_placed number place w o =
        let same = back o in
        let size : length (bytes (split body)) ≡ length body = ap length same in
        let parts : body ≡ bytes w.before ++ bytes w.rest = sym same ∙ w.parts in
        let lengths : length body ≡ length (bytes w.before) + length (bytes w.rest) = ap length parts ∙ length-append (bytes w.before) (bytes w.rest) in
        let long : length s ≡ suc (length body) = ap length d in
        let own = w.rest_own (ap split same) (omega arith) in
        let some_left = own.1 in
        let place_is = w.place_is in
        record {
          header = header;
          before = w.before;
          rest = bytes w.rest;
          parts = d ∙ ap (λ (xs : List ℕ). header ∷ xs) parts;
          whole = w.whole (omega arith);
          listed = w.faultless.listed;
          once = λ kind channel. let room = w.faultless.room kind channel in omega arith;
          ending = w.faultless.ending;
          fault = rw own.0 w.fault;
          first_byte = place_is;
          inside = omega arith;
        }

    said_option : (number place : ℕ) → Found plane end nothing (split body) 1 number place → Said plane end s (record { number = number; place = place })
    said_option number place w =
        let range = fault_range w.fault in (
          (omega (arith, range.0), omega (arith, range.1)),
          λ o. record {
            in_header = λ k. absurd (omega (arith, range.0));
            in_option = λ k l. option_placed number place w o;
            in_whole = λ k l. absurd (omega (arith, range.1));
          },
        )

    said_end : (number place : ℕ) → MISSING ≤ number → number ≤ OTHER-DATALINK → place ≡ 1 + length (bytes (split body)) → Said plane end s (record { number = number; place = place })
    said_end number place h k e = (
      (omega arith, omega arith),
      λ o.
          let size : length (bytes (split body)) ≡ length body = ap length (back o) in
          let long : length s ≡ suc (length body) = ap length d in
          record { in_header = λ a. absurd (omega arith); in_option = λ a b. absurd (omega arith); in_whole = λ a b. omega arith },
    )

-- a refusal is as it is said
exact : {plane : Plane} {end : End} {s : List ℕ} {number place : ℕ} → Said plane end s (record { number = number; place = place })
    → (refusal : Refusal) → Verdict.Refused (record { number = number; place = place }) ≡ Verdict.Refused refusal → Said plane end s refusal
exact {plane} {end} {s} {number} {place} h refusal e = let same : record { number = number; place = place } ≡ refusal = cc in subst (Said plane end s) same h

said : {A B : Type 0} (S : Sort A B) (id : DatalinkId) (stated : Table → A) (C : Cells S id stated) (s : List ℕ) (refusal : Refusal)
    → C.verdict (read_with (rules_of S) s) ≡ Verdict.Refused refusal → Said S.plane S.end s refusal
said S id stated C s =
    reads S id stated C (λ verdict. (refusal : Refusal) → verdict ≡ Verdict.Refused refusal → Said S.plane S.end s refusal) s
    (record {
      other = λ refusal e. clash (cc);
      in_header = λ number h. let range = header_range h in exact (in_front S.plane S.end s number range.0 range.1);
      in_body = λ header body d short version own. record {
        accepted = λ w refusal e. clash (cc);
        at_option = λ number place w. exact (said_option S.plane S.end s header body d short number place w);
        at_end = λ number place w l p. let range = lack_range l in exact (said_end S.plane S.end s header body d short number place range.0 range.1 p);
      };
    })

-- ---- the readers

module _ (end : End) (id : DatalinkId) (datagram : List ℕ) (refusal : Refusal) where
  pub control_said : (read_control end id datagram).verdict ≡ Verdict.Refused refusal → Said planes.Control end datagram refusal
  unfolding read_control control_cells
  control_said = said (control_sort end id) id control_stated (control_cells end id) datagram refusal

  pub data_said_lem : (read_data end id datagram).verdict ≡ Verdict.Refused refusal → Said planes.Data end datagram refusal
  unfolding read_data data_cells
  data_said_lem = said (data_sort end id) id gathered (data_cells end id) datagram refusal

module _ (end : End) (id : DatalinkId) (datagram : List ℕ) (o : Octets datagram) (refusal : Refusal) where
  -- "Place: the option's first byte for 3 to 8, the datagram's length for 9 to 11, 0 for all others."
  pub control_place : (read_control end id datagram).verdict ≡ Verdict.Refused refusal → PlacedAt planes.Control end datagram refusal
  control_place e = (control_said end id datagram refusal e).1 o

  pub data_place : (read_data end id datagram).verdict ≡ Verdict.Refused refusal → PlacedAt planes.Data end datagram refusal
  data_place e = (data_said_lem end id datagram refusal e).1 o

-- the plane alone: 1 or 2, "0 for all others"
pub plane_said : (datagram : List ℕ) (refusal : Refusal) → plane_of datagram ≡ Err refusal → OfReading refusal.number × (refusal.place ≡ 0)
unfolding plane_of
plane_said datagram refusal e =
    go (ltb LONGEST-DATAGRAM (length datagram)) (eqb (length datagram) 0) (eqb (version_of (get_or datagram 0 0)) CURRENT-VERSION) (eqb (flag_of (get_or datagram 0 0)) 0) e
  where
    at : (number : ℕ) → LONG-DATAGRAM ≤ number → number ≤ OTHER-DATALINK → ◌≡◌ {A = Result Plane Refusal} (Err (record { number = number; place = 0 })) (Err refusal)
        → OfReading refusal.number × (refusal.place ≡ 0)
    at number h k q = let same : number ≡ refusal.number = cc in let front : 0 ≡ refusal.place = cc in ((omega arith, omega arith), sym front)

    go : (long empty version clear : Bool)
        → cond {A = Result Plane Refusal} long (Err (record { number = LONG-DATAGRAM; place = 0 })) (cond empty (Err (record { number = HEADER; place = 0 })) (cond version (cond clear (Ok Plane.Control) (Ok Plane.Data)) (Err (record { number = HEADER; place = 0 }))))
        ≡ Err refusal → OfReading refusal.number × (refusal.place ≡ 0)
    go true empty version clear h = at LONG-DATAGRAM (omega arith) (omega arith) h
    go false true version clear h = at HEADER (omega arith) (omega arith) h
    go false false false clear h = at HEADER (omega arith) (omega arith) h
    go false false true true h = clash (cc)
    go false false true false h = clash (cc)

pub plane_place : (datagram : List ℕ) (refusal : Refusal) → plane_of datagram ≡ Err refusal → refusal.place ≡ 0
plane_place datagram refusal e = (plane_said datagram refusal e).1
