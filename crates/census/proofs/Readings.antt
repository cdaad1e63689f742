-- What a datagram of a record can be read as: refused by 1 to 11 alone, never by 1 where it is no longer than a datagram may be, and never left unread.
-- Assumes nothing.
use Rattle.std.specs.Prelude.{Option, Some, None, Result, Ok, Err}
use mathlib.Core.Path.{◌≡◌, refl}
use mathlib.Core.Bool.{Bool, true, false, cond}
use mathlib.Core.List.{List}
use Prim.Native.Nat.{ℕ, ◌≤◌, ◌<◌}
use native.Mathlib.Omega.{arith}
use borrow.Author.Tests.{le-ltb, ne_eqb}
use lib.Dec.{eqb, ltb}
use lib.ListN.{length, get_or, drop}
use Rattle.facts.proofs.Tests.{clash}
use Rattle.quantity.specs.declared.count.DatalinkId.{DatalinkId}
use Rattle.quantity.specs.declared.refusal.Refusal.{Refusal}
use Rattle.quantity.specs.Limits.{LONGEST-DATAGRAM}
use Rattle.quantity.specs.Refusals.{LONG-DATAGRAM, HEADER}
use Rattle.wire.specs.Options.{Options, split}
use Rattle.meaning.specs.declared.message.End.{End}
use Rattle.meaning.specs.declared.message.Plane.{Plane}
use Rattle.read_option.specs.Stated.{Table, control_stated}
use Rattle.reader.specs.Readings.{Verdict, read_control, read_data, packet_of, plane_of}
use Rattle.read_rules.specs.Judging.{judge}
use Rattle.reader.specs.Header.{CURRENT-VERSION, version_of, flag_of}
use Rattle.read_rules.specs.Sorts.{Sort, rules_of}
use Rattle.read_control.specs.Message.{control_sort}
use Rattle.read_data.specs.Message.{data_sort}
use Rattle.reader.proofs.Planes.{by_plane_lem}
use Rattle.acceptance.specs.Places.{Fault, cut_off_lem, other_length, meaningless, unlisted, repeated, behind_packet_lem}
use Rattle.acceptance.proofs.Cells.{Cells}
use Rattle.acceptance.specs.Refused.{Lack, unfilled, unpaired, other_datalink}
use Rattle.acceptance.proofs.Outcome.{judged_body}
use Rattle.acceptance.proofs.Control.{control_cells}
use Rattle.acceptance.proofs.Data.{gathered, data_cells}
use Rattle.acceptance.proofs.Verdicts.{control_numbers, data_numbers, plane_numbers, control_own, data_own}
use Rattle.ethernet.specs.declared.Kind.{Kind}
use Rattle.ethernet.specs.declared.Ports.{Ports}
use Rattle.ethernet.specs.Layers.{datagram_of}
use Rattle.ethernet.specs.Kinds.{kind_of, HoldsUdp}
use Rattle.ethernet.proofs.Exactly.{Tells, kind_tells, datagram_short}
use Rattle.census.specs.Outcomes.{control, carried, message, by_verdict, control_of, data_of, by_plane, sender_of, by_sender, reading_of, outcome_of}
use Rattle.census.specs.Counts.{is_refused}
use Rattle.census.proofs.Amounts.{Fair}

-- ---- by 1 to 11

module _ (end : End) (id : DatalinkId) (datagram : List ℕ) where
  reading_fair : Fair (message end (reading_of end id datagram))
  unfolding reading_of
  reading_fair = go (plane_of datagram) refl
    where
      of_control : plane_of datagram ≡ Ok Plane.Control → (v : Verdict) → (read_control end id datagram).verdict ≡ v
          → Fair (message end (by_verdict v (control (read_control end id datagram).message)))
      of_control p Verdict.Accepted e = tt
      of_control p (Verdict.Refused refusal) e = control_numbers end id datagram refusal e
      of_control p Verdict.OtherPlane e = absurd (control_own end id datagram p e)

      of_data : plane_of datagram ≡ Ok Plane.Data → (v : Verdict) → (read_data end id datagram).verdict ≡ v → (channel size : ℕ)
          → Fair (message end (by_verdict v (carried channel size)))
      of_data p Verdict.Accepted e channel size = tt
      of_data p (Verdict.Refused refusal) e channel size = data_numbers end id datagram refusal e
      of_data p Verdict.OtherPlane e channel size = absurd (data_own end id datagram p e)

      go : (plane : Result Plane Refusal) → plane_of datagram ≡ plane → Fair (message end (by_plane plane (control_of (read_control end id datagram)) (data_of (read_data end id datagram) (packet_of datagram))))
      go (Ok Plane.Control) p = of_control p (read_control end id datagram).verdict refl
      go (Ok Plane.Data) p = of_data p (read_data end id datagram).verdict refl _ _
      go (Err refusal) p = plane_numbers datagram refusal p

pub outcome_fair : (ports : Ports) (id : DatalinkId) (original : ℕ) (frame : List ℕ) → Fair (outcome_of ports id original frame)
unfolding outcome_of
outcome_fair ports id original frame = go (sender_of (kind_of ports original frame))
  where
    go : (sender : Option End) → Fair (by_sender sender (λ end. reading_of end id (datagram_of frame)))
    go None = tt
    go (Some end) = reading_fair end id (datagram_of frame)

-- ---- never by 1: the options and the tests on the whole have other numbers

fault_late : {plane : Plane} {end : End} {τ : Table} {number : ℕ} {rest : Options} → Fault plane end τ number rest → 1 < number
fault_late cut_off_lem = omega arith
fault_late (behind_packet_lem b) = omega arith
fault_late (unlisted b k l) = omega arith
fault_late (other_length b k m l) = omega arith
fault_late (meaningless b k m l v) = omega arith
fault_late (repeated b k l t) = omega arith

lack_late : {plane : Plane} {end : End} {id : DatalinkId} {τ : Table} {number : ℕ} → Lack plane end id τ number → 1 < number
lack_late (unfilled f) = omega arith
lack_late (unpaired f p) = omega arith
lack_late (other_datalink f p o) = omega arith

abbrev LateVerdict : Verdict → Type 0
LateVerdict verdict = (refusal : Refusal) → verdict ≡ Verdict.Refused refusal → 1 < refusal.number

late_refused : (number place : ℕ) → 1 < number → LateVerdict (Verdict.Refused (record { number = number; place = place }))
late_refused number place h refusal e = let same : number ≡ refusal.number = cc in rw (← same) h

judged_late : {A B : Type 0} (S : Sort A B) (id : DatalinkId) (stated : Table → A) (C : Cells S id stated) (f : Options) → LateVerdict (C.verdict (judge (rules_of S) f 1 S.blank))
judged_late S id stated C f =
    judged_body S id stated C LateVerdict f
    (record {
      accepted = λ w refusal e. clash (cc);
      at_option = λ number place w. late_refused number place (fault_late w.fault);
      at_end = λ number place h l p. late_refused number place (lack_late l);
    })

module _ (end : End) (id : DatalinkId) (datagram : List ℕ) where
  control_late : plane_of datagram ≡ Ok Plane.Control → LateVerdict (read_control end id datagram).verdict
  unfolding read_control control_cells
  control_late p =
      let S = control_sort end id in
      rw (← (by_plane_lem (rules_of S) datagram p)) (judged_late S id control_stated (control_cells end id) (split (drop 1 datagram)))

  data_late : plane_of datagram ≡ Ok Plane.Data → LateVerdict (read_data end id datagram).verdict
  unfolding read_data data_cells
  data_late p =
      let S = data_sort end id in
      rw (← (by_plane_lem (rules_of S) datagram p)) (judged_late S id gathered (data_cells end id) (split (drop 1 datagram)))

plane_late : (datagram : List ℕ) → length datagram ≤ LONGEST-DATAGRAM → (refusal : Refusal) → plane_of datagram ≡ Err refusal → 1 < refusal.number
unfolding plane_of
plane_late datagram h refusal e =
    go (ltb LONGEST-DATAGRAM (length datagram)) (le-ltb LONGEST-DATAGRAM (length datagram) h) (eqb (length datagram) 0) (eqb (version_of (get_or datagram 0 0)) CURRENT-VERSION) (eqb (flag_of (get_or datagram 0 0)) 0) e
  where
    go : (long : Bool) → long ≡ false → (empty version clear : Bool)
        → cond long (Err (record { number = LONG-DATAGRAM; place = 0 })) (cond empty (Err (record { number = HEADER; place = 0 })) (cond version (cond clear (Ok Plane.Control) (Ok Plane.Data)) (Err (record { number = HEADER; place = 0 }))))
        ≡ Err refusal → 1 < refusal.number
    go true q empty version clear k = clash (cc)
    go false q true version clear k = let n : HEADER ≡ refusal.number = cc in omega arith
    go false q false false clear k = let n : HEADER ≡ refusal.number = cc in omega arith
    go false q false true true k = clash (cc)
    go false q false true false k = clash (cc)

module _ (end : End) (id : DatalinkId) (datagram : List ℕ) (h : length datagram ≤ LONGEST-DATAGRAM) where
  reading_late : is_refused 1 (message end (reading_of end id datagram)) ≡ false
  unfolding reading_of
  reading_late = go (plane_of datagram) refl
    where
      late : (number : ℕ) → 1 < number → eqb number 1 ≡ false
      late number l = ne_eqb number 1 (λ e. omega arith)

      of_control : plane_of datagram ≡ Ok Plane.Control → (v : Verdict) → (read_control end id datagram).verdict ≡ v
          → is_refused 1 (message end (by_verdict v (control (read_control end id datagram).message))) ≡ false
      of_control p Verdict.Accepted e = refl
      of_control p (Verdict.Refused refusal) e = late refusal.number (control_late end id datagram p refusal e)
      of_control p Verdict.OtherPlane e = refl

      of_data : plane_of datagram ≡ Ok Plane.Data → (v : Verdict) → (read_data end id datagram).verdict ≡ v → (channel size : ℕ)
          → is_refused 1 (message end (by_verdict v (carried channel size))) ≡ false
      of_data p Verdict.Accepted e channel size = refl
      of_data p (Verdict.Refused refusal) e channel size = late refusal.number (data_late end id datagram p refusal e)
      of_data p Verdict.OtherPlane e channel size = refl

      go : (plane : Result Plane Refusal) → plane_of datagram ≡ plane → is_refused 1 (message end (by_plane plane (control_of (read_control end id datagram)) (data_of (read_data end id datagram) (packet_of datagram)))) ≡ false
      go (Ok Plane.Control) p = of_control p (read_control end id datagram).verdict refl
      go (Ok Plane.Data) p = of_data p (read_data end id datagram).verdict refl _ _
      go (Err refusal) p = late refusal.number (plane_late datagram h refusal p)

-- a record of at most 65,536 bytes, of which its datagram lacks 42 at least
pub never_long : (ports : Ports) (id : DatalinkId) (original : ℕ) (frame : List ℕ) → length frame ≤ 65536 → is_refused 1 (outcome_of ports id original frame) ≡ false
unfolding outcome_of
never_long ports id original frame h = go (kind_of ports original frame) (kind_tells ports original frame)
  where
    short : HoldsUdp original frame → length (datagram_of frame) ≤ LONGEST-DATAGRAM
    short k = omega (arith, datagram_short original frame k)

    go : (kind : Kind) → Tells ports original frame kind → is_refused 1 (by_sender (sender_of kind) (λ end. reading_of end id (datagram_of frame))) ≡ false
    go Kind.Ips k = reading_late End.Ips id (datagram_of frame) (short k.0)
    go Kind.Radio k = reading_late End.Radio id (datagram_of frame) (short k.0)
    go Kind.Shortened k = refl
    go Kind.Short k = refl
    go Kind.OtherType k = refl
    go Kind.NotIpv4 k = refl
    go Kind.Fragment k = refl
    go Kind.OtherProtocol k = refl
    go Kind.Ipv4Length k = refl
    go Kind.UdpLength k = refl
    go Kind.OtherPort k = refl
