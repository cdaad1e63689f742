-- What is noted of a control message, as one number. Assumes nothing.
use Rattle.meaning.specs.declared.message.Plane.{Plane}
use Rattle.std.proofs.Common.{◌≡◌, ℕ, zero, suc, ◌-◌, ◌≤◌, true, false, List, length, get_or, drop, sym, refl, ap, ◌∙◌, subst, arith, Ok}
use mathlib.Core.Bool.{false≢true}
use lib.ListN.{get_or-eq_default}
use Rattle.quantity.specs.declared.count.DatalinkId.{DatalinkId}
use Rattle.quantity.specs.Limits.{CHANNEL-IDS}
use Rattle.wire.specs.Options.{split}
use Rattle.meaning.specs.declared.message.End.{End}
use Rattle.read_rules.specs.Judging.{judge}
use Rattle.read_rules.specs.Sorts.{rules_of}
use Rattle.read_control.specs.Message.{blank_control, control_sort}
use Rattle.note_control.specs.declared.Noted.{Noted}
use Rattle.note_control.specs.Codes.{code_status, code_window}
use Rattle.note_control.specs.Noted.{MeantIf, NotedBy}
use Rattle.reader.specs.Readings.{Verdict, ControlReading, read_control, plane_of}
use Rattle.reader.proofs.Planes.{by_plane_lem}
use Rattle.bench_reader.specs.Digests.{ABSENT, status_part, window_part, noted_sum, noted_of, is_accepted, fault_of, noted_digest}

pub code_part : (code : ℕ) → (code ≡ 0 → ⊥) → code - 1 ≡ status_part (code_status code)
code_part zero n = absurd (n refl)
code_part (suc k) n = omega arith

-- the options of a control message as they are noted are those that the reader reads
pub noted_reading : (end : End) (id : DatalinkId) (datagram : List ℕ) {noted : Noted} {statuses tags windows : List ℕ} → plane_of datagram ≡ Ok Plane.Control
    → NotedBy (judge (rules_of (control_sort end id)) (split (drop 1 datagram)) 1 blank_control) noted statuses tags windows
    → NotedBy (read_control end id datagram) noted statuses tags windows
unfolding read_control
noted_reading end id datagram {noted} {statuses} {tags} {windows} p k =
    subst (λ (reading : ControlReading). NotedBy reading noted statuses tags windows) (by_plane_lem (rules_of (control_sort end id)) datagram p) k

accepted_is : (verdict : Verdict) → is_accepted verdict ≡ true → verdict ≡ Verdict.Accepted
accepted_is Verdict.Accepted e = refl
accepted_is Verdict.OtherPlane e = absurd (false≢true e)
accepted_is (Verdict.Refused refusal) e = absurd (false≢true e)

module _ (channel : ℕ) {reading : ControlReading} {noted : Noted} {statuses tags windows : List ℕ} (k : NotedBy reading noted statuses tags windows) where
  pub noted_fault : {number : ℕ} → is_accepted noted.verdict ≡ false → number ≡ fault_of noted.verdict → number ≡ noted_digest channel reading
  noted_fault e f = rw (← k.verdict_is, e) f

  -- what the tables tell of the channel
  pub noted_accepted : {number status window : ℕ} → is_accepted noted.verdict ≡ true
      → status ≡ status_part (code_status (get_or statuses channel 0)) → window ≡ window_part (code_window (get_or tags channel 0) (get_or windows channel 0))
      → number ≡ noted_sum noted.instance noted.context status window → number ≡ noted_digest channel reading
  noted_accepted {number} {status} {window} e s w f =
      let meant : MeantIf Verdict.Accepted reading.message noted statuses tags windows
      = subst (λ (verdict : Verdict). MeantIf verdict reading.message noted statuses tags windows) (accepted_is noted.verdict e) k.meant in
      let whole : noted_sum noted.instance noted.context status window ≡ noted_of channel reading.message
      = rw (meant.instance_is, meant.context_is, meant.tabled.status_is channel, meant.tabled.window_is channel, s, w) refl in
      rw (← k.verdict_is, e) (f ∙ whole)

  -- of a channel that the tables don't have, nothing
  pub noted_beyond : {number : ℕ} → is_accepted noted.verdict ≡ true → length statuses ≡ CHANNEL-IDS → length tags ≡ CHANNEL-IDS → CHANNEL-IDS ≤ channel
      → number ≡ noted_sum noted.instance noted.context ABSENT ABSENT → number ≡ noted_digest channel reading
  noted_beyond e s t far f =
      noted_accepted e
      (sym (ap (λ (code : ℕ). status_part (code_status code)) (get_or-eq_default statuses 0 {n = channel} (omega (arith, s, far)))))
      (sym (ap (λ (tag : ℕ). window_part (code_window tag (get_or windows channel 0))) (get_or-eq_default tags 0 {n = channel} (omega (arith, t, far)))))
      f
