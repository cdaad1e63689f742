-- Number 20 isn't too strict: the meaning of every message that is accepted may be written; written, it is read again as the same meaning.
-- Assumes nothing.
use Prim.Native.Nat.{ℕ, ◌≤◌}
use mathlib.Core.Path.{◌≡◌, sym, subst}
use mathlib.Core.Logic.{◌↔◌}
use mathlib.Core.List.{List}
use mathlib.Core.Bool.{true}
use native.Mathlib.Omega.{arith}
use lib.ListN.{length}
use Rattle.quantity.specs.declared.count.DatalinkId.{DatalinkId}
use Rattle.wire.specs.Numbers.{Octets}
use Rattle.wire.specs.Options.{Options}
use Rattle.meaning.specs.declared.message.End.{End}
use Rattle.meaning.specs.declared.message.Plane.TheVariants as planes
use Rattle.read_option.specs.Stated.{control_stated, data_stated}
use Rattle.read_rules.specs.declared.answer.Verdict.{Verdict}
use Rattle.read_control.specs.declared.ControlReading.{ControlReading}
use Rattle.read_control.specs.Message.{control_accepted}
use Rattle.read_data.specs.declared.DataReading.{DataReading}
use Rattle.reader.specs.Readings.{read_control, read_data, packet_of}
use Rattle.acceptance.specs.Account.{Accepts, control_meaning, data_meaning}
use Rattle.acceptance.proofs.Control.{control_account}
use Rattle.acceptance.proofs.Data.{data_account}
use Rattle.writable.specs.Allowed.{control_allowed, data_allowed}
use Rattle.writer.specs.Written.{control_written, data_written}
use Rattle.roundtrip.specs.Values.{ControlValue}
use Rattle.roundtrip.proofs.HeldControl.{control_allowed_lem, control_value}
use Rattle.roundtrip.proofs.HeldData.{data_allowed_lem, data_value}
use Rattle.roundtrip.proofs.Shorter.{no_longer}
use Rattle.roundtrip.proofs.Control.{control_round}
use Rattle.roundtrip.proofs.Data.{data_round, packet_round}

-- what is so of the answer to options that the account allows is so of an accepted reading
of_accepted : {R Accepted : Type 0} {reading : R} {Allows : Options → Type 0} {answer : Options → R}
    → (Accepted ↔ (f : Options) × Allows f) × ((f : Options) → Allows f → reading ≡ answer f) → (P : R → Type 0) → ((f : Options) → Allows f → P (answer f)) → Accepted → P reading
of_accepted account P h e = let x = account.0.0 e in subst P (sym (account.1 x.0 x.1)) (h x.0 x.1)

module _ (end : End) (id : DatalinkId) (s : List ℕ) (o : Octets s) where
  of_control_lem : (P : ControlReading → Type 0) → ((f : Options) → Accepts planes.Control end id s f → P (control_accepted (control_meaning end f)))
      → (read_control end id s).verdict ≡ Verdict.Accepted → P (read_control end id s)
  of_control_lem = of_accepted (control_account end id s o)

  of_data_lem : (P : DataReading → Type 0) → ((f : Options) → Accepts planes.Data end id s f → P (record { verdict = Verdict.Accepted; message = data_meaning end f }))
      → (read_data end id s).verdict ≡ Verdict.Accepted → P (read_data end id s)
  of_data_lem = of_accepted (data_account end id s o)

-- ---- control

pub control_writable : (end : End) (id : DatalinkId) (s : List ℕ) → Octets s → (read_control end id s).verdict ≡ Verdict.Accepted
    → control_allowed end (read_control end id s).message ≡ true
unfolding control_accepted
control_writable end id s o = of_control_lem end id s o (λ r. control_allowed end r.message ≡ true) (control_allowed_lem end id s o)

pub control_is_value : (end : End) (id : DatalinkId) (s : List ℕ) → Octets s → (read_control end id s).verdict ≡ Verdict.Accepted
    → ControlValue (read_control end id s).message
unfolding control_accepted
control_is_value end id s o = of_control_lem end id s o (λ r. ControlValue r.message) (control_value end id s o)

pub control_again : (end : End) (id : DatalinkId) (s : List ℕ) → Octets s → (read_control end id s).verdict ≡ Verdict.Accepted
    → read_control end id (control_written (read_control end id s).message) ≡ read_control end id s
unfolding control_accepted control_stated
control_again end id s o =
    of_control_lem end id s o (λ r. read_control end id (control_written r.message) ≡ r)
    (λ f a. control_round end id (control_meaning end f) (control_value end id s o f a) (control_allowed_lem end id s o f a) a.ours)

-- ---- data

pub data_writable : (end : End) (id : DatalinkId) (s : List ℕ) → Octets s → (read_data end id s).verdict ≡ Verdict.Accepted
    → data_allowed end (read_data end id s).message (length (packet_of s)) ≡ true
data_writable end id s o = of_data_lem end id s o (λ r. data_allowed end r.message (length (packet_of s)) ≡ true) (data_allowed_lem end id s o)

-- so that there is room for it wherever there was for what was read
pub data_no_longer : (end : End) (id : DatalinkId) (s : List ℕ) → Octets s → (read_data end id s).verdict ≡ Verdict.Accepted
    → length (data_written (read_data end id s).message (packet_of s)) ≤ length s
data_no_longer end id s o = of_data_lem end id s o (λ r. length (data_written r.message (packet_of s)) ≤ length s) (no_longer end id s o)

pub data_again : (end : End) (id : DatalinkId) (s : List ℕ) → Octets s → (read_data end id s).verdict ≡ Verdict.Accepted
    → (read_data end id (data_written (read_data end id s).message (packet_of s)) ≡ read_data end id s)
    × (packet_of (data_written (read_data end id s).message (packet_of s)) ≡ packet_of s)
unfolding data_stated
data_again end id s o =
    of_data_lem end id s o (λ r. (read_data end id (data_written r.message (packet_of s)) ≡ r) × (packet_of (data_written r.message (packet_of s)) ≡ packet_of s))
    (λ f a. let value = data_value end id s o f a in
    let allowed = data_allowed_lem end id s o f a in (
      data_round end id (data_meaning end f) (packet_of s) value allowed a.ours (omega (arith, no_longer end id s o f a, a.short)),
      packet_round end (data_meaning end f) (packet_of s) value allowed,
    ))
