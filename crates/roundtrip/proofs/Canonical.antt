-- What is written lies in the order that document 01 gives, unused bits being 0. Assumes nothing.
use Rattle.std.specs.Prelude.{Option, Some, None, Result, Ok}
use Rattle.quantity.specs.declared.count.DatalinkId.{DatalinkId}
use Rattle.quantity.specs.declared.count.LinkInstanceId.{LinkInstanceId}
use Rattle.quantity.specs.declared.count.FlowSequence.{FlowSequence}
use Rattle.quantity.specs.declared.refusal.Refusal.{Refusal}
use Rattle.meaning.specs.declared.message.ContextBytes.{ContextBytes}
use Prim.Native.Nat.{ℕ, suc, ◌≤◌, ◌<◌}
use mathlib.Core.Path.{◌≡◌, refl, sym, subst}
use mathlib.Core.List.{List, [], ◌∷◌}
use mathlib.Core.Bool.{true, and-eq-true_iff}
use native.Mathlib.Omega.{arith}
use borrow.Author.Tests.{leb-true}
use lib.Dec.{leb}
use lib.ListN.{length, take}
use Rattle.quantity.specs.declared.count.ByteCount.{ByteCount}
use Rattle.wire.specs.Options.{Options}
use Rattle.meaning.specs.declared.message.End.{End}
use Rattle.meaning.specs.declared.message.Plane.TheVariants as planes
use Rattle.meaning.specs.declared.message.Window.{Window}
use Rattle.meaning.specs.declared.message.Control.{Control}
use Rattle.meaning.specs.declared.message.Data.{Data}
use Rattle.meaning.specs.Kinds.{CHANNEL-STATUS}
use Rattle.writable.specs.Allowed.{may, datalink_allowed, instance_allowed, context_allowed, status_allowed, statuses_allowed, control_allowed, data_allowed}
use Rattle.writer.specs.Written.{datalink_then, instance_then, context_then, status_then, sequence_then, window_then, counted_then, channel_then, expiration_then, table_then, control_options, data_options, control_written, data_written, Outcome}
use Rattle.roundtrip.specs.Values.{ControlValue, DataValue}
use Rattle.roundtrip.specs.Canonical.{status, sequence, window, InOrder, ended, no_more, alone, for_channel, writers_order, Canonical}
use Rattle.roundtrip.proofs.Answers.{exact}
use Rattle.roundtrip.proofs.Control.{control_whole}
use Rattle.roundtrip.proofs.Data.{data_whole}
use Rattle.roundtrip.proofs.Returned.{counted}

-- ---- the order

-- a channel more may come first
lower : {kind : ℕ} {order : List ℕ} {least : ℕ} {options : Options} → InOrder (kind ∷ order) (suc least) options → InOrder (kind ∷ order) least options
lower ended = ended
lower (no_more h) = no_more h
lower (alone n h) = alone n h
lower {least = least} (for_channel {channel = channel} f l h) = let below : least ≤ channel = omega (arith, l) in for_channel f below h

-- a table, where each place puts at most an option of its channel
in_table : {A : Type 0} (put : ℕ → A → Options → Options) (kind : ℕ) (order : List ℕ)
    → ((channel : ℕ) (cell : A) (more : Options) → InOrder (kind ∷ order) (suc channel) more → InOrder (kind ∷ order) channel (put channel cell more))
    → (cells : List A) (channel : ℕ) (more : Options) → InOrder order 0 more → InOrder (kind ∷ order) channel (table_then put channel cells more)
unfolding table_then
in_table put kind order step [] channel more h = no_more h
in_table put kind order step (cell ∷ cells) channel more h = step channel cell _ (in_table put kind order step cells (suc channel) more h)

module _ {order : List ℕ} {more : Options} (h : InOrder order 0 more) where
  datalink_first : (x : Option DatalinkId) → InOrder (1 ∷ order) 0 (datalink_then x more)
  datalink_first None = no_more h
  datalink_first (Some d) = alone refl h

  instance_first : (x : Option (LinkInstanceId × ℕ)) → InOrder (3 ∷ order) 0 (instance_then x more)
  instance_first None = no_more h
  instance_first (Some (v, n)) = alone refl h

  context_first : (x : Option (ContextBytes × ℕ)) → InOrder (4 ∷ order) 0 (context_then x more)
  context_first None = no_more h
  context_first (Some (b, n)) = alone refl h

  counted_first : (x : Option (ℕ × FlowSequence)) → InOrder (134 ∷ order) 0 (counted_then x more)
  counted_first None = no_more h
  counted_first (Some (n, s)) = let low : 0 ≤ n = omega arith in for_channel sequence low (no_more h)

  channel_first : (x : Option ℕ) → InOrder (129 ∷ order) 0 (channel_then x more)
  channel_first None = no_more h
  channel_first (Some k) = alone refl h

  expiration_first : (x : Option ℕ) → InOrder (130 ∷ order) 0 (expiration_then x more)
  expiration_first None = no_more h
  expiration_first (Some t) = alone refl h

module _ (order : List ℕ) (channel : ℕ) where
  here : channel ≤ channel
  here = omega arith

  -- "4-bit Status"
  status_next : (end : End) (x : Option ℕ) → status_allowed end x ≡ true → (more : Options) → InOrder (5 ∷ order) (suc channel) more → InOrder (5 ∷ order) channel (status_then channel x more)
  status_next end None a more h = lower h
  status_next end (Some s) a more h =
      let most = leb-true s 15 ((and-eq-true_iff (may planes.Control end CHANNEL-STATUS) (leb s 15)).0 a).1 in
      let low : s < 16 = omega arith in
      for_channel (status low) here h

  sequence_next : (x : Option FlowSequence) (more : Options) → InOrder (134 ∷ order) (suc channel) more → InOrder (134 ∷ order) channel (sequence_then channel x more)
  sequence_next None more h = lower h
  sequence_next (Some s) more h = for_channel sequence here h

  window_next : (x : Option Window) (more : Options) → InOrder (6 ∷ order) (suc channel) more → InOrder (6 ∷ order) channel (window_then channel x more)
  window_next None more h = lower h
  window_next (Some Window.Empty) more h = for_channel window here h
  window_next (Some (Window.Given w)) more h = for_channel window here h

statuses_in_order : (end : End) (order : List ℕ) (cells : List (Option ℕ)) (channel : ℕ) (more : Options) → statuses_allowed end cells ≡ true → InOrder order 0 more
    → InOrder (5 ∷ order) channel (table_then (λ n cell. status_then n cell) channel cells more)
unfolding table_then statuses_allowed
statuses_in_order end order [] channel more a h = no_more h
statuses_in_order end order (cell ∷ cells) channel more a h =
    let both = (and-eq-true_iff (status_allowed end cell) (statuses_allowed end cells)).0 a in
    status_next order channel end cell both.0 _ (statuses_in_order end order cells (suc channel) more both.1 h)

control_in_order : (end : End) (m : Control) → control_allowed end m ≡ true → InOrder writers_order 0 (control_options m)
unfolding control_options control_allowed
control_in_order end m e =
    let a = ((and-eq-true_iff (datalink_allowed m.datalink) _).0 e).1 in
    let b = ((and-eq-true_iff (instance_allowed end m.instance) _).0 a).1 in
    let c = ((and-eq-true_iff (context_allowed end m.context) _).0 b).1 in
    let d = ((and-eq-true_iff (statuses_allowed end m.statuses) _).0 c).0 in
    datalink_first
    (instance_first
    (context_first
    (statuses_in_order end _ m.statuses 0 _ d
    (in_table (λ n cell. sequence_then n cell) 134 _ (λ n cell. sequence_next _ n cell) m.sequences 0 _
    (in_table (λ n cell. window_then n cell) 6 _ (λ n cell. window_next _ n cell) m.windows 0 _ ended)))
    m.context)
    m.instance)
    m.datalink

data_in_order : (m : Data) (packet : List ℕ) → InOrder writers_order 0 (data_options m packet)
unfolding data_options
data_in_order m packet =
    datalink_first
    (no_more
    (no_more
    (no_more
    (counted_first
    (no_more
    (channel_first (expiration_first (alone refl ended) m.expiration) m.channel))
    m.sequence))))
    m.datalink

-- ---- what is written

pub control_canonical : (end : End) (m : Control) → ControlValue m → control_allowed end m ≡ true → Canonical 16 (control_written m)
unfolding control_written
control_canonical end m value e = record {
  options = control_options m;
  parts = refl;
  whole = control_whole end m value e;
  in_order = control_in_order end m e;
}

pub data_canonical : (end : End) (m : Data) (packet : List ℕ) → DataValue m → data_allowed end m (length packet) ≡ true → Canonical 24 (data_written m packet)
unfolding data_written
data_canonical end m packet value e = record {
  options = data_options m packet;
  parts = refl;
  whole = data_whole end m packet value e;
  in_order = data_in_order m packet;
}

-- The bytes that a writer's answer counts, whatever was to be written.
pub control_wrote : (end : End) (m : Control) → ControlValue m → (out : List ℕ) (answer : Result ByteCount Refusal) (out' : List ℕ)
    → Outcome (control_allowed end m) (control_written m) out answer out' → (count : ByteCount) → answer ≡ Ok count → Canonical 16 (take count.0 out')
control_wrote end m value out answer out' o count e =
    let s = (exact (control_written m) out answer out' (control_allowed end m) o).sent count e in
    subst (Canonical 16) (sym (counted s)) (control_canonical end m value s.is_allowed)

pub data_wrote : (end : End) (m : Data) (packet : List ℕ) → DataValue m → (out : List ℕ) (answer : Result ByteCount Refusal) (out' : List ℕ)
    → Outcome (data_allowed end m (length packet)) (data_written m packet) out answer out' → (count : ByteCount) → answer ≡ Ok count
    → Canonical 24 (take count.0 out')
data_wrote end m packet value out answer out' o count e =
    let s = (exact (data_written m packet) out answer out' (data_allowed end m (length packet)) o).sent count e in
    subst (Canonical 24) (sym (counted s)) (data_canonical end m packet value s.is_allowed)
