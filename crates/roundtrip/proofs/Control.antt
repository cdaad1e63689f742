-- A control message that may be written, once written, is read back as itself, and fits every datagram. Assumes nothing.
use Rattle.std.specs.Prelude.{Option, Some, None}
use Rattle.quantity.specs.declared.count.LinkInstanceId.{LinkInstanceId}
use Rattle.quantity.specs.declared.count.FlowSequence.{FlowSequence}
use Rattle.meaning.specs.declared.message.ContextBytes.{ContextBytes}
use Prim.Native.Nat.{ℕ, ◌+◌, ◌≤◌, ◌<◌, ◌^◌}
use mathlib.Core.Path.{◌≡◌, refl, sym, subst, ◌∙◌}
use mathlib.Core.List.{List, [], ◌∷◌}
use mathlib.Core.Bool.{true, false, ◌&&◌, and-eq-true_iff}
use native.Mathlib.Omega.{arith}
use native.Mathlib.Nat.{mod-eq_of_lt}
use borrow.Author.Tests.{eq-eqb, leb-true, ltb-true}
use lib.ListN.{length, get_or, replicate}
use lib.Dec.{ltb, leb, eqb, lit≤}
use Rattle.facts.proofs.Tables.{tabulate_same, each_place}
use Rattle.quantity.specs.declared.count.DatalinkId.{DatalinkId}
use Rattle.quantity.specs.Limits.{LONGEST-DATAGRAM, HIGHEST-STATUS, SHORTEST-NAME, LONGEST-NAME}
use Rattle.wire.specs.Numbers.{bytes_of, big_endian}
use Rattle.wire.specs.Options.{Options, done, option, bytes, WholeOptions}
use Rattle.wire.proofs.Numbers.{length_bytes, there_and_back}
use Rattle.meaning.specs.declared.message.End.{End}
use Rattle.meaning.specs.declared.message.Plane.TheVariants as planes
use Rattle.meaning.specs.declared.message.Window.{Window}
use Rattle.meaning.specs.declared.message.Control.{Control}
use Rattle.meaning.specs.Kinds.{among, known, length_listed, value_listed, LINK-INSTANCE, DATALINK-CONTEXT, CHANNEL-STATUS, FLOW-WINDOW, FLOW-SEQUENCE, PACKET-DATA}
use Rattle.read_option.specs.Stated.{status_from, sequence_from, window_from, control_stated}
use Rattle.read_rules.specs.Judging.{judge}
use Rattle.read_rules.specs.Sorts.{channel_of, finish_of}
use Rattle.read_control.specs.Message.{blank_control, control_sort, control_accepted, unstated_status, control_unstated, control_state}
use Rattle.reader.specs.Readings.{read_control}
use Rattle.writable.specs.Allowed.{may, fits_length, datalink_allowed, instance_allowed, context_allowed, status_allowed, statuses_allowed, primary_allowed, sequence_allowed, sequences_allowed, window_allowed, windows_allowed, control_allowed, stands}
use Rattle.write_option.specs.Parts.{datalink_then, instance_then, context_then, status_then, sequence_then, window_then, statuses_then, sequences_then, windows_then}
use Rattle.writer.specs.Written.{control_options, control_written, CONTROL-HEADER}
use Rattle.roundtrip.specs.Values.{SequenceWord, WindowWord, ControlValue}
use Rattle.roundtrip.proofs.Adding.{Adds, adds_none, adds_option, adds_both, adds_datalink, read_back}
use Rattle.roundtrip.proofs.Tables.{Cell, nothing, stated, Column, adds_column}

-- a message with another part of one kind
abbrev with_datalink : Control → Option DatalinkId → Control
with_datalink m d = record { datalink = d; instance = m.instance; context = m.context; statuses = m.statuses; sequences = m.sequences; windows = m.windows }

abbrev with_instance : Control → Option (LinkInstanceId × ℕ) → Control
with_instance m x = record { datalink = m.datalink; instance = x; context = m.context; statuses = m.statuses; sequences = m.sequences; windows = m.windows }

abbrev with_context : Control → Option (ContextBytes × ℕ) → Control
with_context m c = record { datalink = m.datalink; instance = m.instance; context = c; statuses = m.statuses; sequences = m.sequences; windows = m.windows }

abbrev with_statuses : Control → List (Option ℕ) → Control
with_statuses m cells = record { datalink = m.datalink; instance = m.instance; context = m.context; statuses = cells; sequences = m.sequences; windows = m.windows }

abbrev with_sequences : Control → List (Option FlowSequence) → Control
with_sequences m cells = record { datalink = m.datalink; instance = m.instance; context = m.context; statuses = m.statuses; sequences = cells; windows = m.windows }

abbrev with_windows : Control → List (Option Window) → Control
with_windows m cells = record { datalink = m.datalink; instance = m.instance; context = m.context; statuses = m.statuses; sequences = m.sequences; windows = cells }

-- ---- Link Instance and Context: a number of n bytes

module _ (end : End) (id : DatalinkId) where
  adds_spelled : (kind value n : ℕ) (m m' : Control) → among kind known ≡ true → eqb kind PACKET-DATA ≡ false
      → length_listed kind n ≡ leb SHORTEST-NAME n && leb n LONGEST-NAME → ((content : List ℕ) → value_listed kind content ≡ true)
      → ((content : List ℕ) → control_unstated kind (channel_of planes.Control kind content) m ≡ true)
      → ((content : List ℕ) → big_endian content ≡ value → length content ≡ n → control_state kind (channel_of planes.Control kind content) content m ≡ m')
      → may planes.Control end kind && fits_length kind value n ≡ true → Adds (control_sort end id) 1 (option kind (bytes_of n value)) m m'
  adds_spelled kind value n m m' k p l v f s e =
      let parts = (and-eq-true_iff (may planes.Control end kind) (fits_length kind value n)).0 e in
      let fits = (and-eq-true_iff (length_listed kind n) (ltb value (256 ^ n))).0 parts.1 in
      let bounds = (and-eq-true_iff (leb SHORTEST-NAME n) (leb n LONGEST-NAME)).0 (sym l ∙ fits.0) in
      let content = bytes_of n value in
      adds_option (control_sort end id)
      (record {
        opened = refl;
        is_known = k;
        may_stand = parts.0;
        length_listed_lem = rw length_bytes fits.0;
        value_listed_lem = v content;
        is_free = f content;
        states = s content (there_and_back n value (ltb-true value (256 ^ n) fits.1)) (length_bytes n value);
      })
      (rw length_bytes (leb-true n LONGEST-NAME bounds.1)) p

  adds_instance : (m : Control) (x : Option (LinkInstanceId × ℕ)) → instance_allowed end x ≡ true → Adds (control_sort end id) 1 (instance_then x) (with_instance m None) (with_instance m x)
  unfolding length_listed value_listed control_unstated control_state
  adds_instance m None e = adds_none (control_sort end id) 1 (with_instance m None)
  adds_instance m (Some (v, n)) e =
      adds_spelled LINK-INSTANCE v.0 n (with_instance m None) (with_instance m (Some (v, n))) refl refl refl (λ content. refl) (λ content. refl)
      (λ content b l. rw (b, l)) e

  adds_context : (m : Control) (x : Option (ContextBytes × ℕ)) → context_allowed end x ≡ true → Adds (control_sort end id) 1 (context_then x) (with_context m None) (with_context m x)
  unfolding length_listed value_listed control_unstated control_state
  adds_context m None e = adds_none (control_sort end id) 1 (with_context m None)
  adds_context m (Some (v, n)) e =
      adds_spelled DATALINK-CONTEXT v.0 n (with_context m None) (with_context m (Some (v, n))) refl refl refl (λ content. refl) (λ content. refl)
      (λ content b l. rw (b, l)) e

-- ---- the three tables, each with what a content makes of a place

abbrev status_made : List ℕ → Option ℕ
status_made content = status_from (Some content)

abbrev sequence_made : List ℕ → Option FlowSequence
sequence_made content = sequence_from (Some content)

abbrev window_made : List ℕ → Option Window
window_made content = window_from (Some content)

module _ (end : End) where
  status_cell : (channel : ℕ) (x : Option ℕ) → status_allowed end x ≡ true → Cell end CHANNEL-STATUS None status_made channel (status_then channel x) x
  unfolding length_listed
  status_cell channel None e = nothing
  status_cell channel (Some s) e =
      let parts = (and-eq-true_iff (may planes.Control end CHANNEL-STATUS) (leb s HIGHEST-STATUS)).0 e in
      let small : s < 16 = omega (arith, leb-true s HIGHEST-STATUS parts.1) in
      stated (Some s) (s ∷ []) parts.0 refl (lit≤ tt) (rw (mod-eq_of_lt small))

  sequence_cell : (channel : ℕ) (x : Option FlowSequence) → sequence_allowed end x ≡ true → SequenceWord x
      → Cell end FLOW-SEQUENCE None sequence_made channel (sequence_then channel x) x
  unfolding length_listed
  sequence_cell channel None e w = nothing
  sequence_cell channel (Some s) e w =
      let l = length_bytes 4 s.0 in
      stated (Some s) (bytes_of 4 s.0) e (rw l) (omega arith) (rw (there_and_back 4 s.0 w))

  window_cell : (channel : ℕ) (x : Option Window) → window_allowed end x ≡ true → WindowWord x
      → Cell end FLOW-WINDOW None window_made channel (window_then channel x) x
  unfolding length_listed
  window_cell channel None e w = nothing
  window_cell channel (Some Window.Empty) e w = stated (Some Window.Empty) [] e refl (lit≤ tt) refl
  window_cell channel (Some (Window.Given x)) e w =
      let l = length_bytes 4 x.0 in
      stated (Some (Window.Given x)) (bytes_of 4 x.0) e (rw l) (omega arith) (rw (l, there_and_back 4 x.0 w))

  module _ (m : Control) where
    status_column : Column end CHANNEL-STATUS (λ n cell. status_then n cell) None (with_statuses m) status_made (λ cell. status_allowed end cell ≡ true)
    unfolding control_unstated control_state
    status_column = record {
      is_known = refl;
      one_for_each_lem = refl;
      is_naming = refl;
      no_packet = refl;
      frees = λ cells channel e. rw e;
      states = λ cells channel content. refl;
      puts = λ channel cell e. status_cell channel cell e;
    }

    sequence_column : Column end FLOW-SEQUENCE (λ n cell. sequence_then n cell) None (with_sequences m) sequence_made
        (λ cell. (sequence_allowed end cell ≡ true) × SequenceWord cell)
    unfolding control_unstated control_state
    sequence_column = record {
      is_known = refl;
      one_for_each_lem = refl;
      is_naming = refl;
      no_packet = refl;
      frees = λ cells channel e. rw e;
      states = λ cells channel content. refl;
      puts = λ channel cell e. sequence_cell channel cell e.0 e.1;
    }

    window_column : Column end FLOW-WINDOW (λ n cell. window_then n cell) None (with_windows m) window_made
        (λ cell. (window_allowed end cell ≡ true) × WindowWord cell)
    unfolding control_unstated control_state
    window_column = record {
      is_known = refl;
      one_for_each_lem = refl;
      is_naming = refl;
      no_packet = refl;
      frees = λ cells channel e. rw e;
      states = λ cells channel content. refl;
      puts = λ channel cell e. window_cell channel cell e.0 e.1;
    }

-- what a test on the whole message says of its parts
record Parts (end : End) (m : Control) : Type 0 where
  instance : instance_allowed end m.instance ≡ true
  context : context_allowed end m.context ≡ true
  statuses : (n : ℕ) → status_allowed end (get_or m.statuses n None) ≡ true
  primary : primary_allowed end m.statuses ≡ true
  sequences : (n : ℕ) → sequence_allowed end (get_or m.sequences n None) ≡ true
  windows : (n : ℕ) → window_allowed end (get_or m.windows n None) ≡ true

parts_allowed : (end : End) (m : Control) → control_allowed end m ≡ true → Parts end m
unfolding control_allowed statuses_allowed sequences_allowed windows_allowed
parts_allowed end m e =
    let a = ((and-eq-true_iff (datalink_allowed m.datalink) _).0 e).1 in
    let b = (and-eq-true_iff (instance_allowed end m.instance) _).0 a in
    let c = (and-eq-true_iff (context_allowed end m.context) _).0 b.1 in
    let d = (and-eq-true_iff (statuses_allowed end m.statuses) _).0 c.1 in
    let f = (and-eq-true_iff (primary_allowed end m.statuses) _).0 d.1 in
    let g = (and-eq-true_iff (sequences_allowed end m.sequences) (windows_allowed end m.windows)).0 f.1 in
    record {
      instance = b.0;
      context = c.0;
      statuses = each_place (statuses_allowed end) (λ cell. status_allowed end cell) None (λ cell cells. refl) refl m.statuses d.0;
      primary = f.0;
      sequences = each_place (sequences_allowed end) (λ cell. sequence_allowed end cell) None (λ cell cells. refl) refl m.sequences g.0;
      windows = each_place (windows_allowed end) (λ cell. window_allowed end cell) None (λ cell cells. refl) refl m.windows g.1;
    }

-- the options of a message, before others
abbrev control_then : Control → Options → Options
control_then m more =
    datalink_then m.datalink
    (instance_then m.instance
    (context_then m.context (statuses_then m.statuses (sequences_then m.sequences (windows_then m.windows more)))))

-- how many options at most
abbrev most : Control → ℕ
most m = 1 + (1 + (1 + (length m.statuses + (length m.sequences + length m.windows))))

-- nothing stated, and then part after part, in tables as long as the message's own
abbrev no_windows : Control → Control
no_windows m = with_windows m (replicate (length m.windows) None)

abbrev no_sequences : Control → Control
no_sequences m = with_sequences (no_windows m) (replicate (length m.sequences) None)

abbrev no_statuses : Control → Control
no_statuses m = with_statuses (no_sequences m) (replicate (length m.statuses) None)

abbrev no_context : Control → Control
no_context m = with_context (no_statuses m) None

abbrev no_instance : Control → Control
no_instance m = with_instance (no_context m) None

abbrev no_datalink : Control → Control
no_datalink m = with_datalink (no_instance m) None

blank_is : (m : Control) → ControlValue m → no_datalink m ≡ blank_control
unfolding blank_control control_stated
blank_is m value =
    rw (tabulate_same {A = Option ℕ} None value.statuses_long, tabulate_same {A = Option FlowSequence} None value.sequences_long, tabulate_same {A = Option Window} None value.windows_long)

standing : (x : Option ℕ) → stands x ≡ true → unstated_status x ≡ false
standing None e = sym e
standing (Some s) e = refl

module _ (end : End) (id : DatalinkId) (m : Control) (value : ControlValue m) (allowed : control_allowed end m ≡ true) where
  adds_control : Adds (control_sort end id) (most m) (control_then m) blank_control m
  unfolding control_unstated control_state
  adds_control =
      let S = control_sort end id in
      let parts = parts_allowed end m allowed in
      subst (λ (blank : Control). Adds (control_sort end id) (most m) (control_then m) blank m) (blank_is m value)
      (adds_both S (adds_datalink S (with_datalink (no_instance m)) refl (λ content. refl) (λ content. refl) m.datalink)
      (adds_both S (adds_instance end id (no_context m) m.instance parts.instance)
      (adds_both S (adds_context end id (no_statuses m) m.context parts.context)
      (adds_both S (adds_column id (status_column end (no_sequences m)) m.statuses value.statuses_long parts.statuses)
      (adds_both S
      (adds_column id (sequence_column end (no_windows m)) m.sequences value.sequences_long (λ n. (parts.sequences n, value.sequence_words n)))
      (adds_column id (window_column end m) m.windows value.windows_long (λ n. (parts.windows n, value.window_words n))))))))

  -- 9, 10 and 11 find nothing
  finishes : m.datalink ≡ Some id → (place : ℕ) → finish_of (control_sort end id) place m ≡ control_accepted m
  unfolding finish_of control_unstated
  finishes d place = go end (parts_allowed end m allowed).primary
    where
      go : (e : End) → primary_allowed e m.statuses ≡ true → finish_of (control_sort e id) place m ≡ control_accepted m
      go End.Ips p = rw (d, eq-eqb id.0 id.0 refl)
      go End.Radio p = rw (d, standing (get_or m.statuses 0 None) p, eq-eqb id.0 id.0 refl)

-- every option that is written is whole
pub control_whole : (end : End) (m : Control) → ControlValue m → control_allowed end m ≡ true → WholeOptions (control_options m)
unfolding control_options WholeOptions
control_whole end m value allowed = (adds_control end (record { 0 = 0 }) m value allowed).whole done tt

-- so that number 18 is given for a control message exactly where the output is shorter
pub control_short : (end : End) (m : Control) → ControlValue m → control_allowed end m ≡ true → length (control_written m) ≤ LONGEST-DATAGRAM
unfolding control_written control_options bytes
control_short end m value allowed =
    omega (arith, (adds_control end (record { 0 = 0 }) m value allowed).short done, value.statuses_long, value.sequences_long, value.windows_long)

pub control_round : (end : End) (id : DatalinkId) (m : Control) → ControlValue m → control_allowed end m ≡ true → m.datalink ≡ Some id
    → read_control end id (control_written m) ≡ control_accepted m
unfolding read_control control_written control_options judge WholeOptions
control_round end id m value allowed d =
    read_back (control_sort end id) (adds_control end id m value allowed) done tt CONTROL-HEADER refl refl (control_short end m value allowed) (control_accepted m)
    (finishes end id m value allowed d)
