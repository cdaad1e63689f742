-- A control message of either end: what its cells do, and its account. Assumes nothing.
use Rattle.quantity.specs.declared.count.FlowSequence.{FlowSequence}
use Rattle.std.specs.Prelude.{Some, Option, None}
use Prim.Native.Nat.{ℕ, ◌≤◌, ◌<◌}
use mathlib.Core.Path.{◌≡◌, refl}
use mathlib.Core.Logic.{◌↔◌}
use mathlib.Core.List.{List, ◌∷◌}
use mathlib.Core.Bool.{Bool, true, false, cond}
use lib.Dec.{eqb}
use lib.ListN.{length, get_or, drop}
use Rattle.facts.specs.Tables.{tabulate}
use Rattle.facts.proofs.Tests.{clash}
use Rattle.quantity.specs.declared.count.DatalinkId.{DatalinkId}
use Rattle.quantity.specs.Limits.{CHANNEL-IDS, LONGEST-DATAGRAM}
use Rattle.wire.specs.Numbers.{Octets, big_endian}
use Rattle.wire.specs.Options.{Options, done, cut, option, bytes}
use Rattle.meaning.specs.declared.message.End.{End}
use Rattle.meaning.specs.declared.message.End.TheVariants.{Ips, Radio}
use Rattle.meaning.specs.declared.message.Plane.TheVariants as planes
use Rattle.meaning.specs.declared.message.Window.{Window}
use Rattle.meaning.specs.Kinds.{among, may_hold, DATALINK-IDENTIFIER, LINK-INSTANCE, DATALINK-CONTEXT, CHANNEL-STATUS, FLOW-WINDOW, FLOW-SEQUENCE}
use Rattle.meaning.proofs.Amongst.{Each, amongst}
use Rattle.read_option.specs.Stated.{Table, datalink_from, instance_from, context_from, status_from, sequence_from, window_from, control_stated}
use Rattle.read_rules.specs.declared.answer.Verdict.{Verdict}
use Rattle.read_rules.specs.Sorts.{channel_of, unstated_datalink}
use Rattle.read_control.specs.Message.{unstated_instance, unstated_context, unstated_status, unstated_sequence, unstated_window, control_unstated, control_state, blank_control, control_refused, control_accepted, control_other, control_sort}
use Rattle.reader.specs.Header.{CURRENT-VERSION, version_of, flag_of, flag}
use Rattle.reader.specs.Readings.{read_control}
use Rattle.acceptance.specs.Account.{Ending, Accepts, control_meaning, Shuffled}
use Rattle.acceptance.proofs.Seats.{vacant, put}
use Rattle.acceptance.proofs.Tables.{vacant_is, row_is, set_row}
use Rattle.acceptance.proofs.Cells.{Cells}
use Rattle.acceptance.proofs.Account.{account}
use Rattle.acceptance.proofs.Shuffle.{Alike, others, status_same, reordered}
use Rattle.acceptance.proofs.Ours.{ours}

-- what holds of each type of a control message holds of each that an end's may hold
each_of : (end : End) (P : ℕ → Type 0) → P DATALINK-IDENTIFIER → P LINK-INSTANCE → P DATALINK-CONTEXT → P CHANNEL-STATUS → P FLOW-SEQUENCE → P FLOW-WINDOW
    → Each P (may_hold planes.Control end)
each_of Ips P d i c s q w = (d, (q, tt))
each_of Radio P d i c s q w = (d, (s, (i, (c, (w, tt)))))

window_stated_lem : (content : List ℕ) → unstated_window (window_from (Some content)) ≡ false
window_stated_lem content = go (eqb (length content) 1)
  where
    go : (b : Bool) → unstated_window (cond b (Some Window.Empty) (Some (Window.Given (record { 0 = big_endian (drop 1 content) })))) ≡ false
    go true = refl
    go false = refl

module _ (end : End) (τ : Table) where
  pub unstated : (kind : ℕ) → among kind (may_hold planes.Control end) ≡ true → (content : List ℕ) → channel_of planes.Control kind content < CHANNEL-IDS
      → control_unstated kind (channel_of planes.Control kind content) (control_stated τ) ≡ vacant (τ kind (channel_of planes.Control kind content))
  unfolding control_unstated control_stated
  unstated =
      amongst _ (may_hold planes.Control end)
      (each_of end _
      (λ c h. vacant_is (λ x. unstated_datalink (datalink_from x)) refl (λ d. refl) (τ DATALINK-IDENTIFIER 0))
      (λ c h. vacant_is (λ x. unstated_instance (instance_from x)) refl (λ d. refl) (τ LINK-INSTANCE 0))
      (λ c h. vacant_is (λ x. unstated_context (context_from x)) refl (λ d. refl) (τ DATALINK-CONTEXT 0))
      (λ c h. row_is (λ cell. unstated_status cell) (λ x. status_from x) refl (λ d. refl) CHANNEL-IDS (τ CHANNEL-STATUS) (get_or c 0 0) None h)
      (λ c h. row_is (λ cell. unstated_sequence cell) (λ x. sequence_from x) refl (λ d. refl) CHANNEL-IDS (τ FLOW-SEQUENCE) (get_or c 0 0) None h)
      (λ c h. row_is (λ cell. unstated_window cell) (λ x. window_from x) refl window_stated_lem CHANNEL-IDS (τ FLOW-WINDOW) (get_or c 0 0) None h))

  pub state : (kind : ℕ) → among kind (may_hold planes.Control end) ≡ true → (content : List ℕ)
      → control_state kind (channel_of planes.Control kind content) content (control_stated τ) ≡ control_stated (put kind (channel_of planes.Control kind content) content τ)
  unfolding control_state control_stated
  state =
      amongst _ (may_hold planes.Control end)
      (each_of end _
      (λ c. refl)
      (λ c. refl)
      (λ c. refl)
      (λ c. rw (set_row {A = Option ℕ} CHANNEL-IDS (λ x. status_from x) (τ CHANNEL-STATUS) (get_or c 0 0) c))
      (λ c. rw (set_row {A = Option FlowSequence} CHANNEL-IDS (λ x. sequence_from x) (τ FLOW-SEQUENCE) (get_or c 0 0) c))
      (λ c. rw (set_row {A = Option Window} CHANNEL-IDS (λ x. window_from x) (τ FLOW-WINDOW) (get_or c 0 0) c)))

-- tables that differ in unused bits alone state the same
control_alike : (τ σ : Table) → Alike τ σ → control_stated τ ≡ control_stated σ
unfolding control_stated
control_alike τ σ alike = λ i. record {
  datalink = datalink_from (others τ σ alike DATALINK-IDENTIFIER 0 refl i);
  instance = instance_from (others τ σ alike LINK-INSTANCE 0 refl i);
  context = context_from (others τ σ alike DATALINK-CONTEXT 0 refl i);
  statuses = tabulate CHANNEL-IDS (λ n. status_same τ σ alike n i);
  sequences = tabulate CHANNEL-IDS (λ n. sequence_from (others τ σ alike FLOW-SEQUENCE n refl i));
  windows = tabulate CHANNEL-IDS (λ n. window_from (others τ σ alike FLOW-WINDOW n refl i));
}

module _ (end : End) (id : DatalinkId) where
  unfoldable pub control_cells : Cells (control_sort end id) id control_stated
  unfolding blank_control control_stated control_refused control_accepted control_other
  control_cells = record {
    verdict = λ r. r.verdict;
    accepted = λ m. refl;
    refused = λ number place. refl;
    other = refl;
    blank = refl;
    unstated = unstated end;
    state = state end;
    opens = λ τ. ((λ o. refl), λ e k q. clash q);
    paired = λ τ. ((λ p. refl), λ e. tt);
    ours = λ τ. ours id (datalink_from (τ DATALINK-IDENTIFIER 0));
  }

  -- A control message is accepted exactly where the account allows it, and the answer is its meaning.
  pub control_account : (s : List ℕ) → Octets s
      → ((read_control end id s).verdict ≡ Verdict.Accepted ↔ (f : Options) × Accepts planes.Control end id s f)
      × ((f : Options) → Accepts planes.Control end id s f → read_control end id s ≡ control_accepted (control_meaning end f))
  unfolding read_control control_cells
  control_account = account (control_sort end id) id control_stated control_cells

  -- Order, unused bits and skipped options carry no meaning.
  pub control_reordered : (s : List ℕ) (f g : Options) (header : ℕ) → Accepts planes.Control end id s f → Shuffled planes.Control end f g
      → version_of header ≡ CURRENT-VERSION → flag_of header ≡ flag planes.Control → length (header ∷ bytes g) ≤ LONGEST-DATAGRAM
      → read_control end id (header ∷ bytes g) ≡ read_control end id s
  unfolding read_control
  control_reordered s f g header a x = reordered (control_sort end id) id control_stated control_cells control_alike s f g header a x (any_order g)
    where
      any_order : (f : Options) → Ending planes.Control f
      any_order done = tt
      any_order (cut rest) = tt
      any_order (option kind content f) = ((λ e. clash e), any_order f)
