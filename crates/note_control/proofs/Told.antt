-- What flat tables tell of a control message as it is read so far. Assumes nothing.
use Rattle.std.specs.Prelude.{Option, Some, None}
use Prim.Native.Nat.{ℕ, zero, suc, ◌+◌, ◌<◌}
use mathlib.Core.Path.{◌≡◌, refl, sym, ap, ◌∙◌}
use mathlib.Core.List.{List}
use mathlib.Core.Bool.{Bool, true, false, cond, not}
use native.Mathlib.Omega.{arith}
use native.Mathlib.Numerals.{add-one}
use borrow.Author.Tests.{eqb-true, eqb-false, eq-eqb, ne_eqb}
use lib.ListN.{length, get_or, set, length-set, replicate, length-replicate}
use lib.Seq.{get_or-set_same, get_or-set_other}
use lib.Dec.{eqb}
use Rattle.facts.proofs.Tables.{length_tabulate, each_tabulated}
use Rattle.quantity.specs.Limits.{CHANNEL-IDS}
use Rattle.quantity.specs.declared.count.DatalinkId.{DatalinkId}
use Rattle.quantity.specs.declared.count.FlowSequence.{FlowSequence}
use Rattle.quantity.specs.declared.count.LinkInstanceId.{LinkInstanceId}
use Rattle.quantity.specs.Refusals.{MISSING, OTHER-DATALINK}
use Rattle.meaning.specs.declared.message.ContextBytes.{ContextBytes}
use Rattle.meaning.specs.declared.message.Plane.{Plane}
use Rattle.meaning.specs.Kinds.{among, must_hold, CHANNEL-STATUS}
use Rattle.read_rules.specs.Sorts.{unstated_datalink, is_ours}
use Rattle.meaning.specs.declared.message.End.{End}
use Rattle.meaning.specs.declared.message.Window.{Window}
use Rattle.meaning.specs.declared.message.Control.{Control}
use Rattle.read_option.specs.declared.answer.Item.{Item}
use Rattle.read_option.specs.Stated.{control_stated}
use Rattle.read_rules.specs.declared.answer.Verdict.{Verdict}
use Rattle.read_control.specs.declared.ControlReading.{ControlReading}
use Rattle.read_control.specs.Message.{unstated_status, unstated_sequence, unstated_window, blank_control, control_accepted, control_refused}
use Rattle.read_control.proofs.Message.{Reached, seated, by_tests, lacking}
use Rattle.note_control.specs.declared.Noted.{Noted}
use Rattle.note_control.specs.Noted.{NotedBy}
use Rattle.note_control.specs.Codes.{code_status, code_window, window_tag, window_word}

-- m: what is stated so far; the tables tell the same of every channel
pub record Told (m : Control) (datalink : Option DatalinkId) (instance : Option (LinkInstanceId × ℕ)) (context : Option (ContextBytes × ℕ)) (statuses : List ℕ) (sequences : List Bool) (tags windows : List ℕ) : Type 0 where
  pub datalink_is : m.datalink ≡ datalink
  pub instance_is : m.instance ≡ instance
  pub context_is : m.context ≡ context
  pub status_is : (n : ℕ) → (get_or m.statuses n None) ≡ code_status (get_or statuses n 0)
  pub sequence_is : (n : ℕ) → unstated_sequence (get_or m.sequences n None) ≡ not (get_or sequences n false)
  pub window_is : (n : ℕ) → (get_or m.windows n None) ≡ code_window (get_or tags n 0) (get_or windows n 0)
  pub statuses_cells : length m.statuses ≡ CHANNEL-IDS
  pub sequences_cells : length m.sequences ≡ CHANNEL-IDS
  pub windows_cells : length m.windows ≡ CHANNEL-IDS
  pub statuses_long : length statuses ≡ CHANNEL-IDS
  pub sequences_long : length sequences ≡ CHANNEL-IDS
  pub tags_long : length tags ≡ CHANNEL-IDS
  pub windows_long : length windows ≡ CHANNEL-IDS

-- at a place of the datagram
pub record Judged (end : End) (id : DatalinkId) (s : List ℕ) (at : ℕ) (datalink : Option DatalinkId) (instance : Option (LinkInstanceId × ℕ)) (context : Option (ContextBytes × ℕ)) (statuses : List ℕ) (sequences : List Bool) (tags windows : List ℕ) : Type 0 where
  pub stated : Control
  pub reached : Reached end id s at stated
  pub told : Told stated datalink instance context statuses sequences tags windows

at_set : {A : Type 0} (xs : List A) (i n : ℕ) (x d : A) → i < length xs → get_or (set xs i x) n d ≡ cond (eqb n i) x (get_or xs n d)
at_set xs i n x d h = go (eqb n i) refl
  where
    go : (b : Bool) → eqb n i ≡ b → get_or (set xs i x) n d ≡ cond b x (get_or xs n d)
    go true e = rw (eqb-true n i e) (get_or-set_same xs i x d h)
    go false e = get_or-set_other xs i n x d (eqb-false n i e)

all_same : {A : Type 0} (n i : ℕ) (a : A) → get_or (replicate n a) i a ≡ a
all_same zero i a = refl
all_same (suc n) zero a = refl
all_same (suc n) (suc i) a = all_same n i a

-- ---- at the start nothing is told
pub told_nothing : Told blank_control None None None (replicate CHANNEL-IDS 0) (replicate CHANNEL-IDS false) (replicate CHANNEL-IDS 0) (replicate CHANNEL-IDS 0)
unfolding blank_control control_stated
told_nothing = record {
  datalink_is = refl;
  instance_is = refl;
  context_is = refl;
  status_is = λ n. each_tabulated (λ (cell : Option ℕ). cell ≡ None) None refl CHANNEL-IDS _ (λ k. refl) n ∙ sym (ap code_status (all_same CHANNEL-IDS n 0));
  sequence_is = λ n. ap unstated_sequence (each_tabulated (λ (cell : Option FlowSequence). cell ≡ None) None refl CHANNEL-IDS _ (λ k. refl) n) ∙ sym (ap not (all_same CHANNEL-IDS n false));
  window_is = λ n. each_tabulated (λ (cell : Option Window). cell ≡ None) None refl CHANNEL-IDS _ (λ k. refl) n ∙ sym (ap (λ k. code_window k (get_or (replicate CHANNEL-IDS 0) n 0)) (all_same CHANNEL-IDS n 0));
  statuses_cells = length_tabulate CHANNEL-IDS _;
  sequences_cells = length_tabulate CHANNEL-IDS _;
  windows_cells = length_tabulate CHANNEL-IDS _;
  statuses_long = length-replicate {A = ℕ} CHANNEL-IDS 0;
  sequences_long = length-replicate CHANNEL-IDS false;
  tags_long = length-replicate {A = ℕ} CHANNEL-IDS 0;
  windows_long = length-replicate {A = ℕ} CHANNEL-IDS 0;
}

window_code : (w : Option Window) → code_window (window_tag w) (window_word w) ≡ w
window_code None = refl
window_code (Some Window.Empty) = refl
window_code (Some (Window.Given word)) = refl

pub unstated_code : (code : ℕ) → unstated_status (code_status code) ≡ eqb code 0
unstated_code zero = refl
unstated_code (suc k) = sym (ne_eqb (suc k) 0 (λ e. omega arith))

unstated_tag : (tag word : ℕ) → unstated_window (code_window tag word) ≡ eqb tag 0
unstated_tag zero word = refl
unstated_tag (suc zero) word = refl
unstated_tag (suc (suc k)) word = sym (ne_eqb (suc (suc k)) 0 (λ e. omega arith))

module _ {m : Control} {datalink : Option DatalinkId} {instance : Option (LinkInstanceId × ℕ)} {context : Option (ContextBytes × ℕ)} {statuses : List ℕ} {sequences : List Bool} {tags windows : List ℕ}
    (t : Told m datalink instance context statuses sequences tags windows) where
  -- ---- what is stated of a channel already
  pub status_free : (n : ℕ) → get_or statuses n 0 ≡ 0 → unstated_status (get_or m.statuses n None) ≡ true
  status_free n e = rw (t.status_is n, unstated_code) (eq-eqb (get_or statuses n 0) 0 e)

  pub status_there : (n : ℕ) → (get_or statuses n 0 ≡ 0 → ⊥) → unstated_status (get_or m.statuses n None) ≡ false
  status_there n e = rw (t.status_is n, unstated_code) (ne_eqb (get_or statuses n 0) 0 e)

  pub window_free : (n : ℕ) → get_or tags n 0 ≡ 0 → unstated_window (get_or m.windows n None) ≡ true
  window_free n e = rw (t.window_is n, unstated_tag) (eq-eqb (get_or tags n 0) 0 e)

  pub window_there : (n : ℕ) → (get_or tags n 0 ≡ 0 → ⊥) → unstated_window (get_or m.windows n None) ≡ false
  window_there n e = rw (t.window_is n, unstated_tag) (ne_eqb (get_or tags n 0) 0 e)

  pub sequence_free : (n : ℕ) → get_or sequences n false ≡ false → unstated_sequence (get_or m.sequences n None) ≡ true
  sequence_free n e = t.sequence_is n ∙ ap not e

  pub sequence_there : (n : ℕ) → get_or sequences n false ≡ true → unstated_sequence (get_or m.sequences n None) ≡ false
  sequence_there n e = t.sequence_is n ∙ ap not e

  -- ---- one item more
  pub told_datalink : (d : DatalinkId) → Told (seated (Item.Datalink d) m) (Some d) instance context statuses sequences tags windows
  told_datalink d = record { datalink_is = refl; instance_is = t.instance_is; context_is = t.context_is; status_is = t.status_is; sequence_is = t.sequence_is; window_is = t.window_is; statuses_cells = t.statuses_cells; sequences_cells = t.sequences_cells; windows_cells = t.windows_cells; statuses_long = t.statuses_long; sequences_long = t.sequences_long; tags_long = t.tags_long; windows_long = t.windows_long }

  pub told_instance : (v : LinkInstanceId) (n : ℕ) → Told (seated (Item.Instance v n) m) datalink (Some (v, n)) context statuses sequences tags windows
  told_instance v n = record { datalink_is = t.datalink_is; instance_is = refl; context_is = t.context_is; status_is = t.status_is; sequence_is = t.sequence_is; window_is = t.window_is; statuses_cells = t.statuses_cells; sequences_cells = t.sequences_cells; windows_cells = t.windows_cells; statuses_long = t.statuses_long; sequences_long = t.sequences_long; tags_long = t.tags_long; windows_long = t.windows_long }

  pub told_context : (v : ContextBytes) (n : ℕ) → Told (seated (Item.Context v n) m) datalink instance (Some (v, n)) statuses sequences tags windows
  told_context v n = record { datalink_is = t.datalink_is; instance_is = t.instance_is; context_is = refl; status_is = t.status_is; sequence_is = t.sequence_is; window_is = t.window_is; statuses_cells = t.statuses_cells; sequences_cells = t.sequences_cells; windows_cells = t.windows_cells; statuses_long = t.statuses_long; sequences_long = t.sequences_long; tags_long = t.tags_long; windows_long = t.windows_long }

  -- the tests on the whole, by what the tables tell
  pub fault_told : (end : End) (id : DatalinkId) {number : ℕ} → number ≡ by_tests (unstated_datalink datalink) (cond (among CHANNEL-STATUS (must_hold Plane.Control end)) (unstated_status (code_status (get_or statuses 0 0))) false) (is_ours id datalink) MISSING 0 OTHER-DATALINK
      → number ≡ by_tests (unstated_datalink m.datalink) (lacking end m) (is_ours id m.datalink) MISSING 0 OTHER-DATALINK
  fault_told end id e = rw (t.datalink_is, t.status_is 0) e

  module _ (n v : ℕ) (inside : n < CHANNEL-IDS) where
    pub told_status : Told (seated (Item.Status n v) m) datalink instance context (set statuses n (v + 1)) sequences tags windows
    told_status = record { datalink_is = t.datalink_is; instance_is = t.instance_is; context_is = t.context_is; status_is = each; sequence_is = t.sequence_is; window_is = t.window_is; statuses_cells = length-set m.statuses n (Some v) ∙ t.statuses_cells; sequences_cells = t.sequences_cells; windows_cells = t.windows_cells; statuses_long = length-set statuses n (v + 1) ∙ t.statuses_long; sequences_long = t.sequences_long; tags_long = t.tags_long; windows_long = t.windows_long }
      where
        each : (k : ℕ) → (get_or (set m.statuses n (Some v)) k None) ≡ code_status (get_or (set statuses n (v + 1)) k 0)
        each k =
            rw (at_set m.statuses n k (Some v) None (omega (arith, t.statuses_cells)), at_set statuses n k (v + 1) 0 (omega (arith, t.statuses_long)))
            (go (eqb k n))
          where
            go : (b : Bool) → (cond b (Some v) (get_or m.statuses k None)) ≡ code_status (cond b (v + 1) (get_or statuses k 0))
            go true = rw (add-one v)
            go false = t.status_is k

  module _ (n : ℕ) (v : FlowSequence) (inside : n < CHANNEL-IDS) where
    pub told_sequence : Told (seated (Item.Sequence n v) m) datalink instance context statuses (set sequences n true) tags windows
    told_sequence = record { datalink_is = t.datalink_is; instance_is = t.instance_is; context_is = t.context_is; status_is = t.status_is; sequence_is = each; window_is = t.window_is; statuses_cells = t.statuses_cells; sequences_cells = length-set m.sequences n (Some v) ∙ t.sequences_cells; windows_cells = t.windows_cells; statuses_long = t.statuses_long; sequences_long = length-set sequences n true ∙ t.sequences_long; tags_long = t.tags_long; windows_long = t.windows_long }
      where
        each : (k : ℕ) → unstated_sequence (get_or (set m.sequences n (Some v)) k None) ≡ not (get_or (set sequences n true) k false)
        each k =
            rw (at_set m.sequences n k (Some v) None (omega (arith, t.sequences_cells)), at_set sequences n k true false (omega (arith, t.sequences_long)))
            (go (eqb k n))
          where
            go : (b : Bool) → unstated_sequence (cond b (Some v) (get_or m.sequences k None)) ≡ not (cond b true (get_or sequences k false))
            go true = refl
            go false = t.sequence_is k

  module _ (n : ℕ) (v : Option Window) (inside : n < CHANNEL-IDS) where
    pub told_window : Told (seated (Item.Window n v) m) datalink instance context statuses sequences (set tags n (window_tag v)) (set windows n (window_word v))
    told_window = record { datalink_is = t.datalink_is; instance_is = t.instance_is; context_is = t.context_is; status_is = t.status_is; sequence_is = t.sequence_is; window_is = each; statuses_cells = t.statuses_cells; sequences_cells = t.sequences_cells; windows_cells = length-set m.windows n v ∙ t.windows_cells; statuses_long = t.statuses_long; sequences_long = t.sequences_long; tags_long = length-set tags n (window_tag v) ∙ t.tags_long; windows_long = length-set windows n (window_word v) ∙ t.windows_long }
      where
        each : (k : ℕ) → (get_or (set m.windows n v) k None) ≡ code_window (get_or (set tags n (window_tag v)) k 0) (get_or (set windows n (window_word v)) k 0)
        each k =
            rw (at_set m.windows n k v None (omega (arith, t.windows_cells)), at_set tags n k (window_tag v) 0 (omega (arith, t.tags_long)), at_set windows n k (window_word v) 0 (omega (arith, t.windows_long)))
            (go (eqb k n))
          where
            go : (b : Bool) → (cond b v (get_or m.windows k None)) ≡ code_window (cond b (window_tag v) (get_or tags k 0)) (cond b (window_word v) (get_or windows k 0))
            go true = sym (window_code v)
            go false = t.window_is k

-- a refusal's verdict
pub refusal_is : {number place : ℕ} {whole : ControlReading} → control_refused number place ≡ whole → Verdict.Refused (record { number = number; place = place }) ≡ whole.verdict
unfolding control_refused
refusal_is e = ap (λ (r : ControlReading). r.verdict) e

-- a refused message as it is noted
pub unnoted_is : {number place : ℕ} {whole : ControlReading} {r : Noted} {statuses tags windows : List ℕ}
    → r ≡ record { verdict = Verdict.Refused (record { number = number; place = place }); instance = None; context = None }
    → control_refused number place ≡ whole → NotedBy whole r statuses tags windows
unnoted_is {number} {place} e f = rw e (record { verdict_is = refusal_is f; meant = tt })

-- an accepted one
pub noted_is : {m : Control} {whole : ControlReading} {datalink : Option DatalinkId} {instance : Option (LinkInstanceId × ℕ)} {context : Option (ContextBytes × ℕ)} {statuses : List ℕ} {sequences : List Bool} {tags windows : List ℕ}
    → Told m datalink instance context statuses sequences tags windows → control_accepted m ≡ whole
    → NotedBy whole (record { verdict = Verdict.Accepted; instance = instance; context = context }) statuses tags windows
unfolding control_accepted
noted_is t e = rw (← e) (record { verdict_is = refl; meant = record { instance_is = t.instance_is; context_is = t.context_is; tabled = record { status_is = t.status_is; window_is = t.window_is } } })
