-- A control message that is accepted: what its options state may be written, and is a value. Assumes nothing.
use Rattle.std.specs.Prelude.{Option, Some, None}
use Prim.Native.Nat.{ℕ, ◌%◌, ◌^◌}
use mathlib.Core.Path.{◌≡◌, refl}
use mathlib.Core.List.{List, [], ◌∷◌}
use mathlib.Core.Bool.{Bool, true, false, cond, ◌&&◌, true≢false}
use native.Mathlib.Omega.{arith}
use borrow.Author.Tests.{eqb-true, lt-ltb, le-leb}
use lib.ListN.{length, get_or, drop}
use lib.Dec.{eqb, lit<}
use Rattle.facts.specs.Tables.{tabulate}
use Rattle.facts.proofs.Tables.{length_tabulate, all_places, each_tabulated, get_d_tabulate}
use Rattle.quantity.specs.declared.count.DatalinkId.{DatalinkId}
use Rattle.quantity.specs.Limits.{CHANNEL-IDS, HIGHEST-STATUS}
use Rattle.wire.specs.Numbers.{Octets, big_endian}
use Rattle.wire.specs.Options.{Options}
use Rattle.wire.proofs.Numbers.{big_endian_below}
use Rattle.meaning.specs.declared.message.End.{End}
use Rattle.meaning.specs.declared.message.Plane.TheVariants as planes
use Rattle.meaning.specs.declared.message.Window.{Window}
use Rattle.meaning.specs.Kinds.{among, known, length_listed, must_hold, LINK-INSTANCE, DATALINK-CONTEXT, CHANNEL-STATUS, FLOW-WINDOW, FLOW-SEQUENCE}
use Rattle.meaning.proofs.Amongst.{amongst}
use Rattle.read_option.specs.Stated.{Table, instance_from, context_from, status_from, sequence_from, window_from, control_stated}
use Rattle.acceptance.specs.Account.{table_of, Filled, Accepts, control_meaning}
use Rattle.writable.specs.Allowed.{may, fits_length, instance_allowed, context_allowed, status_allowed, statuses_allowed, stands, primary_allowed, sequence_allowed, sequences_allowed, window_allowed, windows_allowed, control_allowed}
use Rattle.roundtrip.specs.Values.{SequenceWord, WindowWord, ControlValue}
use Rattle.roundtrip.proofs.Held.{Held, Holds, word_behind, table_holds}

-- ---- the parts of a control message, each from what an option holds

module _ (end : End) where
  spelled_allowed : (kind : ℕ) (content : List ℕ) → Held planes.Control end kind content
      → may planes.Control end kind && fits_length kind (big_endian content) (length content) ≡ true
  spelled_allowed kind content h = rw (h.may_stand, h.length_listed_lem) (lt-ltb (big_endian content) (256 ^ length content) (big_endian_below content h.octets))

  instance_allowed_lem : (x : Option (List ℕ)) → Holds planes.Control end LINK-INSTANCE x → instance_allowed end (instance_from x) ≡ true
  instance_allowed_lem None h = refl
  instance_allowed_lem (Some content) h = spelled_allowed LINK-INSTANCE content h

  context_allowed_lem : (x : Option (List ℕ)) → Holds planes.Control end DATALINK-CONTEXT x → context_allowed end (context_from x) ≡ true
  context_allowed_lem None h = refl
  context_allowed_lem (Some content) h = spelled_allowed DATALINK-CONTEXT content h

  status_allowed_lem : (x : Option (List ℕ)) → Holds planes.Control end CHANNEL-STATUS x → status_allowed end (status_from x) ≡ true
  status_allowed_lem None h = refl
  status_allowed_lem (Some content) h = rw h.may_stand (le-leb (get_or content 1 0 % 16) HIGHEST-STATUS (omega arith))

  sequence_allowed_lem : (x : Option (List ℕ)) → Holds planes.Control end FLOW-SEQUENCE x → sequence_allowed end (sequence_from x) ≡ true
  sequence_allowed_lem None h = refl
  sequence_allowed_lem (Some content) h = h.may_stand

  sequence_word : (x : Option (List ℕ)) → Holds planes.Control end FLOW-SEQUENCE x → SequenceWord (sequence_from x)
  unfolding length_listed
  sequence_word None h = tt
  sequence_word (Some content) h = word_behind content (eqb-true (length content) 5 h.length_listed_lem) h.octets

  window_allowed_lem : (x : Option (List ℕ)) → Holds planes.Control end FLOW-WINDOW x → window_allowed end (window_from x) ≡ true
  window_allowed_lem None h = refl
  window_allowed_lem (Some content) h = go (eqb (length content) 1)
    where
      go : (b : Bool) → window_allowed end (cond b (Some Window.Empty) (Some (Window.Given (record { 0 = big_endian (drop 1 content) })))) ≡ true
      go true = h.may_stand
      go false = h.may_stand

  window_word_lem : (x : Option (List ℕ)) → Holds planes.Control end FLOW-WINDOW x → WindowWord (window_from x)
  unfolding length_listed
  window_word_lem None h = tt
  window_word_lem (Some content) h = go (eqb (length content) 1) refl (amongst (λ n. eqb n 1 ≡ false → n ≡ 5) (1 ∷ 5 ∷ []) ((λ e. absurd (true≢false e)), ((λ e. refl), tt)) (length content) h.length_listed_lem)
    where
      go : (b : Bool) → eqb (length content) 1 ≡ b → (eqb (length content) 1 ≡ false → length content ≡ 5)
          → WindowWord (cond b (Some Window.Empty) (Some (Window.Given (record { 0 = big_endian (drop 1 content) }))))
      go true e five = tt
      go false e five = word_behind content (five e) h.octets

-- channel 0 has a status where one must stand
stated_stands : (x : Option (List ℕ)) → (x ≡ None → ⊥) → stands (status_from x) ≡ true
stated_stands None h = absurd (h refl)
stated_stands (Some content) h = refl

primary_allowed_lem : (end : End) (τ : Table) → Filled (must_hold planes.Control end) τ
    → primary_allowed end (tabulate CHANNEL-IDS (λ n. status_from (τ CHANNEL-STATUS n))) ≡ true
primary_allowed_lem End.Ips τ filled = refl
primary_allowed_lem End.Radio τ filled =
    rw (get_d_tabulate {A = Option ℕ} CHANNEL-IDS (λ n. status_from (τ CHANNEL-STATUS n)) 0 None (lit< tt))
    (stated_stands (τ CHANNEL-STATUS 0) filled.1.0)

-- ---- a control message

module _ (end : End) (id : DatalinkId) (s : List ℕ) (o : Octets s) (f : Options) (a : Accepts planes.Control end id s f) where
  abbrev stated : Table
  stated = table_of planes.Control end f

  holds : (kind channel : ℕ) → among kind known ≡ true → Holds planes.Control end kind (stated kind channel)
  holds kind channel k = table_holds planes.Control end kind channel k id s f o a

  pub control_allowed_lem : control_allowed end (control_meaning end f) ≡ true
  unfolding control_allowed control_stated statuses_allowed sequences_allowed windows_allowed
  control_allowed_lem =
      rw (
        a.ours,
        instance_allowed_lem end (stated LINK-INSTANCE 0) (holds LINK-INSTANCE 0 refl),
        context_allowed_lem end (stated DATALINK-CONTEXT 0) (holds DATALINK-CONTEXT 0 refl),
        all_places (statuses_allowed end) (λ cell. status_allowed end cell) refl (λ cell cells. refl) CHANNEL-IDS
            (λ n. status_from (stated CHANNEL-STATUS n)) (λ n. status_allowed_lem end (stated CHANNEL-STATUS n) (holds CHANNEL-STATUS n refl)),
        primary_allowed_lem end stated a.filled,
        all_places (sequences_allowed end) (λ cell. sequence_allowed end cell) refl (λ cell cells. refl) CHANNEL-IDS
            (λ n. sequence_from (stated FLOW-SEQUENCE n)) (λ n. sequence_allowed_lem end (stated FLOW-SEQUENCE n) (holds FLOW-SEQUENCE n refl)),
        all_places (windows_allowed end) (λ cell. window_allowed end cell) refl (λ cell cells. refl) CHANNEL-IDS
            (λ n. window_from (stated FLOW-WINDOW n)) (λ n. window_allowed_lem end (stated FLOW-WINDOW n) (holds FLOW-WINDOW n refl)),
      )

  pub control_value : ControlValue (control_meaning end f)
  unfolding control_stated
  control_value = record {
    statuses_long = length_tabulate CHANNEL-IDS (λ n. status_from (stated CHANNEL-STATUS n));
    sequences_long = length_tabulate CHANNEL-IDS (λ n. sequence_from (stated FLOW-SEQUENCE n));
    windows_long = length_tabulate CHANNEL-IDS (λ n. window_from (stated FLOW-WINDOW n));
    sequence_words = each_tabulated (λ cell. SequenceWord cell) None tt CHANNEL-IDS (λ n. sequence_from (stated FLOW-SEQUENCE n))
        (λ n. sequence_word end (stated FLOW-SEQUENCE n) (holds FLOW-SEQUENCE n refl));
    window_words = each_tabulated (λ cell. WindowWord cell) None tt CHANNEL-IDS (λ n. window_from (stated FLOW-WINDOW n))
        (λ n. window_word_lem end (stated FLOW-WINDOW n) (holds FLOW-WINDOW n refl));
  }
