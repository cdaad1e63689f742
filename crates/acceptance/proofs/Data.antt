-- A data message of either end: what its cells do, its account, and its packet. Assumes nothing.
use Rattle.std.specs.Prelude.{Option, Some, None}
use Prim.Native.Nat.{ℕ, ◌≤◌}
use mathlib.Core.Path.{◌≡◌, refl, sym, ◌∙◌}
use mathlib.Core.Logic.{◌↔◌}
use mathlib.Core.List.{List, ◌∷◌}
use mathlib.Core.Bool.{Bool, true, false, cond, not}
use borrow.Author.Tests.{eq-eqb, eqb-true, eqb-false, ne_eqb}
use lib.Dec.{eqb}
use lib.ListN.{length, get_or}
use Rattle.facts.proofs.Tests.{clash}
use Rattle.quantity.specs.declared.count.DatalinkId.{DatalinkId}
use Rattle.quantity.specs.Limits.{LONGEST-DATAGRAM}
use Rattle.wire.specs.Numbers.{Octets}
use Rattle.wire.specs.Options.{Options, done, cut, option, bytes}
use Rattle.meaning.specs.declared.message.End.{End}
use Rattle.meaning.specs.declared.message.End.TheVariants.{Ips, Radio}
use Rattle.meaning.specs.declared.message.Plane.TheVariants as planes
use Rattle.meaning.specs.Kinds.{among, may_hold, stands_last, DATALINK-IDENTIFIER, PACKET-DATA, CHANNEL-IDENTIFIER, EXPIRATION-TIME, FLOW-SEQUENCE}
use Rattle.meaning.proofs.Amongst.{Each, amongst}
use Rattle.read_option.specs.Stated.{Table, datalink_from, channel_from, expiration_from, counted_from, data_stated}
use Rattle.read_rules.specs.declared.answer.Verdict.{Verdict}
use Rattle.read_rules.specs.Sorts.{channel_of, unstated_datalink}
use Rattle.read_data.specs.Message.{unstated_counted, unstated_channel, unstated_expiration, Gathered, given, data_unstated, data_state, pairs, blank_data, data_refused, data_accepted, data_other, data_sort}
use Rattle.read_data.specs.Packet.{packet_in}
use Rattle.reader.specs.Header.{CURRENT-VERSION, version_of, flag_of, flag}
use Rattle.reader.specs.Readings.{read_data, packet_of}
use Rattle.acceptance.specs.Account.{speaks, the, table_of, Ending, SameChannel, Accepts, data_meaning, Shuffled}
use Rattle.acceptance.proofs.Lists.{last_speaks}
use Rattle.acceptance.proofs.Seats.{vacant, put}
use Rattle.acceptance.proofs.Tables.{vacant_is}
use Rattle.acceptance.proofs.Cells.{Cells}
use Rattle.acceptance.proofs.Account.{account}
use Rattle.acceptance.proofs.Own.{own}
use Rattle.acceptance.proofs.Shuffle.{Alike, others, tables_alike, still_allowed, reordered}
use Rattle.acceptance.proofs.Ours.{ours}

-- what a data message states, and whether its packet stands
abbrev pub gathered : Table → Gathered
gathered τ = record { message = data_stated τ; packet = given (τ PACKET-DATA 0) }

-- what holds of each type of a data message holds of each that an end's may hold
each_of : (end : End) (P : ℕ → Type 0) → P DATALINK-IDENTIFIER → P PACKET-DATA → P CHANNEL-IDENTIFIER → P EXPIRATION-TIME → P FLOW-SEQUENCE → Each P (may_hold planes.Data end)
each_of Ips P d p c x q = (d, (p, (c, (x, (q, tt)))))
each_of Radio P d p c x q = (d, (p, (c, tt)))

module _ (end : End) (τ : Table) where
  pub unstated : (kind : ℕ) → among kind (may_hold planes.Data end) ≡ true → (content : List ℕ)
      → data_unstated kind (channel_of planes.Data kind content) (gathered τ) ≡ vacant (τ kind (channel_of planes.Data kind content))
  unfolding data_unstated data_stated
  unstated =
      amongst _ (may_hold planes.Data end)
      (each_of end _
      (λ c. vacant_is (λ x. unstated_datalink (datalink_from x)) refl (λ d. refl) (τ DATALINK-IDENTIFIER 0))
      (λ c. vacant_is (λ x. not (given x)) refl (λ d. refl) (τ PACKET-DATA 0))
      (λ c. vacant_is (λ x. unstated_channel (channel_from x)) refl (λ d. refl) (τ CHANNEL-IDENTIFIER 0))
      (λ c. vacant_is (λ x. unstated_expiration (expiration_from x)) refl (λ d. refl) (τ EXPIRATION-TIME 0))
      (λ c. vacant_is (λ x. unstated_counted (counted_from x)) refl (λ d. refl) (τ FLOW-SEQUENCE 0)))

  pub state : (kind : ℕ) → among kind (may_hold planes.Data end) ≡ true → (content : List ℕ)
      → data_state kind (channel_of planes.Data kind content) content (gathered τ) ≡ gathered (put kind (channel_of planes.Data kind content) content τ)
  unfolding data_state data_stated
  state = amongst _ (may_hold planes.Data end) (each_of end _ (λ c. refl) (λ c. refl) (λ c. refl) (λ c. refl) (λ c. refl))

pub not_given : (x : Option (List ℕ)) → given x ≡ false → x ≡ None
not_given None e = refl
not_given (Some content) e = clash (sym e)

-- 10, as it is tested and as the account says it
pub same_channel : (sequence identifier : Option (List ℕ)) → SameChannel sequence identifier ↔ pairs (counted_from sequence) (channel_from identifier) ≡ true
same_channel None identifier = ((λ p. refl), λ e. tt)
same_channel (Some sequence) None = ((λ p. absurd p), λ e. clash e)
same_channel (Some sequence) (Some identifier) = (eq-eqb (get_or sequence 0 0) (get_or identifier 0 0), eqb-true (get_or sequence 0 0) (get_or identifier 0 0))

-- tables that differ in unused bits alone state the same
data_alike : (τ σ : Table) → Alike τ σ → gathered τ ≡ gathered σ
unfolding data_stated
data_alike τ σ alike = λ i. record {
  message = record {
    datalink = datalink_from (others τ σ alike DATALINK-IDENTIFIER 0 refl i);
    sequence = counted_from (others τ σ alike FLOW-SEQUENCE 0 refl i);
    channel = channel_from (others τ σ alike CHANNEL-IDENTIFIER 0 refl i);
    expiration = expiration_from (others τ σ alike EXPIRATION-TIME 0 refl i);
  };
  packet = given (others τ σ alike PACKET-DATA 0 refl i);
}

module _ (end : End) (id : DatalinkId) where
  unfoldable pub data_cells : Cells (data_sort end id) id gathered
  unfolding blank_data data_stated data_refused data_accepted data_other
  data_cells = record {
    verdict = λ r. r.verdict;
    accepted = λ m. refl;
    refused = λ number place. refl;
    other = refl;
    blank = refl;
    unstated = λ τ kind a content h. unstated end τ kind a content;
    state = state end;
    opens = λ τ. ((λ o. rw (o PACKET-DATA refl)), λ e. amongst _ (stands_last planes.Data) (not_given (τ PACKET-DATA 0) e, tt));
    paired = λ τ. same_channel (τ FLOW-SEQUENCE 0) (τ CHANNEL-IDENTIFIER 0);
    ours = λ τ. ours id (datalink_from (τ DATALINK-IDENTIFIER 0));
  }

  -- A data message is accepted exactly where the account allows it, and the answer is its meaning.
  pub data_account : (s : List ℕ) → Octets s
      → ((read_data end id s).verdict ≡ Verdict.Accepted ↔ (f : Options) × Accepts planes.Data end id s f)
      × ((f : Options) → Accepts planes.Data end id s f → read_data end id s ≡ record { verdict = Verdict.Accepted; message = data_meaning end f })
  unfolding read_data data_cells data_accepted
  data_account = account (data_sort end id) id gathered data_cells

  -- Packet Data speaks for no channel
  packet_speaks : (kind : ℕ) (content : List ℕ) → speaks planes.Data end PACKET-DATA 0 kind content ≡ eqb kind PACKET-DATA
  packet_speaks kind content = go (eqb kind PACKET-DATA) refl
    where
      go : (b : Bool) → eqb kind PACKET-DATA ≡ b → speaks planes.Data end PACKET-DATA 0 kind content ≡ b
      go true e = rw (eqb-true kind PACKET-DATA e, last_speaks planes.Data end content PACKET-DATA refl)
      go false e = rw (ne_eqb PACKET-DATA kind (λ q. eqb-false kind PACKET-DATA e (sym q)))

  packet_in_lem : (f : Options) → (the planes.Data end PACKET-DATA 0 f ≡ None → ⊥) → the planes.Data end PACKET-DATA 0 f ≡ Some (packet_in f)
  unfolding the packet_in
  packet_in_lem done h = absurd (h refl)
  packet_in_lem (cut rest) h = absurd (h refl)
  packet_in_lem (option kind content f) h = rw packet_speaks (go (eqb kind PACKET-DATA) (packet_in_lem f) (rw packet_speaks at h))
    where
      go : (b : Bool) → ((the planes.Data end PACKET-DATA 0 f ≡ None → ⊥) → the planes.Data end PACKET-DATA 0 f ≡ Some (packet_in f))
          → (cond b (Some content) (the planes.Data end PACKET-DATA 0 f) ≡ None → ⊥)
          → cond b (Some content) (the planes.Data end PACKET-DATA 0 f) ≡ Some (cond b content (packet_in f))
      go true later q = refl
      go false later q = later q

  -- The packet handed back is the content of the one Packet Data.
  pub data_packet : (s : List ℕ) (f : Options) → Accepts planes.Data end id s f → the planes.Data end PACKET-DATA 0 f ≡ Some (packet_of s)
  unfolding packet_of
  data_packet s f a = packet_in_lem f a.filled.1.0 ∙ rw (own planes.Data end id s f a)

  -- Order, unused bits and skipped options carry no meaning.
  pub data_reordered : (s : List ℕ) (f g : Options) (header : ℕ) → Accepts planes.Data end id s f → Shuffled planes.Data end f g → Ending planes.Data g
      → version_of header ≡ CURRENT-VERSION → flag_of header ≡ flag planes.Data → length (header ∷ bytes g) ≤ LONGEST-DATAGRAM
      → (read_data end id (header ∷ bytes g) ≡ read_data end id s) × (packet_of (header ∷ bytes g) ≡ packet_of s)
  unfolding read_data
  data_reordered s f g header a x d v p h =
      let b = still_allowed planes.Data end id s f g header a x d v p h in
      let e : the planes.Data end PACKET-DATA 0 f ≡ the planes.Data end PACKET-DATA 0 g =
      others (table_of planes.Data end f) (table_of planes.Data end g) (tables_alike planes.Data end id s f g a x) PACKET-DATA 0 refl in
      (reordered (data_sort end id) id gathered data_cells data_alike s f g header a x d v p h, cc (data_packet s f a, data_packet (header ∷ bytes g) g b))
