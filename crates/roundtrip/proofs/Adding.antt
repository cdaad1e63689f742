-- Options that are put before others, and what a reader of any sort of message makes of them, wherever they stand. Assumes nothing.
use Rattle.std.specs.Prelude.{Option, Some, None}
use Rattle.quantity.specs.declared.count.DatalinkId.{DatalinkId}
use Prim.Native.Nat.{ℕ, suc, ◌+◌, ◌*◌, ◌≤◌}
use mathlib.Core.Path.{◌≡◌, refl, ◌∙◌}
use mathlib.Core.List.{List, [], ◌∷◌}
use mathlib.Core.Bool.{true, false}
use native.Mathlib.Omega.{arith}
use borrow.Author.Tests.{le-ltb, ne_eqb, eq-eqb}
use lib.ListN.{length, length-append}
use lib.Dec.{eqb, lit≤}
use Rattle.quantity.specs.Limits.{LONGEST-DATAGRAM, LONGEST-NAME}
use Rattle.wire.specs.Options.{Options, option, bytes, split, WholeOptions}
use Rattle.wire.proofs.Options.{split_bytes, option_length}
use Rattle.meaning.specs.declared.message.End.{End}
use Rattle.meaning.specs.declared.message.Plane.{Plane}
use Rattle.meaning.specs.Kinds.{among, known, length_listed, value_listed, may_hold, DATALINK-IDENTIFIER, PACKET-DATA}
use Rattle.read_option.specs.Stated.{datalink_from}
use Rattle.read_rules.specs.Judging.{next, judge}
use Rattle.read_rules.specs.Sorts.{Sort, fault_of, channel_of, step_of, rules_of}
use Rattle.read_data.specs.Packet.{packet_in}
use Rattle.reader.specs.Header.{read_with, version_of, flag_of, flag, CURRENT-VERSION}
use Rattle.write_option.specs.Parts.{datalink_then}

-- the longest option but Packet Data: a frame, and a Link Instance or a Context
abbrev pub LONGEST-OPTION : ℕ
LONGEST-OPTION = 3 + LONGEST-NAME

-- every message may hold a Datalink Identifier
datalink_may_stand : (plane : Plane) (end : End) → among DATALINK-IDENTIFIER (may_hold plane end) ≡ true
datalink_may_stand Plane.Control End.Ips = refl
datalink_may_stand Plane.Control End.Radio = refl
datalink_may_stand Plane.Data End.Ips = refl
datalink_may_stand Plane.Data End.Radio = refl

module _ {A B : Type 0} (S : Sort A B) where
  -- from what is stated so far these options read as an answer, at any place
  abbrev pub Reads : Options → A → B → Type 0
  Reads options m answer = (place : ℕ) → judge (rules_of S) options place m ≡ answer

  -- an option that passes 8, 6, 4, 5 and 7 where m is stated, and m' with it
  pub record Taken (kind : ℕ) (content : List ℕ) (m m' : A) : Type 0 where
    pub opened : S.closed m ≡ false
    pub is_known : among kind known ≡ true
    pub may_stand : among kind (may_hold S.plane S.end) ≡ true
    pub length_listed_lem : length_listed kind (length content) ≡ true
    pub value_listed_lem : value_listed kind content ≡ true
    pub is_free : S.unstated kind (channel_of S.plane kind content) m ≡ true
    pub states : S.state kind (channel_of S.plane kind content) content m ≡ m'

  step_taken : {kind : ℕ} {content : List ℕ} {m m' : A} → Taken kind content m m' → step_of S kind content m ≡ next m'
  unfolding step_of fault_of
  step_taken t = simp (t.opened, t.is_known, t.may_stand, t.length_listed_lem, t.value_listed_lem, t.is_free, t.states)

  pub reads_option : {kind : ℕ} {content : List ℕ} {m m' : A} → Taken kind content m m' → (more : Options) (answer : B) → Reads more m' answer
      → Reads (option kind content more) m answer
  unfolding judge
  reads_option {content} t more answer k place = rw (step_taken t) (k (place + (3 + length content)))

  -- n options at most, none of them Packet Data, put before others: a reader that comes to them with m goes on behind them with m'
  pub record Adds (n : ℕ) (put : Options → Options) (m m' : A) : Type 0 where
    pub reads : (more : Options) (answer : B) → Reads more m' answer → Reads (put more) m answer
    pub whole : (more : Options) → WholeOptions more → WholeOptions (put more)
    pub short : (more : Options) → length (bytes (put more)) ≤ n * LONGEST-OPTION + length (bytes more)
    pub no_packet : (more : Options) → packet_in (put more) ≡ packet_in more

  pub adds_none : (n : ℕ) (m : A) → Adds n (λ more. more) m m
  adds_none n m = record { reads = λ more answer k. k; whole = λ more w. w; short = λ more. omega arith; no_packet = λ more. refl }

  pub adds_option : {kind : ℕ} {content : List ℕ} {m m' : A} → Taken kind content m m' → length content ≤ LONGEST-NAME → eqb kind PACKET-DATA ≡ false
      → Adds 1 (option kind content) m m'
  unfolding WholeOptions bytes packet_in
  adds_option t h e = record {
    reads = reads_option t;
    whole = λ more w. (omega arith, w);
    short = λ more. rw (length-append, option_length) (omega arith);
    no_packet = λ more. rw e;
  }

  pub adds_both : {n k : ℕ} {p q : Options → Options} {m m' m'' : A} → Adds n p m m' → Adds k q m' m'' → Adds (n + k) (λ more. p (q more)) m m''
  adds_both {q} a b = record {
    reads = λ more answer r. a.reads (q more) answer (b.reads more answer r);
    whole = λ more w. a.whole (q more) (b.whole more w);
    short = λ more. omega (arith, a.short (q more), b.short more);
    no_packet = λ more. a.no_packet (q more) ∙ b.no_packet more;
  }

  -- a Datalink Identifier: `holds` is what is stated with it
  pub adds_datalink : (holds : Option DatalinkId → A) → S.closed (holds None) ≡ false
      → ((content : List ℕ) → S.unstated DATALINK-IDENTIFIER (channel_of S.plane DATALINK-IDENTIFIER content) (holds None) ≡ true)
      → ((content : List ℕ) → S.state DATALINK-IDENTIFIER (channel_of S.plane DATALINK-IDENTIFIER content) content (holds None) ≡ holds (datalink_from (Some content)))
      → (d : Option DatalinkId) → Adds 1 (datalink_then d) (holds None) (holds d)
  unfolding length_listed value_listed
  adds_datalink holds o f s None = adds_none 1 (holds None)
  adds_datalink holds o f s (Some d) =
      adds_option
      (record {
        opened = o;
        is_known = refl;
        may_stand = datalink_may_stand S.plane S.end;
        length_listed_lem = refl;
        value_listed_lem = refl;
        is_free = f (d.0 ∷ []);
        states = s (d.0 ∷ []);
      })
      (lit≤ tt) refl

  -- options from nothing stated to m, and the last ones behind them
  module _ {n : ℕ} {put : Options → Options} {m : A} (a : Adds n put S.blank m) (last : Options) (w : WholeOptions last) where
    pub split_written : split (bytes (put last)) ≡ put last
    split_written = split_bytes (put last) (a.whole last w)

    pub read_back : (header : ℕ) → version_of header ≡ CURRENT-VERSION → flag_of header ≡ flag S.plane → length (header ∷ bytes (put last)) ≤ LONGEST-DATAGRAM
        → (answer : B) → Reads last m answer → read_with (rules_of S) (header ∷ bytes (put last)) ≡ answer
    unfolding read_with
    read_back header v f h answer k =
        let size : ℕ = suc (length (bytes (put last))) in
        rw (le-ltb LONGEST-DATAGRAM size h, ne_eqb size 0 (λ e. omega arith), eq-eqb (version_of header) CURRENT-VERSION v, eq-eqb (flag_of header) (flag S.plane) f, split_written)
        (a.reads last answer k 1)
