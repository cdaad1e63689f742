-- A reader whose cells do what they must accepts exactly what the account allows, and answers with what the options state. Assumes nothing.
use Prim.Native.Nat.{ℕ, suc, ◌+◌, ◌≤◌}
use mathlib.Core.Path.{◌≡◌, refl, ap, ◌∙◌}
use mathlib.Core.Logic.{◌↔◌}
use mathlib.Core.List.{List, ◌∷◌}
use native.Mathlib.Omega.{arith}
use borrow.Author.Tests.{le-ltb, eq-eqb, ne_eqb}
use lib.ListN.{length, drop}
use Rattle.facts.proofs.Tests.{clash}
use Rattle.quantity.specs.declared.count.DatalinkId.{DatalinkId}
use Rattle.quantity.specs.Limits.{LONGEST-DATAGRAM}
use Rattle.wire.specs.Numbers.{Octets}
use Rattle.wire.specs.Options.{Options, done, cut, option, bytes, split}
use Rattle.wire.proofs.Options.{bytes_split}
use Rattle.read_option.specs.Stated.{Table, nothing}
use Rattle.read_rules.specs.declared.answer.Verdict.{Verdict}
use Rattle.read_rules.specs.Judging.{judge}
use Rattle.read_rules.specs.Sorts.{Sort, rules_of}
use Rattle.reader.specs.Header.{CURRENT-VERSION, version_of, flag_of, flag, read_with}
use Rattle.acceptance.specs.Account.{table_of, Accepts}
use Rattle.acceptance.proofs.Seats.{adding}
use Rattle.acceptance.proofs.Body.{Opens, plus, plus_done, plus_option, Allowed, allowed_done, allowed_option}
use Rattle.acceptance.proofs.Own.{own}
use Rattle.acceptance.proofs.Cells.{Cells, forth, ends}
use Rattle.acceptance.proofs.Outcome.{reads}

module _ {A B : Type 0} (S : Sort A B) (id : DatalinkId) (stated : Table → A) (C : Cells S id stated) where
  -- ---- the options of a body

  -- allowed options are accepted, with what they state
  read : (f : Options) (τ : Table) (place : ℕ) → Allowed S.plane S.end id τ f
      → judge (rules_of S) f place (stated τ) ≡ S.accept (stated (plus S.plane S.end τ f))
  unfolding judge
  read done τ place w = rw (plus_done S.plane S.end τ) (ends S id stated C τ place ((allowed_done S.plane S.end id τ).0 w))
  read (cut rest) τ place w = absurd w.faultless.listed
  read (option kind content f) τ place w =
      let k = (allowed_option S.plane S.end id τ kind content f).0 w in
      rw (forth S id stated C τ kind content k.0, ← plus_option S.plane S.end τ kind content f w.faultless.room)
      (read f (adding S.plane S.end kind content τ) (place + (3 + length content)) k.1)

  -- ---- a datagram

  all_open : (f : Options) → Opens S.plane S.end nothing f
  all_open done = tt
  all_open (cut rest) = tt
  all_open (option kind content f) = λ k e. refl

  -- what is allowed is accepted, with what its options state
  pub ⇒accepted : (s : List ℕ) (f : Options) → Accepts S.plane S.end id s f → read_with (rules_of S) s ≡ S.accept (stated (table_of S.plane S.end f))
  unfolding read_with
  ⇒accepted s f a =
      let h : length (a.header ∷ bytes f) ≤ LONGEST-DATAGRAM = rw a.whole at a.short in
      let n : suc (length (bytes f)) ≡ 0 → ⊥ = λ x. omega arith in
      let e : split (bytes f) ≡ f = rw a.whole at (own S.plane S.end id s f a) in
      rw (
        a.whole,
        le-ltb LONGEST-DATAGRAM (length (a.header ∷ bytes f)) h,
        ne_eqb (suc (length (bytes f))) 0 n,
        eq-eqb (version_of a.header) CURRENT-VERSION a.version,
        eq-eqb (flag_of a.header) (flag S.plane) a.of_plane,
        e,
      )
      (ap (judge (rules_of S) f 1) C.blank
      ∙ read f nothing 1
      (record {
        faultless = record { listed = a.listed; room = λ k n. let o = a.once k n in omega arith; opens = all_open f; ending = a.ending };
        complete = record { filled = a.filled; paired = a.paired; ours = a.ours };
      }))

  -- what is accepted is allowed
  accepted⇒ : (s : List ℕ) → Octets s → C.verdict (read_with (rules_of S) s) ≡ Verdict.Accepted → Accepts S.plane S.end id s (split (drop 1 s))
  accepted⇒ s o =
      reads S id stated C (λ verdict. verdict ≡ Verdict.Accepted → Accepts S.plane S.end id s (split (drop 1 s))) s
      (record {
        other = λ e. clash (cc);
        in_header = λ number h e. clash (cc);
        in_body = λ header body d short version own. record {
          accepted = λ w e. rw d
              (record {
                header = header;
                version = version;
                of_plane = own;
                whole = rw (bytes_split body (rw d at o).1);
                short = short;
                listed = w.faultless.listed;
                once = λ k n. let r = w.faultless.room k n in omega arith;
                ending = w.faultless.ending;
                filled = w.complete.filled;
                paired = w.complete.paired;
                ours = w.complete.ours;
              });
          at_option = λ number place w e. clash (cc);
          at_end = λ number place w l p e. clash (cc);
        };
      })

  -- THE ACCOUNT: accepted is what it allows, and the answer is what the options state
  pub account : (s : List ℕ) → Octets s
      → (C.verdict (read_with (rules_of S) s) ≡ Verdict.Accepted ↔ (f : Options) × Accepts S.plane S.end id s f)
      × ((f : Options) → Accepts S.plane S.end id s f → read_with (rules_of S) s ≡ S.accept (stated (table_of S.plane S.end f)))
  account s o =
      (((λ a. (split (drop 1 s), accepted⇒ s o a)), λ x. ap C.verdict (⇒accepted s x.0 x.1) ∙ C.accepted (stated (table_of S.plane S.end x.0))), ⇒accepted s)
