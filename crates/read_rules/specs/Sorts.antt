-- One step and one finish for every sort of message: "each tested in the order 3, 8, 6, 4, 5, 7; then 9, 10, 11".
use Rattle.std.specs.Prelude.{ℕ, List, [], ◌∷◌, Bool, true, false, cond, length, get_or, eqb, Option, Some, None}
use Rattle.quantity.specs.declared.count.DatalinkId.{DatalinkId}
use Rattle.quantity.specs.Refusals.{LENGTH, VALUE, UNLISTED, REPEATED, BEHIND-PACKET, MISSING, UNPAIRED, OTHER-DATALINK}
use Rattle.meaning.specs.declared.message.End.{End}
use Rattle.meaning.specs.declared.message.Plane.{Plane}
use Rattle.meaning.specs.Kinds.{among, known, length_listed, value_listed, may_hold, one_for_each, must_hold}
use Rattle.read_rules.specs.Judging.{Step, next, stop, Rules}

-- 6, 4, 5, or 0 where the option is unknown or has no such fault
unfoldable pub fault_of : List ℕ → ℕ → List ℕ → ℕ
fault_of allowed kind content =
    cond (among kind known)
    (cond (among kind allowed) (cond (length_listed kind (length content)) (cond (value_listed kind content) 0 VALUE) LENGTH) UNLISTED)
    0

-- a sort of message: its plane and end; nothing stated yet; whether Packet Data stands already; whether nothing is stated for a type and a channel;
-- what is stated with one content more; the tests 10 and 11; the answers
pub record Sort (A B : Type 0) : Type 0 where
  pub plane : Plane
  pub end : End
  pub blank : A
  pub closed : A → Bool
  pub unstated : ℕ → ℕ → A → Bool
  pub state : ℕ → ℕ → List ℕ → A → A
  pub paired : A → Bool
  pub ours : A → Bool
  pub accept : A → B
  pub refuse : ℕ → ℕ → B
  pub other : B

-- the channel that an option speaks for, of those with one for each channel; 0 for all others
abbrev pub channel_of : Plane → ℕ → List ℕ → ℕ
channel_of plane kind content = cond (among kind (one_for_each plane)) (get_or content 0 0) 0

-- 8; 6, 4, 5; 7
unfoldable pub step_of : {A B : Type 0} → Sort A B → ℕ → List ℕ → A → Step A
step_of S kind content m =
    cond (S.closed m) (stop BEHIND-PACKET)
    (cond (eqb (fault_of (may_hold S.plane S.end) kind content) 0)
    (cond (among kind known)
    (cond (S.unstated kind (channel_of S.plane kind content) m) (next (S.state kind (channel_of S.plane kind content) content m)) (stop REPEATED))
    (next m))
    (stop (fault_of (may_hold S.plane S.end) kind content)))

abbrev pub missing : {A B : Type 0} → Sort A B → List ℕ → A → Bool
missing S [] m = false
missing S (kind ∷ kinds) m = cond (S.unstated kind 0 m) true (missing S kinds m)

-- 9, 10, 11
unfoldable pub finish_of : {A B : Type 0} → Sort A B → ℕ → A → B
finish_of S n m =
    cond (missing S (must_hold S.plane S.end) m) (S.refuse MISSING n)
    (cond (S.paired m) (cond (S.ours m) (S.accept m) (S.refuse OTHER-DATALINK n)) (S.refuse UNPAIRED n))

abbrev pub rules_of : {A B : Type 0} → Sort A B → Rules A B
rules_of S = record { plane = S.plane; blank = S.blank; step = step_of S; finish = finish_of S; refuse = S.refuse; other = S.other }

-- ---- the Datalink ID, which every sort of message must hold

-- number 11: the Datalink ID is the configured one
abbrev pub is_ours : DatalinkId → Option DatalinkId → Bool
is_ours id None = false
is_ours id (Some d) = eqb d.0 id.0

abbrev pub unstated_datalink : Option DatalinkId → Bool
unstated_datalink None = true
unstated_datalink (Some d) = false
