-- "Answers, stores and state equal those of offering one by one in that order, refused ones included": an accepted handful is the run of the single offers. Assumes nothing.
use Rattle.quantity.specs.declared.refusal.Refusal.{Refusal}
use Rattle.std.specs.Prelude.{Result, Ok}
use Prim.Native.Nat.{ℕ, zero, suc, ◌≤◌, ◌<◌}
use mathlib.Core.Bool.{true}
use mathlib.Core.List.{List, [], ◌∷◌, map}
use mathlib.Core.Logic.{◌⊎◌}
use mathlib.Core.Path.{◌≡◌, refl, sym, ap, ap₂, ◌∙◌}
use native.Mathlib.Omega.{arith}
use lib.ListN.{length, get_or, take}
use Rattle.facts.specs.Tables.{tabulate}
use Rattle.ips_channel_calls.specs.Calls.{offered, number_of, answer_of}
use Rattle.ips_state.specs.Memory.{world_fits}
use Rattle.ips_run.specs.Run.{Call}
use Rattle.ips_radio.proofs.Hearings.{take_map}
use Rattle.ips_calls.specs.Replies.{EndpointReply, of_channel, reply_of}
use Rattle.endpoint.specs.Lent.{Lent, world_in, after_in}
use Rattle.endpoint.specs.Calls.{PerformedIn}
use Rattle.endpoint.specs.Ran.{RanIn, over, ran}
use Rattle.endpoint.proofs.Refused.{calls_coincide_in}
use Rattle.handful.specs.Handful.{Handful, Offer, offers_of, call_of, answer_to, answers_to, left_by, HandedIn}
use Rattle.handful.proofs.Offering.{after_fits}
use Rattle.handful_laws.specs.Plain.{call_at, offers_in, said_by, Proper}
use Rattle.handful_laws.proofs.Saying.{said_is, numbers_say_lem, byte_fitting}
use Rattle.handful_laws.proofs.Cutting.{offers_count, offer_at_lem, offers_plain}
use Rattle.handful_laws.proofs.Judging.{passed_proper, offered_tested}

-- ---- any calls on words come to one outcome
pub runs_one : {l last last' : Lent} {cs : List Call} {xs ys : List EndpointReply} → RanIn l cs xs last → RanIn l cs ys last' → (xs ≡ ys) × (last ≡ last')
runs_one over over = (refl, refl)
runs_one (ran h more) (ran k rest) =
    let same = calls_coincide_in h k in
    let behind = runs_one more (rw (← same.1) at rest) in
    (rw (same.0, behind.0), behind.1)

-- ---- some offers, one by one
abbrev told : ℕ → EndpointReply
told byte = of_channel (offered (answer_of byte))

offers_ran : (time : ℕ) (os : List Offer) (l : Lent) → RanIn l (map (call_of time) os) (map told (map number_of (answers_to time os l))) (left_by time os l)
offers_ran time [] l = over
offers_ran time (o ∷ os) l =
    ran (record { reply_is = ap (λ (a : Result (Unit {0}) Refusal). of_channel (offered a)) (numbers_say_lem time o (world_in l)); lent_is = refl }) (offers_ran time os (after_in (call_of time o) l))

answers_count : (time : ℕ) (os : List Offer) (l : Lent) → length (map number_of (answers_to time os l)) ≡ length os
answers_count time [] l = refl
answers_count time (o ∷ os) l = ap suc (answers_count time os (after_in (call_of time o) l))

answers_at : (time : ℕ) (os : List Offer) (l : Lent) (i : ℕ) (none : Offer) → i < length os
    → get_or (map number_of (answers_to time os l)) i 0 ≡ number_of (answer_to time (get_or os i none) (world_in (left_by time (take i os) l)))
answers_at time [] l i none inside = absurd (omega arith)
answers_at time (o ∷ os) l zero none inside = refl
answers_at time (o ∷ os) l (suc i) none inside = answers_at time os (after_in (call_of time o) l) i none (omega arith)

all_said : (bytes : List ℕ) → map said_by bytes ≡ map told bytes
all_said [] = refl
all_said (byte ∷ bytes) = ap₂ (λ (x : EndpointReply) (xs : List EndpointReply). x ∷ xs) (said_is byte) (all_said bytes)

take_tabulate : {A : Type 0} (i n : ℕ) (f : ℕ → A) → i ≤ n → take i (tabulate n f) ≡ tabulate i f
unfolding tabulate
take_tabulate zero n f le = refl
take_tabulate (suc i) zero f le = absurd (omega arith)
take_tabulate (suc i) (suc n) f le = ap (λ (ys : List _). f 0 ∷ ys) (take_tabulate i n (λ k. f (suc k)) (omega arith))

-- ---- an accepted handful
module _ {h : Handful} {l l' : Lent} {answers answers' : List ℕ} (handed : HandedIn h l answers (Ok tt) l' answers') where
  pub offered_proper : Proper h (length answers)
  offered_proper = passed_proper h (length answers) (offered_tested handed).1

  lent_left : l' ≡ left_by h.time (offers_of h) l
  lent_left = let t = offered_tested handed in handed.lent_is ∙ rw (t.0, t.1)

  bytes_are : answers' ≡ map number_of (answers_to h.time (offers_of h) l)
  bytes_are = let t = offered_tested handed in handed.answers_are ∙ rw (t.0, t.1)

  -- THE RUN OF THE SINGLE OFFERS: each reply what its byte says, and the words and the memory that the last one leaves
  pub handful_offers : RanIn l (map (call_of h.time) (offers_of h)) (map (λ byte. of_channel (offered (answer_of byte))) answers') l'
  handful_offers = rw (lent_left, bytes_are) (offers_ran h.time (offers_of h) l)

  -- the same in plain facts
  pub handful_plain : RanIn l (offers_in h) (map said_by answers') l'
  handful_plain = rw (← (offers_plain h offered_proper), all_said answers') handful_offers

  -- "an answer for each"
  pub handful_answers : length answers' ≡ length answers
  handful_answers = ap length bytes_are ∙ answers_count h.time (offers_of h) l ∙ offers_count h offered_proper ∙ sym offered_proper.answers_count

  -- and whoever offers them one by one comes to the same
  pub handful_only : {xs : List EndpointReply} {last : Lent} → RanIn l (offers_in h) xs last → (xs ≡ map said_by answers') × (last ≡ l')
  handful_only run = runs_one run handful_plain

  -- ---- the answer at an index
  module _ (i : ℕ) (inside : i < length answers) where
    abbrev none : Offer
    none = record { id = 0; packet = record { bytes = []; expiry = 0 } }

    among : i < length h.channels
    among = omega (arith, offered_proper.answers_count)

    byte_at : get_or answers' i 0 ≡ number_of (answer_to h.time (get_or (offers_of h) i none) (world_in (left_by h.time (take i (offers_of h)) l)))
    byte_at = ap (λ (bytes : List ℕ). get_or bytes i 0) bytes_are ∙ answers_at h.time (offers_of h) l i none (omega (arith, offers_count h offered_proper, among))

    firsts : tabulate i (call_at h) ≡ map (call_of h.time) (take i (offers_of h))
    firsts =
        sym (take_tabulate i (length h.channels) (call_at h) (omega (arith, among)))
        ∙ ap (take i) (sym (offers_plain h offered_proper))
        ∙ take_map (call_of h.time) i (offers_of h)

    -- REFUSED ONES STOP NOTHING: it is what the call on that channel with that packet replies behind the calls before it, refused ones among them
    pub answer_at : {xs : List EndpointReply} {m m' : Lent} {x : EndpointReply} → RanIn l (tabulate i (call_at h)) xs m → PerformedIn (call_at h i) m x m' → x ≡ said_by (get_or answers' i 0)
    answer_at {m = m} run call =
        let o = get_or (offers_of h) i none in
        let there : m ≡ left_by h.time (take i (offers_of h)) l = (runs_one (rw firsts at run) (offers_ran h.time (take i (offers_of h)) l)).1 in
        call.reply_is
        ∙ ap (λ (c : Call). reply_of c (world_in m)) (sym (offer_at_lem h offered_proper i among none))
        ∙ ap (λ (before : Lent). of_channel (offered (answer_to h.time o (world_in before)))) there
        ∙ sym (ap (λ (a : Result (Unit {0}) Refusal). of_channel (offered a)) (numbers_say_lem h.time o (world_in (left_by h.time (take i (offers_of h)) l))))
        ∙ sym (said_is (get_or answers' i 0) ∙ ap told byte_at)

    -- 0, or 12 to 17: within an accepted handful nothing is refused by 19
    pub byte_within : (get_or answers' i 0 ≡ 0) ⊎ ((12 ≤ get_or answers' i 0) × (get_or answers' i 0 ≤ 17))
    byte_within = rw byte_at (byte_fitting h.time _ _ (left_fits (take i (offers_of h)) l (offered_tested handed).0))
      where
        left_fits : (os : List Offer) (m : Lent) → world_fits (world_in m) ≡ true → world_fits (world_in (left_by h.time os m)) ≡ true
        left_fits [] m fits = fits
        left_fits (o ∷ os) m fits = left_fits os (after_in (call_of h.time o) m) (after_fits h.time o m fits)
