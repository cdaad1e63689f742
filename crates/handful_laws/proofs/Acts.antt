-- Demand 3 with handfuls among the calls: acts are the run of the calls that they stand for, so from a fresh start each channel is served as the simple channel is. Assumes nothing.
use Rattle.quantity.specs.declared.refusal.Refusal.{Refusal}
use Rattle.std.specs.Prelude.{Result, Ok, Err}
use Prim.Native.Nat.{ℕ, zero, suc, ◌<◌}
use mathlib.Core.Bool.{true, false}
use mathlib.Core.List.{List, [], ◌∷◌, ◌++◌, map}
use mathlib.Core.Logic.{◌↔◌}
use mathlib.Core.Path.{◌≡◌, refl, sym, ap, ◌∙◌}
use lib.ListN.{length}
use Rattle.facts.specs.Tables.{tabulate}
use Rattle.facts.proofs.Tests.{clash}
use Rattle.ips_state.specs.Memory.{world_fits}
use Rattle.ips_run.specs.Run.{Call, after_all}
use Rattle.ips_run.specs.Demand.{bytes_in, BytesIn}
use Rattle.ips_run.proofs.Ordered.{order_fits}
use Rattle.ips_run.proofs.Whole.{reached_fits}
use Rattle.ips_calls.specs.Replies.{EndpointReply}
use Rattle.ips_calls.specs.Own.{ServedSimply}
use Rattle.ips_calls.proofs.Ran.{ran_world}
use Rattle.ips_words_start.specs.Start.{configuration_in, StartedIn}
use Rattle.ips_words_start.proofs.Exactly.{started_leaves}
use Rattle.endpoint.specs.Lent.{Lent, lent, world_in}
use Rattle.endpoint.specs.Ran.{RanIn}
use Rattle.endpoint.specs.Ran as calls
use Rattle.endpoint.proofs.Simulating.{ran_in}
use Rattle.endpoint.proofs.Refused.{calls_coincide_in}
use Rattle.endpoint.proofs.Whole.{started_in, started_own_in}
use Rattle.handful.specs.Handful.{Handful, call_of, stands_for, HandedIn}
use Rattle.handful_laws.specs.Plain.{call_at, Faulty}
use Rattle.handful_laws.specs.Acts.{Act, single, several, ActReply, one, each, RanActs, over, called, handed, calls_by, calls_of, replies_by, replies_in, BytesInActs}
use Rattle.handful_laws.proofs.Cutting.{offers_plain}
use Rattle.handful_laws.proofs.Judging.{handful_exactly, offered_tested, refused_stands_none, handful_keeps, handful_one}
use Rattle.handful_laws.proofs.Offering.{offered_proper, handful_plain}

-- ---- a run behind a run
ran_join : {l m last : Lent} {cs ds : List Call} {xs ys : List EndpointReply} → RanIn l cs xs m → RanIn m ds ys last → RanIn l (cs ++ ds) (xs ++ ys) last
ran_join calls.over more = more
ran_join (calls.ran h rest) more = calls.ran h (ran_join rest more)

handed_ran : {h : Handful} {l l' : Lent} {answers answers' : List ℕ} (x : Result (Unit {0}) Refusal) → HandedIn h l answers x l' answers'
    → RanIn l (calls_by (several h answers) (each x answers')) (replies_by (each x answers')) l'
handed_ran (Ok tt) h = handful_plain h
handed_ran (Err refusal) h = rw (handful_keeps h).0 calls.over

-- ACTS ARE THE RUN OF THE CALLS THAT THEY STAND FOR: every law over `RanIn` holds of it
pub acts_ran : {l last : Lent} {acts : List Act} {xs : List ActReply} → RanActs l acts xs last → RanIn l (calls_of acts xs) (replies_in xs) last
acts_ran over = calls.over
acts_ran (called h more) = calls.ran h (acts_ran more)
acts_ran (handed {x = x} h more) = ran_join (handed_ran x h) (acts_ran more)

-- the calls of a handful are those that the contract has it stand for
pub calls_stand : {h : Handful} {l l' : Lent} {answers answers' : List ℕ} (x : Result (Unit {0}) Refusal) → HandedIn h l answers x l' answers'
    → calls_by (several h answers) (each x answers') ≡ map (call_of h.time) (stands_for h (length answers) (world_in l))
calls_stand {h} (Ok tt) k = let t = offered_tested k in rw (t.0, t.1) (sym (offers_plain h (offered_proper k)))
calls_stand {h} (Err refusal) k = sym (ap (map (call_of h.time)) (refused_stands_none k))

-- acts come to one outcome
pub acts_one : {l last last' : Lent} {acts : List Act} {xs ys : List ActReply} → RanActs l acts xs last → RanActs l acts ys last' → (xs ≡ ys) × (last ≡ last')
acts_one over over = (refl, refl)
acts_one (called h more) (called k rest) =
    let same = calls_coincide_in h k in
    let behind = acts_one more (rw (← same.1) at rest) in
    (rw (same.0, behind.0), behind.1)
acts_one (handed h more) (handed k rest) =
    let same = handful_one h k in
    let behind = acts_one more (rw (← same.1) at rest) in
    (rw (same.0, same.2, behind.0), behind.1)

-- ---- handfuls ask no more of the bytes
offers_bytes : (n : ℕ) (f : ℕ → Call) → ((i : ℕ) → bytes_in (f i)) → (cs : List Call) → BytesIn cs → BytesIn (tabulate n f ++ cs)
unfolding tabulate
offers_bytes zero f each-one cs bytes = bytes
offers_bytes (suc n) f each-one cs bytes = (each-one 0, offers_bytes n (λ k. f (suc k)) (λ i. each-one (suc i)) cs bytes)

pub acts_bytes : (acts : List Act) (xs : List ActReply) → BytesInActs acts → BytesIn (calls_of acts xs)
acts_bytes [] xs bytes = tt
acts_bytes (act ∷ acts) [] bytes = tt
acts_bytes (single c ∷ acts) (x ∷ xs) bytes = (bytes.0, acts_bytes acts xs bytes.1)
acts_bytes (several h answers ∷ acts) (one x ∷ xs) bytes = acts_bytes acts xs bytes
acts_bytes (several h answers ∷ acts) (each (Ok tt) answers' ∷ xs) bytes = offers_bytes (length h.channels) (call_at h) (λ i. tt) (calls_of acts xs) (acts_bytes acts xs bytes)
acts_bytes (several h answers ∷ acts) (each (Err refusal) answers' ∷ xs) bytes = acts_bytes acts xs bytes

-- ---- from a fresh start
module _ {configuration words memory words' memory' : List ℕ} (begun : StartedIn configuration words memory (Ok tt) words' memory')
    (acts : List Act) (bytes : BytesInActs acts) (xs : List ActReply) (last : Lent) (run : RanActs (lent words' memory') acts xs last) where
  -- THE STATEMENT: demand 3's sentence, with nothing asked of configuration, words, memory and handfuls
  pub started_acts : (index : ℕ) → index < length (configuration_in configuration).starts → ServedSimply (configuration_in configuration) index (calls_of acts xs) (replies_in xs) (world_in last)
  started_acts index inside = started_own_in begun index inside (calls_of acts xs) (acts_bytes acts xs bytes) (replies_in xs) last (acts_ran run)

  -- 19 refuses nothing that acts leave
  pub acts_fit : world_fits (world_in last) ≡ true
  acts_fit =
      let left = started_leaves configuration words memory begun refl in
      let calls-bytes = acts_bytes acts xs bytes in
      ap world_fits (ran_world (ran_in calls-bytes (acts_ran run)) ∙ ap (after_all (calls_of acts xs)) (started_in begun))
      ∙ order_fits (reached_fits (configuration_in configuration) (rw (left.configuration_fits_lem, left.waits_fit_lem)) (calls_of acts xs) calls-bytes).order

  -- so a handful is refused there by its own faults alone, and by 24
  module _ {h : Handful} {answers answers' : List ℕ} {x : Result (Unit {0}) Refusal} {l' : Lent} (next : HandedIn h last answers x l' answers') where
    pub acts_never_nineteen : x ≡ Err (record { number = 19; place = 0 }) → ⊥
    acts_never_nineteen e = let z : true ≡ false = sym acts_fit ∙ (handful_exactly next).nineteen.0 e in clash (sym z)

    pub fresh_exactly : ((x ≡ Err (record { number = 24; place = 0 })) ↔ Faulty h (length answers)) × ((x ≡ Ok tt) ↔ (Faulty h (length answers) → ⊥))
    fresh_exactly =
        let exact = handful_exactly next in
        ((λ e. (exact.twenty_four.0 e).1, λ f. exact.twenty_four.1 (acts_fit, f)), (λ e. (exact.otherwise.0 e).1, λ f. exact.otherwise.1 (acts_fit, f)))
