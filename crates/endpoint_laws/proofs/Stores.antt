-- The lent memory is the stores one behind the other, with no gap; after any run each holds what waits by the ledger, and zeros. Assumes nothing.
use Prim.Native.Nat.{ℕ, zero, suc, ◌+◌, ◌^◌, ◌<◌, ◌≤◌}
use mathlib.Core.Bool.{true}
use mathlib.Core.List.{List, [], ◌∷◌, ◌++◌}
use mathlib.Core.Path.{◌≡◌, refl, sym, ap, ap₂, ◌∙◌}
use native.Mathlib.Omega.{arith}
use lib.ListN.{length, take, get_or}
use lib.Seq.{take_all, take-add}
use Rattle.store.specs.Packets.{Packet, joined}
use Rattle.store.specs.Waiting.{store_of}
use Rattle.ips_channel_rules.specs.Simple.{is_waiting, having}
use Rattle.ips_channel.specs.declared.state.Channel.{Channel}
use Rattle.ips_state.specs.State.{Configuration, no_channel, channel_at, start_at}
use Rattle.ips_state.specs.Limits.{sizes, configuration_taken}
use Rattle.ips_state.specs.Memory.{start_of, store_at, World, channel_in, store_in}
use Rattle.ips_run.specs.Run.{Call, fresh_world}
use Rattle.ips_run.specs.Demand.{BytesIn, reached}
use Rattle.ips_run.specs.Settling.{ledger_at}
use Rattle.ips_run.proofs.Whole.{reached_fits}
use Rattle.ips_calls.specs.Replies.{EndpointReply}
use Rattle.ips_calls.specs.Ran.{Ran}
use Rattle.ips_calls.proofs.Ran.{ran_world}
use Rattle.ips_calls.proofs.Own.{ran_own}
use Rattle.endpoint_laws.specs.Given.{Admitted}
use Rattle.endpoint_laws.specs.Stores.{end_to_end, bytes_in, holding}
use Rattle.endpoint_laws.proofs.Given.{fits_admitted}

-- one store more
sizes_next : (cs : List Channel) (n : ℕ) → n < length cs → sizes (take (suc n) cs) ≡ sizes (take n cs) + (get_or cs n no_channel).setting.size.0
unfolding sizes
sizes_next [] n inside = absurd (omega arith)
sizes_next (c ∷ cs) zero inside = omega arith
sizes_next (c ∷ cs) (suc n) inside = omega (arith, sizes_next cs n (omega arith))

same_stores : (f g : ℕ → List ℕ) (n : ℕ) → ((index : ℕ) → index < n → f index ≡ g index) → end_to_end f n ≡ end_to_end g n
same_stores f g zero same = refl
same_stores f g (suc n) same = ap₂ (λ (xs ys : List ℕ). xs ++ ys) (same_stores f g n (λ index h. same index (omega arith))) (same n (omega arith))

-- ---- any state and memory that 19 does not refuse
module _ (w : World) (admitted : Admitted w) where
  stores_before : (n : ℕ) → n ≤ length w.state.channels → end_to_end (store_in w) n ≡ take (start_of w.state n) w.memory
  unfolding start_of store_at channel_at sizes
  stores_before zero h = refl
  stores_before (suc n) h =
      let here : n < length w.state.channels = omega arith in
      let next : sizes (take (suc n) w.state.channels) ≡ sizes (take n w.state.channels) + (channel_in w n).setting.size.0 = sizes_next w.state.channels n here in
      rw (stores_before n (omega arith), next) (sym (take-add (start_of w.state n) (channel_in w n).setting.size.0 w.memory))

  -- the memory is the stores, one behind the other in configuration order
  pub memory_is_stores : w.memory ≡ end_to_end (store_in w) (length w.state.channels)
  unfolding start_of
  memory_is_stores =
      let all : take (length w.state.channels) w.state.channels ≡ w.state.channels = take_all (length w.state.channels) w.state.channels (omega arith) in
      let whole : length w.memory ≤ start_of w.state (length w.state.channels) = rw (all, admitted.long) (omega arith) in
      sym (stores_before (length w.state.channels) (omega arith) ∙ take_all (start_of w.state (length w.state.channels)) w.memory whole)

-- ---- after any calls from a fresh start, each with whatever outcome its contract allows
bytes_joined : (ps : List Packet) → joined ps ≡ bytes_in ps
unfolding joined
bytes_joined [] = refl
bytes_joined (p ∷ ps) = ap (λ (l : List ℕ). p.bytes ++ l) (bytes_joined ps)

holding_is : (size : ℕ) (ps : List Packet) → store_of size ps ≡ holding size ps
unfolding store_of
holding_is size ps = rw (bytes_joined ps)

-- every byte of the memory: of each channel, in configuration order, the packets that wait by its ledger, and zeros behind them
pub ran_memory : (k : Configuration) → configuration_taken k ≡ true → ((index : ℕ) → index < length k.starts → (start_at k index).first.0 < 2 ^ 32)
    → (cs : List Call) → BytesIn cs → (xs : List EndpointReply) (last : World) → Ran (fresh_world k) cs xs last
    → last.memory ≡ end_to_end (λ index. holding (start_at k index).setting.size.0 (having is_waiting (ledger_at k index cs))) (length k.starts)
ran_memory k fits small cs bytes xs last run =
    let order = (reached_fits k fits cs bytes).order in
    let admitted : Admitted (reached k cs) = fits_admitted (reached k cs) (rw (order.state_fits_lem, order.memory_fits_lem)) in
    let stores : (reached k cs).memory ≡ end_to_end (store_in (reached k cs)) (length k.starts) = memory_is_stores (reached k cs) admitted ∙ ap (end_to_end (store_in (reached k cs))) order.counted in
    ap (λ (w : World). w.memory) (ran_world run) ∙ stores
    ∙ same_stores _ _ (length k.starts) (λ index inside.
    ap (λ (w : World). store_in w index) (sym (ran_world run))
    ∙ (ran_own k fits index inside (small index inside) cs bytes xs last run).keeps.store_is
    ∙ holding_is (start_at k index).setting.size.0 (having is_waiting (ledger_at k index cs)))
