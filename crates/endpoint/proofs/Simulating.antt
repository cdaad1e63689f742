-- Words simulate the state that they stand for: what a call on words leaves stands for what the call on the state leaves, and so for any calls. Assumes nothing.
use Prim.Native.Nat.{ℕ}
use mathlib.Core.Bool.{Bool, true, false, cond, and-eq-true_iff}
use mathlib.Core.List.{List}
use mathlib.Core.Path.{◌≡◌, refl, sym, ap, ◌∙◌}
use native.Mathlib.Omega.{arith}
use Rattle.ips_channel_rules.specs.Rules.{ChannelCall, Says, Answer, refused, answered, unless_refused}
use Rattle.ips_channel.specs.declared.state.Channel.{Channel}
use Rattle.ips_channel_calls.specs.Calls.{channel_after, Ready}
use Rattle.ips_state.specs.State.{State, channel_at, with_channel}
use Rattle.ips_state.specs.Limits.{state_fits}
use Rattle.ips_state.specs.Memory.{memory_fits, World, world_fits, is_configured, index_in, channel_in, store_in}
use Rattle.ips_state.proofs.Channels.{ChannelFit}
use Rattle.ips_state.proofs.Places.{found, channel_fitting_at, store_length, at_with_same, with_back}
use Rattle.ips_run.specs.Calling.{result_in, WorldResult, calling, Judged, outside, unknown, served}
use Rattle.ips_run.specs.Run.{Call, on, radio, pace, query, in_time, with_state, after_under, after}
use Rattle.ips_run.specs.Demand.{bytes_in, BytesIn}
use Rattle.ips_run.proofs.Exact.{judged}
use Rattle.ips_calls.specs.Replies.{EndpointReply}
use Rattle.ips_calls.specs.Calls.{Performed}
use Rattle.ips_calls.specs.Ran as ran
use Rattle.ips_calls.specs.Ran.{Ran}
use Rattle.ips_words.specs.Words.{slot, state_in, put_channel, Narrow}
use Rattle.ips_words.proofs.Slots.{in_narrow}
use Rattle.ips_words.proofs.Whole.{readable_facts, fit_readable, fit_count, fit_channel, fit_put}
use Rattle.ips_words_radio.proofs.Datagrams.{radio_in, pace_in}
use Rattle.endpoint.specs.Lent.{Lent, world_in, words_called_under, words_called, after_in_under, after_in}
use Rattle.endpoint.specs.Calls.{PerformedIn, Placed}
use Rattle.endpoint.specs.Ran.{RanIn, over, ran}
use Rattle.endpoint.proofs.Leaving.{left_narrow}

-- ---- a call on the channel of an ID, where 19 does not refuse it and the channel is configured
module _ (l : Lent) (id : ℕ) (call : ChannelCall) (fits : world_fits (world_in l) ≡ true) (known : is_configured (world_in l) id ≡ true) where
  abbrev w : World
  w = world_in l

  abbrev s : State
  s = state_in l.words

  abbrev index : ℕ
  index = index_in w id

  abbrev left : Channel
  left = channel_after (channel_in w index) (result_in call w index)

  parts : (state_fits s ≡ true) × (memory_fits s l.memory ≡ true)
  parts = (and-eq-true_iff (state_fits s) (memory_fits s l.memory)).0 fits

  pub served_placed : Placed l.words index
  served_placed = record { fits = parts.0; within = (found s id known).0 }

  was_narrow : Narrow (channel_in w index)
  was_narrow =
      let inside = served_placed.within in
      rw (fit_channel l.words parts.0 index inside) (in_narrow (slot l.words index) ((readable_facts l.words (fit_readable l.words parts.0)).each index (omega (arith, fit_count l.words parts.0))))

  ready : Ready (channel_in w index) (store_in w index)
  ready =
      let f : ChannelFit (channel_in w index) = channel_fitting_at s parts.0 index served_placed.within in
      record { id = f.unreserved; well = f.well_formed_lem; size = store_length s index l.memory parts.1 served_placed.within }

  pub served_narrow : Narrow left
  served_narrow = left_narrow s.datalink call (channel_in w index) (store_in w index) ready was_narrow

  pub served_same : channel_in (record { state = with_channel s index left; memory = l.memory }) index ≡ left
  served_same = at_with_same s index left served_placed.within

  same_after : (number : ℕ) → (result_in call w index).answer ≡ refused number → left ≡ channel_in w index
  unfolding channel_after
  same_after number e = rw e

  served_state : state_in (unless_refused (result_in call w index).answer l.words (put_channel l.words index (channel_at (with_channel s index left) index))) ≡ with_channel s index left
  served_state = rw served_same (by (result_in call w index).answer refl)
    where
      by : (a : Answer (Says call)) → (result_in call w index).answer ≡ a → state_in (unless_refused a l.words (put_channel l.words index left)) ≡ with_channel s index left
      by (refused number) e = sym (ap (with_channel s index) (same_after number e) ∙ with_back s index)
      by (answered says) e = fit_put l.words parts.0 index served_placed.within left served_narrow

module _ (l : Lent) (id : ℕ) (call : ChannelCall) where
  by_judged : {r : WorldResult (Says call)} → Judged id call (world_in l) r
      → state_in (unless_refused r.answer l.words (put_channel l.words (index_in (world_in l) id) (channel_in r.world (index_in (world_in l) id)))) ≡ r.world.state
  by_judged (outside f) = refl
  by_judged (unknown f t) = refl
  by_judged (served f t) = served_state l id call f t

  -- THE LAW OF A CALL ON A CHANNEL: the words that it leaves stand for the state that the call on the state leaves
  pub in_state : state_in (words_called id call l) ≡ (calling id call (world_in l)).world.state
  unfolding words_called_under
  in_state = by_judged (judged id call (world_in l))

-- ---- any call, on any words and any memory
-- neither a radio message nor the pacer touches the memory
still : (t : Bool) (w : World) (s : State) → record { state = (cond t (with_state w s) w).state; memory = w.memory } ≡ cond t (with_state w s) w
still true w s = refl
still false w s = refl

pub step_in : (c : Call) → bytes_in c → (l : Lent) → world_in (after_in c l) ≡ after c (world_in l)
unfolding after_in_under after_under
step_in (on id call) bytes l = ap {B = World} (λ (s : State). record { state = s; memory = (calling id call (world_in l)).world.memory }) (in_state l id call)
step_in (radio time datagram) bytes l =
    ap {B = World} (λ (s : State). record { state = s; memory = l.memory }) (radio_in time l.words l.memory datagram bytes) ∙ still (in_time time (state_in l.words)) (world_in l) _
step_in (pace time) bytes l =
    ap {B = World} (λ (s : State). record { state = s; memory = l.memory }) (pace_in time l.words l.memory) ∙ still (in_time time (state_in l.words)) (world_in l) _
step_in (query out) bytes l = refl

-- so the contract on words is the contract on the state that they stand for
pub performed_in : {c : Call} {l l' : Lent} {x : EndpointReply} → bytes_in c → PerformedIn c l x l' → Performed c (world_in l) x (world_in l')
performed_in {c} {l} bytes h = record { reply_is = h.reply_is; world_is = ap world_in h.lent_is ∙ step_in c bytes l }

-- ANY SEQUENCE OF CALLS ON WORDS is one on the state that they stand for: every law over `Ran` holds of it
pub ran_in : {l last : Lent} {cs : List Call} {xs : List EndpointReply} → BytesIn cs → RanIn l cs xs last → Ran (world_in l) cs xs (world_in last)
ran_in bytes over = ran.over
ran_in bytes (ran h more) = ran.ran (performed_in bytes.0 h) (ran_in bytes.1 more)
