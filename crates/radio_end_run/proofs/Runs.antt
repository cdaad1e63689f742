-- Any sequence of calls. Assumes nothing.
use Rattle.std.specs.Prelude.{Option}
use Prim.Native.Nat.{ℕ, ◌<◌}
use mathlib.Core.List.{List, [], ◌∷◌, ◌++◌, append_assoc}
use mathlib.Core.Path.{◌≡◌, refl, sym, ap, ◌∙◌}
use native.Mathlib.Omega.{arith}
use lib.ListN.{length}
use Rattle.quantity.specs.declared.count.ByteCount.{ByteCount}
use Rattle.quantity.specs.declared.count.FlowSequence.{FlowSequence}
use Rattle.radio_flow.specs.Granting.{heard_of}
use Rattle.radio_flow.specs.Numbers.{heard_all}
use Rattle.radio_end_state.specs.declared.channel.Setting.{Setting}
use Rattle.radio_end_state.specs.declared.channel.Channel.{Channel}
use Rattle.radio_end_state.specs.State.{State, channel_at}
use Rattle.radio_end_run.specs.Run.{Call, state_after, states_after, through, heard_by, heard_through, queued_through, status_through, context_by, instance_by}
use Rattle.radio_end_run.specs.Promised.{ChannelLeft, ChannelRun, StateRun}
use Rattle.radio_end_run.proofs.Steps.{step_own, step}

pub heard_both : (highest : Option FlowSequence) (xs ys : List FlowSequence) → heard_all highest (xs ++ ys) ≡ heard_all (heard_all highest xs) ys
heard_both highest [] ys = refl
heard_both highest (x ∷ xs) ys = heard_both (heard_of highest x) xs ys

-- a call and what comes behind it: a Channel ID hears `more`, has queued `grown` of what was there, and a status `becomes` another
left_both : (a b c : Channel) (more : ℕ → List FlowSequence) (grown : ℕ → ByteCount → ByteCount) (becomes : ℕ → ℕ → ℕ) (heard : List FlowSequence) (bytes : ByteCount) (value : ℕ)
    → ChannelLeft a b heard bytes value → ChannelLeft b c (more b.setting.id) (grown b.setting.id b.queued) (becomes b.setting.id b.status)
    → ChannelLeft a c (heard ++ more a.setting.id) (grown a.setting.id bytes) (becomes a.setting.id value)
left_both a b c more grown becomes heard bytes value first second =
    let kind : b.setting.controlled ≡ a.setting.controlled = ap (λ (k : Setting). k.controlled) first.setting in
    let own : b.setting.id ≡ a.setting.id = ap (λ (k : Setting). k.id) first.setting in
    record {
      setting = second.setting ∙ first.setting;
      highest = λ k.
          second.highest (kind ∙ k) ∙ ap (λ (n : ℕ). heard_all b.highest (more n)) own ∙ ap (λ (h : Option FlowSequence). heard_all h (more a.setting.id)) (first.highest k)
          ∙ sym (heard_both a.highest heard (more a.setting.id));
      plain = λ k. second.plain (kind ∙ k) ∙ first.plain k;
      queued_is = second.queued_is ∙ ap (λ (n : ℕ). grown n b.queued) own ∙ ap (grown a.setting.id) first.queued_is;
      status_is = second.status_is ∙ ap (λ (n : ℕ). becomes n b.status) own ∙ ap (becomes a.setting.id) first.status_is;
    }

-- ANY SEQUENCE OF CALLS, on any state and any channel of it
pub run : (cs : List Call) (s : State) (index : ℕ) → index < length s.channels → ChannelRun cs s index
run [] s index inside = record { setting = refl; highest = λ k. refl; plain = λ k. refl; queued_is = refl; status_is = refl }
run (c ∷ cs) s index inside =
    let next = state_after c s in
    left_both (channel_at s index) (channel_at next index) (channel_at (states_after cs next) index) (heard_through cs next) (queued_through cs next) (status_through cs next) _ _ _
    (step c s index inside) (run cs next index (omega (arith, (step_own c s).many)))

pub run_own : (cs : List Call) (s : State) → StateRun cs s
run_own [] s = record { datalink = refl; many = refl; context_is = refl; instance_is = refl }
run_own (c ∷ cs) s =
    let one = step_own c s in
    let more = run_own cs (state_after c s) in
    record {
      datalink = more.datalink ∙ one.datalink;
      many = more.many ∙ one.many;
      context_is = more.context_is ∙ ap (through context_by cs (state_after c s)) one.context_is;
      instance_is = more.instance_is ∙ ap (through instance_by cs (state_after c s)) one.instance_is;
    }

-- ---- calls behind calls
pub states_both : (cs ds : List Call) (s : State) → states_after (cs ++ ds) s ≡ states_after ds (states_after cs s)
states_both [] ds s = refl
states_both (c ∷ cs) ds s = states_both cs ds (state_after c s)

pub through_both : (cs ds : List Call) (s : State) (id : ℕ) → heard_through (cs ++ ds) s id ≡ heard_through cs s id ++ heard_through ds (states_after cs s) id
through_both [] ds s id = refl
through_both (c ∷ cs) ds s id =
    ap (λ (ws : List FlowSequence). heard_by c s id ++ ws) (through_both cs ds (state_after c s) id)
    ∙ sym (append_assoc (heard_by c s id) (heard_through cs (state_after c s) id) (heard_through ds (states_after (c ∷ cs) s) id))
