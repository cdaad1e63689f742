-- A state within the limits stays within them, whatever is called; the datagrams are made of bytes. Assumes nothing.
use Rattle.std.specs.Prelude.{Option, Some, None}
use Rattle.quantity.specs.declared.count.LinkInstanceId.{LinkInstanceId}
use Rattle.meaning.specs.declared.message.ContextBytes.{ContextBytes}
use Prim.Native.Nat.{ℕ, ◌^◌, ◌≤◌, ◌<◌}
use mathlib.Core.Bool.{Bool, true, false, cond}
use mathlib.Core.List.{List, [], ◌∷◌, Memᴰ}
use mathlib.Core.Path.{◌≡◌, refl, sym, ap, ◌∙◌}
use native.Mathlib.Omega.{arith}
use borrow.Author.Tests.{lt-ltb, ltb-true, le-leb}
use lib.Dec.{eqb}
use lib.ListN.{length}
use lib.Seq.{ext_get_or}
use Rattle.quantity.specs.declared.count.FlowSequence.{FlowSequence}
use Rattle.quantity.specs.Limits.{RESERVED-CHANNEL, MOST-ALLOWANCE, HIGHEST-STATUS}
use Rattle.meaning.specs.declared.message.End.TheVariants as ends
use Rattle.writable.specs.Allowed.{instance_allowed, context_allowed}
use Rattle.radio_flow.specs.Granting.{is_ahead, heard_of}
use Rattle.radio_flow.specs.Numbers.{heard_all}
use Rattle.radio_end_state.specs.declared.channel.Setting.{Setting}
use Rattle.radio_end_state.specs.declared.channel.Channel.{Channel}
use Rattle.radio_end_state.specs.State.{State, channel_at}
use Rattle.radio_end_state.specs.Limits.{ids, highest_fits, channel_fits, state_fits}
use Rattle.radio_end_state.proofs.Fit.{ChannelFit, channel_fit, Fit, fit_facts, fit_state, ids_at, ids_length}
use Rattle.radio_end_run.specs.Run.{Call, hear, status, queued, context, link, tell, after_call, state_after, states_after, accepted_by, heard_by, status_by, context_by, instance_by, bytes_in, BytesIn}
use Rattle.radio_end_run.proofs.Makes.{Comes, refused, made, Writable, Made, comes}
use Rattle.radio_end_run.proofs.Steps.{step_own, step}
use Rattle.radio_end_run.proofs.Counted.{heard_small}

-- ---- a highest word of 32 bits stays one
ahead_fits : (b : Bool) (highest sequence : FlowSequence) → highest.0 < 2 ^ 32 → sequence.0 < 2 ^ 32 → highest_fits (cond b (Some sequence) (Some highest)) ≡ true
ahead_fits true highest sequence h k = lt-ltb sequence.0 (2 ^ 32) k
ahead_fits false highest sequence h k = lt-ltb highest.0 (2 ^ 32) h

heard_fits : (highest : Option FlowSequence) (sequence : FlowSequence) → highest_fits highest ≡ true → sequence.0 < 2 ^ 32 → highest_fits (heard_of highest sequence) ≡ true
heard_fits None sequence e k = lt-ltb sequence.0 (2 ^ 32) k
heard_fits (Some highest) sequence e k = ahead_fits (is_ahead highest sequence) highest sequence (ltb-true highest.0 (2 ^ 32) e) k

all_fit : (ws : List FlowSequence) (highest : Option FlowSequence) → highest_fits highest ≡ true → ((w : FlowSequence) → Memᴰ w ws → w.0 < 2 ^ 32) → highest_fits (heard_all highest ws) ≡ true
all_fit [] highest e small = e
all_fit (w ∷ ws) highest e small = all_fit ws (heard_of highest w) (heard_fits highest w e (small w (Memᴰ.head refl))) (λ v m. small v (Memᴰ.tail m))

-- ---- one channel
fit_channel : (c : Channel) → ChannelFit c → channel_fits c ≡ true
unfolding channel_fits
fit_channel c f =
    rw (lt-ltb c.setting.id RESERVED-CHANNEL f.unreserved, le-leb c.setting.watermark.0 MOST-ALLOWANCE f.watermark, le-leb c.setting.throughput.0 MOST-ALLOWANCE f.throughput, le-leb c.status HIGHEST-STATUS f.status) f.highest

left_fits : (before after : Channel) (k : Setting) → before.setting ≡ k → after.setting ≡ k → ChannelFit before → after.status ≤ 15 → highest_fits after.highest ≡ true → ChannelFit after
left_fits before after k e f fit low highest =
    record {
      unreserved = rw (f ∙ sym e) fit.unreserved;
      watermark = rw (f ∙ sym e) fit.watermark;
      throughput = rw (f ∙ sym e) fit.throughput;
      status = low;
      highest = highest;
    }

status_by_lem : (b : Bool) (value before : ℕ) → value ≤ 15 → before ≤ 15 → cond b value before ≤ 15
status_by_lem true value before h k = h
status_by_lem false value before h k = k

status_low : (c : Call) (s : State) (id before : ℕ) → accepted_by c s ≡ true → Writable c → before ≤ 15 → status_by c s id before ≤ 15
unfolding status_by
status_low (hear datagram out) s id before e w low = low
status_low (status own value out) s id before e w low = rw e (status_by_lem (eqb own id) value before w low)
status_low (queued own number out) s id before e w low = low
status_low (context k out) s id before e w low = low
status_low (link instance) s id before e w low = low
status_low (tell out) s id before e w low = low

-- ---- the Context and the Link Instance
context_fits : (c : Call) (s : State) → accepted_by c s ≡ true → Writable c → (k : Option (ContextBytes × ℕ)) → context_allowed ends.Radio k ≡ true → context_allowed ends.Radio (context_by c s k) ≡ true
unfolding context_by
context_fits (hear datagram out) s e w k h = h
context_fits (status own value out) s e w k h = h
context_fits (queued own number out) s e w k h = h
context_fits (context told out) s e w k h = rw e w
context_fits (link instance) s e w k h = h
context_fits (tell out) s e w k h = h

instance_fits : (c : Call) (s : State) → accepted_by c s ≡ true → Writable c → (n : Option (LinkInstanceId × ℕ)) → instance_allowed ends.Radio n ≡ true → instance_allowed ends.Radio (instance_by c s n) ≡ true
unfolding instance_by
instance_fits (hear datagram out) s e w n h = h
instance_fits (status own value out) s e w n h = h
instance_fits (queued own number out) s e w n h = h
instance_fits (context told out) s e w n h = h
instance_fits (link instance) s e w n h = rw e w
instance_fits (tell out) s e w n h = h

-- ---- the IDs stand
ids_stand : (s s' : State) → length s'.channels ≡ length s.channels → ((index : ℕ) → index < length s.channels → (channel_at s' index).setting ≡ (channel_at s index).setting)
    → ids s'.channels ≡ ids s.channels
unfolding channel_at
ids_stand s s' many each =
    ext_get_or 0 (ids s'.channels) (ids s.channels) (ids_length s'.channels ∙ many ∙ sym (ids_length s.channels))
    (λ i h. ids_at s'.channels i ∙ ap (λ (k : Setting). k.id) (each i (omega (arith, ids_length s'.channels))) ∙ sym (ids_at s.channels i))

module _ (c : Call) (bytes : bytes_in c) (s : State) (fits : state_fits s ≡ true) where
  facts : Fit s
  facts = fit_facts s fits

  highest_kept : (before after : Channel) (heard : List FlowSequence) (k : Bool) → before.setting.controlled ≡ k
      → (before.setting.controlled ≡ true → after.highest ≡ heard_all before.highest heard) → (before.setting.controlled ≡ false → after.highest ≡ before.highest)
      → highest_fits before.highest ≡ true → ((w : FlowSequence) → Memᴰ w heard → w.0 < 2 ^ 32) → highest_fits after.highest ≡ true
  highest_kept before after heard true e f g h small = rw (f e) (all_fit heard before.highest h small)
  highest_kept before after heard false e f g h small = rw (g e) h

  module _ (e : accepted_by c s ≡ true) (w : Writable c) where
    each_fits_lem : (index : ℕ) → index < length s.channels → channel_fits (channel_at (state_after c s) index) ≡ true
    each_fits_lem index inside =
        let before = channel_at s index in
        let after = channel_at (state_after c s) index in
        let left = step c s index inside in
        let fit = channel_fit before (facts.each index inside) in
        let low : after.status ≤ 15 = rw left.status_is (status_low c s before.setting.id before.status e w fit.status) in
        fit_channel after
        (left_fits before after before.setting refl left.setting fit low
        (highest_kept before after (heard_by c s before.setting.id) before.setting.controlled refl left.highest left.plain fit.highest (heard_small c bytes s before.setting.id)))

    accepted_fits : state_fits (state_after c s) ≡ true
    accepted_fits =
        let own = step_own c s in
        let same : ids (state_after c s).channels ≡ ids s.channels = ids_stand s (state_after c s) own.many (λ index inside. (step c s index inside).setting) in
        fit_state (state_after c s)
        (record {
          datalink = rw own.datalink facts.datalink;
          some = rw own.many facts.some;
          few = rw own.many facts.few;
          instance = rw own.instance_is (instance_fits c s e w s.instance facts.instance);
          context = rw own.context_is (context_fits c s e w s.context facts.context);
          each = λ index h. each_fits_lem index (omega (arith, own.many));
          apart = rw same facts.apart;
          primary = rw same facts.primary;
        })

  pub kept_fits : state_fits (state_after c s) ≡ true
  kept_fits = go (comes c s)
    where
      go : Comes s (Made c s) (after_call c s) → state_fits (state_after c s) ≡ true
      go (refused e same) = ap state_fits same ∙ fits
      go (made e m) = accepted_fits e m.writable

-- so no call after a run is refused by 19
pub run_fits : (cs : List Call) → BytesIn cs → (s : State) → state_fits s ≡ true → state_fits (states_after cs s) ≡ true
run_fits [] bytes s fits = fits
run_fits (c ∷ cs) bytes s fits = run_fits cs bytes.1 (state_after c s) (kept_fits c bytes.0 s fits)
