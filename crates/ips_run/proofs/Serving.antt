-- What a call on the channel at an index leaves: that channel and its store as the rules have it, every other channel and store as they were. Assumes nothing.
use Prim.Native.Nat.{ℕ, ◌<◌}
use mathlib.Core.Bool.{true}
use mathlib.Core.List.{List}
use mathlib.Core.Path.{◌≡◌, refl, sym, ap, ◌∙◌}
use native.Mathlib.Omega.{arith}
use lib.ListN.{length}
use Rattle.store.specs.Waiting.{store_of}
use Rattle.store.proofs.Held.{packets_of_lem}
use Rattle.ips_channel_rules.specs.Rules as rules
use Rattle.ips_channel_rules.specs.Rules.{ChannelCall, Says, Answer, refused, answered, unless_refused, Event, Happened, Terms, Condition, AfterCall, call_at}
use Rattle.ips_channel_rules.specs.Machine.{machine}
use Rattle.ips_channel_rules.specs.Account.{is_call}
use Rattle.ips_channel_rules.proofs.Leaves.{Leaves, stays, joins, looks, sends, clears, hears, leaves}
use Rattle.ips_channel.specs.declared.state.Setting.{Setting}
use Rattle.ips_channel.specs.declared.state.Channel.{Channel}
use Rattle.ips_channel.specs.Channel.{terms_of, condition_of, with_condition}
use Rattle.ips_channel_calls.specs.Calls.{channel_after, store_after, Ready}
use Rattle.ips_channel_calls.proofs.Again as calls
use Rattle.ips_channel_calls.proofs.Again.{Again}
use Rattle.ips_state.specs.State.{with_channel}
use Rattle.ips_state.specs.Limits.{channel_fits}
use Rattle.ips_state.specs.Memory.{memory_fits, World, channel_in, store_in}
use Rattle.ips_state.proofs.Channels.{ChannelFit, fitting_fits}
use Rattle.ips_state.proofs.Places.{channel_fitting_at, with_count, at_with_same, at_with_other, fits_kept, memory_kept, store_at_kept, store_length, with_length, store_with_same, store_with_other}
use Rattle.ips_run.specs.Calling.{terms_in, condition_in, result_in, putting_back}
use Rattle.ips_run.specs.Demand.{InOrder, Tidy, AsRuled}

-- ---- one channel: a call leaves status and flow state
record Calm (st st' : Condition machine) : Type 0 where
  status : st'.status ≡ st.status
  flow : st'.counting.flow ≡ st.counting.flow

calm : (k : Terms) {e : Event} {st : Condition machine} {h : Happened} {st' : Condition machine} → Leaves machine k e st h st' → is_call e → Calm st st'
calm k stays q = record { status = refl; flow = refl }
calm k (joins t x) q = record { status = refl; flow = refl }
calm k (looks n t) q = record { status = refl; flow = refl }
calm k (sends t w f) q = record { status = refl; flow = refl }
calm k clears q = record { status = refl; flow = refl }
calm k hears q = absurd q

status_of_lem : (c : Channel) (store : List ℕ) {st : Condition machine} → condition_of c store ≡ st → c.status ≡ st.status
unfolding condition_of
status_of_lem c store e = ap (λ (st : Condition machine). st.status) e

flow_of_lem : (c : Channel) (store : List ℕ) {st : Condition machine} → condition_of c store ≡ st → c.flow ≡ st.counting.flow
unfolding condition_of
flow_of_lem c store e = ap (λ (st : Condition machine). st.counting.flow) e

-- ---- lent memory stays tidy
module _ (c : Channel) (store : List ℕ) where
  made : (st : Condition machine) → Tidy (with_condition c st) (store_of c.setting.size.0 st.keeping)
  unfolding with_condition
  made st = rw (packets_of_lem c.setting.size.0 st.keeping) (record { queue_is = refl; store_is = refl })

  -- a refusal leaves what was there; any other answer leaves the store so "even if other bytes stood there"
  pub tidy_unless : {A : Type 0} (r : AfterCall machine A) → ((number : ℕ) → r.answer ≡ refused number → Tidy c store) → Tidy (channel_after c r) (store_after c store r)
  unfolding channel_after store_after
  tidy_unless {A} r before = by r.answer before
    where
      by : (a : Answer A) → ((number : ℕ) → a ≡ refused number → Tidy c store)
          → Tidy (unless_refused a c (with_condition c r.condition)) (unless_refused a store (store_of c.setting.size.0 r.condition.keeping))
      by (refused number) t = t number refl
      by (answered says) t = made r.condition

-- ---- a channel of a world that is in order
module _ (count : ℕ) (w : World) (o : InOrder count w) (at : ℕ) (inside : at < count) where
  abbrev c : Channel
  c = channel_in w at

  abbrev store : List ℕ
  store = store_in w at

  pub here : at < length w.state.channels
  here = omega (arith, o.counted)

  pub fitting_here : ChannelFit (channel_in w at)
  fitting_here = channel_fitting_at w.state o.state_fits_lem at here

  pub ready : Ready (channel_in w at) (store_in w at)
  ready = record { id = fitting_here.unreserved; well = fitting_here.well_formed_lem; size = store_length w.state at w.memory o.memory_fits_lem here }

  -- ---- a call on it
  module _ (call : ChannelCall) where
    abbrev result : AfterCall machine (Says call)
    result = result_in call w at

    abbrev served : World
    served = putting_back result w at

    again : Again c result.condition (channel_after c result) (store_after c store result)
    again = calls.after c store ready w.state.datalink call

    id_kept : (channel_after c result).setting.id ≡ c.setting.id
    id_kept = ap (λ (x : Setting). x.id) again.setting

    size_kept : (channel_after c result).setting.size ≡ c.setting.size
    size_kept = ap (λ (x : Setting). x.size) again.setting

    long : length (store_after c store result) ≡ c.setting.size.0
    long = again.ready.size ∙ ap (λ (x : Setting). x.size.0) again.setting

    still : Calm (condition_in w at) result.condition
    still = calm (terms_in w at) (leaves machine (terms_in w at) (rules.call call) (condition_in w at)) tt

    new_fits : channel_fits (channel_after c result) ≡ true
    new_fits =
        let d = channel_after c result in
        let left = store_after c store result in
        let status : d.status ≡ c.status = status_of_lem d left again.condition ∙ still.status ∙ sym (status_of_lem c store refl) in
        let flow : d.flow ≡ c.flow = flow_of_lem d left again.condition ∙ still.flow ∙ sym (flow_of_lem c store refl) in
        fitting_fits d (record {
          unreserved = again.ready.id;
          smallest = rw again.setting fitting_here.smallest;
          largest = rw again.setting fitting_here.largest;
          status_allowed_lem = rw status fitting_here.status_allowed_lem;
          flow_fits_lem = rw (again.setting, flow) fitting_here.flow_fits_lem;
          well_formed_lem = again.ready.well;
        })

    pub served_order : InOrder count served
    unfolding memory_fits
    served_order = record {
      counted = with_count w.state at (channel_after c result) ∙ o.counted;
      state_fits_lem = fits_kept w.state at (channel_after c result) o.state_fits_lem new_fits id_kept;
      memory_fits_lem = memory_kept w.state at (channel_after c result) size_kept served.memory ∙ rw (with_length w.state at w.memory o.memory_fits_lem here (store_after c store result) long) o.memory_fits_lem;
    }

    with_datalink_lem : served.state.datalink ≡ w.state.datalink
    unfolding with_channel
    with_datalink_lem = refl

    -- the channel itself
    pub at_same : channel_in served at ≡ channel_after c result
    at_same = at_with_same w.state at (channel_after c result) here

    pub store_same : store_in served at ≡ store_after c store result
    store_same =
        store_at_kept w.state at (channel_after c result) size_kept at served.memory
        ∙ store_with_same w.state at w.memory o.memory_fits_lem here (store_after c store result) long

    pub ruled_same : (k : Terms) (st : Condition machine) → AsRuled k w.state.datalink c store st
        → AsRuled k served.state.datalink (channel_in served at) (store_in served at) (call_at machine k call st).condition
    ruled_same k st before =
        rw (store_same, at_same, with_datalink_lem, ← before.terms, ← before.condition)
        (record {
          terms = ap (terms_of w.state.datalink) again.setting;
          condition = again.condition;
          tidy = tidy_unless c store result (λ number e. before.tidy);
        })

    -- any other channel
    module _ (other : ℕ) (there : other < length w.state.channels) (apart : other ≡ at → ⊥) where
      pub at_other : channel_in served other ≡ channel_in w other
      at_other = at_with_other w.state at (channel_after c result) other apart

      pub store_other : store_in served other ≡ store_in w other
      store_other =
          store_at_kept w.state at (channel_after c result) size_kept other served.memory
          ∙ store_with_other w.state at w.memory o.memory_fits_lem here (store_after c store result) long other there apart

      pub ruled_other : (k : Terms) (st : Condition machine) → AsRuled k w.state.datalink (channel_in w other) (store_in w other) st
          → AsRuled k served.state.datalink (channel_in served other) (store_in served other) st
      ruled_other k st before = rw (store_other, at_other, with_datalink_lem) before
