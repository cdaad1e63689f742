-- Number 19 is given exactly if the state is outside the limits. Assumes nothing.
use Rattle.std.specs.Prelude.{Option, Some, None}
use Rattle.quantity.specs.declared.count.LinkInstanceId.{LinkInstanceId}
use Rattle.meaning.specs.declared.message.ContextBytes.{ContextBytes}
use Prim.Native.Nat.{ℕ, ◌^◌, ◌<◌}
use mathlib.Core.Bool.{true, ◌&&◌, and-eq-true_iff}
use mathlib.Core.Logic.{◌↔◌}
use mathlib.Core.Path.{◌≡◌, refl, sym, ◌∙◌}
use native.Mathlib.Omega.{arith}
use borrow.Author.Tests.{leb-true, le-leb, ltb-true, lt-ltb, eq-eqb}
use lib.Dec.{leb, ltb}
use lib.ListN.{length, get_or}
use Rattle.quantity.specs.declared.count.FlowSequence.{FlowSequence}
use Rattle.quantity.specs.Limits.{RESERVED-CHANNEL, HIGHEST-STATUS, MOST-ALLOWANCE}
use Rattle.meaning.specs.declared.message.End.TheVariants as ends
use Rattle.meaning.specs.Kinds.{length_listed}
use Rattle.writable.specs.Allowed.{instance_allowed, context_allowed}
use Rattle.radio_end_state.specs.declared.channel.Channel.{Channel}
use Rattle.radio_end_state.specs.State.{State, channel_at}
use Rattle.radio_end_state.specs.Limits.{index_of, stands_first, highest_fits, channel_fits, ids, state_fits}
use Rattle.radio_end_state.proofs.UpTo.{up_to_by}
use Rattle.radio_end_state.proofs.Fit.{channel_fit, fit_facts, fit_state, ids_at, ids_length}
use Rattle.radio_end_laws.specs.Plain.{Spelled, ContextWritable, InstanceWritable}
use Rattle.radio_end_laws.specs.Limits.{ChannelWithin, WithinLimits}
use Rattle.radio_end_laws.proofs.Places.{index_is, index_least, has_exactly, stands_first_lem}

-- a test that always passes
pub always : (true ≡ true) ↔ Unit {0}
always = (λ e. tt, λ x. refl)

-- ---- what can be written
spelled_exactly : (number size : ℕ) → (((leb 1 size && leb size 8) && ltb number (256 ^ size)) ≡ true) ↔ Spelled number size
spelled_exactly number size = (
  λ e.
      let a = (and-eq-true_iff (leb 1 size && leb size 8) (ltb number (256 ^ size))).0 e in
      let b = (and-eq-true_iff (leb 1 size) (leb size 8)).0 a.0 in
      (leb-true 1 size b.0, leb-true size 8 b.1, ltb-true number (256 ^ size) a.1),
  λ x. rw (le-leb 1 size x.0, le-leb size 8 x.1, lt-ltb number (256 ^ size) x.2),
)

pub context_writable : (context : Option (ContextBytes × ℕ)) → (context_allowed ends.Radio context ≡ true) ↔ ContextWritable context
unfolding length_listed
context_writable None = always
context_writable (Some (bytes, size)) = spelled_exactly bytes.0 size

pub instance_writable : (instance : Option (LinkInstanceId × ℕ)) → (instance_allowed ends.Radio instance ≡ true) ↔ InstanceWritable instance
unfolding length_listed
instance_writable None = always
instance_writable (Some (number, size)) = spelled_exactly number.0 size

-- ---- a channel
word_fits : (highest : Option FlowSequence) → ((h : FlowSequence) → highest ≡ Some h → h.0 < 4294967296) → highest_fits highest ≡ true
word_fits None f = refl
word_fits (Some h) f = lt-ltb h.0 (2 ^ 32) (f h refl)

fits_word : (highest : Option FlowSequence) → highest_fits highest ≡ true → (h : FlowSequence) → highest ≡ Some h → h.0 < 4294967296
fits_word highest e h is = ltb-true h.0 (2 ^ 32) (rw is at e)

channel_within : (c : Channel) → channel_fits c ≡ true → ChannelWithin c
channel_within c e =
    let f = channel_fit c e in
    record { unreserved = f.unreserved; watermark = f.watermark; throughput = f.throughput; status = f.status; highest = fits_word c.highest f.highest }

within_channel : (c : Channel) → ChannelWithin c → channel_fits c ≡ true
unfolding channel_fits
within_channel c w =
    rw (lt-ltb c.setting.id RESERVED-CHANNEL w.unreserved, le-leb c.setting.watermark.0 MOST-ALLOWANCE w.watermark, le-leb c.setting.throughput.0 MOST-ALLOWANCE w.throughput, le-leb c.status HIGHEST-STATUS w.status)
    (word_fits c.highest w.highest)

-- ---- the state
module _ (s : State) where
  fits_within : state_fits s ≡ true → WithinLimits s
  fits_within fits =
      let f = fit_facts s fits in
      record {
        datalink = f.datalink;
        some = f.some;
        few = f.few;
        instance = (instance_writable s.instance).0 f.instance;
        context = (context_writable s.context).0 f.context;
        each = λ index h. channel_within (channel_at s index) (f.each index h);
        apart = λ first second h k e.
            sym (stands_first_lem s fits (channel_at s second).setting.id first (record { inside = h; is = e })) ∙ stands_first_lem s fits (channel_at s second).setting.id second (record { inside = k; is = refl });
        primary = (has_exactly s 0).0 f.primary;
      }

  first_places : WithinLimits s → (i : ℕ) → i < length (ids s.channels) → stands_first (ids s.channels) i ≡ true
  unfolding channel_at
  first_places w i h =
      let ns = ids s.channels in
      let id = get_or ns i 0 in
      let least = index_least id ns i h refl in
      let near : index_of id ns < length ns = omega (arith, least, h) in
      let long = ids_length s.channels in
      let same : (channel_at s (index_of id ns)).setting.id ≡ (channel_at s i).setting.id = sym (ids_at s.channels (index_of id ns)) ∙ index_is id ns near ∙ ids_at s.channels i in
      eq-eqb (index_of id ns) i (w.apart (index_of id ns) i (omega (arith, near, long)) (omega (arith, h, long)) same)

  within_fits : WithinLimits s → state_fits s ≡ true
  within_fits w =
      fit_state s
      (record {
        datalink = w.datalink;
        some = w.some;
        few = w.few;
        instance = (instance_writable s.instance).1 w.instance;
        context = (context_writable s.context).1 w.context;
        each = λ index h. within_channel (channel_at s index) (w.each index h);
        apart = up_to_by (stands_first (ids s.channels)) (length (ids s.channels)) (first_places w);
        primary = (has_exactly s 0).1 w.primary;
      })

  pub limits_exactly : (state_fits s ≡ true) ↔ WithinLimits s
  limits_exactly = (fits_within, within_fits)
