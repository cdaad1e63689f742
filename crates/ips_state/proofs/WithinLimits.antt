-- A state is within the limits, fact by fact, exactly where `state_fits` says so. Assumes nothing.
use Rattle.std.specs.Prelude.{Option, Some, None}
use Prim.Native.Nat.{ℕ, zero, suc, ◌^◌, ◌≤◌, ◌<◌}
use mathlib.Core.Bool.{Bool, true, false, ◌&&◌, and-eq-true_iff}
use mathlib.Core.List.{List, [], ◌∷◌}
use mathlib.Core.Path.{◌≡◌, refl, sym, ◌∙◌}
use native.Mathlib.Omega.{arith}
use borrow.Author.Tests.{leb-true, ltb-true, le-leb, lt-ltb}
use lib.Dec.{leb, ltb}
use lib.ListN.{length, get_or}
use Rattle.facts.proofs.Tests.{clash}
use Rattle.quantity.specs.declared.count.LinkInstanceId.{LinkInstanceId}
use Rattle.quantity.specs.Limits.{MOST-WAITING, SHORTEST-PACKET, LONGEST-PACKET, HIGHEST-STATUS, SHORTEST-NAME, LONGEST-NAME}
use Rattle.meaning.specs.declared.message.End.TheVariants as ends
use Rattle.meaning.specs.declared.message.ContextBytes.{ContextBytes}
use Rattle.meaning.specs.Kinds.{length_listed}
use Rattle.writable.specs.Allowed.{instance_allowed, context_allowed, status_allowed}
use Rattle.store.specs.declared.queue.Entry.{Entry}
use Rattle.store.specs.declared.queue.Queue.{Queue}
use Rattle.store.specs.Waiting.{waiting, no_entry, within, all_within_under, all_within, well_formed_under, well_formed}
use Rattle.flow.specs.declared.Flow.{Flow}
use Rattle.ips_channel.specs.declared.state.Channel.{Channel}
use Rattle.ips_state.specs.State.{State, channel_at}
use Rattle.ips_state.specs.Limits.{flow_fits, channel_fits, ids, names_fit, state_fits, index_of}
use Rattle.ips_state.specs.WithinLimits.{QueueWithin, ChannelWithin, NameWithin, WithinLimits}
use Rattle.ips_state.proofs.Channels.{stands_among, distinct_by, all_by, ids_length, ids_at, ChannelFit, fitting_fits}
use Rattle.ips_state.proofs.Places.{fit, fit_fits, channel_fitting_at, index_one, found}

-- ---- what waits
Lengths : List Entry → Type 0
Lengths es = (k : ℕ) → k < length es → (SHORTEST-PACKET ≤ (get_or es k no_entry).length.0) × ((get_or es k no_entry).length.0 ≤ LONGEST-PACKET)

lengths_within : (es : List Entry) → Lengths es → all_within es ≡ true
unfolding all_within_under Lengths
lengths_within [] h = refl
lengths_within (e ∷ es) h =
    let first = h 0 (omega arith) in
    rw (le-leb _ _ first.0, le-leb _ _ first.1, lengths_within es (λ k l. h (suc k) (omega arith)))

within_lengths : (es : List Entry) → all_within es ≡ true → Lengths es
unfolding all_within_under Lengths
within_lengths [] e k h = absurd (omega arith)
within_lengths (x ∷ es) e zero h =
    let parts = (and-eq-true_iff (leb SHORTEST-PACKET x.length.0) _).0 ((and-eq-true_iff (within x.length.0) (all_within es)).0 e).0 in (leb-true _ _ parts.0, leb-true _ _ parts.1)
within_lengths (x ∷ es) e (suc k) h = within_lengths es ((and-eq-true_iff (within x.length.0) (all_within es)).0 e).1 k (omega arith)

queue_fits : (queue : Queue) (size : ℕ) → QueueWithin queue size → well_formed queue size ≡ true
unfolding well_formed_under Lengths
queue_fits queue size w = rw (le-leb _ _ w.few, lengths_within (waiting queue) w.lengths, le-leb _ _ w.room)

fits_queue : (queue : Queue) (size : ℕ) → well_formed queue size ≡ true → QueueWithin queue size
unfolding well_formed_under Lengths
fits_queue queue size e =
    let a = (and-eq-true_iff (leb queue.count MOST-WAITING && all_within (waiting queue)) _).0 e in
    let b = (and-eq-true_iff (leb queue.count MOST-WAITING) _).0 a.0 in
    record { few = leb-true _ _ b.0; lengths = within_lengths (waiting queue) b.1; room = leb-true _ _ a.1 }

-- ---- a channel
status_fits : (status : Option ℕ) → ((value : ℕ) → status ≡ Some value → value ≤ HIGHEST-STATUS) → status_allowed ends.Radio status ≡ true
status_fits None h = refl
status_fits (Some value) h = le-leb _ _ (h value refl)

flow_plain : (controlled : Bool) (flow : Flow) → (controlled ≡ false → flow ≡ Flow.Free) → flow_fits controlled flow ≡ true
flow_plain true flow h = refl
flow_plain false flow h = rw (h refl)

plain_flow : (controlled : Bool) (flow : Flow) → flow_fits controlled flow ≡ true → controlled ≡ false → flow ≡ Flow.Free
plain_flow true flow e p = clash (sym p)
plain_flow false Flow.Free e p = refl
plain_flow false Flow.NoWindow e p = clash e
plain_flow false (Flow.InForce window) e p = clash e

channel_fits_lem : (c : Channel) → ChannelWithin c → channel_fits c ≡ true
channel_fits_lem c w = fitting_fits c (record {
  unreserved = w.unreserved;
  smallest = w.smallest;
  largest = w.largest;
  status_allowed_lem = status_fits c.status w.highest;
  flow_fits_lem = flow_plain c.setting.controlled c.flow w.plain;
  well_formed_lem = queue_fits c.queue c.setting.size.0 w.queue_within;
})

fits_channel : (c : Channel) → ChannelFit c → ChannelWithin c
fits_channel c f = record {
  unreserved = f.unreserved;
  smallest = f.smallest;
  largest = f.largest;
  highest = λ value p. leb-true _ _ (rw p at f.status_allowed_lem);
  plain = plain_flow c.setting.controlled c.flow f.flow_fits_lem;
  queue_within = fits_queue c.queue c.setting.size.0 f.well_formed_lem;
}

-- ---- Link Instance and Context
abbrev name_fits : ℕ → ℕ → Bool
name_fits value size = (leb SHORTEST-NAME size && leb size LONGEST-NAME) && ltb value (256 ^ size)

name_fits_lem : (value size : ℕ) → NameWithin value size → name_fits value size ≡ true
name_fits_lem value size w = rw (le-leb _ _ w.shortest, le-leb _ _ w.longest, lt-ltb value (256 ^ size) w.fits)

fits_name : (value size : ℕ) → name_fits value size ≡ true → NameWithin value size
fits_name value size e =
    let a = (and-eq-true_iff (leb SHORTEST-NAME size && leb size LONGEST-NAME) _).0 e in
    let b = (and-eq-true_iff (leb SHORTEST-NAME size) _).0 a.0 in
    record { shortest = leb-true _ _ b.0; longest = leb-true _ _ b.1; fits = ltb-true value (256 ^ size) a.1 }

instance_fits : (x : Option (LinkInstanceId × ℕ)) → ((value : LinkInstanceId) (size : ℕ) → x ≡ Some (value, size) → NameWithin value.0 size) → instance_allowed ends.Radio x ≡ true
unfolding length_listed
instance_fits None h = refl
instance_fits (Some (value, size)) h = name_fits_lem value.0 size (h value size refl)

context_fits : (x : Option (ContextBytes × ℕ)) → ((value : ContextBytes) (size : ℕ) → x ≡ Some (value, size) → NameWithin value.0 size) → context_allowed ends.Radio x ≡ true
unfolding length_listed
context_fits None h = refl
context_fits (Some (value, size)) h = name_fits_lem value.0 size (h value size refl)

-- ---- a state
module _ (s : State) where
  ids_channel : (i : ℕ) → get_or (ids s.channels) i 0 ≡ (channel_at s i).setting.id
  unfolding channel_at
  ids_channel i = ids_at s.channels i

  pub within_fits : WithinLimits s → state_fits s ≡ true
  unfolding names_fit channel_at
  within_fits w = fit_fits s (record {
    some = w.some;
    few = w.few;
    names = rw (instance_fits s.instance w.instance_within, context_fits s.context w.context_within);
    waits = rw (lt-ltb 0 _ w.hello, lt-ltb 0 _ w.limit);
    each = all_by s.channels (λ i h. channel_fits_lem (channel_at s i) (w.each i h));
    apart =
        distinct_by (ids s.channels)
        (λ i j h l e. w.apart i j (omega (arith, ids_length s.channels)) (omega (arith, ids_length s.channels)) (sym (ids_channel i) ∙ e ∙ ids_channel j));
    primary =
        stands_among 0 (ids s.channels) w.primary
        (record { inside = omega (arith, w.primary_inside, ids_length s.channels); is = ids_channel w.primary ∙ w.primary_is });
  })

  pub fits_within : state_fits s ≡ true → WithinLimits s
  unfolding names_fit length_listed
  fits_within e =
      let f = fit s e in
      let names = (and-eq-true_iff (instance_allowed ends.Radio s.instance) _).0 f.names in
      let waits = (and-eq-true_iff (ltb 0 s.pacer.hello) _).0 f.waits in
      record {
        some = f.some;
        few = f.few;
        each = λ index inside. fits_channel (channel_at s index) (channel_fitting_at s e index inside);
        apart = λ i j a b p. sym (index_one s e i (channel_at s j).setting.id a p) ∙ index_one s e j (channel_at s j).setting.id b refl;
        primary = index_of 0 (ids s.channels);
        primary_inside = (found s 0 f.primary).0;
        primary_is = (found s 0 f.primary).1;
        hello = ltb-true 0 _ waits.0;
        limit = ltb-true 0 _ waits.1;
        instance_within = λ value size p. fits_name value.0 size (rw p at names.0);
        context_within = λ value size p. fits_name value.0 size (rw p at names.1);
      }
