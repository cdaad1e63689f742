-- What 19 asks under raised limits: a state that fitted under the narrower fits under the wider. Assumes nothing.
use Prim.Native.Nat.{ℕ, ◌≤◌}
use mathlib.Core.Bool.{true, ◌&&◌, and-eq-true_iff}
use mathlib.Core.List.{List, [], ◌∷◌}
use mathlib.Core.Path.{◌≡◌, refl}
use native.Mathlib.Omega.{arith}
use borrow.Author.Tests.{leb-true, le-leb}
use lib.Dec.{leb}
use lib.ListN.{length}
use Rattle.quantity.specs.Limits.{FEWEST-CHANNELS, MOST-WAITING, SHORTEST-PACKET, Limits}
use Rattle.meaning.specs.declared.message.End.TheVariants as ends
use Rattle.meaning.specs.Kinds.{among}
use Rattle.writable.specs.Allowed.{status_allowed}
use Rattle.store.specs.declared.queue.Entry.{Entry}
use Rattle.store.specs.declared.queue.Queue.{Queue}
use Rattle.store.specs.Waiting.{waiting, total, within_under, all_within_under, well_formed_under}
use Rattle.ips_channel.specs.declared.state.Channel.{Channel}
use Rattle.ips_state.specs.State.{Configuration, State}
use Rattle.ips_state.specs.Limits.{setting_fits, flow_fits, channel_fits_under, all_fit_under, ids, distinct, channels_fit_under, count_fits_under, head_fits, state_fits_under, configuration_fits_under}
use Rattle.ips_state.specs.Memory.{memory_fits, World, world_fits_under}
use Rattle.ips_words_start.specs.Start.{configuration_in, starts_in_under}
use Rattle.wider_laws.specs.Earlier.{Raised, Each}
use Rattle.wider_laws.proofs.Each.{each_all}

-- ---- the part of 19 that goes by the limits: how many channels, and how long a waiting packet may be
abbrev pub NoLonger : ℕ → Entry → Type 0
NoLonger longest e = e.length.0 ≤ longest

abbrev pub ShortQueue : ℕ → Channel → Type 0
ShortQueue longest c = Each (NoLonger longest) (waiting c.queue)

pub record Bounded (limits : Limits) (s : State) : Type 0 where
  pub few : length s.channels ≤ limits.channels
  pub short : Each (ShortQueue limits.packet) s.channels

bounded_raised : {narrow wide : Limits} {s : State} → Raised narrow wide → Bounded narrow s → Bounded wide s
bounded_raised {s = s} up b = record {
  few = omega (arith, up.channels, b.few);
  short = each_all (λ c. each_all (λ e h. omega (arith, up.packet)) (waiting c.queue)) s.channels b.short;
}

-- ---- a state that fits is bounded
module _ (longest : ℕ) where
  entries_bounded : (es : List Entry) → all_within_under longest es ≡ true → Each (NoLonger longest) es
  unfolding all_within_under
  entries_bounded [] h = tt
  entries_bounded (e ∷ es) h =
      let a = (and-eq-true_iff (within_under longest e.length.0) (all_within_under longest es)).0 h in
      let b = (and-eq-true_iff (leb SHORTEST-PACKET e.length.0) (leb e.length.0 longest)).0 a.0 in
      (leb-true e.length.0 longest b.1, entries_bounded es a.1)

  queue_parts : (q : Queue) (size : ℕ) → well_formed_under longest q size ≡ true → (leb q.count MOST-WAITING ≡ true) × (all_within_under longest (waiting q) ≡ true) × (leb (total (waiting q)) size ≡ true)
  unfolding well_formed_under
  queue_parts q size h =
      let a = (and-eq-true_iff (leb q.count MOST-WAITING && all_within_under longest (waiting q)) (leb (total (waiting q)) size)).0 h in
      let b = (and-eq-true_iff (leb q.count MOST-WAITING) (all_within_under longest (waiting q))).0 a.0 in
      (b.0, b.1, a.1)

  record ChannelFacts (c : Channel) : Type 0 where
    setting : setting_fits c.setting ≡ true
    status : status_allowed ends.Radio c.status ≡ true
    flow : flow_fits c.setting.controlled c.flow ≡ true
    queue : well_formed_under longest c.queue c.setting.size.0 ≡ true

  channel_parts : (c : Channel) → channel_fits_under longest c ≡ true → ChannelFacts c
  unfolding channel_fits_under
  channel_parts c h =
      let a = (and-eq-true_iff (setting_fits c.setting) _).0 h in
      let b = (and-eq-true_iff (status_allowed ends.Radio c.status) _).0 a.1 in
      let d = (and-eq-true_iff (flow_fits c.setting.controlled c.flow) _).0 b.1 in
      record { setting = a.0; status = b.0; flow = d.0; queue = d.1 }

  channel_bounded : (c : Channel) → channel_fits_under longest c ≡ true → ShortQueue longest c
  channel_bounded c h = entries_bounded (waiting c.queue) (queue_parts c.queue c.setting.size.0 (channel_parts c h).queue).1

  all_parts : (c : Channel) (cs : List Channel) → all_fit_under longest (c ∷ cs) ≡ true → (channel_fits_under longest c ≡ true) × (all_fit_under longest cs ≡ true)
  unfolding all_fit_under
  all_parts c cs h = (and-eq-true_iff (channel_fits_under longest c) (all_fit_under longest cs)).0 h

  all_bounded : (cs : List Channel) → all_fit_under longest cs ≡ true → Each (ShortQueue longest) cs
  all_bounded [] h = tt
  all_bounded (c ∷ cs) h = let parts = all_parts c cs h in (channel_bounded c parts.0, all_bounded cs parts.1)

record StateParts (limits : Limits) (s : State) : Type 0 where
  some : leb FEWEST-CHANNELS (length s.channels) ≡ true
  few : leb (length s.channels) limits.channels ≡ true
  head : head_fits s ≡ true
  each : all_fit_under limits.packet s.channels ≡ true
  together : (distinct (ids s.channels) && among 0 (ids s.channels)) ≡ true

state_parts : (limits : Limits) (s : State) → state_fits_under limits s ≡ true → StateParts limits s
unfolding state_fits_under channels_fit_under
state_parts limits s h =
    let a = (and-eq-true_iff (count_fits_under limits.channels (length s.channels)) _).0 h in
    let b = (and-eq-true_iff (leb FEWEST-CHANNELS (length s.channels)) _).0 a.0 in
    let d = (and-eq-true_iff (head_fits s) _).0 a.1 in
    let f = (and-eq-true_iff (all_fit_under limits.packet s.channels) _).0 d.1 in
    record { some = b.0; few = b.1; head = d.0; each = f.0; together = f.1 }

pub state_bounded : (limits : Limits) (s : State) → state_fits_under limits s ≡ true → Bounded limits s
state_bounded limits s h = let p = state_parts limits s h in record {
  few = leb-true (length s.channels) limits.channels p.few;
  short = all_bounded limits.packet s.channels p.each;
}

-- ---- a state that fits under some limits fits under all that bound it
module _ (longest other : ℕ) where
  entries_again : (es : List Entry) → all_within_under longest es ≡ true → Each (NoLonger other) es → all_within_under other es ≡ true
  unfolding all_within_under
  entries_again [] h b = refl
  entries_again (e ∷ es) h b =
      let a = (and-eq-true_iff (within_under longest e.length.0) (all_within_under longest es)).0 h in
      let d = (and-eq-true_iff (leb SHORTEST-PACKET e.length.0) (leb e.length.0 longest)).0 a.0 in
      rw (d.0, le-leb e.length.0 other b.0) (entries_again es a.1 b.1)

  queue_again : (q : Queue) (size : ℕ) → well_formed_under longest q size ≡ true → Each (NoLonger other) (waiting q) → well_formed_under other q size ≡ true
  unfolding well_formed_under
  queue_again q size h b = let p = queue_parts longest q size h in rw (p.0, entries_again (waiting q) p.1 b, p.2)

  channel_again : (c : Channel) → channel_fits_under longest c ≡ true → ShortQueue other c → channel_fits_under other c ≡ true
  unfolding channel_fits_under
  channel_again c h b =
      let p = channel_parts longest c h in
      rw (p.setting, p.status, p.flow) (queue_again c.queue c.setting.size.0 p.queue b)

  all_again : (cs : List Channel) → all_fit_under longest cs ≡ true → Each (ShortQueue other) cs → all_fit_under other cs ≡ true
  unfolding all_fit_under
  all_again [] h b = refl
  all_again (c ∷ cs) h b = let parts = all_parts longest c cs h in rw (channel_again c parts.0 b.0) (all_again cs parts.1 b.1)

pub bounded_fits : (limits other : Limits) (s : State) → state_fits_under limits s ≡ true → Bounded other s → state_fits_under other s ≡ true
unfolding state_fits_under channels_fit_under
bounded_fits limits other s h b =
    let p = state_parts limits s h in
    rw (p.some, le-leb (length s.channels) other.channels b.few, p.head, all_again limits.packet other.packet s.channels p.each b.short) p.together

-- ---- raised limits
module _ (narrow wide : Limits) (up : Raised narrow wide) where
  -- "19 moves with the limits": what it let pass it lets pass
  pub state_raised : (s : State) → state_fits_under narrow s ≡ true → state_fits_under wide s ≡ true
  state_raised s h = bounded_fits narrow wide s h (bounded_raised up (state_bounded narrow s h))

  pub world_raised : (w : World) → world_fits_under narrow w ≡ true → world_fits_under wide w ≡ true
  world_raised w h =
      let p = (and-eq-true_iff (state_fits_under narrow w.state) (memory_fits w.state w.memory)).0 h in
      rw (state_raised w.state p.0) p.1

  configuration_raised : (k : Configuration) → configuration_fits_under narrow.channels k ≡ true → configuration_fits_under wide.channels k ≡ true
  unfolding configuration_fits_under
  configuration_raised k h =
      let a = (and-eq-true_iff (count_fits_under narrow.channels (length k.starts)) _).0 h in
      let b = (and-eq-true_iff (leb FEWEST-CHANNELS (length k.starts)) _).0 a.0 in
      let few : length k.starts ≤ wide.channels = omega (arith, up.channels, leb-true (length k.starts) narrow.channels b.1) in
      rw (b.0, le-leb (length k.starts) wide.channels few) a.1

  pub starts_raised : (configuration words memory : List ℕ) → starts_in_under narrow.channels configuration words memory ≡ true → starts_in_under wide.channels configuration words memory ≡ true
  unfolding starts_in_under
  starts_raised configuration words memory h =
      let k = configuration_in configuration in
      let a = (and-eq-true_iff (configuration_fits_under narrow.channels k) _).0 h in
      rw (configuration_raised k a.0) a.1
