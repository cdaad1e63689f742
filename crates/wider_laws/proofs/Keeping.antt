-- A call leaves words that 19 lets pass; a call under narrower limits leaves words that fit under those. Assumes nothing.
use Prim.Native.Nat.{ℕ, ◌≤◌, ◌<◌}
use mathlib.Core.Bool.{Bool, true, false, and-eq-true_iff, cond}
use mathlib.Core.List.{List, [], ◌∷◌}
use mathlib.Core.Logic.{inl}
use mathlib.Core.Path.{◌≡◌, refl, sym, ap, ◌∙◌}
use native.Mathlib.Nat.{min-le_left}
use native.Mathlib.Omega.{arith}
use lib.ListN.{length, drop, length-take}
use Rattle.facts.proofs.Tests.{by_le}
use Rattle.quantity.specs.Limits.{Limits, CURRENT-LIMITS}
use Rattle.quantity.specs.Refusals.{NOT-IPV6, LONG-PACKET}
use Rattle.meaning.specs.declared.message.Control.{Control}
use Rattle.store.specs.declared.queue.Entry.{Entry}
use Rattle.store.specs.Packets.{Packet, alive}
use Rattle.store.specs.Waiting.{waiting, cut, packets_of, entry_of}
use Rattle.store.proofs.Held.{waiting_of}
use Rattle.ipv6.specs.Ipv6.{is_ipv6}
use Rattle.ips_channel_rules.specs.Rules as rules
use Rattle.ips_channel_rules.specs.Rules.{ChannelCall, offer, next, withdraw, Says, Answer, refused, answered, unless_refused, Event, Happened, Terms, Condition, AfterCall, refusal, offer_at}
use Rattle.ips_channel_rules.specs.Machine.{machine}
use Rattle.ips_channel_rules.proofs.Exact.{offer_not_ipv6, offer_long}
use Rattle.ips_channel_rules.proofs.Limits.{machine_limited}
use Rattle.ips_channel_rules.proofs.Leaves.{Leaves, stays, joins, looks, sends, clears, hears, leaves}
use Rattle.ips_channel.specs.declared.state.DatalinkSetting.{DatalinkSetting}
use Rattle.ips_channel.specs.declared.state.Setting.{Setting}
use Rattle.ips_channel.specs.declared.state.Channel.{Channel}
use Rattle.ips_channel.specs.Channel.{terms_under, terms_of, condition_of, with_condition, heard_of}
use Rattle.ips_channel_calls.specs.Calls.{channel_after, store_after, result_of}
use Rattle.pacer.specs.Pacing.{pacer_fits, is_silent, asked, heard_at, moved_to}
use Rattle.ips_state.specs.State.{with_pacer, State, no_channel, channel_at, with_channel}
use Rattle.ips_state.specs.Limits.{state_fits_under}
use Rattle.ips_state.specs.Memory.{memory_fits, World, world_fits_under, world_fits, is_configured, index_in, channel_in, store_in}
use Rattle.ips_state.proofs.Places.{fit, found, with_count, store_back}
use Rattle.ips_radio.specs.Heard.{heard_from, heard_by, silenced, silenced_by}
use Rattle.ips_radio.proofs.Hearings.{heard_count, silenced_count}
use Rattle.ips_run.specs.Calling.{condition_in, result_in_under, result_in, WorldResult, calling_under, Judged, outside, unknown, served}
use Rattle.ips_run.specs.Run.{Call, on, radio, pace, query, Received, dropped, carried, stated, received_in, in_time, received, paced_by, with_state, after_under, after}
use Rattle.ips_run.specs.Demand.{bytes_in, InOrder}
use Rattle.ips_run.proofs.Exact.{judged}
use Rattle.ips_run.proofs.Ordered.{in_order, order_fits, called_order}
use Rattle.ips_run.proofs.Hearing.{Brings, nothing, packet, message, brings, heard_order, silenced_order, paced_order}
use Rattle.endpoint.specs.Lent.{Lent, world_in, words_called_under, after_in_under, after_in}
use Rattle.endpoint.proofs.Simulating.{step_in}
use Rattle.wider_laws.specs.Earlier.{Raised, Each, ShortOn, Short, fits_for_under}
use Rattle.wider_laws.proofs.Each.{each_all, each_at, each_set, each_join, each_tail, each_lasting, each_map}
use Rattle.wider_laws.proofs.Fitting.{NoLonger, ShortQueue, Bounded, state_bounded, bounded_fits, world_raised}
use Rattle.wider_laws.proofs.Calling.{after_same}

-- ---- the packets that wait
module _ (longest : ℕ) where
  abbrev ShortPacket : Packet → Type 0
  ShortPacket p = length p.bytes ≤ longest

  cut_short : (es : List Entry) (bytes : List ℕ) → Each (NoLonger longest) es → Each ShortPacket (cut es bytes)
  unfolding cut
  cut_short [] bytes h = tt
  cut_short (e ∷ es) bytes h =
      let n = e.length.0 in
      (omega (arith, h.0, length-take n bytes, min-le_left n (length bytes)), cut_short es (drop n bytes) h.1)

  abbrev ShortEvent : Event → Type 0
  ShortEvent (rules.call c) = ShortOn longest c
  ShortEvent (rules.radio status window) = Unit {0}

  each_alive : (time : ℕ) (ps : List Packet) → Each ShortPacket ps → Each ShortPacket (alive time ps)
  each_alive = each_lasting ShortPacket (λ (p : Packet). p.expiry)

  left_short : (k : Terms) {e : Event} {st : Condition machine} {h : Happened} {st' : Condition machine} → Leaves machine k e st h st' → ShortEvent e
      → Each ShortPacket st.keeping → Each ShortPacket st'.keeping
  left_short k stays short all = all
  left_short k (joins {p} {time} {st} t x) short all = each_join ShortPacket (alive time st.keeping) p (each_alive time st.keeping all) short
  left_short k (looks {time} {out} {st} n t) short all = each_alive time st.keeping all
  left_short k (sends {time} {out} {st} t w f) short all = each_tail ShortPacket (alive time st.keeping) (each_alive time st.keeping all)
  left_short k clears short all = tt
  left_short k hears short all = all

  -- ---- the queue of a channel, after a call and after a radio message
  held_short : (c : Channel) (st : Condition machine) → Each ShortPacket st.keeping → ShortQueue longest (with_condition c st)
  unfolding with_condition entry_of
  held_short c st all = rw (waiting_of st.keeping) (each_map (NoLonger longest) entry_of st.keeping all)

  module _ (datalink : DatalinkSetting) (call : ChannelCall) (short : ShortOn longest call) (c : Channel) (store : List ℕ) (all : ShortQueue longest c) where
    abbrev r : AfterCall machine (Says call)
    r = result_of datalink call c store

    kept_short : Each ShortPacket r.condition.keeping
    unfolding condition_of packets_of
    kept_short =
        let k = terms_of datalink c.setting in
        left_short k (leaves machine k (rules.call call) (condition_of c store)) short (cut_short (waiting c.queue) store all)

    after_short : ShortQueue longest (channel_after c r)
    unfolding channel_after
    after_short = by r.answer
      where
        by : (a : Answer (Says call)) → ShortQueue longest (unless_refused a c (with_condition c r.condition))
        by (refused number) = all
        by (answered says) = held_short c r.condition kept_short

  heard_short : (m : Control) (c : Channel) → ShortQueue longest c → ShortQueue longest (heard_from m c)
  unfolding heard_from heard_of
  heard_short m c all = all

  silenced_short : (c : Channel) → ShortQueue longest c → ShortQueue longest (silenced c)
  unfolding silenced heard_of
  silenced_short c all = all

-- ---- a packet longer than the longest is refused: 13 if it isn't IPv6, else 14
module _ (longest : ℕ) (datalink : DatalinkSetting) (setting : Setting) (p : Packet) (time : ℕ) (over : longest < length p.bytes) (st : Condition machine) where
  long_refused : {A : Type 0} → ((number : ℕ) → offer_at machine (terms_under longest datalink setting) p time st ≡ refusal machine number st → A) → A
  long_refused {A} f = go (is_ipv6 p.bytes) refl
    where
      k : Terms
      k = terms_under longest datalink setting

      go : (b : Bool) → is_ipv6 p.bytes ≡ b → A
      go true v = f LONG-PACKET (offer_long machine k p time st v ((machine_limited.long k (length p.bytes)).1 (inl over)))
      go false v = f NOT-IPV6 (offer_not_ipv6 machine k p time st v)

-- ---- a world that 19 lets pass, after a call
module _ (count : ℕ) (w : World) (o : InOrder count w) where
  waits_here : pacer_fits w.state.pacer ≡ true
  waits_here = (fit w.state o.state_fits_lem).waits

  received_order : (time : ℕ) {r : Received} → Brings r → InOrder count (with_state w (received time r w.state))
  unfolding moved_to heard_at
  received_order time nothing = o
  received_order time packet = paced_order count w o (moved_to time w.state.pacer) waits_here
  received_order time (message m allowed) =
      paced_order count (with_state w (heard_by m w.state)) (heard_order count w o m allowed) (heard_at time w.state.pacer) waits_here

  asked_order : (time : ℕ) (silent : Bool) → InOrder count (with_state w (with_pacer (cond silent (silenced_by w.state) w.state) (asked time w.state.pacer)))
  unfolding asked
  asked_order time true = paced_order count (with_state w (silenced_by w.state)) (silenced_order count w o) (asked time w.state.pacer) waits_here
  asked_order time false = paced_order count w o (asked time w.state.pacer) waits_here

  order_kept : (c : Call) → bytes_in c → InOrder count (after c w)
  unfolding after_under paced_by
  order_kept (on id c) bytes = called_order count w o id c (judged id c w)
  order_kept (radio time datagram) bytes = go (in_time time w.state)
    where
      go : (t : Bool) → InOrder count (cond t (with_state w (received time (received_in w.state.datalink.id datagram) w.state)) w)
      go true = received_order time (brings w.state.datalink.id datagram bytes)
      go false = o
  order_kept (pace time) bytes = go (in_time time w.state)
    where
      go : (t : Bool) → InOrder count (cond t (with_state w (paced_by time w.state)) w)
      go true = asked_order time (is_silent time w.state.pacer)
      go false = o
  order_kept (query out) bytes = o

-- no call on words that 19 lets pass leaves words that it refuses, whatever the length of the packet that was taken
pub fits_stay : (c : Call) → bytes_in c → (l : Lent) → world_fits (world_in l) ≡ true → world_fits (world_in (after_in c l)) ≡ true
fits_stay c bytes l fits =
    let o = order_kept (length (world_in l).state.channels) (world_in l) (in_order (world_in l) fits) c bytes in
    ap world_fits (step_in c bytes l) ∙ order_fits o

-- ---- a world that is bounded by narrower limits, after a call with a short packet
module _ (narrow : Limits) where
  module _ (w : World) (b : Bounded narrow w.state) where
    called_bounded : (id : ℕ) (c : ChannelCall) → ShortOn narrow.packet c → {r : WorldResult (Says c)} → Judged id c w r → Bounded narrow r.world.state
    unfolding channel_at with_channel
    called_bounded id c short (outside f) = b
    called_bounded id c short (unknown f g) = b
    called_bounded id c short (served f g) =
        let index = index_in w id in
        let old : ShortQueue narrow.packet (channel_in w index) = each_at (ShortQueue narrow.packet) w.state.channels index no_channel (found w.state id g).0 b.short in
        let new = channel_after (channel_in w index) (result_in c w index) in
        record {
          few = rw (with_count w.state index new) b.few;
          short = each_set (ShortQueue narrow.packet) w.state.channels index new (after_short narrow.packet w.state.datalink c short (channel_in w index) (store_in w index) old) b.short;
        }

  received_bounded : (time : ℕ) (r : Received) (s : State) → Bounded narrow s → Bounded narrow (received time r s)
  unfolding heard_by with_pacer
  received_bounded time dropped s b = b
  received_bounded time carried s b = record { few = b.few; short = b.short }
  received_bounded time (stated m) s b = record {
    few = rw (heard_count m s) b.few;
    short = each_map (ShortQueue narrow.packet) (heard_from m) s.channels (each_all (heard_short narrow.packet m) s.channels b.short);
  }

  asked_bounded : (time : ℕ) (silent : Bool) (s : State) → Bounded narrow s → Bounded narrow (with_pacer (cond silent (silenced_by s) s) (asked time s.pacer))
  unfolding silenced_by with_pacer
  asked_bounded time true s b = record {
    few = rw (silenced_count s) b.few;
    short = each_map (ShortQueue narrow.packet) silenced s.channels (each_all (silenced_short narrow.packet) s.channels b.short);
  }
  asked_bounded time false s b = record { few = b.few; short = b.short }

  bounded_kept : (c : Call) → Short narrow.packet c → (w : World) → Bounded narrow w.state → Bounded narrow (after c w).state
  unfolding after_under paced_by
  bounded_kept (on id c) short w b = called_bounded w b id c short (judged id c w)
  bounded_kept (radio time datagram) short w b = go (in_time time w.state)
    where
      go : (t : Bool) → Bounded narrow (cond t (with_state w (received time (received_in w.state.datalink.id datagram) w.state)) w).state
      go true = received_bounded time (received_in w.state.datalink.id datagram) w.state b
      go false = b
  bounded_kept (pace time) short w b = go (in_time time w.state)
    where
      go : (t : Bool) → Bounded narrow (cond t (with_state w (paced_by time w.state)) w).state
      go true = asked_bounded time (is_silent time w.state.pacer) w.state b
      go false = b
  bounded_kept (query out) short w b = b

  pub ordered_fits : {count : ℕ} (w : World) → InOrder count w → Bounded narrow w.state → world_fits_under narrow w ≡ true
  ordered_fits w o b = rw (bounded_fits CURRENT-LIMITS narrow w.state o.state_fits_lem b) o.memory_fits_lem

  pub fits_for : (c : Call) (w : World) → world_fits_under narrow w ≡ true → fits_for_under narrow c w ≡ true
  fits_for (on id c) w fits = fits
  fits_for (radio time datagram) w fits = ((and-eq-true_iff (state_fits_under narrow w.state) (memory_fits w.state w.memory)).0 fits).0
  fits_for (pace time) w fits = ((and-eq-true_iff (state_fits_under narrow w.state) (memory_fits w.state w.memory)).0 fits).0
  fits_for (query out) w fits = ((and-eq-true_iff (state_fits_under narrow w.state) (memory_fits w.state w.memory)).0 fits).0

  -- ---- words that fit under narrower limits than those in force: so do those that are left
  module _ (up : Raised narrow CURRENT-LIMITS) (l : Lent) (fits : world_fits_under narrow (world_in l) ≡ true) where
    abbrev w : World
    w = world_in l

    -- of a call with a short packet
    left_by_short : (c : Call) → bytes_in c → Short narrow.packet c → world_fits_under narrow (world_in (after_in_under narrow c l)) ≡ true
    left_by_short c bytes short =
        let same : after_in_under narrow c l ≡ after_in c l = sym (after_same narrow CURRENT-LIMITS up c short l (fits_for c w fits)) in
        let order = order_kept (length w.state.channels) w (in_order w (world_raised narrow CURRENT-LIMITS up w fits)) c bytes in
        let b = state_bounded narrow w.state (fits_for (query []) w fits) in
        ap (λ (x : Lent). world_fits_under narrow (world_in x)) same ∙ ap (world_fits_under narrow) (step_in c bytes l) ∙ ordered_fits (after c w) order (bounded_kept c short w b)

    -- a longer packet is refused under the narrower limit, 13 or 14, and every word and byte is left
    left_by_long : (id : ℕ) (p : Packet) (time : ℕ) → narrow.packet < length p.bytes → after_in_under narrow (on id (offer p time)) l ≡ l
    unfolding after_in_under words_called_under calling_under store_after
    left_by_long id p time over = go (is_configured w id) refl
      where
        index : ℕ
        index = index_in w id

        served_long : {number : ℕ} → result_in_under narrow.packet (offer p time) w index ≡ refusal machine number (condition_in w index) → is_configured w id ≡ true
            → after_in_under narrow (on id (offer p time)) l ≡ l
        served_long is e = rw (fits, e, is, store_back w.state index l.memory)

        go : (b : Bool) → is_configured w id ≡ b → after_in_under narrow (on id (offer p time)) l ≡ l
        go true e = long_refused narrow.packet w.state.datalink (channel_in w index).setting p time over (condition_in w index) (λ number is. served_long is e)
        go false e = rw (fits, e)

    -- and so of any call
    pub fits_left : (c : Call) → bytes_in c → world_fits_under narrow (world_in (after_in_under narrow c l)) ≡ true
    fits_left (on id (offer p time)) bytes =
        by_le (length p.bytes) narrow.packet (left_by_short (on id (offer p time)) bytes)
        (λ over. ap (λ (x : Lent). world_fits_under narrow (world_in x)) (left_by_long id p time over) ∙ fits)
    fits_left (on id (next time out)) bytes = left_by_short (on id (next time out)) bytes tt
    fits_left (on id withdraw) bytes = left_by_short (on id withdraw) bytes tt
    fits_left (radio time datagram) bytes = left_by_short (radio time datagram) bytes tt
    fits_left (pace time) bytes = left_by_short (pace time) bytes tt
    fits_left (query out) bytes = left_by_short (query out) bytes tt
