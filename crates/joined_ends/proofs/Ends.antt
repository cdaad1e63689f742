-- Both ends joined, with all their channels and calls: on each channel that is flow-controlled at both, the endpoint never sends past the highest window that the radio's
-- end has ever granted. Assumes nothing.
use Rattle.std.specs.Prelude.{Option, None}
use Prim.Native.Nat.{ℕ, ◌+◌, ◌^◌, ◌<◌, ◌≤◌, max}
use mathlib.Core.Path.{◌≡◌, refl, sym, ap, subst, ◌∙◌}
use mathlib.Core.Bool.{Bool, true, false, cond}
use mathlib.Core.List.Memᴰ
use mathlib.Core.List.{List, [], ◌∷◌, ◌++◌, map, Memᴰ}
use mathlib.Core.Logic.{◌⊎◌, inl, inr, ⊎_elim}
use native.Mathlib.Omega.{arith}
use lib.ListN.{length}
use lib.Dec.{eqb}
use borrow.Author.Tests.{eqb-false}
use Rattle.facts.proofs.Tests.{clash}
use Rattle.quantity.specs.declared.count.ByteCount.{ByteCount}
use Rattle.quantity.specs.declared.count.DatalinkId.{DatalinkId}
use Rattle.quantity.specs.declared.count.FlowSequence.{FlowSequence}
use Rattle.quantity.specs.Window.{sequence_at}
use Rattle.meaning.specs.declared.message.Window.{Window}
use Rattle.meaning.specs.declared.message.Control.{Control}
use Rattle.radio_flow.specs.Granting.{granted}
use Rattle.radio_flow.specs.Numbers.{heard_all}
use Rattle.radio_end_state.specs.Channel.{window_now}
use Rattle.radio_end_state.specs.State as state
use Rattle.radio_end_state.specs.Message.{message_of}
use Rattle.radio_end_run.specs.Run as station
use Rattle.ips_channel_rules.specs.Rules.{next, Tried, sent, Answer, answered, called, call, Terms, Condition, step, final}
use Rattle.ips_channel_rules.specs.Simple.{Limit, free, none, up_to, Counter, fits_below, count_on, simple}
use Rattle.ips_state.specs.State.{Configuration, start_at}
use Rattle.ips_state.specs.Limits.{configuration_taken}
use Rattle.ips_state.specs.Memory.{World}
use Rattle.ips_radio.specs.Heard.{window_in}
use Rattle.ips_run.specs.Calling.{calling}
use Rattle.ips_run.specs.Run.{Call, on, radio, pace, query}
use Rattle.ips_run.specs.Run as run
use Rattle.ips_run.specs.Demand.{bytes_in, ruled, simply_at}
use Rattle.ips_calls.specs.Replies.{reply_of, handed_out}
use Rattle.joined.specs.Net.{Heard, unheard, word_of, after_hearing, reach_of, Told, Net, after_hear, after_tell, AGE, MOST-GRANTED, Reach, stays, goes_on}
use Rattle.joined.specs.Net as net
use Rattle.joined.proofs.Net.{heard_words_lem, together, never_past, never_free}
use Rattle.joined_ends.specs.Ends.{written_in, Sent, Down, Watched, Ends, count_of, stated_in, UpArrives, MayAct, MayCall, sent_at, down_as, heard_now, allowance_at, bound_if, telling_of, told, life_after, after_act, heard_in, heard_after, channel_after, after_call, Step, acts, calls, NotPast, start}
use Rattle.joined_ends.proofs.Moves.{Moves}
use Rattle.joined_ends.proofs.Stated.{StatesOf, After, Went}
use Rattle.joined_ends.proofs.Acting.{Own, own_fresh, own_step, own_after, Comes, act_moves, handed_states}
use Rattle.joined_ends.proofs.Telling.{heard_few, heard_none, Radio, radio_step, written_is, window_granted, received_is, stated_window}

-- ---- what arrives is made of bytes
pub act_bytes : (x : Watched) (c : Call) → MayAct c x → bytes_in c
act_bytes x (on id c) m = tt
act_bytes x (radio time datagram) m = m.octets
act_bytes x (pace time) m = tt
act_bytes x (query out) m = tt

call_bytes : (k : Terms) (x : Watched) (c : station.Call) → MayCall k c x → station.bytes_in c
call_bytes k x (station.hear datagram out) m = m.octets
call_bytes k x (station.status id value out) m = tt
call_bytes k x (station.queued id bytes out) m = tt
call_bytes k x (station.context value out) m = tt
call_bytes k x (station.link instance) m = tt
call_bytes k x (station.tell out) m = tt

-- ---- one of some new ones, or one of the old
among : {A B : Type 0} (f : A → B) (xs : List A) (ys : List B) (b : B) → Memᴰ b (map f xs ++ ys) → ((a : A) × Memᴰ a xs × (b ≡ f a)) ⊎ Memᴰ b ys
among f [] ys b m = inr m
among {A} {B} f (a ∷ xs) ys b m =
    ⊎_elim (λ (e : b ≡ f a). inl (a, Memᴰ.head refl, e)) (λ (n : Memᴰ b (map f xs ++ ys)). later (among f xs ys b n)) (Memᴰ.cases_cons m)
  where
    later : ((c : A) × Memᴰ c xs × (b ≡ f c)) ⊎ Memᴰ b ys → ((c : A) × Memᴰ c (a ∷ xs) × (b ≡ f c)) ⊎ Memᴰ b ys
    later (inl x) = inl (x.0, Memᴰ.tail x.1, x.2)
    later (inr n) = inr n

told_same : (a b : ℕ) (v w : Option Window) (p q : ℕ) → a ≡ b → v ≡ w → p ≡ q → ◌≡◌ {A = Told} (record { at = a; window = v; reaches = p }) (record { at = b; window = w; reaches = q })
told_same a b v w p q e f g = rw (e, f, g)

-- ---- what was heard, in the net
pub record Listens (x : Net) (hd : Heard) (ss : List FlowSequence) : Type 0 where
  pub net_is : Net
  pub reach : Reach (net.Step AGE MOST-GRANTED) x net_is
  pub counter_is : net_is.counter ≡ x.counter
  pub heard_is : net_is.heard ≡ heard_now hd ss
  pub top_is : net_is.top ≡ x.top
  pub ups_are : net_is.ups ≡ x.ups
  pub downs_are : net_is.downs ≡ x.downs
  pub word : heard_all (word_of hd) ss ≡ word_of (heard_now hd ss)

listens_none : (x : Net) (hd : Heard) → x.heard ≡ hd → Listens x hd []
listens_none x hd e = record { net_is = x; reach = stays x; counter_is = refl; heard_is = e; top_is = refl; ups_are = refl; downs_are = refl; word = refl }

listens_one : (x : Net) (hd : Heard) (at : ℕ) → x.heard ≡ hd → Memᴰ at x.ups → x.counter.count < at + AGE → Listens x hd (sequence_at at ∷ [])
listens_one x hd at e m young =
    record {
      net_is = after_hear at x;
      reach = goes_on x x (after_hear at x) (stays x) (net.hears x at m young);
      counter_is = refl;
      heard_is = ap (λ (h : Heard). after_hearing h (sequence_at at)) e;
      top_is = refl;
      ups_are = refl;
      downs_are = refl;
      word = sym (heard_words_lem hd (sequence_at at) (omega arith));
    }

-- what fits on a channel that isn't free is counted whole
grows_all : (count : ℕ) (l : Limit) (n : ℕ) → (l ≡ free → ⊥) → fits_below count l n ≡ true → count_on count l n ≡ count + n
grows_all count free n not e = absurd (not refl)
grows_all count none n not e = clash e
grows_all count (up_to z) n not e = refl

module _ (conf : Configuration) (fits : configuration_taken conf ≡ true) (small : (i : ℕ) → i < length conf.starts → (start_at conf i).first.0 < 2 ^ 32)
    (index : ℕ) (inside : index < length conf.starts) (controlled : (start_at conf index).setting.controlled ≡ true) (j : ℕ) where
  abbrev k : Terms
  k = ruled conf index

  abbrev OwnIn : World → Condition simple → Type 0
  OwnIn w life = Own conf fits small index inside controlled w life

  record DownIs (d : Down) : Type 0 where
    message : Control
    got : run.received_in k.datalink d.datagram ≡ run.stated message
    window_is : window_in message k.id ≡ d.told.window

  record Joined (x : Ends) : Type 0 where
    own : OwnIn x.world x.watched.life
    far : Radio k j x.station x.watched.heard
    net_is : Net
    reach : Reach (net.Step AGE MOST-GRANTED) (net.start (start_at conf index).first) net_is
    counter_is : net_is.counter ≡ x.watched.life.counting
    heard_is : net_is.heard ≡ x.watched.heard
    top_is : net_is.top ≡ x.watched.top
    ups_there : (u : Sent) → Memᴰ u x.watched.ups → Memᴰ u.at net_is.ups
    ups_state : (u : Sent) → Memᴰ u x.watched.ups → StatesOf k.datalink k.id u.datagram u.at
    downs_there : (d : Down) → Memᴰ d x.watched.downs → Memᴰ d.told net_is.downs
    downs_state : (d : Down) → Memᴰ d x.watched.downs → DownIs d

  -- ---- a call of the endpoint
  act_comes : (x : Ends) (i : Joined x) (c : Call) → MayAct c x.watched → Comes conf fits small index inside controlled x.world x.watched.life i.own i.net_is c
  act_comes x i (on id c) m = tt
  act_comes x i (radio time datagram) m =
      let d = m.one in
      let is = i.downs_state d m.there in
      record {
        one = d.told;
        there = i.downs_there d m.there;
        young = m.young;
        message = is.message;
        received_is = ap (run.received_in k.datalink) m.is ∙ is.got;
        window_is = is.window_is;
      }
  act_comes x i (pace time) m = tt
  act_comes x i (query out) m = tt

  act_keeps : (x : Ends) (c : Call) → MayAct c x.watched → Joined x → Joined (after_act k c x)
  act_keeps x c may i =
      let at = (life_after k c x).counting.count in
      let moves : Moves i.net_is (life_after k c x).counting = act_moves conf fits small index inside controlled x.world x.watched.life i.own i.net_is i.counter_is c (act_comes x i c may) in
      let datagrams = handed_out (reply_of c x.world) in
      record {
        own = own_step conf fits small index inside controlled x.world x.watched.life i.own c (act_bytes x.watched c may);
        far = i.far;
        net_is = moves.net;
        reach = together AGE MOST-GRANTED (net.start (start_at conf index).first) i.net_is moves.net i.reach moves.reach;
        counter_is = moves.counter_is;
        heard_is = moves.heard_is ∙ i.heard_is;
        top_is = moves.top_is ∙ i.top_is;
        ups_there = λ u m.
            ⊎_elim
            (λ (n : (d : List ℕ) × Memᴰ d datagrams × (u ≡ sent_at at d)). subst (λ (v : Sent). Memᴰ v.at moves.net.ups) (sym n.2) moves.new)
            (λ (n : Memᴰ u x.watched.ups). moves.old u.at (i.ups_there u n))
            (among (sent_at at) datagrams x.watched.ups u m);
        ups_state = λ u m.
            ⊎_elim
            (λ (n : (d : List ℕ) × Memᴰ d datagrams × (u ≡ sent_at at d)).
            subst (λ (v : Sent). StatesOf k.datalink k.id v.datagram v.at) (sym n.2)
            (handed_states conf fits small index inside controlled x.world x.watched.life i.own c n.0 n.1))
            (λ (n : Memᴰ u x.watched.ups). i.ups_state u n)
            (among (sent_at at) datagrams x.watched.ups u m);
        downs_there = λ d m. subst (λ (ts : List Told). Memᴰ d.told ts) (sym moves.downs_are) (i.downs_there d m);
        downs_state = i.downs_state;
      }

  -- ---- a call of the radio's end
  module _ (x : Ends) (i : Joined x) where
    nothing : (c : station.Call) → station.heard_by c x.station k.id ≡ [] → Listens i.net_is x.watched.heard (station.heard_by c x.station k.id)
    nothing c e = subst (Listens i.net_is x.watched.heard) (sym e) (listens_none i.net_is x.watched.heard i.heard_is)

    hears_up : (datagram out : List ℕ) → UpArrives k x.watched datagram → Listens i.net_is x.watched.heard (station.heard_by (station.hear datagram out) x.station k.id)
    hears_up datagram out m =
        let u = m.one in
        let states : StatesOf x.station.datalink k.id datagram u.at =
        subst (λ (id : DatalinkId). StatesOf id k.id datagram u.at) (sym i.far.datalink_is) (subst (λ (d : List ℕ). StatesOf k.datalink k.id d u.at) (sym m.is) (i.ups_state u m.there)) in
        let few = heard_few x.station k.id u.at datagram out states in
        let old : stated_in k datagram ≡ None → Listens i.net_is x.watched.heard (station.heard_by (station.hear datagram out) x.station k.id) =
        (λ e. nothing (station.hear datagram out) (heard_none x.station k.id datagram out (ap (λ (id : DatalinkId). station.stated_of k.id (station.received_in id datagram)) i.far.datalink_is ∙ e))) in
        ⊎_elim old
        (λ (young : count_of x.watched < u.at + AGE).
        ⊎_elim
        (λ (e : station.heard_by (station.hear datagram out) x.station k.id ≡ []). nothing (station.hear datagram out) e)
        (λ (e : station.heard_by (station.hear datagram out) x.station k.id ≡ sequence_at u.at ∷ []).
        subst (Listens i.net_is x.watched.heard) (sym e)
        (listens_one i.net_is x.watched.heard u.at i.heard_is (i.ups_there u m.there) (subst (λ (c : Counter). c.count < u.at + AGE) (sym i.counter_is) young)))
        few)
        m.young

    listens : (c : station.Call) → MayCall k c x.watched → Listens i.net_is x.watched.heard (station.heard_by c x.station k.id)
    unfolding station.heard_by
    listens (station.hear datagram out) m = hears_up datagram out m
    listens (station.status id value out) m = listens_none i.net_is x.watched.heard i.heard_is
    listens (station.queued id bytes out) m = listens_none i.net_is x.watched.heard i.heard_is
    listens (station.context told out) m = listens_none i.net_is x.watched.heard i.heard_is
    listens (station.link instance) m = listens_none i.net_is x.watched.heard i.heard_is
    listens (station.tell out) m = listens_none i.net_is x.watched.heard i.heard_is

    module _ (c : station.Call) (may : MayCall k c x.watched) where
      abbrev s' : state.State
      s' = station.state_after c x.station

      abbrev hd' : Heard
      hd' = heard_after k c x

      abbrev t : Told
      t = telling_of (heard_in k c x) (channel_after j c x) x.watched

      l : Listens i.net_is x.watched.heard (station.heard_by c x.station k.id)
      l = listens c may

      far' : Radio k j s' hd'
      far' = radio_step k j x.station x.watched.heard i.far c (call_bytes k x.watched c may) hd' l.word

      down_is : (d : List ℕ) → Memᴰ d (written_in (station.after_call c x.station)) → DownIs (down_as t d)
      down_is d m =
          record {
            message = message_of s';
            got = ap (run.received_in k.datalink) (written_is k j x.station x.watched.heard i.far c (call_bytes k x.watched c may) d m) ∙ received_is k j s' hd' far';
            window_is = stated_window k j s' hd' far' ∙ sym (window_granted k j s' hd' far');
          }

      reach_there : Reach (net.Step AGE MOST-GRANTED) (net.start (start_at conf index).first) l.net_is
      reach_there = together AGE MOST-GRANTED (net.start (start_at conf index).first) i.net_is l.net_is i.reach l.reach

      -- what the net tells is what was written
      abbrev a : ByteCount
      a = allowance_at (channel_after j c x)

      telling_same : net.telling_of a l.net_is ≡ t
      telling_same =
          told_same l.net_is.counter.count (count_of x.watched) (granted (word_of l.net_is.heard) a) (window_now (channel_after j c x)) (reach_of l.net_is.heard a) (reach_of hd' a)
          (ap (λ (y : Counter). y.count) (l.counter_is ∙ i.counter_is))
          (ap (λ (h : Heard). granted (word_of h) a) l.heard_is ∙ sym (window_granted k j s' hd' far'))
          (ap (λ (h : Heard). reach_of h a) l.heard_is)

      abbrev Left : List (List ℕ) → Ends
      Left ds = record { world = x.world; station = s'; watched = told (heard_in k c x) (channel_after j c x) ds x.watched }

      keeps_by : (ds : List (List ℕ)) → bound_if ds hd' a → ((d : List ℕ) → Memᴰ d ds → DownIs (down_as t d)) → Joined (Left ds)
      keeps_by [] bound down =
          record {
            own = i.own;
            far = far';
            net_is = l.net_is;
            reach = reach_there;
            counter_is = l.counter_is ∙ i.counter_is;
            heard_is = l.heard_is;
            top_is = l.top_is ∙ i.top_is;
            ups_there = λ u m. subst (λ (us : List ℕ). Memᴰ u.at us) (sym l.ups_are) (i.ups_there u m);
            ups_state = i.ups_state;
            downs_there = λ d m. subst (λ (ts : List Told). Memᴰ d.told ts) (sym l.downs_are) (i.downs_there d m);
            downs_state = i.downs_state;
          }
      keeps_by (e ∷ es) bound down =
          let y = after_tell a l.net_is in
          let ds : List (List ℕ) = e ∷ es in
          record {
            own = i.own;
            far = far';
            net_is = y;
            reach = goes_on (net.start (start_at conf index).first) l.net_is y reach_there (net.tells l.net_is a (subst (λ (h : Heard). net.Bounded MOST-GRANTED h a) (sym l.heard_is) bound));
            counter_is = l.counter_is ∙ i.counter_is;
            heard_is = l.heard_is;
            top_is = ap (λ (n : ℕ). max n (reach_of l.net_is.heard a)) (l.top_is ∙ i.top_is) ∙ ap (λ (h : Heard). max x.watched.top (reach_of h a)) l.heard_is;
            ups_there = λ u m. subst (λ (us : List ℕ). Memᴰ u.at us) (sym l.ups_are) (i.ups_there u m);
            ups_state = i.ups_state;
            downs_there = λ d m.
                ⊎_elim
                (λ (n : (g : List ℕ) × Memᴰ g ds × (d ≡ down_as t g)). Memᴰ.head (ap (λ (v : Down). v.told) n.2 ∙ sym telling_same))
                (λ (n : Memᴰ d x.watched.downs). Memᴰ.tail (subst (λ (ts : List Told). Memᴰ d.told ts) (sym l.downs_are) (i.downs_there d n)))
                (among (down_as t) ds x.watched.downs d m);
            downs_state = λ d m.
                ⊎_elim
                (λ (n : (g : List ℕ) × Memᴰ g ds × (d ≡ down_as t g)). subst DownIs (sym n.2) (down n.0 n.1))
                (λ (n : Memᴰ d x.watched.downs). i.downs_state d n)
                (among (down_as t) ds x.watched.downs d m);
          }

      call_keeps : bound_if (written_in (station.after_call c x.station)) hd' a → Joined (after_call k j c x)
      call_keeps bound = keeps_by (written_in (station.after_call c x.station)) bound down_is

  keeps : (x y : Ends) → Step k j x y → Joined x → Joined y
  keeps _ _ (acts x c may) i = act_keeps x c may i
  keeps _ _ (calls x c may bound) i = call_keeps x i c may bound

  keeps_all : (x y : Ends) → Reach (Step k j) x y → Joined x → Joined y
  keeps_all _ _ (stays x) i = i
  keeps_all _ _ (goes_on x y z r s) i = keeps y z s (keeps_all x y r i)

  -- ---- from a fresh start of both: a radio's end that has heard nothing on the channel
  module _ (s : state.State) (far : Radio k j s unheard) where
    abbrev pub fresh : Ends
    fresh = start (run.fresh_world conf) s (simply_at conf index)

    joined_fresh : Joined fresh
    joined_fresh =
        record {
          own = own_fresh conf fits small index inside controlled;
          far = far;
          net_is = net.start (start_at conf index).first;
          reach = stays (net.start (start_at conf index).first);
          counter_is = rw controlled;
          heard_is = refl;
          top_is = refl;
          ups_there = λ u m. absurd (Memᴰ.not-nil m);
          ups_state = λ u m. absurd (Memᴰ.not-nil m);
          downs_there = λ d m. absurd (Memᴰ.not-nil m);
          downs_state = λ d m. absurd (Memᴰ.not-nil m);
        }

    goes : (x : Ends) → Reach (Step k j) fresh x → (time : ℕ) (out packet : List ℕ) (carried : Option FlowSequence)
        → (calling k.id (next time out) x.world).answer ≡ answered (sent packet carried) → Went packet carried x.watched.life.counting (step simple k (call (next time out)) x.watched.life).counting
    goes x r time out packet carried given =
        let i = keeps_all fresh x r joined_fresh in
        subst (λ (a : Answer Tried). After (called (next time out) a) x.watched.life.counting (step simple k (call (next time out)) x.watched.life).counting) given
        (own_after conf fits small index inside controlled x.world x.watched.life i.own (next time out))

    -- THE THEOREM: whatever is called at either end, and whatever the net does: a packet that Next hands over on the channel isn't past the highest window ever granted
    pub all_never_past : (x : Ends) → Reach (Step k j) fresh x → (time : ℕ) (out packet : List ℕ) (carried : Option FlowSequence)
        → (calling k.id (next time out) x.world).answer ≡ answered (sent packet carried) → count_of x.watched + length packet ≤ x.watched.top
    all_never_past x r time out packet carried given =
        let i = keeps_all fresh x r joined_fresh in
        let n : ByteCount = record { 0 = length packet } in
        let went = goes x r time out packet carried given in
        let may : simple.fits i.net_is.counter n ≡ true = subst (λ (y : Counter). simple.fits y n ≡ true) (sym i.counter_is) went.fits in
        let below : i.net_is.counter.count + length packet ≤ i.net_is.top = never_past (start_at conf index).first (small index inside) i.net_is i.reach n may in
        subst (λ (y : Counter). y.count + length packet ≤ x.watched.top) i.counter_is (subst (λ (t : ℕ). i.net_is.counter.count + length packet ≤ t) i.top_is below)

    never_free_there : (x : Ends) → Reach (Step k j) fresh x → x.watched.life.counting.limit ≡ free → ⊥
    never_free_there x r e =
        let i = keeps_all fresh x r joined_fresh in
        never_free (start_at conf index).first (small index inside) i.net_is i.reach (ap (λ (y : Counter). y.limit) i.counter_is ∙ e)

    -- each of its bytes is counted: the channel is never free
    pub all_counted : (x : Ends) → Reach (Step k j) fresh x → (time : ℕ) (out packet : List ℕ) (carried : Option FlowSequence)
        → (calling k.id (next time out) x.world).answer ≡ answered (sent packet carried) → count_of (after_act k (on k.id (next time out)) x).watched ≡ count_of x.watched + length packet
    all_counted x r time out packet carried given = by (eqb k.id k.id) refl
      where
        c : Counter
        c = x.watched.life.counting

        by : (b : Bool) → eqb k.id k.id ≡ b → (final simple k (cond b (call (next time out) ∷ []) []) x.watched.life).counting.count ≡ c.count + length packet
        by true e =
            let went = goes x r time out packet carried given in
            ap (λ (y : Counter). y.count) went.counter_is ∙ grows_all c.count c.limit (length packet) (never_free_there x r) went.fits
        by false e = absurd (eqb-false k.id k.id e refl)

    pub all_not_past : (x : Ends) → Reach (Step k j) fresh x → (time : ℕ) (out packet : List ℕ) (carried : Option FlowSequence)
        → (calling k.id (next time out) x.world).answer ≡ answered (sent packet carried) → NotPast k time out x
    all_not_past x r time out packet carried given =
        record {
          packet = packet;
          carried = carried;
          goes = given;
          below = all_never_past x r time out packet carried given;
          counted = all_counted x r time out packet carried given;
        }
