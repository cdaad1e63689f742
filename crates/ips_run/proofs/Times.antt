-- Over any calls from a fresh start: the clock is the time of the last ask or accepted radio message, the last due that of the last ask answered due, the last heard
-- that of the last accepted radio control message; 0 where there was none. Assumes nothing.
use Prim.Native.Nat.{ℕ}
use mathlib.Core.Bool.{Bool, true, false, cond}
use mathlib.Core.List.{List, [], ◌∷◌}
use mathlib.Core.Path.{◌≡◌, refl, sym, ◌∙◌}
use Rattle.pacer.specs.declared.Pacer.{Pacer}
use Rattle.pacer.specs.Pacing.{is_due, asked, heard_at, moved_to}
use Rattle.ips_channel_rules.specs.Rules.{ChannelCall, Says}
use Rattle.ips_state.specs.State.{Configuration, State, with_channel, with_pacer, fresh_state}
use Rattle.ips_state.specs.Memory.{World}
use Rattle.ips_run.specs.Calling.{WorldResult, Judged, outside, unknown, served}
use Rattle.ips_run.specs.Run.{Call, on, radio, pace, query, Received, dropped, carried, stated, received_in, in_time, received, paced_by, with_state, after_under, after, after_all, fresh_world}
use Rattle.ips_run.specs.Kept.{last_or}
use Rattle.ips_run.specs.Demand.{reached}
use Rattle.ips_run.specs.Times.{when_taken, taken_times, due_times, when_stated, heard_times, times_all}
use Rattle.ips_run.proofs.Exact.{judged}
use Rattle.ips_run.proofs.Kept.{last_append}

-- any time of the pacer, by the calls that move it
module _ (part : Pacer → ℕ) (times : Call → World → List ℕ) (moves : (c : Call) (w : World) → part (after c w).state.pacer ≡ last_or (part w.state.pacer) (times c w)) where
  moved_all : (cs : List Call) (w : World) → part (after_all cs w).state.pacer ≡ last_or (part w.state.pacer) (times_all times cs w)
  moved_all [] w = refl
  moved_all (c ∷ cs) w = moved_all cs (after c w) ∙ rw (moves c w) (sym (last_append (part w.state.pacer) (times c w) (times_all times cs (after c w))))

-- the pacer after each call: what an ask and what a datagram makes of it, where it is in time
module _ (part : Pacer → ℕ) where
  called_part : (id : ℕ) (c : ChannelCall) (w : World) {r : WorldResult (Says c)} → Judged id c w r → part r.world.state.pacer ≡ part w.state.pacer
  unfolding with_channel
  called_part id c w (outside f) = refl
  called_part id c w (unknown f g) = refl
  called_part id c w (served f g) = refl

  module _ (time : ℕ) (w : World) where
    radio_part : (datagram : List ℕ) (times : Received → List ℕ) → ((r : Received) (s : State) → part (received time r s).pacer ≡ last_or (part s.pacer) (times r))
        → part (after (radio time datagram) w).state.pacer ≡ last_or (part w.state.pacer) (cond (in_time time w.state) (times (received_in w.state.datalink.id datagram)) [])
    unfolding after_under
    radio_part datagram times law = go (in_time time w.state)
      where
        go : (t : Bool) → part (cond t (with_state w (received time (received_in w.state.datalink.id datagram) w.state)) w).state.pacer
            ≡ last_or (part w.state.pacer) (cond t (times (received_in w.state.datalink.id datagram)) [])
        go true = law (received_in w.state.datalink.id datagram) w.state
        go false = refl

    pace_part : (times : List ℕ) → part (asked time w.state.pacer) ≡ last_or (part w.state.pacer) times
        → part (after (pace time) w).state.pacer ≡ last_or (part w.state.pacer) (cond (in_time time w.state) times [])
    unfolding after_under paced_by with_pacer
    pace_part times law = go (in_time time w.state)
      where
        go : (t : Bool) → part (cond t (with_state w (paced_by time w.state)) w).state.pacer ≡ last_or (part w.state.pacer) (cond t times [])
        go true = law
        go false = refl

    untouched_part : (t : Bool) → last_or (part w.state.pacer) (cond t [] []) ≡ part w.state.pacer
    untouched_part true = refl
    untouched_part false = refl

-- ---- the clock
clock_received : (time : ℕ) (r : Received) (s : State) → (received time r s).pacer.clock ≡ last_or s.pacer.clock (when_taken time r)
unfolding with_pacer moved_to heard_at
clock_received time dropped s = refl
clock_received time carried s = refl
clock_received time (stated m) s = refl

clock_moves : (c : Call) (w : World) → (after c w).state.pacer.clock ≡ last_or w.state.pacer.clock (taken_times c w)
unfolding taken_times asked after_under
clock_moves (on id c) w = called_part (λ p. p.clock) id c w (judged id c w)
clock_moves (radio time datagram) w = radio_part (λ p. p.clock) time w datagram (when_taken time) (clock_received time)
clock_moves (pace time) w = pace_part (λ p. p.clock) time w (time ∷ []) refl
clock_moves (query out) w = refl

-- ---- the last query due
due_received : (time : ℕ) (r : Received) (s : State) → (received time r s).pacer.due ≡ last_or s.pacer.due []
unfolding with_pacer moved_to heard_at
due_received time dropped s = refl
due_received time carried s = refl
due_received time (stated m) s = refl

due_asked : (time : ℕ) (p : Pacer) → (asked time p).due ≡ last_or p.due (cond (is_due time p) (time ∷ []) [])
unfolding asked
due_asked time p = go (is_due time p)
  where
    go : (b : Bool) → cond b time p.due ≡ last_or p.due (cond b (time ∷ []) [])
    go true = refl
    go false = refl

due_moves : (c : Call) (w : World) → (after c w).state.pacer.due ≡ last_or w.state.pacer.due (due_times c w)
unfolding due_times after_under
due_moves (on id c) w = called_part (λ p. p.due) id c w (judged id c w)
due_moves (radio time datagram) w =
    radio_part (λ p. p.due) time w datagram (λ r. []) (due_received time) ∙ untouched_part (λ p. p.due) time w (in_time time w.state)
due_moves (pace time) w = pace_part (λ p. p.due) time w (cond (is_due time w.state.pacer) (time ∷ []) []) (due_asked time w.state.pacer)
due_moves (query out) w = refl

-- ---- the last accepted radio control message
heard_received : (time : ℕ) (r : Received) (s : State) → (received time r s).pacer.heard ≡ last_or s.pacer.heard (when_stated time r)
unfolding with_pacer moved_to heard_at
heard_received time dropped s = refl
heard_received time carried s = refl
heard_received time (stated m) s = refl

heard_moves : (c : Call) (w : World) → (after c w).state.pacer.heard ≡ last_or w.state.pacer.heard (heard_times c w)
unfolding heard_times asked after_under
heard_moves (on id c) w = called_part (λ p. p.heard) id c w (judged id c w)
heard_moves (radio time datagram) w = radio_part (λ p. p.heard) time w datagram (when_stated time) (heard_received time)
heard_moves (pace time) w = pace_part (λ p. p.heard) time w [] refl ∙ untouched_part (λ p. p.heard) time w (in_time time w.state)
heard_moves (query out) w = refl

-- ---- the waits, which no call changes
hello_received : (time : ℕ) (r : Received) (s : State) → (received time r s).pacer.hello ≡ last_or s.pacer.hello []
unfolding with_pacer moved_to heard_at
hello_received time dropped s = refl
hello_received time carried s = refl
hello_received time (stated m) s = refl

limit_received : (time : ℕ) (r : Received) (s : State) → (received time r s).pacer.limit ≡ last_or s.pacer.limit []
unfolding with_pacer moved_to heard_at
limit_received time dropped s = refl
limit_received time carried s = refl
limit_received time (stated m) s = refl

hello_moves : (c : Call) (w : World) → (after c w).state.pacer.hello ≡ w.state.pacer.hello
unfolding asked after_under
hello_moves (on id c) w = called_part (λ p. p.hello) id c w (judged id c w)
hello_moves (radio time datagram) w =
    radio_part (λ p. p.hello) time w datagram (λ r. []) (hello_received time) ∙ untouched_part (λ p. p.hello) time w (in_time time w.state)
hello_moves (pace time) w = pace_part (λ p. p.hello) time w [] refl ∙ untouched_part (λ p. p.hello) time w (in_time time w.state)
hello_moves (query out) w = refl

limit_moves : (c : Call) (w : World) → (after c w).state.pacer.limit ≡ w.state.pacer.limit
unfolding asked after_under
limit_moves (on id c) w = called_part (λ p. p.limit) id c w (judged id c w)
limit_moves (radio time datagram) w =
    radio_part (λ p. p.limit) time w datagram (λ r. []) (limit_received time) ∙ untouched_part (λ p. p.limit) time w (in_time time w.state)
limit_moves (pace time) w = pace_part (λ p. p.limit) time w [] refl ∙ untouched_part (λ p. p.limit) time w (in_time time w.state)
limit_moves (query out) w = refl

none_all : (cs : List Call) (w : World) → times_all (λ c w. []) cs w ≡ []
none_all [] w = refl
none_all (c ∷ cs) w = none_all cs (after c w)

module _ (k : Configuration) (cs : List Call) where
  pub whole_clock : (reached k cs).state.pacer.clock ≡ last_or 0 (times_all taken_times cs (fresh_world k))
  unfolding fresh_world fresh_state
  whole_clock = moved_all (λ p. p.clock) taken_times clock_moves cs (fresh_world k)

  pub whole_due : (reached k cs).state.pacer.due ≡ last_or 0 (times_all due_times cs (fresh_world k))
  unfolding fresh_world fresh_state
  whole_due = moved_all (λ p. p.due) due_times due_moves cs (fresh_world k)

  pub whole_heard : (reached k cs).state.pacer.heard ≡ last_or 0 (times_all heard_times cs (fresh_world k))
  unfolding fresh_world fresh_state
  whole_heard = moved_all (λ p. p.heard) heard_times heard_moves cs (fresh_world k)

  -- HelloTime and silence limit are those of the configuration
  pub whole_waits : ((reached k cs).state.pacer.hello ≡ k.hello) × ((reached k cs).state.pacer.limit ≡ k.limit)
  unfolding fresh_world fresh_state
  whole_waits = (
    moved_all (λ p. p.hello) (λ c w. []) hello_moves cs (fresh_world k) ∙ rw (none_all cs (fresh_world k)),
    moved_all (λ p. p.limit) (λ c w. []) limit_moves cs (fresh_world k) ∙ rw (none_all cs (fresh_world k)),
  )
