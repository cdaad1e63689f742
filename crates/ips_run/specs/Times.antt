-- The pacer by history: which calls move which of its times. "The pacer has one clock, and both waits first run from 0".
use Rattle.std.specs.Prelude.{ℕ, cond, List, [], ◌∷◌, ◌++◌}
use Rattle.pacer.specs.Pacing.{is_due}
use Rattle.ips_state.specs.Memory.{World}
use Rattle.ips_run.specs.Run.{Call, on, radio, pace, query, Received, dropped, carried, stated, received_in, in_time, after}

-- the time of a call that the pacer answers, and of an accepted radio message, a data message too
abbrev pub when_taken : (time : ℕ) → Received → List ℕ
when_taken time dropped = []
when_taken time carried = time ∷ []
when_taken time (stated message) = time ∷ []

unfoldable pub taken_times : Call → World → List ℕ
taken_times (on id c) w = []
taken_times (radio time datagram) w = cond (in_time time w.state) (when_taken time (received_in w.state.datalink.id datagram)) []
taken_times (pace time) w = cond (in_time time w.state) (time ∷ []) []
taken_times (query out) w = []

-- the time of an ask that is answered due
unfoldable pub due_times : Call → World → List ℕ
due_times (on id c) w = []
due_times (radio time datagram) w = []
due_times (pace time) w = cond (in_time time w.state) (cond (is_due time w.state.pacer) (time ∷ []) []) []
due_times (query out) w = []

-- the time of an accepted radio control message
abbrev pub when_stated : (time : ℕ) → Received → List ℕ
when_stated time dropped = []
when_stated time carried = []
when_stated time (stated message) = time ∷ []

unfoldable pub heard_times : Call → World → List ℕ
heard_times (on id c) w = []
heard_times (radio time datagram) w = cond (in_time time w.state) (when_stated time (received_in w.state.datalink.id datagram)) []
heard_times (pace time) w = []
heard_times (query out) w = []

-- of some calls, in order
abbrev pub times_all : (Call → World → List ℕ) → List Call → World → List ℕ
times_all times [] w = []
times_all times (c ∷ cs) w = times c w ++ times_all times cs (after c w)
