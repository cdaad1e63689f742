-- What is accepted, when it is silent, and what a channel sees, by the calls alone: as if every world were within the limits, as each is that calls reach. The pacer
-- goes along, since a message whose time is earlier than its clock is refused.
use Rattle.std.specs.Prelude.{ℕ, Bool, false, cond, not, ◌&&◌, List, [], ◌∷◌, ◌++◌, map}
use Rattle.quantity.specs.declared.count.DatalinkId.{DatalinkId}
use Rattle.meaning.specs.declared.message.Control.{Control}
use Rattle.pacer.specs.declared.Pacer.{Pacer}
use Rattle.pacer.specs.Pacing.{is_earlier, is_silent, asked}
use Rattle.ips_channel_rules.specs.Rules.{Event, call, silence}
use Rattle.ips_run.specs.Run.{Call, on, radio, pace, query, received_in, accepted_in, pacer_after, if_own, part_of, if_silent}

-- the pacer after a call
abbrev pub pacer_within : DatalinkId → Call → Pacer → Pacer
pacer_within datalink (on id c) p = p
pacer_within datalink (radio time datagram) p = cond (not (is_earlier time p)) (pacer_after time (received_in datalink datagram) p) p
pacer_within datalink (pace time) p = cond (not (is_earlier time p)) (asked time p) p
pacer_within datalink (query out) p = p

abbrev pub pacer_all_within : DatalinkId → List Call → Pacer → Pacer
pacer_all_within datalink [] p = p
pacer_all_within datalink (c ∷ cs) p = pacer_all_within datalink cs (pacer_within datalink c p)

abbrev pub accepted_within : DatalinkId → Pacer → Call → List Control
accepted_within datalink p (on id c) = []
accepted_within datalink p (radio time datagram) = cond (not (is_earlier time p)) (accepted_in datalink datagram) []
accepted_within datalink p (pace time) = []
accepted_within datalink p (query out) = []

abbrev pub accepted_all_within : DatalinkId → Pacer → List Call → List Control
accepted_all_within datalink p [] = []
accepted_all_within datalink p (c ∷ cs) = accepted_within datalink p c ++ accepted_all_within datalink (pacer_within datalink c p) cs

abbrev pub silent_within : Pacer → Call → Bool
silent_within p (on id c) = false
silent_within p (radio time datagram) = false
silent_within p (pace time) = not (is_earlier time p) && is_silent time p
silent_within p (query out) = false

abbrev pub sees_within : DatalinkId → Pacer → (own : ℕ) → Call → List Event
sees_within datalink p own (on id c) = if_own own id (call c)
sees_within datalink p own (radio time datagram) = map (part_of own) (accepted_within datalink p (radio time datagram))
sees_within datalink p own (pace time) = if_silent (silent_within p (pace time)) silence
sees_within datalink p own (query out) = []

abbrev pub sees_all_within : DatalinkId → Pacer → (own : ℕ) → List Call → List Event
sees_all_within datalink p own [] = []
sees_all_within datalink p own (c ∷ cs) = sees_within datalink p own c ++ sees_all_within datalink (pacer_within datalink c p) own cs
