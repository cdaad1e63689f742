-- What each call comes to: it is refused and leaves the state, or it makes its change of every channel. Assumes nothing.
use Rattle.std.specs.Prelude.{Option, Result, Ok, Err}
use Rattle.quantity.specs.declared.count.LinkInstanceId.{LinkInstanceId}
use Rattle.quantity.specs.declared.refusal.Refusal.{Refusal}
use Rattle.meaning.specs.declared.message.ContextBytes.{ContextBytes}
use Rattle.meaning.specs.declared.message.Plane.{Plane}
use Prim.Native.Nat.{ℕ, ◌≤◌, ◌<◌}
use mathlib.Core.Bool.{Bool, true, false, cond}
use mathlib.Core.List.{List, []}
use mathlib.Core.Path.{◌≡◌, refl}
use borrow.Author.Tests.{leb-true}
use lib.Dec.{eqb, leb}
use lib.ListN.{length, length-set}
use Rattle.quantity.specs.declared.count.ByteCount.{ByteCount}
use Rattle.quantity.specs.Limits.{HIGHEST-STATUS}
use Rattle.quantity.specs.Refusals.{NO-CHANNEL, NO-ROOM, OUTSIDE-LIMITS, NOT-WRITABLE}
use Rattle.wire.specs.Options.{over}
use Rattle.meaning.specs.declared.message.End.TheVariants as ends
use Rattle.meaning.specs.declared.message.Control.{Control}
use Rattle.meaning.specs.declared.message.Data.{Data}
use Rattle.writable.specs.Allowed.{instance_allowed, context_allowed}
use Rattle.writer.specs.Written.{no_room_of}
use Rattle.reader.specs.Readings.{Verdict, read_control, read_data, plane_of, packet_of}
use Rattle.radio_end_state.specs.declared.answer.Answer.{Answer}
use Rattle.radio_end_state.specs.declared.channel.Channel.{Channel}
use Rattle.radio_end_state.specs.Channel.{hearing_on, with_queued, with_status}
use Rattle.radio_end_state.specs.State.{State, channel_at, with_channels, with_channel, with_context, with_instance}
use Rattle.radio_end_state.specs.Limits.{state_fits, is_configured, index_in}
use Rattle.radio_end_state.specs.Message.{message_bytes, differs}
use Rattle.radio_end_state.specs.Calls.{After, refused_by, telling, quietly, settling, status_told, queued_told, context_told, link_told, told, sequence_in, lacks_none, hearing_all, control_heard, channel_named, data_on, data_heard, by_verdict, by_plane, control_read, data_read, heard}
use Rattle.radio_end_run.specs.Run.{Call, hear, status, queued, context, link, tell, after_call, is_accepted, Received, dropped, stated, carried, if_read, on_plane, received_in}
use Rattle.radio_end_run.proofs.Places.{change_at, get_d_map, map_length}

-- ---- a call is refused, or makes something of the state
pub data Comes (s : State) (P : State → Type 0) (x : After) : Type 0 where
  refused : is_accepted x.answer ≡ false → x.state ≡ s → Comes s P x
  made : is_accepted x.answer ≡ true → P x.state → Comes s P x

module _ (s : State) (P : State → Type 0) where
  by_test : (b : Bool) (x y : After) → (b ≡ true → Comes s P x) → (b ≡ false → Comes s P y) → Comes s P (cond b x y)
  by_test true x y f g = f refl
  by_test false x y f g = g refl

  -- a test that fails by a number
  unless : (b : Bool) (number : ℕ) (out : List ℕ) (x : After) → (b ≡ true → Comes s P x) → Comes s P (cond b x (refused_by number s out))
  unless b number out x f = by_test b x (refused_by number s out) f (λ e. refused refl refl)

  telling_comes : (say : ByteCount → Result Answer Refusal) → ((n : ByteCount) → is_accepted (say n) ≡ true) → (after : State) (out : List ℕ) → P after → Comes s P (telling say s after out)
  unfolding telling
  telling_comes say accepts after out p =
      by_test (no_room_of (length (message_bytes after)) (length out)) (refused_by NO-ROOM s out)
      (record { answer = say (record { 0 = length (message_bytes after) }); state = after; output = over (message_bytes after) out })
      (λ e. refused refl refl) (λ e. made (accepts (record { 0 = length (message_bytes after) })) p)

  settling_comes : (after : State) (out : List ℕ) → P after → Comes s P (settling s after out)
  unfolding settling
  settling_comes after out p =
      by_test (differs s after) (telling (λ n. Ok (Answer.Unasked n)) s after out) (quietly after out) (λ e. telling_comes (λ n. Ok (Answer.Unasked n)) (λ n. refl) after out p) (λ e. made refl p)

-- ---- what it makes: something of each channel, a Context and a Link Instance; Datalink ID and the order of the channels stand
pub record Makes (s : State) (part : Channel → Channel) (k : Option (ContextBytes × ℕ)) (n : Option (LinkInstanceId × ℕ)) (s' : State) : Type 0 where
  pub datalink : s'.datalink ≡ s.datalink
  pub many : length s'.channels ≡ length s.channels
  pub each : (index : ℕ) → index < length s.channels → channel_at s' index ≡ part (channel_at s index)
  pub context_is : s'.context ≡ k
  pub instance_is : s'.instance ≡ n

-- a change of the channel of an ID
abbrev pub of_own : (id : ℕ) → (Channel → Channel) → Channel → Channel
of_own id change c = cond (eqb id c.setting.id) (change c) c

abbrev pub received_on : Received → Channel → Channel
received_on dropped c = c
received_on (stated message) c = hearing_on c (sequence_in message c.setting.id)
received_on (carried message bytes) c = of_own (channel_named message.channel) (data_on message bytes) c

-- what an accepted call makes of a channel, the Context and the Link Instance
unfoldable pub part_of : Call → State → Channel → Channel
part_of (hear datagram out) s c = received_on (received_in s.datalink datagram) c
part_of (status id value out) s c = of_own id (λ x. with_status x value) c
part_of (queued id bytes out) s c = of_own id (λ x. with_queued x bytes) c
part_of (context k out) s c = c
part_of (link instance) s c = c
part_of (tell out) s c = c

unfoldable pub context_made : Call → State → Option (ContextBytes × ℕ)
context_made (hear datagram out) s = s.context
context_made (status id value out) s = s.context
context_made (queued id bytes out) s = s.context
context_made (context k out) s = k
context_made (link instance) s = s.context
context_made (tell out) s = s.context

unfoldable pub instance_made : Call → State → Option (LinkInstanceId × ℕ)
instance_made (hear datagram out) s = s.instance
instance_made (status id value out) s = s.instance
instance_made (queued id bytes out) s = s.instance
instance_made (context k out) s = s.instance
instance_made (link instance) s = instance
instance_made (tell out) s = s.instance

module _ (s : State) where
  nothing_made : Makes s (λ c. c) s.context s.instance s
  nothing_made = record { datalink = refl; many = refl; each = λ index h. refl; context_is = refl; instance_is = refl }

  channel_made : state_fits s ≡ true → (id : ℕ) → is_configured s id ≡ true → (change : Channel → Channel)
      → Makes s (of_own id change) s.context s.instance (with_channel s (index_in s id) (change (channel_at s (index_in s id))))
  unfolding with_channel with_channels
  channel_made fits id has change =
      record {
        datalink = refl;
        many = length-set s.channels (index_in s id) (change (channel_at s (index_in s id)));
        each = change_at s fits id has change;
        context_is = refl;
        instance_is = refl;
      }

  all_made : (message : Control) → Makes s (received_on (stated message)) s.context s.instance (hearing_all s message)
  unfolding hearing_all with_channels channel_at
  all_made message =
      let hears : Channel → Channel = λ c. hearing_on c (sequence_in message c.setting.id) in
      record { datalink = refl; many = map_length hears s.channels; each = get_d_map hears s.channels; context_is = refl; instance_is = refl }

  context_made_lem : (k : Option (ContextBytes × ℕ)) → Makes s (λ c. c) k s.instance (with_context s k)
  unfolding with_context channel_at
  context_made_lem k = record { datalink = refl; many = refl; each = λ index h. refl; context_is = refl; instance_is = refl }

  instance_made_lem : (n : Option (LinkInstanceId × ℕ)) → Makes s (λ c. c) s.context n (with_instance s n)
  unfolding with_instance channel_at
  instance_made_lem n = record { datalink = refl; many = refl; each = λ index h. refl; context_is = refl; instance_is = refl }

-- ---- hearing
module _ (s : State) (fits : state_fits s ≡ true) (out : List ℕ) where
  abbrev Hears : Received → State → Type 0
  Hears received = Makes s (received_on received) s.context s.instance

  control_comes : (message : Control) → Comes s (Hears (stated message)) (control_heard s message out)
  unfolding control_heard
  control_comes message =
      unless s (Hears (stated message)) (lacks_none s message) NO-CHANNEL out _
      (λ e. telling_comes s (Hears (stated message)) (λ n. Ok (Answer.Answered n)) (λ n. refl) (hearing_all s message) out (all_made s message))

  data_comes : (message : Data) (bytes : ByteCount) → Comes s (Hears (carried message bytes)) (data_heard s message bytes out)
  unfolding data_heard
  data_comes message bytes =
      let id = channel_named message.channel in
      unless s (Hears (carried message bytes)) (is_configured s id) NO-CHANNEL out _
      (λ has. settling_comes s (Hears (carried message bytes)) (with_channel s (index_in s id) (data_on message bytes (channel_at s (index_in s id)))) out (channel_made s fits id has (data_on message bytes)))

  verdict_comes : (v : Verdict) (received : Received) (x : After) → Comes s (Hears received) x → Comes s (Hears (if_read v received)) (by_verdict v s out x)
  verdict_comes Verdict.Accepted received x h = h
  verdict_comes Verdict.OtherPlane received x h = made refl (nothing_made s)
  verdict_comes (Verdict.Refused refusal) received x h = refused refl refl

  plane_comes : (p : Result Plane Refusal) (a b : Received) (x y : After) → Comes s (Hears a) x → Comes s (Hears b) y → Comes s (Hears (on_plane p a b)) (by_plane p s out x y)
  plane_comes (Ok Plane.Control) a b x y h k = h
  plane_comes (Ok Plane.Data) a b x y h k = k
  plane_comes (Err refusal) a b x y h k = refused refl refl

  heard_comes : (datagram : List ℕ)
      → Comes s (Hears (received_in s.datalink datagram))
      (by_plane (plane_of datagram) s out (control_read s (read_control ends.Ips s.datalink datagram) out)
      (data_read s (read_data ends.Ips s.datalink datagram) (record { 0 = length (packet_of datagram) }) out))
  unfolding received_in
  heard_comes datagram =
      let control = read_control ends.Ips s.datalink datagram in
      let read = read_data ends.Ips s.datalink datagram in
      let bytes : ByteCount = record { 0 = length (packet_of datagram) } in
      plane_comes (plane_of datagram) _ _ _ _ (verdict_comes control.verdict (stated control.message) _ (control_comes control.message))
      (verdict_comes read.verdict (carried read.message bytes) _ (data_comes read.message bytes))

-- ---- what number 20 has tested
abbrev pub Writable : Call → Type 0
Writable (hear datagram out) = Unit {0}
Writable (status id value out) = value ≤ 15
Writable (queued id bytes out) = Unit {0}
Writable (context k out) = context_allowed ends.Radio k ≡ true
Writable (link instance) = instance_allowed ends.Radio instance ≡ true
Writable (tell out) = Unit {0}

-- THE VIEW OF A CALL that is not refused
pub record Made (c : Call) (s s' : State) : Type 0 where
  pub fits : state_fits s ≡ true
  pub makes : Makes s (part_of c s) (context_made c s) (instance_made c s) s'
  pub writable : Writable c

through_view : (s : State) (P Q : State → Type 0) (x : After) → ((s' : State) → P s' → Q s') → Comes s P x → Comes s Q x
through_view s P Q x f (refused e same) = refused e same
through_view s P Q x f (made e p) = made e (f x.state p)

pub comes : (c : Call) (s : State) → Comes s (Made c s) (after_call c s)
unfolding after_call part_of context_made instance_made heard status_told queued_told context_told link_told told
comes (hear datagram out) s =
    let P = Made (hear datagram out) s in
    unless s P (state_fits s) OUTSIDE-LIMITS out _ (λ fits. through_view s _ P _ (λ s' m. record { fits = fits; makes = m; writable = tt }) (heard_comes s fits out datagram))
comes (status id value out) s =
    let P = Made (status id value out) s in
    unless s P (state_fits s) OUTSIDE-LIMITS out _
    (λ fits. unless s P (is_configured s id) NO-CHANNEL out _
    (λ has. unless s P (leb value HIGHEST-STATUS) NOT-WRITABLE out _
    (λ low. settling_comes s P (with_channel s (index_in s id) (with_status (channel_at s (index_in s id)) value)) out
    (record { fits = fits; makes = channel_made s fits id has (λ x. with_status x value); writable = leb-true value HIGHEST-STATUS low }))))
comes (queued id bytes out) s =
    let P = Made (queued id bytes out) s in
    unless s P (state_fits s) OUTSIDE-LIMITS out _
    (λ fits. unless s P (is_configured s id) NO-CHANNEL out _
    (λ has. settling_comes s P (with_channel s (index_in s id) (with_queued (channel_at s (index_in s id)) bytes)) out
    (record { fits = fits; makes = channel_made s fits id has (λ x. with_queued x bytes); writable = tt })))
comes (context k out) s =
    let P = Made (context k out) s in
    unless s P (state_fits s) OUTSIDE-LIMITS out _
    (λ fits. unless s P (context_allowed ends.Radio k) NOT-WRITABLE out _
    (λ allowed. settling_comes s P (with_context s k) out (record { fits = fits; makes = context_made_lem s k; writable = allowed })))
comes (link instance) s =
    let P = Made (link instance) s in
    unless s P (state_fits s) OUTSIDE-LIMITS [] _
    (λ fits. unless s P (instance_allowed ends.Radio instance) NOT-WRITABLE [] (quietly (with_instance s instance) [])
    (λ allowed. made refl (record { fits = fits; makes = instance_made_lem s instance; writable = allowed })))
comes (tell out) s =
    let P = Made (tell out) s in
    unless s P (state_fits s) OUTSIDE-LIMITS out _
    (λ fits. telling_comes s P (λ n. Ok (Answer.Answered n)) (λ n. refl) s out (record { fits = fits; makes = nothing_made s; writable = tt }))
