-- "Show that any two outcomes allowed by one contract coincide": in answer, state and every lent byte. Assumes nothing.
use Rattle.quantity.specs.declared.refusal.Refusal.{Refusal}
use Rattle.std.specs.Prelude.{Result}
use mathlib.Core.Bool.{Bool}
use mathlib.Core.Path.{◌≡◌, sym, ◌∙◌}
use Rattle.ips_state.specs.State.{Configuration}
use Rattle.ips_state.specs.Memory.{World}
use Rattle.ips_run.specs.Run.{Call}
use Rattle.ips_calls.specs.Replies.{EndpointReply}
use Rattle.ips_calls.specs.Calls.{Performed}
use Rattle.ips_calls.specs.Start.{Started}

-- any call: the reply has the bytes of the output, the world the state and the memory
pub calls_coincide : {c : Call} {w : World} {x x' : EndpointReply} {w' w'' : World} → Performed c w x w' → Performed c w x' w'' → (x ≡ x') × (w' ≡ w'')
calls_coincide h k = (h.reply_is ∙ sym k.reply_is, h.world_is ∙ sym k.world_is)

pub starts_coincide : {k : Configuration} {room : Bool} {w : World} {answer answer' : Result (Unit {0}) Refusal} {w' w'' : World} → Started k room w answer w' → Started k room w answer' w''
    → (answer ≡ answer') × (w' ≡ w'')
starts_coincide h k = (h.answer_is ∙ sym k.answer_is, h.world_is ∙ sym k.world_is)
