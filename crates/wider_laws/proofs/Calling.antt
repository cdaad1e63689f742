-- A call with a short packet comes to the same under raised limits: its reply, and every word and byte that it leaves. Assumes nothing.
use Prim.Native.Nat.{ℕ, ◌≤◌}
use mathlib.Core.Bool.{Bool, true, false, cond}
use mathlib.Core.List.{List, [], ◌∷◌}
use mathlib.Core.Path.{◌≡◌, refl, sym, ap, ◌∙◌}
use native.Mathlib.Omega.{arith}
use borrow.Author.Tests.{leb-true, le-ltb}
use lib.Dec.{leb, ltb}
use lib.ListN.{length}
use Rattle.quantity.specs.Limits.{Limits}
use Rattle.store.specs.Packets.{Packet}
use Rattle.ips_channel_rules.specs.Rules.{ChannelCall, offer, next, withdraw, nothing_waiting, not_operational, window_shut, sent, Says, Answer, refused, answered, Terms, Condition, message_bytes, offer_at, try_first, next_at, withdraw_at, call_at}
use Rattle.ips_channel_rules.specs.Machine.{machine}
use Rattle.ips_channel.specs.declared.state.DatalinkSetting.{DatalinkSetting}
use Rattle.ips_channel.specs.declared.state.Setting.{Setting}
use Rattle.ips_channel.specs.Channel.{terms_under}
use Rattle.ips_channel_calls.specs.Calls.{reply_to}
use Rattle.ips_state.specs.Memory.{World, world_fits_under, index_in, channel_in}
use Rattle.ips_run.specs.Calling.{terms_in_under, condition_in, WorldResult, calling_under}
use Rattle.ips_run.specs.Run.{Call, on, radio, pace, query}
use Rattle.ips_calls.specs.Radio.{handed_in_under}
use Rattle.ips_calls.specs.Pace.{pace_answer_under}
use Rattle.ips_calls.specs.Replies.{EndpointReply, of_channel, reply_under}
use Rattle.endpoint.specs.Lent.{Lent, world_in, words_called_under, after_in_under}
use Rattle.wider_laws.specs.Earlier.{Raised, ShortOn, Short, fits_for_under}
use Rattle.wider_laws.proofs.Fitting.{state_raised, world_raised}

-- ---- a packet that is no longer than the longest is 14 exactly where it is longer than the store
over_store : (longest size n : ℕ) → n ≤ longest → ltb (cond (leb longest size) longest size) n ≡ ltb size n
over_store longest size n below = go (leb longest size) refl
  where
    go : (b : Bool) → leb longest size ≡ b → ltb (cond b longest size) n ≡ ltb size n
    go true e = le-ltb longest n below ∙ sym (le-ltb size n (omega (arith, leb-true longest size e)))
    go false e = refl

-- ---- on one channel
module _ (narrow wide : ℕ) (up : narrow ≤ wide) (datalink : DatalinkSetting) (setting : Setting) where
  abbrev before : Terms
  before = terms_under narrow datalink setting

  abbrev later : Terms
  later = terms_under wide datalink setting

  offer_same : (p : Packet) (time : ℕ) → length p.bytes ≤ narrow → (st : Condition machine) → offer_at machine later p time st ≡ offer_at machine before p time st
  unfolding offer_at
  offer_same p time short st =
      let n = length p.bytes in
      let size = setting.size.0 in
      rw (over_store wide size n (omega arith), over_store narrow size n short)

  try_same : (ps : List Packet) (time room : ℕ) (st : Condition machine) → try_first machine later ps time room st ≡ try_first machine before ps time room st
  unfolding try_first message_bytes
  try_same [] time room st = refl
  try_same (p ∷ ps) time room st = refl

  call_same : (c : ChannelCall) → ShortOn narrow c → (st : Condition machine) → call_at machine later c st ≡ call_at machine before c st
  unfolding next_at withdraw_at
  call_same (offer p time) short st = offer_same p time short st
  call_same (next time out) short st = rw (try_same (machine.expire time st.keeping) time (length out) st)
  call_same withdraw short st = refl

  -- no message has the longest packet in it
  told_same : (c : ChannelCall) (answer : Answer (Says c)) → reply_to later c answer ≡ reply_to before c answer
  unfolding message_bytes
  told_same (offer p time) answer = refl
  told_same (next time out) (refused number) = refl
  told_same (next time out) (answered nothing_waiting) = refl
  told_same (next time out) (answered not_operational) = refl
  told_same (next time out) (answered window_shut) = refl
  told_same (next time out) (answered (sent packet sequence)) = refl
  told_same withdraw answer = refl

-- ---- on the endpoint
module _ (narrow wide : Limits) (up : Raised narrow wide) where
  calling_same : (id : ℕ) (c : ChannelCall) → ShortOn narrow.packet c → (w : World) → world_fits_under narrow w ≡ true → calling_under wide id c w ≡ calling_under narrow id c w
  unfolding calling_under
  calling_same id c short w fits =
      let index = index_in w id in
      rw (world_raised narrow wide up w fits, fits, call_same narrow.packet wide.packet up.packet w.state.datalink (channel_in w index).setting c short (condition_in w index))

  pub reply_same : (c : Call) → Short narrow.packet c → (w : World) → fits_for_under narrow c w ≡ true → reply_under wide c w ≡ reply_under narrow c w
  unfolding handed_in_under pace_answer_under
  reply_same (on id c) short w fits =
      let index = index_in w id in
      ap {B = EndpointReply} (λ (r : WorldResult (Says c)). of_channel (reply_to (terms_in_under wide.packet w index) c r.answer)) (calling_same id c short w fits)
      ∙ ap of_channel (told_same narrow.packet wide.packet up.packet w.state.datalink (channel_in w index).setting c (calling_under narrow id c w).answer)
  reply_same (radio time datagram) short w fits = rw (state_raised narrow wide up w.state fits, fits)
  reply_same (pace time) short w fits = rw (state_raised narrow wide up w.state fits, fits)
  reply_same (query out) short w fits = rw (state_raised narrow wide up w.state fits, fits)

  pub after_same : (c : Call) → Short narrow.packet c → (l : Lent) → fits_for_under narrow c (world_in l) ≡ true → after_in_under wide c l ≡ after_in_under narrow c l
  unfolding after_in_under words_called_under
  after_same (on id c) short l fits = rw (calling_same id c short (world_in l) fits)
  after_same (radio time datagram) short l fits = rw (state_raised narrow wide up (world_in l).state fits, fits)
  after_same (pace time) short l fits = rw (state_raised narrow wide up (world_in l).state fits, fits)
  after_same (query out) short l fits = refl
