-- Any calls of the code's own functions on a channel and its store, one after the other, each with whatever outcome its contract allows, are a run of the rules.
-- Assumes nothing.
use Prim.Native.Nat.{ℕ}
use mathlib.Core.Path.{◌≡◌, refl, ap₂}
use mathlib.Core.List.{List, ◌∷◌}
use Rattle.ips_channel_rules.specs.Rules.{Event, Terms, Condition, history, final}
use Rattle.ips_channel_rules.specs.Machine.{machine}
use Rattle.ips_channel.specs.declared.state.DatalinkSetting.{DatalinkSetting}
use Rattle.ips_channel.specs.declared.state.Channel.{Channel}
use Rattle.ips_channel.specs.Channel.{terms_of, condition_of}
use Rattle.ips_channel_calls.specs.Calls.{Reply, Ready}
use Rattle.ips_channel_calls.specs.ChannelRan.{ChannelRan, over, served, told, replies_to}
use Rattle.ips_channel_calls.proofs.Again.{Again, after_call, after_hear_lem}

-- a run of the rules from a condition
record Runs (k : Terms) (st : Condition machine) (es : List Event) (replies : List Reply) (d : Channel) (last : List ℕ) : Type 0 where
  replies_are : replies ≡ replies_to k (history machine k es st)
  final_is : condition_of d last ≡ final machine k es st
  ready : Ready d last

module _ (datalink : DatalinkSetting) where
  -- what comes after a call, on the channel that it left
  go_on : {c c' d : Channel} {st : Condition machine} {store' last : List ℕ} {es : List Event} {replies : List Reply} → Again c st c' store'
      → Runs (terms_of datalink c'.setting) (condition_of c' store') es replies d last → Runs (terms_of datalink c.setting) st es replies d last
  go_on a x = rw (a.condition, a.setting) at x

  runs : {c d : Channel} {store last : List ℕ} {es : List Event} {replies : List Reply} → Ready c store → ChannelRan datalink c store es replies d last
      → Runs (terms_of datalink c.setting) (condition_of c store) es replies d last
  runs ready over = record { replies_are = refl; final_is = refl; ready = ready }
  runs {c} {store} ready (served s more) =
      let a = after_call c store ready datalink s in
      let x = go_on a (runs a.ready more) in
      record { replies_are = ap₂ (λ (r : Reply) (rs : List Reply). r ∷ rs) s.reply_is x.replies_are; final_is = x.final_is; ready = x.ready }
  runs {c} {store} ready (told {c'} {status} {window} e more) =
      let a = after_hear_lem c store ready datalink status window c' e in
      let x = go_on a (runs a.ready more) in
      record { replies_are = x.replies_are; final_is = x.final_is; ready = x.ready }

  module _ {c d : Channel} {store last : List ℕ} {es : List Event} {replies : List Reply} (ready : Ready c store) (run : ChannelRan datalink c store es replies d last) where
    -- what the caller got is what the rules reply, on the same channel throughout
    pub channel_replies : replies ≡ replies_to (terms_of datalink c.setting) (history machine (terms_of datalink c.setting) es (condition_of c store))
    channel_replies = (runs ready run).replies_are

    pub channel_final : condition_of d last ≡ final machine (terms_of datalink c.setting) es (condition_of c store)
    channel_final = (runs ready run).final_is

    pub channel_ready : Ready d last
    channel_ready = (runs ready run).ready
