-- Document 01, "A channel's life": what an accepted radio control message makes of a configured channel, by the options that stand in it: types, lengths and bytes
-- as numbers.
use Rattle.std.specs.Prelude.{ℕ, ◌+◌, ◌*◌, ◌%◌, ◌<◌, true, false, List, [], ◌∷◌, ◌≡◌, length, get_or, Some, None}
use Rattle.wire.specs.Options.{Options, option}
use Rattle.flow.specs.declared.Flow.{Flow}
use Rattle.ips_channel.specs.declared.state.Channel.{Channel}
use Rattle.pacer.specs.declared.Pacer.{Pacer}
use Rattle.ips_state.specs.State.{State, no_channel}

-- an option of this type with this content stands among the options
pub data Holds (kind : ℕ) (content : List ℕ) : Options → Type 0 where
  first : {more : Options} → Holds kind content (option kind content more)
  later : {other : ℕ} {bytes : List ℕ} {more : Options} → Holds kind content more → Holds kind content (option other bytes more)

-- Channel Status is type 5: "Channel ID, 4 unused bits, 4-bit Status". Flow Window is type 6: "Channel ID, window or no window".
pub record Hears (options : Options) (before after : Channel) : Type 0 where
  -- "a configured channel that it names takes its Status; one that it doesn't name is not reported."
  pub named : (byte : ℕ) → Holds 5 (before.setting.id ∷ (byte ∷ [])) options → after.status ≡ Some (byte % 16)
  pub unnamed : ((byte : ℕ) → Holds 5 (before.setting.id ∷ (byte ∷ [])) options → ⊥) → after.status ≡ None
  -- "For each flow-controlled channel: .. one with a window puts that in force, smaller than before or not", "one without a window leaves it with no window",
  -- "no Flow Window option makes it free"
  pub in_force : before.setting.controlled ≡ true → (a b c d : ℕ) → Holds 6 (before.setting.id ∷ (a ∷ (b ∷ (c ∷ (d ∷ []))))) options
      → after.flow ≡ Flow.InForce (record { 0 = a * 16777216 + (b * 65536 + (c * 256 + d)) })
  pub no_window_lem : before.setting.controlled ≡ true → Holds 6 (before.setting.id ∷ []) options → after.flow ≡ Flow.NoWindow
  pub freed : before.setting.controlled ≡ true → ((content : List ℕ) → Holds 6 (before.setting.id ∷ content) options → ⊥) → after.flow ≡ Flow.Free
  -- "Plain channels are always free."
  pub plain : before.setting.controlled ≡ false → after.flow ≡ Flow.Free
  -- nothing else of it changes
  pub setting_stays : after.setting ≡ before.setting
  pub sequence_stays : after.sequence ≡ before.sequence
  pub latest_stays : after.latest ≡ before.latest
  pub queue_stays : after.queue ≡ before.queue

-- "Radio control message accepted: a configured channel .. Unconfigured channels are skipped."
pub record EachHears (options : Options) (s s' : State) : Type 0 where
  pub each : (index : ℕ) → index < length s.channels → Hears options (get_or s.channels index no_channel) (get_or s'.channels index no_channel)
  pub count_stays : length s'.channels ≡ length s.channels
  pub datalink_stays : s'.datalink ≡ s.datalink

-- Document 02, §1: "once accepted it moves that clock", and the silence is counted from it; nothing else of the pacer changes.
pub record PacerHears (time : ℕ) (before after : Pacer) : Type 0 where
  pub clock_is : after.clock ≡ time
  pub heard_is : after.heard ≡ time
  pub due_stays : after.due ≡ before.due
  pub hello_stays : after.hello ≡ before.hello
  pub limit_stays : after.limit ≡ before.limit
