-- The message that Tell writes after a start. Assumes nothing.
use Rattle.std.specs.Prelude.{Some, None, Ok}
use Prim.Native.Nat.{ℕ, zero, suc, ◌≤◌, ◌<◌}
use mathlib.Core.Bool.{true}
use mathlib.Core.List.{List, [], ◌∷◌, map}
use mathlib.Core.Logic.{inl, inr}
use mathlib.Core.Path.{◌≡◌, refl, sym, ap, ◌∙◌}
use native.Mathlib.Omega.{arith}
use lib.ListN.{length, get_or, take, drop, length-map}
use lib.Seq.{take_at}
use Rattle.wire.specs.Options.{over}
use Rattle.meaning.specs.declared.message.End.TheVariants as ends
use Rattle.reader.specs.Readings.{Verdict, read_control}
use Rattle.writer.specs.Written.{no_room_of}
use Rattle.radio_end_state.specs.declared.answer.Answer.{Answer}
use Rattle.radio_end_state.specs.declared.channel.Setting.{Setting}
use Rattle.radio_end_state.specs.declared.channel.Channel.{Channel}
use Rattle.radio_end_state.specs.Channel.{fresh_channel}
use Rattle.radio_end_state.specs.State.{Configuration, no_setting, no_channel, channel_at, fresh_state}
use Rattle.radio_end_state.specs.Limits.{state_fits}
use Rattle.radio_end_state.specs.Message.{message_of, message_bytes}
use Rattle.radio_end_state.specs.Calls.{told}
use Rattle.radio_end_laws.specs.Plain.{WindowIs, Names, status_of, window_of}
use Rattle.radio_end_laws.specs.Given.{NoRoom}
use Rattle.radio_end_laws.specs.Fresh.{TellsFresh, FreshTold}
use Rattle.radio_end_laws.proofs.Message.{message_short, tells_back, names_every}
use Rattle.radio_end_laws.proofs.Ordered.{off, no_room_exactly}
use Rattle.radio_end_laws.proofs.Exactly.{tell_ordered}

-- a fresh channel: status 0, nothing queued, none heard
abbrev unused : Setting → Channel
unused setting = record { setting = setting; status = 0; queued = record { 0 = 0 }; highest = None }

unused_at : (ks : List Setting) (index : ℕ) → get_or (map fresh_channel ks) index no_channel ≡ unused (get_or ks index no_setting)
unused_at [] index = refl
unused_at (k ∷ ks) zero = refl
unused_at (k ∷ ks) (suc index) = unused_at ks index

module _ (k : Configuration) where
  abbrev setting : ℕ → Setting
  setting index = get_or k.settings index no_setting

  channel_is : (index : ℕ) → channel_at (fresh_state k) index ≡ unused (setting index)
  unfolding channel_at fresh_state
  channel_is index = unused_at k.settings index

  many : length (fresh_state k).channels ≡ length k.settings
  unfolding fresh_state
  many = length-map k.settings fresh_channel

  module _ (fits : state_fits (fresh_state k) ≡ true) where
    names : Names (fresh_state k) (message_of (fresh_state k))
    names = names_every (fresh_state k) fits

    status_zero : (index : ℕ) → index < length k.settings → status_of (message_of (fresh_state k)) (setting index).id ≡ Some 0
    status_zero index h = rw (channel_is index) at (names.status index (omega (arith, h, many)))

    window_is : (index : ℕ) → index < length k.settings → WindowIs (unused (setting index)) (window_of (message_of (fresh_state k)) (setting index).id)
    window_is index h = rw (channel_is index) at (names.window index (omega (arith, h, many)))

    own : (index id : ℕ) → (channel_at (fresh_state k) index).setting.id ≡ id → (setting index).id ≡ id
    own index id e = sym (ap (λ (c : Channel). c.setting.id) (channel_is index)) ∙ e

    tells_fresh : TellsFresh k (message_of (fresh_state k))
    unfolding fresh_state
    tells_fresh = record {
      datalink = names.datalink;
      instance = names.instance;
      context = names.context;
      status = status_zero;
      window = λ index h e. (window_is index h).unheard e refl;
      plain = λ index h e. (window_is index h).plain e;
      no_other = λ id none. names.no_other id (λ has. none has.0 (omega (arith, has.1.inside, many)) (own has.0 id has.1.is));
      no_sequence_lem = names.no_sequence_lem;
    }

    -- AFTER A START, where the output has room for it
    module _ (out : List ℕ) (room : length (message_bytes (fresh_state k)) ≤ length out) where
      abbrev bytes : List ℕ
      bytes = message_bytes (fresh_state k)

      roomy : NoRoom bytes out → ⊥
      roomy (inl h) = omega (arith, h, room)
      roomy (inr h) = omega (arith, h, message_short (fresh_state k) fits)

      told_is : told (fresh_state k) out ≡ record { answer = Ok (Answer.Answered (record { 0 = length bytes })); state = fresh_state k; output = over bytes out }
      told_is = tell_ordered (fresh_state k) out ∙ rw (fits, off (no_room_of (length bytes) (length out)) (no_room_exactly bytes out) roomy)

      reads_back : read_control ends.Radio (fresh_state k).datalink (take (length bytes) (over bytes out)) ≡ record { verdict = Verdict.Accepted; message = message_of (fresh_state k) }
      reads_back = rw (take_at bytes (drop (length bytes) out) (length bytes) refl) (tells_back (fresh_state k) fits)

      pub fresh_tell : FreshTold k (told (fresh_state k) out)
      unfolding fresh_state
      fresh_tell = rw told_is record {
        bytes = record { 0 = length bytes };
        message = message_of (fresh_state k);
        answered = refl;
        kept = refl;
        reads = reads_back;
        tells = tells_fresh;
      }
