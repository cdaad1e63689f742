-- Promise: what a radio control message handed in leaves of each configured channel, option by option: of a call as it should be on a state. Assumes nothing.
use Rattle.std.specs.Prelude.{Option, Some, None, Ok}
use Prim.Native.Nat.{ℕ, suc, ◌+◌, ◌*◌, ◌%◌, ◌≤◌, ◌<◌}
use mathlib.Core.Bool.{true, false}
use mathlib.Core.List.{List, [], ◌∷◌}
use mathlib.Core.Logic.{◌↔◌}
use mathlib.Core.Path.{◌≡◌, refl, sym, ap, ap₂, ◌∙◌}
use native.Mathlib.Omega.{arith}
use borrow.Author.Tests.{eq-eqb, ne_eqb, le-ltb, eqb-true}
use lib.ListN.{length, get_or}
use Rattle.facts.proofs.Tests.{clash}
use Rattle.facts.proofs.Tables.{get_d_tabulate}
use Rattle.quantity.specs.declared.count.DatalinkId.{DatalinkId}
use Rattle.quantity.specs.Limits.{CHANNEL-IDS, LONGEST-DATAGRAM}
use Rattle.wire.specs.Numbers.{Octets, number_from}
use Rattle.wire.specs.Options.{Options, option, bytes}
use Rattle.meaning.specs.declared.message.End.TheVariants as ends
use Rattle.meaning.specs.declared.message.Plane.TheVariants as planes
use Rattle.meaning.specs.declared.message.Window.{Window}
use Rattle.meaning.specs.declared.message.Control.{Control}
use Rattle.meaning.specs.Kinds.{length_listed, CHANNEL-STATUS, FLOW-WINDOW}
use Rattle.read_option.specs.Stated.{Table, status_from, window_from, control_stated}
use Rattle.read_control.specs.Message.{control_accepted}
use Rattle.reader.specs.Header.{CURRENT-VERSION, version_of, flag_of}
use Rattle.reader.specs.Readings.{plane_of}
use Rattle.acceptance.specs.Account.{table_of, Accepts, control_meaning}
use Rattle.acceptance.proofs.Control.{control_account}
use Rattle.flow.specs.declared.Flow.{Flow}
use Rattle.ips_channel.specs.declared.state.Channel.{Channel}
use Rattle.ips_channel.specs.Channel.{heard_of}
use Rattle.ips_state.specs.State.{State, no_channel, channel_at, with_pacer}
use Rattle.pacer.specs.Pacing.{heard_at}
use Rattle.ips_state.specs.Limits.{flow_fits, state_fits}
use Rattle.ips_state.specs.Memory.{World}
use Rattle.ips_state.proofs.Places.{channel_fitting_at}
use Rattle.ips_radio.specs.Heard.{status_in, window_in, heard_from, heard_by}
use Rattle.ips_radio.proofs.Hearings.{heard_count, heard_at_lem}
use Rattle.ips_run.specs.Run.{radio, stated, received_in}
use Rattle.ips_run.proofs.Exact.{heard_when, received_in_time}
use Rattle.ips_calls.specs.Replies.{EndpointReply}
use Rattle.ips_calls.specs.Calls.{lending, PerformedWithAny}
use Rattle.radio_laws.specs.OptionByOption.{Holds, later, Hears, EachHears, PacerHears}
use Rattle.radio_laws.proofs.Holding.{ForChannels, elsewhere, holds_listed, says, said, said_alike}

-- a Channel Status has two bytes
one_more : (n : ℕ) (rest : List ℕ) → length_listed 5 (length (n ∷ rest)) ≡ true → (byte : ℕ) × (rest ≡ byte ∷ [])
unfolding length_listed
one_more n rest l = go rest (eqb-true (length (n ∷ rest)) 2 l)
  where
    go : (rest : List ℕ) → length (n ∷ rest) ≡ 2 → (byte : ℕ) × (rest ≡ byte ∷ [])
    go [] h = absurd (omega arith)
    go (byte ∷ []) h = (byte, refl)
    go (x ∷ (y ∷ more)) h = absurd (omega arith)

plain_free_lem : (flow : Flow) → flow_fits false flow ≡ true → flow ≡ Flow.Free
plain_free_lem Flow.Free e = refl
plain_free_lem Flow.NoWindow e = clash e
plain_free_lem (Flow.InForce window) e = clash e

-- ---- what an accepted message states of a channel
channel_status : ForChannels 5
unfolding length_listed
channel_status = record { is_known = refl; listed = refl; each = refl; not_empty = refl }

flow_window_lem : ForChannels 6
unfolding length_listed
flow_window_lem = record { is_known = refl; listed = refl; each = refl; not_empty = refl }

module _ (id : DatalinkId) (datagram : List ℕ) (f : Options) (a : Accepts planes.Control ends.Radio id datagram f) where
  abbrev meant : Control
  meant = control_meaning ends.Radio f

  abbrev table : Table
  table = table_of planes.Control ends.Radio f

  module _ (n : ℕ) (below : n < CHANNEL-IDS) where
    status_in_lem : status_in meant n ≡ status_from (table 5 n)
    unfolding control_stated
    status_in_lem = ap (λ cell. cell) (get_d_tabulate CHANNEL-IDS (λ k. status_from (table CHANNEL-STATUS k)) n None below)

    window_in_lem : window_in meant n ≡ window_from (table 6 n)
    unfolding control_stated
    window_in_lem = ap (λ cell. cell) (get_d_tabulate CHANNEL-IDS (λ k. window_from (table FLOW-WINDOW k)) n None below)

    status_named : (byte : ℕ) → Holds 5 (n ∷ (byte ∷ [])) f → status_in meant n ≡ Some (byte % 16)
    status_named byte h = status_in_lem ∙ rw (says 5 channel_status id datagram f a n (byte ∷ []) h)

    status_unnamed : ((byte : ℕ) → Holds 5 (n ∷ (byte ∷ [])) f → ⊥) → status_in meant n ≡ None
    status_unnamed never = status_in_lem ∙ go (table 5 n) refl
      where
        go : (x : Option (List ℕ)) → table 5 n ≡ x → status_from x ≡ None
        go None e = refl
        go (Some content) e =
            let h = said 5 channel_status id datagram f a n content e in
            let t = one_more n h.0 ((holds_listed f a.listed h.2).length_listed_lem refl) in
            absurd (never t.0 (rw t.1 at h.2))

    window_given : (b c d e : ℕ) → Holds 6 (n ∷ (b ∷ (c ∷ (d ∷ (e ∷ []))))) f → window_in meant n ≡ Some (Window.Given (record { 0 = b * 16777216 + (c * 65536 + (d * 256 + e)) }))
    unfolding number_from
    window_given b c d e h =
        let number : number_from 0 (b ∷ (c ∷ (d ∷ (e ∷ [])))) ≡ b * 16777216 + (c * 65536 + (d * 256 + e)) = omega arith in
        window_in_lem ∙ rw (says 6 flow_window_lem id datagram f a n (b ∷ (c ∷ (d ∷ (e ∷ [])))) h, number)

    window_empty : Holds 6 (n ∷ []) f → window_in meant n ≡ Some Window.Empty
    window_empty h = window_in_lem ∙ rw (says 6 flow_window_lem id datagram f a n [] h)

    window_absent : ((content : List ℕ) → Holds 6 (n ∷ content) f → ⊥) → window_in meant n ≡ None
    window_absent never = window_in_lem ∙ go (table 6 n) refl
      where
        go : (x : Option (List ℕ)) → table 6 n ≡ x → window_from x ≡ None
        go None e = refl
        go (Some content) e = let h = said 6 flow_window_lem id datagram f a n content e in absurd (never h.0 h.2)

  -- ---- what a channel makes of it
  hears : (c : Channel) → c.setting.id < CHANNEL-IDS → flow_fits c.setting.controlled c.flow ≡ true → Hears f c (heard_from meant c)
  unfolding heard_from heard_of
  hears c below fits = record {
    named = status_named c.setting.id below;
    unnamed = status_unnamed c.setting.id below;
    in_force = λ controlled b d e g h. rw (controlled, window_given c.setting.id below b d e g h);
    no_window_lem = λ controlled h. rw (controlled, window_empty c.setting.id below h);
    freed = λ controlled never. rw (controlled, window_absent c.setting.id below never);
    plain = λ plain. rw plain (plain_free_lem c.flow (rw plain at fits));
    setting_stays = refl;
    sequence_stays = refl;
    latest_stays = refl;
    queue_stays = refl;
  }

  -- ---- the message handed in
  of_plane : plane_of datagram ≡ Ok planes.Control
  unfolding plane_of
  of_plane =
      let h : length (a.header ∷ bytes f) ≤ LONGEST-DATAGRAM = rw a.whole at a.short in
      let n : suc (length (bytes f)) ≡ 0 → ⊥ = λ x. omega arith in
      rw (
        a.whole,
        le-ltb LONGEST-DATAGRAM (length (a.header ∷ bytes f)) h,
        ne_eqb (suc (length (bytes f))) 0 n,
        eq-eqb (version_of a.header) CURRENT-VERSION a.version,
        eq-eqb (flag_of a.header) 0 a.of_plane,
      )

  pub brings : Octets datagram → received_in id datagram ≡ stated meant
  unfolding control_accepted
  brings octets =
      let read = (control_account ends.Radio id datagram octets).1 f a in
      heard_when id datagram of_plane (ap (λ r. r.verdict) read) ∙ rw read

module _ (s : State) (fits : state_fits s ≡ true) (time : ℕ) (timely : s.pacer.clock ≤ time) (datagram : List ℕ) (octets : Octets datagram)
    (f : Options) (a : Accepts planes.Control ends.Radio s.datalink.id datagram f) where
  module _ {x : EndpointReply} {s' : State} (h : PerformedWithAny (radio time datagram) s x s') where
    pub left : s' ≡ with_pacer (heard_by (control_meaning ends.Radio f) s) (heard_at time s.pacer)
    left =
        let there = received_in_time (lending s []) time datagram (rw (fits, le-ltb time s.pacer.clock timely)) in
        ap (λ (w : World). w.state) ((h []).world_is ∙ there) ∙ rw (brings s.datalink.id datagram f a octets)

    after_is : (index : ℕ) → index < length s.channels → get_or s'.channels index no_channel ≡ heard_from (control_meaning ends.Radio f) (get_or s.channels index no_channel)
    unfolding channel_at with_pacer
    after_is index inside = rw left (heard_at_lem (control_meaning ends.Radio f) s index inside)

    -- THE PROMISE: every configured channel takes what the options of its own Channel ID state
    pub option_by_option : EachHears f s s'
    unfolding channel_at heard_by with_pacer
    option_by_option = record {
      each = λ index inside.
          let within = channel_fitting_at s fits index inside in
          rw (after_is index inside) (hears s.datalink.id datagram f a (get_or s.channels index no_channel) within.unreserved within.flow_fits_lem);
      count_stays = rw left (heard_count (control_meaning ends.Radio f) s);
      datalink_stays = rw left;
    }

    -- and the pacer its time
    pub pacer_hears : PacerHears time s.pacer s'.pacer
    unfolding with_pacer heard_at
    pacer_hears = rw left (record { clock_is = refl; heard_is = refl; due_stays = refl; hello_stays = refl; limit_stays = refl })

-- ---- "Unconfigured channels are skipped."

module _ (s : State) (fits : state_fits s ≡ true) (time then : ℕ) (timely : s.pacer.clock ≤ time) (timely' : s.pacer.clock ≤ then)
    (datagram other : List ℕ) (octets : Octets datagram) (octets' : Octets other) (f g : Options)
    (a : Accepts planes.Control ends.Radio s.datalink.id datagram f) (b : Accepts planes.Control ends.Radio s.datalink.id other g)
    {x y : EndpointReply} {s' t' : State} (h : PerformedWithAny (radio time datagram) s x s') (k : PerformedWithAny (radio then other) s y t')
    (index : ℕ) (inside : index < length s.channels) where
  abbrev own : ℕ
  own = (get_or s.channels index no_channel).setting.id

  -- a channel takes nothing from the options of another channel: two messages with the same options of its own ID leave it the same
  pub own_options_only : ((kind : ℕ) (rest : List ℕ) → Holds kind (own ∷ rest) f ↔ Holds kind (own ∷ rest) g) → get_or s'.channels index no_channel ≡ get_or t'.channels index no_channel
  unfolding heard_from heard_of channel_at
  own_options_only same =
      let below : own < CHANNEL-IDS = (channel_fitting_at s fits index inside).unreserved in
      let status : status_in (control_meaning ends.Radio f) own ≡ status_in (control_meaning ends.Radio g) own =
      status_in_lem s.datalink.id datagram f a own below
      ∙ rw (said_alike 5 channel_status s.datalink.id datagram other f g a b own (same 5)) (sym (status_in_lem s.datalink.id other g b own below)) in
      let window : window_in (control_meaning ends.Radio f) own ≡ window_in (control_meaning ends.Radio g) own =
      window_in_lem s.datalink.id datagram f a own below
      ∙ rw (said_alike 6 flow_window_lem s.datalink.id datagram other f g a b own (same 6)) (sym (window_in_lem s.datalink.id other g b own below)) in
      after_is s fits time timely datagram octets f a h index inside
      ∙ ap₂ (heard_of (get_or s.channels index no_channel)) status window
      ∙ sym (after_is s fits then timely' other octets' g b k index inside)

  -- so an option of a channel that isn't configured changes no channel
  pub other_channel_skipped : (kind n : ℕ) (rest : List ℕ) → (n ≡ own → ⊥) → g ≡ option kind (n ∷ rest) f → get_or s'.channels index no_channel ≡ get_or t'.channels index no_channel
  other_channel_skipped kind n rest apart more = own_options_only (λ k r. (λ holds. rw more (later holds), λ holds. elsewhere apart (rw more at holds)))
