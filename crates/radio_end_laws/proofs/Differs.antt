-- Where the message is written: exactly if a status, the Context or a window differs from before. Assumes nothing.
use Rattle.std.specs.Prelude.{Option, Some, None}
use Rattle.quantity.specs.declared.count.FlowSequence.{FlowSequence}
use Rattle.meaning.specs.declared.message.ContextBytes.{ContextBytes}
use Prim.Native.Nat.{ℕ, zero, suc, ◌+◌, ◌%◌, ◌<◌, min}
use mathlib.Core.Bool.{Bool, true, false, cond, not, ◌||◌, and-eq-true_iff}
use mathlib.Core.List.{List, [], ◌∷◌, map}
use mathlib.Core.Logic.{◌↔◌}
use mathlib.Core.Path.{◌≡◌, refl, sym, ap, ap₂, subst, ◌∙◌}
use native.Mathlib.Omega.{arith}
use borrow.Author.Tests.{eqb-true, eq-eqb, not-false}
use lib.Dec.{eqb}
use lib.ListN.{length, get_or}
use Rattle.facts.proofs.Tests.{clash, neither}
use Rattle.quantity.specs.declared.count.FlowWindow.{FlowWindow}
use Rattle.meaning.specs.declared.message.Window.{Window}
use Rattle.radio_flow.specs.Granting.{window_of, allowance_of, same_window}
use Rattle.radio_flow.proofs.Windows.{same_window_lem, window_same}
use Rattle.radio_end_state.specs.declared.channel.Channel.{Channel}
use Rattle.radio_end_state.specs.Channel.{window_now, channel_differs}
use Rattle.radio_end_state.specs.State.{State, no_channel, channel_at}
use Rattle.radio_end_state.specs.Message.{same_context, channels_differ, differs}
use Rattle.radio_end_laws.specs.Plain.{Stands, on_channel, each_channel, of_id, status_set, queued_set, context_set, SameChannel, SameTold, StatusChanges, WindowChanges, AllowanceChanges, QueuedChanges}

-- a test that fails exactly if something holds passes exactly if it doesn't
pub passes_unless : (b : Bool) {T : Type 0} → (b ≡ false) ↔ T → (b ≡ true) ↔ (T → ⊥)
passes_unless b {T} i = (λ e t. clash (sym (i.1 t) ∙ e), go b refl)
  where
    go : (t : Bool) → b ≡ t → (T → ⊥) → b ≡ true
    go true e never = e
    go false e never = absurd (never (i.0 e))

-- ---- the Context
context_same : (k : Option (ContextBytes × ℕ)) → same_context k k ≡ true
context_same None = refl
context_same (Some (bytes, size)) = rw (eq-eqb bytes.0 bytes.0 refl) (eq-eqb size size refl)

same_context_lem : (k l : Option (ContextBytes × ℕ)) → same_context k l ≡ true → k ≡ l
same_context_lem None None e = refl
same_context_lem None (Some (bytes, size)) e = clash e
same_context_lem (Some (bytes, size)) None e = clash e
same_context_lem (Some (bytes, size)) (Some (other, long)) e =
    let both = (and-eq-true_iff (eqb bytes.0 other.0) (eqb size long)).0 e in
    ap₂ (λ (x y : ℕ). Some (record { 0 = x }, y)) (eqb-true bytes.0 other.0 both.0) (eqb-true size long both.1)

same_context_exactly : (k l : Option (ContextBytes × ℕ)) → (not (same_context k l) ≡ false) ↔ (k ≡ l)
same_context_exactly k l = (λ e. same_context_lem k l (not-false _ e), λ e. subst (λ (x : Option (ContextBytes × ℕ)). not (same_context k x) ≡ false) e (rw (context_same k)))

-- ---- a channel
pub channel_exactly : (c d : Channel) → (channel_differs c d ≡ false) ↔ SameChannel c d
unfolding channel_differs
channel_exactly c d = (
  λ e.
      let both = neither (not (eqb c.status d.status)) (not (same_window (window_now c) (window_now d))) e in
      record { status = eqb-true c.status d.status (not-false _ both.0); window = same_window_lem (window_now c) (window_now d) (not-false _ both.1) },
  λ x. rw (eq-eqb c.status d.status x.status, x.window, window_same (window_now d)),
)

-- ---- all channels, of lists of the same length
abbrev AllSame : List Channel → List Channel → Type 0
AllSame cs ds = (i : ℕ) → i < length cs → SameChannel (get_or cs i no_channel) (get_or ds i no_channel)

one_more : (c d : Channel) (cs ds : List Channel) → (channels_differ cs ds ≡ false) ↔ AllSame cs ds → ((channel_differs c d || channels_differ cs ds) ≡ false) ↔ AllSame (c ∷ cs) (d ∷ ds)
one_more c d cs ds rest = (there, λ f. rw ((channel_exactly c d).1 (f 0 (omega arith))) (rest.1 (λ i h. f (suc i) (omega arith))))
  where
    there : (channel_differs c d || channels_differ cs ds) ≡ false → AllSame (c ∷ cs) (d ∷ ds)
    there f zero h = (channel_exactly c d).0 (neither (channel_differs c d) (channels_differ cs ds) f).0
    there f (suc i) h = rest.0 (neither (channel_differs c d) (channels_differ cs ds) f).1 i (omega arith)

all_same : (cs ds : List Channel) → length cs ≡ length ds → (channels_differ cs ds ≡ false) ↔ AllSame cs ds
unfolding channels_differ
all_same [] ds e = (λ f i h. absurd (omega arith), λ f. refl)
all_same (c ∷ cs) [] e = absurd (omega arith)
all_same (c ∷ cs) (d ∷ ds) e = one_more c d cs ds (all_same cs ds (omega arith))

-- A MESSAGE IS WRITTEN EXACTLY IF one of them differs, whatever the change
pub differs_exactly : (before after : State) → length before.channels ≡ length after.channels → (differs before after ≡ false) ↔ SameTold before after
unfolding differs channel_at
differs_exactly before after e = (
  λ f.
      let both = neither (not (same_context before.context after.context)) (channels_differ before.channels after.channels) f in
      record { context = (same_context_exactly before.context after.context).0 both.0; each = (all_same before.channels after.channels e).0 both.1 },
  λ x. rw ((same_context_exactly before.context after.context).1 x.context) ((all_same before.channels after.channels e).1 x.each),
)

-- ---- each channel becomes another: where one differs
module _ (change : Channel → Channel) where
  abbrev SomeDiffers : List Channel → Type 0
  SomeDiffers cs = (i : ℕ) × (i < length cs) × (SameChannel (get_or cs i no_channel) (change (get_or cs i no_channel)) → ⊥)

  first_or_later : (c : Channel) (cs : List Channel) → (channels_differ cs (map change cs) ≡ true) ↔ SomeDiffers cs
      → ((channel_differs c (change c) || channels_differ cs (map change cs)) ≡ true) ↔ SomeDiffers (c ∷ cs)
  first_or_later c cs rest = (go (channel_differs c (change c)) refl, λ x. back x.0 x.1 x.2)
    where
      here : (channel_differs c (change c) ≡ true) ↔ (SameChannel c (change c) → ⊥)
      here = passes_unless (channel_differs c (change c)) (channel_exactly c (change c))

      go : (b : Bool) → channel_differs c (change c) ≡ b → (b || channels_differ cs (map change cs)) ≡ true → SomeDiffers (c ∷ cs)
      go true e f = (0, omega arith, here.0 e)
      go false e f = let x = rest.0 f in (suc x.0, omega (arith, x.1), x.2)

      either : (b : Bool) → (b || true) ≡ true
      either true = refl
      either false = refl

      back : (i : ℕ) → i < suc (length cs) → (SameChannel (get_or (c ∷ cs) i no_channel) (change (get_or (c ∷ cs) i no_channel)) → ⊥) → (channel_differs c (change c) || channels_differ cs (map change cs)) ≡ true
      back zero h never = rw (here.1 never)
      back (suc i) h never = rw (rest.1 (i, omega arith, never)) (either (channel_differs c (change c)))

  some_differs : (cs : List Channel) → (channels_differ cs (map change cs) ≡ true) ↔ SomeDiffers cs
  unfolding channels_differ
  some_differs [] = (λ e. clash e, λ x. absurd (omega (arith, x.1)))
  some_differs (c ∷ cs) = first_or_later c cs (some_differs cs)

  pub each_differs : (s : State) → (differs s (each_channel s change) ≡ true) ↔ ((index : ℕ) × (index < length s.channels) × (SameChannel (channel_at s index) (change (channel_at s index)) → ⊥))
  unfolding differs channel_at
  each_differs s = rw (context_same s.context) (some_differs s.channels)

-- ---- the channel of an ID becomes another
module _ (change : Channel → Channel) (Changes : Channel → Type 0) (exactly : (c : Channel) → (SameChannel c (change c) → ⊥) ↔ Changes c) where
  own_id : (c : Channel) (id : ℕ) → (SameChannel c (on_channel id change c) → ⊥) → (c.setting.id ≡ id) × Changes c
  own_id c id = go (eqb c.setting.id id) refl
    where
      go : (b : Bool) → eqb c.setting.id id ≡ b → (SameChannel c (cond b (change c) c) → ⊥) → (c.setting.id ≡ id) × Changes c
      go true e never = (eqb-true _ _ e, (exactly c).0 never)
      go false e never = absurd (never (record { status = refl; window = refl }))

  id_own : (c : Channel) (id : ℕ) → c.setting.id ≡ id → Changes c → SameChannel c (on_channel id change c) → ⊥
  id_own c id e x = rw (eq-eqb c.setting.id id e) ((exactly c).1 x)

  of_id_differs : (s : State) (id : ℕ) → (differs s (of_id s id change) ≡ true) ↔ ((index : ℕ) × Stands s id index × Changes (channel_at s index))
  of_id_differs s id = (
    λ e.
        let x = (each_differs (on_channel id change) s).0 e in
        let own = own_id (channel_at s x.0) id x.2 in
        (x.0, record { inside = x.1; is = own.0 }, own.1),
    λ x. (each_differs (on_channel id change) s).1 (x.0, x.1.inside, id_own (channel_at s x.0) id x.1.is x.2),
  )

-- a status told: exactly if the status differs from before
pub status_differs : (s : State) (id value : ℕ) → (differs s (of_id s id (status_set value)) ≡ true) ↔ StatusChanges s id value
status_differs s id value = of_id_differs (status_set value) (λ c. c.status ≡ value → ⊥) exactly s id
  where
    same : (c : Channel) → window_now c ≡ window_now (status_set value c)
    same c = unfold window_now in refl

    exactly : (c : Channel) → (SameChannel c (status_set value c) → ⊥) ↔ (c.status ≡ value → ⊥)
    exactly c = (λ never e. never (record { status = e; window = same c }), λ never x. never x.status)

-- a change that leaves the status: exactly if the window becomes another
pub window_differs : (s : State) (id : ℕ) (change : Channel → Channel) → ((c : Channel) → c.status ≡ (change c).status) → (differs s (of_id s id change) ≡ true) ↔ WindowChanges s id change
window_differs s id change keeps =
    of_id_differs change (λ c. window_now c ≡ window_now (change c) → ⊥)
    (λ c. (λ never e. never (record { status = keeps c; window = e }), λ never x. never x.window)) s id

-- ---- bytes queued told: exactly if the channel is flow-controlled, has heard a sequence, and the allowance is another
given_one : {a b : FlowWindow} → Some (Window.Given a) ≡ Some (Window.Given b) → a ≡ b
given_one e = cc

allowance_one : (h a b : ℕ) → (h + min 2147483647 a) % 4294967296 ≡ (h + min 2147483647 b) % 4294967296 → min 2147483647 a ≡ min 2147483647 b
allowance_one h a b e = omega arith

moves_by : (c : Channel) (bytes : ℕ) (controlled : Bool) → c.setting.controlled ≡ controlled → (highest : Option FlowSequence) → c.highest ≡ highest
    → (window_of controlled highest (allowance_of c.setting.watermark c.setting.throughput c.queued)
    ≡ window_of controlled highest (allowance_of c.setting.watermark c.setting.throughput (record { 0 = bytes })) → ⊥) → AllowanceChanges c bytes
unfolding window_of allowance_of
moves_by c bytes false e highest f never = absurd (never refl)
moves_by c bytes true e None f never = absurd (never refl)
moves_by c bytes true e (Some h) f never =
    record { controlled = e; highest = h; heard = f; other = λ same. never (ap (λ (a : ℕ). Some (Window.Given (record { 0 = (h.0 + a) % 4294967296 }))) same) }

queued_moves : (c : Channel) (bytes : ℕ) → (SameChannel c (queued_set bytes c) → ⊥) ↔ AllowanceChanges c bytes
unfolding window_now window_of allowance_of
queued_moves c bytes = (
  λ never. moves_by c bytes c.setting.controlled refl c.highest refl (λ e. never (record { status = refl; window = e })),
  λ x same. x.other (allowance_one x.highest.0 _ _ (ap (λ (w : FlowWindow). w.0) (given_one (rw (x.controlled, x.heard) at same.window)))),
)

pub queued_differs : (s : State) (id bytes : ℕ) → (differs s (of_id s id (queued_set bytes)) ≡ true) ↔ QueuedChanges s id bytes
queued_differs s id bytes = of_id_differs (queued_set bytes) (λ c. AllowanceChanges c bytes) (λ c. queued_moves c bytes) s id

-- a Context told: exactly if the Context is another
pub context_differs : (s : State) (context : Option (ContextBytes × ℕ)) → (differs s (context_set s context) ≡ true) ↔ (s.context ≡ context → ⊥)
unfolding channel_at
context_differs s context =
    passes_unless (differs s (context_set s context)) (
      λ e. ((differs_exactly s (context_set s context) refl).0 e).context,
      λ e. (differs_exactly s (context_set s context) refl).1 (record { context = e; each = λ index h. record { status = refl; window = refl } }),
    )
