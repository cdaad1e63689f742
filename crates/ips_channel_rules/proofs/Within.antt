-- "While a window is in force no packet goes past it", and what a window is until the next radio control message. Assumes nothing.
use Rattle.std.specs.Prelude.{Option, Some}
use Prim.Native.Nat.{ℕ, ◌+◌, ◌^◌, ◌<◌}
use mathlib.Core.Bool.{true, false}
use mathlib.Core.List.{List, [], ◌∷◌, ◌++◌}
use mathlib.Core.Logic.{◌⊎◌, inl, inr}
use mathlib.Core.Path.{◌≡◌, refl, sym, ap, subst, ◌∙◌}
use native.Mathlib.Omega.{arith}
use lib.ListN.{length}
use lib.IntN.{ℤ, pos}
use lib.Signed.{◌≤ℤ◌}
use lib.Dec.{T}
use Rattle.facts.proofs.Tests.{is_true}
use Rattle.quantity.specs.declared.count.FlowSequence.{FlowSequence}
use Rattle.quantity.specs.declared.count.FlowWindow.{FlowWindow}
use Rattle.quantity.specs.declared.count.ByteCount.{ByteCount}
use Rattle.quantity.specs.Distance.{fits_of}
use Rattle.quantity.specs.Window.{sequence_at, Stands, standing_at}
use Rattle.quantity.proofs.Window.{fits_is}
use Rattle.meaning.specs.declared.message.Window.{Window}
use Rattle.flow.specs.declared.Flow.{Flow}
use Rattle.flow.specs.Counting.{flow_after}
use Rattle.ips_channel_rules.specs.Rules.{Event, radio, Happened, Terms, ChannelParts, Condition, radio_at, step, happens, history, final}
use Rattle.ips_channel_rules.specs.Machine.{machine, fresh_machine}
use Rattle.ips_channel_rules.specs.Simple.{Limit, up_to, Counter, limit_at, simple, fresh_simple}
use Rattle.ips_channel_rules.specs.Agreement.{SameFlow, both_free, both_none, both_in_force, Agrees}
use Rattle.ips_channel_rules.specs.Account.{handed_by, handed_over, bytes_over, is_call, NoRadio}
use Rattle.ips_channel_rules.specs.Windows.{under, Under, Within}
use Rattle.ips_channel_rules.proofs.Leaves.{Leaves, stays, joins, looks, sends, clears, hears, leaves}
use Rattle.ips_channel_rules.proofs.Agree.{agrees_step, agrees_history, same_end_lem}

-- ---- between two radio messages, for any parts
module _ (P : ChannelParts) (k : Terms) where
  -- what counting a packet keeps of the count and the limit
  module _ {X : Type 0} (F : P.Counting → X) (on : (n : ByteCount) (m : P.Counting) → F (P.grow n m) ≡ F m) where
    -- a radio message changes it only on a flow-controlled channel
    keeps_step : {e : Event} {st : Condition P} {h : Happened} {st' : Condition P} → Leaves P k e st h st' → is_call e ⊎ (k.controlled ≡ false) → F st'.counting ≡ F st.counting
    keeps_step stays q = refl
    keeps_step (joins t x) q = refl
    keeps_step (looks n t) q = refl
    keeps_step (sends t w f) q = on _ _
    keeps_step clears q = refl
    keeps_step hears (inl q) = absurd q
    keeps_step hears (inr plain) = rw plain

    -- "between two radio messages", and always on a plain channel
    pub calls_keep : (es : List Event) → NoRadio es ⊎ (k.controlled ≡ false) → (st : Condition P) → F (final P k es st).counting ≡ F st.counting
    calls_keep [] q st = refl
    calls_keep (e ∷ es) (inl q) st = calls_keep es (inl q.1) _ ∙ keeps_step (leaves P k e st) (inl q.0)
    calls_keep (e ∷ es) (inr plain) st = calls_keep es (inr plain) _ ∙ keeps_step (leaves P k e st) (inr plain)

  -- a step that hands over nothing, and counts nothing
  record Still (h : Happened) (x x' : P.Counting) : Type 0 where
    nothing : handed_by h ≡ []
    counting : x' ≡ x

  still_step : {e : Event} {st : Condition P} {h : Happened} {st' : Condition P} → Leaves P k e st h st' → is_call e → ((n : ByteCount) → P.fits st.counting n ≡ false) → Still h st.counting st'.counting
  still_step stays q c = record { nothing = refl; counting = refl }
  still_step (joins t x) q c = record { nothing = refl; counting = refl }
  still_step (looks n t) q c = record { nothing = n; counting = refl }
  still_step (sends {p} t w f) q c = let shut = c (record { 0 = length p.bytes }) in let z : ◌≡◌ {A = ℕ} 0 1 = cc in absurd (omega arith)
  still_step clears q c = record { nothing = refl; counting = refl }
  still_step hears q c = absurd q

  -- where nothing fits, nothing goes
  pub nothing_goes : (es : List Event) → NoRadio es → (st : Condition P) → ((n : ByteCount) → P.fits st.counting n ≡ false) → handed_over (history P k es st) ≡ []
  nothing_goes [] q st c = refl
  nothing_goes (e ∷ es) q st c =
      let s = still_step (leaves P k e st) q.0 c in
      rw s.nothing (nothing_goes es q.1 _ (λ n. rw s.counting (c n)))

-- ---- "the number a window stands for is fixed when the window arrives"
module _ (k : Terms) (controlled : k.controlled ≡ true) (status : Option ℕ) (window : Option Window) (fs : List Event) (calls : NoRadio fs) where
  -- no option: free; one without a window: none; one with a window: up to the number that it stands for at the count when it came. Whatever was before is
  -- never used again, and this stays until the next radio message
  pub fixed : (st : Condition simple) → (final simple k (radio status window ∷ fs) st).counting.limit ≡ limit_at st.counting.count window
  unfolding radio_at
  fixed st = calls_keep simple k (λ x. x.limit) (λ n x. refl) fs (inl calls) _ ∙ rw controlled

  -- the same of words: "no Flow Window option makes it free; one without a window leaves it with no window; one with a window puts that in force"
  pub fixed_flow : (st : Condition machine) → (final machine k (radio status window ∷ fs) st).counting.flow ≡ flow_after window
  unfolding radio_at
  fixed_flow st = calls_keep machine k (λ m. m.flow) (λ n m. refl) fs (inl calls) _ ∙ rw controlled

-- "Plain channels are always free."
pub plain_free_lem : (k : Terms) → k.controlled ≡ false → (first : FlowSequence) (es : List Event) → (final machine k es (fresh_machine k.controlled first)).counting.flow ≡ Flow.Free
plain_free_lem k plain first es = calls_keep machine k (λ m. m.flow) (λ n m. refl) es (inr plain) _ ∙ rw plain

-- "Fresh flow-controlled channels have no window": nothing goes then, nor after an option without one
pub none_sends : (k : Terms) (c : Condition machine) → c.counting.flow ≡ Flow.NoWindow → (fs : List Event) → NoRadio fs → handed_over (history machine k fs c) ≡ []
none_sends k c e fs calls = nothing_goes machine k fs calls c (λ n. rw e)

-- ---- under a window, in numbers that never wrap

module _ (count : ℕ) (number : ℤ) where
  under_none : (x : Counter) → x ≡ under count number → Under count number 0 x
  under_none x e = let n : count ≡ count + 0 = omega arith in record { counted = e ∙ ap (λ (c : ℕ). under c number) n; within = inl refl }

  under_more : (j i : ℕ) (x y : Counter) → Under count number j x → Under (count + j) number i y → Under count number (j + i) y
  under_more j i x y u v = record { counted = v.counted ∙ ap (λ (c : ℕ). under c number) sum; within = by u.within v.within }
    where
      sum : count + j + i ≡ count + (j + i)
      sum = omega arith

      by : (j ≡ 0) ⊎ (pos (count + j) ≤ℤ number) → (i ≡ 0) ⊎ (pos (count + j + i) ≤ℤ number) → (j + i ≡ 0) ⊎ (pos (count + (j + i)) ≤ℤ number)
      by a (inr h) = inr (rw sum at h)
      by (inl d) (inl e) = inl (omega arith)
      by (inr h) (inl e) = let s : count + j ≡ count + (j + i) = omega arith in inr (rw s at h)

  under_step : (k : Terms) {e : Event} {st : Condition simple} {h : Happened} {st' : Condition simple} → Leaves simple k e st h st' → is_call e → st.counting ≡ under count number
      → Under count number (bytes_over (handed_by h)) st'.counting
  under_step k stays q e = under_none _ e
  under_step k (joins t x) q e = under_none _ e
  under_step k (looks n t) q e = rw n (under_none _ e)
  under_step k (sends {p} t w f) q e =
      let n : length p.bytes + 0 ≡ length p.bytes = omega arith in
      rw (n, e) (record { counted = refl; within = inr (record { le = subst T (sym (rw e at f)) tt }) })
  under_step k clears q e = under_none _ e
  under_step k hears q e = absurd q

bytes_append : (ps qs : List (List ℕ)) → bytes_over (ps ++ qs) ≡ bytes_over ps + bytes_over qs
bytes_append [] qs = omega arith
bytes_append (p ∷ ps) qs = omega (arith, bytes_append ps qs)

-- Whatever is called but radio messages, from a count under a number: the count grows by the bytes handed over, and if there were any, it is at most the number
pub no_past : (k : Terms) (number : ℤ) (es : List Event) → NoRadio es → (count : ℕ) (st : Condition simple) → st.counting ≡ under count number
    → Under count number (bytes_over (handed_over (history simple k es st))) (final simple k es st).counting
no_past k number [] q count st e = under_none count number _ e
no_past k number (v ∷ es) q count st e =
    let u = under_step count number k (leaves simple k v st) q.0 e in
    rw (bytes_append (handed_by (happens simple k v st)) (handed_over (history simple k es (step simple k v st))))
    (under_more count number _ _ _ _ u (no_past k number es q.1 _ _ u.counted))

-- ---- under a window, in the code's words

-- where the code's flow state is a window in force, the simple channel has the number that it stands for
standing : (count : ℕ) (f : Flow) (l : Limit) → SameFlow count f l → (w : FlowWindow) → f ≡ Flow.InForce w → (number : ℤ) × (l ≡ up_to number) × Stands count w number
standing count _ _ both_free w e = let z : ◌≡◌ {A = ℕ} 0 1 = cc in absurd (omega arith)
standing count _ _ both_none w e = let z : ◌≡◌ {A = ℕ} 0 1 = cc in absurd (omega arith)
standing count _ _ (both_in_force {window} {number} h) w e = let s : window ≡ w = cc in (number, refl, rw s at h)

-- a sum that is at most the number fits the window, as `fits` tells it of words
fits_within : (count : ℕ) (sequence : FlowSequence) (w : FlowWindow) (number : ℤ) (bytes : ℕ) → sequence ≡ sequence_at count → Stands count w number
    → (bytes ≡ 0) ⊎ (pos (count + bytes) ≤ℤ number) → (bytes ≡ 0) ⊎ (fits_of sequence w (record { 0 = bytes }) ≡ true)
fits_within count sequence w number bytes e h (inl n) = inl n
fits_within count sequence w number bytes e h (inr l) = inr (rw (e, fits_is count w (record { 0 = bytes }) number h) (is_true _ l.le))

module _ (k : Terms) (w : FlowWindow) (fs : List Event) (calls : NoRadio fs) where
  -- a window arrives: what goes until the next radio message never passes the number that it stands for at the count when it came
  pub from_arrival : k.controlled ≡ true → (status : Option ℕ) (c : Condition machine) (s : Condition simple) → Agrees c s
      → Under s.counting.count (standing_at s.counting.count w) (bytes_over (handed_over (history machine k (radio status (Some (Window.Given w)) ∷ fs) c)))
      (final simple k (radio status (Some (Window.Given w)) ∷ fs) s).counting
  unfolding radio_at
  from_arrival controlled status c s h =
      rw (agrees_history k fs _ _ (agrees_step k (radio status (Some (Window.Given w))) c s h)) (no_past k (standing_at s.counting.count w) fs calls s.counting.count _ (rw controlled))

  -- "While a window is in force no packet goes past it": from any states that agree
  pub within_from : (c : Condition machine) (s : Condition simple) → Agrees c s → c.counting.flow ≡ Flow.InForce w
      → Within s.counting c.counting.sequence w (bytes_over (handed_over (history machine k fs c)))
  within_from c s h force =
      let at = standing _ _ _ h.flow w force in
      let u = no_past k at.0 fs calls s.counting.count s (ap {B = Counter} (λ (l : Limit). record { count = s.counting.count; limit = l }) at.1) in
      rw (agrees_history k fs c s h) (record { number = at.0; limit = at.1; stands = at.2; below = u.within; fits = fits_within _ _ w _ _ h.sequence at.2 u.within })

  -- the same from a fresh start: any calls, after which the window is in force; then any but radio messages
  pub within_window : (first : FlowSequence) → first.0 < 2 ^ 32 → (es : List Event) → (final machine k es (fresh_machine k.controlled first)).counting.flow ≡ Flow.InForce w
      → Within (final simple k es (fresh_simple k.controlled first)).counting (final machine k es (fresh_machine k.controlled first)).counting.sequence w
      (bytes_over (handed_over (history machine k fs (final machine k es (fresh_machine k.controlled first)))))
  within_window first small es force = within_from _ _ (same_end_lem k first small es) force
