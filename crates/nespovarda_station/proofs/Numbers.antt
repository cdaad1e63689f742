-- The numbers that a caller sees are those of the table, in literals. Assumes nothing.
use Rattle.std.specs.Prelude.{Option, Some, None}
use Rattle.quantity.specs.declared.count.FlowSequence.{FlowSequence}
use Prim.Native.Nat.{ℕ, ◌+◌}
use mathlib.Core.Bool.{Bool, true, false, ◌&&◌}
use mathlib.Core.List.{List, [], ◌∷◌}
use mathlib.Core.Path.{◌≡◌, refl, ap, ◌∙◌}
use lib.Dec.{eqb}
use native.Mathlib.Omega.{arith}
use borrow.Author.Tests.{ne_eqb}
use Rattle.meaning.specs.declared.message.Window.{Window}
use Rattle.answer_codes.specs.declared.Answer.{Answer}
use Rattle.lent_messages.specs.Stated.{window_stated}
use Rattle.radio_end_words.specs.Words.{highest_tag, highest_value}
use Rattle.radio_end_state.specs.declared.channel.Channel.{Channel}
use Rattle.radio_end_state.specs.Channel.{window_now}
use Rattle.radio_end_state.specs.State.{State, channel_at}
use Rattle.radio_end_state.specs.Limits.{is_configured, index_in}
use Rattle.radio_end_run.proofs.Places.{lacks_it, has_it}
use Rattle.radio_end.specs.Shown.{words_needed}
use Rattle.nespovarda_station.specs.Named.{says_none_of, instance_said, context_said}
use Rattle.nespovarda_station.specs.Shown.{channel_numbers, ShowsChannel}
use Rattle.nespovarda_station.specs.Numbers.{Numbers, words_number, window_numbers, highest_numbers, six_numbers, ShownExactly, NamedExactly}

pub numbers_exactly : Numbers
numbers_exactly = record {
  started = refl;
  start_refused = λ number place. refl;
  answered = λ bytes. refl;
  unasked = λ bytes. refl;
  no_message = refl;
  call_refused = λ number place. refl;
  shown = refl;
}

pub words_exactly : (channels : ℕ) → words_needed channels ≡ words_number channels
unfolding words_needed
words_exactly channels = refl

window_exactly : (window : Option Window) (rest : List ℕ) → (window_stated window).tag ∷ (window_stated window).first ∷ rest ≡ window_numbers window rest
window_exactly None rest = refl
window_exactly (Some Window.Empty) rest = refl
window_exactly (Some (Window.Given window)) rest = refl

highest_exactly : (highest : Option FlowSequence) (rest : List ℕ) → highest_tag highest ∷ highest_value highest ∷ rest ≡ highest_numbers highest rest
highest_exactly None rest = refl
highest_exactly (Some sequence) rest = refl

six_numbers_lem : (c : Channel) → channel_numbers c ≡ six_numbers c
six_numbers_lem c =
    ap (λ (xs : List ℕ). c.status ∷ xs)
    (window_exactly (window_now c) (highest_tag c.highest ∷ highest_value c.highest ∷ c.queued.0 ∷ [])
    ∙ ap (λ (xs : List ℕ). window_numbers (window_now c) xs) (highest_exactly c.highest (c.queued.0 ∷ [])))

pub shown_exactly : {s : State} {id : ℕ} {before : List ℕ} {r : Answer} {after : List ℕ} → ShowsChannel s id before r after → ShownExactly s id before r after
shown_exactly {s} {id} h = record {
  shows = λ fits index inside is.
      let found : (is_configured s id ≡ true) × (index_in s id ≡ index) = rw is at (has_it s fits index inside) in
      (h.answer_is ∙ rw (fits, found.0), h.numbers_are ∙ rw (fits, found.0, found.1) (six_numbers_lem (channel_at s index)));
  lacks = λ fits none.
      let lacking = lacks_it s id none in
      (h.answer_is ∙ rw (fits, lacking), h.numbers_are ∙ rw (fits, lacking));
  outside = λ unfit. (h.answer_is ∙ rw unfit, h.numbers_are ∙ rw unfit);
}

and-false : (a : Bool) → (a && false) ≡ false
and-false true = refl
and-false false = refl

-- a length that isn't 0 says something
said : (value length : ℕ) → says_none_of value (1 + length) ≡ false
said value length =
    let some : eqb (1 + length) 0 ≡ false = ne_eqb (1 + length) 0 (λ e. omega (arith, e)) in
    rw some (and-false (eqb value 0))

-- nor does a value that isn't 0
valued : (value : ℕ) → says_none_of (1 + value) 0 ≡ false
valued value =
    let some : eqb (1 + value) 0 ≡ false = ne_eqb (1 + value) 0 (λ e. omega (arith, e)) in
    rw some

instance_given : (value length : ℕ) → instance_said value (1 + length) ≡ Some (record { 0 = value }, 1 + length)
unfolding instance_said
instance_given value length = rw (said value length)

context_given : (value length : ℕ) → context_said value (1 + length) ≡ Some (record { 0 = value }, 1 + length)
unfolding context_said
context_given value length = rw (said value length)

instance_unwritten : (value : ℕ) → instance_said (1 + value) 0 ≡ Some (record { 0 = 1 + value }, 0)
unfolding instance_said
instance_unwritten value = rw (valued value)

context_unwritten : (value : ℕ) → context_said (1 + value) 0 ≡ Some (record { 0 = 1 + value }, 0)
unfolding context_said
context_unwritten value = rw (valued value)

pub named_exactly : NamedExactly
unfolding instance_said context_said
named_exactly = record {
  no_instance_lem = refl;
  instance = instance_given;
  instance_unwritten = instance_unwritten;
  no_context_lem = refl;
  context = context_given;
  context_unwritten = context_unwritten;
}
