-- What a call answers is what is printed of it, and its words are those that are left; a line is what was read of it. Assumes nothing.
use Rattle.std.specs.Prelude.{Result, Ok, Err}
use mathlib.Core.Bool.{true, false, not}
use mathlib.Core.Path.{◌≡◌, refl, sym, ap, ◌∙◌}
use mathlib.Core.List.{List, [], ◌∷◌, ◌++◌}
use Prim.Native.Nat.{ℕ, min, ◌-◌, ◌≤◌, ◌<◌}
use native.Mathlib.Decide.{dec_le}
use native.Mathlib.Omega.{arith}
use borrow.Author.Tests.{not-true, not-false}
use lib.ListN.{length, take, drop, length-append, drop_of_length-le}
use lib.Seq.{take_all, take_at}
use Rattle.quantity.specs.declared.refusal.Refusal.{Refusal}
use Rattle.radio_end_state.specs.declared.answer.Answer.{Answer}
use Rattle.radio_end_state.specs.declared.channel.Channel.{Channel}
use Rattle.radio_end_state.specs.State.{State}
use Rattle.radio_end_state.specs.Calls.{After}
use Rattle.radio_end_telling.specs.Left.{Left}
use Rattle.radio_end_start.specs.Start.{StartedIn}
use Rattle.radio_end.specs.Shown.{words_needed, shown_of}
use Rattle.message_words.specs.Saying.{Says}
use Rattle.message_words.specs.Phrases.{refused_texts}
use Rattle.station_read.specs.declared.asked.Command.{Command}
use Rattle.station_read.specs.declared.line.Line.{Line}
use Rattle.station_read.specs.Lines.{configuration_in, said_by, Asks}
use Rattle.station_print.specs.Answers.{BAD-LINE, STARTED, answer_texts}
use Rattle.station_print.specs.Shown.{channel_texts}
use Rattle.station.specs.declared.Held.{Held}
use Rattle.station.specs.declared.Turn.{Turn}
use Rattle.station.specs.Turns.{called, show_texts, commanded, stated, start_answer, begun, asking, answered, Calls, Turns}

module _ (asked quiet : List ℕ) {after : After} {words : List ℕ} {answer : Result Answer Refusal} {words' lent' : List ℕ} (k : Left after words answer words' lent') where
  pub calls : {out : List ℕ} {count : ℕ} {out' : List ℕ} → Says out 0 (answer_texts asked quiet answer lent') count out' → Calls (called asked quiet words after) out count words' out'
  calls s = record { says = rw (k.answer_is, k.output_is) at s; words_are = k.words_are }

module _ (s : State) (id : ℕ) {answer : Result Channel Refusal} (e : answer ≡ shown_of s id) {out : List ℕ} {count : ℕ} {out' : List ℕ} where
  pub shows : {channel : Channel} → answer ≡ Ok channel → Says out 0 (channel_texts channel) count out' → Says out 0 (show_texts s id) count out'
  shows g k = rw (sym e ∙ g) k

  pub shows_refused : {refusal : Refusal} → answer ≡ Err refusal → Says out 0 (refused_texts refusal) count out' → Says out 0 (show_texts s id) count out'
  shows_refused g k = rw (sym e ∙ g) k

-- ---- a part from the start, as long as was asked for or all there is
module _ (l : List ℕ) (m : ℕ) {n : ℕ} (e : n ≡ min m (length l)) where
  all_taken : length l ≤ m → n ≡ length l
  all_taken h = omega (arith, e)

  part_taken : m < length l → n - 0 ≡ m
  part_taken h = omega (arith, e)

  pub part_take : take (n - 0) l ≡ take m l
  part_take = elim (dec_le (length l) m) [
    | yes h ↦ take_all (n - 0) l (omega (arith, all_taken h)) ∙ sym (take_all m l h)
    | no h ↦ ap (λ (k : ℕ). take k l) (part_taken (omega arith))
  ]

  pub part_drop : drop (n - 0) l ≡ drop m l
  part_drop = elim (dec_le (length l) m) [
    | yes h ↦ drop_of_length-le l {i = n - 0} (omega (arith, all_taken h)) ∙ sym (drop_of_length-le l {i = m} h)
    | no h ↦ ap (λ (k : ℕ). drop k l) (part_taken (omega arith))
  ]

-- ---- a line about a state
module _ (held : Held) (words : List ℕ) (command : Command) (room : ℕ) (bytes output : List ℕ) {out : List ℕ} {count : ℕ} {out' : List ℕ} where
  pub states_bad : not held.started ≡ true → Says out 0 (BAD-LINE ∷ []) count out' → Calls (stated held words command room bytes output) out count words out'
  unfolding stated
  states_bad h k = rw (not-true held.started h) (record { says = k; words_are = refl })

  pub states : {own size : ℕ} {part' : List ℕ} → not held.started ≡ false → own ≡ min held.words (length words) → size ≡ min room (length output)
      → Calls (commanded command (take (own - 0) words) bytes (take (size - 0) output)) out count part' out' → Calls (stated held words command room bytes output) out count (part' ++ drop (own - 0) words) out'
  unfolding stated
  states {own} {size} {part'} h e f k =
      let part : Calls (commanded command (take held.words words) bytes (take room output)) out count part' out' = rw (part_take words held.words e, part_take output room f) at k in
      rw (not-false held.started h) (record { says = part.says; words_are = rw (part_drop words held.words e, part.words_are) })

-- ---- a start
module _ (held : Held) (words : List ℕ) (channels : ℕ) (numbers : List ℕ) {need own : ℕ} {configuration : List ℕ} {answer : Result (Unit {0}) Refusal} {part' : List ℕ} (a : need ≡ words_needed channels) (e : own ≡ min need (length words)) (c : configuration ≡ configuration_in numbers channels) (k : StartedIn configuration (take (own - 0) words) answer part') where
  abbrev lent : ℕ
  lent = min (words_needed channels) (length words)

  same : own ≡ lent
  same = rw a at e

  whole : own - 0 ≡ lent
  whole = omega (arith, same)

  on_lent : StartedIn (configuration_in numbers channels) (take lent words) answer part'
  on_lent = rw (c, whole) at k

  answer_so : answer ≡ start_answer (configuration_in numbers channels) (take lent words)
  unfolding start_answer
  answer_so = on_lent.answer_is

  pub starts : {out : List ℕ} {count : ℕ} {out' : List ℕ} → answer ≡ Ok tt → Says out 0 (STARTED ∷ []) count out'
      → Turns (begun held words channels numbers) out (record { held = record { started = true; words = own }; count = count }) (part' ++ drop (own - 0) words) out'
  unfolding begun
  starts g s =
      record {
        held = rw (sym answer_so ∙ g, same);
        calls = record { says = rw (sym answer_so ∙ g) s; words_are = rw (whole, on_lent.words_are) };
      }

  pub starts_refused : {refusal : Refusal} {out : List ℕ} {count : ℕ} {out' : List ℕ} → answer ≡ Err refusal → Says out 0 (refused_texts refusal) count out'
      → Turns (begun held words channels numbers) out (record { held = held; count = count }) (part' ++ drop (own - 0) words) out'
  unfolding begun
  starts_refused g s =
      record {
        held = rw (sym answer_so ∙ g);
        calls = record { says = rw (sym answer_so ∙ g) s; words_are = rw (whole, on_lent.words_are) };
      }

-- ---- a line, from what was read of it
module _ {lent line : List ℕ} {r : Line} {numbers' lent' : List ℕ} (k : Asks lent line r numbers' lent') where
  abbrev said : List ℕ
  said = (said_by (length lent) line).bytes

  -- the bytes that a line says lie within the lent memory
  pub bytes_within : r.bytes ≤ length lent'
  bytes_within = rw (k.count, k.bytes) (simp length-append (omega arith))

  bytes_said : take r.bytes lent' ≡ said
  bytes_said = ap (λ (n : ℕ). take n lent') k.count ∙ ap (λ (l : List ℕ). take (length said) l) k.bytes ∙ take_at said (drop (length said) lent) (length said) refl

  pub answers : (held : Held) (words output : List ℕ) {given out : List ℕ} {turn : Turn} {words' out' : List ℕ} → given ≡ take r.bytes lent'
      → Turns (asking held words r.asked numbers' given output) out turn words' out' → Turns (answered held words (length lent) line output) out turn words' out'
  unfolding answered
  answers held words output e t = rw (e ∙ bytes_said, k.asked, k.numbers) at t
