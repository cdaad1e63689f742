-- What `write_control` writes, `read_control` reads back to the words of the same message. Assumes nothing.
use Rattle.std.specs.Prelude.{Some, None, Result, Ok, Err}
use Rattle.quantity.specs.declared.count.ByteCount.{ByteCount}
use Rattle.quantity.specs.declared.refusal.Refusal.{Refusal}
use Prim.Native.Nat.{ℕ, ◌+◌, ◌<◌}
use mathlib.Core.Path.{◌≡◌, refl, sym, ap, subst, ◌∙◌}
use mathlib.Core.List.{List}
use mathlib.Core.Bool.{Bool, true, false, cond, ◌&&◌}
use native.Mathlib.Omega.{arith}
use borrow.Author.Tests.{eqb-false}
use lib.Dec.{eqb}
use lib.ListN.{length, take, get_or, get_or-eq_default}
use Rattle.facts.specs.Tables.{tabulate}
use Rattle.facts.proofs.Tests.{by_le}
use Rattle.facts.proofs.Tables.{length_tabulate, get_d_tabulate}
use Rattle.quantity.specs.Limits.{CHANNEL-IDS}
use Rattle.meaning.specs.declared.message.Window.{Window}
use Rattle.reader.specs.Readings.{read_control}
use Rattle.read_control.specs.Message.{control_accepted}
use Rattle.writable.specs.Allowed.{control_allowed}
use Rattle.writer.specs.Written as written
use Rattle.writer.specs.Written.{control_written, answer_to}
use Rattle.roundtrip.specs.Values.{SequenceWord, WindowWord, ControlValue}
use Rattle.roundtrip.proofs.Returned.{control_returned}
use Rattle.answer_codes.specs.declared.Answer.{Answer}
use Rattle.answer_codes.specs.Codes.{code_of, written_as}
use Rattle.answer_codes.specs.Codes.Outcome.{accepted, wrote}
use Rattle.answer_codes.proofs.Codes.{codes_one}
use Rattle.lent_messages.specs.Layout as layout
use Rattle.lent_messages.specs.Layout.{ABSENT, GIVEN, FIELD-EMPTY, FIELD-GIVEN, CONTROL-WORDS, HALF}
use Rattle.lent_messages.specs.Stated.{fits, sequence_of, window_of}
use Rattle.lent_messages.specs.Words.{word, channel_start, sequence_at, window_at, control_of, control_words, control_spelled, ControlSays}
use Rattle.lent_messages.proofs.Saying.{both, fits_given, fits_field, control_says}
use Rattle.message_calls.specs.Calls.{is_end, end_of, taken, control_may, WritesControl, ReadsControl}
use Rattle.message_calls.proofs.Calls.{is_taken, control_may_lem}

-- ---- words that say something state numbers of 32 bits
sequence_word : (tag value : ℕ) → fits tag GIVEN value HALF ≡ true → SequenceWord (sequence_of tag value)
unfolding sequence_of
sequence_word tag value h = go (eqb tag ABSENT) refl
  where
    go : (b : Bool) → eqb tag ABSENT ≡ b → SequenceWord (cond b None (Some (record { 0 = value })))
    go true e = tt
    go false e = fits_given tag value HALF h (eqb-false tag ABSENT e)

window_word_lem : (tag value : ℕ) → fits tag FIELD-GIVEN value HALF ≡ true → WindowWord (window_of tag value)
unfolding window_of
window_word_lem tag value h = go (eqb tag ABSENT) (eqb tag FIELD-EMPTY) refl refl
  where
    go : (a b : Bool) → eqb tag ABSENT ≡ a → eqb tag FIELD-EMPTY ≡ b → WindowWord (cond a None (cond b (Some Window.Empty) (Some (Window.Given (record { 0 = value })))))
    go true b e f = tt
    go false true e f = tt
    go false false e f = fits_field tag value HALF h (eqb-false tag ABSENT e) (eqb-false tag FIELD-EMPTY f)

-- a property of each place of a table, and of an absent one
each_below : {A : Type 0} (P : A → Type 0) (absent : A) (size : ℕ) (f : ℕ → A) → P absent → ((n : ℕ) → n < size → P (f n)) → (n : ℕ) → P (get_or (tabulate size f) n absent)
each_below P absent size f none each n =
    by_le size n
    (λ beyond. subst P (sym (get_or-eq_default (tabulate size f) absent (omega (arith, length_tabulate size f)))) none)
    (λ inside. subst P (sym (get_d_tabulate size f n absent inside)) (each n inside))

pub control_value_of : (w : List ℕ) → ControlSays w → ControlValue (control_of w)
unfolding control_of sequence_at window_at
control_value_of w says = record {
  statuses_long = length_tabulate CHANNEL-IDS _;
  sequences_long = length_tabulate CHANNEL-IDS _;
  windows_long = length_tabulate CHANNEL-IDS _;
  sequence_words = each_below (λ cell. SequenceWord cell) None CHANNEL-IDS (λ id. sequence_at w (channel_start id)) tt
      (λ id h. sequence_word (word w (channel_start id + layout.SEQUENCE-TAG)) (word w (channel_start id + layout.SEQUENCE-VALUE)) (says.channels id h).sequence);
  window_words = each_below (λ cell. WindowWord cell) None CHANNEL-IDS (λ id. window_at w (channel_start id)) tt
      (λ id h. window_word_lem (word w (channel_start id + layout.WINDOW-TAG)) (word w (channel_start id + layout.WINDOW-VALUE)) (says.channels id h).window);
}

-- an answer that a message was written
wrote_is : (answer : Result ByteCount Refusal) (count : ℕ) → written_as answer ≡ wrote count → answer ≡ Ok (record { 0 = count })
wrote_is (Ok bytes) count e = let same : bytes.0 ≡ count = cc in ap (λ (n : ℕ). Ok (record { 0 = n })) same
wrote_is (Err refusal) count e = let z : ◌≡◌ {A = ℕ} 0 1 = cc in absurd (omega arith)

-- nothing is written where nothing may be
may_write : (may : Bool) (message : List ℕ) (room count : ℕ) → written_as (answer_to may message room) ≡ wrote count → may ≡ true
may_write true message room count e = refl
may_write false message room count e = let z : ◌≡◌ {A = ℕ} 0 1 = cc in absurd (omega arith)

may_parts : (end : ℕ) (meaning : List ℕ) → control_may end meaning ≡ true → (is_end end ≡ true) × (control_spelled meaning ≡ true)
unfolding control_may
may_parts end meaning h =
    let outer = both (is_end end) (control_spelled meaning && control_allowed (end_of end) (control_of meaning)) h in
    (outer.0, (both (control_spelled meaning) (control_allowed (end_of end) (control_of meaning)) outer.1).0)

-- What was written from words is read back, by the same end and the Datalink ID that it states, into the words of the same message.
pub words_returned : (end datalink count : ℕ) (meaning out : List ℕ) (answer : Answer) (out' : List ℕ) (lent : List ℕ) (answer' : Answer) (lent' : List ℕ)
    → WritesControl end meaning out answer out' → answer ≡ code_of (wrote count)
    → (control_of meaning).datalink ≡ Some (record { 0 = datalink })
    → length lent ≡ CONTROL-WORDS → ReadsControl (take count out') end datalink lent answer' lent'
    → (answer' ≡ code_of accepted) × (lent' ≡ control_words (control_of meaning))
unfolding control_accepted
words_returned end datalink count meaning out answer out' lent answer' lent' w e d long r =
    let said : written_as (answer_to (control_may end meaning) (control_written (control_of meaning)) (length out)) ≡ wrote count = codes_one _ _ (sym w.answers ∙ e) in
    let may : control_may end meaning ≡ true = may_write (control_may end meaning) (control_written (control_of meaning)) (length out) count said in
    let parts = may_parts end meaning may in
    let allowed : control_may end meaning ≡ control_allowed (end_of end) (control_of meaning) = control_may_lem end meaning parts.0 parts.1 in
    let outcome : written.Outcome (control_allowed (end_of end) (control_of meaning)) (control_written (control_of meaning)) out (answer_to (control_allowed (end_of end) (control_of meaning)) (control_written (control_of meaning)) (length out)) out' =
    record { answers = refl; bytes_are = rw (sym allowed) w.bytes_are } in
    let back : read_control (end_of end) (record { 0 = datalink }) (take count out') ≡ control_accepted (control_of meaning) =
    control_returned (end_of end) (control_of meaning) (control_value_of meaning (control_says meaning parts.1)) out _ out' outcome (record { 0 = datalink }) (record { 0 = count }) d
    (wrote_is _ count (rw (sym allowed) said)) in
    let ready : taken end CONTROL-WORDS lent ≡ true = is_taken end CONTROL-WORDS lent parts.0 long in
    (rw (ready, back) at r.answers, rw (ready, back) at r.words_are)
