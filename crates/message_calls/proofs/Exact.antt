-- Which end is which number; each answer of reading and of writing exactly when, in literals. Assumes nothing.
use Prim.Native.Nat.{ℕ, ◌-◌, ◌≤◌, ◌<◌}
use mathlib.Core.Path.{◌≡◌, refl, ap, ◌∙◌}
use mathlib.Core.List.{List}
use mathlib.Core.Logic.{◌⊎◌, inl, inr}
use mathlib.Core.Bool.{Bool, true, false, ◌&&◌, and-false, or-true}
use borrow.Author.Tests.{leb-true, le-leb, lt-leb, lt-ltb, le-ltb}
use lib.Dec.{ltb}
use lib.ListN.{length}
use Rattle.meaning.specs.declared.message.End.{End}
use Rattle.reader.specs.Readings.{Verdict, read_control, read_data, packet_of}
use Rattle.writable.specs.Allowed.{control_allowed, data_allowed}
use Rattle.writer.specs.Written.{control_written, data_written, no_room_of}
use Rattle.answer_codes.specs.declared.Answer.{Answer}
use Rattle.lent_messages.specs.Words.{control_words, control_of, control_spelled, data_words, data_of, data_spelled}
use Rattle.message_calls.specs.Calls.{is_end, end_of, taken, Reads, ReadsControl, ReadsData, Writes, control_may, data_may, WritesControl, WritesData}
use Rattle.message_calls.specs.Exactly.{numbers, ReadExactly, WriteExactly}
use Rattle.message_calls.proofs.Calls as calls

pub ends_exactly : (end_of 0 ≡ End.Ips) × (end_of 1 ≡ End.Radio) × ((n : ℕ) → (is_end n ≡ true → n ≤ 1) × (n ≤ 1 → is_end n ≡ true))
unfolding end_of
ends_exactly = (refl, refl, λ n. (leb-true n 1, le-leb n 1))

-- ---- reading
module _ (end size : ℕ) (words : List ℕ) {verdict : Verdict} {said : List ℕ} {answer : Answer} {words' : List ℕ} (h : Reads (taken end size words) verdict said words answer words') where
  not_taken : taken end size words ≡ false → (answer ≡ numbers 275 0) × (words' ≡ words)
  not_taken t = (h.answers ∙ rw t, h.words_are ∙ rw t)

  is_taken : end ≤ 1 → length words ≡ size → taken end size words ≡ true
  is_taken near = calls.is_taken end size words (le-leb end 1 near)

  not_accepted : (answer.kind ≡ 8 → ⊥) → words' ≡ words
  not_accepted other = go (taken end size words) refl verdict refl
    where
      go : (b : Bool) → taken end size words ≡ b → (v : Verdict) → verdict ≡ v → words' ≡ words
      go false t v is = (not_taken t).1
      go true t Verdict.Accepted is =
          let told : answer ≡ numbers 8 0 = h.answers ∙ rw (t, is) in
          absurd (other (ap (λ (a : Answer). a.kind) told))
      go true t Verdict.OtherPlane is = h.words_are ∙ rw (t, is)
      go true t (Verdict.Refused refusal) is = h.words_are ∙ rw (t, is)

  read_exactly : ReadExactly end size verdict said words answer words'
  read_exactly = record {
    no_end = λ far. not_taken (calls.no_end end size words (lt-leb end 1 far));
    other_size = λ other. not_taken (calls.other_length end size words other);
    accepted = λ near long is. let t = is_taken near long in (h.answers ∙ rw (t, is), h.words_are ∙ rw (t, is));
    other_plane = λ near long is. let t = is_taken near long in (h.answers ∙ rw (t, is), h.words_are ∙ rw (t, is));
    refused = λ near long number place is. let t = is_taken near long in (h.answers ∙ rw (t, is), h.words_are ∙ rw (t, is));
    keeps = not_accepted;
  }

module _ (datagram : List ℕ) (end datalink : ℕ) {words : List ℕ} {answer : Answer} {words' : List ℕ} where
  pub control_read_exactly : ReadsControl datagram end datalink words answer words'
      → ReadExactly end 1538 (read_control (end_of end) (record { 0 = datalink }) datagram).verdict (control_words (read_control (end_of end) (record { 0 = datalink }) datagram).message) words answer words'
  control_read_exactly h = read_exactly end 1538 words h

  pub data_read_exactly : ReadsData datagram end datalink words answer words'
      → ReadExactly end 11 (read_data (end_of end) (record { 0 = datalink }) datagram).verdict
      (data_words (read_data (end_of end) (record { 0 = datalink }) datagram).message (length datagram - length (packet_of datagram)) (length (packet_of datagram))) words answer words'
  data_read_exactly h = read_exactly end 11 words h

-- ---- writing
no_room_is : (size room : ℕ) → (room < size) ⊎ (65507 < size) → no_room_of size room ≡ true
no_room_is size room (inl short) = rw (lt-ltb room size short)
no_room_is size room (inr long) = rw (lt-ltb 65507 size long) (or-true (ltb room size))

module _ {may : Bool} {message out : List ℕ} {answer : Answer} {out' : List ℕ} (h : Writes may message out answer out') where
  may_not : may ≡ false → (answer ≡ numbers 276 0) × (out' ≡ out)
  may_not m = (h.answers ∙ rw m, h.bytes_are ∙ rw m)

  short : may ≡ true → no_room_of (length message) (length out) ≡ true → (answer ≡ numbers 274 0) × (out' ≡ out)
  short m n = (h.answers ∙ rw (m, n), h.bytes_are ∙ rw (m, n))

  not_written : (answer.kind ≡ 11 → ⊥) → out' ≡ out
  not_written other = go may refl (no_room_of (length message) (length out)) refl
    where
      go : (b : Bool) → may ≡ b → (n : Bool) → no_room_of (length message) (length out) ≡ n → out' ≡ out
      go false m n is = (may_not m).1
      go true m true is = (short m is).1
      go true m false is =
          let told : answer ≡ numbers 11 (length message) = h.answers ∙ rw (m, is) in
          absurd (other (ap (λ (a : Answer). a.kind) told))

module _ (end : ℕ) (spelled allowed : Bool) {message out : List ℕ} {answer : Answer} {out' : List ℕ} (h : Writes (is_end end && (spelled && allowed)) message out answer out') where
  may_write : end ≤ 1 → spelled ≡ true → allowed ≡ true → (is_end end && (spelled && allowed)) ≡ true
  may_write near s a = rw (le-leb end 1 near, s, a)

  write_exactly : WriteExactly end spelled allowed message out answer out'
  write_exactly = record {
    no_end = λ far. may_not h (rw (lt-leb end 1 far));
    unspelled = λ s. may_not h (rw s (and-false (is_end end)));
    unwritable = λ a. may_not h (rw (a, and-false spelled) (and-false (is_end end)));
    no_room = λ near s a full. short h (may_write near s a) (no_room_is (length message) (length out) full);
    wrote = λ near s a fits small.
        let m = may_write near s a in (
          h.answers ∙ rw (m, le-ltb (length out) (length message) fits, le-ltb 65507 (length message) small),
          h.bytes_are ∙ rw (m, le-ltb (length out) (length message) fits, le-ltb 65507 (length message) small),
        );
    keeps = not_written h;
  }

module _ (end : ℕ) (words : List ℕ) {out : List ℕ} {answer : Answer} {out' : List ℕ} where
  pub control_write_exactly : WritesControl end words out answer out'
      → WriteExactly end (control_spelled words) (control_allowed (end_of end) (control_of words)) (control_written (control_of words)) out answer out'
  unfolding control_may
  control_write_exactly h = write_exactly end (control_spelled words) (control_allowed (end_of end) (control_of words)) h

  pub data_write_exactly : (packet : List ℕ) → WritesData end words packet out answer out'
      → WriteExactly end (data_spelled words) (data_allowed (end_of end) (data_of words) (length packet)) (data_written (data_of words) packet) out answer out'
  unfolding data_may
  data_write_exactly packet h = write_exactly end (data_spelled words) (data_allowed (end_of end) (data_of words) (length packet)) h
