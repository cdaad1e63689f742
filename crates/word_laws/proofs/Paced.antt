-- The pacer asked, in words: which stand, which take the time, and what a silence writes. Assumes nothing.
use Rattle.std.specs.Prelude.{Some, None}
use Prim.Native.Nat.{ℕ, ◌+◌, ◌*◌, ◌≤◌, ◌<◌}
use mathlib.Core.Bool.{Bool, true, false, cond, and-eq-true_iff}
use mathlib.Core.List.{List}
use mathlib.Core.Path.{◌≡◌, refl, ap, ◌∙◌}
use native.Mathlib.Omega.{arith}
use borrow.Author.Tests.{le-leb, lt-leb}
use lib.ListN.{length, get_or, set, length-set}
use lib.Dec.{eqb}
use lib.Seq.{get_or-set_same, get_or-set_other}
use Rattle.meaning.specs.declared.message.Window.{Window}
use Rattle.pacer.specs.Pacing.{is_silent, asked}
use Rattle.ips_state.specs.Limits.{state_fits}
use Rattle.ips_run.specs.Run.{pace, in_time}
use Rattle.ips_calls.specs.Replies.{EndpointReply}
use Rattle.ips_words.specs.Words.{slot, pacer_in, state_in, put_pacer}
use Rattle.ips_words.proofs.Whole.{slot_word}
use Rattle.ips_words.proofs.Pacers.{paced_before, paced_behind}
use Rattle.ips_words_radio.specs.HeardWords.{heard_part, silenced_slot, silenced_words, paced_words}
use Rattle.ips_words_radio.proofs.Hearing.{head_there}
use Rattle.ips_words_radio.proofs.Heard.{silenced_length, silenced_head, silenced_slot_lem}
use Rattle.endpoint.specs.Lent.{Lent, lent, after_in_under}
use Rattle.endpoint.specs.Calls.{PerformedIn}
use Rattle.word_laws.specs.RadioLeaves.{ChannelsLeft, PaceLeaves, Silent, Unsilenced}
use Rattle.word_laws.proofs.PacerWords.{timely_by, clock_written, due_written, heard_written}
use Rattle.word_laws.proofs.Heard.{none_left, in_slot, long_slot, told_leaves, paced_channels}

-- ---- one channel's words after a silence
module _ (w : List ℕ) (long : length w ≡ 74) where
  abbrev unreported : List ℕ
  unreported = set (set w 3 0) 4 0

  status_absent : (j : ℕ) → 4 < j → get_or unreported j 0 ≡ get_or w j 0
  status_absent j h = get_or-set_other (set w 3 0) 4 j 0 0 (λ e. omega arith) ∙ get_or-set_other w 3 j 0 0 (λ e. omega arith)

  pub silent_status : (get_or (silenced_slot w) 3 0 ≡ 0) × (get_or (silenced_slot w) 4 0 ≡ 0)
  unfolding heard_part
  silent_status = go (eqb (get_or unreported 1 0) 1)
    where
      tag : get_or unreported 3 0 ≡ 0
      tag = get_or-set_other (set w 3 0) 4 3 0 0 (λ e. omega arith) ∙ get_or-set_same w 3 0 0 (omega (arith, long))

      value : get_or unreported 4 0 ≡ 0
      value = get_or-set_same (set w 3 0) 4 0 0 (simp length-set (omega (arith, long)))

      go : (b : Bool) → (get_or (cond b (set (set unreported 5 1) 6 0) unreported) 3 0 ≡ 0) × (get_or (cond b (set (set unreported 5 1) 6 0) unreported) 4 0 ≡ 0)
      go true = (
        get_or-set_other (set unreported 5 1) 6 3 0 0 (λ e. omega arith) ∙ get_or-set_other unreported 5 3 1 0 (λ e. omega arith) ∙ tag,
        get_or-set_other (set unreported 5 1) 6 4 0 0 (λ e. omega arith) ∙ get_or-set_other unreported 5 4 1 0 (λ e. omega arith) ∙ value,
      )
      go false = (tag, value)

  kind_stands : get_or unreported 1 0 ≡ get_or w 1 0
  kind_stands = get_or-set_other (set w 3 0) 4 1 0 0 (λ e. omega arith) ∙ get_or-set_other w 3 1 0 0 (λ e. omega arith)

  pub silent_flow : get_or w 1 0 ≡ 1 → (get_or (silenced_slot w) 5 0 ≡ 1) × (get_or (silenced_slot w) 6 0 ≡ 0)
  unfolding heard_part
  silent_flow controlled =
      rw (kind_stands, controlled) (
        get_or-set_other (set unreported 5 1) 6 5 0 0 (λ e. omega arith) ∙ get_or-set_same unreported 5 1 0 (simp length-set (omega (arith, long))),
        get_or-set_same (set unreported 5 1) 6 0 0 (simp length-set (omega (arith, long))),
      )

  pub silent_plain : get_or w 1 0 ≡ 0 → (j : ℕ) → 4 < j → get_or (silenced_slot w) j 0 ≡ get_or w j 0
  unfolding heard_part
  silent_plain plain j h = rw (kind_stands, plain) (status_absent j h)

-- ---- all the words
module _ (words : List ℕ) (fits : state_fits (state_in words) ≡ true) where
  silent_slot : (i j : ℕ) → i < get_or words 1 0 → j < 74 → {n : ℕ} → get_or (silenced_slot (slot words i)) j 0 ≡ n → get_or (silenced_words words) (14 + 74 * i + j) 0 ≡ n
  silent_slot i j h b e = in_slot words (silenced_words words) fits (silenced_length words fits) (λ id. None) (λ id. (Some Window.Empty)) (silenced_slot_lem words fits) i j h b e

  slot_long : (i : ℕ) → i < get_or words 1 0 → length (slot words i) ≡ 74
  slot_long i h = long_slot words (silenced_words words) fits (silenced_length words fits) (λ id. None) (λ id. (Some Window.Empty)) (silenced_slot_lem words fits) i h

  kind_at : (i n : ℕ) → get_or words (14 + 74 * i + 1) 0 ≡ n → get_or (slot words i) 1 0 ≡ n
  kind_at i n e = slot_word words i 1 (omega arith) ∙ e

  silence_writes : Silent words (silenced_words words)
  silence_writes = record {
    unreported = λ i h. let s = silent_status (slot words i) (slot_long i h) in (silent_slot i 3 h (omega arith) s.0, silent_slot i 4 h (omega arith) s.1);
    no_window_lem = λ i h controlled.
        let s = silent_flow (slot words i) (slot_long i h) (kind_at i 1 controlled) in
        (silent_slot i 5 h (omega arith) s.0, silent_slot i 6 h (omega arith) s.1);
    plain = λ i j h is low high. silent_slot i j h (omega arith) (silent_plain (slot words i) (slot_long i h) (kind_at i 0 is) j low ∙ slot_word words i j (omega arith));
  }

  silence_channels : (memory : List ℕ) → ChannelsLeft (lent words memory) (lent (silenced_words words) memory)
  silence_channels =
      told_leaves words (silenced_words words) fits (silenced_length words fits) (λ id. None) (λ id. (Some Window.Empty)) (silenced_slot_lem words fits)

  abbrev fallen : Bool → List ℕ
  fallen silent = cond silent (silenced_words words) words

  fallen_room : (silent : Bool) → 14 ≤ length (fallen silent)
  fallen_room true = omega (arith, silenced_length words fits, head_there words fits)
  fallen_room false = head_there words fits

  fallen_head : (silent : Bool) (k : ℕ) → k < 14 → get_or (fallen silent) k 0 ≡ get_or words k 0
  fallen_head true k h = silenced_head words fits k h
  fallen_head false k h = refl

  fallen_channels : (silent : Bool) (memory : List ℕ) → ChannelsLeft (lent words memory) (lent (fallen silent) memory)
  fallen_channels true memory = silence_channels memory
  fallen_channels false memory = none_left (lent words memory)

-- THE LAW: of any words, any time and any answer
nothing_paced : (l : Lent) → PaceLeaves l l
nothing_paced l = record { channels = none_left l; head = λ k h. refl; heard = refl; codes = refl }

asked_leaves : (words memory : List ℕ) (time : ℕ) → state_fits (state_in words) ≡ true → PaceLeaves (lent words memory) (lent (paced_words time words) memory)
unfolding paced_words asked
asked_leaves words memory time fits =
    let silent = is_silent time (pacer_in words) in
    let p = asked time (pacer_in words) in
    record {
      channels = paced_channels (fallen words fits silent) p (lent words memory) memory (fallen_channels words fits silent memory);
      head = λ k h. paced_before (fallen words fits silent) p k (omega arith) ∙ fallen_head words fits silent k (omega arith);
      heard = heard_written (fallen words fits silent) p (fallen_room words fits silent);
      codes = paced_behind (fallen words fits silent) p 13 (omega arith) ∙ fallen_head words fits silent 13 (omega arith);
    }

pub pace_other_words : {time : ℕ} {l l' : Lent} {x : EndpointReply} → PerformedIn (pace time) l x l' → PaceLeaves l l'
unfolding after_in_under
pace_other_words {time} {l} h = rw h.lent_is (go (in_time time (state_in l.words)) refl)
  where
    go : (b : Bool) → in_time time (state_in l.words) ≡ b → PaceLeaves l (lent (cond b (paced_words time l.words) l.words) l.memory)
    go true f = asked_leaves l.words l.memory time ((and-eq-true_iff (state_fits (state_in l.words)) _).0 f).0
    go false f = nothing_paced l

-- ---- where it is not refused, word 10 being the clock: the clock is the time, the last query due moves if one is due, and a silence is written, or no channel's word
module _ {time : ℕ} {l l' : Lent} {x : EndpointReply} (h : PerformedIn (pace time) l x l') (fitting : state_fits (state_in l.words) ≡ true)
    (on_time : get_or l.words 10 0 ≤ time) where
  timely : in_time time (state_in l.words) ≡ true
  timely = timely_by l.words time fitting on_time

  abbrev silent : Bool
  silent = is_silent time (pacer_in l.words)

  words_paced : l'.words ≡ put_pacer (fallen l.words fitting silent) (asked time (pacer_in l.words))
  unfolding after_in_under paced_words
  words_paced = ap (λ (x : Lent). x.words) h.lent_is ∙ rw timely

  pub pace_clock_word : get_or l'.words 10 0 ≡ time
  unfolding asked
  pace_clock_word = rw words_paced (clock_written (fallen l.words fitting silent) (asked time (pacer_in l.words)) (fallen_room l.words fitting silent))

  due_word : get_or l'.words 11 0 ≡ (asked time (pacer_in l.words)).due
  due_word = rw words_paced (due_written (fallen l.words fitting silent) (asked time (pacer_in l.words)) (fallen_room l.words fitting silent))

  -- words 8 and 11: HelloTime, and the last query due
  pub pace_due_word : (get_or l.words 11 0 + get_or l.words 8 0 ≤ time → get_or l'.words 11 0 ≡ time)
      × (time < get_or l.words 11 0 + get_or l.words 8 0 → get_or l'.words 11 0 ≡ get_or l.words 11 0)
  unfolding asked
  pace_due_word =
      (λ over. due_word ∙ rw (le-leb (get_or l.words 11 0 + get_or l.words 8 0) time over), λ on. due_word ∙ rw (lt-leb (get_or l.words 11 0 + get_or l.words 8 0) time on))

  behind : (k : ℕ) → 12 < k → get_or l'.words k 0 ≡ get_or (fallen l.words fitting silent) k 0
  behind k low = rw words_paced (paced_behind (fallen l.words fitting silent) (asked time (pacer_in l.words)) k low)

  -- words 9 and 12: the silence limit, and the last accepted radio control message
  pub pace_silent_words : get_or l.words 12 0 + get_or l.words 9 0 ≤ time → Silent l.words l'.words
  pace_silent_words over =
      let is : silent ≡ true = le-leb (get_or l.words 12 0 + get_or l.words 9 0) time over in
      let s = silence_writes l.words fitting in
      let at : (k : ℕ) → 12 < k → get_or l'.words k 0 ≡ get_or (silenced_words l.words) k 0 = λ k low. behind k low ∙ rw is in
      record {
        unreported = λ i inside. (at (14 + 74 * i + 3) (omega arith) ∙ (s.unreported i inside).0, at (14 + 74 * i + 4) (omega arith) ∙ (s.unreported i inside).1);
        no_window_lem = λ i inside kind. (at (14 + 74 * i + 5) (omega arith) ∙ (s.no_window_lem i inside kind).0, at (14 + 74 * i + 6) (omega arith) ∙ (s.no_window_lem i inside kind).1);
        plain = λ i j inside kind low high. at (14 + 74 * i + j) (omega arith) ∙ s.plain i j inside kind low high;
      }

  pub pace_quiet_words : time < get_or l.words 12 0 + get_or l.words 9 0 → Unsilenced l.words l'.words
  pace_quiet_words on =
      let is : silent ≡ false = lt-leb (get_or l.words 12 0 + get_or l.words 9 0) time on in
      record { stands = λ k low. behind k low ∙ rw is }

-- ---- asked again in the same silence it is silent again, and no channel's word changes
pub pace_again : {time later : ℕ} {l l' l'' : Lent} {x y : EndpointReply} → PerformedIn (pace time) l x l' → PerformedIn (pace later) l' y l'' → state_fits (state_in l.words) ≡ true
    → state_fits (state_in l'.words) ≡ true → get_or l.words 10 0 ≤ time → time ≤ later → get_or l.words 12 0 + get_or l.words 9 0 ≤ time
    → (get_or l'.words 12 0 + get_or l'.words 9 0 ≤ later) × Silent l'.words l''.words
pace_again {time} {later} {l} {l'} h k fits fits' on_time after over =
    let left = pace_other_words h in
    let again : get_or l'.words 12 0 + get_or l'.words 9 0 ≤ later = rw (left.heard, left.head 9 (omega arith)) (omega arith) in
    let clock : get_or l'.words 10 0 ≤ later = rw (pace_clock_word h fits on_time) after in
    (again, pace_silent_words k fits' clock again)
