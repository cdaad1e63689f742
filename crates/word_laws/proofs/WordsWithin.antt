-- Words stand for a state within the limits exactly where `WordsWithin` says so, fact by fact; and what such words say. Assumes nothing.
use Rattle.quantity.specs.declared.count.LinkInstanceId.{LinkInstanceId}
use Rattle.meaning.specs.declared.message.ContextBytes.{ContextBytes}
use Rattle.std.specs.Prelude.{Some, None}
use Prim.Native.Nat.{ℕ, zero, suc, ◌+◌, ◌*◌, ◌≤◌, ◌<◌}
use mathlib.Core.Bool.{Bool, true, false, cond}
use mathlib.Core.List.{List, [], ◌∷◌, ◌++◌}
use mathlib.Core.Logic.{◌⊎◌, inl, inr, ⊎_elim}
use mathlib.Core.Path.{◌≡◌, refl, sym, ap, ◌∙◌}
use native.Mathlib.Nat.{eq-or-lt_of_le}
use native.Mathlib.Omega.{arith}
use borrow.Author.Tests.{eqb-true, eqb-false}
use lib.Dec.{eqb}
use lib.ListN.{length, take, get_or}
use lib.Seq.{length-take-le, get_or-take, take-suc}
use Rattle.facts.proofs.Tests.{clash}
use Rattle.store.specs.declared.queue.Entry.{Entry}
use Rattle.store.specs.Waiting.{waiting, total, no_entry}
use Rattle.flow.specs.declared.Flow.{Flow}
use Rattle.ips_channel.specs.declared.state.Channel.{Channel}
use Rattle.ips_state.specs.State.{channel_at}
use Rattle.ips_state.specs.Limits.{state_fits}
use Rattle.ips_state.specs.WithinLimits.{ChannelWithin, NameWithin, WithinLimits}
use Rattle.ips_state.proofs.WithinLimits.{within_fits, fits_within}
use Rattle.ips_words.specs.Words.{slot, status_of, flow_of, instance_of, context_of, entry_at, entries_in, queue_in, channel_in, state_of, spelled, readable, state_in}
use Rattle.ips_words.proofs.Entries.{entries_length, entries_waiting, entries_behind}
use Rattle.ips_words.proofs.Slots.{spelled_facts, spelled_by}
use Rattle.ips_words.proofs.Whole.{channels_length, channel_at_lem, slot_word, readable_facts, readable_by, says, fit_readable}
use Rattle.word_laws.specs.WordsWithin.{lengths_in, ChannelWordsWithin, NameWordsWithin, WordsWithin, ChannelSaid, StateSaid}

-- ---- what a tag says
none_or_one : (n : ℕ) → n ≤ 1 → (n ≡ 0) ⊎ (n ≡ 1)
none_or_one n few = ⊎_elim (λ (e : n ≡ 1). inr e) (λ (l : n < 1). inl (omega arith)) (eq-or-lt_of_le few)

module _ {A : Type 0} (tag : ℕ) (absent given : A) where
  tag_given : tag ≡ 1 → cond (eqb tag 0) absent given ≡ given
  tag_given e = rw e

  given_tag : tag ≤ 1 → (x : A) → (absent ≡ x → false ≡ true) → cond (eqb tag 0) absent given ≡ x → (tag ≡ 1) × (given ≡ x)
  given_tag few x f = go (eqb tag 0) refl
    where
      go : (b : Bool) → eqb tag 0 ≡ b → cond b absent given ≡ x → (tag ≡ 1) × (given ≡ x)
      go true t e = clash (f e)
      go false t e = (⊎_elim (λ (n : tag ≡ 0). absurd (eqb-false tag 0 t n)) (λ (n : tag ≡ 1). n) (none_or_one tag few), e)

free_tag : (tag window : ℕ) → flow_of tag window ≡ Flow.Free → tag ≡ 0
unfolding flow_of
free_tag tag window = go (eqb tag 0) (eqb tag 1) refl
  where
    go : (a b : Bool) → eqb tag 0 ≡ a → cond a Flow.Free (cond b Flow.NoWindow (Flow.InForce (record { 0 = window }))) ≡ Flow.Free → tag ≡ 0
    go true b t e = eqb-true tag 0 t
    go false true t e = cc
    go false false t e = cc

-- ---- what waits, in a channel's words
total_more : (es : List Entry) (e : Entry) → total (es ++ (e ∷ [])) ≡ total es + e.length.0
unfolding total
total_more [] e = omega arith
total_more (x ∷ es) e = omega (arith, total_more es e)

module _ (w : List ℕ) (few : get_or w 9 0 ≤ 32) where
  waits_length : length (waiting (queue_in w)) ≡ get_or w 9 0
  unfolding waiting queue_in
  waits_length = length-take-le (get_or w 9 0) (entries_in w (get_or w 9 0)) (omega (arith, entries_length w (get_or w 9 0)))

  waits_at : (k : ℕ) → k < get_or w 9 0 → get_or (waiting (queue_in w)) k no_entry ≡ entry_at w k
  unfolding waiting queue_in
  waits_at k h = get_or-take (get_or w 9 0) (entries_in w (get_or w 9 0)) k no_entry h ∙ entries_waiting w (get_or w 9 0) k (omega arith) h

  total_to : (n : ℕ) → n ≤ get_or w 9 0 → total (take n (entries_in w (get_or w 9 0))) ≡ lengths_in w 0 n
  unfolding total lengths_in
  total_to zero h = refl
  total_to (suc n) h =
      rw (take-suc (entries_in w (get_or w 9 0)) n no_entry (omega (arith, entries_length w (get_or w 9 0))), total_more (take n (entries_in w (get_or w 9 0))) (get_or (entries_in w (get_or w 9 0)) n no_entry), entries_waiting w (get_or w 9 0) n (omega arith) (omega arith), total_to n (omega arith))

  waits_total : total (waiting (queue_in w)) ≡ lengths_in w 0 (get_or w 9 0)
  unfolding waiting queue_in
  waits_total = total_to (get_or w 9 0) (omega arith)

-- ---- one channel's words
part_within : (w : List ℕ) → spelled w ≡ true → ChannelWithin (channel_in w) → ChannelWordsWithin w 0
unfolding channel_in queue_in status_of
part_within w e c =
    let s = spelled_facts w e in
    let few : get_or w 9 0 ≤ 32 = c.queue_within.few in
    let length-of : (k : ℕ) → k < get_or w 9 0 → (40 ≤ get_or w (10 + 2 * k) 0) × (get_or w (10 + 2 * k) 0 ≤ 9000) =
    λ k h. rw (waits_at w few k h) at (c.queue_within.lengths k (omega (arith, waits_length w few))) in
    record {
      unreserved = c.unreserved;
      kind = s.kind;
      smallest = c.smallest;
      largest = c.largest;
      status_tag_lem = s.status_tag_lem;
      status_byte = s.status;
      highest = λ t. c.highest (get_or w 4 0) (tag_given (get_or w 3 0) None (Some (get_or w 4 0)) t);
      flow_tag_lem = s.flow_tag_lem;
      plain = λ k. free_tag (get_or w 5 0) (get_or w 6 0) (c.plain (rw k));
      window = s.window;
      sequence = s.sequence;
      few = few;
      shortest = λ k h. (length-of k h).0;
      longest = λ k h. (length-of k h).1;
      room = rw (waits_total w few) at c.queue_within.room;
    }

part_spelled : (w : List ℕ) → ChannelWordsWithin w 0 → spelled w ≡ true
part_spelled w c =
    spelled_by w (record { kind = c.kind; status_tag_lem = c.status_tag_lem; status = c.status_byte; flow_tag_lem = c.flow_tag_lem; window = c.window; sequence = c.sequence })

within_part : (w : List ℕ) → ChannelWordsWithin w 0 → ChannelWithin (channel_in w)
unfolding channel_in queue_in status_of flow_of
within_part w c = record {
  unreserved = c.unreserved;
  smallest = c.smallest;
  largest = c.largest;
  highest = λ value e.
      let one = given_tag (get_or w 3 0) None (Some (get_or w 4 0)) c.status_tag_lem (Some value) (λ q. cc) e in
      let is : get_or w 4 0 ≡ value = cc one.1 in
      omega (arith, c.highest one.0);
  plain = λ e. ⊎_elim (λ (k : get_or w 1 0 ≡ 0). rw (c.plain k)) (λ (k : get_or w 1 0 ≡ 1). absurd (eqb-false (get_or w 1 0) 1 e k)) (none_or_one (get_or w 1 0) c.kind);
  queue_within = record {
    few = c.few;
    lengths = λ k h. let inside : k < get_or w 9 0 = omega (arith, waits_length w c.few) in rw (waits_at w c.few k inside) (c.shortest k inside, c.longest k inside);
    room = rw (waits_total w c.few) c.room;
  };
}

part_said : (w : List ℕ) → get_or w 9 0 ≤ 32 → ChannelSaid w 0 (channel_in w)
unfolding channel_in queue_in status_of flow_of
part_said w few = record {
  id = refl;
  plain = λ e. rw e;
  controlled = λ e. rw e;
  size = refl;
  absent = λ e. rw e;
  given = λ e. rw e;
  free = λ e. rw e;
  no_window_lem = λ e. rw e;
  in_force = λ e. rw e;
  sequence = refl;
  latest = refl;
  waiting = refl;
  places = entries_length w (get_or w 9 0);
  entry = λ k h. let next : 10 + 2 * k + 1 ≡ 11 + 2 * k = omega arith in rw (entries_waiting w (get_or w 9 0) k (omega arith) h, next);
  behind = entries_behind w (get_or w 9 0);
}

-- ---- the same words at another place
module _ (v w : List ℕ) (a b : ℕ) (same : (j : ℕ) → j < 74 → get_or v (a + j) 0 ≡ get_or w (b + j) 0) where
  same_first : get_or v a 0 ≡ get_or w b 0
  same_first = let x : a + 0 ≡ a = omega arith in let y : b + 0 ≡ b = omega arith in rw (x, y) at (same 0 (omega arith))

  same_length : (k : ℕ) → k < 32 → get_or v (a + 10 + 2 * k) 0 ≡ get_or w (b + 10 + 2 * k) 0
  same_length k h =
      let x : a + 10 + 2 * k ≡ a + (10 + 2 * k) = omega arith in
      let y : b + 10 + 2 * k ≡ b + (10 + 2 * k) = omega arith in
      rw (x, y) (same (10 + 2 * k) (omega arith))

  same_expiry : (k : ℕ) → k < 32 → get_or v (a + 11 + 2 * k) 0 ≡ get_or w (b + 11 + 2 * k) 0
  same_expiry k h =
      let x : a + 11 + 2 * k ≡ a + (11 + 2 * k) = omega arith in
      let y : b + 11 + 2 * k ≡ b + (11 + 2 * k) = omega arith in
      rw (x, y) (same (11 + 2 * k) (omega arith))

  same_lengths : (n : ℕ) → n ≤ 32 → lengths_in v a n ≡ lengths_in w b n
  unfolding lengths_in
  same_lengths zero h = refl
  same_lengths (suc n) h = rw (same_lengths n (omega arith), same_length n (omega arith))

  moved_within_lem : ChannelWordsWithin v a → ChannelWordsWithin w b
  moved_within_lem c =
      let few : get_or w (b + 9) 0 ≤ 32 = rw (same 9 (omega arith)) at c.few in
      record {
        unreserved = rw same_first at c.unreserved;
        kind = rw (same 1 (omega arith)) at c.kind;
        smallest = rw (same 2 (omega arith)) at c.smallest;
        largest = rw (same 2 (omega arith)) at c.largest;
        status_tag_lem = rw (same 3 (omega arith)) at c.status_tag_lem;
        status_byte = rw (same 4 (omega arith)) at c.status_byte;
        highest = λ e. rw (same 4 (omega arith)) at (c.highest (same 3 (omega arith) ∙ e));
        flow_tag_lem = rw (same 5 (omega arith)) at c.flow_tag_lem;
        plain = λ e. sym (same 5 (omega arith)) ∙ c.plain (same 1 (omega arith) ∙ e);
        window = rw (same 6 (omega arith)) at c.window;
        sequence = rw (same 7 (omega arith)) at c.sequence;
        few = few;
        shortest = λ k h. rw (same_length k (omega arith)) at (c.shortest k (rw (same 9 (omega arith)) h));
        longest = λ k h. rw (same_length k (omega arith)) at (c.longest k (rw (same 9 (omega arith)) h));
        room = rw (same 9 (omega arith), same 2 (omega arith), same_lengths (get_or w (b + 9) 0) few) at c.room;
      }

  moved_said : (c : Channel) → c.queue.count ≤ 32 → ChannelSaid v a c → ChannelSaid w b c
  moved_said c few s = record {
    id = s.id ∙ same_first;
    plain = λ e. s.plain (same 1 (omega arith) ∙ e);
    controlled = λ e. s.controlled (same 1 (omega arith) ∙ e);
    size = s.size ∙ same 2 (omega arith);
    absent = λ e. s.absent (same 3 (omega arith) ∙ e);
    given = λ e. rw (same 4 (omega arith)) at (s.given (same 3 (omega arith) ∙ e));
    free = λ e. s.free (same 5 (omega arith) ∙ e);
    no_window_lem = λ e. s.no_window_lem (same 5 (omega arith) ∙ e);
    in_force = λ e. rw (same 6 (omega arith)) at (s.in_force (same 5 (omega arith) ∙ e));
    sequence = s.sequence ∙ same 7 (omega arith);
    latest = s.latest ∙ same 8 (omega arith);
    waiting = s.waiting ∙ same 9 (omega arith);
    places = s.places;
    entry = λ k h.
        let inside : k < get_or v (a + 9) 0 = rw (same 9 (omega arith)) h in
        let low : k < 32 = omega (arith, s.waiting) in
        rw (same_length k low, same_expiry k low) at (s.entry k inside);
    behind = λ k h. s.behind k (rw (same 9 (omega arith)) h);
  }

-- ---- the words of a Link Instance or a Context
module _ (words : List ℕ) (b : ℕ) where
  name_words : get_or words b 0 ≤ 1 → (get_or words b 0 ≡ 1 → NameWithin (get_or words (b + 1) 0) (get_or words (b + 2) 0)) → NameWordsWithin words b
  name_words tag name = record { tag = tag; shortest = λ t. (name t).shortest; longest = λ t. (name t).longest; fits = λ t. (name t).fits }

  words_name : NameWordsWithin words b → get_or words b 0 ≡ 1 → NameWithin (get_or words (b + 1) 0) (get_or words (b + 2) 0)
  words_name n t = record { shortest = n.shortest t; longest = n.longest t; fits = n.fits t }

-- ---- all the words
module _ (words : List ℕ) where
  out_of_slot : (i j : ℕ) → j < 74 → get_or (slot words i) (0 + j) 0 ≡ get_or words (14 + 74 * i + j) 0
  out_of_slot i j h = let none : 0 + j ≡ j = omega arith in rw none (slot_word words i j (omega arith))

  id_said : (i : ℕ) → i < get_or words 1 0 → (channel_at (state_of words) i).setting.id ≡ get_or words (14 + 74 * i) 0
  unfolding channel_in
  id_said i h = ap (λ (c : Channel). c.setting.id) (channel_at_lem words i h) ∙ same_first (slot words i) words 0 (14 + 74 * i) (out_of_slot i)

  -- a state within the limits
  module _ (e : readable words ≡ true) (w : WithinLimits (state_of words)) where
    counted : (i : ℕ) → i < get_or words 1 0 → i < length (state_of words).channels
    counted i h = omega (arith, channels_length words)

    within_words : WordsWithin words
    unfolding state_of instance_of context_of
    within_words =
        let r = readable_facts words e in
        let instance = Some (record { 0 = get_or words 3 0 }, get_or words 4 0) in
        let context = Some (record { 0 = get_or words 6 0 }, get_or words 7 0) in
        record {
          long = r.long;
          datalink = r.head.datalink;
          some = omega (arith, channels_length words, w.some);
          few = omega (arith, channels_length words, w.few);
          instance_within = name_words words 2 r.head.instance (λ t. w.instance_within (record { 0 = get_or words 3 0 }) (get_or words 4 0) (tag_given (get_or words 2 0) None instance t));
          context_within = name_words words 5 r.head.context (λ t. w.context_within (record { 0 = get_or words 6 0 }) (get_or words 7 0) (tag_given (get_or words 5 0) None context t));
          hello = w.hello;
          limit = w.limit;
          codes = r.head.codes;
          each = λ i h.
              moved_within_lem (slot words i) words 0 (14 + 74 * i) (out_of_slot i)
              (part_within (slot words i) (r.each i h) (rw (channel_at_lem words i h) at (w.each i (counted i h))));
          apart = λ i j h l p. w.apart i j (counted i h) (counted j l) (id_said i h ∙ p ∙ sym (id_said j l));
          primary = w.primary;
          primary_inside = omega (arith, channels_length words, w.primary_inside);
          primary_is = sym (id_said w.primary (omega (arith, channels_length words, w.primary_inside))) ∙ w.primary_is;
        }

  -- words within
  module _ (w : WordsWithin words) where
    slot_within : (i : ℕ) → i < get_or words 1 0 → ChannelWordsWithin (slot words i) 0
    slot_within i h = moved_within_lem words (slot words i) (14 + 74 * i) 0 (λ j l. sym (out_of_slot i j l)) (w.each i h)

    words_readable : readable words ≡ true
    words_readable = readable_by words (record {
      long = w.long;
      head = record { datalink = w.datalink; instance = w.instance_within.tag; context = w.context_within.tag; codes = w.codes };
      each = λ i h. part_spelled (slot words i) (slot_within i h);
    })

    inside : (i : ℕ) → i < length (state_of words).channels → i < get_or words 1 0
    inside i h = omega (arith, channels_length words)

    words_within_limits : WithinLimits (state_of words)
    unfolding state_of instance_of context_of
    words_within_limits = record {
      some = omega (arith, channels_length words, w.some);
      few = omega (arith, channels_length words, w.few);
      each = λ i h. rw (channel_at_lem words i (inside i h)) (within_part (slot words i) (slot_within i (inside i h)));
      apart = λ i j h l p. w.apart i j (inside i h) (inside j l) (sym (id_said i (inside i h)) ∙ p ∙ id_said j (inside j l));
      primary = w.primary;
      primary_inside = omega (arith, channels_length words, w.primary_inside);
      primary_is = id_said w.primary w.primary_inside ∙ w.primary_is;
      hello = w.hello;
      limit = w.limit;
      instance_within = λ value size p.
          let one = given_tag (get_or words 2 0) None (Some (record { 0 = get_or words 3 0 }, get_or words 4 0)) w.instance_within.tag (Some (value, size)) (λ q. cc) p in
          let both : ◌≡◌ {A = LinkInstanceId × ℕ} (record { 0 = get_or words 3 0 }, get_or words 4 0) (value, size) = cc one.1 in
          let first : get_or words 3 0 ≡ value.0 = ap (λ (both : LinkInstanceId × ℕ). both.0.0) both in
          let second : get_or words 4 0 ≡ size = ap (λ (both : LinkInstanceId × ℕ). both.1) both in
          rw (← first, ← second) (words_name words 2 w.instance_within one.0);
      context_within = λ value size p.
          let one = given_tag (get_or words 5 0) None (Some (record { 0 = get_or words 6 0 }, get_or words 7 0)) w.context_within.tag (Some (value, size)) (λ q. cc) p in
          let both : ◌≡◌ {A = ContextBytes × ℕ} (record { 0 = get_or words 6 0 }, get_or words 7 0) (value, size) = cc one.1 in
          let first : get_or words 6 0 ≡ value.0 = ap (λ (both : ContextBytes × ℕ). both.0.0) both in
          let second : get_or words 7 0 ≡ size = ap (λ (both : ContextBytes × ℕ). both.1) both in
          rw (← first, ← second) (words_name words 5 w.context_within one.0);
    }

  -- THE LAW: number 19 does not refuse a state in words exactly where these facts hold of them
  pub words_within : (state_fits (state_in words) ≡ true → WordsWithin words) × (WordsWithin words → state_fits (state_in words) ≡ true)
  words_within = (
    λ fits.
        let e = fit_readable words fits in
        within_words e (fits_within (state_of words) (rw (says words e) at fits)),
    λ w. rw (says words (words_readable w)) (within_fits (state_of words) (words_within_limits w)),
  )

  -- WHAT SUCH WORDS SAY
  module _ (w : WordsWithin words) where
    pub channel_says : (i : ℕ) → i < get_or words 1 0 → ChannelSaid words (14 + 74 * i) (channel_at (state_in words) i)
    unfolding channel_in queue_in
    channel_says i h =
        let few : get_or (slot words i) 9 0 ≤ 32 = (slot_within w i h).few in
        rw (says words (words_readable w), channel_at_lem words i h)
        (moved_said (slot words i) words 0 (14 + 74 * i) (out_of_slot i) (channel_in (slot words i)) few (part_said (slot words i) few))

    pub words_say_lem : StateSaid words (state_in words)
    unfolding state_of instance_of context_of
    words_say_lem =
        let is = says words (words_readable w) in
        record {
          datalink = rw is;
          count = rw is (channels_length words);
          no_instance_lem = λ t. rw (is, t);
          instance = λ t. rw (is, t);
          no_context_lem = λ t. rw (is, t);
          context = λ t. rw (is, t);
          hello = rw is;
          limit = rw is;
          clock = rw is;
          due = rw is;
          heard = rw is;
          codes = rw is;
          channel = channel_says;
        }
