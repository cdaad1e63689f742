-- Number 19 of a state in words is given exactly if `WordsWithin` fails, and what other words say. Assumes nothing.
use Rattle.std.specs.Prelude.{Some, None}
use Prim.Native.Nat.{ℕ, ◌+◌, ◌*◌, ◌≤◌, ◌<◌}
use mathlib.Core.Bool.{Bool, true, false, cond, ◌&&◌, and-eq-true_iff}
use mathlib.Core.List.{List}
use mathlib.Core.Logic.{◌↔◌}
use mathlib.Core.Path.{◌≡◌, refl, sym, ap, ◌∙◌}
use native.Mathlib.Omega.{arith}
use borrow.Author.Tests.{leb-true, le-leb, eqb-true, eq-eqb}
use lib.Dec.{eqb, leb}
use lib.ListN.{length, get_or}
use Rattle.facts.proofs.Tests.{clash, by_le}
use Rattle.facts.proofs.Tables.{length_tabulate, get_d_tabulate}
use Rattle.quantity.specs.declared.count.FlowSequence.{FlowSequence}
use Rattle.lent_messages.specs.Stated.{instance_of, context_of}
use Rattle.radio_end_state.specs.declared.channel.Channel.{Channel}
use Rattle.radio_end_state.specs.State.{no_channel, channel_at}
use Rattle.radio_end_state.specs.Limits.{state_fits}
use Rattle.radio_end_state.proofs.UpTo.{up_to_by}
use Rattle.radio_end_words.specs.Words.{highest_of, channel_in, slot, state_of, highest_spelled, spelled, name_spelled, head_spelled, all_spelled, readable, state_in}
use Rattle.radio_end_words.proofs.Placing.{slot_word}
use Rattle.radio_end_words.proofs.Whole.{readable_facts, says, fit_readable}
use Rattle.radio_end_laws.specs.Plain.{ContextWritable, InstanceWritable}
use Rattle.radio_end_laws.specs.Limits.{ChannelWithin, WithinLimits}
use Rattle.radio_end_laws.specs.Words.{ChannelWordsWithin, NameWordsWithin, WordsWithin, ChannelSaid, StateSaid}
use Rattle.radio_end_laws.proofs.Limits.{limits_exactly}

-- ---- tags: 0 or 1
by_tag : {X : Type 0} (tag : ℕ) → tag ≤ 1 → (tag ≡ 0 → X) → (tag ≡ 1 → X) → X
by_tag tag h none one = by_le tag 0 (λ (l : tag ≤ 0). none (omega arith)) (λ (l : 0 < tag). one (omega arith))

highest_facts : (tag value : ℕ) → highest_spelled tag value ≡ true → (tag ≤ 1) × (tag ≡ 0 → value ≡ 0)
highest_facts tag value e = go (eqb tag 0) refl
  where
    go : (b : Bool) → eqb tag 0 ≡ b → (tag ≤ 1) × (tag ≡ 0 → value ≡ 0)
    go true f =
        let none : eqb value 0 ≡ true = rw f at e in
        (omega (arith, eqb-true tag 0 f), λ x. eqb-true value 0 none)
    go false f =
        let one : eqb tag 1 ≡ true = rw f at e in
        (omega (arith, eqb-true tag 1 one), λ x. absurd (omega (arith, eqb-true tag 1 one)))

facts_highest : (tag value : ℕ) → tag ≤ 1 → (tag ≡ 0 → value ≡ 0) → highest_spelled tag value ≡ true
facts_highest tag value h none = by_tag tag h (λ (t : tag ≡ 0). rw (t, none t)) (λ (t : tag ≡ 1). rw t)

name_facts : (tag value size : ℕ) → name_spelled tag value size ≡ true → (tag ≤ 1) × (tag ≡ 0 → (value ≡ 0) × (size ≡ 0))
unfolding name_spelled
name_facts tag value size e = go (eqb tag 0) refl
  where
    go : (b : Bool) → eqb tag 0 ≡ b → (tag ≤ 1) × (tag ≡ 0 → (value ≡ 0) × (size ≡ 0))
    go true f =
        let none : (eqb value 0 && eqb size 0) ≡ true = rw f at e in
        let both = (and-eq-true_iff (eqb value 0) (eqb size 0)).0 none in
        (omega (arith, eqb-true tag 0 f), λ x. (eqb-true value 0 both.0, eqb-true size 0 both.1))
    go false f =
        let one : eqb tag 1 ≡ true = rw f at e in
        (omega (arith, eqb-true tag 1 one), λ x. absurd (omega (arith, eqb-true tag 1 one)))

facts_name : (tag value size : ℕ) → NameWordsWithin tag value size → name_spelled tag value size ≡ true
unfolding name_spelled
facts_name tag value size n = by_tag tag n.low (λ (t : tag ≡ 0). rw (t, (n.absent t).0, (n.absent t).1)) (λ (t : tag ≡ 1). rw t)

-- ---- a Link Instance or a Context
instance_within : (tag value size : ℕ) → name_spelled tag value size ≡ true → InstanceWritable (instance_of tag value size) → NameWordsWithin tag value size
unfolding instance_of
instance_within tag value size e w = let f = name_facts tag value size e in record { low = f.0; absent = f.1; given = λ t. rw t at w }

within_instance : (tag value size : ℕ) → NameWordsWithin tag value size → InstanceWritable (instance_of tag value size)
unfolding instance_of
within_instance tag value size n = by_tag tag n.low (λ (t : tag ≡ 0). rw t tt) (λ (t : tag ≡ 1). rw t (n.given t))

context_within : (tag value size : ℕ) → name_spelled tag value size ≡ true → ContextWritable (context_of tag value size) → NameWordsWithin tag value size
unfolding context_of
context_within tag value size e w = let f = name_facts tag value size e in record { low = f.0; absent = f.1; given = λ t. rw t at w }

within_context : (tag value size : ℕ) → NameWordsWithin tag value size → ContextWritable (context_of tag value size)
unfolding context_of
within_context tag value size n = by_tag tag n.low (λ (t : tag ≡ 0). rw t tt) (λ (t : tag ≡ 1). rw t (n.given t))

-- ---- a channel's words, from a place on
module _ (words : List ℕ) (b : ℕ) where
  abbrev read : Channel
  read = record {
    setting = record { id = get_or words b 0; controlled = eqb (get_or words (b + 1) 0) 1; watermark = record { 0 = get_or words (b + 2) 0 }; throughput = record { 0 = get_or words (b + 3) 0 } };
    status = get_or words (b + 4) 0;
    queued = record { 0 = get_or words (b + 5) 0 };
    highest = cond (eqb (get_or words (b + 6) 0) 0) None (Some (record { 0 = get_or words (b + 7) 0 }));
  }

  abbrev spells : Bool
  spells = leb (get_or words (b + 1) 0) 1 && highest_spelled (get_or words (b + 6) 0) (get_or words (b + 7) 0)

  read_said : ChannelSaid words b read
  read_said = record {
    id = refl;
    plain = λ t. rw t;
    controlled = λ t. rw t;
    watermark = refl;
    throughput = refl;
    status = refl;
    queued = refl;
    unheard = λ t. rw t;
    heard = λ t. rw t;
  }

  read_within : spells ≡ true → ChannelWithin read → ChannelWordsWithin words b
  read_within e w =
      let both = (and-eq-true_iff (leb (get_or words (b + 1) 0) 1) _).0 e in
      let tags = highest_facts (get_or words (b + 6) 0) (get_or words (b + 7) 0) both.1 in
      record {
        unreserved = w.unreserved;
        kind = leb-true _ 1 both.0;
        watermark = w.watermark;
        throughput = w.throughput;
        status = w.status;
        tag = tags.0;
        unheard = tags.1;
        highest = by_tag (get_or words (b + 6) 0) tags.0 (λ (t : get_or words (b + 6) 0 ≡ 0). omega (arith, tags.1 t)) (λ (t : get_or words (b + 6) 0 ≡ 1). w.highest (record { 0 = get_or words (b + 7) 0 }) (rw t));
      }

  within_spells : ChannelWordsWithin words b → spells ≡ true
  within_spells w = rw (le-leb (get_or words (b + 1) 0) 1 w.kind) (facts_highest (get_or words (b + 6) 0) (get_or words (b + 7) 0) w.tag w.unheard)

  within_read : ChannelWordsWithin words b → ChannelWithin read
  within_read w = record { unreserved = w.unreserved; watermark = w.watermark; throughput = w.throughput; status = w.status; highest = low }
    where
      low : (h : FlowSequence) → cond (eqb (get_or words (b + 6) 0) 0) None (Some (record { 0 = get_or words (b + 7) 0 })) ≡ Some h → h.0 < 4294967296
      low h e =
          by_tag (get_or words (b + 6) 0) w.tag
          (λ (t : get_or words (b + 6) 0 ≡ 0). let none : None ≡ Some h = rw t at e in clash (cc))
          (λ (t : get_or words (b + 6) 0 ≡ 1).
          let one : Some (record { 0 = get_or words (b + 7) 0 }) ≡ Some h = rw t at e in
          let same : get_or words (b + 7) 0 ≡ h.0 = cc in
          omega (arith, w.highest, same))

-- ---- all the words
module _ (words : List ℕ) where
  slot_first : (i : ℕ) → get_or (slot words i) 0 0 ≡ get_or words (8 + 8 * i) 0
  slot_first i = let none : 8 + 8 * i + 0 ≡ 8 + 8 * i = omega arith in rw none at (slot_word words i 0 (omega arith))

  channel_read : (i : ℕ) → channel_in (slot words i) ≡ read words (8 + 8 * i)
  unfolding channel_in highest_of
  channel_read i =
      rw (
        slot_first i,
        slot_word words i 1 (omega arith),
        slot_word words i 2 (omega arith),
        slot_word words i 3 (omega arith),
        slot_word words i 4 (omega arith),
        slot_word words i 5 (omega arith),
        slot_word words i 6 (omega arith),
        slot_word words i 7 (omega arith),
      )

  spelled_read : (i : ℕ) → spelled (slot words i) ≡ spells words (8 + 8 * i)
  unfolding spelled
  spelled_read i = rw (slot_word words i 1 (omega arith), slot_word words i 6 (omega arith), slot_word words i 7 (omega arith))

  read_at_lem : (i : ℕ) → i < get_or words 1 0 → channel_at (state_of words) i ≡ read words (8 + 8 * i)
  unfolding channel_at state_of
  read_at_lem i h = get_d_tabulate (get_or words 1 0) (λ index. channel_in (slot words index)) i no_channel h ∙ channel_read i

  many : length (state_of words).channels ≡ get_or words 1 0
  unfolding state_of
  many = length_tabulate (get_or words 1 0) (λ index. channel_in (slot words index))

  id_read : (i : ℕ) → i < get_or words 1 0 → (channel_at (state_of words) i).setting.id ≡ get_or words (8 + 8 * i) 0
  id_read i h = ap (λ (c : Channel). c.setting.id) (read_at_lem i h)

  within_words : readable words ≡ true → WithinLimits (state_of words) → WordsWithin words
  unfolding state_of
  within_words e w =
      let r = readable_facts words e in
      let here = w.primary.0 in
      let there = w.primary.1 in
      let inside : here < get_or words 1 0 = omega (arith, there.inside, many) in
      record {
        long = r.long;
        datalink = w.datalink;
        some = omega (arith, many, w.some);
        few = omega (arith, many, w.few);
        instance = instance_within (get_or words 2 0) (get_or words 3 0) (get_or words 4 0) r.instance w.instance;
        context = context_within (get_or words 5 0) (get_or words 6 0) (get_or words 7 0) r.context w.context;
        each = λ i h. read_within words (8 + 8 * i) (sym (spelled_read i) ∙ r.each i h) (rw (read_at_lem i h) at (w.each i (omega (arith, many))));
        apart = λ i j h l p. w.apart i j (omega (arith, many)) (omega (arith, many)) (id_read i h ∙ p ∙ sym (id_read j l));
        primary = (here, inside, sym (id_read here inside) ∙ there.is);
      }

  -- words within
  module _ (w : WordsWithin words) where
    words_readable : readable words ≡ true
    unfolding readable head_spelled all_spelled
    words_readable =
        rw (
          eq-eqb (length words) (8 + 8 * get_or words 1 0) w.long,
          facts_name (get_or words 2 0) (get_or words 3 0) (get_or words 4 0) w.instance,
          facts_name (get_or words 5 0) (get_or words 6 0) (get_or words 7 0) w.context,
        )
        (up_to_by (λ index. spelled (slot words index)) (get_or words 1 0) (λ i h. spelled_read i ∙ within_spells words (8 + 8 * i) (w.each i h)))

    inner : (i : ℕ) → i < length (state_of words).channels → i < get_or words 1 0
    inner i h = omega (arith, many)

    words_limits : WithinLimits (state_of words)
    unfolding state_of
    words_limits =
        let here = w.primary.0 in
        let inside : here < get_or words 1 0 = w.primary.1 in
        record {
          datalink = w.datalink;
          some = omega (arith, many, w.some);
          few = omega (arith, many, w.few);
          instance = within_instance (get_or words 2 0) (get_or words 3 0) (get_or words 4 0) w.instance;
          context = within_context (get_or words 5 0) (get_or words 6 0) (get_or words 7 0) w.context;
          each = λ i h. rw (read_at_lem i (inner i h)) (within_read words (8 + 8 * i) (w.each i (inner i h)));
          apart = λ i j h l p. w.apart i j (inner i h) (inner j l) (sym (id_read i (inner i h)) ∙ p ∙ id_read j (inner j l));
          primary = (here, record { inside = omega (arith, many, inside); is = id_read here inside ∙ w.primary.2 });
        }

  -- NUMBER 19 does not refuse a state in words exactly where these facts hold of them
  pub radio_words_within : (state_fits (state_in words) ≡ true) ↔ WordsWithin words
  radio_words_within = (
    λ fits. let e = fit_readable words fits in within_words e ((limits_exactly (state_of words)).0 (rw (says words e) at fits)),
    λ w. rw (says words (words_readable w)) ((limits_exactly (state_of words)).1 (words_limits w)),
  )

  -- WHAT SUCH WORDS SAY
  pub radio_words_say : WordsWithin words → StateSaid words (state_in words)
  unfolding state_of instance_of context_of
  radio_words_say w =
      let is = says words (words_readable w) in
      record {
        datalink = rw is;
        many = rw is many;
        no_instance_lem = λ t. rw (is, t);
        instance = λ t. rw (is, t);
        no_context_lem = λ t. rw (is, t);
        context = λ t. rw (is, t);
        channel = λ i h. rw (is, read_at_lem i h) (read_said words (8 + 8 * i));
      }
