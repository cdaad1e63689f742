-- One channel in its words, and all of them one after another. Assumes nothing.
use Rattle.std.specs.Prelude.{Option, Some, None}
use Rattle.quantity.specs.declared.count.FlowSequence.{FlowSequence}
use Prim.Native.Nat.{ℕ, zero, suc, ◌+◌, ◌*◌, ◌≤◌, ◌<◌}
use mathlib.Core.Bool.{Bool, true, false, cond, and-eq-true_iff}
use mathlib.Core.List.{List, [], ◌∷◌, ◌++◌, append_assoc}
use mathlib.Core.Path.{◌≡◌, refl, sym, ap, ◌∙◌}
use native.Mathlib.Omega.{arith}
use borrow.Author.Tests.{leb-true, eqb-true}
use lib.Dec.{eqb, leb}
use lib.ListN.{length, take, drop, get_or, set, length-append, length-take, length-drop, take-append-drop, drop_of_length-le}
use lib.Seq.{sets, sets-eq, take_all, take-append-add, drop-append-add, drop-drop}
use mir.Val.{bool_byte}
use Rattle.facts.specs.Tables.{tabulate}
use Rattle.radio_end_state.specs.declared.channel.Channel.{Channel}
use Rattle.radio_end_state.specs.State.{no_channel}
use Rattle.radio_end_words.specs.Words.{SLOT, CONTROLLED, PLAIN, UNHEARD, HEARD, KIND, HIGHEST-TAG, HIGHEST-VALUE, word, highest_of, channel_in, highest_spelled, spelled, highest_tag, highest_value, channel_words, slots_of}

pub bool_byte_lem : (b : Bool) → bool_byte b ≡ cond b CONTROLLED PLAIN
bool_byte_lem true = refl
bool_byte_lem false = refl

-- what the writes leave
pub all_saved : (w : List ℕ) (c : Channel) (watermark throughput queued tag value : ℕ) → length w ≡ SLOT
    → watermark ≡ c.setting.watermark.0 → throughput ≡ c.setting.throughput.0 → queued ≡ c.queued.0 → tag ≡ highest_tag c.highest → value ≡ highest_value c.highest
    → sets w 0 (c.setting.id ∷ bool_byte c.setting.controlled ∷ watermark ∷ throughput ∷ c.status ∷ queued ∷ tag ∷ value ∷ []) ≡ channel_words c
unfolding channel_words
all_saved w c watermark throughput queued tag value l e1 e2 e3 e4 e5 =
    sets-eq (c.setting.id ∷ bool_byte c.setting.controlled ∷ watermark ∷ throughput ∷ c.status ∷ queued ∷ tag ∷ value ∷ []) w 0 (omega arith)
    ∙ rw (drop_of_length-le w {i = SLOT} (omega arith), bool_byte_lem c.setting.controlled, e1, e2, e3, e4, e5)

kind_back : (b : Bool) → eqb (cond b CONTROLLED PLAIN) CONTROLLED ≡ b
kind_back true = refl
kind_back false = refl

highest_back : (h : Option FlowSequence) → highest_of (highest_tag h) (highest_value h) ≡ h
unfolding highest_of
highest_back None = refl
highest_back (Some sequence) = refl

-- the channel that is saved is the one that is loaded
pub channel_back : (c : Channel) → channel_in (channel_words c) ≡ c
unfolding channel_in channel_words
channel_back c = rw (kind_back c.setting.controlled, highest_back c.highest)

pub channel_length : (c : Channel) → length (channel_words c) ≡ SLOT
unfolding channel_words
channel_length c = refl

highest_says : (h : Option FlowSequence) → highest_spelled (highest_tag h) (highest_value h) ≡ true
highest_says None = refl
highest_says (Some sequence) = refl

kind_says : (b : Bool) → leb (cond b CONTROLLED PLAIN) CONTROLLED ≡ true
kind_says true = refl
kind_says false = refl

pub channel_says : (c : Channel) → spelled (channel_words c) ≡ true
unfolding spelled channel_words
channel_says c = rw (kind_says c.setting.controlled, highest_says c.highest)

-- ---- and what words say is written as these words
kind_forth : (kind : ℕ) → kind ≤ CONTROLLED → cond (eqb kind CONTROLLED) CONTROLLED PLAIN ≡ kind
kind_forth zero h = refl
kind_forth (suc zero) h = refl
kind_forth (suc (suc n)) h = absurd (omega arith)

highest_forth : (tag value : ℕ) → highest_spelled tag value ≡ true → (highest_tag (highest_of tag value) ≡ tag) × (highest_value (highest_of tag value) ≡ value)
unfolding highest_of
highest_forth tag value e = go (eqb tag UNHEARD) refl
  where
    go : (b : Bool) → eqb tag UNHEARD ≡ b → (highest_tag (highest_of tag value) ≡ tag) × (highest_value (highest_of tag value) ≡ value)
    go true f =
        let zero-value : eqb value 0 ≡ true = rw f at e in
        (rw f (sym (eqb-true tag UNHEARD f)), rw f (sym (eqb-true value 0 zero-value)))
    go false f =
        let is-heard : eqb tag HEARD ≡ true = rw f at e in
        (rw f (sym (eqb-true tag HEARD is-heard)), rw f)

-- the first eight words, one by one
pub eight : (w : List ℕ) → SLOT ≤ length w
    → take SLOT w ≡ word w 0 ∷ word w 1 ∷ word w 2 ∷ word w 3 ∷ word w 4 ∷ word w 5 ∷ word w 6 ∷ word w 7 ∷ []
eight [] l = absurd (omega arith)
eight (a ∷ []) l = absurd (omega arith)
eight (a ∷ b ∷ []) l = absurd (omega arith)
eight (a ∷ b ∷ c ∷ []) l = absurd (omega arith)
eight (a ∷ b ∷ c ∷ d ∷ []) l = absurd (omega arith)
eight (a ∷ b ∷ c ∷ d ∷ e ∷ []) l = absurd (omega arith)
eight (a ∷ b ∷ c ∷ d ∷ e ∷ f ∷ []) l = absurd (omega arith)
eight (a ∷ b ∷ c ∷ d ∷ e ∷ f ∷ g ∷ []) l = absurd (omega arith)
eight (a ∷ b ∷ c ∷ d ∷ e ∷ f ∷ g ∷ h ∷ w) l = refl

pub channel_forth : (w : List ℕ) → length w ≡ SLOT → spelled w ≡ true → channel_words (channel_in w) ≡ w
unfolding channel_words channel_in spelled
channel_forth w l e =
    let both = (and-eq-true_iff (leb (word w KIND) CONTROLLED) _).0 e in
    let highest = highest_forth (word w HIGHEST-TAG) (word w HIGHEST-VALUE) both.1 in
    rw (kind_forth (word w KIND) (leb-true (word w KIND) CONTROLLED both.0), highest.0, highest.1) (sym (eight w (omega arith)) ∙ take_all SLOT w (omega arith))

-- ---- channels one after another
pub slots_length : (cs : List Channel) → length (slots_of cs) ≡ SLOT * length cs
unfolding slots_of
slots_length [] = refl
slots_length (c ∷ cs) = rw (length-append (channel_words c) (slots_of cs), channel_length c, slots_length cs) (omega arith)

drop_slots : (c : Channel) (rest : List ℕ) (n : ℕ) → drop (SLOT + n) (channel_words c ++ rest) ≡ drop n rest
unfolding channel_words
drop_slots c rest n = drop-append-add (channel_words c) rest n

take_slots : (c : Channel) (rest : List ℕ) (n : ℕ) → take (SLOT + n) (channel_words c ++ rest) ≡ channel_words c ++ take n rest
unfolding channel_words
take_slots c rest n = take-append-add (channel_words c) rest n

-- the words of one of them
pub slot_of : (cs : List Channel) (i : ℕ) → i < length cs → take SLOT (drop (SLOT * i) (slots_of cs)) ≡ channel_words (get_or cs i no_channel)
unfolding slots_of channel_words
slot_of [] i h = absurd (omega arith)
slot_of (c ∷ cs) zero h = refl
slot_of (c ∷ cs) (suc i) h =
    let more : SLOT * suc i ≡ SLOT + SLOT * i = omega arith in
    rw (more, drop_slots c (slots_of cs) (SLOT * i)) (slot_of cs i (omega arith))

-- one of them replaced
pub slots_put : (cs : List Channel) (i : ℕ) (c : Channel) → i < length cs
    → take (SLOT * i) (slots_of cs) ++ (channel_words c ++ drop (SLOT * i + SLOT) (slots_of cs)) ≡ slots_of (set cs i c)
unfolding slots_of
slots_put [] i c h = absurd (omega arith)
slots_put (d ∷ cs) zero c h = ap (λ (rest : List ℕ). channel_words c ++ rest) (drop_slots d (slots_of cs) 0)
slots_put (d ∷ cs) (suc i) c h =
    let first : SLOT * suc i ≡ SLOT + SLOT * i = omega arith in
    let second : SLOT + SLOT * i + SLOT ≡ SLOT + (SLOT * i + SLOT) = omega arith in
    rw (first, second, take_slots d (slots_of cs) (SLOT * i), drop_slots d (slots_of cs) (SLOT * i + SLOT), append_assoc) (ap (λ (rest : List ℕ). channel_words d ++ rest) (slots_put cs i c (omega arith)))

-- words that say channels are theirs
pub slots_forth : (n : ℕ) (w : List ℕ) → length w ≡ SLOT * n → ((i : ℕ) → i < n → spelled (take SLOT (drop (SLOT * i) w)) ≡ true)
    → slots_of (tabulate n (λ i. channel_in (take SLOT (drop (SLOT * i) w)))) ≡ w
unfolding slots_of tabulate
slots_forth zero [] l says = refl
slots_forth zero (a ∷ w) l says = absurd (omega arith)
slots_forth (suc n) w l says =
    rw (channel_forth (take SLOT w) (simp length-take (omega arith)) (says 0 (omega arith)))
    (ap (λ (cs : List Channel). take SLOT w ++ slots_of cs) (ap (tabulate n) (λ i k. behind k i))
    ∙ ap (λ (rest : List ℕ). take SLOT w ++ rest) (slots_forth n (drop SLOT w) (simp length-drop (omega arith)) spells)
    ∙ take-append-drop SLOT w)
  where
    place : (k : ℕ) → drop (SLOT * suc k) w ≡ drop (SLOT * k) (drop SLOT w)
    place k =
        let more : SLOT * suc k ≡ SLOT + SLOT * k = omega arith in
        rw more (sym (drop-drop (SLOT * k) SLOT w))

    behind : (k : ℕ) → channel_in (take SLOT (drop (SLOT * suc k) w)) ≡ channel_in (take SLOT (drop (SLOT * k) (drop SLOT w)))
    behind k = rw (place k)

    spells : (i : ℕ) → i < n → spelled (take SLOT (drop (SLOT * i) (drop SLOT w))) ≡ true
    spells i h = rw (← place i) (says (suc i) (omega arith))
