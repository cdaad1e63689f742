-- What the writes of `control` and `data` leave. Assumes nothing.
use Prim.Native.Nat.{ℕ, suc, ◌+◌, ◌≤◌, ◌<◌}
use mathlib.Core.Path.{◌≡◌, sym, ap, ◌∙◌}
use mathlib.Core.List.{List, [], ◌∷◌, ◌++◌, append_assoc, append-nil}
use native.Mathlib.Numerals.{add-one}
use native.Mathlib.Omega.{arith}
use lib.ListN.{length, take, drop, set, length-append, length-take, drop_of_length-le}
use lib.Seq.{sets-eq, take_all, take_at}
use Rattle.quantity.specs.Limits.{CHANNEL-IDS}
use Rattle.lent_messages.specs.Layout.{CONTROL-HEAD, CHANNEL-WORDS, CONTROL-WORDS, DATA-WORDS}
use Rattle.meaning.specs.declared.message.Control.{Control}
use Rattle.lent_messages.specs.Words.{head_words, words_at, joined, channel_start, control_words}

-- eight words one behind another, from the first on
pub head_set : (w : List ℕ) (a b c d e f g h : ℕ) → CONTROL-HEAD ≤ length w
    → set (set (set (set (set (set (set (set w 0 a) 1 b) 2 c) 3 d) 4 e) 5 f) 6 g) 7 h ≡ (a ∷ b ∷ c ∷ d ∷ e ∷ f ∷ g ∷ h ∷ []) ++ drop CONTROL-HEAD w
head_set w a b c d e f g h long = sets-eq (a ∷ b ∷ c ∷ d ∷ e ∷ f ∷ g ∷ h ∷ []) w 0 (omega arith)

-- six words one behind another, from a place on
pub channel_set : (w : List ℕ) (from a b c d e f : ℕ) → from + CHANNEL-WORDS ≤ length w
    → set (set (set (set (set (set w (from + 0) a) (from + 1) b) (from + 2) c) (from + 3) d) (from + 4) e) (from + 5) f
    ≡ take from w ++ ((a ∷ b ∷ c ∷ d ∷ e ∷ f ∷ []) ++ drop (from + CHANNEL-WORDS) w)
channel_set w from a b c d e f long =
    let first : from + 0 ≡ from = omega arith in
    let second : from + 1 ≡ suc from = omega arith in
    let third : from + 2 ≡ suc (suc from) = omega arith in
    let fourth : from + 3 ≡ suc (suc (suc from)) = omega arith in
    let fifth : from + 4 ≡ suc (suc (suc (suc from))) = omega arith in
    let sixth : from + 5 ≡ suc (suc (suc (suc (suc from)))) = omega arith in
    rw (first, second, third, fourth, fifth, sixth) (sets-eq (a ∷ b ∷ c ∷ d ∷ e ∷ f ∷ []) w from (omega arith) ∙ append_assoc (take from w) (a ∷ b ∷ c ∷ d ∷ e ∷ f ∷ []) (drop (from + CHANNEL-WORDS) w))

-- where the loop over the Channel IDs stands: the words of those passed stand behind the first words
pub record Going (words_of : ℕ → List ℕ) (head w : List ℕ) (id : ℕ) : Type 0 where
  pub long : length w ≡ CONTROL-WORDS
  pub saved : take (channel_start id) w ≡ head ++ joined words_of id

module _ (words_of : ℕ → List ℕ) (head : List ℕ) where
  pub going_start : (w : List ℕ) → length w ≡ CONTROL-WORDS → head ≡ take CONTROL-HEAD w → Going words_of head w 0
  unfolding joined
  going_start w long same = record { long = long; saved = rw same (sym (append-nil (take CONTROL-HEAD w))) }

  pub going_on : (w w' : List ℕ) (from id : ℕ) → Going words_of head w id → id < CHANNEL-IDS → from ≡ channel_start id → length (words_of id) ≡ CHANNEL-WORDS → length w' ≡ length w
      → w' ≡ take from w ++ (words_of id ++ drop (from + CHANNEL-WORDS) w) → Going words_of head w' (id + 1)
  unfolding joined
  going_on w w' from id g more place six same e =
      let taken : length (take from w) ≡ from = simp length-take (omega (arith, g.long)) in
      let reached : length (take from w ++ words_of id) ≡ from + CHANNEL-WORDS = simp length-append (omega arith) in
      let next : channel_start (id + 1) ≡ from + CHANNEL-WORDS = omega arith in
      record {
        long = same ∙ g.long;
        saved =
            rw (next, e, sym (append_assoc (take from w) (words_of id) (drop (from + CHANNEL-WORDS) w)), take_at (take from w ++ words_of id) (drop (from + CHANNEL-WORDS) w) (from + CHANNEL-WORDS) reached, place, g.saved, add-one id)
            (append_assoc head (joined words_of id) (words_of id));
      }

  pub going_end : (w : List ℕ) (id : ℕ) → Going words_of head w id → id ≤ CHANNEL-IDS → CHANNEL-IDS ≤ id → w ≡ head ++ joined words_of CHANNEL-IDS
  going_end w id g most done =
      let last : id ≡ CHANNEL-IDS = omega arith in
      let whole : length w ≤ channel_start id = omega (arith, g.long) in
      sym (take_all (channel_start id) w whole) ∙ g.saved ∙ ap (λ (n : ℕ). head ++ joined words_of n) last

pub whole_saved : (m : Control) (w w' w'' : List ℕ) → w' ≡ head_words m.datalink m.instance m.context ++ drop CONTROL-HEAD w
    → w'' ≡ take CONTROL-HEAD w' ++ joined (words_at m.statuses m.sequences m.windows) CHANNEL-IDS → w'' ≡ control_words m
unfolding control_words
whole_saved m w w' w'' e f = rw (f, e)

-- eleven words, all that there are
pub data_set : (w : List ℕ) (a b c d e f g h i j k : ℕ) → length w ≡ DATA-WORDS
    → set (set (set (set (set (set (set (set (set (set (set w 0 a) 1 b) 2 c) 3 d) 4 e) 5 f) 6 g) 7 h) 8 i) 9 j) 10 k
    ≡ a ∷ b ∷ c ∷ d ∷ e ∷ f ∷ g ∷ h ∷ i ∷ j ∷ k ∷ []
data_set w a b c d e f g h i j k long =
    let words : List ℕ = a ∷ b ∷ c ∷ d ∷ e ∷ f ∷ g ∷ h ∷ i ∷ j ∷ k ∷ [] in
    sets-eq words w 0 (omega arith) ∙ rw (drop_of_length-le w {i = DATA-WORDS} (omega arith)) (append-nil words)
