-- What a record adds at the place of a count is what the count counts of it. Assumes nothing.
use Rattle.std.specs.Prelude.{Option, Some, None}
use mathlib.Core.Path.{◌≡◌, refl, sym, ap, ◌∙◌}
use mathlib.Core.Bool.{Bool, true, false, cond}
use mathlib.Core.List.{List, [], ◌∷◌, ◌++◌}
use Prim.Native.Nat.{ℕ, zero, suc, ◌+◌, ◌*◌, ◌≤◌, ◌<◌}
use native.Mathlib.Omega.{arith}
use borrow.Author.Tests.{eq-eqb, ne_eqb, eqb-true, eqb-false}
use lib.Dec.{eqb}
use lib.ListN.{length, get_or, length-set}
use lib.Seq.{get_or-set_same, get_or-set_other}
use Rattle.meaning.specs.declared.message.End.{End}
use Rattle.meaning.specs.declared.message.Window.{Window}
use Rattle.acceptance.specs.Numbers.{OfReading}
use Rattle.census.specs.Adding.{MOST, plus, Add, to, add_at, add_all}
use Rattle.census.specs.Outcomes.{Reading, refused, control, carried, astray, Outcome, skipped, message}
use Rattle.census.specs.Places.{RECORDS, SKIPPED, REFUSALS, PACKETS, BYTES, WINDOWS, end_place, window_adds, windows_from, granted_adds, reading_adds, adds_of}
use Rattle.census.specs.Counts.{one, is_given, window_in, Count, all, skips, messages, refusals, packets, bytes, windows, place_of, amount_of, Counted}

-- ---- the amount that is added at a place

unfoldable pub amount_in : ℕ → List Add → ℕ
amount_in place [] = 0
amount_in place (add ∷ adds) = cond (eqb add.place place) add.amount 0 + amount_in place adds

-- a count after all that is added
pub plus_plus : (a b c : ℕ) → plus (plus a b) c ≡ plus a (b + c)
plus_plus a b c = omega arith

pub added : (adds : List Add) (counts : List ℕ) (place : ℕ) → place < length counts → get_or counts place 0 ≤ MOST
    → get_or (add_all adds counts) place 0 ≡ plus (get_or counts place 0) (amount_in place adds)
unfolding add_all amount_in
added [] counts place h m = omega arith
added (add ∷ adds) counts place h m = go (added adds (add_at counts add.place add.amount) place) (eqb add.place place) refl
  where
    counts' : List ℕ
    counts' = add_at counts add.place add.amount

    h' : place < length counts'
    h' = simp length-set h

    go : (place < length counts' → get_or counts' place 0 ≤ MOST → get_or (add_all adds counts') place 0 ≡ plus (get_or counts' place 0) (amount_in place adds))
        → (b : Bool) → eqb add.place place ≡ b
        → get_or (add_all adds counts') place 0 ≡ plus (get_or counts place 0) (cond b add.amount 0 + amount_in place adds)
    go later true e =
        let same : add.place ≡ place = eqb-true add.place place e in
        let now : get_or counts' place 0 ≡ plus (get_or counts place 0) add.amount = rw same (get_or-set_same counts place (plus (get_or counts place 0) add.amount) 0 h) in
        later h' (rw now (omega arith)) ∙ rw now (plus_plus (get_or counts place 0) add.amount (amount_in place adds))
    go later false e =
        let other : place ≡ add.place → ⊥ = λ q. eqb-false add.place place e (sym q) in
        let now : get_or counts' place 0 ≡ get_or counts place 0 = get_or-set_other counts add.place place (plus (get_or counts add.place 0) add.amount) 0 other in
        later h' (rw now m) ∙ rw now (omega arith)

-- ---- at a place or beside it

module _ (place : ℕ) (adds : List Add) where
  hit : (amount : ℕ) → amount_in place (to place amount ∷ adds) ≡ amount + amount_in place adds
  unfolding amount_in
  hit amount = rw (eq-eqb place place refl)

  miss : (other amount : ℕ) → (other ≡ place → ⊥) → amount_in place (to other amount ∷ adds) ≡ amount_in place adds
  unfolding amount_in
  miss other amount n = rw (ne_eqb other place n) (omega arith)

none : (place : ℕ) → amount_in place [] ≡ 0
unfolding amount_in
none place = refl

-- ---- the windows of a table

window_beside : (place channel : ℕ) (window : Option Window) (adds : List Add) → (WINDOWS + 3 * channel ≡ place → ⊥)
    → amount_in place (window_adds channel window ++ adds) ≡ amount_in place adds
window_beside place channel None adds n = refl
window_beside place channel (Some Window.Empty) adds n = refl
window_beside place channel (Some (Window.Given w)) adds n = miss place adds (WINDOWS + 3 * channel) 1 n

windows_beside : (place i : ℕ) (cells : List (Option Window)) → ((channel : ℕ) → i ≤ channel → WINDOWS + 3 * channel ≡ place → ⊥) → amount_in place (windows_from i cells) ≡ 0
unfolding windows_from
windows_beside place i [] n = none place
windows_beside place i (cell ∷ cells) n =
    window_beside place i cell (windows_from (suc i) cells) (n i (omega arith))
    ∙ windows_beside place (suc i) cells (λ channel l. n channel (omega arith))

window_here : (channel : ℕ) (window : Option Window) (adds : List Add)
    → amount_in (WINDOWS + 3 * channel) (window_adds channel window ++ adds) ≡ one (is_given window) + amount_in (WINDOWS + 3 * channel) adds
window_here channel None adds = omega arith
window_here channel (Some Window.Empty) adds = omega arith
window_here channel (Some (Window.Given w)) adds = hit (WINDOWS + 3 * channel) adds 1

windows_at : (i c : ℕ) (cells : List (Option Window)) → amount_in (WINDOWS + 3 * (i + c)) (windows_from i cells) ≡ one (is_given (window_in c cells))
unfolding windows_from
windows_at i c [] = none (WINDOWS + 3 * (i + c))
windows_at i zero (cell ∷ cells) =
    let same : i + 0 ≡ i = omega arith in
    rw same
    (window_here i cell (windows_from (suc i) cells)
    ∙ ap (λ (n : ℕ). one (is_given cell) + n) (windows_beside (WINDOWS + 3 * i) (suc i) cells (λ channel l e. omega arith))
    ∙ omega arith)
windows_at i (suc c) (cell ∷ cells) =
    let next : i + suc c ≡ suc i + c = omega arith in
    window_beside (WINDOWS + 3 * (i + suc c)) i cell (windows_from (suc i) cells) (λ e. omega arith)
    ∙ rw next (windows_at (suc i) c cells)

-- ---- a record whose refusal is one of a reader's

abbrev pub Fair : Outcome → Type 0
Fair skipped = Unit {0}
Fair (message end (refused number)) = OfReading number
Fair (message end (control stated)) = Unit {0}
Fair (message end (carried channel size)) = Unit {0}
Fair (message end astray) = ⊥

end_range : (end : End) → (2 ≤ end_place end) × (end_place end ≤ 3)
end_range End.Ips = (omega arith, omega arith)
end_range End.Radio = (omega arith, omega arith)

-- what is read adds nothing at the first places
low : (place : ℕ) → place < 4 → (end : End) (reading : Reading) → Fair (message end reading) → amount_in place (reading_adds end reading) ≡ 0
low place h end (refused number) f = miss place [] (REFUSALS + number) 1 (λ e. omega (arith, f)) ∙ none place
low place h End.Ips (control stated) f = none place
low place h End.Radio (control stated) f = windows_beside place 0 stated.windows (λ channel l e. omega arith)
low place h end (carried channel size) f =
    miss place (to (BYTES + 3 * channel) size ∷ []) (PACKETS + 3 * channel) 1 (λ e. omega arith)
    ∙ miss place [] (BYTES + 3 * channel) size (λ e. omega arith)
    ∙ none place
low place h end astray f = none place

-- behind the first places only what is read adds
high : (place : ℕ) → 4 ≤ place → (end : End) (reading : Reading) → amount_in place (adds_of (message end reading)) ≡ amount_in place (reading_adds end reading)
high place h end reading =
    let k = end_range end in
    miss place (to (end_place end) 1 ∷ reading_adds end reading) RECORDS 1 (λ e. omega arith)
    ∙ miss place (reading_adds end reading) (end_place end) 1 (λ e. omega arith)

high_skipped : (place : ℕ) → 2 ≤ place → amount_in place (adds_of skipped) ≡ 0
high_skipped place h = miss place (to SKIPPED 1 ∷ []) RECORDS 1 (λ e. omega arith) ∙ miss place [] SKIPPED 1 (λ e. omega arith) ∙ none place

-- one amount for a place, or for another
alone : (place other amount : ℕ) (b : Bool) → eqb other place ≡ b → amount_in place (to other amount ∷ []) ≡ cond b amount 0
alone place other amount true e = rw (eqb-true other place e) (hit place [] amount ∙ ap (λ (n : ℕ). amount + n) (none place) ∙ omega arith)
alone place other amount false e = miss place [] other amount (eqb-false other place e) ∙ none place

-- the same test on numbers that stand so far behind
same_test : (a b c d : ℕ) → (a ≡ b → c ≡ d) → (c ≡ d → a ≡ b) → eqb a b ≡ eqb c d
same_test a b c d f g = go (eqb c d) refl
  where
    go : (t : Bool) → eqb c d ≡ t → eqb a b ≡ t
    go true e = eq-eqb a b (g (eqb-true c d e))
    go false e = ne_eqb a b (λ q. eqb-false c d e (f q))

-- ---- each count

all_is : (outcome : Outcome) → Fair outcome → amount_in RECORDS (adds_of outcome) ≡ 1
unfolding amount_in
all_is skipped f = refl
all_is (message End.Ips reading) f = ap (λ (n : ℕ). 1 + (0 + n)) (low 0 (omega arith) End.Ips reading f)
all_is (message End.Radio reading) f = ap (λ (n : ℕ). 1 + (0 + n)) (low 0 (omega arith) End.Radio reading f)

skips_is : (outcome : Outcome) → Fair outcome → amount_in SKIPPED (adds_of outcome) ≡ amount_of skips outcome
unfolding amount_in
skips_is skipped f = refl
skips_is (message End.Ips reading) f = ap (λ (n : ℕ). 0 + (0 + n)) (low 1 (omega arith) End.Ips reading f)
skips_is (message End.Radio reading) f = ap (λ (n : ℕ). 0 + (0 + n)) (low 1 (omega arith) End.Radio reading f)

messages_is : (own : End) (outcome : Outcome) → Fair outcome → amount_in (end_place own) (adds_of outcome) ≡ amount_of (messages own) outcome
unfolding amount_in
messages_is End.Ips skipped f = refl
messages_is End.Radio skipped f = refl
messages_is End.Ips (message End.Ips reading) f = ap (λ (n : ℕ). 0 + (1 + n)) (low 2 (omega arith) End.Ips reading f)
messages_is End.Ips (message End.Radio reading) f = ap (λ (n : ℕ). 0 + (0 + n)) (low 2 (omega arith) End.Radio reading f)
messages_is End.Radio (message End.Ips reading) f = ap (λ (n : ℕ). 0 + (0 + n)) (low 3 (omega arith) End.Ips reading f)
messages_is End.Radio (message End.Radio reading) f = ap (λ (n : ℕ). 0 + (1 + n)) (low 3 (omega arith) End.Radio reading f)

refusals_is : (number : ℕ) → 1 ≤ number → number ≤ 11 → (outcome : Outcome) → Fair outcome → amount_in (REFUSALS + number) (adds_of outcome) ≡ amount_of (refusals number) outcome
refusals_is number l m skipped f = high_skipped (REFUSALS + number) (omega arith)
refusals_is number l m (message end (refused given)) f =
    high (REFUSALS + number) (omega arith) end (refused given)
    ∙ alone (REFUSALS + number) (REFUSALS + given) 1 (eqb given number) (same_test (REFUSALS + given) (REFUSALS + number) given number (λ e. omega arith) (λ e. omega arith))
refusals_is number l m (message End.Ips (control stated)) f = high (REFUSALS + number) (omega arith) End.Ips (control stated) ∙ none (REFUSALS + number)
refusals_is number l m (message End.Radio (control stated)) f =
    high (REFUSALS + number) (omega arith) End.Radio (control stated)
    ∙ windows_beside (REFUSALS + number) 0 stated.windows (λ channel q e. omega arith)
refusals_is number l m (message end (carried channel size)) f =
    high (REFUSALS + number) (omega arith) end (carried channel size)
    ∙ miss (REFUSALS + number) (to (BYTES + 3 * channel) size ∷ []) (PACKETS + 3 * channel) 1 (λ e. omega arith)
    ∙ miss (REFUSALS + number) [] (BYTES + 3 * channel) size (λ e. omega arith)
    ∙ none (REFUSALS + number)
refusals_is number l m (message end astray) f = absurd f

-- a place of a channel's
module _ (place : ℕ) (h : 15 ≤ place) where
  refused_beside : (end : End) (number : ℕ) → OfReading number → amount_in place (adds_of (message end (refused number))) ≡ 0
  refused_beside end number f = high place (omega arith) end (refused number) ∙ miss place [] (REFUSALS + number) 1 (λ e. omega (arith, f)) ∙ none place

  granted_beside : ((channel : ℕ) → WINDOWS + 3 * channel ≡ place → ⊥) → (end : End) (cells : List (Option Window)) → amount_in place (granted_adds end cells) ≡ 0
  granted_beside n End.Ips cells = none place
  granted_beside n End.Radio cells = windows_beside place 0 cells (λ channel l. n channel)

packets_is : (channel : ℕ) (outcome : Outcome) → Fair outcome → amount_in (PACKETS + 3 * channel) (adds_of outcome) ≡ amount_of (packets channel) outcome
packets_is channel skipped f = high_skipped (PACKETS + 3 * channel) (omega arith)
packets_is channel (message end (refused given)) f = refused_beside (PACKETS + 3 * channel) (omega arith) end given f
packets_is channel (message end (control stated)) f =
    high (PACKETS + 3 * channel) (omega arith) end (control stated)
    ∙ granted_beside (PACKETS + 3 * channel) (omega arith) (λ other e. omega arith) end stated.windows
packets_is channel (message end (carried own size)) f = high place (omega arith) end (carried own size) ∙ go (eqb own channel) refl
  where
    place : ℕ
    place = PACKETS + 3 * channel

    second : List Add
    second = to (BYTES + 3 * own) size ∷ []

    rest : amount_in place second ≡ 0
    rest = miss place [] (BYTES + 3 * own) size (λ e. omega arith) ∙ none place

    go : (b : Bool) → eqb own channel ≡ b → amount_in place (to (PACKETS + 3 * own) 1 ∷ second) ≡ one b
    go true e =
        let same : own ≡ channel = eqb-true own channel e in
        let here : PACKETS + 3 * own ≡ place = omega arith in
        rw here (hit place second 1 ∙ ap (λ (n : ℕ). 1 + n) rest)
    go false e = let other : own ≡ channel → ⊥ = eqb-false own channel e in miss place second (PACKETS + 3 * own) 1 (λ q. other (omega arith)) ∙ rest
packets_is channel (message end astray) f = absurd f

bytes_is : (channel : ℕ) (outcome : Outcome) → Fair outcome → amount_in (BYTES + 3 * channel) (adds_of outcome) ≡ amount_of (bytes channel) outcome
bytes_is channel skipped f = high_skipped (BYTES + 3 * channel) (omega arith)
bytes_is channel (message end (refused given)) f = refused_beside (BYTES + 3 * channel) (omega arith) end given f
bytes_is channel (message end (control stated)) f =
    high (BYTES + 3 * channel) (omega arith) end (control stated)
    ∙ granted_beside (BYTES + 3 * channel) (omega arith) (λ other e. omega arith) end stated.windows
bytes_is channel (message end (carried own size)) f =
    high (BYTES + 3 * channel) (omega arith) end (carried own size)
    ∙ miss (BYTES + 3 * channel) (to (BYTES + 3 * own) size ∷ []) (PACKETS + 3 * own) 1 (λ e. omega arith)
    ∙ alone (BYTES + 3 * channel) (BYTES + 3 * own) size (eqb own channel) (same_test (BYTES + 3 * own) (BYTES + 3 * channel) own channel (λ e. omega arith) (λ e. omega arith))
bytes_is channel (message end astray) f = absurd f

windows_is : (channel : ℕ) (outcome : Outcome) → Fair outcome → amount_in (WINDOWS + 3 * channel) (adds_of outcome) ≡ amount_of (windows channel) outcome
windows_is channel skipped f = high_skipped (WINDOWS + 3 * channel) (omega arith)
windows_is channel (message end (refused given)) f = refused_beside (WINDOWS + 3 * channel) (omega arith) end given f
windows_is channel (message End.Ips (control stated)) f = high (WINDOWS + 3 * channel) (omega arith) End.Ips (control stated) ∙ none (WINDOWS + 3 * channel)
windows_is channel (message End.Radio (control stated)) f =
    let same : 0 + channel ≡ channel = omega arith in
    high (WINDOWS + 3 * channel) (omega arith) End.Radio (control stated)
    ∙ sym (ap (λ (n : ℕ). amount_in (WINDOWS + 3 * n) (windows_from 0 stated.windows)) same)
    ∙ windows_at 0 channel stated.windows
windows_is channel (message end (carried own size)) f =
    high (WINDOWS + 3 * channel) (omega arith) end (carried own size)
    ∙ miss (WINDOWS + 3 * channel) (to (BYTES + 3 * own) size ∷ []) (PACKETS + 3 * own) 1 (λ e. omega arith)
    ∙ miss (WINDOWS + 3 * channel) [] (BYTES + 3 * own) size (λ e. omega arith)
    ∙ none (WINDOWS + 3 * channel)
windows_is channel (message end astray) f = absurd f

pub counted : (count : Count) → Counted count → (outcome : Outcome) → Fair outcome → amount_in (place_of count) (adds_of outcome) ≡ amount_of count outcome
counted all k outcome f = all_is outcome f
counted skips k outcome f = skips_is outcome f
counted (messages end) k outcome f = messages_is end outcome f
counted (refusals number) k outcome f = refusals_is number k.0 k.1 outcome f
counted (packets channel) k outcome f = packets_is channel outcome f
counted (bytes channel) k outcome f = bytes_is channel outcome f
counted (windows channel) k outcome f = windows_is channel outcome f
