-- Numbers 19 and 23 of a start without an order of tests, and what it starts with, in literal numbers. The configuration has the Datalink ID, the count of channels, and of each channel
-- its ID, its kind, its watermark and its throughput per period.
use Rattle.quantity.specs.declared.refusal.Refusal.{Refusal}
use Rattle.std.specs.Prelude.{ℕ, ◌+◌, ◌*◌, ◌≤◌, ◌<◌, true, false, List, ◌⊎◌, ◌≡◌, length, get_or, Result, Ok, Err}
use Rattle.radio_end_state.specs.State.{Configuration, no_setting}

-- not "channel count, ID 255, an ID twice, no channel 0"; words as many as the state's
pub record StartsExactly (w words : List ℕ) : Type 0 where
  pub long : length w ≡ 2 + 4 * get_or w 1 0
  pub datalink : get_or w 0 0 < 256
  pub some : 1 ≤ get_or w 1 0
  pub few : get_or w 1 0 ≤ 64
  pub ids : (i : ℕ) → i < get_or w 1 0 → get_or w (2 + 4 * i) 0 < 255
  pub kinds : (i : ℕ) → i < get_or w 1 0 → get_or w (2 + 4 * i + 1) 0 ≤ 1
  pub apart : (i j : ℕ) → i < get_or w 1 0 → j < get_or w 1 0 → get_or w (2 + 4 * i) 0 ≡ get_or w (2 + 4 * j) 0 → i ≡ j
  pub primary : ℕ
  pub primary_inside : primary < get_or w 1 0
  pub primary_is : get_or w (2 + 4 * primary) 0 ≡ 0
  pub room : length words ≡ 8 + 8 * get_or w 1 0

-- document 02, §3: not "watermark or throughput above 2^31 - 1", of any channel, plain or flow-controlled
pub record AllowancesExactly (w : List ℕ) : Type 0 where
  pub watermarks : (i : ℕ) → i < get_or w 1 0 → get_or w (2 + 4 * i + 2) 0 ≤ 2147483647
  pub throughputs : (i : ℕ) → i < get_or w 1 0 → get_or w (2 + 4 * i + 3) 0 ≤ 2147483647

-- some channel that has one
pub record LargeExactly (w : List ℕ) : Type 0 where
  pub channel : ℕ
  pub inside : channel < get_or w 1 0
  pub large : (2147483647 < get_or w (2 + 4 * channel + 2) 0) ⊎ (2147483647 < get_or w (2 + 4 * channel + 3) 0)

-- EACH ANSWER OF A START, EXACTLY WHEN
pub record AnswersExactly (w words : List ℕ) (answer : Result (Unit {0}) Refusal) : Type 0 where
  pub started : answer ≡ Ok tt → StartsExactly w words × AllowancesExactly w
  pub starts : StartsExactly w words → AllowancesExactly w → answer ≡ Ok tt
  pub large : answer ≡ Err (record { number = 23; place = 0 }) → StartsExactly w words × LargeExactly w
  pub larges : StartsExactly w words → LargeExactly w → answer ≡ Err (record { number = 23; place = 0 })
  pub outside : answer ≡ Err (record { number = 19; place = 0 }) → StartsExactly w words → ⊥
  pub outsides : (StartsExactly w words → ⊥) → answer ≡ Err (record { number = 19; place = 0 })

-- WHAT THE WORDS OF A CONFIGURATION SAY: word 0 is the Datalink ID, word 1 how many channels; of each its ID, its kind (0 plain, 1 flow-controlled), watermark, throughput
pub record ConfigurationSays (w : List ℕ) (k : Configuration) : Type 0 where
  pub datalink : k.datalink.0 ≡ get_or w 0 0
  pub many : length k.settings ≡ get_or w 1 0
  pub ids : (i : ℕ) → i < get_or w 1 0 → (get_or k.settings i no_setting).id ≡ get_or w (2 + 4 * i) 0
  pub plain : (i : ℕ) → i < get_or w 1 0 → get_or w (2 + 4 * i + 1) 0 ≡ 0 → (get_or k.settings i no_setting).controlled ≡ false
  pub controlled : (i : ℕ) → i < get_or w 1 0 → get_or w (2 + 4 * i + 1) 0 ≡ 1 → (get_or k.settings i no_setting).controlled ≡ true
  pub watermarks : (i : ℕ) → i < get_or w 1 0 → (get_or k.settings i no_setting).watermark.0 ≡ get_or w (2 + 4 * i + 2) 0
  pub throughputs : (i : ℕ) → i < get_or w 1 0 → (get_or k.settings i no_setting).throughput.0 ≡ get_or w (2 + 4 * i + 3) 0
