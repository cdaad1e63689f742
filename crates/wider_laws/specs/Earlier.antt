-- Document 02: "Raise channels to 64 (IDs still 0 to 254) and packets to 9,000 bytes; 32 waiting stays. A store filled under the old limit must be taken over
-- unchanged." The limits before that, and any calls under any limits: both are instances of the rules as they stand now, the limits alone apart.
use Rattle.quantity.specs.declared.refusal.Refusal.{Refusal}
use Rattle.std.specs.Prelude.{ℕ, ◌≤◌, Bool, true, List, [], ◌∷◌, ◌≡◌, length, replicate, Result, Ok}
use Rattle.quantity.specs.Limits.{Limits}
use Rattle.store.specs.declared.queue.Entry.{Entry}
use Rattle.store.specs.Waiting.{waiting}
use Rattle.ips_channel_rules.specs.Rules.{ChannelCall, offer, next, withdraw}
use Rattle.ips_channel.specs.declared.state.Channel.{Channel}
use Rattle.ips_state.specs.State.{State}
use Rattle.ips_state.specs.Limits.{state_fits_under, state_fits}
use Rattle.ips_state.specs.Memory.{World, world_fits_under}
use Rattle.ips_run.specs.Run.{Call, on, radio, pace, query}
use Rattle.ips_calls.specs.Replies.{EndpointReply, reply_under}
use Rattle.ips_words_start.specs.Start.{configuration_in, fresh_words}
use Rattle.endpoint.specs.Lent.{Lent, lent, world_in, after_in_under}

-- document 01: "1 to 16 configured channels", "packet offered 40 to 1,500 bytes"
abbrev pub EARLIER-LIMITS : Limits
EARLIER-LIMITS = record { channels = 16; packet = 1500 }

-- limits that are raised, or stay
pub record Raised (narrow wide : Limits) : Type 0 where
  pub channels : narrow.channels ≤ wide.channels
  pub packet : narrow.packet ≤ wide.packet

-- ---- calls with packets of at most so many bytes
abbrev pub ShortOn : (longest : ℕ) → ChannelCall → Type 0
ShortOn longest (offer packet time) = length packet.bytes ≤ longest
ShortOn longest (next time out) = Unit {0}
ShortOn longest withdraw = Unit {0}

abbrev pub Short : (longest : ℕ) → Call → Type 0
Short longest (on id c) = ShortOn longest c
Short longest (radio time datagram) = Unit {0}
Short longest (pace time) = Unit {0}
Short longest (query out) = Unit {0}

-- what holds of each
abbrev pub Each : {A : Type 0} → (A → Type 0) → List A → Type 0
Each P [] = Unit {0}
Each P (x ∷ xs) = P x × Each P xs

-- ---- what 19 asks, "in any call that takes them": a radio message handed in, the pacer and a query take no memory
abbrev pub fits_for_under : Limits → Call → World → Bool
fits_for_under limits (on id c) w = world_fits_under limits w
fits_for_under limits (radio time datagram) w = state_fits_under limits w.state
fits_for_under limits (pace time) w = state_fits_under limits w.state
fits_for_under limits (query out) w = state_fits_under limits w.state

-- what it asked before in literal numbers, besides what it asks of any state: 16 channels, and no waiting length above 1,500
pub record EarlierWithin (s : State) : Type 0 where
  pub fits : state_fits s ≡ true
  pub few : length s.channels ≤ 16
  pub short : Each (λ (c : Channel). Each (λ (e : Entry). e.length.0 ≤ 1500) (waiting c.queue)) s.channels

-- ---- any calls, each on the words and the memory that the one before left: what is left in the end, and the replies, which have the outputs
abbrev pub after_all_under : Limits → List Call → Lent → Lent
after_all_under limits [] l = l
after_all_under limits (c ∷ cs) l = after_all_under limits cs (after_in_under limits c l)

abbrev pub replies_under : Limits → List Call → Lent → List EndpointReply
replies_under limits [] l = []
replies_under limits (c ∷ cs) l = reply_under limits c (world_in l) ∷ replies_under limits cs (after_in_under limits c l)

-- THE SAME UNDER TWO LIMITS: every reply, every output, every word and every byte of the memory
pub record SameUnder (narrow wide : Limits) (cs : List Call) (l : Lent) : Type 0 where
  pub replies : replies_under wide cs l ≡ replies_under narrow cs l
  pub lent_left : after_all_under wide cs l ≡ after_all_under narrow cs l

-- ---- a start as it was under the limits before: not refused, the words and the zeros of a fresh start, which fit under those limits
pub record StartedAsBefore (configuration memory : List ℕ) (answer : Result (Unit {0}) Refusal) (words' memory' : List ℕ) : Type 0 where
  pub answer_is : answer ≡ Ok tt
  pub words_are : words' ≡ fresh_words (configuration_in configuration)
  pub memory_is : memory' ≡ replicate (length memory) 0
  pub fits : world_fits_under EARLIER-LIMITS (world_in (lent words' memory')) ≡ true

-- ---- a store filled to its last byte under the limits before, in literal words: channel 0, plain, of 1,500 bytes, with status 1, sequence 7 and latest time 100; one
-- packet waits, of 1,500 bytes, until 200; HelloTime 5,000 and silence limit 9,000, no time yet; the statuses by default
abbrev pub filled_words : List ℕ
filled_words = 5 ∷ 1 ∷ 0 ∷ 0 ∷ 0 ∷ 0 ∷ 0 ∷ 0 ∷ 5000 ∷ 9000 ∷ 0 ∷ 0 ∷ 0 ∷ 0 ∷ 0 ∷ 0 ∷ 1500 ∷ 1 ∷ 1 ∷ 0 ∷ 0 ∷ 7 ∷ 100 ∷ 1 ∷ 1500 ∷ 200 ∷ replicate 62 0
