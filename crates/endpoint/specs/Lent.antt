-- The state in lent words, and the memory lent with it: what a call finds there, and what it leaves, every word and every byte.
use Rattle.std.specs.Prelude.{ℕ, cond, List}
use Rattle.quantity.specs.Limits.{Limits, CURRENT-LIMITS}
use Rattle.ips_channel_rules.specs.Rules.{ChannelCall, unless_refused}
use Rattle.ips_state.specs.Memory.{World, index_in, channel_in}
use Rattle.ips_run.specs.Calling.{calling_under}
use Rattle.ips_run.specs.Run.{Call, on, radio, pace, query, received_in, in_time_under}
use Rattle.ips_words.specs.Words.{state_in, put_channel}
use Rattle.ips_words_radio.specs.HeardWords.{received_words, paced_words}

pub record Lent : Type 0 where
  pub words : List ℕ
  pub memory : List ℕ

abbrev pub lent : (words memory : List ℕ) → Lent
lent words memory = record { words = words; memory = memory }

-- the world that they stand for
abbrev pub world_in : Lent → World
world_in l = record { state = state_in l.words; memory = l.memory }

-- ---- a call on a channel: the channel's words are written anew, all others stay; where it is refused, all stay
unfoldable pub words_called_under : Limits → (id : ℕ) → ChannelCall → Lent → List ℕ
words_called_under limits id c l =
    let result = calling_under limits id c (world_in l) in
    let index = index_in (world_in l) id in
    unless_refused result.answer l.words (put_channel l.words index (channel_in result.world index))

-- ---- what a call leaves; of the radio's datagrams an accepted control message writes statuses and flow states, Link Instance and Context, and like a data message the
-- pacer's times; the pacer asked writes its times, and at a silence statuses and flow states. Refused by 19 or 21, neither writes a word.
unfoldable pub after_in_under : Limits → Call → Lent → Lent
after_in_under limits (on id c) l = record { words = words_called_under limits id c l; memory = (calling_under limits id c (world_in l)).world.memory }
after_in_under limits (radio time datagram) l =
    record {
      words = cond (in_time_under limits time (state_in l.words)) (received_words time (received_in (state_in l.words).datalink.id datagram) l.words) l.words;
      memory = l.memory;
    }
after_in_under limits (pace time) l = record { words = cond (in_time_under limits time (state_in l.words)) (paced_words time l.words) l.words; memory = l.memory }
after_in_under limits (query out) l = l

-- ---- the same under the limits in force
abbrev pub words_called : (id : ℕ) → ChannelCall → Lent → List ℕ
words_called id c l = words_called_under CURRENT-LIMITS id c l

abbrev pub after_in : Call → Lent → Lent
after_in c l = after_in_under CURRENT-LIMITS c l
