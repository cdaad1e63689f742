-- docs/SESSION.md, `offers NOW channels N C.. expiries N E.. lengths N L.. answers N HEX`: "Each `N` is 0 to 80 and its own: it says how many words its list has, and
-- behind `answers` for how many answers there is room". The numbers of the line are NOW, then for each of the three lists 0 for its keyword, N and the N numbers, then
-- 0 for `answers`, N and the length of HEX.
use Rattle.std.specs.Prelude.{List, ◌++◌, ℕ, ◌+◌}
use Rattle.session_read.specs.declared.offers.ListCounts.{ListCounts}
use Rattle.session_read.specs.Words.{said_from}

abbrev pub SAID-TIME : ℕ
SAID-TIME = 0

-- where each N would stand if the lists before it were empty
abbrev pub SAID-CHANNELS : ℕ
SAID-CHANNELS = 2

abbrev pub SAID-EXPIRIES : ℕ
SAID-EXPIRIES = 4

abbrev pub SAID-LENGTHS : ℕ
SAID-LENGTHS = 6

abbrev pub SAID-ANSWERS : ℕ
SAID-ANSWERS = 8

-- "Each `N` is .. its own"
unfoldable pub channel_count : (ℕ → ℕ) → ℕ
channel_count n = n SAID-CHANNELS

unfoldable pub expiry_count : (ℕ → ℕ) → ℕ
expiry_count n = n (SAID-EXPIRIES + channel_count n)

unfoldable pub length_count : (ℕ → ℕ) → ℕ
length_count n = n (SAID-LENGTHS + channel_count n + expiry_count n)

unfoldable pub answer_count : (ℕ → ℕ) → ℕ
answer_count n = n (SAID-ANSWERS + channel_count n + expiry_count n + length_count n)

unfoldable pub counts_from : (ℕ → ℕ) → ListCounts
counts_from n = record { channels = channel_count n; expiries = expiry_count n; lengths = length_count n; answers = answer_count n }

-- the three lists, each behind its N; as words they stand one behind the other
abbrev pub channels_offered : (ℕ → ℕ) → List ℕ
channels_offered n = said_from n (SAID-CHANNELS + 1) (channel_count n)

abbrev pub expiries_offered : (ℕ → ℕ) → List ℕ
expiries_offered n = said_from n (SAID-EXPIRIES + channel_count n + 1) (expiry_count n)

abbrev pub lengths_offered : (ℕ → ℕ) → List ℕ
lengths_offered n = said_from n (SAID-LENGTHS + channel_count n + expiry_count n + 1) (length_count n)

unfoldable pub lists_from : (ℕ → ℕ) → List ℕ
lists_from n = channels_offered n ++ expiries_offered n ++ lengths_offered n
