-- docs/SESSION.md, `start`: "a fresh start; the memory is as long as all stores together, or `LEN`; HelloTime and silence limit are 5000 and 9000, or `HELLO` and
-- `LIMIT`; of the statuses 8 to 15 none is operational, or those whose bit (status - 8, counted from the lowest) is set in `MASK`. Each of the three may be missing,
-- and they stand in this order only. Up to 80 channels are read, and it is for the endpoint to refuse more than it takes". The numbers of the line are ID, COUNT, four
-- for each channel, 1 or 0 for `memory`, LEN where it is said, 1 or 0 for `pace`, HELLO and LIMIT where they are said, 1 or 0 for `codes`, MASK where it is said. Those
-- of a channel are its words of a configuration: `plain` is 0 and `flow` is 1.
use Rattle.std.specs.Prelude.{cond, List, [], ◌∷◌, ◌++◌, ℕ, zero, suc, ◌+◌, ◌*◌, eqb}
use Rattle.ips_words_start.specs.Start.{CONFIGURATION-SLOT, START-SIZE, configuration_length}
use Rattle.session_read.specs.declared.start.StartWords.{StartWords}
use Rattle.session_read.specs.Words.{said_from}

abbrev pub SAID-ID : ℕ
SAID-ID = 0

abbrev pub SAID-COUNT : ℕ
SAID-COUNT = 1

abbrev pub SAID-CHANNELS : ℕ
SAID-CHANNELS = 2

-- "HelloTime and silence limit are 5000 and 9000"
abbrev pub USUAL-HELLO : ℕ
USUAL-HELLO = 5000

abbrev pub USUAL-LIMIT : ℕ
USUAL-LIMIT = 9000

-- "of the statuses 8 to 15 none is operational"
abbrev pub USUAL-CODES : ℕ
USUAL-CODES = 0

-- the place behind the numbers of the first channels
abbrev pub behind_channels : ℕ → ℕ
behind_channels count = SAID-CHANNELS + CONFIGURATION-SLOT * count

-- the length of a channel's store
abbrev pub store_said : (ℕ → ℕ) → ℕ → ℕ
store_said n index = n (behind_channels index + START-SIZE)

-- "as long as all stores together": of the first channels
unfoldable pub stores_of : (ℕ → ℕ) → ℕ → ℕ
stores_of n zero = 0
stores_of n (suc count) = stores_of n count + store_said n count

-- "Each of the three may be missing": the number so far behind a keyword where that is said, else the usual one
unfoldable pub perhaps : (ℕ → ℕ) → (keyword behind usual : ℕ) → ℕ
perhaps n keyword behind usual = cond (eqb (n keyword) 1) (n (keyword + behind)) usual

-- "the memory is as long as all stores together, or `LEN`"
abbrev pub memory_place : (ℕ → ℕ) → ℕ
memory_place n = behind_channels (n SAID-COUNT)

unfoldable pub memory_of : (ℕ → ℕ) → ℕ
memory_of n = perhaps n (memory_place n) 1 (stores_of n (n SAID-COUNT))

-- "they stand in this order only": each behind the keyword before, and behind so many numbers where that is said
unfoldable pub behind_keyword : (ℕ → ℕ) → (keyword numbers : ℕ) → ℕ
behind_keyword n keyword numbers = cond (eqb (n keyword) 1) (keyword + 1 + numbers) (keyword + 1)

unfoldable pub pace_place : (ℕ → ℕ) → ℕ
pace_place n = behind_keyword n (memory_place n) 1

unfoldable pub codes_place : (ℕ → ℕ) → ℕ
codes_place n = behind_keyword n (pace_place n) 2

-- "or `HELLO` and `LIMIT`"
unfoldable pub hello_of : (ℕ → ℕ) → ℕ
hello_of n = perhaps n (pace_place n) 1 USUAL-HELLO

unfoldable pub limit_of : (ℕ → ℕ) → ℕ
limit_of n = perhaps n (pace_place n) 2 USUAL-LIMIT

-- "or those whose bit .. is set in `MASK`"
unfoldable pub codes_of : (ℕ → ℕ) → ℕ
codes_of n = perhaps n (codes_place n) 1 USUAL-CODES

-- ---- the words of the configuration: Datalink ID, count, HelloTime, silence limit, the setting of the statuses 8 to 15, then those of the channels
abbrev pub head_said : (ℕ → ℕ) → List ℕ
head_said n = n SAID-ID ∷ n SAID-COUNT ∷ hello_of n ∷ limit_of n ∷ codes_of n ∷ []

abbrev pub channels_said : (ℕ → ℕ) → List ℕ
channels_said n = said_from n SAID-CHANNELS (CONFIGURATION-SLOT * n SAID-COUNT)

unfoldable pub configuration_from : (ℕ → ℕ) → List ℕ
configuration_from n = head_said n ++ channels_said n

-- how many they are, of how many channels, and how long the lent memory is
unfoldable pub start_from : (ℕ → ℕ) → StartWords
start_from n = record { words = configuration_length (n SAID-COUNT); channels = n SAID-COUNT; memory = memory_of n }

-- a line that is no start
unfoldable pub no_start : StartWords
no_start = record { words = 0; channels = 0; memory = 0 }
