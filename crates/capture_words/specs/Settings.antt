-- The words of a program over captures: RADIO-PORT IPS-PORT DATALINK, all or none.
use Rattle.std.specs.Prelude.{Bool, true, false, not, cond, ◌&&◌, ℕ, leb, eqb, Option, Some, None}
use Rattle.capture_words.specs.declared.Setting.{Setting}

abbrev pub HIGHEST-PORT : ℕ
HIGHEST-PORT = 65535

abbrev pub HIGHEST-DATALINK : ℕ
HIGHEST-DATALINK = 255

-- these ports and this Datalink ID
abbrev pub setting_of : Bool → ℕ → ℕ → ℕ → Setting
setting_of good radio ips datalink = record { good = good; ports = record { radio = radio; ips = ips }; id = record { 0 = datalink } }

-- words that say nothing
abbrev pub refused_of : Setting
refused_of = setting_of false 0 0 0

-- what the program says on standard error: "ports 0 to 65535 and not equal, DATALINK 0 to 255"
abbrev pub allowed : ℕ → ℕ → ℕ → Bool
allowed radio ips datalink = leb radio HIGHEST-PORT && leb ips HIGHEST-PORT && leb datalink HIGHEST-DATALINK && not (eqb radio ips)

-- what three numbers say
unfoldable pub numbers_say : ℕ → ℕ → ℕ → Setting
numbers_say radio ips datalink = cond (allowed radio ips datalink) (setting_of true radio ips datalink) refused_of

-- what three words say, each a number or none
unfoldable pub words_say : Option ℕ → Option ℕ → Option ℕ → Setting
words_say None ips datalink = refused_of
words_say (Some radio) None datalink = refused_of
words_say (Some radio) (Some ips) None = refused_of
words_say (Some radio) (Some ips) (Some datalink) = numbers_say radio ips datalink

-- by the words that there are: none, three of them, or another count
pub data Asked : Setting → Type 0 where
  none : Asked (numbers_say 8580 8581 7)
  three : (radio ips datalink : Option ℕ) → Asked (words_say radio ips datalink)
  others : Asked refused_of
