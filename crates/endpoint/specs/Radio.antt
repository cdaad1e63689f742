-- What the functions behind a radio message handed in do, where numbers 19 and 21 have been tested.
use Rattle.quantity.specs.declared.refusal.Refusal.{Refusal}
use Rattle.std.specs.Prelude.{ℕ, cond, List, ◌≡◌, Result, Ok, Err}
use Rattle.meaning.specs.declared.message.Control.{Control}
use Rattle.reader.specs.Readings.{ControlReading, DataReading}
use Rattle.ips_radio.specs.declared.RadioAnswer.{RadioAnswer}
use Rattle.ips_radio.specs.Heard.{due_of}
use Rattle.ips_run.specs.Run.{Received, carried, stated, control_read, data_read, received_in}
use Rattle.ips_calls.specs.Radio.{AfterRadio, control_heard, data_heard, read_at}
use Rattle.ips_words.specs.Words.{state_in}
use Rattle.ips_words_radio.specs.HeardWords.{received_words}

-- "A mobility message is reported due when .."
pub record MessageHeard (time : ℕ) (message : Control) (words : List ℕ) (r : Result RadioAnswer Refusal) (words' : List ℕ) : Type 0 where
  pub answer_is : r ≡ cond (due_of (state_in words).context message.context) (Ok RadioAnswer.Due) (Ok RadioAnswer.Accepted)
  pub words_are : words' ≡ received_words time (stated message) words

-- "a data message too, which changes nothing else"
pub record DataPassed (time : ℕ) (words : List ℕ) (r : Result RadioAnswer Refusal) (words' : List ℕ) : Type 0 where
  pub answer_is : r ≡ Ok RadioAnswer.Accepted
  pub words_are : words' ≡ received_words time carried words

-- a message that was read: answered so, and received so
pub record ReadingHeard (time : ℕ) (after : AfterRadio) (what : Received) (words : List ℕ) (r : Result RadioAnswer Refusal) (words' : List ℕ) : Type 0 where
  pub answer_is : r ≡ after.answer
  pub words_are : words' ≡ received_words time what words

abbrev pub ControlRead : (time : ℕ) → ControlReading → List ℕ → Result RadioAnswer Refusal → List ℕ → Type 0
ControlRead time reading words r words' = ReadingHeard time (control_heard time reading (state_in words)) (control_read reading) words r words'

abbrev pub DataRead : (time : ℕ) → DataReading → List ℕ → Result RadioAnswer Refusal → List ℕ → Type 0
DataRead time reading words r words' = ReadingHeard time (data_heard time reading (state_in words)) (data_read reading) words r words'

-- the datagram, by its plane
abbrev pub DatagramRead : (time : ℕ) (datagram words : List ℕ) → Result RadioAnswer Refusal → List ℕ → Type 0
DatagramRead time datagram words r words' = ReadingHeard time (read_at time (state_in words) datagram) (received_in (state_in words).datalink.id datagram) words r words'

abbrev pub refused_radio : ℕ → Result RadioAnswer Refusal
refused_radio number = Err (record { number = number; place = 0 })
