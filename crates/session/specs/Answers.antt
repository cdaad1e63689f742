-- docs/SESSION.md: what the program answers to a line that isn't about a state.
use Rattle.std.specs.Prelude.{false, List, ◌≡◌, ℕ}
use Rattle.message_words.specs.Saying.{Says}
use Rattle.session_read.specs.Lines.{asked_of}
use Rattle.session_print.specs.Messages.{about_state, answer_texts}

pub record Answers (size most : ℕ) (line out : List ℕ) (count : ℕ) (out' : List ℕ) : Type 0 where
  pub message : about_state (asked_of size line) ≡ false → Says out 0 (answer_texts size most line) count out'
