-- Document 01, "Reading: .. then the options one after another ..; then 9, 10, 11", for any sort of message.
use Rattle.std.specs.Prelude.{ℕ, ◌+◌, List, length}
use Rattle.quantity.specs.Refusals.{CUT}
use Rattle.wire.specs.Options.{Options, done, cut, option}
use Rattle.meaning.specs.declared.message.Plane.{Plane}

-- what a message states so far with one option more, or the number of the refusal
pub data Step (A : Type 0) : Type 0 where
  next : A → Step A
  stop : ℕ → Step A

-- a sort of message as it is read: its plane; nothing stated yet; how an option is taken in; the tests on the whole, at the datagram's length;
-- the answer that refuses by a number and a place; the answer to a message of the other plane
pub record Rules (A B : Type 0) : Type 0 where
  pub plane : Plane
  pub blank : A
  pub step : ℕ → List ℕ → A → Step A
  pub finish : ℕ → A → B
  pub refuse : ℕ → ℕ → B
  pub other : B

abbrev pub after_step : {A B : Type 0} → (A → B) → (ℕ → B) → Step A → B
after_step f g (next m) = f m
after_step f g (stop number) = g number

-- the options one after another from a place on, m being what the ones before state: "the first found is reported", at "the option's first byte"
unfoldable pub judge : {A B : Type 0} → Rules A B → Options → ℕ → A → B
judge R done place m = R.finish place m
judge R (cut rest) place m = R.refuse CUT place
judge R (option kind content more) place m =
    after_step (λ m'. judge R more (place + (3 + length content)) m') (λ number. R.refuse number place) (R.step kind content m)
