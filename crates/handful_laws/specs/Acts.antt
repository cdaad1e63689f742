-- Demand 3's "any sequence of calls, .. refused ones among them, each taking the state and the lent memory as the one before left them", with handfuls among the calls.
use Rattle.quantity.specs.declared.refusal.Refusal.{Refusal}
use Rattle.std.specs.Prelude.{ℕ, List, [], ◌∷◌, ◌++◌, map, Result, Ok, Err}
use Rattle.ips_run.specs.Run.{Call}
use Rattle.ips_run.specs.Demand.{bytes_in}
use Rattle.ips_calls.specs.Replies.{EndpointReply}
use Rattle.endpoint.specs.Lent.{Lent}
use Rattle.endpoint.specs.Calls.{PerformedIn}
use Rattle.handful.specs.Handful.{Handful, HandedIn}
use Rattle.handful_laws.specs.Plain.{offers_in, said_by}

-- a call of document 01, or a handful with the answers lent for it
pub data Act : Type 0 where
  single : Call → Act
  several : Handful → (answers : List ℕ) → Act

-- what the caller sees of it: of a handful its answer, and the lent answers after it
pub data ActReply : Type 0 where
  one : EndpointReply → ActReply
  each : Result (Unit {0}) Refusal → (answers : List ℕ) → ActReply

-- from words and memory: the acts, the replies, and the words and the memory that were left
pub data RanActs : Lent → List Act → List ActReply → Lent → Type 0 where
  over : {l : Lent} → RanActs l [] [] l
  called : {l l' last : Lent} {c : Call} {x : EndpointReply} {acts : List Act} {xs : List ActReply}
      → PerformedIn c l x l' → RanActs l' acts xs last → RanActs l (single c ∷ acts) (one x ∷ xs) last
  handed : {l l' last : Lent} {h : Handful} {answers answers' : List ℕ} {x : Result (Unit {0}) Refusal} {acts : List Act} {xs : List ActReply}
      → HandedIn h l answers x l' answers' → RanActs l' acts xs last → RanActs l (several h answers ∷ acts) (each x answers' ∷ xs) last

-- ---- the calls that acts stand for: a handful for its offers in their order, and refused, "with nothing taken", for none
abbrev pub calls_by : Act → ActReply → List Call
calls_by (single c) x = c ∷ []
calls_by (several h answers) (one x) = []
calls_by (several h answers) (each (Ok tt) answers') = offers_in h
calls_by (several h answers) (each (Err refusal) answers') = []

abbrev pub calls_of : List Act → List ActReply → List Call
calls_of [] xs = []
calls_of (act ∷ acts) [] = []
calls_of (act ∷ acts) (x ∷ xs) = calls_by act x ++ calls_of acts xs

-- ---- the replies to those calls: of a handful what each byte says
abbrev pub replies_by : ActReply → List EndpointReply
replies_by (one x) = x ∷ []
replies_by (each (Ok tt) answers') = map said_by answers'
replies_by (each (Err refusal) answers') = []

abbrev pub replies_in : List ActReply → List EndpointReply
replies_in [] = []
replies_in (x ∷ xs) = replies_by x ++ replies_in xs

-- ---- what is called: a datagram of the radio is made of bytes; of a handful nothing is asked
abbrev pub BytesInActs : List Act → Type 0
BytesInActs [] = Unit {0}
BytesInActs (single c ∷ acts) = bytes_in c × BytesInActs acts
BytesInActs (several h answers ∷ acts) = BytesInActs acts
