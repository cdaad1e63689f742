-- What a handful gives a caller that shares no types with Rattle: two numbers, a byte for each packet, and every lent word and byte.
use Rattle.quantity.specs.declared.refusal.Refusal.{Refusal}
use Rattle.std.specs.Prelude.{ℕ, cond, List, [], ◌∷◌, ◌≡◌, length, Result, Ok, Err}
use Rattle.answer_codes.specs.declared.Answer.{Answer}
use Rattle.answer_codes.specs.Codes.{code_of, OFFERED}
use Rattle.ips_run.specs.Run.{Call}
use Rattle.endpoint.specs.Lent.{Lent, world_in}
use Rattle.handful.specs.Handful.{Handful, handful_answer, stands_for, left_by, answers_after}
use Rattle.handful_laws.specs.Acts.{Act, single, several, ActReply, one, each}
use Rattle.nespovarda.specs.Outcomes.{handed_as}
use Rattle.nespovarda.specs.Exports.{Exported, Told, refusal_in, is_kind, reply_said}

-- THE CONTRACT OF AN EXPORTED HANDFUL
pub record HandfulExported (h : Handful) (l : Lent) (answers : List ℕ) (r : Answer) (l' : Lent) (answers' : List ℕ) : Type 0 where
  pub answer_is : r ≡ code_of (handed_as (handful_answer h (length answers) (world_in l)))
  pub lent_is : l' ≡ left_by h.time (stands_for h (length answers) (world_in l)) l
  pub answers_are : answers' ≡ answers_after h l answers

-- the answer that its numbers say (`handful_exported`)
abbrev pub handful_said : Answer → Result (Unit {0}) Refusal
handful_said r = cond (is_kind r OFFERED) (Ok tt) (Err (refusal_in r))

-- ---- any sequence of exported calls with handfuls among them: of a handful the caller is told its two numbers, and sees the lent answers after it
pub data RanExportedActs : Lent → List Act → List Told → Lent → Type 0 where
  over : {l : Lent} → RanExportedActs l [] [] l
  called : {l l' last : Lent} {c : Call} {t : Told} {acts : List Act} {ts : List Told}
      → Exported c l t.answer t.out l' → RanExportedActs l' acts ts last → RanExportedActs l (single c ∷ acts) (t ∷ ts) last
  handed : {l l' last : Lent} {h : Handful} {answers : List ℕ} {t : Told} {acts : List Act} {ts : List Told}
      → HandfulExported h l answers t.answer l' t.out → RanExportedActs l' acts ts last → RanExportedActs l (several h answers ∷ acts) (t ∷ ts) last

-- the replies that these say
abbrev pub act_said : Act → Told → ActReply
act_said (single c) t = one (reply_said c t.answer t.out)
act_said (several h answers) t = each (handful_said t.answer) t.out

abbrev pub acts_said : List Act → List Told → List ActReply
acts_said [] ts = []
acts_said (act ∷ acts) [] = []
acts_said (act ∷ acts) (t ∷ ts) = act_said act t ∷ acts_said acts ts
