-- Document 02, §14, of what is linked: a router links the one library and a radio the other, and each exported call gives its two numbers and leaves every lent word and
-- byte as its own contract says. Handfuls are among the endpoint's calls.
use Rattle.std.specs.Prelude.{ℕ, List, []}
use Rattle.answer_codes.specs.declared.Answer.{Answer}
use Rattle.radio_end_run.specs.Run as station
use Rattle.radio_end_words.specs.Words as words
use Rattle.ips_channel_rules.specs.Rules.{Terms}
use Rattle.ips_run.specs.Run.{Call, sees_all}
use Rattle.endpoint.specs.Lent.{Lent, world_in}
use Rattle.handful.specs.Handful.{Handful}
use Rattle.handful_laws.specs.Acts.{several, each, calls_by}
use Rattle.nespovarda.specs.Exports.{Exported, reply_said}
use Rattle.nespovarda.specs.Handing.{HandfulExported, handful_said}
use Rattle.nespovarda_station.specs.Exports as far
use Rattle.nespovarda_station.specs.Ran.{answer_said}
use Rattle.joined_ends.specs.Ends.{written_by, MayAct, MayCall, acted, allowance_at, heard_after}
use Rattle.joined_code.specs.Called.{Lents, ends_in, Asking, channel_in, after_acting, after_calling}

-- a handful, by its numbers and the lent answers after it: the watched channel sees the offers that it stands for, and no datagram is handed over
abbrev pub after_handing : Terms → Handful → (answers : List ℕ) → Answer → (answers' : List ℕ) → Lent → Lents → Lents
after_handing k h answers r answers' left x =
    record {
      own = left;
      far = x.far;
      watched = acted k (sees_all k.id (calls_by (several h answers) (each (handful_said r) answers')) (world_in x.own)) [] x.watched;
    }

module _ (k : Terms) (j : ℕ) where
  pub data Step (asked : Asking) : Lents → Lents → Type 0 where
    -- the router calls
    acts : (x : Lents) (c : Call) (r : Answer) (out : List ℕ) (left : Lent) → MayAct c x.watched → Exported c x.own r out left → Step asked x (after_acting k c (reply_said c r out) left x)
    -- the router offers a handful
    hands : (x : Lents) (h : Handful) (answers : List ℕ) (r : Answer) (answers' : List ℕ) (left : Lent) → HandfulExported h x.own answers r left answers'
        → Step asked x (after_handing k h answers r answers' left x)
    -- the radio calls
    calls : (x : Lents) (c : station.Call) (r : Answer) (left out : List ℕ) → MayCall k c x.watched → far.Exported (station.after_call c (words.state_in x.far)) x.far r left out
        → asked (written_by (answer_said r) out) (heard_after k c (ends_in x)) (allowance_at (channel_in j left)) → Step asked x (after_calling k j c (answer_said r) left out x)
