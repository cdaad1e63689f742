-- Document 01's calls on a state in lent words: each leaves one reply, every word and every lent byte fixed.
use Rattle.std.specs.Result.{is_err}
use Rattle.std.specs.Prelude.{ℕ, ◌<◌, Bool, true, List, ◌≡◌, length}
use Rattle.quantity.specs.declared.count.ByteCount.{ByteCount}
use Rattle.store.specs.Moves.{displaced}
use Rattle.store.specs.Waiting.{packets_of}
use Rattle.ips_channel_rules.specs.Rules.{ChannelCall, unless_refused}
use Rattle.ips_channel_calls.specs.Calls.{Reply, offered, asked, withdrawn, reply_to, channel_after, store_after, leaving_by}
use Rattle.ips_state.specs.Limits.{state_fits}
use Rattle.ips_state.specs.Memory.{World, with_store, channel_in, store_in}
use Rattle.ips_run.specs.Calling.{terms_in, result_in}
use Rattle.ips_run.specs.Run.{Call}
use Rattle.ips_calls.specs.Replies.{EndpointReply, reply_of}
use Rattle.ips_words.specs.Words.{state_in, put_channel}
use Rattle.endpoint.specs.Lent.{Lent, lent, world_in, after_in}

-- THE CONTRACT OF A CALL
pub record PerformedIn (c : Call) (l : Lent) (x : EndpointReply) (l' : Lent) : Type 0 where
  pub reply_is : x ≡ reply_of c (world_in l)
  pub lent_is : l' ≡ after_in c l

-- a call that takes no memory leaves any
abbrev pub PerformedInWithAny : Call → List ℕ → EndpointReply → List ℕ → Type 0
PerformedInWithAny c words x words' = (memory : List ℕ) → PerformedIn c (lent words memory) x (lent words' memory)

-- ---- which replies are refusals: of these alone no word is written
abbrev pub is_refused : Reply → Bool
is_refused (offered answer) = is_err answer
is_refused (asked answer out) = is_err answer
is_refused (withdrawn answer) = is_err answer

-- ---- what the functions behind the calls require and do: number 19 has been tested, and the channel stands at this index
pub record Placed (words : List ℕ) (index : ℕ) : Type 0 where
  pub fits : state_fits (state_in words) ≡ true
  pub within : index < length (state_in words).channels

-- a call on the channel at an index, and on its store
unfoldable pub at_words : ChannelCall → Lent → ℕ → Lent
at_words c l index =
    let r = result_in c (world_in l) index in
    record {
      words = unless_refused r.answer l.words (put_channel l.words index (channel_after (channel_in (world_in l) index) r));
      memory = with_store (state_in l.words) index l.memory (store_after (channel_in (world_in l) index) (store_in (world_in l) index) r);
    }

-- document 02, §4: how many bytes it moves within the store, "each surviving byte at most once" (`call_least` of `call_moves`)
unfoldable pub moved_at : ChannelCall → World → ℕ → ℕ
moved_at c w index = displaced (leaving_by c (result_in c w index).answer (packets_of (channel_in w index).queue (store_in w index)))

abbrev pub MovedAt : ChannelCall → World → ℕ → ByteCount → Type 0
MovedAt c w index moved = moved ≡ record { 0 = moved_at c w index }

pub record PerformedInAt (c : ChannelCall) (l : Lent) (index : ℕ) (x : Reply) (l' : Lent) : Type 0 where
  pub reply_is : x ≡ reply_to (terms_in (world_in l) index) c (result_in c (world_in l) index).answer
  pub lent_is : l' ≡ at_words c l index
