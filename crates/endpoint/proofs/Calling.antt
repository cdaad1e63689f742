-- A call on the channel at an index with its store lent, both put back unless it is refused: one law serves the three calls. Assumes nothing.
use Rattle.std.specs.Prelude.{Err}
use Prim.Native.Nat.{ℕ, ◌+◌, ◌-◌, ◌≤◌}
use mathlib.Core.Bool.{true, false, cond, and-eq-true_iff}
use mathlib.Core.List.{List}
use mathlib.Core.Path.{◌≡◌, refl, sym, ap, ap₂, ◌∙◌}
use native.Mathlib.Omega.{arith}
use borrow.Rule.Slice.PartMut.{put_mid}
use lib.ListN.{length, take, drop}
use lib.Seq.{drop-drop}
use Rattle.quantity.specs.declared.count.ByteCount.{ByteCount}
use Rattle.ips_channel_rules.specs.Rules.{ChannelCall, offer, next, withdraw, taken, nothing_waiting, not_operational, window_shut, sent, emptied, Says, Answer, refused, answered, unless_refused, Terms}
use Rattle.ips_channel.specs.declared.state.Channel.{Channel}
use Rattle.ips_channel_calls.specs.Calls.{Reply, reply_to, channel_after, Ready, Serves, Moves}
use Rattle.ips_state.specs.Limits.{state_fits}
use Rattle.ips_state.specs.Memory.{memory_fits, store_at, with_store, World, index_in, channel_in, store_in}
use Rattle.ips_state.proofs.Channels.{ChannelFit}
use Rattle.ips_state.proofs.Places.{channel_fitting_at, store_room, store_length, at_with_same}
use Rattle.ips_run.specs.Calling.{terms_in, result_in}
use Rattle.ips_run.specs.Run.{on}
use Rattle.ips_calls.specs.Replies.{of_channel}
use Rattle.ips_words.specs.Words.{state_in, put_channel}
use Rattle.ips_words_survey.specs.declared.place.Found.{Found}
use Rattle.ips_words_survey.specs.Places.{place_of, Located}
use Rattle.ips_words_survey.proofs.Finding.{Finds}
use Rattle.endpoint.specs.Lent.{Lent, lent, world_in, words_called_under, after_in_under}
use Rattle.endpoint.specs.Calls.{PerformedIn, PerformedInAt, MovedAt, moved_at, Placed, at_words, is_refused}
use Rattle.endpoint.proofs.Finding.{calls_found, calls_refused}

-- the code's answers: only a refusal of the rules is told as one
pub unless_told : {A : Type 0} (k : Terms) (call : ChannelCall) (a : Answer (Says call)) (was is : A) → unless_refused a was is ≡ cond (is_refused (reply_to k call a)) was is
unless_told k (offer packet time) (refused number) was is = refl
unless_told k (offer packet time) (answered taken) was is = refl
unless_told k (next time out) (refused number) was is = refl
unless_told k (next time out) (answered nothing_waiting) was is = refl
unless_told k (next time out) (answered not_operational) was is = refl
unless_told k (next time out) (answered window_shut) was is = refl
unless_told k (next time out) (answered (sent packet sequence)) was is = refl
unless_told k withdraw (refused number) was is = refl
unless_told k withdraw (answered emptied) was is = refl

-- ---- the channel that was found, and the store that is lent
module _ (l : Lent) (found : Found) (located : Located (world_in l) found) where
  abbrev w : World
  w = world_in l

  pub state_fits_lem : state_fits w.state ≡ true
  state_fits_lem = ((and-eq-true_iff (state_fits w.state) (memory_fits w.state w.memory)).0 located.fits).0

  memory_fits_lem : memory_fits w.state w.memory ≡ true
  memory_fits_lem = ((and-eq-true_iff (state_fits w.state) (memory_fits w.state w.memory)).0 located.fits).1

  pub placed : Placed l.words found.index
  placed = record { fits = state_fits_lem; within = located.within }

  module _ (c : Channel) (is : c ≡ channel_in w found.index) where
    abbrev lent_store : List ℕ
    lent_store = take (found.start + c.setting.size.0 - found.start) (drop found.start l.memory)

    size_is : found.start + c.setting.size.0 - found.start ≡ (channel_in w found.index).setting.size.0
    size_is = rw is (omega arith)

    pub store_ends : found.start + c.setting.size.0 ≤ length l.memory
    store_ends = rw (is, located.starts) (store_room w.state w.memory memory_fits_lem found.index located.within)

    store_is : lent_store ≡ store_in w found.index
    unfolding store_at
    store_is = rw (size_is, located.starts)

    pub ready : Ready c lent_store
    ready =
        let f : ChannelFit (channel_in w found.index) = channel_fitting_at w.state state_fits_lem found.index located.within in
        record {
          id = rw is f.unreserved;
          well = rw is f.well_formed_lem;
          size = rw (store_is, is) (store_length w.state found.index w.memory memory_fits_lem located.within);
        }

    abbrev back : List ℕ → List ℕ
    back store = put_mid found.start (found.start + c.setting.size.0 - found.start) l.memory store

    put_back : (store : List ℕ) → back store ≡ with_store w.state found.index l.memory store
    unfolding with_store
    put_back store = rw (size_is, located.starts, drop-drop)

    -- the bytes that a call moved within the store
    pub moved_at_lem : (call : ChannelCall) (moved : ByteCount) → Moves w.state.datalink call c lent_store moved → MovedAt call w found.index moved
    unfolding moved_at
    moved_at_lem call moved h = h ∙ rw (store_is, is)

    -- what a call leaves of the channel and its store, put back; of the channel unless the answer is a refusal
    module _ (call : ChannelCall) (x : Reply) (c' : Channel) (store' : List ℕ) (h : Serves w.state.datalink call c lent_store x c' store') where
      reply_told : x ≡ reply_to (terms_in w found.index) call (result_in call w found.index).answer
      reply_told = h.reply_is ∙ rw (store_is, is)

      pub performed_at : (words' : List ℕ) → words' ≡ cond (is_refused x) l.words (put_channel l.words found.index c') → PerformedInAt call l found.index x (lent words' (back store'))
      unfolding at_words
      performed_at words' e = record {
        reply_is = reply_told;
        lent_is = ap₂ lent words_are (put_back store' ∙ rw (h.store_is, store_is, is));
      }
        where
          left : c' ≡ channel_after (channel_in w found.index) (result_in call w found.index)
          left = h.channel_is ∙ rw (store_is, is)

          words_are : words' ≡ unless_refused (result_in call w found.index).answer l.words (put_channel l.words found.index (channel_after (channel_in w found.index) (result_in call w found.index)))
          words_are = e ∙ rw (reply_told, left) (sym (unless_told (terms_in w found.index) call (result_in call w found.index).answer l.words (put_channel l.words found.index (channel_after (channel_in w found.index) (result_in call w found.index)))))

      pub saved_at : is_refused x ≡ false → (words' : List ℕ) → words' ≡ put_channel l.words found.index c' → PerformedInAt call l found.index x (lent words' (back store'))
      saved_at e words' is-put = performed_at words' (rw e is-put)

-- ---- the calls by Channel ID, where the channel is found
pub performed_found : (l : Lent) (id : ℕ) (found : Found) → Finds (world_in l) id found → (call : ChannelCall) (x : Reply) (l' : Lent)
    → PerformedInAt call l found.index x l' → PerformedIn (on id call) l (of_channel x) l'
unfolding after_in_under words_called_under at_words
performed_found l id found finds call x l' h =
    let same = calls_found (world_in l) id call found finds in
    let here = at_with_same (state_in l.words) found.index (channel_after (channel_in (world_in l) found.index) (result_in call (world_in l) found.index)) finds.located.within in
    record { reply_is = ap of_channel (rw (same, finds.at_index) h.reply_is); lent_is = rw (same, finds.at_index, here) h.lent_is }

-- ---- and where it is not
pub performed_refused : (l : Lent) (id number : ℕ) → place_of (state_in l.words) id (length l.memory) ≡ Err number → (call : ChannelCall)
    → PerformedIn (on id call) l (of_channel (reply_to (terms_in (world_in l) (index_in (world_in l) id)) call (refused number))) l
unfolding after_in_under words_called_under
performed_refused l id number e call =
    let same = calls_refused (world_in l) id call number e in
    record { reply_is = rw same; lent_is = rw same }
