-- One channel in its words: what is written, and that it reads back. Assumes nothing.
use Rattle.std.specs.Prelude.{Option, Some, None}
use Prim.Native.Nat.{ℕ, ◌^◌, ◌≤◌, ◌<◌}
use mathlib.Core.Bool.{Bool, true, false, cond, and-eq-true_iff}
use mathlib.Core.List.{List, [], ◌∷◌, ◌++◌}
use mathlib.Core.Path.{◌≡◌, refl, ◌∙◌}
use native.Mathlib.Omega.{arith}
use borrow.Author.Tests.{le-leb, lt-ltb, leb-true, ltb-true}
use lib.Dec.{eqb, leb, ltb}
use lib.ListN.{length, take, drop}
use lib.Seq.{sets, sets-eq}
use mir.Val.{bool_byte}
use Rattle.quantity.specs.declared.count.FlowSequence.{FlowSequence}
use Rattle.quantity.specs.Limits.{MOST-WAITING}
use Rattle.flow.specs.declared.Flow.{Flow}
use Rattle.flow.specs.Counting.{first_flow}
use Rattle.ips_channel_rules.specs.Rules.{Condition}
use Rattle.ips_channel_rules.specs.Machine.{machine}
use Rattle.ips_channel.specs.declared.state.Setting.{Setting}
use Rattle.ips_channel.specs.declared.state.Channel.{Channel}
use Rattle.ips_channel.specs.Channel.{fresh_channel, with_condition}
use Rattle.ips_words.specs.Words.{FIXED, SLOT, CONTROLLED, PLAIN, ABSENT, GIVEN, FREE, NO-WINDOW, IN-FORCE, KIND, STATUS-TAG, STATUS-VALUE, FLOW-TAG, FLOW-WINDOW, SEQUENCE, WAITING, fixed_words, word, entry_words, status_of, flow_of, queue_in, channel_in, channel_words, spelled, status_tag, status_value, flow_tag, flow_window, Tidy, Narrow}
use Rattle.ips_words.proofs.Entries.{entries_length, entries_behind, entry_words_length, tidy_back, tidy_of_lem}

-- ---- what the writes leave
bool_byte_lem : (b : Bool) → bool_byte b ≡ cond b CONTROLLED PLAIN
bool_byte_lem true = refl
bool_byte_lem false = refl

pub fixed_saved : (w : List ℕ) (c : Channel) (size tag value flow window count : ℕ) → FIXED ≤ length w
    → size ≡ c.setting.size.0 → tag ≡ status_tag c.status → value ≡ status_value c.status → flow ≡ flow_tag c.flow → window ≡ flow_window c.flow → count ≡ c.queue.count
    → sets w 0 (c.setting.id ∷ bool_byte c.setting.controlled ∷ size ∷ tag ∷ value ∷ flow ∷ window ∷ c.sequence.0 ∷ c.latest ∷ count ∷ []) ≡ fixed_words c ++ drop FIXED w
fixed_saved w c size tag value flow window count h e1 e2 e3 e4 e5 e6 =
    sets-eq (c.setting.id ∷ bool_byte c.setting.controlled ∷ size ∷ tag ∷ value ∷ flow ∷ window ∷ c.sequence.0 ∷ c.latest ∷ count ∷ []) w 0 (omega arith)
    ∙ rw (bool_byte_lem c.setting.controlled, e1, e2, e3, e4, e5, e6)

pub all_saved : (c : Channel) (rest w before : List ℕ) → before ≡ fixed_words c ++ rest → w ≡ take FIXED before ++ entry_words c.queue.entries → w ≡ channel_words c
unfolding channel_words
all_saved c rest w before e f = f ∙ rw e

pub channel_length : (c : Channel) → length c.queue.entries ≡ MOST-WAITING → length (channel_words c) ≡ SLOT
unfolding channel_words
channel_length c l = omega (arith, entry_words_length c.queue.entries)

-- ---- what is written reads back
pub status_back : (status : Option ℕ) → status_of (status_tag status) (status_value status) ≡ status
unfolding status_of
status_back None = refl
status_back (Some value) = refl

pub flow_back : (flow : Flow) → flow_of (flow_tag flow) (flow_window flow) ≡ flow
unfolding flow_of
flow_back Flow.Free = refl
flow_back Flow.NoWindow = refl
flow_back (Flow.InForce window) = refl

kind_back : (b : Bool) → eqb (cond b CONTROLLED PLAIN) CONTROLLED ≡ b
kind_back true = refl
kind_back false = refl

-- THE CHANNEL THAT IS SAVED IS THE ONE THAT IS LOADED
pub channel_back : (c : Channel) → Tidy c.queue → channel_in (channel_words c) ≡ c
unfolding channel_in queue_in channel_words
channel_back c t = rw (status_back c.status, flow_back c.flow, kind_back c.setting.controlled, tidy_back (fixed_words c) c.queue refl t)

-- ---- the parts of `spelled`, as facts
pub record Spelled (w : List ℕ) : Type 0 where
  pub kind : word w KIND ≤ CONTROLLED
  pub status_tag_lem : word w STATUS-TAG ≤ GIVEN
  pub status : word w STATUS-VALUE < 256
  pub flow_tag_lem : word w FLOW-TAG ≤ IN-FORCE
  pub window : word w FLOW-WINDOW < 2 ^ 32
  pub sequence : word w SEQUENCE < 2 ^ 32

pub spelled_facts : (w : List ℕ) → spelled w ≡ true → Spelled w
unfolding spelled
spelled_facts w e =
    let a = (and-eq-true_iff (leb (word w KIND) CONTROLLED) _).0 e in
    let b = (and-eq-true_iff (leb (word w STATUS-TAG) GIVEN) _).0 a.1 in
    let d = (and-eq-true_iff (ltb (word w STATUS-VALUE) 256) _).0 b.1 in
    let f = (and-eq-true_iff (leb (word w FLOW-TAG) IN-FORCE) _).0 d.1 in
    let g = (and-eq-true_iff (ltb (word w FLOW-WINDOW) (2 ^ 32)) _).0 f.1 in
    record { kind = leb-true _ _ a.0; status_tag_lem = leb-true _ _ b.0; status = ltb-true _ _ d.0; flow_tag_lem = leb-true _ _ f.0; window = ltb-true _ _ g.0; sequence = ltb-true _ _ g.1 }

pub spelled_by : (w : List ℕ) → Spelled w → spelled w ≡ true
unfolding spelled
spelled_by w s =
    rw (le-leb _ _ s.kind, le-leb _ _ s.status_tag_lem, lt-ltb _ _ s.status, le-leb _ _ s.flow_tag_lem, lt-ltb _ _ s.window, lt-ltb _ _ s.sequence)

-- a channel whose numbers are in range is spelled
kind_few : (b : Bool) → cond b CONTROLLED PLAIN ≤ CONTROLLED
kind_few true = omega arith
kind_few false = omega arith

pub status_few : (status : Option ℕ) → status_tag status ≤ GIVEN
status_few None = omega arith
status_few (Some value) = omega arith

pub flow_few : (flow : Flow) → flow_tag flow ≤ IN-FORCE
flow_few Flow.Free = omega arith
flow_few Flow.NoWindow = omega arith
flow_few (Flow.InForce window) = omega arith

pub words_spelled : (c : Channel) → Narrow c → spelled (channel_words c) ≡ true
unfolding channel_words
words_spelled c n =
    spelled_by (channel_words c)
    (record { kind = kind_few c.setting.controlled; status_tag_lem = status_few c.status; status = n.status; flow_tag_lem = flow_few c.flow; window = n.window; sequence = n.sequence })

-- and one that spelled words say has its numbers in range
pub in_tidy : (w : List ℕ) → Tidy (channel_in w).queue
unfolding channel_in queue_in
in_tidy w = record { places = entries_length w (word w WAITING); behind = entries_behind w (word w WAITING) }

status_narrow : (tag value : ℕ) → value < 256 → status_value (status_of tag value) < 256
unfolding status_of
status_narrow tag value h = go (eqb tag ABSENT)
  where
    go : (b : Bool) → status_value (cond b None (Some value)) < 256
    go true = omega arith
    go false = h

flow_narrow : (tag window : ℕ) → window < 2 ^ 32 → flow_window (flow_of tag window) < 2 ^ 32
unfolding flow_of
flow_narrow tag window h = go (eqb tag FREE) (eqb tag NO-WINDOW)
  where
    go : (a b : Bool) → flow_window (cond a Flow.Free (cond b Flow.NoWindow (Flow.InForce (record { 0 = window })))) < 2 ^ 32
    go true b = omega arith
    go false true = omega arith
    go false false = h

pub in_narrow : (w : List ℕ) → spelled w ≡ true → Narrow (channel_in w)
unfolding channel_in
in_narrow w e =
    let s = spelled_facts w e in
    record { tidy = in_tidy w; status = status_narrow (word w STATUS-TAG) (word w STATUS-VALUE) s.status; window = flow_narrow (word w FLOW-TAG) (word w FLOW-WINDOW) s.window; sequence = s.sequence }

-- ---- channels that read back: in a condition with at most 32 packets, and fresh
pub with_narrow : (c : Channel) (st : Condition machine) → length st.keeping ≤ MOST-WAITING → status_value st.status < 256 → flow_window st.counting.flow < 2 ^ 32
    → st.counting.sequence.0 < 2 ^ 32 → Narrow (with_condition c st)
unfolding with_condition
with_narrow c st few status window sequence = record { tidy = tidy_of_lem st.keeping few; status = status; window = window; sequence = sequence }

first_window : (controlled : Bool) → flow_window (first_flow controlled) < 2 ^ 32
first_window true = omega arith
first_window false = omega arith

pub fresh_narrow : (setting : Setting) (first : FlowSequence) → first.0 < 2 ^ 32 → Narrow (fresh_channel setting first)
unfolding fresh_channel
fresh_narrow setting first h = record { tidy = tidy_of_lem [] (omega arith); status = omega arith; window = first_window setting.controlled; sequence = h }
