-- A handful of five, three in the midst refused, in literal numbers: each has its own answer, and the last is taken as the first is. Computed. Assumes nothing.
use Rattle.quantity.specs.declared.refusal.Refusal.{Refusal}
use Rattle.std.specs.Prelude.{Result, Ok}
use Prim.Native.Nat.{ℕ}
use mathlib.Core.List.{List, [], ◌∷◌, ◌++◌}
use mathlib.Core.Path.{◌≡◌, refl, ap, ◌∙◌}
use lib.ListN.{take, drop, replicate}
use Rattle.facts.specs.Tables.{tabulate}
use Rattle.wire.specs.Numbers.{number_from}
use Rattle.store.specs.Packets.{lasting, joined, is_full}
use Rattle.store.specs.Waiting as stores
use Rattle.store.specs.Waiting.{waiting, total, packets_of, entry_of, listed, queue_of, store_of, all_within_under, well_formed_under}
use Rattle.ipv6.specs.Ipv6.{is_ipv6}
use Rattle.ips_channel_rules.specs.Rules.{offer_at}
use Rattle.ips_channel.specs.Channel.{condition_of, with_condition}
use Rattle.ips_channel_calls.specs.Calls.{channel_after, store_after}
use Rattle.ips_state.specs.State.{channel_at, with_channel}
use Rattle.ips_state.specs.Limits.{channel_fits_under, all_fit_under, ids, distinct, channels_fit_under, names_fit, head_fits, state_fits_under, sizes, index_of}
use Rattle.ips_state.specs.Memory.{memory_fits, start_of, store_at, with_store}
use Rattle.ips_run.specs.Calling.{calling_under}
use Rattle.ips_words.specs.Words.{slot, status_of, flow_of, instance_of, context_of, entries_in, queue_in, state_of, spelled, all_spelled, head_spelled, readable, state_in, entry_words, channel_words, put_slot, put_channel}
use Rattle.ips_words.specs.Words as words
use Rattle.endpoint.specs.Lent.{Lent, lent, world_in, words_called_under, after_in_under}
use Rattle.handful.specs.Handful.{Handful, cut, left_by, sum_of, is_handful, handful_answer, stands_for, answers_after, HandedIn}

-- words for one plain channel, 0, fresh, with a store of 1,500 bytes
abbrev fresh : Lent
fresh = lent (5 ∷ 1 ∷ 0 ∷ 0 ∷ 0 ∷ 0 ∷ 0 ∷ 0 ∷ 5000 ∷ 9000 ∷ 0 ∷ 0 ∷ 0 ∷ 0 ∷ 0 ∷ 0 ∷ 1500 ∷ replicate 71 0) (replicate 1500 0)

-- an IPv6 header alone, with the last byte of its destination
abbrev packet : ℕ → List ℕ
packet last = 96 ∷ (replicate 38 0 ++ (last ∷ []))

-- at time 100: one until 200, one without a byte, one for channel 5, one until 100, one until 101
abbrev five : Handful
five = record {
  channels = 0 ∷ 0 ∷ 5 ∷ 0 ∷ 0 ∷ [];
  expiries = 200 ∷ 200 ∷ 200 ∷ 100 ∷ 101 ∷ [];
  lengths = 40 ∷ 0 ∷ 40 ∷ 40 ∷ 40 ∷ [];
  packets = packet 1 ++ (packet 3 ++ (packet 4 ++ packet 5));
  time = 100;
}

-- whatever was lent for the answers
abbrev before : List ℕ
before = 77 ∷ 77 ∷ 77 ∷ 77 ∷ 77 ∷ []

-- the answer; each packet's own; the words of channel 0 that say its latest time, how many wait, and length and expiry of each; the memory
computed : (handful_answer five 5 (world_in fresh) ≡ Ok tt) × (answers_after five fresh before ≡ 0 ∷ 13 ∷ 12 ∷ 16 ∷ 0 ∷ [])
    × (take 6 (drop 22 (left_by 100 (stands_for five 5 (world_in fresh)) fresh).words) ≡ 100 ∷ 2 ∷ 40 ∷ 200 ∷ 40 ∷ 101 ∷ [])
    × ((left_by 100 (stands_for five 5 (world_in fresh)) fresh).memory ≡ packet 1 ++ (packet 5 ++ replicate 1420 0))
unfolding state_fits_under head_fits names_fit channels_fit_under all_fit_under channel_fits_under ids distinct well_formed_under all_within_under waiting total memory_fits sizes state_in readable head_spelled all_spelled spelled state_of tabulate words.channel_in slot status_of flow_of instance_of context_of queue_in entries_in lasting joined is_full stores.cut packets_of entry_of listed queue_of store_of is_ipv6 number_from offer_at condition_of with_condition channel_after store_after channel_at with_channel index_of start_of store_at with_store calling_under entry_words channel_words put_slot put_channel words_called_under after_in_under cut sum_of is_handful
computed = (refl, refl, refl, refl)

pub five_handed : {x : Result (Unit {0}) Refusal} {l : Lent} {answers : List ℕ} → HandedIn five fresh before x l answers
    → (x ≡ Ok tt) × (answers ≡ 0 ∷ 13 ∷ 12 ∷ 16 ∷ 0 ∷ []) × (take 6 (drop 22 l.words) ≡ 100 ∷ 2 ∷ 40 ∷ 200 ∷ 40 ∷ 101 ∷ [])
    × (l.memory ≡ packet 1 ++ (packet 5 ++ replicate 1420 0))
five_handed h = (
  h.answer_is ∙ computed.0,
  h.answers_are ∙ computed.1,
  ap (λ (m : Lent). take 6 (drop 22 m.words)) h.lent_is ∙ computed.2,
  ap (λ (m : Lent). m.memory) h.lent_is ∙ computed.3,
)
