-- The query written: its outcome from what the code learns on the way. Assumes nothing.
use Rattle.std.specs.Prelude.{Ok}
use Prim.Native.Nat.{ℕ, ◌-◌, ◌≤◌}
use mathlib.Core.Path.{◌≡◌, refl, sym, ap, ◌∙◌}
use mathlib.Core.Bool.{Bool, true, false}
use mathlib.Core.List.{List}
use native.Mathlib.Omega.{arith}
use lib.ListN.{length, take}
use Rattle.quantity.specs.declared.count.DatalinkId.{DatalinkId}
use Rattle.wire.specs.Options.{Laid}
use Rattle.writer.specs.Written.{control_written, no_room_of, Outcome}
use Rattle.writer.proofs.Outcomes.{Judged, room_enough, outcome_wrote}
use Rattle.ips_state.specs.State.{State}
use Rattle.ips_query.specs.Query.{query_of}
use Rattle.ips_words_query.specs.Rising.{query_size, RisingContents, Gathered, query_written}
use Rattle.ips_words_query.proofs.Laying.{query_length}
use Rattle.ips_words_query.proofs.Asking.{query_is}

module _ (s : State) (contents out : List ℕ) (count : ℕ) (g : Gathered s.channels contents count) where
  bytes_are : control_written (query_of s) ≡ query_written s.datalink.id.0 (take count contents)
  bytes_are = query_is s (take count contents) g.sequences

  -- where 18 is judged: what is to be written is always allowed
  pub query_judged : {size : ℕ} {full : Bool} → size ≡ query_size count → full ≡ no_room_of size (length out) → Judged true (control_written (query_of s)) out full
  query_judged {size} e f =
      let long : length (control_written (query_of s)) ≡ size = ap length bytes_are ∙ query_length s.datalink.id.0 (take count contents) ∙ ap query_size g.long ∙ sym e in
      record { yes = refl; room_is = ap (λ (n : ℕ). no_room_of n (length out)) long ∙ sym f }

  -- the contents are lent up to the count, with the Datalink ID
  module _ {full : Bool} (j : Judged true (control_written (query_of s)) out full) (no : full ≡ false) (datalink : DatalinkId) (same : datalink ≡ s.datalink.id) where
    lent : control_written (query_of s) ≡ query_written datalink.0 (take (count - 0) contents)
    lent = let z : count - 0 ≡ count = omega arith in rw (z, same) bytes_are

    pub query_room : RisingContents (take (count - 0) contents) × (length (query_written datalink.0 (take (count - 0) contents)) ≤ length out)
    query_room =
        let z : count - 0 ≡ count = omega arith in
        (rw z g.sequences.rising, rw lent at (room_enough j no))

    pub query_wrote : {r : ℕ} {exit : List ℕ} → Laid (query_written datalink.0 (take (count - 0) contents)) out exit r
        → Outcome true (control_written (query_of s)) out (Ok (record { 0 = r })) exit
    query_wrote laid = outcome_wrote j no (rw lent laid)
