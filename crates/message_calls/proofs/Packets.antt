-- Where the packet of a data message stands. Assumes nothing.
use Prim.Native.Nat.{ℕ, ◌-◌}
use mathlib.Core.Path.{◌≡◌, refl, sym, ap, ◌∙◌}
use mathlib.Core.List.{List, [], ◌∷◌, ◌++◌, append_assoc, append-nil}
use mathlib.Core.Bool.{Bool, true, false, cond}
use native.Mathlib.Omega.{arith}
use lib.Dec.{eqb}
use lib.ListN.{length, drop, length-append}
use lib.Seq.{drop_at}
use Rattle.quantity.specs.declared.count.DatalinkId.{DatalinkId}
use Rattle.wire.specs.Numbers.{Octets, bytes_of}
use Rattle.wire.specs.Options.{Options, done, cut, option, bytes, option_bytes, split}
use Rattle.meaning.specs.Kinds.{PACKET-DATA}
use Rattle.read_data.specs.Packet.{packet_in}
use Rattle.reader.specs.Readings.{Verdict, read_data, packet_of}
use Rattle.meaning.specs.declared.message.End.{End}
use Rattle.meaning.specs.declared.message.Plane.TheVariants as planes
use Rattle.acceptance.specs.Account.{Ending}
use Rattle.acceptance.proofs.Own.{own}
use Rattle.acceptance.proofs.Data.{data_account}
use Rattle.message_calls.specs.Calls.{packet_start}

-- what stands last has nothing behind it: the bytes of the options end with the packet
last_bytes : (f : Options) → Ending planes.Data f → (front : List ℕ) × (bytes f ≡ front ++ packet_in f)
unfolding bytes packet_in option_bytes
last_bytes done e = ([], refl)
last_bytes (cut rest) e = (rest, sym (append-nil rest))
last_bytes (option kind content more) e = by_kind (eqb kind PACKET-DATA) refl (last_bytes more e.1)
  where
    by_kind : (b : Bool) → eqb kind PACKET-DATA ≡ b → (front : List ℕ) × (bytes more ≡ front ++ packet_in more)
        → (front : List ℕ) × ((kind ∷ (bytes_of 2 (length content) ++ content)) ++ bytes more ≡ front ++ cond b content (packet_in more))
    by_kind true is later = (
      kind ∷ bytes_of 2 (length content),
      rw (e.0 (rw is)) (append-nil (kind ∷ (bytes_of 2 (length content) ++ content))),
    )
    by_kind false is later = (
      (kind ∷ (bytes_of 2 (length content) ++ content)) ++ later.0,
      rw later.1 (sym (append_assoc (kind ∷ (bytes_of 2 (length content) ++ content)) later.0 (packet_in more))),
    )

-- the packet of an accepted data message is the datagram from `packet_start` on
pub packet_stands : (end : End) (id : DatalinkId) (s : List ℕ) → Octets s → (read_data end id s).verdict ≡ Verdict.Accepted → drop (packet_start s) s ≡ packet_of s
unfolding packet_of
packet_stands end id s octets accepted =
    let account = (data_account end id s octets).0.0 accepted in
    let options : Options = account.0 in
    let a = account.1 in
    let parts = last_bytes options a.ending in
    let packet : packet_in (split (drop 1 s)) ≡ packet_in options = ap packet_in (own planes.Data end id s options a) in
    let whole : s ≡ (a.header ∷ parts.0) ++ packet_in options = a.whole ∙ ap (λ (behind : List ℕ). a.header ∷ behind) parts.1 in
    let long = ap length whole ∙ length-append (a.header ∷ parts.0) (packet_in options) in
    rw packet
    (ap (drop (length s - length (packet_in options))) whole
    ∙ drop_at (a.header ∷ parts.0) (packet_in options) (length s - length (packet_in options)) (omega arith))
