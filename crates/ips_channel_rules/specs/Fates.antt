-- Which call gives which fate, and why: from the ledger before a call to the one after it, entry by entry.
use Rattle.std.specs.Prelude.{ℕ, ◌≤◌, ◌<◌, Bool, true, false, not, ◌&&◌, List, [], ◌∷◌, ◌≡◌}
use Rattle.store.specs.Packets.{Packet}
use Rattle.ips_channel_rules.specs.Rules.{ChannelCall, offer, next, withdraw, refused, answered, Happened, called, heard}
use Rattle.ips_channel_rules.specs.Simple as simples
use Rattle.ips_channel_rules.specs.Simple.{Fate, waits, expired, withdrawn, Entry, is_waiting}

-- "every packet of that channel whose expiry is at or before the time given is expired, wherever it waits": and no other; what waits on isn't due
abbrev pub by_time : (time expiry : ℕ) → Fate → Type 0
by_time time expiry waits = time < expiry
by_time time expiry expired = expiry ≤ time
by_time time expiry simples.sent = ⊥
by_time time expiry withdrawn = ⊥

-- what an accepted call makes of a packet that waited and isn't sent. "Before an accepted Offer or Next does its work ..", "Withdraw: all packets waiting on the
-- channel are withdrawn"
abbrev pub becomes : ChannelCall → (expiry : ℕ) → Fate → Type 0
becomes (offer packet time) expiry fate = by_time time expiry fate
becomes (next time out) expiry fate = by_time time expiry fate
becomes withdraw expiry fate = fate ≡ withdrawn

-- "Offer: a packet with an expiry time joins the end of its queue": it waits, and isn't due; no other call brings one
abbrev pub comes : ChannelCall → List Entry → Type 0
comes (offer packet time) new = (new ≡ record { packet = packet; fate = waits } ∷ []) × (time < packet.expiry)
comes (next time out) new = new ≡ []
comes withdraw new = new ≡ []

-- an accepted call, entry by entry; `first`: none before waits after the call, nor was sent by it
pub data Settled : ChannelCall → (first : Bool) → (before after : List Entry) → Type 0 where
  behind : {c : ChannelCall} {first : Bool} {new : List Entry} → comes c new → Settled c first [] new
  -- a fate once given stays
  had : {c : ChannelCall} {first : Bool} {p : Packet} {fate : Fate} {es fs : List Entry} → is_waiting fate ≡ false → Settled c first es fs
      → Settled c first (record { packet = p; fate = fate } ∷ es) (record { packet = p; fate = fate } ∷ fs)
  gets : {c : ChannelCall} {first : Bool} {p : Packet} {fate : Fate} {es fs : List Entry} → becomes c p.expiry fate → Settled c (first && not (is_waiting fate)) es fs
      → Settled c first (record { packet = p; fate = waits } ∷ es) (record { packet = p; fate = fate } ∷ fs)
  -- "Next: a data message with the first waiting packet .. Only the first waiting packet is tried.": one that isn't due
  goes : {time : ℕ} {out : List ℕ} {p : Packet} {es fs : List Entry} → time < p.expiry → Settled (next time out) false es fs
      → Settled (next time out) true (record { packet = p; fate = waits } ∷ es) (record { packet = p; fate = simples.sent } ∷ fs)

-- whatever happened; a refusal "changes no state": "if given, nothing has expired"; and a radio message settles nothing
abbrev pub Settles : Happened → (before after : List Entry) → Type 0
Settles (called c (refused number)) before after = after ≡ before
Settles (called c (answered says)) before after = Settled c true before after
Settles (heard status window) before after = after ≡ before
