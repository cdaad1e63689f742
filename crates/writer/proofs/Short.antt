-- The contents of a meaning that may be written are short. Assumes nothing.
use Rattle.std.specs.Prelude.{Option, Some, None}
use Rattle.quantity.specs.declared.count.LinkInstanceId.{LinkInstanceId}
use Rattle.meaning.specs.declared.message.ContextBytes.{ContextBytes}
use Prim.Native.Nat.{ℕ, ◌≤◌, ◌<◌, ◌^◌}
use mathlib.Core.Path.{◌≡◌}
use mathlib.Core.Bool.{Bool, true, ◌&&◌, and-eq-true_iff}
use borrow.Author.Tests.{ltb-true, leb-true}
use lib.Dec.{leb, ltb}
use Rattle.quantity.specs.Limits.{SHORTEST-NAME, LONGEST-NAME}
use Rattle.meaning.specs.Kinds.{length_listed, LINK-INSTANCE, DATALINK-CONTEXT}
use Rattle.meaning.specs.declared.message.End.{End}
use Rattle.meaning.specs.declared.message.Plane.TheVariants as planes
use Rattle.meaning.specs.declared.message.Control.{Control}
use Rattle.meaning.specs.declared.message.Data.{Data}
use Rattle.writable.specs.Allowed.{may, datalink_allowed, instance_allowed, context_allowed, control_allowed, counted_allowed, channel_allowed, expiration_allowed, data_allowed}
use Rattle.write_option.specs.Laying.{ShortInstance, ShortContext, ShortNames}

short_length : (a : Bool) (number n : ℕ) → (a && ((leb SHORTEST-NAME n && leb n LONGEST-NAME) && ltb number (256 ^ n))) ≡ true → n ≤ LONGEST-NAME
short_length a number n e =
    let listed = ((and-eq-true_iff (leb SHORTEST-NAME n && leb n LONGEST-NAME) (ltb number (256 ^ n))).0 ((and-eq-true_iff a _).0 e).1).0 in
    leb-true n LONGEST-NAME ((and-eq-true_iff (leb SHORTEST-NAME n) (leb n LONGEST-NAME)).0 listed).1

instance_short : (end : End) (instance : Option (LinkInstanceId × ℕ)) → instance_allowed end instance ≡ true → ShortInstance instance
unfolding length_listed
instance_short end None e = tt
instance_short end (Some (v, n)) e = short_length (may planes.Control end LINK-INSTANCE) v.0 n e

context_short : (end : End) (context : Option (ContextBytes × ℕ)) → context_allowed end context ≡ true → ShortContext context
unfolding length_listed
context_short end None e = tt
context_short end (Some (b, n)) e = short_length (may planes.Control end DATALINK-CONTEXT) b.0 n e

pub control_short : (end : End) (m : Control) → control_allowed end m ≡ true → ShortNames m
unfolding control_allowed
control_short end m e =
    let behind = ((and-eq-true_iff (datalink_allowed m.datalink) _).0 e).1 in
    let instance = (and-eq-true_iff (instance_allowed end m.instance) _).0 behind in
    (instance_short end m.instance instance.0, context_short end m.context ((and-eq-true_iff (context_allowed end m.context) _).0 instance.1).0)

pub data_short : (end : End) (m : Data) (n : ℕ) → data_allowed end m n ≡ true → n < 2 ^ 16
unfolding data_allowed
data_short end m n e =
    let behind = ((and-eq-true_iff (datalink_allowed m.datalink) _).0 e).1 in
    let counted = ((and-eq-true_iff (counted_allowed end m.sequence m.channel) _).0 behind).1 in
    let channel = ((and-eq-true_iff (channel_allowed end m.channel) _).0 counted).1 in
    ltb-true n (2 ^ 16) ((and-eq-true_iff (expiration_allowed end m.expiration) _).0 channel).1
