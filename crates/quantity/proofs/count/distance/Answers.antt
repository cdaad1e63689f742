-- `count::distance` meets its contract: the word read as a signed one. Assumes nothing.
use Rattle.std.proofs.Common.{◌≡◌, ℕ, ◌^◌, ◌<◌, ap, ◌∙◌, arith, w32, w64, SFits, to_z, le-ltb, lt-ltb}
use Rattle.std.proofs.Math.Facts.{sfits_to_z, sfits_widen}
use mir.ValLaws.{to_z-of_z}
use Rattle.facts.proofs.Tests.{by_le}
use Rattle.quantity.specs.Distance.{signed_of, distance_of}
use Rattle.quantity.proofs.count.distance.Goals as goal

signed_is : (word : ℕ) → word < 2 ^ 32 → to_z w32 word ≡ signed_of word
signed_is word h =
    by_le (2 ^ 31) word
    (λ k. rw (le-ltb word (2 ^ 31) k, lt-ltb word (2 ^ 32) h))
    (λ k. rw (lt-ltb word (2 ^ 31) k))

pub returns : goal.returns
unfolding distance_of
returns c =
    let word : c.cast_signed.result ≡ to_z w32 c.ahead.result = c.cast_signed.ensures in
    let small : SFits w32 c.cast_signed.result = rw word (sfits_to_z (record { fits = omega arith })) in
    let same : c.from.result ≡ c.cast_signed.result = c.from.ensures ∙ to_z-of_z w32 c.cast_signed.result small in
    to_z-of_z w64 c.from.result (rw same (sfits_widen tt small)) ∙ same ∙ word ∙ signed_is c.ahead.result (omega arith) ∙ ap signed_of c.ahead.ensures
