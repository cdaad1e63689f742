-- The header of section 3.1, and the tests on it: "Reading: 1, 2, then ..".
use Rattle.std.specs.Prelude.{ℕ, ◌/◌, ◌%◌, List, cond, length, get_or, drop, ltb, eqb}
use Rattle.quantity.specs.Limits.{LONGEST-DATAGRAM}
use Rattle.quantity.specs.Refusals.{LONG-DATAGRAM, HEADER}
use Rattle.wire.specs.Options.{split}
use Rattle.meaning.specs.declared.message.Plane.{Plane}
use Rattle.meaning.specs.declared.message.Plane.TheVariants.{Control, Data}
use Rattle.read_rules.specs.Judging.{Rules, judge}

-- section 3.1: a version of 4 bits, the Data Plane flag, 3 unused bits
abbrev pub version_of : ℕ → ℕ
version_of header = header / 16

abbrev pub flag_of : ℕ → ℕ
flag_of header = header / 8 % 2

abbrev pub CURRENT-VERSION : ℕ
CURRENT-VERSION = 1

abbrev pub flag : Plane → ℕ
flag Control = 0
flag Data = 1

-- a datagram: 1, then 2, then its options, if it is of this plane
unfoldable pub read_with : {A B : Type 0} → Rules A B → List ℕ → B
read_with R datagram =
    cond (ltb LONGEST-DATAGRAM (length datagram)) (R.refuse LONG-DATAGRAM 0)
    (cond (eqb (length datagram) 0) (R.refuse HEADER 0)
    (cond (eqb (version_of (get_or datagram 0 0)) CURRENT-VERSION)
    (cond (eqb (flag_of (get_or datagram 0 0)) (flag R.plane)) (judge R (split (drop 1 datagram)) 1 R.blank) R.other)
    (R.refuse HEADER 0)))
