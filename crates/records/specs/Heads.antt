-- Document 02, §9: "classic pcap files (microsecond form, link type 1, both byte orders)". The file's head of 24 bytes: a magic number, a version of two
-- numbers of two bytes, zone, figures and snapshot length, which aren't looked at, and the link type. A record's head of 16 bytes: a time of two numbers,
-- the captured length, the original length.
use Rattle.std.specs.Prelude.{Bool, true, false, cond, ◌&&◌, List, ℕ, ◌+◌, ◌*◌, eqb, get_or}
use Rattle.records.specs.declared.Order.{Order}

-- a number of two bytes at an index, the higher first or last
unfoldable pub pair_at : Bool → ℕ → List ℕ → ℕ
pair_at big n bytes = cond big (get_or bytes n 0 * 256 + get_or bytes (n + 1) 0) (get_or bytes (n + 1) 0 * 256 + get_or bytes n 0)

-- a number of four bytes: two pairs in the same order
unfoldable pub number_at : Bool → ℕ → List ℕ → ℕ
number_at big n bytes = cond big (pair_at big n bytes * 65536 + pair_at big (n + 2) bytes) (pair_at big (n + 2) bytes * 65536 + pair_at big n bytes)

-- version 2.4, and link type 1
unfoldable pub is_right : Bool → List ℕ → Bool
is_right big head = eqb (pair_at big 4 head) 2 && eqb (pair_at big 6 head) 4 && eqb (number_at big 20 head) 1

-- "d4 c3 b2 a1" and "a1 b2 c3 d4", the highest byte first
abbrev pub LITTLE-MAGIC : ℕ
LITTLE-MAGIC = 3569595041

abbrev pub BIG-MAGIC : ℕ
BIG-MAGIC = 2712847316

-- the byte order of a head that is right
unfoldable pub order_of : List ℕ → Order
order_of head =
    cond (eqb (number_at true 0 head) BIG-MAGIC) (cond (is_right true head) Order.Big Order.Bad)
    (cond (eqb (number_at true 0 head) LITTLE-MAGIC) (cond (is_right false head) Order.Little Order.Bad) Order.Bad)

abbrev pub captured_in : Bool → List ℕ → ℕ
captured_in big bytes = number_at big 8 bytes

abbrev pub original_in : Bool → List ℕ → ℕ
original_in big bytes = number_at big 12 bytes
