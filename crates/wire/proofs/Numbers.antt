-- The laws of big-endian numbers, over the width. Assumes nothing.
use Prim.Native.Nat.{ℕ, zero, suc, ◌+◌, ◌-◌, ◌*◌, ◌/◌, ◌%◌, ◌^◌, ◌≤◌, ◌<◌}
use mathlib.Core.Path.{◌≡◌, refl, sym, ap, ap₂, ◌∙◌}
use mathlib.Core.List.{List, [], ◌∷◌, ◌++◌, append_assoc}
use native.Mathlib.Nat.{pow-suc, pow-le-pow_right, lt_of_lt_of_le, mod-lt, div-add-mod', div-lt_iff_lt-mul}
use native.Mathlib.Numerals.{add-one}
use native.Mathlib.Omega.{arith}
use lib.Arith.{digits_lt, lt-one}
use lib.Dec.{lit<}
use lib.ListN.{length, get_or, drop, set, length-append, length-set}
use lib.Seq.{drop-cons, get_or-set_same, drop-set-lt}
use Rattle.wire.specs.Numbers.{number_from, big_endian, bytes_of, Octets}

-- ---- reading, byte by byte

-- one byte more: the bound over the width
pub more : (i : ℕ) {n x : ℕ} → n < 256 ^ i → x < 256 → n * 256 + x < 256 ^ (i + 1)
more i hn hx = rw (add-one, pow-suc) (digits_lt hn hx)

-- fewer than 8 bytes more: it fits
pub fits_more : {i w n x : ℕ} → i < w → w ≤ 8 → n < 256 ^ i → x < 256 → n * 256 + x < 2 ^ 64
fits_more {i} a b hn hx = lt_of_lt_of_le (more i hn hx) (pow-le-pow_right {n = 256} (lit< tt) {i = i + 1} {j = 8} (omega arith))

pub step : (n : ℕ) (s : List ℕ) (i : ℕ) → i < length s → number_from n (drop i s) ≡ number_from (n * 256 + get_or s i 0) (drop (i + 1) s)
unfolding number_from
step n s i h = rw (add-one, drop-cons s i 0)

-- ---- writing, from the back

-- the writer's turn
pub write_turn : (v n i : ℕ) (b : List ℕ) (w : ℕ) → 0 < i → i ≤ length b → bytes_of i n ++ drop i b ≡ bytes_of w v
    → bytes_of (i - 1) (n / 256) ++ drop (i - 1) (set b (i - 1) (n % 256)) ≡ bytes_of w v
unfolding bytes_of
write_turn v n zero b w p h e = absurd none
  where
    none : ⊥
    none = omega arith
write_turn v n (suc j) b w p h e = rw (less j, at_last b j (n % 256) h) (sym (append_assoc (bytes_of j (n / 256)) (n % 256 ∷ []) (drop (suc j) b)) ∙ e)
  where
    less : (k : ℕ) → suc k - 1 ≡ k
    less k = omega arith

    at_last : (l : List ℕ) (k x : ℕ) → k < length l → drop k (set l k x) ≡ x ∷ drop (suc k) l
    at_last l k x q =
        drop-cons (set l k x) k 0 (rw length-set q)
        ∙ ap₂ (λ (y : ℕ) (r : List ℕ). y ∷ r) (get_or-set_same l k x 0 q) (let g : k < suc k = omega arith in drop-set-lt (suc k) l k x g)

-- ---- there and back, over the width

pub length_bytes : (w n : ℕ) → length (bytes_of w n) ≡ w
unfolding bytes_of
length_bytes zero n = refl
length_bytes (suc w) n = length-append (bytes_of w (n / 256)) _ ∙ ap (λ (k : ℕ). k + 1) (length_bytes w (n / 256)) ∙ add-one w

number_snoc : (n : ℕ) (s : List ℕ) (x : ℕ) → number_from n (s ++ (x ∷ [])) ≡ number_from n s * 256 + x
unfolding number_from
number_snoc n [] x = refl
number_snoc n (y ∷ s) x = number_snoc (n * 256 + y) s x

-- what is written reads back
pub there_and_back : (w n : ℕ) → n < 256 ^ w → big_endian (bytes_of w n) ≡ n
unfolding bytes_of number_from
there_and_back zero n h = sym (lt-one h)
there_and_back (suc w) n h =
    number_snoc 0 (bytes_of w (n / 256)) (n % 256)
    ∙ ap (λ (k : ℕ). k * 256 + n % 256) (there_and_back w (n / 256) ((div-lt_iff_lt-mul (lit< tt)).1 (rw (← pow-suc) h)))
    ∙ div-add-mod' n 256

-- bytes from what is known of each place
pub octets_from : (xs : List ℕ) → ((i : ℕ) → get_or xs i 0 < 256) → Octets xs
octets_from [] f = tt
octets_from (x ∷ xs) f = (f 0, octets_from xs (λ i. f (suc i)))

octets_snoc : (xs : List ℕ) (x : ℕ) → Octets xs → x < 256 → Octets (xs ++ (x ∷ []))
octets_snoc [] x o h = (h, tt)
octets_snoc (y ∷ xs) x o h = (o.0, octets_snoc xs x o.1 h)

pub octets_bytes : (w n : ℕ) → Octets (bytes_of w n)
unfolding bytes_of
octets_bytes zero n = tt
octets_bytes (suc w) n = octets_snoc (bytes_of w (n / 256)) (n % 256) (octets_bytes w (n / 256)) (mod-lt n (lit< tt))

number_below : (xs : List ℕ) (n w : ℕ) → n < 256 ^ w → Octets xs → number_from n xs < 256 ^ (w + length xs)
unfolding number_from
number_below [] n w h o = let e : w + 0 ≡ w = omega arith in rw e h
number_below (x ∷ xs) n w h o = let e : w + suc (length xs) ≡ (w + 1) + length xs = omega arith in rw e (number_below xs (n * 256 + x) (w + 1) (more w h o.0) o.1)

-- a number fits the bytes that spell it
pub big_endian_below : (xs : List ℕ) → Octets xs → big_endian xs < 256 ^ length xs
big_endian_below xs o = let e : 0 + length xs ≡ length xs = omega arith in rw e at (number_below xs 0 0 (lit< tt) o)

-- bytes of one length that spell one number are the same
number_one : (xs ys : List ℕ) (n m : ℕ) → length xs ≡ length ys → Octets xs → Octets ys → number_from n xs ≡ number_from m ys → (n ≡ m) × (xs ≡ ys)
unfolding number_from
number_one [] [] n m l o p e = (e, refl)
number_one [] (y ∷ ys) n m l o p e = absurd (omega arith)
number_one (x ∷ xs) [] n m l o p e = absurd (omega arith)
number_one (x ∷ xs) (y ∷ ys) n m l o p e =
    let rest : (n * 256 + x ≡ m * 256 + y) × (xs ≡ ys) = number_one xs ys (n * 256 + x) (m * 256 + y) (omega arith) o.1 p.1 e in
    let hx : x < 256 = o.0 in
    let hy : y < 256 = p.0 in
    let q : n * 256 + x ≡ m * 256 + y = rest.0 in
    (omega arith, ap₂ (λ (z : ℕ) (zs : List ℕ). z ∷ zs) (omega arith) rest.1)

-- what is read is written back as it stood
pub back_and_there : (xs : List ℕ) → Octets xs → bytes_of (length xs) (big_endian xs) ≡ xs
back_and_there xs o =
    (number_one (bytes_of (length xs) (big_endian xs)) xs 0 0 (length_bytes (length xs) (big_endian xs)) (octets_bytes (length xs) (big_endian xs)) o
    (there_and_back (length xs) (big_endian xs) (big_endian_below xs o))).1
