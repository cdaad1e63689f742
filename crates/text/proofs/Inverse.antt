-- What is written is read back: one law over the base and the number of digits. Assumes nothing.
use Rattle.std.specs.Prelude.{Option, Some, None}
use mathlib.Core.Bool.{Bool, true, false, cond}
use mathlib.Core.Path.{◌≡◌, refl, sym, ap, ◌∙◌}
use mathlib.Core.List.{List, [], ◌∷◌, ◌++◌}
use Prim.Native.Nat.{ℕ, zero, suc, ◌+◌, ◌-◌, ◌*◌, ◌/◌, ◌%◌, ◌^◌, ◌≤◌, ◌<◌}
use native.Mathlib.Decide.{dec_le}
use native.Mathlib.Nat.{pow-zero, pow-suc, mul_assoc, add-mul, div-add-mod', mod-lt, div-lt_iff_lt-mul, mul-le-mul_left}
use native.Mathlib.Omega.{arith}
use borrow.Author.Tests.{lt-ltb, le-ltb, eq-eqb, ne_eqb}
use lib.IntN.{ℤ, pos, negsuc, nat_abs}
use lib.ListN.{length, get_or, drop, get_or-append}
use Rattle.facts.proofs.Tests.{clash}
use Rattle.io.specs.Digits.{last_digits, hex_digit_ascii, IsDigitCount}
use Rattle.text.specs.Laying.{laid, decimal_text, signed_text}
use Rattle.text.specs.Numbers.{digit_of, step_of, and_then, follow_of, plain_of, parse_of}
use Rattle.text.specs.Strings.{before, pairs_of, readable_of, hexed_of, unhexed, pairs_text, bytes_text}
use Rattle.text.proofs.Decimals.{length_digits, decimal_written}
use Rattle.text.proofs.Hexadecimal.{pairs_length, unhex_good}
use Rattle.text.proofs.Reading.{digit_decimal, digit_letter, step_on, size_one, size_more}
use Rattle.text.proofs.Writing.{laid_in}

-- ---- digits

digit_glyph : (d : ℕ) → d < 16 → d ≡ digit_of (hex_digit_ascii d)
digit_glyph d h = elim (dec_le 10 d) [ yes g ↦ letter g | no g ↦ decimal (omega arith) ]
  where
    decimal : d < 10 → d ≡ digit_of (hex_digit_ascii d)
    decimal g = let e : d ≡ 48 + d - 48 = omega arith in rw (lt-ltb d 10 g) (e ∙ digit_decimal (48 + d) (omega arith) (omega arith))

    letter : 10 ≤ d → d ≡ digit_of (hex_digit_ascii d)
    letter g = let e : d ≡ 87 + d - 97 + 10 = omega arith in rw (le-ltb d 10 g) (e ∙ digit_letter (87 + d) (omega arith) (omega arith))

follow_last : (base most value : ℕ) (x : List ℕ) (byte read : ℕ) → follow_of base most value x ≡ Some read
    → follow_of base most value (x ++ (byte ∷ [])) ≡ step_of base most read byte
unfolding follow_of
follow_last base most value [] byte read e = let same : value ≡ read = cc in rw same (end (step_of base most read byte))
  where
    end : (n : Option ℕ) → and_then n (λ longer. Some longer) ≡ n
    end None = refl
    end (Some longer) = refl
follow_last base most value (a ∷ x) byte read e = go (step_of base most value a) (λ longer. follow_last base most longer x byte read) e
  where
    go : (n : Option ℕ)
        → ((longer : ℕ) → follow_of base most longer x ≡ Some read → follow_of base most longer (x ++ (byte ∷ [])) ≡ step_of base most read byte)
        → and_then n (λ longer. follow_of base most longer x) ≡ Some read
        → and_then n (λ longer. follow_of base most longer (x ++ (byte ∷ []))) ≡ step_of base most read byte
    go None f p = clash (cc)
    go (Some longer) f p = f longer p

-- k digits in a base up to 16 behind a number
pub follow_digits : (base most k n value : ℕ) → 0 < base → base ≤ 16 → n < base ^ k → value * base ^ k + n ≤ most
    → follow_of base most value (last_digits base k n) ≡ Some (value * base ^ k + n)
unfolding follow_of
follow_digits base most zero n value o h l m =
    let one : base ^ 0 ≡ 1 = pow-zero base in
    let z : value * base ^ 0 ≡ value * 1 = ap (λ (x : ℕ). value * x) one in
    let e : value ≡ value * base ^ 0 + n = omega arith in
    ap Some e
follow_digits base most (suc k) n value o h l m =
    let p : base ^ suc k ≡ base ^ k * base = pow-suc base k in
    let d : n / base * base + n % base ≡ n = div-add-mod' n base in
    let r : n % base < base = mod-lt n o in
    let front : ℕ = value * base ^ k + n / base in
    let a : value * (base ^ k * base) ≡ value * base ^ k * base = sym (mul_assoc value (base ^ k) base) in
    let t : front * base ≡ value * base ^ k * base + n / base * base = add-mul (value * base ^ k) (n / base) base in
    let whole : value * base ^ suc k + n ≡ front * base + n % base = ap (λ (x : ℕ). value * x + n) p ∙ omega arith in
    let small : n / base < base ^ k = (div-lt_iff_lt-mul {x = n} {y = base ^ k} o).1 (rw p at l) in
    let grows : front * 1 ≤ front * base = mul-le-mul_left front o in
    let room : front * base + n % base ≤ most = omega arith in
    let read = follow_digits base most k (n / base) value o h small (omega arith) in
    follow_last base most value (last_digits base k (n / base)) (hex_digit_ascii (n % base)) front read
    ∙ sym (step_on base most front (hex_digit_ascii (n % base)) (n % base) (digit_glyph (n % base) (omega arith)) r room)
    ∙ ap Some (sym whole)

-- digits alone
digits_back : (base most k n : ℕ) → 0 < base → base ≤ 16 → n < base ^ k → n ≤ most → follow_of base most 0 (last_digits base k n) ≡ Some n
digits_back base most k n o h l m =
    let e : 0 * base ^ k + n ≡ n = omega arith in follow_digits base most k n 0 o h l (omega arith) ∙ ap Some e

-- ---- numbers in decimal

-- the first digit of a number that needs all its digits isn't 0
lead : (k n : ℕ) → 10 ^ k ≤ n → n < 10 ^ suc k → get_or (last_digits 10 (suc k) n) 0 0 ≡ 48 → ⊥
lead zero n h l e =
    let b : n % 10 < 10 = omega arith in
    let c : 48 + n % 10 ≡ 48 = rw (lt-ltb (n % 10) 10 b) at e in
    omega arith
lead (suc j) n h l e =
    let p : 10 ^ suc j ≡ 10 ^ j * 10 = pow-suc 10 j in
    let q : 10 ^ suc (suc j) ≡ 10 ^ suc j * 10 = pow-suc 10 (suc j) in
    let some : 0 < length (last_digits 10 (suc j) (n / 10)) = omega (arith, length_digits 10 (suc j) (n / 10)) in
    let first = get_or-append (last_digits 10 (suc j) (n / 10)) (hex_digit_ascii (n % 10) ∷ []) 0 0 some in
    lead j (n / 10) (omega arith) (omega arith) (sym first ∙ e)

plain_digits : (k n : ℕ) → IsDigitCount 10 1 n k → plain_of (last_digits 10 k n) ≡ true
unfolding plain_of
plain_digits zero n f = absurd (omega (arith, f.0))
plain_digits (suc zero) n f = sym (size_one _ _ _ (last_digits 10 1 n) (length_digits 10 1 n))
plain_digits (suc (suc j)) n f =
    let m : suc (suc j) - 1 ≡ suc j = omega arith in
    let low : 10 ^ suc j ≤ n = rw m at (f.2 (omega arith)) in
    sym (size_more _ _ _ (last_digits 10 (suc (suc j)) n) (omega (arith, length_digits 10 (suc (suc j)) n)))
    ∙ rw (ne_eqb (get_or (last_digits 10 (suc (suc j)) n) 0 0) 48 (lead (suc j) n low f.1))

-- what `put_number` lays is parsed as the number
pub decimal_back : (most n : ℕ) → n ≤ most → n < 10 ^ 20 → parse_of most (decimal_text n) ≡ Some n
unfolding parse_of
decimal_back most n m h =
    let w = decimal_written n h in
    let read = digits_back 10 most w.count n (omega arith) (omega arith) w.fewest.1 m in
    rw (w.same, plain_digits w.count n w.fewest) read

-- ---- byte strings

-- each is a byte
abbrev pub Bytes : List ℕ → Type 0
Bytes bytes = (i : ℕ) → i < length bytes → get_or bytes i 0 < 256

pairs_back : (bytes : List ℕ) → Bytes bytes → pairs_of (pairs_text bytes) ≡ bytes
unfolding pairs_of pairs_text
pairs_back [] h = refl
pairs_back (byte ∷ bytes) h =
    let small : byte < 256 = h 0 (omega arith) in
    let first = digits_back 16 255 2 byte (omega arith) (omega arith) small (omega arith) in
    ap (λ (n : Option ℕ). before n (pairs_of (pairs_text bytes))) first
    ∙ ap (λ (l : List ℕ). byte ∷ l) (pairs_back bytes (λ i g. h (suc i) (omega arith)))

readable_back : (bytes : List ℕ) → Bytes bytes
    → (readable_of (bytes_text bytes) ≡ true) × (pairs_of (bytes_text bytes) ≡ bytes) × (length (bytes_text bytes) / 2 ≡ length bytes)
unfolding readable_of bytes_text pairs_of
readable_back [] h = (sym (size_one _ _ _ (45 ∷ []) refl), refl, refl)
readable_back (byte ∷ bytes) h =
    let all = byte ∷ bytes in
    let e : length (pairs_text all) ≡ length all * 2 = pairs_length all in
    let same : length (pairs_of (pairs_text all)) * 2 ≡ length (pairs_text all) = ap (λ (l : List ℕ). length l * 2) (pairs_back all h) ∙ sym e in
    (sym (size_more _ _ _ (pairs_text all) (omega arith)) ∙ eq-eqb _ _ same, pairs_back all h, omega arith)

-- what `put_bytes` lays is read as the byte string, where it has room
pub bytes_back : (bytes out : List ℕ) → Bytes bytes → length bytes ≤ length out
    → (hexed_of (length out) (bytes_text bytes) ≡ Some (length bytes)) × (unhexed out (bytes_text bytes) ≡ bytes ++ drop (length bytes) out)
bytes_back bytes out h room =
    let k = readable_back bytes h in
    let good = unhex_good (bytes_text bytes) out (laid out 0 bytes) k.0 (omega (arith, k.2)) (ap (laid out 0) (sym k.1)) in
    let e : 0 + length bytes ≡ length bytes = omega arith in
    let front = laid_in out 0 bytes (omega arith) ∙ ap (λ (n : ℕ). bytes ++ drop n out) e in
    (sym good.0 ∙ ap Some k.2, sym good.1 ∙ front)

-- ---- whole numbers

same_number : (m n : ℕ) → m < 10 ^ 20 → n < 10 ^ 20 → decimal_text m ≡ decimal_text n → m ≡ n
same_number m n h g e =
    let p : parse_of (10 ^ 20) (decimal_text m) ≡ Some m = decimal_back (10 ^ 20) m (omega arith) h in
    let q : parse_of (10 ^ 20) (decimal_text n) ≡ Some n = decimal_back (10 ^ 20) n (omega arith) g in
    cc

-- a text that starts with `-` is no number in decimal
no_sign : (n : ℕ) (text : List ℕ) → n < 10 ^ 20 → decimal_text n ≡ 45 ∷ text → ⊥
unfolding parse_of follow_of step_of digit_of
no_sign n text h e =
    let p : parse_of (10 ^ 20) (decimal_text n) ≡ Some n = decimal_back (10 ^ 20) n (omega arith) h in
    let q : parse_of (10 ^ 20) (45 ∷ text) ≡ None = either (plain_of (45 ∷ text)) in
    clash (cc)
  where
    either : (b : Bool) → cond {A = Option ℕ} b None None ≡ None
    either true = refl
    either false = refl

-- no two whole numbers have one text
pub signed_one : (y z : ℤ) → nat_abs y < 10 ^ 20 → nat_abs z < 10 ^ 20 → signed_text y ≡ signed_text z → y ≡ z
unfolding signed_text
signed_one (pos m) (pos n) h g e = ap pos (same_number m n h g e)
signed_one (pos m) (negsuc n) h g e = absurd (no_sign m (decimal_text (suc n)) h e)
signed_one (negsuc m) (pos n) h g e = absurd (no_sign n (decimal_text (suc m)) g (sym e))
signed_one (negsuc m) (negsuc n) h g e = let s : suc m ≡ suc n = same_number (suc m) (suc n) h g (ap (drop 1) e) in ap negsuc (omega arith)
