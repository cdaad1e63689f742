-- The laws of options: a body is exactly the concatenation of its options, and back. No bound on their number shows in any of them. Assumes nothing.
use Rattle.std.specs.Prelude.{Option, Some, None}
use Prim.Native.Nat.{ℕ, zero, suc, ◌+◌, ◌-◌, ◌*◌, ◌^◌, ◌≤◌, ◌<◌}
use mathlib.Core.Path.{◌≡◌, refl, sym, ap, ap₂, ◌∙◌}
use mathlib.Core.List.{List, [], ◌∷◌, ◌++◌, append_assoc, append-nil}
use mathlib.Core.Bool.{Bool, true, false, cond}
use native.Mathlib.Omega.{arith}
use borrow.Author.Tests.{lt-ltb, le-ltb, eq-eqb, ne_eqb, eqb-true, ltb-false}
use lib.Dec.{ltb, eqb}
use lib.ListN.{length, get_or, take, drop, set, length-append, length-drop, take-append-drop, drop_of_length-le}
use lib.Seq.{length-take-le, take-length, drop-length, take_at, drop_at, drop-drop, drop-cons}
use Rattle.wire.specs.Numbers.{number_from, big_endian, bytes_of, Octets}
use Rattle.wire.specs.Options.{option_bytes, length_at, frame_of, Options, done, cut, option, bytes, split_first, split_with, split, WholeOptions, Laid}
use Rattle.wire.proofs.Numbers.{length_bytes, there_and_back, back_and_there}

-- ---- the first option

pub length_at_lem : (xs : List ℕ) → 3 ≤ length xs → get_or xs 1 0 * 256 + get_or xs 2 0 ≡ length_at xs
unfolding number_from
length_at_lem [] h = absurd (omega arith)
length_at_lem (a ∷ []) h = absurd (omega arith)
length_at_lem (a ∷ (b ∷ [])) h = absurd (omega arith)
length_at_lem (a ∷ (b ∷ (c ∷ xs))) h = omega arith

pub frame_short : (xs : List ℕ) → length xs < 3 → None ≡ frame_of xs
unfolding frame_of
frame_short xs h = simp (lt-ltb (length xs) 3 h)

pub frame_past : (xs : List ℕ) → 3 ≤ length xs → length xs - 3 < length_at xs → None ≡ frame_of xs
unfolding frame_of
frame_past xs h k = simp (le-ltb (length xs) 3 h, lt-ltb (length xs - 3) (length_at xs) k)

-- a whole frame, by its type and its length
abbrev pub whole : ℕ → ℕ → Option (ℕ × ℕ)
whole kind size = Some (kind, size)

pub frame_whole : (xs : List ℕ) → 3 + length_at xs ≤ length xs → Some (get_or xs 0 0, length_at xs) ≡ frame_of xs
unfolding frame_of
frame_whole xs h =
    let g : 3 ≤ length xs = omega arith in
    let k : length_at xs ≤ length xs - 3 = omega arith in
    simp (le-ltb (length xs) 3 g, le-ltb (length xs - 3) (length_at xs) k)

-- what a frame tells of a rest
pub record Fits-whole (xs : List ℕ) (kind size : ℕ) : Type 0 where
  pub kind_is : kind ≡ get_or xs 0 0
  pub size_is : size ≡ length_at xs
  pub inside : 3 + size ≤ length xs

pub frame_tells : (xs : List ℕ) (kind size : ℕ) → frame_of xs ≡ Some (kind, size) → Fits-whole xs kind size
unfolding frame_of
frame_tells xs kind size e = go (ltb (length xs) 3) refl (ltb (length xs - 3) (length_at xs)) refl e
  where
    go : (b : Bool) → ltb (length xs) 3 ≡ b → (d : Bool) → ltb (length xs - 3) (length_at xs) ≡ d
        → cond {A = Option (ℕ × ℕ)} b None (cond d None (Some (get_or xs 0 0, length_at xs))) ≡ Some (kind, size) → Fits-whole xs kind size
    go true p d q r = let z : ◌≡◌ {A = ℕ} 0 1 = cc in absurd (omega arith)
    go false p true q r = let z : ◌≡◌ {A = ℕ} 0 1 = cc in absurd (omega arith)
    go false p false q r =
        let a = ltb-false (length xs) 3 p in
        let b = ltb-false (length xs - 3) (length_at xs) q in
        let both : ◌≡◌ {A = ℕ × ℕ} (get_or xs 0 0, length_at xs) (kind, size) = cc in
        let n : length_at xs ≡ size = ap (λ (p : ℕ × ℕ). p.1) both in
        record { kind_is = sym (ap (λ (p : ℕ × ℕ). p.0) both); size_is = sym n; inside = omega arith }

-- ---- a body, option by option

-- two ways to cut what is shorter that agree there
same_first : (xs : List ℕ) (f g : List ℕ → Options) → ((ys : List ℕ) → length ys < length xs → f ys ≡ g ys) → split_first (frame_of xs) xs f ≡ split_first (frame_of xs) xs g
same_first xs f g agree = go (frame_of xs) refl
  where
    go : (t : Option (ℕ × ℕ)) → frame_of xs ≡ t → split_first t xs f ≡ split_first t xs g
    go None e = refl
    go (Some (kind, size)) e = let t = (frame_tells xs kind size e).inside in ap (option kind (take size (drop 3 xs))) (agree (drop (3 + size) xs) (rw length-drop (omega arith)))

-- a bound of the rest's length or more changes nothing
enough : (k j : ℕ) (xs : List ℕ) → length xs ≤ k → length xs ≤ j → split_with k xs ≡ split_with j xs
unfolding split_with
enough zero zero xs h g = refl
enough zero (suc j) xs h g = let e : length xs ≡ 0 = omega arith in simp (eq-eqb (length xs) 0 e)
enough (suc k) zero xs h g = let e : length xs ≡ 0 = omega arith in simp (eq-eqb (length xs) 0 e)
enough (suc k) (suc j) xs h g =
    ap (cond (eqb (length xs) 0) done) (same_first xs (split_with k) (split_with j) (λ ys l. enough k j ys (omega arith) (omega arith)))

-- the unfolding, with no bound
split_eq : (xs : List ℕ) → 0 < length xs → split xs ≡ split_first (frame_of xs) xs split
unfolding split split_with
split_eq xs h =
    let n : length xs ≡ 0 → ⊥ = λ e. omega arith in
    enough (length xs) (suc (length xs)) xs (omega arith) (omega arith)
    ∙ rw (ne_eqb (length xs) 0 n) (same_first xs (split_with (length xs)) split (λ ys l. enough (length xs) (length ys) ys (omega arith) (omega arith)))

pub split_end : (xs : List ℕ) → length xs ≡ 0 → split xs ≡ done
unfolding split split_with
split_end xs e = rw e

pub split_cut : (xs : List ℕ) → 0 < length xs → frame_of xs ≡ None → split xs ≡ cut xs
split_cut xs h e = split_eq xs h ∙ rw e

pub split_whole : (xs : List ℕ) (kind size : ℕ) → frame_of xs ≡ Some (kind, size) → split xs ≡ option kind (take size (drop 3 xs)) (split (drop (3 + size) xs))
split_whole xs kind size e = let t = (frame_tells xs kind size e).inside in split_eq xs (omega arith) ∙ rw e

-- ---- the concatenation of its options, and back

-- an option in front of other bytes is found whole
module _ (kind : ℕ) (content rest : List ℕ) (h : length content < 2 ^ 16) where
  abbrev pub front : List ℕ
  front = option_bytes kind content ++ rest

  regroup : front ≡ kind ∷ (bytes_of 2 (length content) ++ (content ++ rest))
  unfolding option_bytes
  regroup = ap (λ (l : List ℕ). kind ∷ l) (append_assoc (bytes_of 2 (length content)) content rest)

  size_is : length_at front ≡ length content
  size_is = rw regroup (ap big_endian (take_at (bytes_of 2 (length content)) (content ++ rest) 2 (length_bytes 2 (length content))) ∙ there_and_back 2 (length content) h)

  behind_frame : drop 3 front ≡ content ++ rest
  behind_frame = rw regroup (drop_at (bytes_of 2 (length content)) (content ++ rest) 2 (length_bytes 2 (length content)))

  long : length front ≡ 3 + (length content + length rest)
  long = rw regroup (simp length-append (rw (length_bytes 2 (length content)) (omega arith)))

  front_frame : frame_of front ≡ Some (kind, length content)
  front_frame =
      sym (frame_whole front (let a = size_is in let b = long in omega arith))
      ∙ ap₂ whole (ap (λ (l : List ℕ). get_or l 0 0) regroup) size_is

  pub split_front : split front ≡ option kind content (split rest)
  split_front =
      split_whole front kind (length content) front_frame
      ∙ ap₂ (option kind)
      (ap (take (length content)) behind_frame ∙ take_at content rest (length content) refl)
      (ap split (sym (drop-drop (length content) 3 front) ∙ ap (drop (length content)) behind_frame ∙ drop_at content rest (length content) refl))

-- the options of a body that was laid down option by option are those options
pub split_bytes : (f : Options) → WholeOptions f → split (bytes f) ≡ f
unfolding bytes WholeOptions
split_bytes done w = split_end [] refl
split_bytes (cut xs) w = absurd w
split_bytes (option kind content f) w = split_front kind content (bytes f) w.0 ∙ ap (option kind content) (split_bytes f w.1)

octets_take : (n : ℕ) (xs : List ℕ) → Octets xs → Octets (take n xs)
octets_take zero xs o = tt
octets_take (suc n) [] o = tt
octets_take (suc n) (x ∷ xs) o = (o.0, octets_take n xs o.1)

octets_drop : (n : ℕ) (xs : List ℕ) → Octets xs → Octets (drop n xs)
octets_drop zero xs o = o
octets_drop (suc n) [] o = tt
octets_drop (suc n) (x ∷ xs) o = octets_drop n xs o.1

-- the first option's bytes, and those behind it
first_bytes_lem : (xs : List ℕ) (kind size : ℕ) → Octets xs → frame_of xs ≡ Some (kind, size) → option_bytes kind (take size (drop 3 xs)) ++ drop (3 + size) xs ≡ xs
unfolding option_bytes
first_bytes_lem xs kind size o e =
    let t = frame_tells xs kind size e in
    let i : 3 + size ≤ length xs = t.inside in
    let n : length (take size (drop 3 xs)) ≡ size = length-take-le size (drop 3 xs) (rw length-drop (omega arith)) in
    let two : length (take 2 (drop 1 xs)) ≡ 2 = length-take-le 2 (drop 1 xs) (rw length-drop (omega arith)) in
    let number : bytes_of 2 size ≡ take 2 (drop 1 xs) =
    ap (bytes_of 2) t.size_is ∙ ap (λ (w : ℕ). bytes_of w (length_at xs)) (sym two) ∙ back_and_there (take 2 (drop 1 xs)) (octets_take 2 (drop 1 xs) (octets_drop 1 xs o)) in
    rw (n, number, t.kind_is)
    (ap (λ (l : List ℕ). get_or xs 0 0 ∷ l)
    (append_assoc (take 2 (drop 1 xs)) (take size (drop 3 xs)) (drop (3 + size) xs)
    ∙ ap (λ (l : List ℕ). take 2 (drop 1 xs) ++ (take size (drop 3 xs) ++ l)) (sym (drop-drop size 3 xs))
    ∙ ap (λ (l : List ℕ). take 2 (drop 1 xs) ++ l) (take-append-drop size (drop 3 xs) ∙ sym (drop-drop 2 1 xs))
    ∙ take-append-drop 2 (drop 1 xs))
    ∙ sym (drop-cons xs 0 0 (omega arith)))

-- what is known of every shorter rest
abbrev Shorter : ℕ → List ℕ → Type 0
Shorter k xs = (ys : List ℕ) → length ys < length xs → Octets ys → bytes (split_with k ys) ≡ ys

bytes_with : (k : ℕ) (xs : List ℕ) → length xs ≤ k → Octets xs → bytes (split_with k xs) ≡ xs
unfolding split_with bytes
bytes_with zero xs h o = sym (drop_of_length-le xs {i = 0} (omega arith))
bytes_with (suc k) xs h o = each (eqb (length xs) 0) refl (λ ys l p. bytes_with k ys (omega arith) p)
  where
    go : (f : Option (ℕ × ℕ)) → frame_of xs ≡ f → Shorter k xs → bytes (split_first f xs (split_with k)) ≡ xs
    go None e shorter = refl
    go (Some (kind, size)) e shorter =
        let t = (frame_tells xs kind size e).inside in
        ap (λ (l : List ℕ). option_bytes kind (take size (drop 3 xs)) ++ l) (shorter (drop (3 + size) xs) (rw length-drop (omega arith)) (octets_drop (3 + size) xs o))
        ∙ first_bytes_lem xs kind size o e

    each : (b : Bool) → eqb (length xs) 0 ≡ b → Shorter k xs → bytes (cond b done (split_first (frame_of xs) xs (split_with k))) ≡ xs
    each true e shorter = sym (drop_of_length-le xs {i = 0} (omega (arith, eqb-true (length xs) 0 e)))
    each false e shorter = go (frame_of xs) refl shorter

-- a body is the concatenation of its options
pub bytes_split : (xs : List ℕ) → Octets xs → bytes (split xs) ≡ xs
unfolding split
bytes_split xs o = bytes_with (length xs) xs (omega arith) o

-- ---- laying one down

pub option_length : (kind : ℕ) (content : List ℕ) → length (option_bytes kind content) ≡ 3 + length content
unfolding option_bytes
option_length kind content = simp length-append (rw (length_bytes 2 (length content)) (omega arith))

pub laid_same : (text entry exit : List ℕ) (n : ℕ) → length text ≤ length entry → Laid text entry exit n → length exit ≡ length entry
laid_same text entry exit n h k = ap length k.bytes_are ∙ simp (length-append, length-drop) (omega arith)

-- any two outcomes coincide
pub laid_one : {text entry exit exit' : List ℕ} {n n' : ℕ} → Laid text entry exit n → Laid text entry exit' n' → (exit ≡ exit') × (n ≡ n')
laid_one k l = (k.bytes_are ∙ sym l.bytes_are, k.count_is ∙ sym l.count_is)

-- the type, and behind it the length's bytes
abbrev pub framed : List ℕ → ℕ → List ℕ → List ℕ
framed out kind size = take 1 (set out 0 kind) ++ (size ++ drop 2 (drop 1 (set out 0 kind)))

-- the length over the two places behind the type, and the content copied into the rest behind them
pub lay_all : (out content size p : List ℕ) (kind : ℕ) → 3 + length content ≤ length out
    → size ≡ bytes_of (length (take 2 (drop 1 (set out 0 kind)))) (length content)
    → p ≡ take (length content) content ++ drop (length content) (take (length (framed out kind size) - 3) (drop 3 (framed out kind size)))
    → Laid (option_bytes kind content) out
    (take 3 (framed out kind size) ++ (p ++ drop (length (framed out kind size) - 3) (drop 3 (framed out kind size))))
    (3 + length content)
unfolding option_bytes bytes_of
lay_all [] content size p kind k l e = absurd (omega arith)
lay_all (a ∷ []) content size p kind k l e = absurd (omega arith)
lay_all (a ∷ (b ∷ [])) content size p kind k l e = absurd (omega arith)
lay_all (a ∷ (b ∷ (c ∷ out))) content size p kind k l e =
    let n : suc (suc (suc (length out))) - 3 ≡ length out = omega arith in
    let q : p ≡ content ++ drop (length content) out = e ∙ rw (l, n, take-length, take-length) in
    record { count_is = omega arith; bytes_are = rw (l, n, drop-length, append-nil, q) }
