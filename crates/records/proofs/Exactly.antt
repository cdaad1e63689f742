-- Files written out byte by byte, in either order, and what is reported of them; and when a file is refused by 25 and by 26. Assumes nothing.
use mathlib.Core.Path.{◌≡◌, refl, sym, ap, ◌∙◌}
use mathlib.Core.Bool.{Bool, true, false}
use mathlib.Core.List.{List, [], ◌∷◌, ◌++◌}
use Prim.Native.Nat.{ℕ, ◌+◌, ◌-◌, ◌*◌, ◌≤◌, ◌<◌}
use native.Mathlib.Omega.{arith}
use borrow.Author.Tests.{lt-ltb, le-ltb}
use lib.ListN.{length, take, drop, length-append}
use lib.Seq.{take-append_seam, drop-append_seam, drop-drop}
use Rattle.quantity.specs.Refusals.{FILE-HEAD, RECORD}
use Rattle.records.specs.declared.Order.{Order}
use Rattle.records.specs.Heads.{pair_at, number_at, is_right, captured_in, original_in, order_of}
use Rattle.records.specs.Unread.{LONGEST}
use Rattle.records.specs.Files.{kept, refused, whole, first_of, records_of, reports_of}
use Rattle.records.proofs.Files.{first_head, first_long, first_cut, first_whole, records_none, records_broken, records_whole}

-- ---- the head: "d4 c3 b2 a1", version 2.4, twelve bytes that aren't looked at, link type 1

module _ (a b c d e f g h i j k l : ℕ) (rest : List ℕ) where
  pub little_head : reports_of (212 ∷ 195 ∷ 178 ∷ 161 ∷ 2 ∷ 0 ∷ 4 ∷ 0 ∷ a ∷ b ∷ c ∷ d ∷ e ∷ f ∷ g ∷ h ∷ i ∷ j ∷ k ∷ l ∷ 1 ∷ 0 ∷ 0 ∷ 0 ∷ rest) ≡ records_of false rest
  unfolding reports_of order_of is_right number_at pair_at
  little_head = rw (le-ltb (length (212 ∷ 195 ∷ 178 ∷ 161 ∷ 2 ∷ 0 ∷ 4 ∷ 0 ∷ a ∷ b ∷ c ∷ d ∷ e ∷ f ∷ g ∷ h ∷ i ∷ j ∷ k ∷ l ∷ 1 ∷ 0 ∷ 0 ∷ 0 ∷ rest)) 24 (omega arith))

  -- "a1 b2 c3 d4"
  pub big_head : reports_of (161 ∷ 178 ∷ 195 ∷ 212 ∷ 0 ∷ 2 ∷ 0 ∷ 4 ∷ a ∷ b ∷ c ∷ d ∷ e ∷ f ∷ g ∷ h ∷ i ∷ j ∷ k ∷ l ∷ 0 ∷ 0 ∷ 0 ∷ 1 ∷ rest) ≡ records_of true rest
  unfolding reports_of order_of is_right number_at pair_at
  big_head = rw (le-ltb (length (161 ∷ 178 ∷ 195 ∷ 212 ∷ 0 ∷ 2 ∷ 0 ∷ 4 ∷ a ∷ b ∷ c ∷ d ∷ e ∷ f ∷ g ∷ h ∷ i ∷ j ∷ k ∷ l ∷ 0 ∷ 0 ∷ 0 ∷ 1 ∷ rest)) 24 (omega arith))

-- 25: too short a file, and any other head
pub short_file : (file : List ℕ) → length file < 24 → reports_of file ≡ refused FILE-HEAD ∷ []
unfolding reports_of
short_file file h = rw (lt-ltb (length file) 24 h)

pub bad_head : (file : List ℕ) → 24 ≤ length file → order_of (take 24 file) ≡ Order.Bad → reports_of file ≡ refused FILE-HEAD ∷ []
unfolding reports_of
bad_head file h e = rw (le-ltb (length file) 24 h, e)

-- ---- a record: eight bytes of time, the captured length, the original length, the bytes

module _ (big : Bool) (bytes frame rest : List ℕ) (original : ℕ) (behind : drop 16 bytes ≡ frame ++ rest) (size : length bytes ≡ 16 + length (frame ++ rest))
    (c : captured_in big bytes ≡ length frame) (o : original_in big bytes ≡ original) (fits : length frame ≤ LONGEST) where
  pub found : records_of big bytes ≡ kept original frame ∷ records_of big rest
  found =
      let inside : 16 + captured_in big bytes ≤ length bytes = rw (c, size) (simp length-append (omega arith)) in
      let first : first_of big bytes ≡ whole (length frame) original = first_whole big bytes inside (rw c fits) ∙ rw (c, o) in
      let far : drop (16 + length frame) bytes ≡ rest = sym (drop-drop (length frame) 16 bytes) ∙ ap (drop (length frame)) behind ∙ drop-append_seam frame rest in
      records_whole big bytes (length frame) original first ∙ rw (far, behind, take-append_seam frame rest)

module _ (s t u v w x y z c d e f o p q r : ℕ) (frame rest : List ℕ) (fits : length frame ≤ LONGEST) where
  pub little_record_lem : c + d * 256 + e * 65536 + f * 16777216 ≡ length frame
      → records_of false (s ∷ t ∷ u ∷ v ∷ w ∷ x ∷ y ∷ z ∷ c ∷ d ∷ e ∷ f ∷ o ∷ p ∷ q ∷ r ∷ (frame ++ rest))
      ≡ kept (o + p * 256 + q * 65536 + r * 16777216) frame ∷ records_of false rest
  unfolding number_at pair_at
  little_record_lem k =
      found false (s ∷ t ∷ u ∷ v ∷ w ∷ x ∷ y ∷ z ∷ c ∷ d ∷ e ∷ f ∷ o ∷ p ∷ q ∷ r ∷ (frame ++ rest)) frame rest (o + p * 256 + q * 65536 + r * 16777216) refl
      (omega arith) (omega arith) (omega arith) fits

  pub big_record_lem : c * 16777216 + d * 65536 + e * 256 + f ≡ length frame
      → records_of true (s ∷ t ∷ u ∷ v ∷ w ∷ x ∷ y ∷ z ∷ c ∷ d ∷ e ∷ f ∷ o ∷ p ∷ q ∷ r ∷ (frame ++ rest))
      ≡ kept (o * 16777216 + p * 65536 + q * 256 + r) frame ∷ records_of true rest
  unfolding number_at pair_at
  big_record_lem k =
      found true (s ∷ t ∷ u ∷ v ∷ w ∷ x ∷ y ∷ z ∷ c ∷ d ∷ e ∷ f ∷ o ∷ p ∷ q ∷ r ∷ (frame ++ rest)) frame rest (o * 16777216 + p * 65536 + q * 256 + r) refl
      (omega arith) (omega arith) (omega arith) fits

-- an end between two records is the end; 26: a head that is cut off, a length over 65,536, and bytes that are cut off
module _ (big : Bool) (bytes : List ℕ) where
  pub no_record : length bytes ≡ 0 → records_of big bytes ≡ []
  no_record h = records_none big bytes h

  pub cut_head : 0 < length bytes → length bytes < 16 → records_of big bytes ≡ refused RECORD ∷ []
  cut_head o h = records_broken big bytes (first_head big bytes o h)

  pub long_record : 16 ≤ length bytes → LONGEST < captured_in big bytes → records_of big bytes ≡ refused RECORD ∷ []
  long_record h g = records_broken big bytes (first_long big bytes h g)

  pub cut_record : 16 ≤ length bytes → length bytes - 16 < captured_in big bytes → records_of big bytes ≡ refused RECORD ∷ []
  cut_record h g = records_broken big bytes (first_cut big bytes h g)
