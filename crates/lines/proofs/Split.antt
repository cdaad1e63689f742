-- The lines of a list of bytes, one by one. Assumes nothing.
use mathlib.Core.Path.{◌≡◌, refl, ap, ◌∙◌}
use mathlib.Core.Bool.{Bool, true, false, cond}
use mathlib.Core.List.{List, [], ◌∷◌, ◌++◌, map}
use Prim.Native.Nat.{ℕ, suc, ◌≤◌, ◌<◌}
use native.Mathlib.Omega.{arith}
use borrow.Author.Tests.{lt-ltb, le-ltb}
use lib.Dec.{eqb}
use lib.ListN.{length, take, drop, length-append}
use lib.Seq.{length-take-le}
use Rattle.octets.specs.Bytes.{index_of, index_after}
use Rattle.lines.specs.Reports.{longer, lines_of, before, ended_of, Report, whole, dropped, report_of}

-- ---- the lines of an input, by whether a read fails behind it

abbrev pub lines_by : Bool → List ℕ → List (List ℕ)
lines_by failed bytes = cond failed (ended_of bytes) (lines_of bytes)

abbrev put : Bool → ℕ → List (List ℕ) → List (List ℕ)
put failed byte lines = cond failed (before byte lines) (longer byte lines)

lines_none : (failed : Bool) → lines_by failed [] ≡ []
unfolding lines_of ended_of
lines_none true = refl
lines_none false = refl

lines_on : (failed : Bool) (byte : ℕ) (bytes : List ℕ)
    → lines_by failed (byte ∷ bytes) ≡ cond (eqb byte 10) ([] ∷ lines_by failed bytes) (put failed byte (lines_by failed bytes))
unfolding lines_of ended_of
lines_on true byte bytes = refl
lines_on false byte bytes = refl

put_line : (failed : Bool) (byte : ℕ) (line : List ℕ) (lines : List (List ℕ)) → put failed byte (line ∷ lines) ≡ (byte ∷ line) ∷ lines
put_line true byte line lines = refl
put_line false byte line lines = refl

-- bytes without a newline before the first of some lines
unfoldable joined : Bool → List ℕ → List (List ℕ) → List (List ℕ)
joined failed [] lines = lines
joined failed (byte ∷ bytes) lines = put failed byte (joined failed bytes lines)

joined_line : (failed : Bool) (bytes line : List ℕ) (lines : List (List ℕ)) → joined failed bytes (line ∷ lines) ≡ (bytes ++ line) ∷ lines
unfolding joined
joined_line failed [] line lines = refl
joined_line failed (byte ∷ bytes) line lines = ap (put failed byte) (joined_line failed bytes line lines) ∙ put_line failed byte (bytes ++ line) lines

-- where no line is behind them, they are the last line, or none that ended
joined_last : (bytes : List ℕ) → 0 < length bytes → joined false bytes [] ≡ bytes ∷ []
unfolding joined
joined_last [] h = absurd (omega arith)
joined_last (byte ∷ []) h = refl
joined_last (byte ∷ next ∷ bytes) h = ap (longer byte) (joined_last (next ∷ bytes) (omega arith))

joined_none : (bytes : List ℕ) → joined true bytes [] ≡ []
unfolding joined
joined_none [] = refl
joined_none (byte ∷ bytes) = ap (before byte) (joined_none bytes)

-- bytes with a newline among them, and bytes without
module _ (failed : Bool) (coming : List ℕ) where
  cut_at : (bytes : List ℕ) → index_of 10 bytes < length bytes
      → lines_by failed (bytes ++ coming) ≡ take (index_of 10 bytes) bytes ∷ lines_by failed (drop (suc (index_of 10 bytes)) bytes ++ coming)
  unfolding index_of index_after
  cut_at [] h = absurd (omega arith)
  cut_at (byte ∷ bytes) h = lines_on failed byte (bytes ++ coming) ∙ go (eqb byte 10) h (λ g. cut_at bytes g)
    where
      go : (b : Bool) → index_after b (index_of 10 bytes) < suc (length bytes)
          → (index_of 10 bytes < length bytes
          → lines_by failed (bytes ++ coming) ≡ take (index_of 10 bytes) bytes ∷ lines_by failed (drop (suc (index_of 10 bytes)) bytes ++ coming))
          → let n = index_after b (index_of 10 bytes) in
          cond b ([] ∷ lines_by failed (bytes ++ coming)) (put failed byte (lines_by failed (bytes ++ coming)))
          ≡ take n (byte ∷ bytes) ∷ lines_by failed (drop (suc n) (byte ∷ bytes) ++ coming)
      go true h' f = refl
      go false h' f = ap (put failed byte) (f (omega arith)) ∙ put_line failed byte _ _

  none_at : (bytes : List ℕ) → index_of 10 bytes ≡ length bytes → lines_by failed (bytes ++ coming) ≡ joined failed bytes (lines_by failed coming)
  unfolding index_of index_after joined
  none_at [] h = refl
  none_at (byte ∷ bytes) h = lines_on failed byte (bytes ++ coming) ∙ go (eqb byte 10) h (λ g. none_at bytes g)
    where
      go : (b : Bool) → index_after b (index_of 10 bytes) ≡ suc (length bytes)
          → (index_of 10 bytes ≡ length bytes → lines_by failed (bytes ++ coming) ≡ joined failed bytes (lines_by failed coming))
          → cond b ([] ∷ lines_by failed (bytes ++ coming)) (put failed byte (lines_by failed (bytes ++ coming)))
          ≡ put failed byte (joined failed bytes (lines_by failed coming))
      go true h' f = absurd (omega arith)
      go false h' f = ap (put failed byte) (f (omega arith))

-- ---- what is to be reported of an input, whose first line may have been dropped

-- a last line that was dropped may have no more bytes; where reading failed it is none
abbrev pub first_dropped : Bool → List Report → List Report
first_dropped failed [] = cond failed [] (dropped ∷ [])
first_dropped failed (report ∷ reports) = dropped ∷ reports

abbrev pub meant : Bool → ℕ → Bool → List ℕ → List Report
meant failed size false bytes = map (report_of size) (lines_by failed bytes)
meant failed size true bytes = first_dropped failed (map (report_of size) (lines_by failed bytes))

module _ (failed : Bool) (size : ℕ) where
  pub meant_end : meant failed size false [] ≡ []
  meant_end = rw (lines_none failed)

  put_dropped : (byte : ℕ) (lines : List (List ℕ))
      → first_dropped failed (map (report_of size) (put failed byte lines)) ≡ first_dropped failed (map (report_of size) lines)
  put_dropped byte lines = go failed lines
    where
      go : (b : Bool) (l : List (List ℕ)) → first_dropped b (map (report_of size) (put b byte l)) ≡ first_dropped b (map (report_of size) l)
      go true [] = refl
      go true (line ∷ lines) = refl
      go false [] = refl
      go false (line ∷ lines) = refl

  joined_dropped : (bytes : List ℕ) (lines : List (List ℕ))
      → first_dropped failed (map (report_of size) (joined failed bytes lines)) ≡ first_dropped failed (map (report_of size) lines)
  unfolding joined
  joined_dropped [] lines = refl
  joined_dropped (byte ∷ bytes) lines = put_dropped byte (joined failed bytes lines) ∙ joined_dropped bytes lines

  module _ (bytes coming : List ℕ) where
    -- a newline among what is unread ends the first line
    pub meant_line : index_of 10 bytes < length bytes → length bytes ≤ size
        → meant failed size false (bytes ++ coming)
        ≡ whole (take (index_of 10 bytes) bytes) ∷ meant failed size false (drop (suc (index_of 10 bytes)) bytes ++ coming)
    meant_line h room =
        let n = index_of 10 bytes in
        let short : length (take n bytes) < size = rw (length-take-le n bytes (omega arith)) (omega arith) in
        rw (cut_at failed coming bytes h, lt-ltb (length (take n bytes)) size short)

    pub meant_over : index_of 10 bytes < length bytes
        → meant failed size true (bytes ++ coming) ≡ dropped ∷ meant failed size false (drop (suc (index_of 10 bytes)) bytes ++ coming)
    meant_over h = rw (cut_at failed coming bytes h)

    -- without one, a line that was dropped goes on, and one that fills the buffer is dropped
    pub meant_on : index_of 10 bytes ≡ length bytes → meant failed size true (bytes ++ coming) ≡ meant failed size true coming
    meant_on h = rw (none_at failed coming bytes h) (joined_dropped bytes (lines_by failed coming))

    pub meant_full : index_of 10 bytes ≡ length bytes → size ≤ length bytes → 0 < size
        → meant failed size false (bytes ++ coming) ≡ meant failed size true coming
    meant_full h full o = rw (none_at failed coming bytes h) (go failed (lines_by failed coming))
      where
        go : (b : Bool) (l : List (List ℕ)) → map (report_of size) (joined b bytes l) ≡ first_dropped b (map (report_of size) l)
        go true [] = rw (joined_none bytes)
        go false [] = rw (joined_last bytes (omega arith), le-ltb (length bytes) size full)
        go b (line ∷ lines) =
            let long : size ≤ length (bytes ++ line) = simp length-append (omega arith) in
            rw (joined_line b bytes line lines, le-ltb (length (bytes ++ line)) size long)

-- at the end of the input, what is unread is the last line, and one that was dropped is
module _ {failed : Bool} (size : ℕ) (f : failed ≡ false) where
  pub meant_last : (bytes : List ℕ) → index_of 10 bytes ≡ length bytes → 0 < length bytes → length bytes < size
      → meant failed size false (bytes ++ []) ≡ whole bytes ∷ []
  meant_last bytes h o short =
      rw (f, none_at false [] bytes h, lines_none false, joined_last bytes o, lt-ltb (length bytes) size short)

  pub meant_lost : meant failed size true [] ≡ dropped ∷ []
  meant_lost = rw (f, lines_none false)

-- where a read failed, what is unread is no line
pub meant_none : {failed : Bool} (size : ℕ) (over : Bool) (bytes : List ℕ) → failed ≡ true → index_of 10 bytes ≡ length bytes
    → meant failed size over (bytes ++ []) ≡ []
meant_none size true bytes f h = rw (f, none_at true [] bytes h, lines_none true, joined_none bytes)
meant_none size false bytes f h = rw (f, none_at true [] bytes h, lines_none true, joined_none bytes)
