-- The three lists of an `offers`, laid one behind the other. Assumes nothing.
use mathlib.Core.Path.{◌≡◌, refl, ◌∙◌}
use mathlib.Core.List.{List, [], ◌++◌}
use Prim.Native.Nat.{ℕ, ◌+◌, ◌≤◌}
use native.Mathlib.Omega.{arith}
use lib.ListN.{length, length-append}
use lib.Seq.{paste, length-paste}
use Rattle.line_rows.specs.Rows.{over}
use Rattle.session_read.specs.declared.offers.ListCounts.{ListCounts}
use Rattle.session_read.specs.Lines.{MOST-SETTINGS, CONFIGURATION-WORDS, OffersFit}
use Rattle.session_read.specs.Words.{said_from}
use Rattle.session_read.specs.Offers.{SAID-CHANNELS, SAID-EXPIRIES, SAID-LENGTHS, channel_count, expiry_count, length_count, counts_from, channels_offered, expiries_offered, lengths_offered, lists_from}
use Rattle.session_read.proofs.Laying.{said_length, laid_after}

-- a paste leaves the words as long
laid_long : (n : ℕ → ℕ) (words : List ℕ) {words' : List ℕ} (to from count : ℕ) → to + count ≤ CONFIGURATION-WORDS → length words ≡ CONFIGURATION-WORDS → words' ≡ paste words to (said_from n from count) count
    → length words' ≡ CONFIGURATION-WORDS
laid_long n words to from count h long e = let size = said_length n from count in rw e (length-paste words to (said_from n from count) count (omega arith) (omega arith) ∙ long)

lists_laid : (n : ℕ → ℕ) (words : List ℕ) {one two three : List ℕ} → one ≡ paste words 0 (channels_offered n) (channel_count n) → two ≡ paste one (channel_count n) (expiries_offered n) (expiry_count n)
    → three ≡ paste two (channel_count n + expiry_count n) (lengths_offered n) (length_count n) → three ≡ over (lists_from n) words
unfolding lists_from
lists_laid n words {one} {two} e f g =
    let channels : one ≡ over (channels_offered n) words = laid_after n [] words (SAID-CHANNELS + 1) (channel_count n) refl refl e in
    let size : length (channels_offered n) ≡ channel_count n = said_length n (SAID-CHANNELS + 1) (channel_count n) in
    let expiries : two ≡ over (channels_offered n ++ expiries_offered n) words = laid_after n (channels_offered n) words (SAID-EXPIRIES + channel_count n + 1) (expiry_count n) size channels f in
    let more : length (channels_offered n ++ expiries_offered n) ≡ channel_count n + expiry_count n =
    length-append (channels_offered n) (expiries_offered n) ∙ omega (arith, said_length n (SAID-EXPIRIES + channel_count n + 1) (expiry_count n)) in
    laid_after n (channels_offered n ++ expiries_offered n) words (SAID-LENGTHS + channel_count n + expiry_count n + 1) (length_count n) more expiries g

-- ---- by the counts that the code has
module _ (n : ℕ → ℕ) {r : ListCounts} (e : r ≡ counts_from n) where
  pub counts_few : OffersFit n → (r.channels ≤ MOST-SETTINGS) × (r.expiries ≤ MOST-SETTINGS) × (r.lengths ≤ MOST-SETTINGS)
  unfolding counts_from
  counts_few f = rw e (f.channels, f.expiries, f.lengths)

  module _ (fits : OffersFit n) (words : List ℕ) {one : List ℕ} (long : length words ≡ CONFIGURATION-WORDS) (f : one ≡ paste words 0 (said_from n (SAID-CHANNELS + 1) r.channels) r.channels) where
    pub one_long : length one ≡ CONFIGURATION-WORDS
    one_long = let few = counts_few fits in laid_long n words 0 (SAID-CHANNELS + 1) r.channels (omega (arith, few.0)) long f

    pub two_long : {two : List ℕ} → two ≡ paste one r.channels (said_from n (SAID-EXPIRIES + r.channels + 1) r.expiries) r.expiries → length two ≡ CONFIGURATION-WORDS
    two_long g = let few = counts_few fits in laid_long n one r.channels (SAID-EXPIRIES + r.channels + 1) r.expiries (omega (arith, few.0, few.1)) one_long g

  pub listed : (words : List ℕ) {one two three : List ℕ} → one ≡ paste words 0 (said_from n (SAID-CHANNELS + 1) r.channels) r.channels
      → two ≡ paste one r.channels (said_from n (SAID-EXPIRIES + r.channels + 1) r.expiries) r.expiries
      → three ≡ paste two (r.channels + r.expiries) (said_from n (SAID-LENGTHS + (r.channels + r.expiries) + 1) r.lengths) r.lengths → three ≡ over (lists_from n) words
  unfolding counts_from
  listed words f g h =
      let place : SAID-LENGTHS + (channel_count n + expiry_count n) + 1 ≡ SAID-LENGTHS + channel_count n + expiry_count n + 1 = omega arith in
      lists_laid n words (rw e at f) (rw e at g) (rw (e, place) at h)
