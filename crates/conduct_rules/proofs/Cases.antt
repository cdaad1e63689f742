-- The rules by their numbers: each row is computed. Assumes nothing.
use Rattle.quantity.specs.declared.count.FlowSequence.{FlowSequence}
use Rattle.std.proofs.Common.{◌≡◌, ℕ, Bool, true, false, List, [], ◌∷◌, refl, Option, Some, None}
use Rattle.meaning.specs.declared.message.Window.{Window}
use Rattle.conduct_rules.specs.declared.Flow.{Flow}
use Rattle.conduct_rules.specs.Rules.{flow_of, obeys_within, obeys_of}
use Rattle.quantity.specs.Distance.{distance_of, fits_of}

-- a data message: the flow of its channel, the last sequence there, its bytes, the sequence that it carries, and whether it obeys
pub record Row : Type 0 where
  pub flow : Flow
  pub last : Option FlowSequence
  pub bytes : ℕ
  pub carried : Option FlowSequence
  pub obeys : Bool

row : Flow → Option FlowSequence → ℕ → Option FlowSequence → Bool → Row
row flow last bytes carried obeys = record { flow = flow; last = last; bytes = bytes; carried = carried; obeys = obeys }

abbrev none : Option FlowSequence
none = None

abbrev given : ℕ → Option FlowSequence
given number = Some (record { 0 = number })

abbrev window : ℕ → Flow
window number = flow_of (Some (Window.Given (record { 0 = number })))

abbrev pub Holds : List Row → Type 0
Holds [] = Unit {0}
Holds (r ∷ rows) = (obeys_of r.flow r.last (record { 0 = r.bytes }) r.carried ≡ r.obeys) × Holds rows

pub rows : List Row
rows =
    -- across the wrap: 796 bytes from 4294967000 fit window 500, 797 don't
    row (window 500) (given 4294967000) 796 (given 500) true
    ∷ row (window 500) (given 4294967000) 797 (given 501) false
    -- the sequence after the packet, and no other: from before it, one too few, one too many
    ∷ row (window 500) (given 4294967000) 796 (given 4294967000) false
    ∷ row (window 500) (given 4294967000) 796 (given 499) false
    ∷ row (window 500) (given 4294967000) 796 (given 501) false
    ∷ row (window 500) (given 4294967000) 100 (given 4294967100) true
    -- a window that lies behind as a plain number is ahead, and one that lies before is behind
    ∷ row (window 4294967000) (given 500) 40 (given 540) false
    -- the farthest window: a distance of 2^31 counts as -2^31
    ∷ row (window 2147483747) (given 100) 40 (given 140) true
    ∷ row (window 2147483748) (given 100) 40 (given 140) false
    -- the first with a sequence is counted from its own less its bytes, so that only the window can catch it
    ∷ row (window 500) none 796 (given 500) true
    ∷ row (window 500) none 796 (given 501) false
    ∷ row (window 0) none 40 (given 0) true
    ∷ row (window 0) none 40 (given 1) false
    ∷ row (window 20) none 60 (given 20) true
    -- no bytes: a distance of 0 will do, one of -1 won't
    ∷ row (window 100) (given 100) 0 (given 100) true
    ∷ row (window 99) (given 100) 0 (given 100) false
    -- no sequence under a window
    ∷ row (window 500) (given 4294967000) 796 none false
    ∷ row (window 500) none 0 none false
    -- before any radio control message
    ∷ row Flow.Unseen none 40 none false
    ∷ row Flow.Unseen none 40 (given 40) false
    -- an option without the field: no window
    ∷ row (flow_of (Some Window.Empty)) (given 100) 40 (given 140) false
    ∷ row (flow_of (Some Window.Empty)) (given 100) 40 none false
    -- no option: free
    ∷ row (flow_of None) (given 100) 40 none true
    ∷ row (flow_of None) (given 100) 40 (given 140) false
    ∷ row (flow_of None) none 0 none true
    ∷ []

pub rows_hold : Holds rows
unfolding obeys_within fits_of distance_of rows row
rows_hold =
    (refl, (refl, (refl, (refl, (refl, (refl, (refl, (refl, (refl, (refl, (refl, (refl, (refl, (refl, (refl, (refl, (refl, (refl, (refl, (refl, (refl, (refl, (refl, (refl, (refl, tt)))))))))))))))))))))))))
