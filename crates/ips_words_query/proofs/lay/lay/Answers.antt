-- `lay::lay` meets its contract: at each stage the rest of the output is lent to the writer of the next part. Assumes nothing.
use Prim.Native.Nat.{ℕ, ◌-◌, ◌≤◌}
use mathlib.Core.List.{List, [], ◌∷◌}
use lib.ListN.{length, take, drop, set, length-set}
use Rattle.wire.specs.Options.{done, option, Laid}
use Rattle.meaning.specs.Kinds.{DATALINK-IDENTIFIER}
use Rattle.write_option.specs.Laying.{alone}
use Rattle.write_option.proofs.Laying.{Stage, stage, standing_end}
use Rattle.writer.specs.Written.{CONTROL-HEADER}
use Rattle.ips_words_query.specs.Rising.{contents_then, query_written}
use Rattle.ips_words_query.proofs.Laying.{datalink_part_lem, contents_part, query_header}
use Rattle.ips_words_query.proofs.lay.lay.Goals as goal

-- the place where each part is laid
module _ (datalink : ℕ) (contents out : List ℕ) (room : length (query_written datalink contents) ≤ length out) where
  abbrev stage_datalink : Stage (query_written datalink contents) out (option DATALINK-IDENTIFIER (datalink ∷ [])) (contents_then contents done)
  stage_datalink = stage (datalink_part_lem datalink) (query_header datalink contents out room)

  abbrev stage_sequences : (part : List ℕ) (r : ℕ) → Laid (alone (option DATALINK-IDENTIFIER (datalink ∷ []))) (take (length (set out 0 CONTROL-HEADER) - 1) (drop 1 (set out 0 CONTROL-HEADER))) part r
      → Stage (query_written datalink contents) out (contents_then contents) done
  stage_sequences part r laid = stage (contents_part contents) (stage_datalink.lent.back part r laid)

pub bounds-out-0 : goal.bounds-out-0
bounds-out-0 c = rw length-set at (stage_datalink _ _ _ c.requires.contents_in_bounds).lent.start

pub slice_bounds-lay_datalink-count : goal.slice_bounds-lay_datalink-count
slice_bounds-lay_datalink-count c = (stage_datalink _ _ _ c.requires.contents_in_bounds).lent.start

pub slice_bounds-lay_datalink-start : goal.slice_bounds-lay_datalink-start
slice_bounds-lay_datalink-start c = (stage_datalink _ _ _ c.requires.contents_in_bounds).lent.start

pub lay_datalink-at-requires : goal.lay_datalink-at-requires
lay_datalink-at-requires c = (stage_datalink _ _ _ c.requires.contents_in_bounds).lent.room

pub slice_bounds-lay_sequences-count : goal.slice_bounds-lay_sequences-count
slice_bounds-lay_sequences-count c = (stage_sequences _ _ _ c.requires.contents_in_bounds _ _ c.lay_datalink-at.ensures).lent.start

pub slice_bounds-lay_sequences-start : goal.slice_bounds-lay_sequences-start
slice_bounds-lay_sequences-start c = (stage_sequences _ _ _ c.requires.contents_in_bounds _ _ c.lay_datalink-at.ensures).lent.start

pub lay_sequences-at-requires : goal.lay_sequences-at-requires
lay_sequences-at-requires c =
    record { rising_contents = c.requires.rising_contents; contents_in_bounds = (stage_sequences _ _ _ c.requires.contents_in_bounds _ _ c.lay_datalink-at.ensures).lent.room }

pub returns : goal.returns
returns c = standing_end ((stage_sequences _ _ _ c.requires.contents_in_bounds _ _ c.lay_datalink-at.ensures).lent.back _ _ c.lay_sequences-at.ensures)
