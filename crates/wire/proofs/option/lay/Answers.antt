-- `option::lay` meets its contract: the frame, and behind it the content copied into the rest. Assumes nothing.
use native.Mathlib.Omega.{arith}
use lib.ListN.{length-set, length-drop, length-take}
use Rattle.wire.specs.Options.{option_bytes}
use Rattle.wire.proofs.Options.{option_length, lay_all, laid_same}
use Rattle.wire.proofs.option.lay.Goals as goal

pub slice_bounds-write-end : goal.slice_bounds-write-end
slice_bounds-write-end c = simp length-set (omega arith)

pub slice_bounds-copy-count : goal.slice_bounds-copy-count
slice_bounds-copy-count c = rw (c.out-1.given.1, length-set) (omega arith)

pub slice_bounds-copy-start : goal.slice_bounds-copy-start
slice_bounds-copy-start c = rw (c.out-1.given.1, length-set) (omega arith)

pub copy-requires : goal.copy-requires
copy-requires c = rw (length-take, length-drop, c.out-1.given.1, length-set) (omega arith)

pub shape_of-out : goal.shape_of-out
shape_of-out c =
    let n = option_length c.args.kind c.args.content.now in
    laid_same (option_bytes c.args.kind c.args.content.now) c.args.out.now _ _ (omega (arith, c.requires.content_in_bounds))
    (lay_all _ _ _ _ _ c.requires.content_in_bounds c.write.ensures c.copy.ensures.bytes)

pub returns : goal.returns
returns c = lay_all _ _ _ _ _ c.requires.content_in_bounds c.write.ensures c.copy.ensures.bytes
