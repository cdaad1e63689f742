-- `line::read` meets its contract: the table reads the line. Assumes nothing.
use Prim.Native.Nat.{ℕ}
use lib.ListN.{length-replicate}
use Rattle.session_read.specs.Lines.{CONFIGURATION-WORDS}
use Rattle.session_read.proofs.Lines.{read_bounded, read_asks}
use Rattle.session_read.proofs.line.read.Goals as goal

pub asks-asked-requires : goal.asks-asked-requires
asks-asked-requires c = read_bounded c.args.line.now c.shortened.ensures c.read-told.ensures

pub starts-start-requires : goal.starts-start-requires
starts-start-requires c = read_bounded c.args.line.now c.shortened.ensures c.read-told.ensures

pub lay_words-requires : goal.lay_words-requires
lay_words-requires c = record { bounded = read_bounded c.args.line.now c.shortened.ensures c.read-told.ensures; words_len = length-replicate {A = ℕ} CONFIGURATION-WORDS 0 }

pub returns : goal.returns
returns c = read_asks c.args.line.now c.shortened.ensures c.read-told.ensures c.asks-asked.ensures c.starts-start.ensures c.lay_words.ensures
