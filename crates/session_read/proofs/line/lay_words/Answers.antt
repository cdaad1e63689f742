-- `line::lay_words` meets its contract. Assumes nothing.
use borrow.Author.Tests.{eq-eqb, ne_eqb}
use Rattle.session_read.specs.Lines.{START, OFFERS, words_by}
use Rattle.session_read.proofs.Bounds.{start_fits, offers_fit}
use Rattle.session_read.proofs.line.lay_words.Goals as goal

pub configure-requires : goal.configure-requires
configure-requires c = record { start_fits = start_fits (rw c.if-key-eq-START.true at c.requires.bounded); words_len = c.requires.words_len }

pub returns-then-key-eq-START : goal.returns-then-key-eq-START
unfolding words_by
returns-then-key-eq-START c = rw (eq-eqb _ START c.if-key-eq-START.true) c.configure.ensures

pub lay_lists-requires : goal.lay_lists-requires
lay_lists-requires c = record { offers_fit = offers_fit (rw c.if-key-eq-OFFERS.true at c.requires.bounded); words_len = c.requires.words_len }

pub returns-then-key-eq-OFFERS : goal.returns-then-key-eq-OFFERS
unfolding words_by
returns-then-key-eq-OFFERS c = rw (ne_eqb _ START c.if-key-eq-START.false, eq-eqb _ OFFERS c.if-key-eq-OFFERS.true) c.lay_lists.ensures

pub returns-else-key-eq-OFFERS : goal.returns-else-key-eq-OFFERS
unfolding words_by
returns-else-key-eq-OFFERS c = rw (ne_eqb _ START c.if-key-eq-START.false, ne_eqb _ OFFERS c.if-key-eq-OFFERS.false)
