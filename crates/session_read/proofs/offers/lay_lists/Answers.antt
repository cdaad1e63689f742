-- `offers::lay_lists` meets its contract. Assumes nothing.
use native.Mathlib.Omega.{arith}
use Rattle.session_read.proofs.Offering.{counts_few, one_long, two_long, listed}
use Rattle.session_read.proofs.offers.lay_lists.Goals as goal

pub overflow_add-two : goal.overflow_add-two
overflow_add-two c =
    let few = counts_few _ c.counts-counts.ensures c.requires.offers_fit in
    omega (arith, few.0, few.1, few.2)

pub overflow_add-counts : goal.overflow_add-counts
overflow_add-counts c =
    let few = counts_few _ c.counts-counts.ensures c.requires.offers_fit in
    omega (arith, few.0, few.1, few.2)

pub overflow_add-counts-2 : goal.overflow_add-counts-2
overflow_add-counts-2 c =
    let few = counts_few _ c.counts-counts.ensures c.requires.offers_fit in
    omega (arith, few.0, few.1, few.2)

pub overflow_add-two-2 : goal.overflow_add-two-2
overflow_add-two-2 c =
    let few = counts_few _ c.counts-counts.ensures c.requires.offers_fit in
    omega (arith, few.0, few.1, few.2)

pub overflow_add-two-3 : goal.overflow_add-two-3
overflow_add-two-3 c =
    let few = counts_few _ c.counts-counts.ensures c.requires.offers_fit in
    omega (arith, few.0, few.1, few.2)

pub returns : goal.returns
returns c = listed _ c.counts-counts.ensures c.args.words.now c.lay.ensures c.lay-2.ensures c.lay-3.ensures

pub lay-requires : goal.lay-requires
lay-requires c =
    let few = counts_few _ c.counts-counts.ensures c.requires.offers_fit in
    record {
      count_bound = omega (arith, few.0, few.1, few.2);
      count_bound_2 = omega (arith, few.0, few.1, few.2);
      words_len = c.requires.words_len;
    }

pub lay-requires-2 : goal.lay-requires-2
lay-requires-2 c =
    let few = counts_few _ c.counts-counts.ensures c.requires.offers_fit in
    record {
      count_bound = omega (arith, few.0, few.1, few.2);
      count_bound_2 = omega (arith, few.0, few.1, few.2);
      words_len = one_long _ c.counts-counts.ensures c.requires.offers_fit c.args.words.now c.requires.words_len c.lay.ensures;
    }

pub lay-requires-3 : goal.lay-requires-3
lay-requires-3 c =
    let few = counts_few _ c.counts-counts.ensures c.requires.offers_fit in
    record {
      count_bound = omega (arith, few.0, few.1, few.2);
      count_bound_2 = omega (arith, few.0, few.1, few.2);
      words_len = two_long _ c.counts-counts.ensures c.requires.offers_fit c.args.words.now c.requires.words_len c.lay.ensures c.lay-2.ensures;
    }
