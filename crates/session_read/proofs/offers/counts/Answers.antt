-- `offers::counts` meets its contract. Assumes nothing.
use mathlib.Core.Path.{refl}
use native.Mathlib.Omega.{arith}
use Rattle.session_read.specs.Offers.{channel_count, expiry_count, length_count, answer_count, counts_from}
use Rattle.session_read.proofs.offers.counts.Goals as goal

pub overflow_add-expiries : goal.overflow_add-expiries
unfolding channel_count expiry_count length_count
overflow_add-expiries c = omega arith

pub offset_bounds-n-channels : goal.offset_bounds-n-channels
unfolding channel_count expiry_count length_count
offset_bounds-n-channels c = omega arith

pub bounds-n-channels : goal.bounds-n-channels
unfolding channel_count expiry_count length_count
bounds-n-channels c = omega arith

pub overflow_add-lengths : goal.overflow_add-lengths
unfolding channel_count expiry_count length_count
overflow_add-lengths c = omega arith

pub overflow_add-lengths-2 : goal.overflow_add-lengths-2
unfolding channel_count expiry_count length_count
overflow_add-lengths-2 c = omega arith

pub offset_bounds-n-channels-2 : goal.offset_bounds-n-channels-2
unfolding channel_count expiry_count length_count
offset_bounds-n-channels-2 c = omega arith

pub bounds-n-channels-2 : goal.bounds-n-channels-2
unfolding channel_count expiry_count length_count
bounds-n-channels-2 c = omega arith

pub overflow_add-answers : goal.overflow_add-answers
unfolding channel_count expiry_count length_count
overflow_add-answers c = omega arith

pub overflow_add-answers-2 : goal.overflow_add-answers-2
unfolding channel_count expiry_count length_count
overflow_add-answers-2 c = omega arith

pub overflow_add-answers-3 : goal.overflow_add-answers-3
unfolding channel_count expiry_count length_count
overflow_add-answers-3 c = omega arith

pub offset_bounds-n-channels-3 : goal.offset_bounds-n-channels-3
unfolding channel_count expiry_count length_count
offset_bounds-n-channels-3 c = omega arith

pub bounds-n-channels-3 : goal.bounds-n-channels-3
unfolding channel_count expiry_count length_count
bounds-n-channels-3 c = omega arith

pub returns : goal.returns
unfolding channel_count expiry_count length_count answer_count counts_from
returns c = refl
