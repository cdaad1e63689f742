-- Every row of the starred examples is right. Assumes nothing.
use Rattle.quantity.specs.Distance.{distance_of, fits_of}
use Rattle.wire.specs.Numbers.{number_from}
use Rattle.meaning.specs.Kinds.{length_listed, value_listed}
use Rattle.meaning.specs.Statuses.{code_operational}
use Rattle.read_option.specs.Items.{item_of, stated_of, answer_of}
use Rattle.acceptance.specs.Examples.{AllRight, table}

pub table_right : AllRight table
unfolding code_operational distance_of fits_of answer_of stated_of item_of length_listed value_listed number_from
table_right = search depth 20
