-- Every row of the short lives is right, for the code's channel and for the simple one: computed from the rules. Assumes nothing.
use mathlib.Core.Path.{refl}
use Rattle.quantity.specs.Distance.{distance_of, fits_of}
use Rattle.quantity.specs.Window.{standing_at}
use Rattle.meaning.specs.Statuses.{code_operational}
use Rattle.wire.specs.Numbers.{number_from, bytes_of}
use Rattle.wire.specs.Options.{option_bytes, bytes}
use Rattle.writer.specs.Written.{data_options, data_written}
use Rattle.store.specs.Packets.{lasting, joined, is_full}
use Rattle.ipv6.specs.Ipv6.{is_ipv6}
use Rattle.ips_channel_rules.specs.Rules.{message_bytes, offer_at, try_first, next_at, withdraw_at, radio_at}
use Rattle.ips_channel_rules.specs.Machine.{machine, fresh_machine}
use Rattle.ips_channel_rules.specs.Simple.{simple, fresh_simple}
use Rattle.ips_channel_rules.specs.Lives.{AllRight, table}

pub lives_words : AllRight machine fresh_machine table
unfolding code_operational distance_of fits_of standing_at number_from bytes_of option_bytes bytes data_options data_written lasting joined is_full is_ipv6 message_bytes offer_at try_first next_at withdraw_at radio_at
lives_words = refl

pub lives_simple : AllRight simple fresh_simple table
unfolding code_operational distance_of fits_of standing_at number_from bytes_of option_bytes bytes data_options data_written lasting joined is_full is_ipv6 message_bytes offer_at try_first next_at withdraw_at radio_at
lives_simple = refl
