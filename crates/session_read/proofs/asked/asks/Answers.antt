-- `asked::asks` meets its contract, command by command. Assumes nothing.
use mathlib.Core.Path.{refl}
use native.Mathlib.Omega.{arith}
use borrow.Author.Tests.{ne_eqb}
use Rattle.line_rows.specs.Tables.{items_behind}
use Rattle.line_rows.specs.Places.{keyed_of, row_of_key}
use Rattle.session_read.specs.Lines.{HIGHEST-ID, READ, ECHO, START, OFFER, OFFERS, NEXT, WITHDRAW, RADIO, PACE, QUERY, SHOW, STORE, KEPT, PACER, asked_by}
use Rattle.session_read.proofs.Bounds.{below, offers_fit}
use Rattle.session_read.proofs.asked.asks.Goals as goal

pub read-requires : goal.read-requires
unfolding row_of_key keyed_of items_behind
read-requires c = omega (arith, below READ 1 {most = HIGHEST-ID} refl (rw c.in-1684104562.is at c.requires))

pub echo-requires : goal.echo-requires
unfolding row_of_key keyed_of items_behind
echo-requires c = omega (arith, below ECHO 1 {most = HIGHEST-ID} refl (rw c.in-1869112165.is at c.requires))

pub offer-requires : goal.offer-requires
unfolding row_of_key keyed_of items_behind
offer-requires c = omega (arith, below OFFER 0 {most = HIGHEST-ID} refl (rw c.in-491327481455.is at c.requires))

pub offers-requires : goal.offers-requires
offers-requires c = offers_fit (rw c.in-126935164675695.is at c.requires)

pub next-requires : goal.next-requires
unfolding row_of_key keyed_of items_behind
next-requires c = omega (arith, below NEXT 0 {most = HIGHEST-ID} refl (rw c.in-1954047342.is at c.requires))

pub channel-requires : goal.channel-requires
unfolding row_of_key keyed_of items_behind
channel-requires c = omega (arith, below WITHDRAW 0 {most = HIGHEST-ID} refl (rw c.in-8602282538829113719.is at c.requires))

pub channel-requires-in-2003789939 : goal.channel-requires-in-2003789939
unfolding row_of_key keyed_of items_behind
channel-requires-in-2003789939 c = omega (arith, below SHOW 0 {most = HIGHEST-ID} refl (rw c.in-2003789939.is at c.requires))

pub channel-requires-in-435711603827 : goal.channel-requires-in-435711603827
unfolding row_of_key keyed_of items_behind
channel-requires-in-435711603827 c = omega (arith, below STORE 0 {most = HIGHEST-ID} refl (rw c.in-435711603827.is at c.requires))

pub returns-in-1684104562 : goal.returns-in-1684104562
unfolding asked_by
returns-in-1684104562 c = rw c.in-1684104562.is c.read.ensures

pub returns-in-1869112165 : goal.returns-in-1869112165
unfolding asked_by
returns-in-1869112165 c = rw c.in-1869112165.is c.echo.ensures

pub returns-in-500135195763 : goal.returns-in-500135195763
unfolding asked_by
returns-in-500135195763 c = rw c.in-500135195763.is

pub returns-in-491327481455 : goal.returns-in-491327481455
unfolding asked_by
returns-in-491327481455 c = rw c.in-491327481455.is c.offer.ensures

pub returns-in-126935164675695 : goal.returns-in-126935164675695
unfolding asked_by
returns-in-126935164675695 c = rw c.in-126935164675695.is c.offers.ensures

pub returns-in-1954047342 : goal.returns-in-1954047342
unfolding asked_by
returns-in-1954047342 c = rw c.in-1954047342.is c.next.ensures

pub returns-in-8602282538829113719 : goal.returns-in-8602282538829113719
unfolding asked_by
returns-in-8602282538829113719 c = rw (c.in-8602282538829113719.is, c.channel.ensures)

pub returns-in-478509556082 : goal.returns-in-478509556082
unfolding asked_by
returns-in-478509556082 c = rw c.in-478509556082.is

pub returns-in-1701011824 : goal.returns-in-1701011824
unfolding asked_by
returns-in-1701011824 c = rw c.in-1701011824.is

pub returns-in-521610294641 : goal.returns-in-521610294641
unfolding asked_by
returns-in-521610294641 c = rw (c.in-521610294641.is, c.room.ensures)

pub returns-in-2003789939 : goal.returns-in-2003789939
unfolding asked_by
returns-in-2003789939 c = rw (c.in-2003789939.is, c.channel-in-2003789939.ensures)

pub returns-in-435711603827 : goal.returns-in-435711603827
unfolding asked_by
returns-in-435711603827 c = rw (c.in-435711603827.is, c.channel-in-435711603827.ensures)

pub returns-in-1953523051 : goal.returns-in-1953523051
unfolding asked_by
returns-in-1953523051 c = rw c.in-1953523051.is

pub returns-in-491327283568 : goal.returns-in-491327283568
unfolding asked_by
returns-in-491327283568 c = rw c.in-491327283568.is

pub returns-in_default : goal.returns-in_default
unfolding asked_by
returns-in_default c =
    simp
    (ne_eqb c.args.key READ (omega arith), ne_eqb c.args.key ECHO (omega arith), ne_eqb c.args.key START (omega arith), ne_eqb c.args.key OFFER (omega arith), ne_eqb c.args.key OFFERS (omega arith), ne_eqb c.args.key NEXT (omega arith), ne_eqb c.args.key WITHDRAW (omega arith), ne_eqb c.args.key RADIO (omega arith), ne_eqb c.args.key PACE (omega arith), ne_eqb c.args.key QUERY (omega arith), ne_eqb c.args.key SHOW (omega arith), ne_eqb c.args.key STORE (omega arith), ne_eqb c.args.key KEPT (omega arith), ne_eqb c.args.key PACER (omega arith))
