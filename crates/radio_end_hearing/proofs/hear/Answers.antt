-- `hear` meets its contract. Assumes nothing.
use mathlib.Core.Path.{ap}
use Rattle.std.specs.Prelude.{Ok}
use mathlib.Core.Path.{sym, ◌∙◌}
use Rattle.std.proofs.lemmas.Result.{err_from_is_err_and}
use Rattle.radio_end_hearing.proofs.Heard.{hear_unfit, hear_refused, hear_control, hear_data, start_within}
use Rattle.radio_end_hearing.proofs.hear.Goals as goal

pub returns-then-not-fits : goal.returns-then-not-fits
returns-then-not-fits c = hear_unfit _ _ _ (sym c.fits.ensures ∙ c.if-not-fits.true) _ c.refused.ensures

pub overflow_sub-bytes : goal.overflow_sub-bytes
overflow_sub-bytes c = start_within c.args.words.now c.args.datagram.now c.args.out.now (sym c.fits.ensures ∙ c.if-not-fits.false) _ c.plane.ensures _ c.datalink-datalink.ensures _ c.read_with_packet-carried.ensures.value

pub returns-in-Control : goal.returns-in-Control
returns-in-Control c = hear_control _ _ _ (sym c.fits.ensures ∙ c.if-not-fits.false) _ c.plane.ensures _ c.datalink-datalink.ensures (c.in_ok-plane.was ∙ ap Ok c.in-Control.is) _ c.read.ensures _ _ _ c.control.ensures

pub returns-in-Data : goal.returns-in-Data
returns-in-Data c = hear_data _ _ _ (sym c.fits.ensures ∙ c.if-not-fits.false) _ c.plane.ensures _ c.datalink-datalink.ensures (c.in_ok-plane.was ∙ ap Ok c.in-Data.is) _ c.read_with_packet-carried.ensures.value c.read_with_packet-carried.ensures.packet _ _ _ c.«data».ensures

pub returns-in_err-plane : goal.returns-in_err-plane
returns-in_err-plane c = let p = err_from_is_err_and c.from_residual.result c.from_residual.ensures.1 in rw (p.1, p.2) (hear_refused _ _ _ (sym c.fits.ensures ∙ c.if-not-fits.false) _ c.plane.ensures _ c.in_err-plane.was)
