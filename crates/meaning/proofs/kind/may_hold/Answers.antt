-- `kind::may_hold` meets its contract, plane by plane and end by end. Assumes nothing.
use Rattle.meaning.proofs.kind.may_hold.Goals as goal

pub returns-in-Ips : goal.returns-in-Ips
returns-in-Ips c = rw (c.in-Control.is, c.in-Ips.is) c.ips_control.ensures

pub returns-in-Radio : goal.returns-in-Radio
returns-in-Radio c = rw (c.in-Control.is, c.in-Radio.is) c.radio_control.ensures

pub returns-in-Ips-end : goal.returns-in-Ips-end
returns-in-Ips-end c = rw (c.in-Data.is, c.in-Ips-end.is) c.ips_data.ensures

pub returns-in-Radio-end : goal.returns-in-Radio-end
returns-in-Radio-end c = rw (c.in-Data.is, c.in-Radio-end.is) c.radio_data.ensures
