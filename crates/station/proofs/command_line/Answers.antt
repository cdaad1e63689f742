-- `command_line` meets its contract, command by command. Assumes nothing.
use mathlib.Core.Path.{refl}
use Rattle.station.proofs.command_line.Goals as goal

pub returns-in-Hear : goal.returns-in-Hear
returns-in-Hear c = rw c.in-Hear.is c.hear_line.ensures

pub returns-in-Status : goal.returns-in-Status
returns-in-Status c = rw c.in-Status.is c.status_line.ensures

pub returns-in-Context : goal.returns-in-Context
returns-in-Context c = rw c.in-Context.is c.context_line.ensures

pub returns-in-Queued : goal.returns-in-Queued
returns-in-Queued c = rw c.in-Queued.is c.queued_line.ensures

pub returns-in-Link : goal.returns-in-Link
returns-in-Link c = rw c.in-Link.is c.link_line.ensures

pub returns-in-Tell : goal.returns-in-Tell
returns-in-Tell c = rw c.in-Tell.is c.tell_line.ensures

pub returns-in-Show : goal.returns-in-Show
returns-in-Show c = rw c.in-Show.is (record { says = c.show_line.ensures; words_are = refl })
