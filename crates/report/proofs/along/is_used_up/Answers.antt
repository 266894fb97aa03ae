-- `report::along::is_used_up` meets its contract: the status is 2 where oxygen is used up above, 0 where oxygen is surely nowhere below zero, and else that of the line.
-- Assumes nothing.
use Rattle.decay.specs.Exact.{foot}
use Rattle.report.specs.Status.{status_by, is_used}
use Rattle.report.specs.held.Along.{AlongReach, AlongHead}
use Rattle.report.specs.declared.along.ReachAlong.{ReachAlong}
use Rattle.report.specs.declared.reach.Reach.{Reach}
use Rattle.report.proofs.along.NeverBelow.{lowest_above}
use Rattle.report.proofs.along.is_used_up.Goals as goal

-- what the test tells of
abbrev passed : (reach : Reach) {p : ReachAlong} → AlongReach reach p → AlongHead reach.card reach.head p
passed reach below = record { flow = reach.flow; ready = reach.ready; fits = reach.fits; below = below }

pub returns-then-reach : goal.returns-then-reach
unfolding is_used status_by
returns-then-reach c = rw c.if-reach.true

pub returns-then-never_below_zero : goal.returns-then-never_below_zero
unfolding is_used status_by
returns-then-never_below_zero c =
    rw (c.if-reach.false, lowest_above _ foot (c.never_below_zero.ensures c.if-never_below_zero.true (passed c.args.reach c.requires)))
