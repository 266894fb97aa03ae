-- `report::along::along_of` meets its contract: what it asks is there, and it makes the figures of the reach. Assumes nothing.
use Rattle.report.proofs.along.Along.{mean_step_along, demands_of, along_ready, along_below}
use Rattle.report.proofs.along.along_of.Goals as goal

pub along_with-requires : goal.along_with-requires
along_with-requires c =
    along_ready c.args.reach c.course_of-course.ensures (mean_step_along c.rates_of.ensures c.mean_step_of-mean_pace.ensures) (demands_of _ c.rates_of-2.ensures (rw c.from.ensures at c.demand_along-demand.ensures))

pub returns : goal.returns
returns c =
    along_below c.args.reach c.course_of-course.ensures (mean_step_along c.rates_of.ensures c.mean_step_of-mean_pace.ensures) (demands_of _ c.rates_of-2.ensures (rw c.from.ensures at c.demand_along-demand.ensures)) c.along_with.ensures
