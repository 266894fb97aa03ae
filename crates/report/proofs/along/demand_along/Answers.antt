-- `report::along::demand_along` meets its contract: at the rate 0 all of it stays, and else its sums give foot and mean. Assumes nothing.
use Rattle.decay.proofs.mean.Averages.{demand_summed}
use Rattle.report.proofs.along.Along.{idle_along, demands_made}
use Rattle.report.proofs.along.demand_along.Goals as goal

pub returns-then-rates-eq0 : goal.returns-then-rates-eq0
returns-then-rates-eq0 c = idle_along c.args.rates c.args.start c.if-rates-eq0.true

pub returns : goal.returns
returns c =
    rw c.mean.ensures.stepped
    (demands_made c.args.rates c.args.start c.sums_of-sums.result c.requires.0 c.mean_step_of.ensures (demand_summed c.sums_of-sums.ensures.summed))
