-- `report::record::nitrogenous_at` meets its contract. Assumes nothing.
use Rattle.report.specs.Record.{nitrogenous_at}
use Rattle.report.proofs.record.nitrogenous_at.Goals as goal

pub returns-then-nitrified : goal.returns-then-nitrified
unfolding nitrogenous_at
returns-then-nitrified c = rw c.if-nitrified.true c.four_at.ensures

pub returns-else-nitrified : goal.returns-else-nitrified
unfolding nitrogenous_at
returns-else-nitrified c = rw c.if-nitrified.false
