-- `report::status::reported_mean` meets its contract. Assumes nothing.
use Rattle.flows.specs.held.Stored.{oxygen_of}
use Rattle.report.proofs.status.reported_mean.Goals as goal

pub returns-then-used : goal.returns-then-used
unfolding oxygen_of
returns-then-used c = rw c.if-used.true
