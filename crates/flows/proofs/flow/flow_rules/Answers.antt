-- `flows::flow::flow_rules` meets its contract: the answers of its checks join.
use Rattle.flows.specs.Flow.{flow_rules}
use Rattle.flows.proofs.flow.Groups.{stops, leaves}
use Rattle.flows.proofs.flow.flow_rules.Goals as goal

pub returns-in_err-need : goal.returns-in_err-need
unfolding flow_rules
returns-in_err-need c = stops _ c.in_err-need.ensures c.from_residual.ensures.1

pub returns-in_err-need-2 : goal.returns-in_err-need-2
unfolding flow_rules
returns-in_err-need-2 c =
    leaves c.in_ok-need.ensures (stops _ c.in_err-need-2.ensures c.from_residual-in_err-need-2.ensures.1)

pub returns : goal.returns
unfolding flow_rules
returns c = leaves c.in_ok-need.ensures (leaves c.in_ok-need-2.ensures (rw c.dam_fits.ensures at c.need-3.ensures))
