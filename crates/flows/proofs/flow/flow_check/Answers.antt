-- `flows::flow::flow_check` meets its contract: before the first reach only a table of 128 reaches is asked for.
use mathlib.Core.Path.{ap, ◌∙◌}
use lib.ListN.{length, length-replicate}
use Rattle.flows.specs.held.FlowTable.{no_flow}
use Rattle.flows.proofs.flow.FlowCheck.{at_start}
use Rattle.flows.proofs.flow.flow_check.Goals as goal

pub check_from-requires : goal.check_from-requires
check_from-requires c = at_start (ap length c.no_flows.ensures ∙ length-replicate 128 no_flow) c.requires
