-- `flows::flow::upstream_of` meets its contract: what is gathered so far is what the feeders among the first reaches bring.
use mathlib.Core.Path.{◌≡◌}
use Rattle.flows.specs.held.FlowTable.{upstream_among}
use Rattle.flows.proofs.flow.upstream_of.Given as goal

abbrev pub invariant-loop-feeder : goal.invariant-loop-feeder
invariant-loop-feeder l = l.up ≡ upstream_among l.before l.feeder-index l.reach
