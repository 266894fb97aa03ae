-- `flows::flow::upstream_of` meets its contract: what is gathered so far is what the feeders among the first reaches bring.
use mathlib.Core.Path.{◌∙◌}
use Rattle.std.proofs.Common.{rules}
use Rattle.flows.specs.held.FlowTable.{table_sum, table_max}
use Rattle.flows.proofs.flow.Table.{feeder_fits, feeder_gathered, other_passed}
use Rattle.flows.proofs.flow.upstream_of.Goals.{then-feeder-reach, else-feeder-reach}
use Rattle.flows.proofs.flow.upstream_of.Goals as goal

pub loop-feeder-init : goal.loop-feeder-init
unfolding table_sum table_max
loop-feeder-init c = search rules

pub with_feeder-up-requires : goal.with_feeder-up-requires
with_feeder-up-requires c =
    feeder_fits _ c.loop-feeder.feeder-index c.args.reach c.loop-feeder.invariant c.requires c.loop-feeder-test.true c.if-feeder-reach.true

pub loop-feeder-preserved : goal.loop-feeder-preserved
loop-feeder-preserved c =
    let n = c.loop-feeder.feeder-index in
    let reach = c.args.reach in
    elim c.if-feeder-reach.branch [
      | then-feeder-reach w ↦ w.up-is ∙ w.with_feeder-up.ensures ∙ feeder_gathered _ n reach c.loop-feeder.invariant w.if-feeder-reach.true
      | else-feeder-reach w ↦ w.up-is ∙ other_passed _ n reach c.loop-feeder.invariant w.if-feeder-reach.false
    ]
