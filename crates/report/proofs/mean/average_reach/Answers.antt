-- `report::mean::average_reach` meets its contract: the reach along its way tells what its foot brings, and its mean. Assumes nothing.
use native.Mathlib.Omega.{arith}
use Rattle.report.proofs.lines.Bringing.{reach_here}
use Rattle.report.proofs.mean.Reach.{along_of_reach, reach_averaged}
use Rattle.report.proofs.mean.average_reach.Goals as goal

pub returns : goal.returns
returns c =
    λ here.
    let of = reach_here c.args.site here c.reach_at-reach.ensures in
    reach_averaged c.args.site here of (along_of_reach c.args.site here of c.along_of-p.ensures (omega arith)) c.is_used_up-used.ensures c.brought_by.ensures c.reported_mean.ensures
