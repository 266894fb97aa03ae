-- `report::along::along_with` meets its contract: the sums give the factors at the foot and the means, and their figures fit four bytes. Assumes
-- nothing.
use mathlib.Core.Path.{refl}
use native.Mathlib.Omega.{arith}
use Rattle.decay.proofs.factors.Instants.{start_range}
use Rattle.report.proofs.along.Along.{foot_shares, foot_loss, foot_bod_few, mean_shares, mean_loss, along_made}
use Rattle.report.proofs.along.along_with.Goals as goal

pub sums_of-sums-requires : goal.sums_of-sums-requires
sums_of-sums-requires c = rw c.start.ensures start_range

pub oxygen_at-foot_oxygen-requires-clause-in_range : goal.oxygen_at-foot_oxygen-requires-clause-in_range
oxygen_at-foot_oxygen-requires-clause-in_range c =
    let course = c.args.course in
    let s = c.sums_of-sums.ensures.summed in
    (foot_shares course c.start.ensures s, c.requires.foot_parts, foot_loss course c.start.ensures s)

pub oxygen_at-mean_oxygen-requires-clause-in_range : goal.oxygen_at-mean_oxygen-requires-clause-in_range
oxygen_at-mean_oxygen-requires-clause-in_range c =
    let course = c.args.course in
    let s = c.sums_of-sums.ensures.summed in
    let e = c.mean-mean.ensures.stepped in
    (mean_shares course c.start.ensures s c.args.mean_pace c.requires e, c.requires.mean_parts, mean_loss course c.start.ensures s c.args.mean_pace c.requires e)

pub overflow_cast-result : goal.overflow_cast-result
overflow_cast-result c = omega (arith, c.product.ensures, foot_bod_few c.args.course c.start.ensures c.sums_of-sums.ensures.summed)

pub loss_with-requires : goal.loss_with-requires
loss_with-requires c =
    (foot_shares c.args.course c.start.ensures c.sums_of-sums.ensures.summed, foot_loss c.args.course c.start.ensures c.sums_of-sums.ensures.summed)

pub returns : goal.returns
returns c =
    along_made c.args.course c.start.ensures c.sums_of-sums.ensures.summed c.args.mean_pace c.requires c.mean-mean.ensures.stepped c.product.ensures refl c.oxygen_at-foot_oxygen.ensures.is c.oxygen_at-mean_oxygen.ensures.is c.loss_with.ensures
