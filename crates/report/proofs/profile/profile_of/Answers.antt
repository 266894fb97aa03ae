-- `report::profile::profile_of` meets its contract, by the walk at the foot. Assumes nothing.
use native.Mathlib.Nat.{le_refl}
use native.Mathlib.Omega.{arith}
use Rattle.report.specs.Program.{foot}
use Rattle.report.proofs.profile.Steps.{walk_shares, walk_parts, walk_loss}
use Rattle.report.proofs.profile.profile_of.Goals as goal

pub product-requires : goal.product-requires
product-requires c =
    omega (arith, c.args.course.start.range.demands, walk_shares c.args.course c.walk_to_foot-walk.ensures)

pub oxygen_at-requires-clause-in_range : goal.oxygen_at-requires-clause-in_range
oxygen_at-requires-clause-in_range c =
    let here = c.walk_to_foot-walk.ensures in
    (walk_shares c.args.course here, walk_parts c.args.course here, walk_loss c.args.course here (le_refl foot))
