-- `report::profile::oxygen_with_both` meets its contract: what nitrogenous BOD takes is at most what is left at least. Assumes nothing.
use native.Mathlib.Omega.{arith}
use Rattle.report.proofs.profile.Oxygen.{less_stored, turned_at_most}
use Rattle.report.proofs.profile.oxygen_with_both.Goals as goal

pub returns-then-this-ne0 : goal.returns-then-this-ne0
returns-then-this-ne0 g c =
    let most = turned_at_most c.args.d c.args.start.nitrogenous c.requires.in_range.1 in
    let with = c.oxygen_with-oxygen.ensures in
    record { stored = less_stored _ with.stored (omega (arith, most, with.leaves)); leaves = omega (arith, most, with.leaves) }
