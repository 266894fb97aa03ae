-- `report::profile::oxygen_at` meets its contract: what a bed takes is at most what is left at least, and no bed takes nothing. Assumes nothing.
use native.Mathlib.Omega.{arith}
use Rattle.report.proofs.bed.Loss.{nothing_lost}
use Rattle.report.proofs.profile.Oxygen.{less_stored, nothing_less, off}
use Rattle.report.proofs.profile.oxygen_at.Goals as goal

pub returns-then-this-ne0 : goal.returns-then-this-ne0
returns-then-this-ne0 g c =
    let with = c.oxygen_with_both-oxygen.ensures in
    rw c.loss_with.ensures (less_stored _ with.stored (omega (arith, c.requires.in_range.2.loss, with.leaves)))

pub returns-else-this-ne0 : goal.returns-else-this-ne0
returns-else-this-ne0 g c =
    nothing_less (nothing_lost c.args.f c.args.m (c.requires.covers.bed (off c.if-this-ne0.false))) c.oxygen_with_both-oxygen.ensures.stored
