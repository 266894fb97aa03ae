-- `report::along::never_below_zero` meets its contract: a demand at the foot is at most its head value, the sums fit, and where the test passes nothing takes oxygen
-- below zero. Assumes nothing.
use mathlib.Core.Path.{◌∙◌}
use native.Mathlib.Omega.{arith}
use borrow.Author.Tests.{leb-true}
use Rattle.report.proofs.along.NeverBelow.{bod_falls, nitrogenous_falls, loss_few, stays}
use Rattle.report.proofs.along.never_below_zero.Goals as goal

pub overflow_sub-lost : goal.overflow_sub-lost
overflow_sub-lost c =
    let p = c.requires in
    omega (arith, bod_falls p.ready p.fits p.below)

pub overflow_sub-lost-2 : goal.overflow_sub-lost-2
overflow_sub-lost-2 c =
    let p = c.requires in
    omega (arith, nitrogenous_falls p.ready p.fits p.below)

pub overflow_add-taken : goal.overflow_add-taken
overflow_add-taken c =
    let p = c.requires in
    omega (arith, p.fits.demands, loss_few p.ready p.fits p.below)

pub returns-then-taken-from : goal.returns-then-taken-from
returns-then-taken-from c =
    λ e here. stays here.ready here.fits here.below (c.from-2.ensures ∙ c.saturation_of.ensures) (omega arith) (omega (arith, c.if-taken-from.true, c.from.ensures)) (omega (arith, leb-true _ _ e, c.from.ensures, c.from-then-taken-from.ensures))
