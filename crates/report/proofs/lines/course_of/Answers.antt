-- `report::lines::course_of` meets its contract: the paces have the steps of the reach, and the start and the bed are in range. Assumes nothing.
use mathlib.Core.Path.{◌∙◌}
use native.Mathlib.Omega.{arith}
use Rattle.report.proofs.lines.Lines.{start_range, start_bed, step_along, filled_same}
use Rattle.report.proofs.lines.course_of.Goals as goal

pub nitrogenous_pace-requires : goal.nitrogenous_pace-requires
nitrogenous_pace-requires c = filled_same c.rates_of.ensures c.rates_of-2.ensures c.step_of-bod.ensures

pub invariant_of-start : goal.invariant_of-start
invariant_of-start c = record { range = rw (c.from.ensures, c.from-2.ensures, c.from-3.ensures) (start_range c.args.reach.card c.args.reach.fits (omega arith) c.args.reach.ready.saturation (c.from-4.ensures ∙ c.saturation_of.ensures)) }

pub invariant_of-result : goal.invariant_of-result
invariant_of-result c = record { bed_range = start_bed c.args.reach.card c.args.reach.flow (step_along c.rates_of.ensures c.step_of-bod.ensures) c.bed_of.ensures c.args.reach.ready }
