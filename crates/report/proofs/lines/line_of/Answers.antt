-- `report::lines::line_of` meets its contract: its figures fit the record. Assumes nothing.
use mathlib.Core.Path.{◌∙◌}
use native.Mathlib.Omega.{arith}
use Rattle.report.proofs.lines.Lines.{foot_bod_below, foot_nitrogenous_below, critical_within, line_figures}
use Rattle.report.proofs.lines.line_of.Goals as goal

pub overflow_cast-result : goal.overflow_cast-result
overflow_cast-result c = omega (arith, c.course_of.result.start.range.demands, foot_bod_below c.profile_of-profile.ensures)

pub overflow_cast-result-2 : goal.overflow_cast-result-2
overflow_cast-result-2 c = omega (arith, critical_within c.profile_of-profile.ensures)

pub overflow_cast-result-4 : goal.overflow_cast-result-4
overflow_cast-result-4 c = omega (arith, c.course_of.result.start.range.demands, foot_nitrogenous_below c.profile_of-profile.ensures)

pub returns : goal.returns
returns c = line_figures c.profile_of-profile.ensures c.course_of.ensures (c.number.ensures ∙ c.status_of.ensures)
