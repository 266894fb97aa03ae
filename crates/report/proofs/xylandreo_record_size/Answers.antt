-- `report::xylandreo_record_size` meets its contract, by the answer of reading. Assumes nothing.
use mathlib.Core.Path.{refl}
use Rattle.river.specs.Refusal.{after}
use Rattle.report.specs.Report.{size_answer}
use Rattle.report.proofs.Size.{tells}
use Rattle.report.proofs.xylandreo_record_size.Goals as goal

pub returns-in_default : goal.returns-in_default
unfolding size_answer after
returns-in_default c = tells c.in_default.ensures refl

pub returns : goal.returns
unfolding size_answer after
returns c = tells c.in-Ok.ensures c.record_size.ensures
