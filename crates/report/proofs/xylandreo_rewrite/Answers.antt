-- `report::xylandreo_rewrite` meets its contract, by that of rewriting. Assumes nothing.
use Rattle.report.proofs.Rewrite.{rewrites}
use Rattle.report.proofs.xylandreo_rewrite.Goals as goal

pub returns : goal.returns
returns c = rewrites _ c.rewrite.ensures c.result_of.ensures
