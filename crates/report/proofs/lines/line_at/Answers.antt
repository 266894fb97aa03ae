-- `report::lines::line_at` meets its contract: the line below the head of the reach is that of the reach. Assumes nothing.
use Rattle.report.proofs.lines.Bringing.{reach_here, line_of_reach}
use Rattle.report.proofs.lines.line_at.Goals as goal

pub returns : goal.returns
returns c = λ p. line_of_reach c.args.site p (reach_here c.args.site p c.reach_at.ensures) c.line_of.result c.line_of.ensures
