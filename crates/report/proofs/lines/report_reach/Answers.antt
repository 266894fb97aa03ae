-- `report::lines::report_reach` meets its contract: the record put in place is that of the reach, and what its foot brings is told.
-- Assumes nothing.
use native.Mathlib.Omega.{arith}
use Rattle.std.proofs.Common.{rules}
use Rattle.report.proofs.lines.Bringing.{reach_reported}
use Rattle.report.proofs.lines.report_reach.Goals as goal

pub returns : goal.returns
returns c =
    λ here.
    let put = rw (here.nitrification, c.reported.ensures) at c.put_record.ensures.put.buffer in
    let same = c.put_record.ensures.same in
    reach_reported c.args.site here.line (c.line_at-line.ensures here.line) _ _ _ c.is_used.ensures c.brought_by.ensures (omega arith) (search (rules, put, same))
