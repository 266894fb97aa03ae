-- `report::record::line_in` meets its contract, field by field. Assumes nothing.
use Rattle.report.specs.Record.{read_record}
use Rattle.report.proofs.record.line_in.Goals as goal

pub returns : goal.returns
unfolding read_record
returns c =
    cc (c.byte_at.ensures, c.four_at.ensures, c.four_at-2.ensures, c.four_at-3.ensures, c.complement_at.ensures, c.two_at.ensures, c.complement_at-2.ensures, c.complement_at-3.ensures, c.byte_at-2.ensures, c.nitrogenous_at.ensures, c.nitrogenous_at-2.ensures)
