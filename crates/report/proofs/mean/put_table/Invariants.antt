-- `report::mean::put_table`: the means that are put so far.
use Rattle.river.specs.held.Cursors.{Puts}
use Rattle.report.specs.Report.{first_rows}
use Rattle.report.specs.held.MeanLines.{stored_row}
use Rattle.report.proofs.mean.put_table.Given as goal

abbrev pub invariant-loop-mean : goal.invariant-loop-mean
invariant-loop-mean l = Puts l.initial.cursor (first_rows (stored_row l.stored) l.mean-index) l.cursor
