-- `report::record::complement` meets its contract. Assumes nothing.
use native.Mathlib.Omega.{arith}
use Rattle.report.proofs.record.Encoding.{complement_is, complement_back}
use Rattle.report.proofs.record.complement.Goals as goal

pub returns-clause-value : goal.returns-clause-value
returns-clause-value c = complement_is c.args.oxygen (omega arith)

pub returns-clause-result_value : goal.returns-clause-result_value
returns-clause-result_value c = complement_back c.args.oxygen (omega arith)
