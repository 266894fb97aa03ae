-- `report::xylandreo_report` meets its contract, by that of reporting. Assumes nothing.
use native.Mathlib.Omega.{arith}
use Rattle.report.proofs.Entry.{reports}
use Rattle.report.proofs.xylandreo_report.Goals as goal

pub returns : goal.returns
returns c = reports _ (record { below = λ k. omega (arith, c.type_inv.file k) }) c.report.ensures c.result_of.ensures
