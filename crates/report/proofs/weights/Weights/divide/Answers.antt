-- `report::weights::Weights::divide` meets its contract: long division in two chunks. Assumes nothing.
use native.Mathlib.Omega.{arith}
use Rattle.report.proofs.weights.Weighing.{long_quotient, long_remainder, quotient_fits}
use Rattle.report.proofs.weights.Weights.divide.Goals as goal

pub overflow_cast-result : goal.overflow_cast-result
overflow_cast-result c =
    let w = c.args.self in
    omega (arith, long_quotient w.sum w.volume c.requires.some, quotient_fits w.sum w.volume c.requires.fits)

pub returns : goal.returns
returns c =
    let w = c.args.self in
    rw (long_quotient w.sum w.volume c.requires.some, long_remainder w.sum w.volume)
