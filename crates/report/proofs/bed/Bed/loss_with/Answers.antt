-- `report::bed::Bed::loss_with` meets its contract: the product is one of shares, and the sum is at most the limit. Assumes nothing.
use native.Mathlib.Omega.{arith}
use Rattle.report.specs.held.Bed.{loss_with}
use Rattle.report.proofs.bed.Bed.loss_with.Goals as goal

pub overflow_add-result : goal.overflow_add-result
unfolding loss_with
overflow_add-result c = omega (arith, c.requires.1.loss, c.product.ensures)

pub returns : goal.returns
unfolding loss_with
returns c = rw c.product.ensures
