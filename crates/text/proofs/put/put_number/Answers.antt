-- `text::put::put_number` meets its contract: the digits of `io::decimal` are those of the number, 20 at most. Assumes nothing.
use mathlib.Core.Path.{◌∙◌}
use native.Mathlib.Omega.{arith}
use Rattle.text.proofs.put.Decimal.{few, decimal_is}
use Rattle.text.proofs.put.Puts.{reworded, widened}
use Rattle.text.proofs.put.put_number.Goals as goal

pub returns : goal.returns
returns c =
    let e = c.decimal-count.ensures in
    widened (omega (arith, few _ _ c.ranges.n.fits e.len, e.in_bounds)) (reworded (e.digits ∙ decimal_is _ _ e.len) c.put_word.ensures)
