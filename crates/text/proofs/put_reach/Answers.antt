-- `text::put_reach` meets its contract: the numbers of the line, all or the first of them. Assumes nothing.
use mathlib.Core.Path.{ap}
use mathlib.Core.List.{List, map}
use native.Mathlib.Omega.{arith}
use lib.IntN.{ℤ}
use lib.ListN.{length-take}
use Rattle.text.specs.Text.{signed, line}
use Rattle.text.proofs.Numbers.{numbers_are}
use Rattle.text.proofs.put.Puts.{reworded, widened}
use Rattle.text.proofs.put_reach.Goals as goal

pub returns : goal.returns
returns c =
    widened (omega (arith, length-take c.number_count-count.result c.numbers_of-numbers.result))
    (reworded (ap (λ (z : List ℤ). line (map signed z)) (numbers_are c.args.nitrified _ c.args.reach _ c.numbers_of-numbers.ensures c.number_count-count.ensures.value))
    c.put_line.ensures)
