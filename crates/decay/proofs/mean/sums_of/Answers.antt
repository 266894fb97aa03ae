-- `mean::sums_of` meets its contract: each turn takes all one instant further. Assumes nothing.
use native.Mathlib.Omega.{arith}
use Rattle.decay.proofs.mean.Averages.{sums_begin, sums_next}
use Rattle.decay.proofs.mean.sums_of.Goals as goal

pub loop-init : goal.loop-init
loop-init g c = rw c.none.ensures (omega arith, sums_begin, record { reached = c.requires; sum = g.met.T.Stepped.laws.nothing })

pub loop-preserved : goal.loop-preserved
loop-preserved g c =
    let u = c.loop.invariant in
    let l = g.met.T.Stepped.laws in
    let fit = l.one_more _ _ _ u.2.sum u.2.reached in
    (omega arith, rw c.next_sums-s.ensures.stepped (sums_next u.1), record { reached = c.next_sums-s.ensures.in_range; sum = rw c.next_sums-s.ensures.stepped fit })
