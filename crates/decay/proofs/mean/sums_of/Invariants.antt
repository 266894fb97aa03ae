-- `mean::sums_of` meets its contract. The loop's invariant: all is summed up to the instant that is counted, at most the foot. Assumes nothing.
use Rattle.std.proofs.Common.{◌≤◌}
use Rattle.decay.specs.Exact.{foot}
use Rattle.decay.specs.held.Mean.{Summed, SumsFit}
use Rattle.decay.proofs.mean.sums_of.Given as goal

abbrev pub invariant-loop : goal.invariant-loop
invariant-loop g l =
    let t = g.T.Stepped in
    (l.counter ≤ foot) × Summed t.next t.none t.plus l.fn.start l.fn.pace.step l.counter l.s × SumsFit t.shares t.fit l.counter l.s
