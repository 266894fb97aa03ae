-- `decay_vectors::after` meets its contract: a step keeps the factors in range. Assumes nothing.
use Rattle.decay.specs.held.Factors.{AreShares}
use Rattle.decay_vectors.proofs.after.Given as goal

abbrev pub invariant-loop : goal.invariant-loop
invariant-loop l = AreShares l.f
