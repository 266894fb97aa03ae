-- `decay_vectors::instants`: the factors stay in range. Assumes nothing.
use Rattle.decay.specs.held.Factors.{AreShares}
use Rattle.decay_vectors.proofs.instants.Given as goal

abbrev pub invariant-loop-instant : goal.invariant-loop-instant
invariant-loop-instant l = AreShares l.f
