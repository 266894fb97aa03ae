-- `decay_vectors::instants`: the factors of the head are in range. Assumes nothing.
use Rattle.decay.proofs.factors.Instants.{start_range}
use Rattle.decay_vectors.proofs.instants.Goals as goal

pub loop-instant-init : goal.loop-instant-init
loop-instant-init c = rw c.start-f.ensures start_range
