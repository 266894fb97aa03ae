-- `decay_vectors::after` meets its contract: a step keeps the factors in range. Assumes nothing.
use Rattle.decay.proofs.factors.Instants.{next_range}
use Rattle.decay_vectors.proofs.after.Goals as goal

pub loop-preserved : goal.loop-preserved
loop-preserved c = rw c.next-f.ensures (next_range c.args.pace.sound c.loop.invariant)
