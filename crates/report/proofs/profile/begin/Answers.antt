-- `report::profile::begin` meets its contract: the factors of the head are shares. Assumes nothing.
use Rattle.decay.proofs.factors.Instants.{start_range}
use Rattle.report.proofs.profile.begin.Goals as goal

pub oxygen_with-requires : goal.oxygen_with-requires
oxygen_with-requires c = rw c.start-f.ensures start_range
