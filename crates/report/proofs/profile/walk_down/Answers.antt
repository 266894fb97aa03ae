-- `report::profile::walk_down` meets its contract: the walk at the head stands at instant 0. Assumes nothing.
use Rattle.report.proofs.profile.Steps.{walk_begins}
use Rattle.report.proofs.profile.walk_down.Goals as goal

pub loop-m-init : goal.loop-m-init
loop-m-init g c = walk_begins c.args.course c.begin-walk.ensures
