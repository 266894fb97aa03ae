-- `flows::head::brought_to` meets its contract: what is gathered so far is what the feeders among the first reaches bring.
use Rattle.std.proofs.Common.{◌≡◌, length}
use Rattle.flows.specs.held.HeadTable.{brought_among}
use Rattle.flows.proofs.head.brought_to.Given as goal

abbrev pub invariant-loop-feeder : goal.invariant-loop-feeder
invariant-loop-feeder l = l.brought ≡ brought_among l.before l.by_reach (length l.yielded) l.reach
