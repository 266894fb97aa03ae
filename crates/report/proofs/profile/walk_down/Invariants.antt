-- `report::profile::walk_down` meets its contract. The loop's invariant: the walk stands at instant m. Assumes nothing.
use Rattle.report.specs.held.Profile.{WalkedTo}
use Rattle.report.proofs.profile.walk_down.Given as goal

abbrev pub invariant-loop-m : goal.invariant-loop-m
invariant-loop-m g l = WalkedTo l.course l.m l.walk
