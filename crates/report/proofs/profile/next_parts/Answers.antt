-- `report::profile::next_parts` meets its contract: they take a step, or stay where nothing is lost. Assumes nothing.
use native.Mathlib.Numerals.{add-one}
use Rattle.report.proofs.profile.Oxygen.{off}
use Rattle.report.proofs.profile.Steps.{walk_parts_shares, parts_next, parts_stay}
use Rattle.report.proofs.profile.next_parts.Goals as goal

pub next_demand-requires : goal.next_demand-requires
next_demand-requires g c = walk_parts_shares c.args.course c.requires.walked_to

pub returns-then-this-ne0 : goal.returns-then-this-ne0
returns-then-this-ne0 g c = rw add-one (parts_next c.args.course c.requires.walked_to c.next_demand.ensures)

pub returns-else-this-ne0 : goal.returns-else-this-ne0
returns-else-this-ne0 g c = rw add-one (parts_stay c.args.course c.requires.walked_to (c.requires.covers (off c.if-this-ne0.false)))
