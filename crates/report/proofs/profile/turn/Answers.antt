-- `report::profile::turn` meets its contract: what it holds at the next instant is in range, and with that instant seen the walk stands there. Assumes
-- nothing.
use native.Mathlib.Numerals.{add-one}
use Rattle.report.proofs.profile.Steps.{walk_shares, next_in_range, covers_next, factors_next, walk_seen}
use Rattle.report.proofs.profile.turn.Goals as goal

pub next-f-requires : goal.next-f-requires
next-f-requires g c = walk_shares c.args.course c.requires.walked_to.1

pub oxygen_at-oxygen-requires-clause-in_range : goal.oxygen_at-oxygen-requires-clause-in_range
oxygen_at-oxygen-requires-clause-in_range g c =
    rw add-one
    (next_in_range c.args.course c.requires.walked_to.1 c.requires.walked_to.0 (factors_next c.args.course c.requires.walked_to.1 c.next-f.ensures) (rw add-one at c.next_parts-d.ensures))

pub oxygen_at-oxygen-requires-clause-covers : goal.oxygen_at-oxygen-requires-clause-covers
oxygen_at-oxygen-requires-clause-covers g c = covers_next c.args.course _ c.requires.covers c.next_parts-d.ensures

pub returns : goal.returns
returns g c =
    rw (c.seen.ensures, add-one)
    (walk_seen c.args.course c.requires.walked_to.1 (factors_next c.args.course c.requires.walked_to.1 c.next-f.ensures) (rw add-one at c.next_parts-d.ensures) _
    (rw add-one at c.oxygen_at-oxygen.ensures))
