-- `report::lines::reach_at` meets its contract: what the head asks, and what a reach below it has, holds of whatever river it is of; and for every
-- such river the head is that of the reach. Assumes nothing.
use mathlib.Core.Path.{refl}
use Rattle.report.proofs.lines.Bringing.{head_here, site_asks, site_ready, site_fits}
use Rattle.report.proofs.lines.reach_at.Goals as goal

pub head_of-requires : goal.head_of-requires
head_of-requires c = rw c.from.ensures (site_asks c.args.site)

pub invariant_of-result : goal.invariant_of-result
invariant_of-result c = record { ready = site_ready c.args.site; fits = site_fits c.args.site (rw c.from.ensures at c.head_of.ensures) }

pub returns : goal.returns
returns c =
    record {
      card = refl;
      flow = refl;
      depth = refl;
      used = refl;
      head = λ here. head_here c.args.site here (rw c.from.ensures at c.head_of.ensures);
    }
