-- `report::bed::bed_of` meets its contract: check 14 keeps the products in eight bytes. Assumes nothing.
use mathlib.Core.Path.{◌≡◌}
use Prim.Native.Nat.{ℕ, ◌*◌, ◌≤◌}
use borrow.Author.Tests.{eq-eqb, ne_eqb}
use Rattle.river.specs.declared.card.Card.{Card}
use Rattle.flows.specs.Flow.{bed_limit, sludge_of}
use Rattle.report.specs.held.Bed.{bed_by, bed_of, BedPasses}
use Rattle.report.proofs.bed.bed_of.Goals as goal

-- check 14, on the numbers that were read
passes : {card : Card} {flow demand volume : ℕ} → demand ≡ sludge_of card → volume ≡ card.volume → BedPasses card flow → demand * volume ≤ bed_limit * flow
passes e v p = rw (e, v) p.rule

pub returns-then-card-eq0 : goal.returns-then-card-eq0
unfolding bed_of bed_by
returns-then-card-eq0 c =
    rw (eq-eqb c.args.card.k2 0 c.if-card-eq0.true, c.from-demand.ensures, c.sludge_of.ensures, c.from.ensures, c.from-then-card-eq0.ensures)

pub returns-else-card-eq0 : goal.returns-else-card-eq0
unfolding bed_of bed_by
returns-else-card-eq0 c =
    rw (ne_eqb c.args.card.k2 0 c.if-card-eq0.false, c.from-demand.ensures, c.sludge_of.ensures, c.from-else-card-eq0.ensures)
