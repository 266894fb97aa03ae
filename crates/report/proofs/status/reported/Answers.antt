-- `report::status::reported` meets its contract, by its test of the status. Assumes nothing.
use mathlib.Core.Path.{◌∙◌}
use borrow.Author.Tests.{eq-eqb, ne_eqb}
use Rattle.flows.specs.held.Stored.{oxygen_of}
use Rattle.report.specs.Status.{shown_number, shown_oxygen}
use Rattle.report.proofs.status.reported.Goals as goal

pub returns-then-line-number : goal.returns-then-line-number
unfolding shown_number shown_oxygen
returns-then-line-number c = rw (ne_eqb c.args.line.status 2 (rw c.number.ensures at c.if-line-number.true))

pub returns : goal.returns
unfolding oxygen_of shown_number shown_oxygen
returns c = rw (eq-eqb c.args.line.status 2 (c.if-line-number.false ∙ c.number.ensures))
