-- `river::read::read_factors` meets its contract: its decoder is that of the record's description.
-- Assumes nothing.
use mathlib.Core.Path.{◌∙◌}
use Rattle.river.specs.Records.{Th}
use Rattle.river.specs.held.Optionals.{decoded}
use Rattle.river.proofs.read.Places.{found_is}
use borrow.Author.Rules.{rules}
use Rattle.river.proofs.read.read_factors.Goals as goal

pub returns : goal.returns
returns c = c.value_here.ensures.answer (decoded Th) (λ b v p. search rules) ∙ found_is Th 0 c.args.s.now
