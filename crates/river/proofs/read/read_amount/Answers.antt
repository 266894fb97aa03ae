-- `river::read::read_amount` meets its contract: its decoder is that of the layout's description.
-- Assumes nothing.
use Rattle.river.specs.held.Layouts.{described}
use Rattle.river.proofs.read.Places.{reads_on}
use borrow.Author.Rules.{rules}
use Rattle.river.proofs.read.read_amount.Goals as goal

pub returns : goal.returns
returns c = reads_on (described c.args.layout) c.layout_size.ensures (λ b v p. search rules) c.take.ensures
