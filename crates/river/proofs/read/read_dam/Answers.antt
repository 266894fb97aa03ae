-- `river::read::read_dam` meets its contract: its decoder is that of the record's description.
-- Assumes nothing.
use mathlib.Core.Path.{refl}
use Rattle.river.specs.Records.{DM}
use Rattle.river.proofs.read.Places.{reads_on}
use borrow.Author.Rules.{rules}
use Rattle.river.proofs.read.read_dam.Goals as goal

pub returns : goal.returns
returns c = reads_on DM refl (λ b v p. search rules) c.take.ensures
