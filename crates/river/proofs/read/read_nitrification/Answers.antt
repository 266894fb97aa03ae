-- `river::read::read_nitrification` meets its contract: its decoder is that of the record's description.
-- Assumes nothing.
use mathlib.Core.Path.{refl}
use Rattle.river.specs.Records.{NT}
use Rattle.river.proofs.read.Places.{reads_on}
use borrow.Author.Rules.{rules}
use Rattle.river.proofs.read.read_nitrification.Goals as goal

pub returns : goal.returns
returns c = reads_on NT refl (λ b v p. search rules) c.take.ensures
