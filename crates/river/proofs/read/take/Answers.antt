-- `river::read::take` meets its contract: by what is found at the place.
-- Assumes nothing.
use Rattle.river.proofs.read.Places.{taken, not_taken}
use borrow.Author.Rules.{rules}
use Rattle.river.proofs.read.take.Goals as goal

pub returns-in_err-value : goal.returns-in_err-value
returns-in_err-value g c = not_taken c.behind.ensures c.value_here.ensures.answer c.in_err-value.was (search rules)

pub returns : goal.returns
returns g c = taken c.behind.ensures c.value_here.ensures.answer c.in_ok-value.was (search rules)
