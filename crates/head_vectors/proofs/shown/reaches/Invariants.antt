-- `head_vectors::shown::reaches` meets its contract: what the reaches printed so far bring is in bounds.
use Rattle.river.specs.Card.{card_list}
use Rattle.flows.specs.held.HeadTable.{Carried}
use Rattle.head_vectors.proofs.shown.reaches.Given as goal

abbrev pub invariant-loop-i : goal.invariant-loop-i
invariant-loop-i l = Carried (card_list l.effective) l.by_reach l.i
