-- `flows::flow::check_from` meets its contract: the laws of the loop in proofs/flow/FlowCheck.
use Rattle.river.specs.Card.{card_list}
use Rattle.flows.specs.held.FlowTable.{Underway}
use Rattle.flows.proofs.flow.check_from.Given as goal

-- the first j reaches passed, and stand in the table
abbrev pub invariant-loop-j : goal.invariant-loop-j
invariant-loop-j l = Underway (card_list l.cards) l.j l.flows
