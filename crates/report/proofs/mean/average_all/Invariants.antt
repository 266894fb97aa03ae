-- `report::mean::average_all` meets its contract. The loop's invariant: the means of the first i reaches are tabled and weighed, and the tables have
-- what these reaches bring. Assumes nothing.
use mathlib.Core.List.{List}
use Prim.Native.Nat.{ℕ}
use Rattle.river.specs.declared.card.Card.{Card}
use Rattle.river.specs.Card.{card_list}
use Rattle.flows.specs.declared.flow.ReachFlows.{ReachFlows}
use Rattle.flows.specs.declared.head.Brought.{Brought}
use Rattle.report.specs.held.MeanLines.{Weighs, MeansTabled}
use Rattle.report.specs.declared.weights.Weights.{Weights}
use Rattle.report.proofs.lines.Reaches.{Reaches}
use Rattle.report.proofs.mean.average_all.Given as goal

pub record Progress (cards : List Card) (flows : List ReachFlows) (by_reach : List Brought) (stored : List ℕ) (weights : Weights) (i : ℕ) : Type 0 where
  pub reaches : Reaches cards flows by_reach i
  pub tabled : MeansTabled cards i stored
  pub weighed : Weighs cards i weights

abbrev pub invariant-loop-i : goal.invariant-loop-i
invariant-loop-i l = Progress (card_list l.cards) l.flows l.by_reach l.stored l.weights l.i
