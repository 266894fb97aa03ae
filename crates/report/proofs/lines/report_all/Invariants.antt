-- `report::lines::report_all` meets its contract. The loop's invariant: the records of the first i reaches stand in the report,
-- the rest of it is as it was, and the tables have what these reaches bring. Assumes nothing.
use mathlib.Core.List.{List}
use Prim.Native.Nat.{ℕ}
use Rattle.river.specs.declared.card.Card.{Card}
use Rattle.river.specs.Card.{card_list}
use Rattle.flows.specs.declared.flow.ReachFlows.{ReachFlows}
use Rattle.flows.specs.declared.head.Brought.{Brought}
use Rattle.report.specs.Record.{record_size}
use Rattle.report.specs.Report.{record_of}
use Rattle.report.proofs.record.Rows.{Filled}
use Rattle.report.proofs.lines.Reaches.{Reaches}
use Rattle.report.proofs.lines.report_all.Given as goal

pub record Progress (cards : List Card) (flows : List ReachFlows) (before after : List ℕ) (by_reach : List Brought) (i : ℕ) : Type 0 where
  pub reaches : Reaches cards flows by_reach i
  pub filled : Filled (record_of cards) (record_size cards) before i after

abbrev pub invariant-loop-i : goal.invariant-loop-i
invariant-loop-i l = Progress (card_list l.cards) l.flows l.initial.report l.report l.by_reach l.i
