-- `text::put_lines` meets its contract. The loop's invariant: the lines of the first i reaches are put. Assumes nothing.
use Rattle.text.specs.Text.{reach_line}
use Rattle.text.specs.held.Words.{longest_line, recorded}
use Rattle.text.proofs.put.Lines.{LinesPut}
use Rattle.text.proofs.put_lines.Given as goal

abbrev pub invariant-loop-i : goal.invariant-loop-i
invariant-loop-i l =
    LinesPut (λ k. reach_line l.told.nitrified k (recorded l.told.nitrified l.report k)) longest_line l.told.count l.initial.text l.text l.i
