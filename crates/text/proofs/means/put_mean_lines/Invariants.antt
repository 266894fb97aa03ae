-- `text::means::put_mean_lines` meets its contract. The loop's invariant: the lines of the first i reaches are put. Assumes nothing.
use Rattle.text.specs.MeanText.{mean_line}
use Rattle.text.specs.held.Words.{longest_mean_line, mean_held}
use Rattle.text.proofs.put.Lines.{LinesPut}
use Rattle.text.proofs.means.put_mean_lines.Given as goal

abbrev pub invariant-loop-i : goal.invariant-loop-i
invariant-loop-i l = LinesPut (λ k. mean_line k (mean_held l.means k)) longest_mean_line l.count l.initial.text l.text l.i
