-- `text::means::put_mean_lines` meets its contract: a line more in each turn, and in the end all. Assumes nothing.
use mathlib.Core.Path.{ap}
use Prim.Native.Nat.{suc}
use native.Mathlib.Numerals.{add-one}
use Rattle.text.specs.MeanText.{mean_line}
use Rattle.text.specs.held.Words.{longest_mean_line}
use Rattle.text.proofs.put.Lines.{none_put, one_put}
use Rattle.text.proofs.put.Puts.{reworded}
use Rattle.text.proofs.means.put_mean_lines.Goals as goal

pub loop-i-init : goal.loop-i-init
loop-i-init c = none_put _ longest_mean_line _ _ c.requires.room

pub loop-i-preserved : goal.loop-i-preserved
loop-i-preserved c = one_put c.loop-i.invariant (reworded (ap (mean_line (suc c.loop-i.i)) c.read_mean.ensures) (rw add-one at c.put_mean.ensures))
