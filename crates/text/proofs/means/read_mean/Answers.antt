-- `text::means::read_mean` meets its contract: the part of the means from its place on. Assumes nothing.
use mathlib.Core.Path.{ap, ◌∙◌}
use Rattle.river.proofs.bytes.Numbers.{whole_tail}
use Rattle.report.specs.Record.{from_complement}
use Rattle.report.specs.Mean.{mean_read}
use Rattle.text.proofs.means.read_mean.Goals as goal

pub returns : goal.returns
unfolding mean_read
returns c = c.complement.ensures.result_value ∙ ap from_complement (rw whole_tail at c.four_at.ensures)
