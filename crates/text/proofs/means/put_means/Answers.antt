-- `text::means::put_means` meets its contract: the lines of the reaches, and that of the river. Assumes nothing.
use Rattle.text.proofs.put.Puts.{both}
use Rattle.text.proofs.means.put_means.Goals as goal

pub returns : goal.returns
returns c = both c.put_mean_lines.ensures c.put_river.ensures
