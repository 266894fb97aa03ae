-- `report::lines::site_at` meets its contract: the tables hand the reach its card, its flows and what its feeders bring. Assumes nothing.
use native.Mathlib.Numerals.{add-one}
use Rattle.report.proofs.lines.Reaches.{brought_asked}
use Rattle.report.proofs.lines.site_at.Goals as goal

pub brought_to-requires : goal.brought_to-requires
brought_to-requires c = rw add-one (brought_asked c.requires)
