-- `river::writer::check_all`: the cards that are checked so far.
use Rattle.river.specs.River.{river_of}
use Rattle.river.proofs.writer.Lent.{Checked}
use Rattle.river.proofs.writer.check_all.Given as goal

abbrev pub invariant-loop-i : goal.invariant-loop-i
invariant-loop-i l = Checked (river_of l.fn.factors l.cards) l.i l.length
