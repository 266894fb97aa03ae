-- `river::file::read_file`: the reader stays at the file, and the reading goes on from the cards so far.
use Rattle.std.proofs.Common.{◌≡◌}
use Rattle.river.specs.held.Reader.{ReadingGoesOn}
use Rattle.river.proofs.file.read_file.Given as goal

abbrev pub invariant-loop-i : goal.invariant-loop-i
invariant-loop-i l = record { file : l.reader.file.now ≡ l.file; goes : ReadingGoesOn l.file l.count l.i l.factors l.at l.reader.at }
