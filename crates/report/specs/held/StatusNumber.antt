-- The numbers of the program's statuses.
use Rattle.std.specs.Prelude.{ℕ}
use Rattle.report.specs.declared.status.Status.{Status}
use Rattle.report.specs.declared.status.Status.TheVariants.{Ordinary, UsedUp, UsedUpAbove}

abbrev pub number_of : Status → ℕ
number_of Ordinary = 0
number_of UsedUp = 1
number_of UsedUpAbove = 2
