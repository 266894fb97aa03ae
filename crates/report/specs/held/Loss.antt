-- How near the exact loss to a sludge bed that of the program is.
use Rattle.std.specs.Prelude.{ℕ, ◌+◌}
use Rattle.decay.specs.Fraction.{Fraction, of_ℕ, ◌+ᶠ◌, ◌*ᶠ◌}
use Rattle.decay.specs.held.Promise.{deficit_distance}
use Rattle.river.specs.declared.card.Card.{Card}
use Rattle.report.specs.held.Bed.{bed_of}

-- How near the exact loss to a bed the program's is: 2 units of rounding, and 2^-31 of the loss in the end, by which the share of the deficit
-- left may be off. That loss is 1,000,000 × demand / k2, so that a small k2 costs digits: 32.52 units at most at k2 = 1, 8.11 at 5, 2.07 at 500.
abbrev pub loss_distance : Card → (Q : ℕ) → Fraction
loss_distance card Q = of_ℕ 2 +ᶠ deficit_distance *ᶠ of_ℕ ((bed_of card Q).eventual + 1)
