-- Mean oxygen along a reach by the digits of the program, which are free within demand 3.
use Rattle.std.specs.Prelude.{ℕ, ◌*◌, ◌/◌, ℤ, pos, ◌-ℤ◌}
use Rattle.decay.specs.held.Mean.{mean_factors_of, mean_demand_of}
use Rattle.decay.specs.declared.factors.Factors.{Factors}
use Rattle.river.specs.declared.card.Card.{Card}
use Rattle.river.specs.declared.source.Demand.TheVariants.{Nitrogenous}
use Rattle.river.specs.Source.{rate_of}
use Rattle.flows.specs.Saturation.{saturation_of}
use Rattle.report.specs.held.Bed.{bed_of, loss_with}
use Rattle.report.specs.held.Digits.{oxygen_with, unit_parts}

-- the instant half way down a reach, where a loss that grows in equal steps has its mean
abbrev pub middle : ℕ
middle = 512

-- the means of the factors of BOD and deficit along a reach with flow Q, and what of nitrogenous BOD, with head value L, has turned on average
unfoldable pub factors_mean : Card → (Q : ℕ) → Factors
factors_mean card Q = mean_factors_of card.k1 card.k2 card.volume Q

unfoldable pub turned_mean : Card → (Q L : ℕ) → ℕ
turned_mean card Q L = (mean_demand_of (unit_parts * L) (rate_of Nitrogenous card) card.k2 card.volume Q).turned / unit_parts

-- mean oxygen along a reach with flow Q, head BOD L, head nitrogenous BOD Ln and head oxygen C: oxygen where the means of the factors hold
unfoldable pub mean_along : Card → (Q L Ln : ℕ) (C : ℤ) → ℤ
mean_along card Q L Ln C =
    oxygen_with (factors_mean card Q) (saturation_of card) L C -ℤ pos (turned_mean card Q Ln) -ℤ pos (loss_with (factors_mean card Q) (bed_of card Q) middle)
