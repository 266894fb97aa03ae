-- What the program computes along a reach: its two demands and oxygen at each instant, in its own digits, which are free within demand 3 and the ties.
use Rattle.std.specs.Prelude.{ℕ, ◌*◌, ◌/◌, ℤ, pos, ◌-ℤ◌, ◌*ℤ◌}
pub use Rattle.decay.specs.Exact.{foot}
use Rattle.decay.specs.Fixed.{one, product}
use Rattle.decay.specs.held.Promise.{factors_of}
use Rattle.decay.specs.held.Step.{step_of}
use Rattle.decay.specs.held.Factors.{demand_from}
use Rattle.decay.specs.declared.factors.DemandFactors.{DemandFactors}
use Rattle.decay.specs.declared.factors.Factors.{Factors}
use Rattle.river.specs.declared.card.Card.{Card}
use Rattle.flows.specs.Saturation.{saturation_of}
use Rattle.river.specs.declared.source.Demand.{Demand}
use Rattle.river.specs.declared.source.Demand.TheVariants.{Bod, Nitrogenous}
use Rattle.river.specs.Source.{rate_of}
use Rattle.flows.specs.Head.{floor}
use Rattle.report.specs.held.Bed.{bed_of, loss_with}

-- oxygen where these factors of BOD hold, with saturation Cs, head BOD L and head oxygen C, if nothing else takes any: Cs less the share of
-- L that has turned to deficit and the share kept of the head deficit, each rounded down
unfoldable pub oxygen_with : Factors → (Cs L : ℕ) (C : ℤ) → ℤ
oxygen_with f Cs L C = pos Cs -ℤ pos (product f.turned L) -ℤ floor (pos f.kept *ℤ (pos Cs -ℤ C)) one

-- the factors of a reach with flow Q at instant m
unfoldable pub factors_along : Card → (Q m : ℕ) → Factors
factors_along card Q m = factors_of card.k1 card.k2 card.volume Q m

-- nitrogenous BOD is stepped from instant to instant in parts of a unit: 2^14, so that the most units, 1,000,000,000, are less than 2^44 parts
abbrev pub unit_parts : ℕ
unit_parts = 16_384

-- nitrogenous BOD of a reach with flow Q at instant m, in these parts, with head value L
unfoldable pub parts_along : Card → (Q L m : ℕ) → DemandFactors
parts_along card Q L m = demand_from (unit_parts * L) (step_of (rate_of Nitrogenous card) card.k2 card.volume Q) m

-- the oxygen lost to the bed of a reach with flow Q at instant m
unfoldable pub loss_along : Card → (Q m : ℕ) → ℕ
loss_along card Q m = loss_with (factors_along card Q m) (bed_of card Q) m

-- a demand at instant m of a reach with flow Q and head value L, rounded down: of BOD the share left of it, of nitrogenous BOD the units in the parts left
unfoldable pub demand_along : Demand → Card → (Q L m : ℕ) → ℕ
demand_along Bod card Q L m = product (factors_along card Q m).left L
demand_along Nitrogenous card Q L m = (parts_along card Q L m).left / unit_parts

-- how much of it has turned to deficit there, rounded down
unfoldable pub turned_along : Demand → Card → (Q L m : ℕ) → ℕ
turned_along Bod card Q L m = product (factors_along card Q m).turned L
turned_along Nitrogenous card Q L m = (parts_along card Q L m).turned / unit_parts

-- oxygen at instant m of a reach with flow Q, head BOD L, head nitrogenous BOD Ln and head oxygen C
unfoldable pub oxygen_along : Card → (Q L Ln : ℕ) (C : ℤ) (m : ℕ) → ℤ
oxygen_along card Q L Ln C m =
    oxygen_with (factors_along card Q m) (saturation_of card) L C -ℤ pos (turned_along Nitrogenous card Q Ln m) -ℤ pos (loss_along card Q m)
