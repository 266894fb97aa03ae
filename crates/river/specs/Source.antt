-- The demands on oxygen that a reach has, BOD and nitrogenous BOD. Each has a rate, and a source: it comes into a reach by its inflow, the
-- concentration in it, and a load.
use Rattle.std.specs.Prelude.{Option, Some, None, ℕ, ◌+◌, ◌*◌, ◌<◌, ◌≤◌}
use Rattle.river.specs.declared.card.Card.{Card}
use Rattle.river.specs.declared.card.Nitrification.{Nitrification}
use Rattle.river.specs.declared.source.Demand.{Demand}
use Rattle.river.specs.declared.source.Demand.TheVariants.{Bod, Nitrogenous}
use Rattle.river.specs.declared.source.Source.{Source}

-- the source and the rate of nitrogenous BOD; a reach without nitrification adds none, and its rate is 0
abbrev pub nitrogenous_source : (inflow : ℕ) → Option Nitrification → Source
nitrogenous_source inflow None = record { inflow = inflow; concentration = 0; load = 0 }
nitrogenous_source inflow (Some n) = record { inflow = inflow; concentration = n.concentration; load = n.load }

abbrev pub nitrogenous_rate : Option Nitrification → ℕ
nitrogenous_rate None = 0
nitrogenous_rate (Some n) = n.rate

-- the source of a demand of a reach
abbrev pub source_of : Demand → Card → Source
source_of Bod card = record { inflow = card.inflow; concentration = card.inflow_bod; load = card.load }
source_of Nitrogenous card = nitrogenous_source card.inflow card.optionals.nitrification

-- the rate of a demand of a reach
abbrev pub rate_of : Demand → Card → ℕ
rate_of Bod card = card.k1
rate_of Nitrogenous card = nitrogenous_rate card.optionals.nitrification

-- the undecayed demand that a source brings: inflow × concentration, plus 1,000 × load
abbrev pub source_mass : Source → ℕ
source_mass source = source.inflow * source.concentration + 1_000 * source.load

-- the ranges of a source's numbers; a load is any that four bytes hold
pub record SourceInRange (source : Source) : Type 0 where
  pub inflow : source.inflow ≤ 100_000_000
  pub concentration : source.concentration ≤ 1_000_000
  pub load : source.load < 4_294_967_296

-- the sources of a reach are in range
pub record SourcesInRange (card : Card) : Type 0 where
  pub each : (demand : Demand) → SourceInRange (source_of demand card)
