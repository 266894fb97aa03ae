-- The ranges of the demands of a card: their sources and rates, and what a source brings at most.
use mathlib.Core.Path.{◌≡◌, refl}
use Prim.Native.Nat.{ℕ, ◌≤◌, zero-le}
use native.Mathlib.Nat.{mul-le-mul}
use native.Mathlib.Omega.{arith}
use lib.Dec.{lit<}
use Rattle.std.specs.Prelude.{Option, Some, None}
use Rattle.river.specs.declared.card.Card.{Card}
use Rattle.river.specs.declared.card.Nitrification.{Nitrification}
use Rattle.river.specs.declared.source.Demand.{Demand}
use Rattle.river.specs.declared.source.Demand.TheVariants.{Bod, Nitrogenous}
use Rattle.river.specs.declared.source.Source.{Source}
use Rattle.river.specs.Card.{RegularNitrification, RatesInRange, RegularCard}
use Rattle.river.specs.Records.{rate_most}
use Rattle.river.specs.Source.{nitrogenous_source, source_of, rate_of, source_mass, SourceInRange, SourcesInRange}
use Rattle.river.proofs.range.Ranges.{regular_nitrification}

-- every demand comes in with the inflow of the reach
nitrogenous_inflow : (inflow : ℕ) (n : Option Nitrification) → (nitrogenous_source inflow n).inflow ≡ inflow
nitrogenous_inflow inflow None = refl
nitrogenous_inflow inflow (Some n) = refl

pub source_inflow : (d : Demand) (c : Card) → (source_of d c).inflow ≡ c.inflow
source_inflow Bod c = refl
source_inflow Nitrogenous c = nitrogenous_inflow c.inflow c.optionals.nitrification

-- the source of nitrogenous BOD is in range
nitrogenous_in_range : (inflow : ℕ) (n : Option Nitrification) → inflow ≤ 100_000_000 → RegularNitrification n → SourceInRange (nitrogenous_source inflow n)
nitrogenous_in_range inflow None i h = record { inflow = i; concentration = zero-le; load = lit< tt }
nitrogenous_in_range inflow (Some n) i h = record { inflow = i; concentration = h.1.0.most; load = omega (arith, h.1.1.0.most) }

pub sources_in_range : {n i : ℕ} {c : Card} → RegularCard n i c → SourcesInRange c
sources_in_range {c = c} h = record { each = each }
  where
    each : (d : Demand) → SourceInRange (source_of d c)
    each Bod = record { inflow = h.in_range.inflow; concentration = h.in_range.inflow_bod; load = h.load }
    each Nitrogenous = nitrogenous_in_range c.inflow c.optionals.nitrification h.in_range.inflow (regular_nitrification h.optionals)

-- the rate of a demand is in range
pub rate_small : {c : Card} → RatesInRange c → (d : Demand) → rate_of d c ≤ rate_most
rate_small h Bod = h.k1
rate_small h Nitrogenous = h.nitrogenous

-- a source in range brings at most 100,000,000 × 1,000,000, plus 1,000 × 2^32
pub source_mass_small : {source : Source} → SourceInRange source → source_mass source ≤ 104_294_967_296_000
source_mass_small r = omega (arith, mul-le-mul r.inflow r.concentration, r.load)
