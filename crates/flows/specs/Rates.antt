-- "Rates in force" of the river file paper: laboratories give rates at 20 degrees; where a river has rate factors, the rates of a reach are
-- corrected to its own temperature. All later definitions take the cards with the rates in force.
use Rattle.std.specs.Prelude.{Option, Some, None, List, map, ℕ, zero, suc, ◌*◌, ◌-◌, ◌/◌, ◌≤◌}
use Rattle.river.specs.declared.card.Card.{Card}
use Rattle.river.specs.declared.card.Nitrification.{Nitrification}
use Rattle.river.specs.declared.card.Optionals.{Optionals}
use Rattle.river.specs.declared.card.RateFactors.{RateFactors}
use Rattle.river.specs.Card.{with_nitrification, RatesInRange}
use Rattle.river.specs.Records.{rate_most}
use Rattle.river.specs.River.{River}

-- each degree multiplies by numerator / denominator, rounded each time
unfoldable pub scaled : (numerator denominator degrees rate : ℕ) → ℕ
scaled numerator denominator zero rate = rate
scaled numerator denominator (suc degrees) rate = scaled numerator denominator degrees rate * numerator / denominator

-- each degree above 20 multiplies by factor / 1,000
abbrev pub warmed : (factor degrees rate : ℕ) → ℕ
warmed factor degrees rate = scaled factor 1_000 degrees rate

-- each degree below 20 divides by factor / 1,000
abbrev pub cooled : (factor degrees rate : ℕ) → ℕ
cooled factor degrees rate = scaled 1_000 factor degrees rate

-- the corrected rate at T degrees: it starts as the card's × 1,000,000, and at the end is divided by 1,000,000 and rounded
unfoldable pub corrected_rate : (factor T rate : ℕ) → ℕ
corrected_rate factor T rate = warmed factor (T - 20) (cooled factor (20 - T) (rate * 1_000_000)) / 1_000_000

-- the rate of a demand, and that of surface aeration, in force at T degrees: the card's without factors
unfoldable pub decay_in_force : Option RateFactors → (T rate : ℕ) → ℕ
decay_in_force None T rate = rate
decay_in_force (Some factors) T rate = corrected_rate factors.decay T rate

unfoldable pub aeration_in_force : Option RateFactors → (T rate : ℕ) → ℕ
aeration_in_force None T rate = rate
aeration_in_force (Some factors) T rate = corrected_rate factors.aeration T rate

-- a nitrification with its rate changed
abbrev pub with_rate : (ℕ → ℕ) → Option Nitrification → Option Nitrification
with_rate change None = None
with_rate change (Some n) = Some (record n { rate = change n.rate })

-- optional fields with their one rate changed
abbrev pub with_rates : (ℕ → ℕ) → Optionals → Optionals
with_rates change o = with_nitrification (with_rate change o.nitrification) o

-- a card with the rates in force at its own temperature; the nitrogenous rate is that of a demand
abbrev pub card_in_force : Option RateFactors → Card → Card
card_in_force factors c =
    record {
      outlet = c.outlet;
      temperature = c.temperature;
      k1 = decay_in_force factors c.temperature c.k1;
      k2 = aeration_in_force factors c.temperature c.k2;
      volume = c.volume;
      inflow = c.inflow;
      inflow_bod = c.inflow_bod;
      inflow_oxygen = c.inflow_oxygen;
      load = c.load;
      dam = c.dam;
      optionals = with_rates (decay_in_force factors c.temperature) c.optionals;
    }

-- the cards of a river with the rates in force
abbrev pub in_force : River → List Card
in_force r = map (card_in_force r.factors) r.cards

-- what the correction of a rate asks: a temperature and a rate in the ranges of a card
pub record Correctable (T k : ℕ) : Type 0 where
  pub temperature : T ≤ 35
  pub rate : k ≤ rate_most

-- and of a card
pub record CorrectableCard (c : Card) : Type 0 where
  pub temperature : c.temperature ≤ 35
  pub rates : RatesInRange c

-- what the program needs of a ratio n / m, of so many degrees and of a rate in millionths: a product fits eight bytes at each degree
pub record ScaleFits (n m d r : ℕ) : Type 0 where
  pub numerator : n ≤ 1_100
  pub denominator : 1_000 ≤ m
  pub degrees : d ≤ 20
  pub rate : r ≤ 20_000_000_000
