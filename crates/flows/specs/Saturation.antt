-- Saturation of oxygen: at a temperature in degrees C and an air pressure in mm of mercury, by the polynomial of the river file paper, and
-- of a reach, by its card.
use Rattle.std.specs.Prelude.{ℕ, ◌+◌, ◌*◌, ◌-◌, ◌/◌, ◌≤◌}
use Rattle.river.specs.declared.card.Card.{Card}
use Rattle.river.specs.Card.{amount_or}

-- exact saturation at the standard pressure, in thousandths of a unit: 14.652 − 0.41022 T + 0.007991 T² − 0.000077774 T³ mg/L, which is above
-- zero from 0 to 35 degrees
unfoldable pub saturation_thousandths : ℕ → ℕ
saturation_thousandths T = 14_652_000_000 + 7_991_000 * (T * T) - (410_220_000 * T + 77_774 * (T * T * T))

-- the standard pressure
abbrev pub standard_pressure : ℕ
standard_pressure = 760

-- saturation at a pressure: that at the standard pressure × pressure / 760, rounded to a unit once, at the end
unfoldable pub saturation : (T pressure : ℕ) → ℕ
saturation T pressure = saturation_thousandths T * pressure / (1_000 * standard_pressure)

-- pressure of a reach: its card's, 760 without a `BP` record
abbrev pub pressure_of : Card → ℕ
pressure_of card = amount_or standard_pressure card.optionals.pressure

-- saturation of a reach, for its dam too: that at its own temperature and pressure
unfoldable pub saturation_of : Card → ℕ
saturation_of card = saturation card.temperature (pressure_of card)

-- what saturation asks of temperature and pressure, and so of a card: 0 to 35 degrees, at most 800 mm
pub record ConditionsInRange (T p : ℕ) : Type 0 where
  pub temperature : T ≤ 35
  pub pressure : p ≤ 800

abbrev pub SaturationInRange : Card → Type 0
SaturationInRange card = ConditionsInRange card.temperature (pressure_of card)
