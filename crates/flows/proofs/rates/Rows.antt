-- The bench values of the river file paper for corrected rates, proved from the definitions by computation, and a corrected rate on either side of
-- 20 degrees.
use mathlib.Core.Path.{◌≡◌, refl, ap}
use Prim.Native.Nat.{ℕ, ◌-◌, ◌*◌, ◌/◌, ◌<◌, ◌≤◌}
use native.Mathlib.Omega.{arith}
use Rattle.std.specs.Prelude.{Some, None}
use Rattle.river.specs.declared.card.Card.{Card}
use Rattle.river.specs.declared.source.Demand.TheVariants.{Nitrogenous}
use Rattle.river.specs.Card.{no_optionals, with_nitrification}
use Rattle.river.specs.Source.{rate_of}
use Rattle.flows.specs.Rates.{scaled, warmed, cooled, corrected_rate, decay_in_force, aeration_in_force, card_in_force}

-- a card at 25 degrees, all of whose rates are 1,000, with rates in force by two factors
abbrev warm : Card
warm =
    card_in_force (Some (record { decay = 1_047; aeration = 1_024 }))
    (record {
      outlet = 0;
      temperature = 25;
      k1 = 1_000;
      k2 = 1_000;
      volume = 0;
      inflow = 1;
      inflow_bod = 0;
      inflow_oxygen = 0;
      load = 0;
      dam = None;
      optionals = with_nitrification (Some (record { rate = 1_000; concentration = 0; load = 0 })) no_optionals;
    })

pub record RateRows : Type 0 where
  pub at_25 : corrected_rate 1_047 25 1_000 ≡ 1_258
  pub at_10 : corrected_rate 1_047 10 1_000 ≡ 631
  pub at_0 : corrected_rate 1_047 0 230 ≡ 91
  -- rounded each time; rounded only at the end it would be 2,198
  pub each_time : corrected_rate 1_014 2 2_823 ≡ 2_197
  -- past the range, and the largest of all
  pub past : corrected_rate 1_024 21 20_000 ≡ 20_480
  pub largest : corrected_rate 1_100 35 20_000 ≡ 83_544
  -- the first factor is for k1 and the nitrogenous rate, the second for k2
  pub first_factor : rate_of Nitrogenous warm ≡ 1_258
  pub decay : warm.k1 ≡ 1_258
  pub aeration : warm.k2 ≡ 1_125

-- THEOREM: these values, a row each
pub rate_rows : RateRows
unfolding corrected_rate scaled decay_in_force aeration_in_force
rate_rows =
    record {
      at_25 = refl;
      at_10 = refl;
      at_0 = refl;
      each_time = refl;
      past = refl;
      largest = refl;
      first_factor = refl;
      decay = refl;
      aeration = refl;
    }

-- the corrected rate below 20 degrees, and from 20 on
pub below_twenty : (factor T rate : ℕ) → T < 20 → corrected_rate factor T rate ≡ cooled factor (20 - T) (rate * 1_000_000) / 1_000_000
unfolding corrected_rate scaled
below_twenty factor T rate h = ap (λ (d : ℕ). warmed factor d (cooled factor (20 - T) (rate * 1_000_000)) / 1_000_000) (let e : T - 20 ≡ 0 = omega arith in e)

pub from_twenty : (factor T rate : ℕ) → 20 ≤ T → corrected_rate factor T rate ≡ warmed factor (T - 20) (rate * 1_000_000) / 1_000_000
unfolding corrected_rate scaled
from_twenty factor T rate h = ap (λ (d : ℕ). warmed factor (T - 20) (cooled factor d (rate * 1_000_000)) / 1_000_000) (let e : 20 - T ≡ 0 = omega arith in e)
