-- Nitrogenous BOD in two reaches, computed from the definitions: it comes into the upper one with 10,000 L/s, at 10 mg/L, and stays there for a
-- day at a rate of 1 a day; the lower one has no nitrification, takes in as much water, and carries what comes down. No BOD comes in, and nothing
-- is aerated.
use mathlib.Core.Path.{◌≡◌, refl}
use lib.IntN.{pos}
use lib.Signed.{le_z_yes}
use Rattle.std.specs.Prelude.{Option, Some, None}
use Rattle.decay.specs.Fraction.{◌≼◌, of_ℕ, of_ℤ, ◌+ᶠ◌, -ᶠ◌, ◌*ᶠ◌, ◌÷◌, over}
use Rattle.decay.specs.Exact.{foot, exponent, power, factorial, term, sum, S, F}
use Rattle.decay.specs.Fixed.{product, quotient}
use Rattle.decay.specs.held.Step.{exponent_of, step_of}
use Rattle.decay.specs.Series.{term_of, next_terms, terms_at, term_at, with_term, sum_of, count_from, series_of}
use Rattle.decay.specs.held.Factors.{demand_from, head_factors, next_factors, factors_at}
use Rattle.river.specs.declared.card.Card.{Card}
use Rattle.river.specs.declared.card.Nitrification.{Nitrification}
use Rattle.river.specs.declared.source.Demand.TheVariants.{Bod, Nitrogenous}
use Rattle.river.specs.Card.{no_optionals, with_nitrification}
use Rattle.flows.specs.Flow.{Feeders, none, more, fed, flow_of}
use Rattle.flows.specs.Saturation.{saturation, saturation_thousandths, saturation_of}
use Rattle.flows.specs.Head.{floor, upstream_demand, upstream_oxygen, aerated, below_dam, head_demand, head_oxygen}
use Rattle.report.specs.held.Bed.{bed_by, bed_of, loss_with}
use Rattle.report.specs.Program.{demand_sum, oxygen_sum, demand_at_head, oxygen_at_head, demand_at, oxygen_at}
use Rattle.report.specs.held.Digits.{oxygen_with, factors_along, parts_along, loss_along, demand_along, turned_along, oxygen_along}
use Rattle.report.specs.Recurrence.{exact_saturation, exact_mean, exact_below_dam, exact_mixed_demand, exact_mixed_oxygen, exact_head_demand, exact_head_oxygen, exact_demand_along, exact_turned_along, exact_loss, exact_oxygen_along, exact_demand_sum, exact_oxygen_sum, exact_demand_at_head, exact_oxygen_at_head, exact_demand_at, exact_oxygen_at}

-- a reach, by its nitrification; its oxygen is 14 mg/L
abbrev reach : Option Nitrification → Card
reach nitrification =
    record {
      outlet = 0;
      temperature = 0;
      k1 = 0;
      k2 = 0;
      volume = 864_000;
      inflow = 10_000;
      inflow_bod = 0;
      inflow_oxygen = 14_000;
      load = 0;
      dam = None;
      optionals = with_nitrification nitrification no_optionals;
    }

abbrev upper : Card
upper = reach (Some (record { rate = 1_000; concentration = 10_000; load = 0 }))

abbrev lower : Card
lower = reach None

-- what flows into the lower reach
abbrev above : Feeders
above = more upper none none

pub record NitrificationRows : Type 0 where
  -- the upper reach: what comes in, what is left of it at the foot, 10 / e mg/L, and head oxygen less what has turned to deficit
  pub head : demand_at_head Nitrogenous upper none ≡ 10_000_000
  pub left : demand_at Nitrogenous upper none foot ≡ 3_678_794
  pub exact_left_low : of_ℕ 3_678_794 ≼ exact_demand_at 40 Nitrogenous upper none foot
  pub exact_left_high : exact_demand_at 40 Nitrogenous upper none foot ≼ of_ℕ 3_678_795
  pub oxygen : oxygen_at upper none foot ≡ pos 7_678_795
  pub exact_oxygen_low : of_ℕ 7_678_794 ≼ exact_oxygen_at 40 upper none foot
  pub exact_oxygen_high : exact_oxygen_at 40 upper none foot ≼ of_ℕ 7_678_795
  -- the lower reach carries half of that, mixed with as much water, to its foot
  pub carried : demand_at_head Nitrogenous lower above ≡ 1_839_397
  pub carried_on : demand_at Nitrogenous lower above foot ≡ 1_839_397
  pub exact_carried_low : of_ℕ 1_839_397 ≼ exact_demand_at 40 Nitrogenous lower above foot
  pub exact_carried_high : exact_demand_at 40 Nitrogenous lower above foot ≼ of_ℕ 1_839_398
  -- BOD is none of it
  pub no_bod : demand_at Bod lower above foot ≡ 0

-- THEOREM: these figures, a row each
pub nitrification_rows : NitrificationRows
unfolding bed_by bed_of loss_with loss_along factors_along factors_at next_factors head_factors demand_from step_of exponent_of quotient product term_of next_terms terms_at term_at with_term sum_of count_from series_of demand_at demand_along parts_along oxygen_at oxygen_along oxygen_with turned_along demand_at_head oxygen_at_head head_demand head_oxygen upstream_demand upstream_oxygen aerated below_dam floor demand_sum oxygen_sum saturation_of saturation saturation_thousandths flow_of fed of_ℤ ◌+ᶠ◌ -ᶠ◌ ◌*ᶠ◌ ◌÷◌ over exponent power factorial term sum S F exact_loss exact_saturation exact_mean exact_below_dam exact_mixed_demand exact_mixed_oxygen exact_head_demand exact_head_oxygen exact_demand_along exact_turned_along exact_oxygen_along exact_demand_sum exact_oxygen_sum exact_demand_at_head exact_oxygen_at_head exact_demand_at exact_oxygen_at
nitrification_rows =
    record {
      head = refl;
      left = refl;
      exact_left_low = record { across = le_z_yes tt };
      exact_left_high = record { across = le_z_yes tt };
      oxygen = refl;
      exact_oxygen_low = record { across = le_z_yes tt };
      exact_oxygen_high = record { across = le_z_yes tt };
      carried = refl;
      carried_on = refl;
      exact_carried_low = record { across = le_z_yes tt };
      exact_carried_high = record { across = le_z_yes tt };
      no_bod = refl;
    }
