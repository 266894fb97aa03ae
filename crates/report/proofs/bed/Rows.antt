-- Sludge beds at a small reach, computed from the definitions: 864,000 m³ and 20,000 L/s, of which 10,000 are taken, so that the water stays
-- for a day; the bed's demand is 2 mg/L a day.
use mathlib.Core.Path.{◌≡◌, refl}
use Prim.Native.Nat.{ℕ, ◌-◌, ◌/◌}
use lib.IntN.{pos}
use Rattle.std.specs.Prelude.{Some, None}
use lib.Signed.{le_z_yes}
use Rattle.decay.specs.Fraction.{◌≈◌, ◌≼◌, of_ℕ, of_ℤ, ◌+ᶠ◌, -ᶠ◌, ◌*ᶠ◌, ◌÷◌, over}
use Rattle.decay.specs.Exact.{foot, exponent, power, factorial, term, sum, S, F}
use Rattle.decay.specs.Fixed.{one, product, quotient}
use Rattle.decay.specs.held.Step.{exponent_of, step_of}
use Rattle.decay.specs.Series.{term_of, next_terms, terms_at, term_at, with_term, sum_of, count_from, series_of}
use Rattle.decay.specs.held.Factors.{demand_from, head_factors, next_factors, factors_at}
use Rattle.decay.specs.declared.factors.Factors.{Factors}
use Rattle.river.specs.declared.card.Card.{Card}
use Rattle.river.specs.Card.{no_optionals, with_take, with_sludge}
use Rattle.flows.specs.Flow.{none, fed, flow_of, reach_flow}
use Rattle.flows.specs.Saturation.{saturation, saturation_thousandths, saturation_of}
use Rattle.flows.specs.Head.{floor, upstream_demand, upstream_oxygen, below_dam, head_demand, head_oxygen}
use Rattle.report.specs.held.Bed.{bed_by, bed_of, loss_with}
use Rattle.report.specs.Program.{demand_sum, oxygen_sum, demand_at_head, oxygen_at_head, oxygen_at}
use Rattle.report.specs.held.Digits.{oxygen_with, factors_along, parts_along, loss_along, turned_along, oxygen_along}
use Rattle.report.specs.Recurrence.{exact_saturation, exact_mean, exact_below_dam, exact_mixed_demand, exact_mixed_oxygen, exact_head_demand, exact_head_oxygen, exact_loss, exact_turned_along, exact_oxygen_along, exact_demand_sum, exact_oxygen_sum, exact_demand_at_head, exact_oxygen_at_head, exact_oxygen_at}

-- the reach, by its rate k2; no BOD comes into it, and its oxygen is 14 mg/L
abbrev reach : (k2 : ℕ) → Card
reach k2 =
    record {
      outlet = 0;
      temperature = 0;
      k1 = 0;
      k2 = k2;
      volume = 864_000;
      inflow = 20_000;
      inflow_bod = 0;
      inflow_oxygen = 14_000;
      load = 0;
      dam = None;
      optionals = with_take (Some 10_000) (with_sludge (Some 2_000) no_optionals);
    }

abbrev flow : (k2 : ℕ) → ℕ
flow k2 = reach_flow (reach k2) none

-- factors where three quarters of the deficit are left
abbrev quarter : Factors
quarter = record { left = one; turned = 0; kept = one - one / 4 }

pub record BedRows : Type 0 where
  -- k2 = 0: 2 mg/L by the foot, half of it half way
  pub linear_bed : bed_of (reach 0) (flow 0) ≡ record { eventual = 0; linear = 2_000_000 }
  pub half_way : loss_along (reach 0) (flow 0) 512 ≡ 1_000_000
  pub exact_half_way : exact_loss 40 (reach 0) (flow 0) 512 ≈ of_ℕ 1_000_000
  -- and head oxygen less that, with the flow after the take
  pub foot_oxygen : oxygen_at (reach 0) none foot ≡ pos 12_000_000
  pub exact_foot_oxygen : exact_oxygen_at 40 (reach 0) none foot ≈ of_ℕ 12_000_000
  -- k2 = 1 a day: 2 mg/L in the end, a quarter of it once a quarter of the deficit has gone
  pub eventual_bed : bed_of (reach 1_000) (flow 1_000) ≡ record { eventual = 2_000_000; linear = 0 }
  pub quarter_gone : loss_with quarter (bed_of (reach 1_000) (flow 1_000)) 300 ≡ 500_000
  -- 2 × (1 − 1/e) mg/L at the foot, by the program's factors and exactly
  pub foot_loss : loss_along (reach 1_000) (flow 1_000) foot ≡ 1_264_241
  pub exact_low : of_ℕ 1_264_241 ≼ exact_loss 40 (reach 1_000) (flow 1_000) foot
  pub exact_high : exact_loss 40 (reach 1_000) (flow 1_000) foot ≼ of_ℕ 1_264_242

-- THEOREM: these losses, a row each
pub bed_rows : BedRows
unfolding bed_by bed_of loss_with loss_along factors_along factors_at next_factors head_factors demand_from step_of exponent_of quotient product term_of next_terms terms_at term_at with_term sum_of count_from series_of oxygen_at oxygen_along oxygen_with turned_along parts_along demand_at_head oxygen_at_head head_demand head_oxygen upstream_demand upstream_oxygen below_dam floor demand_sum oxygen_sum saturation_of saturation saturation_thousandths flow_of fed exact_loss of_ℤ ◌+ᶠ◌ -ᶠ◌ ◌*ᶠ◌ ◌÷◌ over exponent power factorial term sum S F exact_saturation exact_mean exact_below_dam exact_mixed_demand exact_mixed_oxygen exact_head_demand exact_head_oxygen exact_turned_along exact_oxygen_along exact_demand_sum exact_oxygen_sum exact_demand_at_head exact_oxygen_at_head exact_oxygen_at
bed_rows =
    record {
      linear_bed = refl;
      half_way = refl;
      exact_half_way = record { across = refl };
      foot_oxygen = refl;
      exact_foot_oxygen = record { across = refl };
      eventual_bed = refl;
      quarter_gone = refl;
      foot_loss = refl;
      exact_low = record { across = le_z_yes tt };
      exact_high = record { across = le_z_yes tt };
    }
