-- The mean of the program's own 1,025 values of oxygen is not the mean oxygen of a reach: at the reach of the river file paper's bench values it is off by
-- 784 units, and 100 are allowed. Proved at N = 40 by computing both.
use mathlib.Core.Path.{◌≡◌, refl, ap, ◌∙◌}
use Prim.Native.Nat.{ℕ, zero, suc, ◌*◌, ◌/◌}
use lib.IntN.{ℤ, pos, ◌+ℤ◌, ◌-ℤ◌}
use lib.Signed.{le_z_yes}
use Rattle.decay.specs.Fraction.{◌≼◌, of_ℕ, of_ℤ, ◌+ᶠ◌, -ᶠ◌, ◌*ᶠ◌, ◌÷◌, over, ∣◌∣ᶠ, distance}
use Rattle.decay.specs.Exact.{foot, exponent, power, factorial, term, sum}
use Rattle.decay.specs.Integral.{value_at, integral, mean_of, constant, times_time, series_terms, share_terms}
use Rattle.decay.specs.Fixed.{product, quotient}
use Rattle.decay.specs.held.Step.{exponent_of, step_of, mean_sum_of, mean_step_of}
use Rattle.decay.specs.Series.{term_of, next_terms, terms_at, term_at, with_term, sum_of, count_from, series_of}
use Rattle.decay.specs.held.Factors.{next_demand, demand_from, head_factors, next_factors, factors_at}
use Rattle.decay.specs.declared.factors.DemandFactors.{DemandFactors}
use Rattle.decay.specs.declared.factors.Factors.{Factors}
use Rattle.river.specs.declared.card.Card.{Card}
use Rattle.river.specs.declared.source.Demand.TheVariants.{Bod, Nitrogenous}
use Rattle.river.specs.Source.{rate_of}
use Rattle.flows.specs.Flow.{card_of, above, feeders_among, joined_if, fed, flow_of, deepest, reach_flow}
use Rattle.flows.specs.Saturation.{saturation, saturation_thousandths, saturation_of}
use Rattle.flows.specs.Head.{floor, upstream_demand, upstream_oxygen, below_dam, head_demand, head_oxygen}
use Rattle.report.specs.held.Bed.{bed_by, bed_of, loss_with}
use Rattle.report.specs.Program.{demand_sum, oxygen_sum, demand_at_head, oxygen_at_head, oxygen_at}
use Rattle.report.specs.held.Digits.{oxygen_with, unit_parts, factors_along, parts_along, loss_along, turned_along, oxygen_along}
use Rattle.report.specs.Status.{used_by}
use Rattle.report.specs.Record.{is_nitrified, has_nitrification}
use Rattle.report.specs.Recurrence.{exact_saturation, exact_mean, exact_below_dam, exact_mixed_demand, exact_mixed_oxygen, exact_head_demand, exact_head_oxygen, exact_demand_sum, exact_oxygen_sum, exact_demand_at_head, exact_oxygen_at_head}
use Rattle.report.specs.Distance.{has_bed, step_units, allowance_at}
use Rattle.report.specs.ExactMean.{loss_terms, oxygen_terms, exact_mean_oxygen_along, exact_mean_oxygen}
use Rattle.report.specs.Mean.{mean_at}
use Rattle.report.proofs.mean.BySums.{sums_to, factors_by_sums, demand_by_sums, mean_by_sums, mean_by_sums_lem}
use Rattle.report.proofs.Refutations.{two}

-- the sum of the values at the instants before n
unfoldable pub sum_of_values : (ℕ → ℤ) → ℕ → ℤ
sum_of_values at zero = pos 0
sum_of_values at (suc n) = sum_of_values at n +ℤ at n

-- the sum of the 1,025 values of oxygen of that reach, the first of the river of proofs/Refutations
abbrev pub all_values : ℤ
all_values = sum_of_values (oxygen_at (card_of two 1) (above two 1)) (suc foot)

-- ---- the sum by one walk, which carries the factors, the nitrogenous BOD and the sum along

record Walk : Type 0 where
  factors : Factors
  parts : DemandFactors
  sum : ℤ

module _ (card : Card) (Q L Ln : ℕ) (C : ℤ) where
  -- oxygen where these factors and parts hold
  abbrev oxygen_by : Factors → DemandFactors → (m : ℕ) → ℤ
  oxygen_by f p m = oxygen_with f (saturation_of card) L C -ℤ pos (p.turned / unit_parts) -ℤ pos (loss_with f (bed_of card Q) m)

  unfoldable walk : ℕ → Walk
  walk zero = record { factors = head_factors; parts = record { left = unit_parts * Ln; turned = 0 }; sum = pos 0 }
  walk (suc m) =
      let w = walk m in
      record {
        factors = next_factors (step_of card.k1 card.k2 card.volume Q) w.factors;
        parts = next_demand (step_of (rate_of Nitrogenous card) card.k2 card.volume Q) w.parts;
        sum = w.sum +ℤ oxygen_by w.factors w.parts m;
      }

  record Walked (m : ℕ) : Type 0 where
    factors : (walk m).factors ≡ factors_along card Q m
    parts : (walk m).parts ≡ parts_along card Q Ln m
    sum : (walk m).sum ≡ sum_of_values (oxygen_along card Q L Ln C) m

  walked : (m : ℕ) → Walked m
  unfolding walk factors_along factors_at parts_along demand_from sum_of_values oxygen_along turned_along loss_along
  walked zero = record { factors = refl; parts = refl; sum = refl }
  walked (suc m) =
      let h = walked m in
      record {
        factors = ap (next_factors (step_of card.k1 card.k2 card.volume Q)) h.factors;
        parts = ap (next_demand (step_of (rate_of Nitrogenous card) card.k2 card.volume Q)) h.parts;
        sum = rw (h.sum, h.factors, h.parts);
      }

-- ---- both means, computed

-- the walk down that reach
abbrev walked_sum : ℤ
walked_sum =
    (walk (card_of two 1) (reach_flow (card_of two 1) (above two 1)) (demand_at_head Bod (card_of two 1) (above two 1)) (demand_at_head Nitrogenous (card_of two 1) (above two 1))
    (oxygen_at_head (card_of two 1) (above two 1)) (suc foot)).sum

by_walk : walked_sum ≡ all_values
unfolding oxygen_at
by_walk = (walked _ _ _ _ _ (suc foot)).sum

walked_sum_lem : walked_sum ≡ pos 12_310_632_890
unfolding walk feeders_among joined_if fed flow_of head_factors next_factors step_of exponent_of quotient product term_of next_terms terms_at term_at with_term sum_of count_from series_of bed_by bed_of loss_with oxygen_with demand_at_head oxygen_at_head head_demand head_oxygen upstream_demand upstream_oxygen below_dam floor demand_sum oxygen_sum saturation_of saturation saturation_thousandths
walked_sum_lem = refl

-- THEOREM: the sum of the values; 12,010,373 units are their mean
pub values_sum : all_values ≡ pos 12_310_632_890
values_sum = rw (← by_walk) walked_sum_lem

by_sums : mean_by_sums (card_of two 1) (above two 1) ≡ pos 12_009_589
unfolding sums_to factors_by_sums demand_by_sums mean_by_sums mean_sum_of mean_step_of feeders_among joined_if fed flow_of head_factors next_factors step_of exponent_of quotient product term_of next_terms terms_at term_at with_term sum_of count_from series_of bed_by bed_of loss_with oxygen_with demand_at_head oxygen_at_head head_demand head_oxygen upstream_demand upstream_oxygen below_dam floor demand_sum oxygen_sum saturation_of saturation saturation_thousandths
by_sums = refl

-- THEOREM: the program's mean of the reach
pub own_mean : mean_at two 1 ≡ pos 12_009_589
unfolding feeders_among used_by
own_mean = mean_by_sums_lem (card_of two 1) (above two 1) ∙ by_sums

-- the exact mean lies further from that of the values than the distance allowed, rounded down or not, and within a unit of the program's
record Apart : Type 0 where
  as_fraction : distance (of_ℕ 12_310_632_890 ÷ of_ℕ (suc foot)) (exact_mean_oxygen 40 (card_of two 1) (above two 1)) ≼ allowance_at two 1 → ⊥
  rounded : distance (of_ℤ (floor (pos 12_310_632_890) (suc foot))) (exact_mean_oxygen 40 (card_of two 1) (above two 1)) ≼ allowance_at two 1 → ⊥
  own : distance (of_ℕ 12_009_589) (exact_mean_oxygen 40 (card_of two 1) (above two 1)) ≼ of_ℕ 1

apart : Apart
unfolding floor of_ℤ ◌+ᶠ◌ -ᶠ◌ ◌*ᶠ◌ ◌÷◌ over ∣◌∣ᶠ distance exponent power factorial term sum value_at integral mean_of constant times_time series_terms share_terms feeders_among joined_if fed flow_of deepest is_nitrified has_nitrification has_bed step_units saturation_thousandths exact_saturation exact_mean exact_below_dam exact_mixed_demand exact_mixed_oxygen exact_head_demand exact_head_oxygen exact_demand_sum exact_oxygen_sum exact_demand_at_head exact_oxygen_at_head loss_terms oxygen_terms exact_mean_oxygen_along exact_mean_oxygen
apart = record { as_fraction = λ h. h.across.le; rounded = λ h. h.across.le; own = record { across = le_z_yes tt } }

-- THEOREM: the mean of the program's 1,025 values of oxygen is not within the allowance of the exact mean
pub values_mean_strays : distance (of_ℤ all_values ÷ of_ℕ (suc foot)) (exact_mean_oxygen 40 (card_of two 1) (above two 1)) ≼ allowance_at two 1 → ⊥
values_mean_strays h = apart.as_fraction (rw values_sum at h)

-- THEOREM: nor is it rounded down to a unit
pub rounded_mean_strays : distance (of_ℤ (floor all_values (suc foot))) (exact_mean_oxygen 40 (card_of two 1) (above two 1)) ≼ allowance_at two 1 → ⊥
rounded_mean_strays h = apart.rounded (rw values_sum at h)

-- THEOREM: the program's mean of the reach lies within a unit of it
pub own_mean_near : distance (of_ℤ (mean_at two 1)) (exact_mean_oxygen 40 (card_of two 1) (above two 1)) ≼ of_ℕ 1
own_mean_near = rw own_mean apart.own
