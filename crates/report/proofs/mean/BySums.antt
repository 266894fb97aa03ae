-- The mean of a reach by one walk down it, which carries the sums along: so it can be computed, where the sums of the definition would walk from the head to
-- each instant anew.
use mathlib.Core.Path.{◌≡◌}
use Prim.Native.Nat.{ℕ, zero, suc, ◌*◌, ◌/◌}
use native.Mathlib.Numerals.{add-one}
use lib.IntN.{ℤ, pos, ◌-ℤ◌}
use Rattle.decay.specs.Exact.{foot}
use Rattle.decay.specs.held.Step.{step_of, mean_step_of}
use Rattle.decay.specs.held.Factors.{next_demand, head_factors, next_factors}
use Rattle.decay.specs.held.Mean.{mean_demand, mean_factors, no_demand, no_factors, demand_plus, factors_plus, demand_averaged, factors_averaged, next_sums, Summed}
use Rattle.decay.specs.declared.step.Step.{Step}
use Rattle.decay.specs.declared.factors.DemandFactors.{DemandFactors}
use Rattle.decay.specs.declared.factors.Factors.{Factors}
use Rattle.decay.specs.declared.mean.Sums.{Sums}
use Rattle.decay.proofs.mean.Averages.{sums_begin, sums_next, demand_summed, factors_summed}
use Rattle.river.specs.declared.card.Card.{Card}
use Rattle.river.specs.declared.source.Demand.TheVariants.{Bod, Nitrogenous}
use Rattle.river.specs.Source.{rate_of}
use Rattle.flows.specs.Flow.{Feeders, reach_flow}
use Rattle.flows.specs.Saturation.{saturation_of}
use Rattle.report.specs.held.Bed.{bed_of, loss_with}
use Rattle.report.specs.Program.{demand_at_head, oxygen_at_head}
use Rattle.report.specs.held.Digits.{oxygen_with, unit_parts}
use Rattle.report.specs.Mean.{mean_oxygen}
use Rattle.report.specs.held.MeanAlong.{middle, factors_mean, turned_mean, mean_along}

-- the sums at instant m of what starts like this
unfoldable pub sums_to : {T : Type 0} (next : Step → T → T) (none : T) (plus : T → T → T) (start : T) → Step → ℕ → Sums T
sums_to next none plus start step zero = record { reached = start; sum = none }
sums_to next none plus start step (suc m) = next_sums next plus step (sums_to next none plus start step m)

summed : {T : Type 0} (next : Step → T → T) (none : T) (plus : T → T → T) (start : T) (step : Step) (m : ℕ) → Summed next none plus start step m (sums_to next none plus start step m)
unfolding sums_to
summed next none plus start step zero = sums_begin
summed next none plus start step (suc m) = rw add-one at (sums_next (summed next none plus start step m))

-- the means that these sums give
unfoldable pub factors_by_sums : (mean_step step : Step) → Factors
factors_by_sums mean_step step = next_factors mean_step (factors_averaged (sums_to next_factors no_factors factors_plus head_factors step foot).sum)

factors_by_sums_lem : (mean_step step : Step) → mean_factors mean_step step ≡ factors_by_sums mean_step step
unfolding mean_factors factors_by_sums
factors_by_sums_lem mean_step step =
    let s = factors_summed (summed next_factors no_factors factors_plus head_factors step foot) in rw (s.left, s.turned, s.kept)

unfoldable pub demand_by_sums : (mean_step step : Step) (start : ℕ) → DemandFactors
demand_by_sums mean_step step start =
    next_demand mean_step (demand_averaged (sums_to next_demand no_demand demand_plus (record { left = start; turned = 0 }) step foot).sum)

demand_by_sums_lem : (mean_step step : Step) (start : ℕ) → mean_demand mean_step step start ≡ demand_by_sums mean_step step start
unfolding mean_demand demand_by_sums
demand_by_sums_lem mean_step step start =
    let s = demand_summed (summed next_demand no_demand demand_plus (record { left = start; turned = 0 }) step foot) in rw (s.left, s.turned)

-- mean oxygen of a reach, which these give
unfoldable pub mean_by_sums : Card → Feeders → ℤ
mean_by_sums card up =
    let Q = reach_flow card up in
    let f = factors_by_sums (mean_step_of card.k1 card.k2 card.volume Q) (step_of card.k1 card.k2 card.volume Q) in
    let k = rate_of Nitrogenous card in
    let d = demand_by_sums (mean_step_of k card.k2 card.volume Q) (step_of k card.k2 card.volume Q) (unit_parts * demand_at_head Nitrogenous card up) in
    oxygen_with f (saturation_of card) (demand_at_head Bod card up) (oxygen_at_head card up) -ℤ pos (d.turned / unit_parts) -ℤ pos (loss_with f (bed_of card Q) middle)

-- THEOREM: it is the mean of the definition
pub mean_by_sums_lem : (card : Card) (up : Feeders) → mean_oxygen card up ≡ mean_by_sums card up
unfolding mean_oxygen mean_along factors_mean turned_mean mean_by_sums
mean_by_sums_lem card up = rw (factors_by_sums_lem, demand_by_sums_lem)
