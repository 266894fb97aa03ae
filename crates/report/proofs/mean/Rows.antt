-- Means computed from their definitions: the mean of a river weighted by volume, also below zero, the order of refusals, oxygen that does not change
-- along a reach, and a reach below one where it is used up.
use mathlib.Core.Path.{◌≡◌, refl, ap, ◌∙◌}
use mathlib.Core.Bool.{true, false, ◌||◌}
use mathlib.Core.List.{List, [], ◌∷◌}
use Prim.Native.Nat.{ℕ, zero, suc, ◌*◌}
use native.Mathlib.Nat.{le_refl}
use native.Mathlib.Omega.{arith}
use lib.IntN.{ℤ, pos, negsuc}
use lib.Signed.{◌≤ℤ◌}
use Rattle.std.specs.Prelude.{None}
use Rattle.decay.specs.Fixed.{product, quotient}
use Rattle.decay.specs.held.Step.{exponent_of, step_of, mean_sum_of, mean_step_of}
use Rattle.decay.specs.Series.{term_of, next_terms, terms_at, term_at, with_term, sum_of, count_from, series_of}
use Rattle.decay.specs.held.Factors.{demand_from, head_factors, next_factors, factors_at}
use Rattle.river.specs.declared.card.Card.{Card}
use Rattle.river.specs.declared.source.Demand.{Demand}
use Rattle.river.specs.declared.source.Demand.TheVariants.{Bod, Nitrogenous}
use Rattle.river.specs.Card.{no_optionals}
use Rattle.river.specs.Source.{rate_of}
use Rattle.river.specs.Refusal.{accepted, refused, refuse, need}
use Rattle.flows.specs.Flow.{feeders_among, joined_if, fed, flow_of, card_of, above}
use Rattle.flows.specs.Saturation.{saturation, saturation_thousandths, saturation_of}
use Rattle.flows.specs.Head.{floor, upstream_demand, upstream_oxygen, aerated, below_dam, head_demand, head_oxygen}
use Rattle.flows.proofs.flow.FlowCheck.{flows_of_accepted}
use Rattle.river.proofs.Bench.{reach, two}
use Rattle.flows.proofs.Bench.{bench as flow_bench}
use Rattle.report.specs.held.Bed.{bed_by, bed_of, loss_with}
use Rattle.report.specs.Program.{demand_sum, oxygen_sum, demand_at_head, oxygen_at_head, oxygen_at, foot, critical_oxygen, used_above, status_of}
use Rattle.report.specs.held.Digits.{oxygen_with, factors_along, parts_along, loss_along, demand_along, turned_along, oxygen_along}
use Rattle.report.specs.Status.{status_by, is_used, used_by}
use Rattle.report.specs.Mean.{mean_at, counted_volume, weighted_sum, rest_of, divided_by, weighted_mean, river_mean, mean_room_answer, volume_sum}
use Rattle.report.proofs.Lowest.{lowest_first}
use Rattle.report.proofs.Forest.{AcceptedReach}
use Rattle.report.proofs.Ties.{reach_critical_stays}
use Rattle.report.proofs.mean.BySums.{sums_to, factors_by_sums, demand_by_sums, mean_by_sums, mean_by_sums_lem}
use Rattle.river.specs.declared.refusal.Rule.TheVariants.{BufferShort, NoVolume}

-- ---- weights and answers

-- a figure of two reaches, the first and the second
abbrev both : {A : Type 0} → A → A → ℕ → A
both a b zero = a
both a b (suc i) = b

-- a reach of which only the volume is given
abbrev pool : (volume : ℕ) → Card
pool volume =
    record {
      outlet = 0;
      temperature = 0;
      k1 = 0;
      k2 = 0;
      volume = volume;
      inflow = 0;
      inflow_bod = 0;
      inflow_oxygen = 0;
      load = 0;
      dam = None;
      optionals = no_optionals;
    }

pub record MeanRows : Type 0 where
  -- 0 and 10 with volumes 1 and 4: not 5, the mean without weights; 5 and 8 with volumes 2 and 3: 34 / 5
  pub by_volume : weighted_mean (both 1 4) (both (pos 0) (pos 10)) 2 ≡ record { units = pos 8; remainder = 0 }
  pub above_zero : weighted_mean (both 2 3) (both (pos 5) (pos 8)) 2 ≡ record { units = pos 6; remainder = 4 }
  -- 5 and −8 with volumes 2 and 3: −14 / 5; −5 and −10 with volumes 1 and 4: −45 / 5
  pub below_zero : weighted_mean (both 2 3) (both (pos 5) (negsuc 7)) 2 ≡ record { units = negsuc 2; remainder = 1 }
  pub whole_below_zero : weighted_mean (both 1 4) (both (negsuc 4) (negsuc 9)) 2 ≡ record { units = negsuc 8; remainder = 0 }
  -- a reach of volume 0 does not count
  pub without_volume : weighted_mean (both 3 0) (both (negsuc 0) (pos 9)) 2 ≡ record { units = negsuc 0; remainder = 0 }
  -- 12 before 16: three reaches without volume, and a buffer that is a byte short or long enough
  pub short_and_empty : mean_room_answer 11 (pool 0 ∷ pool 0 ∷ pool 0 ∷ []) ≡ refused (refuse BufferShort 0)
  pub empty : mean_room_answer 12 (pool 0 ∷ pool 0 ∷ pool 0 ∷ []) ≡ refused (refuse NoVolume 0)
  -- volume at one of them, the last
  pub short : mean_room_answer 11 (pool 0 ∷ pool 0 ∷ pool 1 ∷ []) ≡ refused (refuse BufferShort 0)
  pub held : mean_room_answer 12 (pool 0 ∷ pool 0 ∷ pool 1 ∷ []) ≡ accepted (pool 0 ∷ pool 0 ∷ pool 1 ∷ [])

-- THEOREM: these means and answers, a row each
pub mean_rows : MeanRows
unfolding used_by feeders_among joined_if weighted_sum rest_of divided_by floor volume_sum need mean_room_answer
mean_rows =
    record {
      by_volume = refl;
      above_zero = refl;
      below_zero = refl;
      whole_below_zero = refl;
      without_volume = refl;
      short_and_empty = refl;
      empty = refl;
      short = refl;
      held = refl;
    }

-- ---- oxygen that does not change: the two reaches of the printing program's example, whose rates are 0

first_is : mean_by_sums (card_of (two None) 1) (above (two None) 1) ≡ pos 8_000_000
unfolding feeders_among joined_if fed flow_of sums_to factors_by_sums demand_by_sums mean_by_sums head_factors next_factors step_of mean_sum_of mean_step_of exponent_of quotient product term_of next_terms terms_at term_at with_term sum_of count_from series_of bed_by bed_of loss_with oxygen_with demand_at_head oxygen_at_head head_demand head_oxygen upstream_demand upstream_oxygen below_dam aerated floor demand_sum oxygen_sum saturation_of saturation saturation_thousandths
first_is = refl

second_is : mean_by_sums (card_of (two None) 2) (above (two None) 2) ≡ pos 6_500_000
unfolding feeders_among joined_if fed flow_of sums_to factors_by_sums demand_by_sums mean_by_sums head_factors next_factors factors_at demand_from factors_along parts_along demand_along turned_along loss_along oxygen_along step_of mean_sum_of mean_step_of exponent_of quotient product term_of next_terms terms_at term_at with_term sum_of count_from series_of bed_by bed_of loss_with oxygen_with demand_at_head oxygen_at_head head_demand head_oxygen upstream_demand upstream_oxygen below_dam aerated floor demand_sum oxygen_sum saturation_of saturation saturation_thousandths
second_is = refl

-- nothing is above reach 1
none_above : (cards : List Card) → used_above (above cards 1) ≡ false
unfolding feeders_among used_by
none_above cards = refl

-- critical oxygen of reach 1 of the example is its head oxygen, so that oxygen is not used up above reach 2
first_accepted : AcceptedReach (card_of (two None) 1) (above (two None) 1)
first_accepted =
    record {
      fields = omega arith;
      saturation = omega arith;
      dam = tt;
      sludge = omega arith;
      flows = (flows_of_accepted flow_bench.accepted_two).each 0 (omega arith);
    }

first_keeps : (d : Demand) → rate_of d (card_of (two None) 1) * 1_000 ≡ 0
first_keeps Bod = refl
first_keeps Nitrogenous = refl

first_critical : critical_oxygen (card_of (two None) 1) (above (two None) 1) ≡ pos 8_000_000
unfolding oxygen_at_head oxygen_sum feeders_among fed flow_of head_oxygen upstream_oxygen below_dam aerated floor
first_critical = reach_critical_stays first_accepted first_keeps refl refl

second_ordinary : used_above (above (two None) 2) ≡ false
unfolding feeders_among joined_if used_by status_by is_used
second_ordinary = ap (λ (c : ℤ). is_used (status_by false c) || (false || false)) first_critical

pub record Constant : Type 0 where
  -- each has its head oxygen for its mean, to the unit, and the volumes are equal
  pub first : mean_at (two None) 1 ≡ pos 8_000_000
  pub second : mean_at (two None) 2 ≡ pos 6_500_000
  pub river : river_mean (two None) ≡ record { units = pos 7_250_000; remainder = 0 }

-- THEOREM: these means, a row each
pub constant : Constant
unfolding river_mean weighted_sum rest_of divided_by floor volume_sum
constant =
    let first = mean_by_sums_lem (card_of (two None) 1) (above (two None) 1) ∙ first_is in
    let second = mean_by_sums_lem (card_of (two None) 2) (above (two None) 2) ∙ second_is in
    record {
      first = rw (none_above (two None), first);
      second = rw (second_ordinary, second);
      river = rw (none_above (two None), second_ordinary, first, second);
    }

-- ---- oxygen used up: waste uses it up in reach 1, and nothing changes it in reach 2

abbrev polluted : List Card
polluted =
    reach 2 400 1_500_000 5_000 3_000 8_000 250_000 None no_optionals
    ∷ reach 0 0 1_000_000 1_000 1_000 9_000 0 None no_optionals
    ∷ []

-- oxygen of reach 1 is below zero at the foot, and on average
spent_foot : oxygen_at (card_of polluted 1) (above polluted 1) foot ≡ negsuc 31_784_331
unfolding oxygen_at feeders_among joined_if fed flow_of head_factors next_factors factors_at demand_from factors_along parts_along turned_along loss_along oxygen_along step_of exponent_of quotient product term_of next_terms terms_at term_at with_term sum_of count_from series_of bed_by bed_of loss_with oxygen_with demand_at_head oxygen_at_head head_demand head_oxygen upstream_demand upstream_oxygen below_dam aerated floor demand_sum oxygen_sum saturation_of saturation saturation_thousandths
spent_foot = refl

spent_mean : mean_by_sums (card_of polluted 1) (above polluted 1) ≡ negsuc 16_355_279
unfolding feeders_among joined_if fed flow_of sums_to factors_by_sums demand_by_sums mean_by_sums head_factors next_factors step_of mean_sum_of mean_step_of exponent_of quotient product term_of next_terms terms_at term_at with_term sum_of count_from series_of bed_by bed_of loss_with oxygen_with demand_at_head oxygen_at_head head_demand head_oxygen upstream_demand upstream_oxygen below_dam aerated floor demand_sum oxygen_sum saturation_of saturation saturation_thousandths
spent_mean = refl

-- critical oxygen is no higher than that of the foot, and so the status is 1
status_below : {c : ℤ} {n : ℕ} → c ≤ℤ negsuc n → status_by false c ≡ 1
unfolding status_by
status_below {c = pos m} h = absurd h.le
status_below {c = negsuc m} h = refl

spent : status_by false (critical_oxygen (card_of polluted 1) (above polluted 1)) ≡ 1
unfolding critical_oxygen
spent = status_below (rw spent_foot at ((lowest_first (oxygen_at (card_of polluted 1) (above polluted 1)) foot).least foot (le_refl foot)))

used_above_lem : used_above (above polluted 2) ≡ true
unfolding feeders_among joined_if used_by is_used
used_above_lem = ap (λ (s : ℕ). is_used s || (false || false)) spent

pub record UsedUp : Type 0 where
  -- reach 1 has status 1, and so reach 2 has status 2
  pub first_status : status_of (card_of polluted 1) (above polluted 1) ≡ 1
  pub second_status : status_of (card_of polluted 2) (above polluted 2) ≡ 2
  -- the mean of reach 2 is 0, its volume does not count, and the mean of the river is that of reach 1
  pub first : mean_at polluted 1 ≡ negsuc 16_355_279
  pub second : mean_at polluted 2 ≡ pos 0
  pub volumes : counted_volume polluted ≡ 1_500_000
  pub river : river_mean polluted ≡ record { units = negsuc 16_355_279; remainder = 0 }

-- THEOREM: these statuses and means, a row each
pub used_up : UsedUp
unfolding status_of status_by river_mean weighted_sum rest_of divided_by floor volume_sum
used_up =
    let mean = mean_by_sums_lem (card_of polluted 1) (above polluted 1) ∙ spent_mean in
    record {
      first_status = rw (none_above polluted) spent;
      second_status = rw used_above_lem;
      first = rw (none_above polluted, mean);
      second = rw used_above_lem;
      volumes = rw (none_above polluted, used_above_lem);
      river = rw (none_above polluted, used_above_lem, mean);
    }
