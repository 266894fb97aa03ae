-- Demand 3 for a reach: how far its reported figures may stray from the exact recurrence at the series length N.
use Rattle.std.specs.Prelude.{is_some, Bool, false, ◌||◌, cond, List, [], ◌∷◌, ℕ, ◌*◌, ◌≤◌}
use Rattle.decay.specs.Fraction.{Fraction, of_ℕ, of_ℤ, ◌≼◌, ◌+ᶠ◌, ◌-ᶠ◌, distance}
use Rattle.decay.specs.Exact.{foot}
use Rattle.river.specs.declared.card.Card.{Card}
use Rattle.river.specs.declared.source.Demand.TheVariants.{Bod, Nitrogenous}
use Rattle.flows.specs.Flow.{Feeders, reach_depth, above}
use Rattle.report.specs.Recurrence.{exact_demand_at_head, exact_oxygen_at_head, exact_demand_at, exact_oxygen_at}
use Rattle.report.specs.Record.{Figures, has_nitrification}

-- whether a river has a sludge bed: an `SD` record at any of its reaches, of 0 too
unfoldable pub has_bed : List Card → Bool
has_bed [] = false
has_bed (card ∷ cards) = is_some card.optionals.sludge || has_bed cards

-- the units that a river allows for each step of depth: 200 with nitrification, else 150 with a sludge bed, else 100, which is 0.0001 mg/L
unfoldable pub step_units : List Card → ℕ
step_units cards = cond (has_nitrification cards) 200 (cond (has_bed cards) 150 100)

-- units times the depth of a reach
abbrev pub allowance : (units : ℕ) → Feeders → Fraction
allowance units up = of_ℕ (units * reach_depth up)

-- the distance allowed at reach i of a river
abbrev pub allowance_at : List Card → ℕ → Fraction
allowance_at cards i = allowance (step_units cards) (above cards i)

-- the figures of a reach, oxygen too, lie within a distance of the exact recurrence
pub record OxygenWithin (N : ℕ) (card : Card) (up : Feeders) (f : Figures) (allowed : Fraction) : Type 0 where
  -- at the head, the errors of BOD, of nitrogenous BOD and of oxygen, added together
  pub at_head :
      distance (of_ℕ f.head_bod) (exact_demand_at_head N Bod card up) +ᶠ
      distance (of_ℕ f.head_nitrogenous) (exact_demand_at_head N Nitrogenous card up) +ᶠ
      distance (of_ℤ f.head_oxygen) (exact_oxygen_at_head N card up) ≼
      allowed
  -- at the foot likewise
  pub at_foot :
      distance (of_ℕ f.foot_bod) (exact_demand_at N Bod card up foot) +ᶠ
      distance (of_ℕ f.foot_nitrogenous) (exact_demand_at N Nitrogenous card up foot) +ᶠ
      distance (of_ℤ f.foot_oxygen) (exact_oxygen_at N card up foot) ≼
      allowed
  -- critical oxygen lies within the distance of exact oxygen at the reported instant, one of the 1,025
  pub in_reach : f.critical_instant ≤ foot
  pub at_critical : distance (of_ℤ f.critical_oxygen) (exact_oxygen_at N card up f.critical_instant) ≼ allowed
  -- at no instant is exact oxygen lower than critical oxygen by more than the distance
  pub nowhere_lower : (m : ℕ) → m ≤ foot → of_ℤ f.critical_oxygen -ᶠ allowed ≼ exact_oxygen_at N card up m

-- the reported figures of a reach lie within a distance of the exact recurrence: the demands at every status, and oxygen at status 0 and 1
pub record WithinAllowance (N : ℕ) (card : Card) (up : Feeders) (f : Figures) (allowed : Fraction) : Type 0 where
  -- at the head and at the foot, the errors of BOD and of nitrogenous BOD, added together
  pub demands_at_head :
      distance (of_ℕ f.head_bod) (exact_demand_at_head N Bod card up) +ᶠ
      distance (of_ℕ f.head_nitrogenous) (exact_demand_at_head N Nitrogenous card up) ≼
      allowed
  pub demands_at_foot :
      distance (of_ℕ f.foot_bod) (exact_demand_at N Bod card up foot) +ᶠ
      distance (of_ℕ f.foot_nitrogenous) (exact_demand_at N Nitrogenous card up foot) ≼
      allowed
  -- and with the error of oxygen
  pub oxygen : f.status ≤ 1 → OxygenWithin N card up f allowed
