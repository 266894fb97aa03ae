-- The means of the factors over a reach. A reach is 1,024 steps. Its means are the averages of the factors with which the steps begin, taken further
-- by the means over one step.
use Rattle.std.specs.Prelude.{◌≡◌, ℕ, zero, suc, ◌+◌, ◌*◌, ◌/◌, ◌≤◌}
use Rattle.decay.specs.Exact.{steps}
use Rattle.decay.specs.Fixed.{one}
use Rattle.decay.specs.held.Step.{mean_step_of, step_of}
use Rattle.decay.specs.held.Factors.{next_demand, demand_from, next_factors, factors_at}
use Rattle.decay.specs.declared.step.Step.{Step}
use Rattle.decay.specs.declared.factors.DemandFactors.{DemandFactors}
use Rattle.decay.specs.declared.factors.Factors.{Factors}
use Rattle.decay.specs.declared.mean.Sums.{Sums}

-- the sum of f m for the instants m before n
unfoldable pub sum_to : (ℕ → ℕ) → ℕ → ℕ
sum_to f zero = 0
sum_to f (suc m) = sum_to f m + f m

-- the average over the instants before the foot, rounded down
abbrev pub average : (ℕ → ℕ) → ℕ
average f = sum_to f steps / steps

-- the average of a demand that starts with so many parts
abbrev pub average_demand : (start : ℕ) → Step → DemandFactors
average_demand start s = record { left = average (λ m. (demand_from start s m).left); turned = average (λ m. (demand_from start s m).turned) }

-- the average of the factors
abbrev pub average_factors : Step → Factors
average_factors s =
    record {
      left = average (λ m. (factors_at s m).left);
      turned = average (λ m. (factors_at s m).turned);
      kept = average (λ m. (factors_at s m).kept);
    }

-- the mean of a demand over a reach with this step and this mean step
unfoldable pub mean_demand : (mean_step step : Step) (start : ℕ) → DemandFactors
mean_demand mean_step step start = next_demand mean_step (average_demand start step)

-- the means of the factors
unfoldable pub mean_factors : (mean_step step : Step) → Factors
mean_factors mean_step step = next_factors mean_step (average_factors step)

-- the means of the factors of a reach
abbrev pub mean_factors_of : (k1 k2 volume Q : ℕ) → Factors
mean_factors_of k1 k2 volume Q = mean_factors (mean_step_of k1 k2 volume Q) (step_of k1 k2 volume Q)

-- the mean of a demand of rate k over a reach
abbrev pub mean_demand_of : (start k k2 volume Q : ℕ) → DemandFactors
mean_demand_of start k k2 volume Q = mean_demand (mean_step_of k k2 volume Q) (step_of k k2 volume Q) start

-- ---- sums on the way, of demands and of factors alike

-- what starts like this and takes m steps
unfoldable pub walked : {T : Type 0} (next : Step → T → T) (start : T) → Step → ℕ → T
walked next start s zero = start
walked next start s (suc m) = next s (walked next start s m)

-- the sum of the values v m for the instants m before n
unfoldable pub total_to : {T : Type 0} (none : T) (plus : T → T → T) (v : ℕ → T) → ℕ → T
total_to none plus v zero = none
total_to none plus v (suc m) = plus (total_to none plus v m) (v m)

-- the sums one instant further: what it has come to is added, and it takes a step
abbrev pub next_sums : {T : Type 0} (next : Step → T → T) (plus : T → T → T) → Step → Sums T → Sums T
next_sums next plus s r = record { reached = next s r.reached; sum = plus r.sum r.reached }

-- what starts like this is summed up to instant m: it has come to m, and the sum is of the instants before
pub record Summed {T : Type 0} (next : Step → T → T) (none : T) (plus : T → T → T) (start : T) (step : Step) (m : ℕ) (s : Sums T) : Type 0 where
  pub reached : s.reached ≡ walked next start step m
  pub sum : s.sum ≡ total_to none plus (walked next start step) m

-- what has come to an instant is in range, and so is what the n instants before sum up to
pub record SumsFit {T : Type 0} (shares : T → Type 0) (fit : ℕ → T → Type 0) (n : ℕ) (s : Sums T) : Type 0 where
  pub reached : shares s.reached
  pub sum : fit n s.sum

-- ---- demands

-- what is left and what has turned of a demand are together at most one
abbrev pub DemandShares : DemandFactors → Type 0
DemandShares d = d.left + d.turned ≤ one

-- a sum of at most n demands
abbrev pub DemandsFit : ℕ → DemandFactors → Type 0
DemandsFit n d = d.left + d.turned ≤ n * one

abbrev pub no_demand : DemandFactors
no_demand = record { left = 0; turned = 0 }

abbrev pub demand_plus : DemandFactors → DemandFactors → DemandFactors
demand_plus d e = record { left = d.left + e.left; turned = d.turned + e.turned }

-- the average of a sum of 1,024 demands
abbrev pub demand_averaged : DemandFactors → DemandFactors
demand_averaged d = record { left = d.left / steps; turned = d.turned / steps }

-- a demand is summed up to instant m
pub record DemandSummed (start : ℕ) (step : Step) (m : ℕ) (s : Sums DemandFactors) : Type 0 where
  pub reached : s.reached ≡ demand_from start step m
  pub left : s.sum.left ≡ sum_to (λ i. (demand_from start step i).left) m
  pub turned : s.sum.turned ≡ sum_to (λ i. (demand_from start step i).turned) m

-- ---- factors

-- a sum of the factors of at most n instants
pub record FactorsFit (n : ℕ) (f : Factors) : Type 0 where
  pub bod : f.left + f.turned ≤ n * one
  pub deficit : f.kept ≤ n * one

abbrev pub no_factors : Factors
no_factors = record { left = 0; turned = 0; kept = 0 }

abbrev pub factors_plus : Factors → Factors → Factors
factors_plus f g = record { left = f.left + g.left; turned = f.turned + g.turned; kept = f.kept + g.kept }

-- the average of a sum of the factors of 1,024 instants
abbrev pub factors_averaged : Factors → Factors
factors_averaged f = record { left = f.left / steps; turned = f.turned / steps; kept = f.kept / steps }

-- the factors are summed up to instant m
pub record FactorsSummed (step : Step) (m : ℕ) (s : Sums Factors) : Type 0 where
  pub reached : s.reached ≡ factors_at step m
  pub left : s.sum.left ≡ sum_to (λ i. (factors_at step i).left) m
  pub turned : s.sum.turned ≡ sum_to (λ i. (factors_at step i).turned) m
  pub kept : s.sum.kept ≡ sum_to (λ i. (factors_at step i).kept) m
