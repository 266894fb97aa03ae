-- The factors of an instant, from the head on, one step at a time.
use Rattle.std.specs.Prelude.{ℕ, zero, suc, ◌+◌, ◌-◌, ◌≤◌}
use Rattle.decay.specs.Fixed.{one, product}
use Rattle.decay.specs.held.Digits.{small}
use Rattle.decay.specs.declared.step.Step.{Step}
use Rattle.decay.specs.declared.factors.DemandFactors.{DemandFactors}
use Rattle.decay.specs.declared.factors.Factors.{Factors}

-- a step's shares are small, and no more BOD is spent than lost
pub record SoundStep (s : Step) : Type 0 where
  pub lost_small : s.lost ≤ small
  pub spent_lost : s.spent ≤ s.lost
  pub filled_small : s.filled ≤ small

-- the factors are shares of one, and so is the sum of BOD left and turned
pub record AreShares (f : Factors) : Type 0 where
  pub bod : f.left + f.turned ≤ one
  pub deficit : f.kept ≤ one

-- A demand after the next step. What is left of it loses its lost share; the deficit made from it loses its filled share and gains the spent
-- share of what was left.
abbrev pub next_demand : Step → DemandFactors → DemandFactors
next_demand s d =
    record {
      left = d.left - product d.left s.lost;
      turned = d.turned - product d.turned s.filled + product d.left s.spent;
    }

-- a demand at instant m that starts at the head with so many parts
unfoldable pub demand_from : (start : ℕ) → Step → ℕ → DemandFactors
demand_from start s zero = record { left = start; turned = 0 }
demand_from start s (suc m) = next_demand s (demand_from start s m)

-- the demand among factors
abbrev pub demand_in : Factors → DemandFactors
demand_in f = record { left = f.left; turned = f.turned }

-- instant 0, the head: all BOD and all deficit are left
unfoldable pub head_factors : Factors
head_factors = record { left = one; turned = 0; kept = one }

-- the instant after the next step; the head deficit loses its filled share
unfoldable pub next_factors : Step → Factors → Factors
next_factors s f =
    record {
      left = (next_demand s (demand_in f)).left;
      turned = (next_demand s (demand_in f)).turned;
      kept = f.kept - product f.kept s.filled;
    }

-- the factors at instant m
unfoldable pub factors_at : Step → ℕ → Factors
factors_at s zero = head_factors
factors_at s (suc m) = next_factors s (factors_at s m)
