-- The promise of the arithmetic layer: how far the factors of instant m lie from the river file paper's S and F, and their means over a reach from
-- those of S and F.
use Rattle.std.specs.Prelude.{ℕ}
use Rattle.decay.specs.Fraction.{Fraction, of_ℕ, ◌+ᶠ◌, ◌*ᶠ◌, ◌÷◌, ◌≼◌, distance}
use Rattle.decay.specs.Exact.{exponent, S, F}
use Rattle.decay.specs.Integral.{mean_s, mean_f}
use Rattle.decay.specs.Fixed.{one}
use Rattle.decay.specs.held.Step.{step_of}
use Rattle.decay.specs.held.Factors.{demand_from, factors_at}
use Rattle.decay.specs.held.Mean.{mean_factors_of, mean_demand_of}
use Rattle.decay.specs.declared.factors.Factors.{Factors}

-- a fixed-point number as a share of one
unfoldable pub share : ℕ → Fraction
share n = of_ℕ n ÷ of_ℕ one

-- the factors of a reach at instant m
abbrev pub factors_of : (k1 k2 volume Q m : ℕ) → Factors
factors_of k1 k2 volume Q m = factors_at (step_of k1 k2 volume Q) m

-- how near the exact shares of BOD, and the exact share of the deficit left, the program's are: 2^-28 and 2^-31
abbrev pub bod_distance : Fraction
bod_distance = of_ℕ 1 ÷ of_ℕ 268_435_456

abbrev pub deficit_distance : Fraction
deficit_distance = of_ℕ 1 ÷ of_ℕ 2_147_483_648

-- how near a demand is that starts with at most one: 2^-30
abbrev pub demand_distance : Fraction
demand_distance = of_ℕ 1 ÷ of_ℕ 1_073_741_824

-- A demand of rate k that starts with so many parts, at instant m against the exact one at the series length N: as shares of one, what is left
-- lies near S(x) of them and what has turned to deficit near F of them, their errors added.
pub record DemandAccurate (N start k k2 volume Q m : ℕ) : Type 0 where
  pub near :
      distance (share (demand_from start (step_of k k2 volume Q) m).left) (share start *ᶠ S N (exponent k volume Q m)) +ᶠ
      distance (share (demand_from start (step_of k k2 volume Q) m).turned) (share start *ᶠ F N k k2 volume Q m) ≼
      demand_distance

-- The factors of instant m, as shares of one, against the exact ones at the series length N: BOD left lies near S(x1), head BOD turned
-- to deficit near F, their errors added, and head deficit left near S(x2).
pub record Accurate (N k1 k2 volume Q m : ℕ) : Type 0 where
  pub bod_near :
      distance (share (factors_of k1 k2 volume Q m).left) (S N (exponent k1 volume Q m)) +ᶠ
      distance (share (factors_of k1 k2 volume Q m).turned) (F N k1 k2 volume Q m) ≼
      bod_distance
  pub deficit_near :
      distance (share (factors_of k1 k2 volume Q m).kept) (S N (exponent k2 volume Q m)) ≼ deficit_distance

-- The mean of a demand over a reach against the mean of the exact one, likewise.
pub record MeanDemandAccurate (N start k k2 volume Q : ℕ) : Type 0 where
  pub near :
      distance (share (mean_demand_of start k k2 volume Q).left) (share start *ᶠ mean_s N k volume Q) +ᶠ
      distance (share (mean_demand_of start k k2 volume Q).turned) (share start *ᶠ mean_f N k k2 volume Q) ≼
      demand_distance

-- The means of the factors over a reach against those of the exact ones, as near as at an instant.
pub record MeanAccurate (N k1 k2 volume Q : ℕ) : Type 0 where
  pub bod_near :
      distance (share (mean_factors_of k1 k2 volume Q).left) (mean_s N k1 volume Q) +ᶠ
      distance (share (mean_factors_of k1 k2 volume Q).turned) (mean_f N k1 k2 volume Q) ≼
      bod_distance
  pub deficit_near : distance (share (mean_factors_of k1 k2 volume Q).kept) (mean_s N k2 volume Q) ≼ deficit_distance
