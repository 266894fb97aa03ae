-- What the sums of a reach need of what is summed, and that demands and factors have it.
use Rattle.std.specs.Prelude.{ℕ, ◌+◌, ◌≤◌}
use Rattle.std.proofs.Common.{arith}
use Rattle.decay.specs.Exact.{steps}
use Rattle.decay.specs.held.Factors.{AreShares}
use Rattle.decay.specs.held.Mean.{DemandShares, DemandsFit, FactorsFit, no_demand, no_factors, demand_plus, factors_plus, demand_averaged, factors_averaged}

pub record SteppedLaws {T : Type 0} (none : T) (plus : T → T → T) (averaged : T → T) (shares : T → Type 0) (fit : ℕ → T → Type 0) : Type 0 where
  -- a sum of n values in range: of none, with one more, and among those of more
  pub nothing : fit 0 none
  pub one_more : (n : ℕ) (x y : T) → fit n x → shares y → fit (n + 1) (plus x y)
  pub among : (m n : ℕ) (x : T) → m ≤ n → fit m x → fit n x
  -- the average of 1,024 values in range is in range
  pub averages : (x : T) → fit steps x → shares (averaged x)

pub demand_laws : SteppedLaws no_demand demand_plus demand_averaged DemandShares DemandsFit
demand_laws =
    record {
      nothing = omega arith;
      one_more = λ n x y h k. omega arith;
      among = λ m n x l h. omega arith;
      averages = λ x h. omega arith;
    }

pub factor_laws : SteppedLaws no_factors factors_plus factors_averaged AreShares FactorsFit
factor_laws =
    record {
      nothing = record { bod = omega arith; deficit = omega arith };
      one_more = λ n x y h k. record { bod = omega (arith, h.bod, k.bod); deficit = omega (arith, h.deficit, k.deficit) };
      among = λ m n x l h. record { bod = omega (arith, h.bod); deficit = omega (arith, h.deficit) };
      averages = λ x h. record { bod = omega (arith, h.bod); deficit = omega (arith, h.deficit) };
    }
