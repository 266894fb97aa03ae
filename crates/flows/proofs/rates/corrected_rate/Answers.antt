-- `flows::rates::corrected_rate` meets its contract: it is cooled and then warmed, one of them by no degree, and the result fits four bytes.
use Prim.Native.Nat.{◌*◌, ◌≤◌}
use native.Mathlib.Omega.{arith}
use Rattle.flows.specs.Rates.{corrected_rate}
use Rattle.flows.proofs.rates.Correction.{warmed_small, cooled_small}
use Rattle.flows.proofs.rates.corrected_rate.Goals as goal
use Rattle.flows.proofs.rates.corrected_rate.Goals.{After-scaled-cold}

-- a rate that is cooled is no larger
cold : (c : After-scaled-cold) → c.scaled-cold.result ≤ 20_000_000_000
cold c =
    let least : 1_000 ≤ c.from-factor.result = omega (arith, c.from-factor.ensures, c.requires.0.least) in
    omega (arith, c.scaled-cold.ensures, cooled_small _ c.saturating_sub-below.result (c.from.result * 1_000_000) least, c.from.ensures, c.requires.1.rate)

pub scaled-requires : goal.scaled-requires
scaled-requires c =
    record {
      numerator = omega (arith, c.from-factor.ensures, c.requires.0.most);
      denominator = omega arith;
      degrees = omega (arith, c.saturating_sub-above.ensures, c.requires.1.temperature);
      rate = cold c;
    }

pub overflow_cast-result : goal.overflow_cast-result
overflow_cast-result c =
    let most : c.from-factor.result ≤ 1_100 = omega (arith, c.from-factor.ensures, c.requires.0.most) in
    let above : c.saturating_sub-above.result ≤ 15 = omega (arith, c.saturating_sub-above.ensures, c.requires.1.temperature) in
    omega (arith, c.scaled.ensures, warmed_small _ _ _ most above (cold (goal.at.overflow_cast-result c).After-scaled-cold))

pub returns : goal.returns
unfolding corrected_rate
returns c =
    rw (c.scaled.ensures, c.scaled-cold.ensures, c.saturating_sub-above.ensures, c.saturating_sub-below.ensures, c.from-factor.ensures, c.from.ensures)
