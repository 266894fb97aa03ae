-- The promise at the river file paper's bench reach: both rates 1,000, volume 864,000 and flow 10,000. Of BOD 10 mg/L, 3.678794 are left at the foot.
use mathlib.Core.Path.{◌≡◌, refl}
use lib.Dec.{lit≤}
use Rattle.decay.specs.Fixed.{product, quotient}
use Rattle.decay.specs.held.Step.{RatesPass, exponent_of, step_of}
use Rattle.decay.specs.Series.{term_of, next_terms, terms_at, term_at, with_term, sum_of, count_from, series_of}
use Rattle.decay.specs.held.Factors.{head_factors, next_factors, factors_at}
use Rattle.decay.specs.held.Promise.{factors_of, Accurate}
use Rattle.decay.proofs.Accuracy.{accuracy}

passed : RatesPass 1000 1000 864000 10000
passed =
    record {
      k1_range = lit≤ tt;
      k2_range = lit≤ tt;
      volume_range = lit≤ tt;
      flow_above = lit≤ tt;
      flow_below = lit≤ tt;
      k1_short = lit≤ tt;
      k2_short = lit≤ tt;
    }

foot : product (factors_of 1000 1000 864000 10000 1024).left 10000000 ≡ 3678794
unfolding product quotient exponent_of term_of next_terms terms_at term_at with_term sum_of count_from series_of step_of head_factors next_factors factors_at
foot = refl

at_the_foot : Accurate 40 1000 1000 864000 10000 1024
at_the_foot = accuracy (lit≤ tt) (lit≤ tt) passed
