-- Series at the exponents where their count changes, computed from the definitions. A reach whose decay exponent is x has y = x × 2^44 / 1,024.
use mathlib.Core.Path.{◌≡◌, refl}
use Prim.Native.Nat.{ℕ}
use Rattle.decay.specs.Fixed.{product}
use Rattle.decay.specs.held.Digits.{small}
use Rattle.decay.specs.Series.{term_of, next_terms, terms_at, term_at, with_term, sum_of, count_from, series_of}
use Rattle.decay.specs.declared.step.SeriesSum.{SeriesSum}

-- a sum and a count
abbrev summed : ℕ → ℕ → SeriesSum
summed sum count = record { sum = sum; count = count }

pub record SeriesRows : Type 0 where
  -- nothing is lost, and no term follows the leading one
  pub nothing : series_of 0 0 ≡ summed 0 1
  pub only_back : series_of 0 small ≡ summed 0 1
  -- BOD lost or deficit filled: the second term is 0 below x = 0.000345, the third below 0.0715, the fourth below 1.107
  pub one_lost : series_of 5_931_641 0 ≡ summed 5_931_641 1
  pub two_lost : series_of 5_931_642 0 ≡ summed 5_931_641 2
  pub still_two_lost : series_of 1_229_134_056 0 ≡ summed 1_229_091_118 2
  pub three_lost : series_of 1_229_134_057 0 ≡ summed 1_229_091_120 3
  pub still_three_lost : series_of 19_013_440_739 0 ≡ summed 19_003_169_682 3
  pub four_lost : series_of 19_013_440_740 0 ≡ summed 19_003_169_682 4
  -- BOD spent, at equal rates: 0.000345, 0.0568 and 0.841
  pub one_spent : series_of 5_931_641 5_931_641 ≡ summed 5_931_641 1
  pub two_spent : series_of 5_931_642 5_931_642 ≡ summed 5_931_640 2
  pub still_two_spent : series_of 975_570_225 975_570_225 ≡ summed 975_516_127 2
  pub three_spent : series_of 975_570_226 975_570_226 ≡ summed 975_516_127 3
  pub still_three_spent : series_of 14_447_486_980 14_447_486_980 ≡ summed 14_435_626_932 3
  pub four_spent : series_of 14_447_486_981 14_447_486_981 ≡ summed 14_435_626_932 4
  -- the longest step that check 11 passes
  pub longest_lost : series_of small 0 ≡ summed 68_585_433_600 4
  pub longest_spent : series_of small small ≡ summed 68_451_564_886 4

-- THEOREM: these series, a row each
pub series_rows : SeriesRows
unfolding product term_of next_terms terms_at term_at with_term sum_of count_from series_of
series_rows =
    record {
      nothing = refl;
      only_back = refl;
      one_lost = refl;
      two_lost = refl;
      still_two_lost = refl;
      three_lost = refl;
      still_three_lost = refl;
      four_lost = refl;
      one_spent = refl;
      two_spent = refl;
      still_two_spent = refl;
      three_spent = refl;
      still_three_spent = refl;
      four_spent = refl;
      longest_lost = refl;
      longest_spent = refl;
    }
