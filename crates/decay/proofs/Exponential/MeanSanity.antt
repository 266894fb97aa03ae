-- Sanity rows: the means of S and F over a reach, computed from the definitions by term-by-term integrals, as decimal fractions.
-- With M(x) = (1 - e^-x) / x they are M(x), (1 - (1 + x) e^-x) / x for equal rates, and k1 / (k2 - k1) (M(x1) - M(x2)) otherwise.
-- Each row holds to 10^-12. A wrong sign, divisor, power or case fails here.
use Prim.Native.Nat.{ℕ, ◌^◌}
use lib.Signed.{le_z_yes}
use Rattle.decay.specs.Fraction.{Fraction, of_ℕ, of_ℤ, ◌+ᶠ◌, -ᶠ◌, ◌*ᶠ◌, ◌÷◌, over, ∣◌∣ᶠ, distance, ◌≼◌}
use Rattle.decay.specs.Exact.{exponent, power, factorial, term, sum}
use Rattle.decay.specs.Integral.{value_at, integral, mean_of, constant, times_time, series_terms, share_terms, mean_s, mean_f}

-- a is the decimal fraction n / 10^15 to within 10^-12
abbrev Decimal : Fraction → ℕ → Type 0
Decimal a n = distance a (of_ℕ n ÷ of_ℕ (10 ^ 15)) ≼ of_ℕ 1 ÷ of_ℕ (10 ^ 12)

pub record MeanExponentialRows : Type 0 where
  -- of 1 at all times, and of the time itself, which is that of the middle
  pub of_one : Decimal (mean_of 3 (constant (of_ℕ 1))) 1_000_000_000_000_000
  pub of_time : Decimal (mean_of 3 (times_time (constant (of_ℕ 1)))) 512_000_000_000_000_000
  -- of S, with x = 0, 1, 4 at the foot: 1, 1 - e^-1, (1 - e^-4) / 4
  pub at_0 : Decimal (mean_s 40 0 100 2) 1_000_000_000_000_000
  pub at_1 : Decimal (mean_s 40 1728 100 2) 632_120_558_828_558
  pub at_4 : Decimal (mean_s 40 6912 100 2) 245_421_090_277_816
  -- of F for equal rates, with x = 1, 2 at the foot: 1 - 2 / e, (1 - 3 e^-2) / 2
  pub equal_1 : Decimal (mean_f 40 1728 1728 100 2) 264_241_117_657_115
  pub equal_2 : Decimal (mean_f 40 3456 3456 100 2) 296_997_075_145_081
  -- rates far apart, 1/2 × (M(1) - M(3)), exchanged, and near one another, 3456 / 1 × (M(2) - M(2 × 3457 / 3456))
  pub apart : Decimal (mean_f 40 1728 5184 100 2) 157_691_457_475_589
  pub apart_exchanged : Decimal (mean_f 40 5184 1728 100 2) 473_074_372_426_768
  pub near : Decimal (mean_f 40 3456 3457 100 2) 296_950_303_986_714
  -- without aeration all that is lost has turned: 1 - M(1)
  pub still : Decimal (mean_f 40 1728 0 100 2) 367_879_441_171_442

-- THEOREM: the means of S and F, computed from their definitions, agree with those of e^-x to 10^-12
pub mean_exponential_rows : MeanExponentialRows
unfolding of_ℤ ◌+ᶠ◌ -ᶠ◌ ◌*ᶠ◌ ◌÷◌ over ∣◌∣ᶠ distance exponent power factorial term sum value_at integral mean_of constant times_time series_terms share_terms
mean_exponential_rows =
    record {
      of_one = record { across = le_z_yes tt };
      of_time = record { across = le_z_yes tt };
      at_0 = record { across = le_z_yes tt };
      at_1 = record { across = le_z_yes tt };
      at_4 = record { across = le_z_yes tt };
      equal_1 = record { across = le_z_yes tt };
      equal_2 = record { across = le_z_yes tt };
      apart = record { across = le_z_yes tt };
      apart_exchanged = record { across = le_z_yes tt };
      near = record { across = le_z_yes tt };
      still = record { across = le_z_yes tt };
    }
