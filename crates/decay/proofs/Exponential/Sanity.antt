-- Sanity rows: the definitions of S and F, computed, against e^-x, x e^-x and k1 / (k2 - k1) (e^-x1 - e^-x2) as decimal fractions.
-- Each row holds to 10^-12. A wrong sign, factorial, exponent or case fails here.
use Prim.Native.Nat.{ℕ, ◌^◌}
use lib.Signed.{le_z_yes}
use Rattle.decay.specs.Fraction.{Fraction, of_ℕ, of_ℤ, ◌+ᶠ◌, -ᶠ◌, ◌*ᶠ◌, ◌÷◌, over, ∣◌∣ᶠ, distance, ◌≼◌}
use Rattle.decay.specs.Exact.{exponent, power, factorial, term, sum, S, F}

-- a is the decimal fraction n / 10^15 to within 10^-12
abbrev Decimal : Fraction → ℕ → Type 0
Decimal a n = distance a (of_ℕ n ÷ of_ℕ (10 ^ 15)) ≼ of_ℕ 1 ÷ of_ℕ (10 ^ 12)

pub record ExponentialRows : Type 0 where
  -- e^0, e^-1, e^-4
  pub at_0 : Decimal (S 40 (of_ℕ 0)) 1_000_000_000_000_000
  pub at_1 : Decimal (S 40 (of_ℕ 1)) 367_879_441_171_442
  pub at_4 : Decimal (S 40 (of_ℕ 4)) 18_315_638_888_734
  -- x = 2 at the foot for k = 3456: 2 e^-2
  pub equal : Decimal (F 40 3456 3456 100 2 1024) 270_670_566_473_225
  -- 3456 / 1 × (e^-2 - e^-(2 × 3457 / 3456)), and the rates exchanged
  pub near : Decimal (F 40 3456 3457 100 2 1024) 270_592_262_549_226
  pub near_exchanged : Decimal (F 40 3457 3456 100 2 1024) 270_670_558_921_492
  -- half way, x = 1: e^-1; and rates far apart, 1/2 × (e^-1 - e^-3)
  pub equal_half_way : Decimal (F 40 3456 3456 100 2 512) 367_879_441_171_442
  pub apart : Decimal (F 40 1728 5184 100 2 1024) 159_046_186_401_789

-- THEOREM: S and F, computed from their definitions, agree with e^-x to 10^-12
pub exponential_rows : ExponentialRows
unfolding of_ℤ ◌+ᶠ◌ -ᶠ◌ ◌*ᶠ◌ ◌÷◌ over ∣◌∣ᶠ distance exponent power factorial term sum S F
exponential_rows =
    record {
      at_0 = record { across = le_z_yes tt };
      at_1 = record { across = le_z_yes tt };
      at_4 = record { across = le_z_yes tt };
      equal = record { across = le_z_yes tt };
      near = record { across = le_z_yes tt };
      near_exchanged = record { across = le_z_yes tt };
      equal_half_way = record { across = le_z_yes tt };
      apart = record { across = le_z_yes tt };
    }
